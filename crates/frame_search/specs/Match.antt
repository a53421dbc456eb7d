-- How the code searches the frame table: an entry as one number, some of whose bits are wanted. These serve the inner functions; who claims a
-- page is said in `Table` of `frames`. Assumes nothing.
use Rattle.std.specs.Prelude.{◌≡◌, ℕ, ◌+◌, ◌-◌, ◌*◌, ◌<◌, ◌≤◌, Bool, false, List, ◌==◌, bit_and}
use Rattle.layout.specs.Control.{usage_copy}
use Rattle.words.specs.Words.{word_at}
use Rattle.choice.specs.Search.{from_top, below}
use Rattle.frames.specs.Table.{frame_entry_at}
use Rattle.frames.specs.declared.claim.End.{End}
use Rattle.frames.specs.declared.claim.End.TheVariants.{Lowest, Highest}

-- how many entries are asked at once
abbrev pub group_size : ℕ
group_size = 16

-- how many entries are looked at one by one before the groups, where a key is searched
abbrev pub first_keyed : ℕ
first_keyed = 16

-- the bits of entry i under the mask are those wanted
unfoldable pub matches : List ℕ → ℕ → ℕ → ℕ → Bool
matches c mask wanted i = bit_and (word_at 8 c (frame_entry_at i)) mask == wanted

-- the test passes at none of the n indices from i on
abbrev pub NoneOf : (ℕ → Bool) → ℕ → ℕ → Type 0
NoneOf f i n = (j : ℕ) → i ≤ j → j < i + n → f j ≡ false

-- the bits of the use byte
abbrev pub usage_bits : ℕ
usage_bits = 255

-- those of the use byte, the account and the page
abbrev pub copy_bits : ℕ
copy_bits = 255 + 65536 * 4294967295

-- entry i is a copy with the key, which has the page above the account
abbrev pub copy_of : List ℕ → ℕ → ℕ → Bool
copy_of c key i = matches c copy_bits (usage_copy + 65536 * key) i

-- those of the use byte and the page
abbrev pub page_bits : ℕ
page_bits = 255 + 4294967296 * 65535

-- the test of n entries, of which each goes by how far it is from that end of the table
abbrev pub from_end : End → (ℕ → Bool) → ℕ → ℕ → Bool
from_end Lowest f n = f
from_end Highest f n = from_top f n

-- the entry that is so far from that end; n where that is how far
abbrev pub entry_from : End → ℕ → ℕ → ℕ
entry_from Lowest k n = k
entry_from Highest k n = below n k

-- where the group ends of which the nearest entry is so far from that end
abbrev pub group_end : End → ℕ → ℕ → ℕ
group_end Lowest k n = k + group_size
group_end Highest k n = n - k
