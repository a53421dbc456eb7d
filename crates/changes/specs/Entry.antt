-- Document 01, "Change list and page view", with document 02, "Eight": an entry of the change list. Assumes nothing.
use Rattle.std.specs.Prelude.{ℕ, ◌+◌, List, ◌++◌}
use Rattle.layout.specs.List.{change_at}
use Rattle.words.specs.Words.{word_at, word_bytes}
use Rattle.pages.specs.Pages.{live}
use Rattle.changes.specs.Keys.{key_account, key_page}
use Rattle.changes.specs.declared.entry.Change.{Change}

-- "u16, u16, u32 live bytes": "the same fields, then that u16, then a zero u16"
unfoldable pub change_bytes : Change → List ℕ
change_bytes e =
    word_bytes 2 e.account.0 ++ (word_bytes 2 e.page.0 ++ (word_bytes 4 e.live ++ (word_bytes 2 e.depth ++ word_bytes 2 e.zero)))

-- the entry of a key, with the depth that is told of its page: "live bytes, min(4,096, length−4,096·page)"
abbrev pub change_of : List ℕ → (ℕ → ℕ) → ℕ → Change
change_of s depth k =
    record {
      account = key_account k;
      page = key_page k;
      live = live s (key_account k) (key_page k);
      depth = depth k;
      zero = 0;
    }

-- entry i of a list
abbrev pub change_in : List ℕ → ℕ → Change
change_in l i =
    record {
      account = record { 0 = word_at 2 l (change_at i) };
      page = record { 0 = word_at 2 l (change_at i + 2) };
      live = word_at 4 l (change_at i + 4);
      depth = word_at 2 l (change_at i + 8);
      zero = word_at 2 l (change_at i + 10);
    }
