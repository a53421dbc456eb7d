-- Document 01, "Addresses and segments": "The rules by type stand in one constant table", for both editions of document 02, "Six". Assumes
-- nothing.
use Rattle.std.specs.Prelude.{ℕ, Bool, true, false, not, Option, Some, None, List, [], ◌∷◌, nat_lt, nat_eq}
use Rattle.layout.specs.Control.{newer}
use Rattle.choice.specs.Choice.{pick, both, either}
use Rattle.segments.specs.Kinds.{is_store, is_fetch}
use Rattle.segments.specs.declared.rules.IndexRule.{IndexRule}
use Rattle.segments.specs.declared.rules.IndexRule.TheVariants.{Exactly, AnyAccount}
use Rattle.segments.specs.declared.rules.Editions.{Editions}
use Rattle.segments.specs.declared.rules.Editions.TheVariants.{Both, Newer}
use Rattle.segments.specs.declared.rules.Presence.{Presence}
use Rattle.segments.specs.declared.rules.Presence.TheVariants.{Transaction, Shadow, Program, Context, Metadata, Data, Stack, Heap}
use Rattle.segments.specs.declared.rules.FetchRule.{FetchRule}
use Rattle.segments.specs.declared.rules.FetchRule.TheVariants.{Nowhere, Everywhere, Running}
use Rattle.segments.specs.declared.rules.StoreRule.{StoreRule}
use Rattle.segments.specs.declared.rules.StoreRule.TheVariants.{Never, Owner, Tag}
use Rattle.segments.specs.declared.rules.Row.{Row}

-- a row of the table "Type | Index | Bytes present | Store", with a column for the editions that have it and one for where a fetch is allowed
abbrev pub row : ℕ → IndexRule → Editions → Presence → FetchRule → StoreRule → Row
row segment index editions presence fetch store =
    record { segment = segment; index = index; editions = editions; presence = presence; fetch = fetch; store = store }

-- the table, row by row: in the older edition "index 3 of type 0 is reserved .. and programs execute from their account data"
unfoldable pub rules : List Row
rules =
    row 0 (Exactly 1) Both Transaction Nowhere Never
    ∷ row 0 (Exactly 2) Both Shadow Nowhere Never
    ∷ row 0 (Exactly 3) Newer Program Everywhere Never
    ∷ row 0 (Exactly 4) Both Context Nowhere Never
    ∷ row 2 AnyAccount Both Metadata Nowhere Never
    ∷ row 3 AnyAccount Both Data Running Owner
    ∷ row 5 (Exactly 0) Both Stack Nowhere Tag
    ∷ row 7 (Exactly 0) Both Heap Nowhere Tag
    ∷ []

-- the column "Index": a number, or "account below A"
abbrev pub index_matches : IndexRule → ℕ → ℕ → Bool
index_matches (Exactly k) index count = nat_eq index k
index_matches AnyAccount index count = nat_lt index count

-- a row is that of a pair: its type, and an index that its rule takes
abbrev pub row_matches : Row → ℕ → ℕ → ℕ → Bool
row_matches r segment index count = both (nat_eq r.segment segment) (index_matches r.index index count)

-- the row of a pair: "Any other pair, also 0/0 and all of types 1, 4 and 6, is no segment."
unfoldable pub row_of : List Row → ℕ → ℕ → ℕ → Option Row
row_of [] segment index count = None
row_of (r ∷ rs) segment index count = pick (row_matches r segment index count) (Some r) (row_of rs segment index count)

-- the column of editions
abbrev pub edition_matches : Editions → ℕ → Bool
edition_matches Both edition = true
edition_matches Newer edition = nat_eq edition newer

-- a row that the edition does not have is no segment
abbrev pub in_edition : ℕ → Option Row → Option Row
in_edition edition None = None
in_edition edition (Some r) = pick (edition_matches r.editions edition) (Some r) None

-- the segment of a pair in an edition
unfoldable pub segment_of : ℕ → ℕ → ℕ → ℕ → Option Row
segment_of edition segment index count = in_edition edition (row_of rules segment index count)

-- the column for a fetch: "Fetch is allowed in 0/3 only", or in the older edition "in type 3 for the current program's account", which is what
-- `running` says of the account
abbrev pub fetchable : FetchRule → Bool → Bool
fetchable Nowhere running = false
fetchable Everywhere running = true
fetchable Running running = running

-- the column "Store", but for the tag, which is tested later; `owned` is "writable, and owned by the current program"
abbrev pub storable : StoreRule → Bool → Bool
storable Never owned = false
storable Owner owned = owned
storable Tag owned = true

-- "7 by the table's fixed, account and fetch rules"; "Loads are allowed in every row."
unfoldable pub permitted : ℕ → FetchRule → StoreRule → Bool → Bool → Bool
permitted kind fetch store running owned =
    both (either (not (is_fetch kind)) (fetchable fetch running)) (either (not (is_store kind)) (storable store owned))
