-- Document 01, "The replay": plain copies and touched pages; with document 02, "Eight", how deep each was first touched. Assumes nothing.
use Rattle.std.specs.Prelude.{ℕ, suc, ◌*◌, ◌/◌, ◌-◌, Bool, false, not, List, [], ◌∷◌, nat_eq}
use Rattle.layout.specs.Page.{page_size}
use Rattle.words.specs.Words.{bytes_at, splice}
use Rattle.choice.specs.Search.{picked}
use Rattle.choice.specs.Choice.{pick, both, either}
use Rattle.address.specs.Address.{type_of, index_of, offset_of}
use Rattle.snapshot.specs.Accounts.{original}
use Rattle.control.specs.Buffers.{Buffers}
use Rattle.pages.specs.Pages.{live}
use Rattle.changes.specs.Keys.{key_of, key_account, key_page, key_limit}
use Rattle.changes.specs.Entry.{change_of}
use Rattle.changes.specs.List.{list_bytes, padded}
use Rattle.hekthumar.specs.Steps.{Call, step_of}
use Rattle.history.specs.Calls.{accepted, Effect, starts, stores, deepens, comes_back, other, effect}

-- "It keeps, for each account with a fit entry, a plain copy of its data, apart from any other account's, and a set of touched pages
-- (account, offset/4,096)." A copy is kept for every number; those of other accounts concern no claim. The set is a test on keys. "Eight": it
-- counts the depth, "the accepted calls since that begin less the accepted returns", and keeps of each page in the set "the depth at the first
-- accepted store or span store to that page since the latest accepted begin".
pub record Replay : Type 0 where
  pub plain : ℕ → List ℕ
  pub touched : ℕ → Bool
  pub depth : ℕ
  pub first : ℕ → ℕ

-- "An accepted begin sets every plain copy to the ground's bytes and empties the set."
abbrev pub started : List ℕ → Replay
started s = record { plain = λ a. original s (record { 0 = a }); touched = λ k. false; depth = 0; first = λ k. 0 }

-- "in type 3"
abbrev pub in_data : ℕ → Bool
in_data a = nat_eq (type_of a) 3

-- "writes its bytes to the plain copy that the index names, from the offset on; its page joins the set, even if no byte changes", with the depth
-- as it is then, if it was not there
unfoldable pub stored : Replay → ℕ → List ℕ → Replay
stored r a bytes =
    record {
      plain = λ i. pick (nat_eq i (index_of a)) (splice (r.plain i) (offset_of a) bytes) (r.plain i);
      touched = λ k. either (nat_eq k (key_of (index_of a) (offset_of a / page_size))) (r.touched k);
      depth = r.depth;
      first = λ k. pick (both (nat_eq k (key_of (index_of a) (offset_of a / page_size))) (not (r.touched k))) r.depth (r.first k);
    }

-- the replay at another depth
abbrev pub at_depth : Replay → ℕ → Replay
at_depth r d = record { plain = r.plain; touched = r.touched; depth = d; first = r.first }

-- what an accepted call does to it: a store counts "in type 3", a call and a return change the depth; "Every other call .. leaves all as it is."
unfoldable pub replay_effect : List ℕ → Replay → Effect → Replay
replay_effect s r starts = started s
replay_effect s r (stores a bytes) = pick (in_data a) (stored r a bytes) r
replay_effect s r deepens = at_depth r (suc r.depth)
replay_effect s r comes_back = at_depth r (r.depth - 1)
replay_effect s r other = r

-- what the replay is fed of a call: "each call's other arguments except ledger and pool, and whether the call was accepted"
pub record Fed : Type 0 where
  pub asked : Call
  pub ok : Bool

-- one call fed; "and every refused one, leaves all as it is"
abbrev pub replay_step : List ℕ → Replay → Fed → Replay
replay_step s r f = pick f.ok (replay_effect s r (effect f.asked)) r

-- the replay of a list: "fed the ground, each call's other arguments .., and whether the call was accepted; nothing else"
unfoldable pub replay : List ℕ → Replay → List Fed → Replay
replay s r [] = r
replay s r (f ∷ fs) = replay s (replay_step s r f) fs

-- a list of calls as the replay is fed it
unfoldable pub feed : List ℕ → Buffers → List Call → List Fed
feed s b [] = []
feed s b (k ∷ ks) = record { asked = k; ok = accepted s b k } ∷ feed s (step_of s b k).after ks

-- the keys of the set, in ascending order
unfoldable pub touched_keys : Replay → List ℕ
touched_keys r = picked r.touched 0 key_limit

-- "for each the plain copy's live bytes, then zeros"
unfoldable pub plain_page : List ℕ → Replay → ℕ → List ℕ
plain_page s r k =
    padded (live s (key_account k) (key_page k)) (bytes_at page_size (r.plain (key_account k).0) (page_size * (key_page k).0))

-- "Its bytes are those laid out above: an entry for each page of the set and no other, and for each the plain copy's live bytes"; in the entry
-- "that u16 is the depth at the first accepted store or span store to that page"
unfoldable pub expected_list : List ℕ → Replay → List ℕ
expected_list s r = list_bytes (change_of s r.first) (plain_page s r) (touched_keys r)
