-- `view::find_view` meets its contract: each refusal is the first test of `view_check` that fails; behind the look_up, the last test and
-- the view are the inner function's. Assumes nothing.
use Rattle.std.proofs.Common.{rules, ◌≡◌, true, ◌<◌, ℕ, ◌+◌, Bool, false, List, sym, ◌∙◌, get_or}
use Rattle.view.specs.View.{view_of_entry, view_of, view_check}
use Rattle.view.proofs.find_view.Goals as goal
use Rattle.words.proofs.Word.{word_fits}
use Rattle.refusal.specs.Checks.{need, ◌then◌}
use Rattle.refusal.specs.declared.Refusal.{Refusal}
use Rattle.refusal.specs.declared.Refusal.TheVariants.{Invalid}
use Rattle.snapshot.specs.Accounts.{entry_at, entry_of}
use Rattle.snapshot.specs.Lookup.{look_up}
use Rattle.snapshot.specs.declared.accounts.Account.{Account}
use Rattle.snapshot.specs.declared.accounts.AccountEntry.{AccountEntry}
use Rattle.snapshot.proofs.Told.{LookupFacts, found_facts, refused_stopped, account_passes}
use Rattle.control.specs.Control.{buffers_valid}
use Rattle.control.proofs.Facts.{BuffersFacts, buffers_facts}
use Rattle.pages.specs.declared.Page.{Page}
use Rattle.view.specs.declared.View.{View}
use Rattle.std.specs.Prelude.{Err, Ok, Result}

-- the buffers are valid
valid : (s c p : List ℕ) {b : Bool} → b ≡ buffers_valid s c p → b ≡ true → BuffersFacts s c p
valid s c p tested t = buffers_facts s c p (sym tested ∙ t)

-- an entry that is found
found : (s : List ℕ) (a : Account) {x : Result AccountEntry Refusal} {e : AccountEntry} → x ≡ look_up s a → x ≡ Ok e → LookupFacts s a e
found s a looked f = found_facts s a (sym looked ∙ f)

-- its data starts below 2^32
start_fits : (s : List ℕ) (a : Account) {e : AccountEntry} → LookupFacts s a e → ((k : ℕ) → get_or s k 0 < 256) → e.start < 4294967296
unfolding entry_of
start_fits s a f bytes = rw f.entry (word_fits 4 s (entry_at a + 8) bytes)

module _ (s c p : List ℕ) (a : Account) (q : Page) {b : Bool} (tested : b ≡ buffers_valid s c p) where
  -- the buffers are not valid
  invalid : b ≡ false → Err Invalid ≡ view_of s c p a q
  unfolding view_of view_check need ◌then◌
  invalid t = rw (← tested, t)

  module _ (t : b ≡ true) {x : Result AccountEntry Refusal} (looked : x ≡ look_up s a) where
    -- the account is refused
    refused : {r : Refusal} {v : Result View Refusal} → x ≡ Err r → v ≡ Err r → v ≡ view_of s c p a q
    unfolding view_of view_check need ◌then◌
    refused f g = rw (← tested, t, refused_stopped s a (sym looked ∙ f)) g

    -- it is not: the rest is the inner function's
    inner : {e : AccountEntry} {v : Result View Refusal} → x ≡ Ok e → v ≡ view_of_entry c a q e → v ≡ view_of s c p a q
    unfolding view_of view_check view_of_entry need ◌then◌
    inner {e} f g =
        let h : LookupFacts s a e = found s a looked f in
        g ∙ rw (← tested, t, account_passes s a h.known h.valid, h.entry)

pub returns-then-not-buffers_valid : goal.returns-then-not-buffers_valid
returns-then-not-buffers_valid c = invalid _ _ _ _ _ c.buffers_valid.ensures c.if-not-buffers_valid.true

pub look_up-requires : goal.look_up-requires
look_up-requires c = (valid _ _ _ c.buffers_valid.ensures c.if-not-buffers_valid.false).snapshot

pub view_in-requires : goal.view_in-requires
view_in-requires c =
    ((valid _ _ _ c.buffers_valid.ensures c.if-not-buffers_valid.false).control, start_fits _ _ (found _ _ c.look_up.ensures c.in_ok-e.was) (λ k. (c.type_inv.s k).fits))

pub returns : goal.returns
returns c =
    inner _ _ _ _ _ c.buffers_valid.ensures c.if-not-buffers_valid.false c.look_up.ensures c.in_ok-e.was c.view_in.ensures

pub returns-in_err-e : goal.returns-in_err-e
returns-in_err-e c =
    refused _ _ _ _ _ c.buffers_valid.ensures c.if-not-buffers_valid.false c.look_up.ensures c.in_err-e.was (search rules)
