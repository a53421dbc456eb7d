-- What a look-up of an account says: a valid entry is the account's own, the account is below A and its entry is fit; a refusal is the check's.
-- Assumes nothing.
use Rattle.std.proofs.Common.{ℕ, ◌≡◌, sym, ◌∙◌, true, false, List, arith}
use Rattle.refusal.specs.declared.Refusal.{Refusal}
use Rattle.refusal.specs.declared.Refusal.TheVariants.{Invalid, NoSegment}
use Rattle.refusal.proofs.Checks.{by_check, need_on, need_stop, need_last, need_refused, need_then, need_pass}
use Rattle.snapshot.specs.Accounts.{known, entry_of, entry_valid}
use Rattle.snapshot.specs.Lookup.{account_check, look_up}
use Rattle.snapshot.specs.declared.accounts.Account.{Account}
use Rattle.snapshot.specs.declared.accounts.AccountEntry.{AccountEntry}
use Rattle.std.specs.Prelude.{Err, Ok}

-- what a look-up that finds an entry has shown
pub record LookupFacts (s : List ℕ) (a : Account) (e : AccountEntry) : Type 0 where
  pub known : known s a ≡ true
  pub valid : entry_valid s a ≡ true
  pub entry : e ≡ entry_of s a

module _ (s : List ℕ) (a : Account) where
  -- an account that passes is below A, and its entry is fit
  pub account_facts : account_check s a ≡ Ok tt → (known s a ≡ true) × (entry_valid s a ≡ true)
  unfolding account_check
  account_facts e = let t = need_then _ _ _ e in (t.0, need_pass _ _ t.1)

  -- an account below A with a fit entry passes
  pub account_passes : known s a ≡ true → entry_valid s a ≡ true → account_check s a ≡ Ok tt
  unfolding account_check
  account_passes k v = need_on (known s a) _ _ k ∙ need_last (entry_valid s a) _ v

  -- one that is not below A is refused
  pub account_unknown : known s a ≡ false → account_check s a ≡ Err NoSegment
  unfolding account_check
  account_unknown k = need_stop (known s a) _ _ k

  -- so is one whose entry is not fit
  pub account_invalid : known s a ≡ true → entry_valid s a ≡ false → account_check s a ≡ Err Invalid
  unfolding account_check
  account_invalid k v = need_on (known s a) _ _ k ∙ need_refused (entry_valid s a) _ v

  -- a check that passes finds the entry
  pub passed_found : account_check s a ≡ Ok tt → look_up s a ≡ Ok (entry_of s a)
  unfolding look_up
  passed_found e = rw e

  -- one that stops gives its refusal
  pub stopped_refused : {r : Refusal} → account_check s a ≡ Err r → look_up s a ≡ Err r
  unfolding look_up
  stopped_refused e = rw e

  -- an entry that is found
  pub found_facts : {e : AccountEntry} → look_up s a ≡ Ok e → LookupFacts s a e
  found_facts {e} f =
      by_check (account_check s a)
      (λ p.
      let g : Ok e ≡ Ok (entry_of s a) = sym f ∙ passed_found p in
      record { known = (account_facts p).0; valid = (account_facts p).1; entry = cc })
      (λ r p.
      let g : Ok e ≡ Err r = sym f ∙ stopped_refused p in
      let z : ◌≡◌ {A = ℕ} 0 1 = cc in
      absurd (omega arith))

  -- an account that is refused
  pub refused_stopped : {r : Refusal} → look_up s a ≡ Err r → account_check s a ≡ Err r
  refused_stopped {r} f =
      by_check (account_check s a)
      (λ p.
      let g : Err r ≡ Ok (entry_of s a) = sym f ∙ passed_found p in
      let z : ◌≡◌ {A = ℕ} 0 1 = cc in
      absurd (omega arith))
      (λ t p. let g : Err r ≡ Err t = sym f ∙ stopped_refused p in let e : r ≡ t = cc in rw e p)
