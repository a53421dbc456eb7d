-- Rules: "Begin, call, return, resize": an accepted begin gives the edition that it takes; a call and a return keep it. Assumes nothing.
use Rattle.std.specs.Prelude.{ℕ, ◌≡◌, List, length, Ok}
use Rattle.snapshot.specs.declared.accounts.Account.{Account}
use Rattle.control.specs.Control.{edition}
use Rattle.invoke.specs.Invoke.{begin_check, begin_control, call_control, return_control}
use Rattle.invoke.specs.declared.begin.Start.{Start}

-- after an accepted begin the control block has the edition that was asked for
abbrev pub BeginEdition : Type 0
BeginEdition = (s c p : List ℕ) (x : Start) → begin_check s (length c) (length p) x ≡ Ok tt → edition (begin_control s c p x) ≡ x.edition

-- a call keeps it, accepted or refused, whatever the buffers hold
abbrev pub CallEdition : Type 0
CallEdition = (s c p : List ℕ) (a : Account) (registers : List ℕ) → edition (call_control s c p a registers) ≡ edition c

-- so does a return
abbrev pub ReturnEdition : Type 0
ReturnEdition = (s c p out : List ℕ) → edition (return_control s c p out) ≡ edition c
