-- Document 01, "Numbers given back": "Every number but 0 changes nothing". What a refused call leaves, as statements over all calls.
-- Assumes nothing.
use Rattle.std.specs.Prelude.{ℕ, ◌≡◌, false, List, [], nat_eq}
use Rattle.refusal.specs.Numbers.{done}
use Rattle.snapshot.specs.declared.accounts.Account.{Account}
use Rattle.control.specs.Buffers.{Buffers}
use Rattle.apply.specs.Apply.{apply_number, apply_data}
use Rattle.records.specs.Calls.{blank}
use Rattle.hekthumar.specs.Steps.{Call, begin, translation, load, store, fetch, load_span, store_span, read_record, write_record, call, return, resize, change_list, page_view, Step, step_of}
use Rattle.history.specs.Calls.{accepted}

-- what is left of the lent buffer of a call that is refused: its bytes as they were given; of a record zeros; there is none, or an empty
-- view, otherwise
unfoldable pub given : Call → List ℕ
given (begin x) = []
given (translation kind a n) = []
given (load a n) = []
given (store a n v) = []
given (fetch a n) = []
given (load_span a out) = out
given (store_span a bytes) = []
given (read_record l a) = blank l
given (write_record l a fields) = []
given (call a registers) = []
given (return registers) = registers
given (resize region n) = []
given (change_list out) = out
given (page_view a q) = []

-- a step that changes nothing
pub record Unchanged (b : Buffers) (k : Call) (x : Step) : Type 0 where
  pub after : x.after ≡ b
  pub value : x.answer.value ≡ 0
  pub bytes : x.answer.bytes ≡ given k

-- a refused call of any kind changes nothing
unfoldable pub RefusedKeeps : Type 0
RefusedKeeps = (s : List ℕ) (b : Buffers) (k : Call) → accepted s b k ≡ false → Unchanged b k (step_of s b k)

-- nor does a refused application of a list
unfoldable pub ApplyKeeps : Type 0
ApplyKeeps = (l : List ℕ) (a : Account) (d : List ℕ) → nat_eq (apply_number l a d) done ≡ false → apply_data l a d ≡ d
