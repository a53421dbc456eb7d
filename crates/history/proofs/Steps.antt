-- Each of the fourteen calls keeps the invariant. Assumes nothing.
use Prim.Native.Nat.{ℕ}
use mathlib.Core.Path.{refl}
use mathlib.Core.List.{List}
use Rattle.control.specs.Buffers.{Buffers}
use Rattle.hekthumar.specs.Steps.{Call, begin, translation, load, store, fetch, load_span, store_span, read_record, write_record, call, return, resize, change_list, page_view, step_of}
use Rattle.history.specs.Calls.{effect}
use Rattle.history.specs.Replay.{Replay, replay_effect}
use Rattle.history.proofs.Good.{Good}
use Rattle.history.proofs.Others.{GoodAfter, keep_read}
use Rattle.history.proofs.Begun.{keep_begin}
use Rattle.history.proofs.Called.{keep_call, keep_return}
use Rattle.history.proofs.Resized.{keep_resize}
use Rattle.history.proofs.StoreCalls.{keep_store_call, keep_store_span_call, keep_write_record}

-- a call that only reads leaves both the buffers and the replay
pub keep_step : (s : List ℕ) (b : Buffers) (r : Replay) → Good s b r → (k : Call) → GoodAfter s b r k
unfolding step_of effect replay_effect
keep_step s b r g (begin x) = keep_begin g x
keep_step s b r g (translation kind a n) = keep_read (translation kind a n) refl refl g
keep_step s b r g (load a n) = keep_read (load a n) refl refl g
keep_step s b r g (store a n v) = keep_store_call g a n v
keep_step s b r g (fetch a n) = keep_read (fetch a n) refl refl g
keep_step s b r g (load_span a out) = keep_read (load_span a out) refl refl g
keep_step s b r g (store_span a bytes) = keep_store_span_call g a bytes
keep_step s b r g (read_record l a) = keep_read (read_record l a) refl refl g
keep_step s b r g (write_record l a fields) = keep_write_record g l a fields
keep_step s b r g (call a registers) = keep_call g a registers
keep_step s b r g (return registers) = keep_return g registers
keep_step s b r g (resize region n) = keep_resize g region n
keep_step s b r g (change_list out) = keep_read (change_list out) refl refl g
keep_step s b r g (page_view a q) = keep_read (page_view a q) refl refl g
