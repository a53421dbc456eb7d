-- Demand 3 and the frame count rule, as statements. Assumes nothing.
use Rattle.std.specs.Prelude.{ℕ, ◌+◌, ◌≤◌, ◌≡◌, true, List, [], ◌∷◌, length}
use Rattle.layout.specs.List.{list_total}
use Rattle.words.specs.Words.{word_at, bytes_at, splice}
use Rattle.refusal.specs.Numbers.{done}
use Rattle.address.specs.Address.{index_of, offset_of}
use Rattle.snapshot.specs.Accounts.{known, entry_valid, original}
use Rattle.snapshot.specs.declared.accounts.Account.{Account}
use Rattle.control.specs.Control.{current}
use Rattle.control.specs.Buffers.{Buffers}
use Rattle.invoke.specs.declared.begin.Start.{Start}
use Rattle.changes.specs.List.{change_list_number, change_list_out}
use Rattle.apply.specs.Apply.{apply_number, apply_data}
use Rattle.records.specs.Layout.{record_length}
use Rattle.lifecycle.specs.Regions.{frames_in_use}
use Rattle.hekthumar.specs.Steps.{Call, begin, translation, load, store, fetch, load_span, store_span, read_record, write_record, call, return, resize, change_list, page_view, Answer, step_of}
use Rattle.history.specs.Calls.{accepted, run}
use Rattle.history.specs.Replay.{Replay, started, in_data, replay_step, replay, feed, touched_keys, expected_list}

-- "Every accepted load or span load in type 3 gave the bytes that the plain copy its index names held there at that call, a load as
-- their little-endian number." A record's read is a span load of as many bytes as it has.
unfoldable pub LoadRight : Replay → Call → Answer → Type 0
LoadRight r (begin p) x = Unit {0}
LoadRight r (translation kind a n) x = Unit {0}
LoadRight r (load a n) x = x.number ≡ done → in_data a ≡ true → x.value ≡ word_at n (r.plain (index_of a)) (offset_of a)
LoadRight r (store a n v) x = Unit {0}
LoadRight r (fetch a n) x = Unit {0}
LoadRight r (load_span a out) x =
    x.number ≡ done → in_data a ≡ true → x.bytes ≡ bytes_at (length out) (r.plain (index_of a)) (offset_of a)
LoadRight r (store_span a bytes) x = Unit {0}
LoadRight r (read_record l a) x =
    x.number ≡ done → in_data a ≡ true → x.bytes ≡ bytes_at (record_length l.widths) (r.plain (index_of a)) (offset_of a)
LoadRight r (write_record l a fields) x = Unit {0}
LoadRight r (call a registers) x = Unit {0}
LoadRight r (return registers) x = Unit {0}
LoadRight r (resize region n) x = Unit {0}
LoadRight r (change_list out) x = Unit {0}
LoadRight r (page_view a q) x = Unit {0}

-- the same of every call of a list, each at the replay as it stood then
unfoldable pub LoadsRight : List ℕ → Buffers → Replay → List Call → Type 0
LoadsRight s b r [] = Unit {0}
LoadsRight s b r (k ∷ ks) =
    LoadRight r k (step_of s b k).answer
    × LoadsRight s (step_of s b k).after (replay_step s r (record { asked = k; ok = accepted s b k })) ks

-- "After the history the change list, given at least its total, answers 0. Its bytes are those laid out above"; the bytes past the
-- total stay
pub record ListRight (s : List ℕ) (b : Buffers) (r : Replay) (out : List ℕ) : Type 0 where
  pub number : change_list_number s b.control b.pool out ≡ done
  pub bytes : change_list_out s b.control b.pool out ≡ splice out 0 (expected_list s r)

-- "Applying it to the original data of an account with a fit entry answers 0 and leaves that plain copy."
pub record ApplyRight (s : List ℕ) (b : Buffers) (r : Replay) (out : List ℕ) (a : Account) : Type 0 where
  pub number : apply_number (change_list_out s b.control b.pool out) a (original s a) ≡ done
  pub «data» : apply_data (change_list_out s b.control b.pool out) a (original s a) ≡ r.plain a.0

-- what holds after a history that ends with these buffers and this replay: every lent buffer with room for the list is meant
pub record HistoryRight (s : List ℕ) (b : Buffers) (ks : List Call) : Type 0 where
  pub list : (out : List ℕ) → list_total (length (touched_keys (replay s (started s) (feed s b ks)))) ≤ length out
      → ListRight s (run s b ks) (replay s (started s) (feed s b ks)) out
  pub apply : (out : List ℕ) → list_total (length (touched_keys (replay s (started s) (feed s b ks)))) ≤ length out
      → (a : Account) → known s a ≡ true → entry_valid s a ≡ true
      → ApplyRight s (run s b ks) (replay s (started s) (feed s b ks)) out a
  pub loads : LoadsRight s b (started s) ks

-- demand 3, "a single claim about the whole history": for every snapshot, every control block and pool of any bytes, every history that
-- opens with an accepted begin
unfoldable pub DemandThree : Type 0
DemandThree =
    (s : List ℕ) (b : Buffers) (x : Start) (ks : List Call) → accepted s b (begin x) ≡ true → HistoryRight s b (begin x ∷ ks)

-- ---- the frame count rule

-- "After any calls from an accepted begin, .. frames in use number exactly the distinct account pages stored to plus stack pages plus
-- heap pages of frame D."
unfoldable pub FrameCountRule : Type 0
FrameCountRule =
    (s : List ℕ) (b : Buffers) (x : Start) (ks : List Call) → accepted s b (begin x) ≡ true
    → frames_in_use (run s b (begin x ∷ ks)).control
    ≡ length (touched_keys (replay s (started s) (feed s b (begin x ∷ ks))))
    + (current (run s b (begin x ∷ ks)).control).stack
    + (current (run s b (begin x ∷ ks)).control).heap
