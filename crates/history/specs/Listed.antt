-- Document 02, "Seven": "Which pages are listed, and their bytes, don't change." The list of a history does not depend on which free frame a copy
-- takes. Assumes nothing.
use Rattle.std.specs.Prelude.{ℕ, ◌≤◌, ◌≡◌, true, List, ◌∷◌, length}
use Rattle.layout.specs.List.{list_total}
use Rattle.control.specs.Buffers.{Buffers}
use Rattle.invoke.specs.declared.begin.Start.{Start}
use Rattle.changes.specs.List.{change_list_out}
use Rattle.hekthumar.specs.Steps.{Call, begin}
use Rattle.history.specs.Calls.{accepted, run}
use Rattle.history.specs.Replay.{started, replay, feed, touched_keys}

-- the bytes of the list over these buffers
abbrev pub listed : List ℕ → Buffers → List ℕ → List ℕ
listed s b out = change_list_out s b.control b.pool out

-- the same calls, over working buffers with as many frames or not, whose frames are taken in whichever order: where the same calls are accepted, the
-- lists are the same
abbrev pub ListedAlike : Type 0
ListedAlike =
    (s : List ℕ) (b b' : Buffers) (x : Start) (ks : List Call) → accepted s b (begin x) ≡ true → accepted s b' (begin x) ≡ true
    → feed s b (begin x ∷ ks) ≡ feed s b' (begin x ∷ ks)
    → (out : List ℕ) → list_total (length (touched_keys (replay s (started s) (feed s b (begin x ∷ ks))))) ≤ length out
    → listed s (run s b (begin x ∷ ks)) out ≡ listed s (run s b' (begin x ∷ ks)) out
