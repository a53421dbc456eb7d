use Rattle.frame_search.proofs.finding.free_frame.Goals as goal
use Rattle.std.proofs.Common.{◌≡◌, ℕ, ◌-◌, List, ◌∙◌}
use Rattle.choice.specs.Search.{seek, from_top, highest}
use Rattle.control.specs.Control.{frames}
use Rattle.frames.specs.Table.{is_free, found_in, free_frame}
use Rattle.frames.specs.declared.claim.End.{End}
use Rattle.frames.specs.declared.claim.End.TheVariants.{Lowest, Highest}
use Rattle.frame_search.specs.Match.{from_end, entry_from}
use Rattle.frame_search.proofs.Loops.{search_start}
use Rattle.std.specs.Prelude.{Option}
use Rattle.pages.specs.declared.Frame.{Frame}

-- `frame_search::finding::free_frame` meets its contract: the entries that are searched are all that the table has. Assumes nothing.
-- the search from that end on is the whole search
found : (c : List ℕ) (end : End) {n k i : ℕ} {x : Option Frame} → n ≡ frames c → k ≡ seek (from_end end (is_free c) n) 0 (n - 0) → i ≡ entry_from end k n → x ≡ found_in n i
    → x ≡ free_frame end c
unfolding free_frame highest
found c Lowest e f g h = h ∙ rw (g, f, e, search_start (is_free c) (frames c))
found c Highest e f g h = h ∙ rw (g, f, e, search_start (from_top (is_free c) (frames c)) (frames c))

pub returns : goal.returns
returns c =
    found _ _ c.frame_count-frames.ensures.0 c.next_free-k.ensures c.entry_from.ensures c.as_found.ensures
