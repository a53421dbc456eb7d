-- Both regions stay right where a copy takes a free frame. Assumes nothing.
use Rattle.std.proofs.Common.{ℕ, ◌<◌, ◌≡◌, sym, ap, ◌∙◌, true, inl, inr, List, arith}
use Rattle.std.proofs.Math.Decide.{ℕ_discrete}
use Rattle.layout.specs.Control.{usage_copy}
use Rattle.control.specs.Control.{frames, pages_of, control_valid}
use Rattle.control.specs.declared.shadow.Region.{Region}
use Rattle.control.specs.declared.shadow.Region.TheVariants.{Stack}
use Rattle.control.specs.declared.shadow.Invocation.{Invocation}
use Rattle.control.proofs.Facts.{ControlFacts, control_facts}
use Rattle.frames.specs.Table.{frame_entry_of, put_frame_entry, is_free}
use Rattle.frames.specs.declared.table.FrameEntry.{FrameEntry}
use Rattle.frames.proofs.Entries.{EntryRange, entry_same, entry_other}
use Rattle.frames.proofs.OnlyTable.{OnlyTable, table_put, table_frames, table_invocations, table_invocation, table_current}
use Rattle.regions.proofs.Pages.{usage_no_copy, entry_inside}
use Rattle.lifecycle.specs.Regions.{Rights}
use Rattle.lifecycle.proofs.Moves.{usage_same, free_foreign, Same, same_held}
use Rattle.lifecycle.proofs.Tagged.{Repeats, no_further, repeats_tagged}

module _ (c : List ℕ) (f : ℕ) (e : FrameEntry) (valid : control_valid c ≡ true) (below : f < frames c) (free : is_free c f ≡ true)
    (range : EntryRange e) (copy : e.usage ≡ usage_copy) where
  -- the header, by name
  facts : ControlFacts c
  facts = control_facts c valid

  -- nothing but the frame table changes
  only : OnlyTable c (put_frame_entry c f e)
  only = table_put c f e

  -- the entry's use is the copy's
  copied_usage : (frame_entry_of (put_frame_entry c f e) f).usage ≡ usage_copy
  copied_usage = usage_same (entry_same c f e range (entry_inside c f valid below)) ∙ copy

  -- a region's size and entries stay
  copied_same : (r : Region) → Same c (put_frame_entry c f e) r
  copied_same r =
      record {
        count = table_frames only;
        size = ap (λ (x : Invocation). pages_of x r) (table_current only facts.few_live);
        entry = λ i l.
            elim (ℕ_discrete i f) [
              | yes z ↦ inr (rw z (record { was = free_foreign c f r free; is = λ u. usage_no_copy r (sym u ∙ copied_usage) }))
              | no z ↦ inl (entry_other c f e i z)
            ];
      }

  -- so do all its sizes
  copied_repeats : (r : Region) → Repeats c (put_frame_entry c f e) r
  copied_repeats r =
      no_further facts.some_live (table_invocations only)
      (λ j l. ap (λ (x : Invocation). pages_of x r) (table_invocation only j (omega (arith, facts.few_live))))

  -- both regions stay right
  pub copied_right : Rights c → Rights (put_frame_entry c f e)
  copied_right h =
      record {
        held = λ r. same_held (copied_same r) (h.held r);
        tagged = repeats_tagged (copied_repeats Stack) (copied_same Stack) h.tagged;
        few = λ i l.
            elim (ℕ_discrete i f) [
              | yes z ↦ rw z (omega (arith, copied_usage))
              | no z ↦ omega (arith, usage_same (entry_other c f e i z), h.few i (rw (table_frames only) at l))
            ];
      }
