-- Both regions are right in a fresh control block: it has no pages and no frame in use. Assumes nothing.
use Rattle.std.proofs.Common.{ℕ, ◌≡◌, sym, ◌∙◌, true, arith}
use Rattle.control.specs.Control.{invocations, size_of}
use Rattle.control.specs.declared.shadow.Region.{Region}
use Rattle.control.specs.declared.shadow.Region.TheVariants.{Stack}
use Rattle.frames.specs.Table.{frame_entry_of}
use Rattle.invoke.specs.Invoke.{room_valid, fresh}
use Rattle.invoke.specs.declared.begin.Start.{Start}
use Rattle.invoke.proofs.Accepted.{StartFits}
use Rattle.invoke.proofs.Fresh.{fresh-invocations, fresh_size, fresh_entry}
use Rattle.regions.proofs.Pages.{usage_some}
use Rattle.lifecycle.specs.Regions.{Rights}
use Rattle.lifecycle.proofs.Moves.{usage_same}

module _ (size pool : ℕ) (x : Start) (valid : room_valid size pool ≡ true) (fits : StartFits x) where
  -- no region has pages
  none : (r : Region) → size_of (fresh size x) r ≡ 0
  none = fresh_size size pool x valid fits

  -- no entry is in use
  fresh_usage : (i : ℕ) → (frame_entry_of (fresh size x) i).usage ≡ 0
  fresh_usage i = usage_same (fresh_entry size pool x valid fits i)

  -- both regions are right
  pub fresh_right : Rights (fresh size x)
  fresh_right =
      let live : invocations (fresh size x) ≡ 1 = fresh-invocations size pool x valid fits in
      record {
        held = λ r.
            record {
              most = omega (arith, none r);
              held = λ k l. absurd (omega (arith, none r));
              only = λ i l u. absurd (usage_some r (sym u ∙ fresh_usage i));
            };
        tagged =
            record {
              rise = λ i j some l few. let e : i ≡ j = omega arith in rw e (omega arith);
              tag = λ k i l. absurd (omega (arith, none Stack));
            };
        few = λ i l. omega (arith, fresh_usage i);
      }
