-- Rules: "Begin, call, return, resize": the codes of the regions. Assumes nothing.
use Rattle.std.specs.Prelude.{ℕ, nat_eq, Result, Ok, Err}
use Rattle.layout.specs.Control.{usage_stack, usage_heap}
use Rattle.choice.specs.Choice.{pick}
use Rattle.refusal.specs.declared.Refusal.{Refusal}
use Rattle.refusal.specs.declared.Refusal.TheVariants.{BadRequest}
use Rattle.control.specs.declared.shadow.Region.{Region}
use Rattle.control.specs.declared.shadow.Region.TheVariants.{Stack, Heap}

-- the region of a code: the use byte of its frames. Any other code is 2, "neither stack nor heap"
unfoldable pub region_coded : ℕ → Result Region Refusal
region_coded code = pick (nat_eq code usage_stack) (Ok Stack) (pick (nat_eq code usage_heap) (Ok Heap) (Err BadRequest))
