-- Document 01, "Order for an access", with document 02, "One": the tests in their order. Assumes nothing.
use Rattle.std.specs.Prelude.{ℕ, ◌+◌, ◌-◌, Bool, nat_lt, nat_le}
use Rattle.layout.specs.Address.{addresses}
use Rattle.refusal.specs.Checks.{need, ◌then◌, Check}
use Rattle.refusal.specs.declared.Refusal.TheVariants.{Invalid, BadRequest, BadAddress, Absent, Misaligned, Crossing, NotPermitted}
use Rattle.segments.specs.Kinds.{request_valid, aligned, within}
use Rattle.translate.specs.declared.request.Request.{Request}

-- the numbers before the segment is known: "1 for headers, buffer lengths and frame D ..; 2; 3 for upper bits"
unfoldable pub first_checks : Bool → ℕ → ℕ → ℕ → Check
first_checks buffers kind a n =
    need buffers Invalid
    then need (request_valid kind n) BadRequest
    then need (nat_lt a addresses) BadAddress

-- the numbers once the segment is known: "1 for the entry of the account concerned; 5; 7 by the table's fixed, account and fetch
-- rules; 6; 3 for presence", which is 13 with the distance, the count of bytes present from the offset on. `end` is where they end.
unfoldable pub row_checks : Bool → Bool → Request → ℕ → Check
row_checks entry permitted q end =
    need entry Invalid
    then need (aligned q.kind q.offset q.length) Misaligned
    then need permitted NotPermitted
    then need (within q.offset q.length) Crossing
    then need (nat_le (q.offset + q.length) end) (Absent (end - q.offset))
