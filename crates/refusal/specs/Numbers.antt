-- Document 01, "Numbers given back", and document 02, "One" and "Five". Assumes nothing.
use Rattle.std.specs.Prelude.{ℕ}
use Rattle.refusal.specs.declared.Refusal.{Refusal}
use Rattle.refusal.specs.declared.Refusal.TheVariants.{Invalid, BadRequest, BadAddress, NoSegment, Misaligned, Crossing, NotPermitted, NoFrame, DepthLimit, TooManyPages, ShortOutput, BadList, Absent, BadRecord}

-- "0 | done"
abbrev pub done : ℕ
done = 0

-- the table "No. | Meaning". "Number 3 stays for set upper bits and for a join with too large an offset. A byte not present, and a
-- view of a page with no live bytes, become 13." "discriminant 0 or 1, any other refused with 14"
abbrev pub number_of : Refusal → ℕ
number_of Invalid = 1
number_of BadRequest = 2
number_of BadAddress = 3
number_of NoSegment = 4
number_of Misaligned = 5
number_of Crossing = 6
number_of NotPermitted = 7
number_of NoFrame = 8
number_of DepthLimit = 9
number_of TooManyPages = 10
number_of ShortOutput = 11
number_of BadList = 12
number_of (Absent d) = 13
number_of BadRecord = 14

-- "With 13 an access also gives the distance from its first byte to the first absent one, else 0."
abbrev pub distance_of : Refusal → ℕ
distance_of Invalid = 0
distance_of BadRequest = 0
distance_of BadAddress = 0
distance_of NoSegment = 0
distance_of Misaligned = 0
distance_of Crossing = 0
distance_of NotPermitted = 0
distance_of NoFrame = 0
distance_of DepthLimit = 0
distance_of TooManyPages = 0
distance_of ShortOutput = 0
distance_of BadList = 0
distance_of (Absent d) = d
distance_of BadRecord = 0
