-- What 13 says: the byte at the distance is absent, every byte before it is present, and the distance is below the length. Assumes nothing.
use Rattle.std.proofs.Common.{ℕ, ◌+◌, ◌-◌, ◌*◌, ◌/◌, ◌%◌, ◌≤◌, ◌<◌, ◌≡◌, refl, sym, ap, Bool, true, false, not, Some, List, arith, ltb, leb, eqb, ltb-true, leb-false, lt-ltb, le-ltb}
use Rattle.layout.specs.Page.{page_size}
use Rattle.layout.specs.Address.{offsets}
use Rattle.layout.specs.Snapshot.{context_size}
use Rattle.choice.specs.Choice.{both, either}
use Rattle.choice.proofs.Tests.{by_test, differ, fails, both_true, both_intro}
use Rattle.refusal.specs.Numbers.{number_of}
use Rattle.refusal.specs.Checks.{need}
use Rattle.refusal.specs.declared.Refusal.TheVariants.{Invalid, BadRequest, BadAddress, NoSegment, Misaligned, Crossing, NotPermitted, NoFrame, DepthLimit, TooManyPages, ShortOutput, BadList, Absent, BadRecord}
use Rattle.address.specs.Address.{type_of, index_of, offset_of}
use Rattle.snapshot.specs.Header.{accounts}
use Rattle.control.specs.Control.{depth}
use Rattle.control.specs.declared.shadow.Region.TheVariants as region
use Rattle.frames.specs.Table.{frame_entry_of, frame_of, free_frame}
use Rattle.frames.specs.declared.claim.End.TheVariants.{Highest}
use Rattle.segments.specs.Kinds.{is_store}
use Rattle.segments.specs.Rules.{rules, row_of}
use Rattle.segments.specs.declared.rules.Presence.{Presence}
use Rattle.segments.specs.declared.rules.Presence.TheVariants.{Transaction, Shadow, Program, Context, Metadata, Data, Stack, Heap}
use Rattle.segments.specs.declared.rules.Row.{Row}
use Rattle.segments.proofs.Requests.{request_length}
use Rattle.translate.specs.Place.{distance_of_answer, Translation}
use Rattle.translate.specs.Presence.{present_at}
use Rattle.translate.specs.Translate.{context_end, region_end, end_of, copy_place, data_place_in, data_place, region_place_in, region_place, place_in, place_of, translate_of}
use Rattle.translate.specs.declared.request.Request.{Request}
use Rattle.translate.specs.declared.sought.Source.{Source}
use Rattle.translate.specs.declared.sought.Source.TheVariants as source
use Rattle.translate.proofs.Accepted.{request_of, account_of, Apart, row-tested, present_place, in_row_lem}
use Rattle.std.specs.Prelude.{Err, None, Ok, Option, Some}
use Rattle.pages.specs.declared.Frame.{Frame}

-- ---- an answer of 13 is presence's

-- whether the answer is 13
abbrev absent : Translation → Bool
absent (Ok q) = false
absent (Err r) = eqb (number_of r) 13

-- no test before presence gives it
absent_apart : Apart absent
absent_apart =
    record { invalid = refl; request = refl; address = refl; segment = refl; alignment = refl; permission = refl; crossing = refl }

-- nor does a place
copy_there : (q : Request) (x : Option Frame) → absent (copy_place (record { 0 = q.index }) q.offset x) ≡ false
copy_there q (Some f) = refl
copy_there q None = refl

data_there : (c : List ℕ) (q : Request) (at : ℕ) (x : Option Frame) → absent (data_place_in c q.kind (record { 0 = q.index }) q.offset at x) ≡ false
data_there c q at (Some f) = refl
data_there c q at None = by_test (is_store q.kind) (λ e. rw e (copy_there q (free_frame Highest c))) (λ e. rw e)

region_there : (c : List ℕ) (q : Request) (x : Option Frame) → absent (region_place_in c q.kind q.offset x) ≡ false
region_there c q (Some f) =
    by_test (either (not (is_store q.kind)) (leb (depth c) (frame_entry_of c f.0).tag)) (λ e. rw e) (λ e. rw e)
region_there c q None = refl

place_there : (c : List ℕ) (q : Request) (x : Source) (at : ℕ) → absent (place_in c q x at) ≡ false
unfolding place_in data_place region_place
place_there c q (source.Plain b) at = refl
place_there c q source.Copy at = data_there c q at (frame_of c _)
place_there c q (source.Region r) at = region_there c q (frame_of c _)

-- so the bytes are not all present, and the distance is the count of those that are
counted : (s c : List ℕ) (p : Presence) (q : Request) (d : ℕ) → present_place s c p q ≡ Err (Absent d)
    → (end_of s c p q < q.offset + q.length) × (d ≡ end_of s c p q - q.offset)
unfolding place_of need
counted s c p q d e =
    by_test (leb (q.offset + q.length) (end_of s c p q))
    (λ t. absurd (differ _ (ap absent (rw t at e)) (place_there c q _ _)))
    (λ t. (leb-false _ _ t, ap distance_of_answer (sym (rw t at e))))

-- ---- bytes one by one

-- what the law says of the byte at each offset, of an access of n bytes at o
pub record Absence (present : ℕ → Bool) (o n d : ℕ) : Type 0 where
  pub below : d < n
  pub before : (k : ℕ) → k < d → present (o + k) ≡ true
  pub there : present (o + d) ≡ false

-- bytes below an end
run : (end o n d : ℕ) → 1 ≤ n → end < o + n → d ≡ end - o → Absence (λ i. ltb i end) o n d
run end o n d some h e =
    record { below = omega arith; before = λ k l. lt-ltb (o + k) end (omega arith); there = le-ltb (o + d) end (omega arith) }

-- none at all: the first byte is absent
none : (present : ℕ → Bool) (o n d : ℕ) → 1 ≤ n → d ≡ 0 - o → present o ≡ false → Absence present o n d
none present o n d some e h =
    let z : d ≡ 0 = omega arith in
    let f : o + d ≡ o = omega arith in
    record { below = omega arith; before = λ k l. absurd (omega arith); there = rw f h }

-- the block context of the offset's page
context : (count o n d : ℕ) → 1 ≤ n → context_end count o < o + n → d ≡ context_end count o - o
    → Absence (λ i. both (ltb (i / page_size) count) (ltb (i % page_size) context_size)) o n d
context count o n d some h e =
    by_test (ltb (o / page_size) count)
    (λ t.
    let l : o / page_size < count = ltb-true (o / page_size) count t in
    let h' : page_size * (o / page_size) + context_size < o + n = rw t at h in
    let e' : d ≡ page_size * (o / page_size) + context_size - o = rw t at e in
    record {
      below = omega arith;
      before = λ k i. both_intro _ _ (lt-ltb ((o + k) / page_size) count (omega arith)) (lt-ltb ((o + k) % page_size) context_size (omega arith));
      there = fails _ (λ i. differ _ (both_true (ltb ((o + d) / page_size) count) _ i).1 (le-ltb ((o + d) % page_size) context_size (omega arith)));
    })
    (λ t. none _ o n d some (rw t at e) (rw t))

-- the stack's pages: an access within one page is wholly above their start, or wholly below
stack : (pages o n d : ℕ) → 1 ≤ n → o < offsets → o % page_size + n ≤ page_size → region_end region.Stack pages o < o + n → d ≡ region_end region.Stack pages o - o
    → Absence (λ i. both (leb (offsets - page_size * pages) i) (ltb i offsets)) o n d
stack pages o n d some l w h e =
    by_test (leb (offsets - page_size * pages) o)
    (λ t. let h' : offsets < o + n = rw t at h in absurd (omega arith))
    (λ t. none _ o n d some (rw t at e) (rw t))

module _ (s c : List ℕ) (kind a n d : ℕ) (some : 1 ≤ n) (within : offset_of a % page_size + n ≤ page_size) where
  -- by the row's presence
  absence_in : (p : Presence) → end_of s c p (request_of kind a n) < offset_of a + n → d ≡ end_of s c p (request_of kind a n) - offset_of a
      → Absence (present_at s c p (account_of a)) (offset_of a) n d
  unfolding end_of present_at
  absence_in Transaction h e = run _ _ n d some h e
  absence_in Shadow h e = run _ _ n d some h e
  absence_in Program h e = run _ _ n d some h e
  absence_in Context h e = context _ _ n d some h e
  absence_in Metadata h e = run _ _ n d some h e
  absence_in Data h e = run _ _ n d some h e
  absence_in Stack h e = stack _ _ n d some (omega arith) within h e
  absence_in Heap h e = run _ _ n d some h e

-- ---- the law

-- the row that an address leads to, and the bytes of its segment
pub record AbsentAt (s c : List ℕ) (a n d : ℕ) : Type 0 where
  pub row : Row
  pub found : row_of rules (type_of a) (index_of a) (accounts s) ≡ Some row
  pub bytes : Absence (present_at s c row.presence (account_of a)) (offset_of a) n d

-- "With 13 an access also gives the distance from its first byte to the first absent one"
pub absent_law : (s c p : List ℕ) (kind a n d : ℕ) → translate_of s c p kind a n ≡ Err (Absent d) → AbsentAt s c a n d
absent_law s c p kind a n d e =
    let x = in_row_lem s c p kind a n absent absent_apart e refl in
    let t = row-tested s c x.row.presence x.row.fetch x.row.store (request_of kind a n) absent absent_apart _ refl x.given in
    let k = counted s c x.row.presence (request_of kind a n) d t.1 in
    let some : 1 ≤ n = (request_length kind n x.request).0 in
    record { row = x.row; found = x.found; bytes = absence_in s c kind a n d some t.0.within x.row.presence k.0 k.1 }

module _ (s c p : List ℕ) (kind a n : ℕ) where
  -- by the answer: "else 0"
  near : (t : Translation) → translate_of s c p kind a n ≡ t → distance_of_answer t < page_size
  near (Ok q) e = omega arith
  near (Err Invalid) e = omega arith
  near (Err BadRequest) e = omega arith
  near (Err BadAddress) e = omega arith
  near (Err NoSegment) e = omega arith
  near (Err Misaligned) e = omega arith
  near (Err Crossing) e = omega arith
  near (Err NotPermitted) e = omega arith
  near (Err NoFrame) e = omega arith
  near (Err DepthLimit) e = omega arith
  near (Err TooManyPages) e = omega arith
  near (Err ShortOutput) e = omega arith
  near (Err BadList) e = omega arith
  near (Err (Absent d)) e =
      let x = in_row_lem s c p kind a n absent absent_apart e refl in
      omega (arith, (absent_law s c p kind a n d e).bytes.below, (request_length kind n x.request).1)
  near (Err BadRecord) e = omega arith

  -- a distance is below a page's length
  pub distance_near : distance_of_answer (translate_of s c p kind a n) < page_size
  distance_near = near (translate_of s c p kind a n) refl
