-- A place that translation answers has room for all bytes of the access, and a frame to be taken is there with its page.
-- Assumes nothing.
use Rattle.std.proofs.Common.{ℕ, ◌+◌, ◌*◌, ◌%◌, ◌≤◌, ◌<◌, ◌≡◌, refl, List, arith, length, lt-ltb}
use Rattle.layout.specs.Page.{page_size}
use Rattle.address.specs.Address.{offset_of}
use Rattle.control.specs.Control.{frames}
use Rattle.control.specs.declared.shadow.Region.{Region}
use Rattle.control.proofs.Facts.{ControlFacts, BuffersFacts, control_facts, buffers_facts}
use Rattle.frames.specs.Table.{entry_end}
use Rattle.frames.proofs.Claims.{frame_found}
use Rattle.frames.specs.declared.claim.End.TheVariants.{Highest}
use Rattle.frames.proofs.Free.{free_found_lem}
use Rattle.translate.specs.Fits.{Fits}
use Rattle.translate.specs.Translate.{translate_of}
use Rattle.translate.specs.declared.place.Place.{Place}
use Rattle.translate.proofs.Accepted.{account_of, accepted, DataAccess, data_accepted}
use Rattle.translate.proofs.Stores.{original_fits, DataAnswer, in_copy, in_original, taking, lacking, RegionAnswer, in_region, tagged, unclaimed, Answer, plain, about_data, about_region, answer}
use Rattle.std.specs.Prelude.{Err, Ok}
use Rattle.translate.specs.Place.{Translation}

-- an answer that is a place fits
abbrev AnswerFits : List ℕ → List ℕ → List ℕ → ℕ → Translation → Type 0
AnswerFits s c p n (Ok q) = Fits s c p n q
AnswerFits s c p n (Err r) = Unit {0}

module _ {s c p : List ℕ} (b : BuffersFacts s c p) where
  -- a frame of the table has its entry in the control block and its bytes in the pool
  frame_fits : (i : ℕ) → i < frames c → (entry_end i ≤ length c) × (page_size * i + page_size ≤ length p)
  frame_fits i h =
      let g : ControlFacts c = control_facts c b.control in
      (omega arith, omega (arith, b.pool))

  -- bytes of an account's page
  data_fits : {kind a n : ℕ} {t : Translation} → DataAccess s a n → DataAnswer s c kind a t → AnswerFits s c p n t
  data_fits d (in_copy x) =
      omega (arith, d.within, x.place, frame_fits x.frame.0 (frame_found c _ x.frame x.held).below)
  data_fits {a} {n} d (in_original x) = rw x.place (original_fits s (account_of a) (offset_of a) n b.snapshot d.entry d.some d.present)
  data_fits d (taking {t} x) =
      let h = frame_fits t.frame.0 (free_found_lem c Highest t.frame x.free).below in (
        omega (arith, d.within, x.place, h),
        record {
          snapshot = b.snapshot;
          account = rw x.account (lt-ltb _ _ d.account);
          entry = rw x.account d.entry;
          page = rw (x.account, x.page) (omega (arith, d.present, d.some));
          control = b.control;
          slot = h.0;
          frame = h.1;
        },
      )
  data_fits d (lacking x) = tt

  -- bytes of a region's page
  region_fits : {r : Region} {kind a : ℕ} (n : ℕ) {t : Translation} → offset_of a % page_size + n ≤ page_size → RegionAnswer c r kind a t → AnswerFits s c p n t
  region_fits n h (in_region x) =
      omega (arith, x.place, frame_fits x.frame.0 (frame_found c _ x.frame x.held).below)
  region_fits n h tagged = tt
  region_fits n h unclaimed = tt

module _ (s c p : List ℕ) (kind a n : ℕ) (q : Place) (e : translate_of s c p kind a n ≡ Ok q) where
  -- each answer fits
  answer_fits : BuffersFacts s c p → offset_of a % page_size + n ≤ page_size → Answer s c p kind a n (Ok q) → Fits s c p n q
  answer_fits b h (plain _ _ _ f) = f
  answer_fits b h (about_data type x) = data_fits b (data_accepted s c p kind a n e refl type).0 x
  answer_fits b h (about_region r m x) = region_fits b n h x

  -- so the place that is answered fits
  pub translate_fits : Fits s c p n q
  translate_fits =
      let x = accepted s c p kind a n e refl in
      answer_fits (buffers_facts s c p x.buffers) x.passed.within (answer s c p kind a n e refl)
