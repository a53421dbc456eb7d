-- Where an access leads: to a row without frames, to account data, or to a region; with it where a store and a load lead, and when a frame is
-- taken or lacking: "8 is given exactly when a frame is needed and no entry has use 0". Assumes nothing.
use Rattle.std.proofs.Common.{ℕ, ◌+◌, ◌-◌, ◌/◌, ◌≤◌, ◌≡◌, refl, sym, ◌∙◌, Bool, true, false, not, ◌≢◌, List, arith, ltb, leb, length, ltb-true, leb-true}
use Rattle.layout.specs.Page.{page_size}
use Rattle.choice.specs.Choice.{either}
use Rattle.choice.proofs.Tests.{by_test, differ, fails}
use Rattle.refusal.specs.declared.Refusal.TheVariants.{Invalid, NotPermitted, NoFrame}
use Rattle.address.specs.Address.{type_of, index_of, offset_of}
use Rattle.snapshot.specs.Header.{accounts, contexts, snapshot_valid}
use Rattle.snapshot.specs.Accounts.{entry_of, entry_valid, exists, data_length}
use Rattle.snapshot.specs.declared.accounts.Account.{Account}
use Rattle.snapshot.proofs.Facts.{SnapshotFacts, snapshot_facts, entry_inside, data_inside}
use Rattle.control.specs.Control.{depth}
use Rattle.control.specs.declared.shadow.Region.{Region}
use Rattle.control.specs.declared.shadow.Region.TheVariants as region
use Rattle.control.proofs.Facts.{ControlFacts, BuffersFacts, control_facts, buffers_facts}
use Rattle.pages.specs.Pages.{in_frame, page_of}
use Rattle.pages.specs.declared.Frame.{Frame}
use Rattle.frames.specs.Table.{frame_entry_of, frame_of, free_frame}
use Rattle.frames.specs.declared.claim.Claim.{Claim}
use Rattle.frames.specs.declared.claim.Claim.TheVariants.{Copy, Anonymous}
use Rattle.frames.specs.declared.claim.End.TheVariants.{Highest}
use Rattle.segments.specs.Kinds.{is_store}
use Rattle.segments.specs.declared.rules.Presence.{Presence}
use Rattle.segments.specs.declared.rules.Presence.TheVariants.{Transaction, Shadow, Program, Context, Metadata, Data, Stack, Heap}
use Rattle.segments.specs.declared.rules.StoreRule.TheVariants.{Never, Owner}
use Rattle.segments.proofs.Requests.{request_length}
use Rattle.segments.proofs.Table.{store_of, type_data, data_type, plain_never, permitted_store}
use Rattle.translate.specs.Fits.{Fits}
use Rattle.translate.specs.Translate.{program, concerned_valid, end_of, start_of, source_of, place_in, copy_place, data_place_in, data_place, region_place_in, region_place, presence_of, place_of, translate_of}
use Rattle.translate.specs.declared.place.NewCopy.{NewCopy}
use Rattle.translate.specs.declared.place.Place.{Place}
use Rattle.translate.specs.declared.place.Place.TheVariants.{InSnapshot, InControl, Zeros, InPool, Take}
use Rattle.translate.proofs.Accepted.{request_of, account_of, last, named, RowPassed, Accepted, accepted, data_answer, data_accepted}
use Rattle.std.specs.Prelude.{Err, None, Ok, Option, Some}
use Rattle.translate.specs.Place.{Translation}

-- the page of account data that an address names
abbrev pub copy_of : ℕ → Claim
copy_of a = Copy (account_of a) (page_of (offset_of a))

-- the page of a region that it names
abbrev page_in : Region → ℕ → Claim
page_in r a = Anonymous r (page_of (offset_of a))

-- ---- the place of an account's page

-- a place in the frame of the account's page
pub record InCopy (c : List ℕ) (a at : ℕ) : Type 0 where
  pub frame : Frame
  pub held : frame_of c (copy_of a) ≡ Some frame
  pub place : at ≡ in_frame frame (offset_of a)

-- a place in the original data, for a load
pub record InOriginal (s c : List ℕ) (kind a at : ℕ) : Type 0 where
  pub load : is_store kind ≡ false
  pub none : frame_of c (copy_of a) ≡ None
  pub place : at ≡ (entry_of s (account_of a)).start + offset_of a

-- a frame that a store takes for the account's page
pub record Taken (c : List ℕ) (kind a : ℕ) (t : NewCopy) : Type 0 where
  pub store : is_store kind ≡ true
  pub type : type_of a ≡ 3
  pub account : t.account ≡ account_of a
  pub page : t.page ≡ page_of (offset_of a)
  pub none : frame_of c (Copy t.account t.page) ≡ None
  pub free : free_frame Highest c ≡ Some t.frame
  pub place : t.at ≡ in_frame t.frame (offset_of a)

-- a store needs a frame for the account's page, and none is free
pub record Lacking (c : List ℕ) (kind a : ℕ) : Type 0 where
  pub store : is_store kind ≡ true
  pub type : type_of a ≡ 3
  pub none : frame_of c (copy_of a) ≡ None
  pub full : free_frame Highest c ≡ None

-- the four answers
pub data DataAnswer (s c : List ℕ) (kind a : ℕ) : Translation → Type 0 where
  in_copy : {at : ℕ} → InCopy c a at → DataAnswer s c kind a (Ok (InPool at))
  in_original : {at : ℕ} → InOriginal s c kind a at → DataAnswer s c kind a (Ok (InSnapshot at))
  taking : {t : NewCopy} → Taken c kind a t → DataAnswer s c kind a (Ok (Take t))
  lacking : Lacking c kind a → DataAnswer s c kind a (Err NoFrame)

module _ (s c : List ℕ) (kind a : ℕ) (type : type_of a ≡ 3) where
  -- for a store to a page without a frame, by the free frame that is found
  new_page : is_store kind ≡ true → frame_of c (copy_of a) ≡ None → (x : Option Frame) → free_frame Highest c ≡ x
      → DataAnswer s c kind a (copy_place (account_of a) (offset_of a) x)
  new_page store none (Some f) e =
      taking (record { store = store; type = type; account = refl; page = refl; none = none; free = e; place = refl })
  new_page store none None e = lacking (record { store = store; type = type; none = none; full = e })

  -- by the frame of the page that is found
  page_in_lem : (x : Option Frame) → frame_of c (copy_of a) ≡ x
      → DataAnswer s c kind a (data_place_in c kind (account_of a) (offset_of a) ((entry_of s (account_of a)).start + offset_of a) x)
  page_in_lem (Some f) e = in_copy (record { frame = f; held = e; place = refl })
  page_in_lem None e =
      by_test (is_store kind) (λ k. rw k (new_page k e (free_frame Highest c) refl))
      (λ k. rw k (in_original (record { load = k; none = e; place = refl })))

  -- it is one of them
  page_answer : DataAnswer s c kind a (data_answer s c kind a)
  unfolding data_place
  page_answer = page_in_lem (frame_of c (copy_of a)) refl

-- ---- the place of a region's page

-- a place in the frame of a region's page
pub record InRegion (c : List ℕ) (r : Region) (kind a at : ℕ) : Type 0 where
  pub frame : Frame
  pub held : frame_of c (page_in r a) ≡ Some frame
  pub tag : is_store kind ≡ true → depth c ≤ (frame_entry_of c frame.0).tag
  pub place : at ≡ in_frame frame (offset_of a)

-- the three answers
pub data RegionAnswer (c : List ℕ) (r : Region) (kind a : ℕ) : Translation → Type 0 where
  in_region : {at : ℕ} → InRegion c r kind a at → RegionAnswer c r kind a (Ok (InPool at))
  tagged : RegionAnswer c r kind a (Err NotPermitted)
  unclaimed : RegionAnswer c r kind a (Err Invalid)

module _ (c : List ℕ) (r : Region) (kind a : ℕ) where
  -- by the frame of the page that is found
  region_in : (x : Option Frame) → frame_of c (page_in r a) ≡ x → RegionAnswer c r kind a (region_place_in c kind (offset_of a) x)
  region_in (Some f) e =
      by_test (either (not (is_store kind)) (leb (depth c) (frame_entry_of c f.0).tag))
      (λ t.
      rw t (in_region (record { frame = f; held = e; tag = λ k. leb-true _ _ (rw k at t); place = refl })))
      (λ t. rw t tagged)
  region_in None e = unclaimed

  -- it is one of them
  region_answer : RegionAnswer c r kind a (region_place c r kind (offset_of a))
  unfolding region_place
  region_answer = region_in (frame_of c (page_in r a)) refl

-- ---- every answer that no test gives

-- the place takes a frame
abbrev takes : Place → Bool
takes (InSnapshot at) = false
takes (InControl at) = false
takes Zeros = false
takes (InPool at) = false
takes (Take t) = true

-- it is a place that has room, in a row without frames, which is loaded from and is no account's data; or that of a page
pub data Answer (s c p : List ℕ) (kind a n : ℕ) : Translation → Type 0 where
  plain : {q : Place} → is_store kind ≡ false → type_of a ≢ 3 → takes q ≡ false → Fits s c p n q → Answer s c p kind a n (Ok q)
  about_data : {t : Translation} → type_of a ≡ 3 → DataAnswer s c kind a t → Answer s c p kind a n t
  about_region : {t : Translation} (r : Region) → type_of a ≢ 3 → RegionAnswer c r kind a t → Answer s c p kind a n t

-- bytes of an account's original data
pub original_fits : (s : List ℕ) (a : Account) (offset n : ℕ) → snapshot_valid s ≡ true → entry_valid s a ≡ true → 1 ≤ n → offset + n ≤ data_length (entry_of s a)
    → (entry_of s a).start + offset + n ≤ length s
original_fits s a offset n b v some h = omega (arith, data_inside s a b v (offset + n - 1) (omega arith))

module _ {s c p : List ℕ} {kind a n : ℕ} {t : Translation} (x : Accepted s c p kind a n t) where
  -- a row that is stored to by another rule than account data's is not of type 3
  other_type : (r : Presence) → (store_of r ≡ Owner → ⊥) → x.row.presence ≡ r → type_of a ≢ 3
  other_type r h e type =
      let d : x.row.presence ≡ Data = type_data (index_of a) (accounts s) x.row (rw type at x.found) in
      h (rw (← e, d))

  -- a region's row leads to its page
  region_at_lem : (r : Region) → (store_of (presence_of r) ≡ Owner → ⊥) → x.row.presence ≡ presence_of r
      → Answer s c p kind a n (region_place c r kind (offset_of a))
  region_at_lem r h e = about_region r (other_type (presence_of r) h e) (region_answer c r kind a)

  -- a row where the table says "never" is loaded from, at a place that has room
  plain_at : (r : Presence) → store_of r ≡ Never → x.row.presence ≡ r → {q : Place} → takes q ≡ false → Fits s c p n q
      → Answer s c p kind a n (Ok q)
  plain_at r h e none fits =
      let v : x.row.store ≡ Never = plain_never (type_of a) (index_of a) (accounts s) x.row x.found r h e in
      plain (fails (is_store kind) (λ k. differ _ (rw v at x.passed.permitted) (permitted_store kind x.row.fetch Never _ _ k)))
      (other_type r (λ o. let z : ◌≡◌ {A = ℕ} 0 1 = cc in omega arith) e) none fits

  -- by the row's presence
  answer_at : BuffersFacts s c p → 1 ≤ n → (r : Presence) → x.row.presence ≡ r → RowPassed s c r x.row.fetch x.row.store (request_of kind a n)
      → Answer s c p kind a n (place_of s c r (request_of kind a n))
  unfolding concerned_valid end_of start_of source_of place_in place_of
  answer_at b some Transaction i h =
      let f : SnapshotFacts s = snapshot_facts s b.snapshot in
      plain_at Transaction refl i refl (omega (arith, h.present))
  answer_at b some Shadow i h =
      let g : ControlFacts c = control_facts c b.control in
      plain_at Shadow refl i refl (omega (arith, h.present))
  answer_at b some Program i h =
      plain_at Program refl i refl (original_fits s (program c) (offset_of a) n b.snapshot h.entry some (omega (arith, h.present)))
  answer_at b some Context i h =
      let f : SnapshotFacts s = snapshot_facts s b.snapshot in
      plain_at Context refl i refl
      (by_test (ltb (offset_of a / page_size) (contexts s))
      (λ t. omega (arith, ltb-true (offset_of a / page_size) (contexts s) t, rw t at h.present)) (λ t. absurd (omega (arith, rw t at h.present))))
  answer_at b some Metadata i h =
      let k = entry_inside s (account_of a) b.snapshot (named s (type_of a) (request_of kind a n) x.row x.found Metadata i) in
      by_test (exists (entry_of s (account_of a))) (λ t. rw t (plain_at Metadata refl i refl (omega (arith, h.present, k))))
      (λ t. rw t (plain_at Metadata refl i refl tt))
  answer_at b some Data i h =
      let type : type_of a ≡ 3 = data_type (type_of a) (index_of a) (accounts s) x.row x.found i in
      about_data type (page_answer s c kind a type)
  answer_at b some Stack i h = region_at_lem region.Stack (λ o. let z : ◌≡◌ {A = ℕ} 0 1 = cc in omega arith) i
  answer_at b some Heap i h = region_at_lem region.Heap (λ o. let z : ◌≡◌ {A = ℕ} 0 1 = cc in omega arith) i

-- ---- stores and loads

-- where a store leads
pub data StorePlace (c : List ℕ) (kind a : ℕ) : Place → Type 0 where
  into_copy : {at : ℕ} → type_of a ≡ 3 → InCopy c a at → StorePlace c kind a (InPool at)
  into_new : {t : NewCopy} → Taken c kind a t → StorePlace c kind a (Take t)
  into_region : {at : ℕ} (r : Region) → type_of a ≢ 3 → InRegion c r kind a at → StorePlace c kind a (InPool at)

-- where a load of account data leads
pub data LoadPlace (s c : List ℕ) (kind a : ℕ) : Place → Type 0 where
  from_copy : {at : ℕ} → InCopy c a at → LoadPlace s c kind a (InPool at)
  from_original : {at : ℕ} → InOriginal s c kind a at → LoadPlace s c kind a (InSnapshot at)

module _ {s c p : List ℕ} {kind a n : ℕ} where
  -- the answers for a store
  stored : {q : Place} → is_store kind ≡ true → Answer s c p kind a n (Ok q) → StorePlace c kind a q
  stored store (plain load _ _ _) = absurd (differ _ store load)
  stored store (about_data h (in_copy x)) = into_copy h x
  stored store (about_data h (in_original x)) = absurd (differ _ store x.load)
  stored store (about_data h (taking x)) = into_new x
  stored store (about_region r h (in_region x)) = into_region r h x

  -- the answers for a load of account data
  loaded : {q : Place} → is_store kind ≡ false → type_of a ≡ 3 → Answer s c p kind a n (Ok q) → LoadPlace s c kind a q
  loaded load h (plain _ m _ _) = absurd (m h)
  loaded load h (about_data _ (in_copy x)) = from_copy x
  loaded load h (about_data _ (in_original x)) = from_original x
  loaded load h (about_data _ (taking x)) = absurd (differ _ x.store load)
  loaded load h (about_region r m x) = absurd (m h)

  -- the answer that takes a frame
  taken_of : {t : NewCopy} → Answer s c p kind a n (Ok (Take t)) → Taken c kind a t
  taken_of {t = t} (about_region r _ x4) = elim x4 [ ]
  taken_of (plain _ _ h _) = absurd (differ true refl h)
  taken_of (about_data h (taking x)) = x

  -- the answer that lacks one
  lacking_of : Answer s c p kind a n (Err NoFrame) → Lacking c kind a
  lacking_of (about_region r _ x4) = elim x4 [ ]
  lacking_of (about_data h (lacking x)) = x

module _ (s c p : List ℕ) (kind a n : ℕ) where
  -- an answer that no test gives is one of them
  pub answer : {t : Translation} → translate_of s c p kind a n ≡ t → last t ≡ true → Answer s c p kind a n t
  answer e l =
      let x = accepted s c p kind a n e l in
      rw x.place at (answer_at x (buffers_facts s c p x.buffers) (request_length kind n x.request).0 x.row.presence refl x.passed)

  -- a frame is taken for a store to account data
  pub take_place : {t : NewCopy} → translate_of s c p kind a n ≡ Ok (Take t) → Taken c kind a t
  take_place e = taken_of (answer e refl)

  -- a store leads to a frame
  pub store_place : {q : Place} → is_store kind ≡ true → translate_of s c p kind a n ≡ Ok q → StorePlace c kind a q
  store_place store e = stored store (answer e refl)

  -- a load of account data leads to the frame of the page, or else to the original
  pub load_place : {q : Place} → is_store kind ≡ false → type_of a ≡ 3 → translate_of s c p kind a n ≡ Ok q → LoadPlace s c kind a q
  load_place load h e = loaded load h (answer e refl)

  -- 8 is given only where a frame is needed and none is free
  pub no_frame : translate_of s c p kind a n ≡ Err NoFrame → Lacking c kind a
  no_frame e = lacking_of (answer e refl)

  -- and there it is given, once the tests have passed
  pub lacks_frame : {t : Translation} → Lacking c kind a → translate_of s c p kind a n ≡ t → last t ≡ true → t ≡ Err NoFrame
  unfolding data_place
  lacks_frame x e l = sym (data_accepted s c p kind a n e l x.type).1 ∙ rw (x.none, x.store, x.full)
