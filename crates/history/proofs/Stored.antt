-- A store keeps the invariant. In account data the page gets its frame, if it has none, and then the bytes go in; elsewhere they go into
-- a frame that is no copy. Assumes nothing.
use Prim.Native.Nat.{ℕ, ◌+◌, ◌*◌, ◌/◌, ◌%◌, ◌≤◌, ◌<◌}
use mathlib.Core.Path.{◌≡◌, refl, sym, ap, ◌∙◌, fun_ext}
use mathlib.Core.Logic.{◌≢◌}
use mathlib.Core.Bool.{Bool, true, false, not}
use mathlib.Core.List.{List}
use native.Mathlib.Nat.{div-add-mod}
use native.Mathlib.Decide.{ℕ_discrete}
use native.Mathlib.Omega.{arith}
use lib.ListN.{length, get_or}
use lib.Dec.{eqb}
use borrow.Author.Tests.{eq-eqb, eqb-true, eqb-false}
use Rattle.layout.specs.Page.{page_size}
use Rattle.layout.specs.Control.{live_limit, usage_copy}
use Rattle.words.specs.Words.{splice}
use Rattle.words.proofs.Splice.{length-splice}
use Rattle.choice.specs.Choice.{pick, both, either}
use Rattle.choice.proofs.Tests.{by_test, differ}
use Rattle.address.specs.Address.{type_of, index_of, offset_of}
use Rattle.snapshot.specs.Accounts.{entry_of, data_length, original}
use Rattle.snapshot.proofs.Facts.{snapshot_facts, data_short, length-original}
use Rattle.control.specs.Control.{frames, invocations, control_ready, buffers_valid}
use Rattle.control.specs.declared.shadow.Region.{Region}
use Rattle.control.specs.declared.shadow.Region.TheVariants.{Stack, Heap}
use Rattle.control.proofs.Facts.{BuffersFacts, control_facts, buffers_facts}
use Rattle.control.specs.Buffers.{Buffers}
use Rattle.pages.proofs.PageBytes.{elsewhere, alike, length-original_page}
use Rattle.pages.specs.Pages.{original_page}
use Rattle.frames.specs.declared.claim.Claim.TheVariants.{Copy}
use Rattle.frames.specs.Table.{entry_end, frame_entry_of, usage_of, holds, claims, is_free, frame_of}
use Rattle.frames.specs.declared.claim.Claim.{Claim}
use Rattle.frames.specs.declared.table.FrameEntry.{FrameEntry}
use Rattle.frames.proofs.Entries.{EntryRange, entry_same, entry_other}
use Rattle.frames.proofs.Untouched.{frames_kept, invocations_kept, invocation_kept, buffers_valid_kept}
use Rattle.frames.proofs.Claims.{holds_copy, copy_holds, claims_copy, claims_page, claims_one, claims_same, claims_other, free_claims, frame_found, frame_none, frame_taken, frame_kept}
use Rattle.frames.specs.declared.claim.End.TheVariants.{Highest}
use Rattle.frames.proofs.Free.{free_found_lem}
use Rattle.segments.specs.Kinds.{is_store}
use Rattle.translate.specs.declared.place.NewCopy.{NewCopy}
use Rattle.translate.specs.Translate.{translate_of}
use Rattle.translate.specs.declared.place.Place.{Place}
use Rattle.translate.proofs.Accepted.{DataAccess, accepted, data_accepted}
use Rattle.translate.proofs.Stores.{StorePlace, into_copy, into_new, into_region, store_place}
use Rattle.access.specs.Stores.{prepared_control, stored_at, copy_entry, taken_control, taken_pool}
use Rattle.access.proofs.Entry.{copy_range}
use Rattle.access.proofs.Seen.{copied_byte}
use Rattle.changes.specs.Keys.{key_of, key_limit, key_claim, is_copied}
use Rattle.history.specs.Replay.{Replay, stored}
use Rattle.history.proofs.Good.{copy_of, LiveRecord, LivePage, Good}
use Rattle.history.proofs.Pages.{key_claim_lem, pool_length_lem, touched_found, claim_touched}
use Rattle.std.specs.Prelude.{None, Ok}

-- a page is the one that is named, or is not
page_cases : {A : Type 0} (a p d q : ℕ) → (d ≡ a → q ≡ p → A) → ((d ≡ a → q ≢ p) → A) → A
page_cases a p d q f h =
    elim (ℕ_discrete d a) [
      | yes x ↦ elim (ℕ_discrete q p) [ yes y ↦ f x y | no y ↦ h (λ _. y) ]
      | no x ↦ h (λ y. absurd (x y))
    ]

-- buffers stay fit with a pool of the same length
buffers_spliced : (s c p : List ℕ) (at : ℕ) (bs : List ℕ) → buffers_valid s c p ≡ true → buffers_valid s c (splice p at bs) ≡ true
unfolding buffers_valid control_ready
buffers_spliced s c p at bs h = rw (length-splice p at bs) h

-- ---- bytes stored into a frame that has the page

-- the replay with bytes put into page p of account a, from its byte w on
abbrev pub put : Replay → ℕ → ℕ → ℕ → List ℕ → Replay
put r a p w bs =
    record {
      plain = λ i. pick (eqb i a) (splice (r.plain i) (page_size * p + w) bs) (r.plain i);
      touched = r.touched;
      depth = r.depth;
      first = r.first;
    }

module _ (r : Replay) (a p w : ℕ) (bs : List ℕ) (d : ℕ) where
  -- each copy keeps its length
  put_length : length ((put r a p w bs).plain d) ≡ length (r.plain d)
  put_length = by_test (eqb d a) (λ e. rw e (length-splice (r.plain d) (page_size * p + w) bs)) (λ e. rw e)

  -- another page keeps its bytes
  put_other : w + length bs ≤ page_size → (q k : ℕ) → (d ≡ a → q ≢ p) → k < page_size
      → get_or ((put r a p w bs).plain d) (page_size * q + k) 0 ≡ get_or (r.plain d) (page_size * q + k) 0
  put_other h q k n l =
      by_test (eqb d a) (λ e. rw e (elsewhere (r.plain d) p w bs h q k (n (eqb-true d a e)) l)) (λ e. rw e)

module _ {s : List ℕ} {b : Buffers} {r : Replay} (g : Good s b r) (a p f w : ℕ) (bs : List ℕ)
    (low : f < frames b.control) (has : claims b.control (copy_of a p) f ≡ true) (in-page : w + length bs ≤ page_size)
    (present : page_size * p + w + length bs ≤ data_length (entry_of s (record { 0 = a }))) where
  -- each copy is as its plain copy: the page stored to by the same bytes, another as before
  held_stored : (d q i : ℕ) → i < frames b.control → claims b.control (copy_of d q) i ≡ true → (k : ℕ) → k < page_size
      → get_or (splice b.pool (page_size * f + w) bs) (page_size * i + k) 0 ≡ get_or ((put r a p w bs).plain d) (page_size * q + k) 0
  held_stored d q i l c k n =
      page_cases a p d q
      (λ x y.
      let z : i ≡ f = g.once a p i f l low (rw (x, y) at c) has in
      rw (x, y, z, eq-eqb a a refl)
      (alike b.pool (r.plain a) (page_size * f) (page_size * p) w bs (omega (arith, pool_length_lem g))
      (omega (arith, g.sized a, length-original s (record { 0 = a }))) k (g.held a p f low has k n)))
      (λ m.
      let z : i ≢ f = λ y. let u = claims_one b.control f _ _ _ _ (rw y at c) has in m u.0 u.1 in
      elsewhere b.pool f w bs in-page i k z n ∙ g.held d q i l c k n ∙ sym (put_other r a p w bs d in-page q k m n))

  -- a page without a frame is not the one stored to
  kept_stored : (d q : ℕ) → d < 65536 → q < 65536 → r.touched (key_of d q) ≡ false → (k : ℕ) → k < page_size
      → get_or ((put r a p w bs).plain d) (page_size * q + k) 0 ≡ get_or (original s (record { 0 = d })) (page_size * q + k) 0
  kept_stored d q hd hq t k n =
      page_cases a p d q (λ x y. absurd (differ _ (claim_touched g a p f low has) (rw (x, y) at t)))
      (λ m. put_other r a p w bs d in-page q k m n ∙ g.kept d q hd hq t k n)

  -- they keep the invariant, with the plain copy of the account stored to as well
  pub keep_stored : Good s (record { control = b.control; pool = splice b.pool (page_size * f + w) bs }) (put r a p w bs)
  keep_stored =
      record {
        buffers = buffers_spliced s b.control b.pool (page_size * f + w) bs g.buffers;
        records = g.records;
        ranged = g.ranged;
        sized = λ d. put_length r a p w bs d ∙ g.sized d;
        claimed = g.claimed;
        once = g.once;
        live = g.live;
        held = held_stored;
        kept = kept_stored;
        deep = record { current = g.deep.current; taken = g.deep.taken };
      }

-- ---- a page that gets its frame

-- the replay with page p of account a in the set, from this depth on if it was not there
abbrev pub marked : Replay → ℕ → ℕ → Replay
marked r a p =
    record {
      plain = r.plain;
      touched = λ k. either (eqb k (key_of a p)) (r.touched k);
      depth = r.depth;
      first = λ k. pick (both (eqb k (key_of a p)) (not (r.touched k))) r.depth (r.first k);
    }

-- a page that was in the set keeps its depth
first_same : (r : Replay) (a p k : ℕ) → r.touched k ≡ true → (marked r a p).first k ≡ r.first k
first_same r a p k h = by_test (eqb k (key_of a p)) (λ e. rw (e, h)) (λ e. rw e)

-- the buffers with the frame taken for the page
abbrev pub copied : List ℕ → Buffers → NewCopy → Buffers
copied s b t = record { control = taken_control b.control t; pool = taken_pool s b.pool t }

module _ {s : List ℕ} {b : Buffers} {r : Replay} (g : Good s b r) (t : NewCopy) (low : t.frame.0 < frames b.control)
    (free : is_free b.control t.frame.0 ≡ true) (none : frame_of b.control (Copy t.account t.page) ≡ None)
    (page : LivePage s t.account.0 t.page.0) where
  -- the account
  abbrev a : ℕ
  a = t.account.0

  -- the page
  abbrev p : ℕ
  p = t.page.0

  -- the frame
  abbrev f : ℕ
  f = t.frame.0

  -- the control block with the copy's entry
  abbrev c' : List ℕ
  c' = (copied s b t).control

  -- account and page fit an entry, and the entry the table
  valid : BuffersFacts s b.control b.pool
  valid = buffers_facts s b.control b.pool g.buffers

  small_a : a < 65536
  small_a = omega (arith, page.known, (snapshot_facts s valid.snapshot).few_accounts)

  small_p : p < 65536
  small_p = omega (arith, page.present, data_short s t.account page.entry)

  range : EntryRange (copy_entry b.control t)
  range = copy_range b.control t valid.control small_a small_p

  slot : entry_end f ≤ length b.control
  slot = omega (arith, (control_facts b.control valid.control).size)

  few : invocations b.control ≤ live_limit
  few = (control_facts b.control valid.control).few_live

  same_frames : frames c' ≡ frames b.control
  same_frames = frames_kept b.control f (copy_entry b.control t)

  -- the entry holds the page
  holds_page_lem : holds (copy_of a p) (copy_entry b.control t) ≡ true
  holds_page_lem = copy_holds _ _ (copy_entry b.control t) (record { usage = refl; account = refl; page = refl })

  -- and claims what it holds
  entry_claims : (x : Claim) → claims c' x f ≡ holds x (copy_entry b.control t)
  entry_claims = claims_same b.control f (copy_entry b.control t) range slot

  -- the frame's new entry claims the page
  pub new_claim : claims (copied s b t).control (copy_of a p) f ≡ true
  new_claim = entry_claims (copy_of a p) ∙ holds_page_lem

  -- an entry that claims a page now is the new one, or claimed it before
  claim_cases : {A : Type 0} (d q i : ℕ) → claims c' (copy_of d q) i ≡ true → (i ≡ f → d ≡ a → q ≡ p → A)
      → (i ≢ f → claims b.control (copy_of d q) i ≡ true → A) → A
  claim_cases d q i c h o =
      elim (ℕ_discrete i f) [
        | yes e ↦
            let u = holds_copy _ _ (copy_entry b.control t) (sym (entry_claims (copy_of d q)) ∙ rw e at c) in
            h e (sym u.account) (sym u.page)
        | no e ↦ o e (sym (claims_other b.control f (copy_entry b.control t) (copy_of d q) i e) ∙ c)
      ]

  -- no entry claimed the page before
  missing : (j : ℕ) → j < frames c' → claims b.control (copy_of a p) j ≡ true → ⊥
  missing j l c = differ _ c (frame_none b.control (copy_of a p) none j (rw same_frames at l))

  -- the shadow records stay
  records_copied : (k : ℕ) → 1 ≤ k → k ≤ invocations c' → LiveRecord s c' k
  records_copied k l h =
      let m : k ≤ invocations b.control = rw (invocations_kept b.control f (copy_entry b.control t)) at h in
      let e = invocation_kept b.control f (copy_entry b.control t) k (omega (arith, few)) in
      let u = g.records k l m in
      record { program = rw e u.program; stack = rw e u.stack; heap = rw e u.heap }

  -- every entry fits
  ranged_copied : (i : ℕ) → i < frames c' → EntryRange (frame_entry_of c' i)
  ranged_copied i l =
      elim (ℕ_discrete i f) [
        | yes e ↦ rw (e, entry_same b.control f (copy_entry b.control t) range slot) range
        | no e ↦ rw (entry_other b.control f (copy_entry b.control t) i e) (g.ranged i (rw same_frames at l))
      ]

  -- the page has a frame now, and every other has one where it had
  claimed_copied : (k : ℕ) → k < key_limit → (marked r a p).touched k ≡ is_copied c' k
  unfolding is_copied
  claimed_copied k h =
      by_test (eqb k (key_of a p))
      (λ e.
      let x : key_claim k ≡ copy_of a p = ap key_claim (eqb-true k (key_of a p) e) ∙ key_claim_lem a p small_a small_p in
      rw (e, x, frame_taken b.control f (copy_entry b.control t) range slot (copy_of a p) none low holds_page_lem))
      (λ e.
      let o : holds (key_claim k) (copy_entry b.control t) ≡ false =
      by_test (holds (key_claim k) (copy_entry b.control t))
      (λ y.
      let u = holds_copy _ _ (copy_entry b.control t) y in
      absurd (eqb-false k (key_of a p) e (omega (arith, u.account, u.page))))
      (λ y. y) in
      rw (e, frame_kept b.control f (copy_entry b.control t) range slot (key_claim k) (free_claims b.control f free (key_claim k)) o)
      (g.claimed k h))

  -- no page is claimed twice
  once_copied : (d q i j : ℕ) → i < frames c' → j < frames c' → claims c' (copy_of d q) i ≡ true → claims c' (copy_of d q) j ≡ true
      → i ≡ j
  once_copied d q i j l n c o =
      claim_cases d q i c
      (λ e x y. claim_cases d q j o (λ h _ _. e ∙ sym h) (λ h m. absurd (missing j n (rw (x, y) at m))))
      (λ e m.
      claim_cases d q j o (λ h x y. absurd (missing i l (rw (x, y) at m)))
      (λ h u. g.once d q i j (rw same_frames at l) (rw same_frames at n) m u))

  -- every claimed page has live bytes
  live_copied : (d q i : ℕ) → i < frames c' → claims c' (copy_of d q) i ≡ true → LivePage s d q
  live_copied d q i l c = claim_cases d q i c (λ e x y. rw (x, y) page) (λ e m. g.live d q i (rw same_frames at l) m)

  -- the page was not in the set
  new : r.touched (key_of a p) ≡ false
  new = touched_found g a p small_a small_p ∙ rw none

  -- the frame has the original bytes, which the plain copy has still; every other frame is as before
  held_copied : (d q i : ℕ) → i < frames c' → claims c' (copy_of d q) i ≡ true → (k : ℕ) → k < page_size
      → get_or (copied s b t).pool (page_size * i + k) 0 ≡ get_or (r.plain d) (page_size * q + k) 0
  held_copied d q i l c k n =
      claim_cases d q i c
      (λ e x y.
      rw (e, x, y)
      (copied_byte s b.pool t (omega (arith, pool_length_lem g)) k n
      ∙ sym (g.kept a p small_a small_p new k n)))
      (λ e m.
      let z : page_size * f + 0 ≡ page_size * f = omega arith in
      rw z at (elsewhere b.pool f 0 (original_page s t.account t.page) (simp length-original_page (omega arith)) i k e n)
      ∙ g.held d q i (rw same_frames at l) m k n)

  -- a page not in the set now was not before
  kept_copied : (d q : ℕ) → d < 65536 → q < 65536 → (marked r a p).touched (key_of d q) ≡ false → (k : ℕ) → k < page_size
      → get_or (r.plain d) (page_size * q + k) 0 ≡ get_or (original s (record { 0 = d })) (page_size * q + k) 0
  kept_copied d q hd hq y k n =
      by_test (eqb (key_of d q) (key_of a p)) (λ e. absurd (differ true refl (rw e at y))) (λ e. g.kept d q hd hq (rw e at y) k n)

  -- each copy's entry holds the depth at the first store to its page: the new one's that of the current invocation
  taken_copied : (d q i : ℕ) → i < frames c' → claims c' (copy_of d q) i ≡ true → (frame_entry_of c' i).depth ≡ (marked r a p).first (key_of d q)
  taken_copied d q i l c =
      claim_cases d q i c
      (λ e x y.
      rw (e, x, y)
      (ap (λ (z : FrameEntry). z.depth) (entry_same b.control f (copy_entry b.control t) range slot)
      ∙ rw (eq-eqb (key_of a p) (key_of a p) refl, new) (omega (arith, g.deep.current))))
      (λ e m.
      ap (λ (z : FrameEntry). z.depth) (entry_other b.control f (copy_entry b.control t) i e)
      ∙ (g.deep.taken d q i (rw same_frames at l) m ∙ sym (first_same r a p (key_of d q) (claim_touched g d q i (rw same_frames at l) m))))

  -- a free frame taken for a page that has none keeps the invariant, with the page in the set
  pub keep_copied : Good s (copied s b t) (marked r a p)
  keep_copied =
      record {
        buffers =
            buffers_spliced s c' b.pool (page_size * f) _ (buffers_valid_kept b.control f (copy_entry b.control t) s b.pool ∙ g.buffers);
        records = records_copied;
        ranged = ranged_copied;
        sized = g.sized;
        claimed = claimed_copied;
        once = once_copied;
        live = live_copied;
        held = held_copied;
        kept = kept_copied;
        deep =
            record {
              current = g.deep.current ∙ sym (invocations_kept b.control f (copy_entry b.control t));
              taken = taken_copied;
            };
      }

-- ---- a store

-- a page in the set stays there
marked_same : (r : Replay) (a p : ℕ) → r.touched (key_of a p) ≡ true → marked r a p ≡ r
marked_same r a p h =
    ap (λ (t : ℕ → Bool). let x : Replay = record { plain = r.plain; touched = t; depth = r.depth; first = (marked r a p).first } in x)
    (fun_ext (λ k. by_test (eqb k (key_of a p)) (λ e. rw (e, eqb-true k (key_of a p) e) (sym h)) (λ e. rw e)))
    ∙ ap (λ (f : ℕ → ℕ). let x : Replay = record { plain = r.plain; touched = r.touched; depth = r.depth; first = f } in x)
    (fun_ext (λ k. by_test (eqb k (key_of a p)) (λ e. first_same r a p k (rw (eqb-true k (key_of a p) e) h)) (λ e. rw e)))

-- what the replay does: the page joins the set, and the bytes go in
stored_is : (r : Replay) (a : ℕ) (bytes : List ℕ)
    → put (marked r (index_of a) (offset_of a / page_size)) (index_of a) (offset_of a / page_size) (offset_of a % page_size) bytes ≡ stored r a bytes
unfolding stored
stored_is r a bytes =
    ap
    (λ (o : ℕ).
    let x : Replay =
    record {
      plain = λ i. pick (eqb i (index_of a)) (splice (r.plain i) o bytes) (r.plain i);
      touched = λ k. either (eqb k (key_of (index_of a) (offset_of a / page_size))) (r.touched k);
      depth = r.depth;
      first = (marked r (index_of a) (offset_of a / page_size)).first;
    } in
    x)
    (div-add-mod (offset_of a) page_size)

-- the same of an account and a page that are the address's
stored_at_lem : (r : Replay) (a : ℕ) (bytes : List ℕ) (d q : ℕ) → d ≡ index_of a → q ≡ offset_of a / page_size
    → put (marked r d q) d q (offset_of a % page_size) bytes ≡ stored r a bytes
stored_at_lem r a bytes d q u v = rw (u, v) (stored_is r a bytes)

-- the buffers after a store
abbrev pub after_store : List ℕ → Buffers → Place → List ℕ → Buffers
after_store s b q bytes =
    record { control = prepared_control b.control q; pool = stored_at s b.pool bytes q }

module _ {s : List ℕ} {b : Buffers} {r : Replay} (g : Good s b r) (kind a : ℕ) (bytes : List ℕ) where
  -- account data: the page has a frame, or gets one
  keep_data : {q : Place} → DataAccess s a (length bytes) → StorePlace b.control kind a q
      → Good s (after_store s b q bytes) (stored r a bytes)
  keep_data d (into_copy h x) =
      let i = frame_found b.control _ x.frame x.held in
      rw (x.place, ← stored_is r a bytes, marked_same r _ _ (claim_touched g _ _ x.frame.0 i.below i.passes))
      (keep_stored g (index_of a) (offset_of a / page_size) x.frame.0 (offset_of a % page_size) bytes i.below i.passes d.within
      (omega (arith, d.present)))
  keep_data d (into_new {t} x) =
      let i = free_found_lem b.control Highest t.frame x.free in
      let page : LivePage s t.account.0 t.page.0 =
      rw (x.account, x.page) (record { known = d.account; entry = d.entry; present = omega (arith, d.present, d.some) }) in
      let k =
      keep_stored (keep_copied g t i.below i.passes x.none page) t.account.0 t.page.0 t.frame.0 (offset_of a % page_size) bytes
      (rw (frames_kept b.control t.frame.0 (copy_entry b.control t)) i.below) (new_claim g t i.below i.passes x.none page) d.within
      (rw (x.account, x.page) (omega (arith, d.present))) in
      rw (x.place, ← stored_at_lem r a bytes t.account.0 t.page.0 (rw x.account) (rw x.page)) k
  keep_data d (into_region h m x) = absurd (m d.type)

  -- elsewhere: an entry has one use, so the frame is no copy
  keep_region : {q : Place} → offset_of a % page_size + length bytes ≤ page_size → type_of a ≢ 3 → StorePlace b.control kind a q
      → Good s (after_store s b q bytes) r
  keep_region l m (into_copy h x) = absurd (m h)
  keep_region l m (into_new x) = absurd (m x.type)
  keep_region l m (into_region h _ x) =
      let i = frame_found b.control _ x.frame x.held in
      let u = claims_page b.control x.frame.0 h _ i.passes in
      rw x.place
      (record {
        buffers = buffers_spliced s b.control b.pool _ bytes g.buffers;
        records = g.records;
        ranged = g.ranged;
        sized = g.sized;
        claimed = g.claimed;
        once = g.once;
        live = g.live;
        held =
            λ d q j low c k n.
            elsewhere b.pool x.frame.0 (offset_of a % page_size) bytes l j k
            (λ e. no_copy h (sym u.usage ∙ (claims_copy b.control x.frame.0 _ _ (rw e at c)).usage)) n
            ∙ g.held d q j low c k n;
        kept = g.kept;
        deep = record { current = g.deep.current; taken = g.deep.taken };
      })
    where
      no_copy : (h : Region) → usage_of h ≡ usage_copy → ⊥
      no_copy Stack e = omega arith
      no_copy Heap e = omega arith

  -- a store that is accepted
  module _ (n : ℕ) (size : length bytes ≡ n) (store : is_store kind ≡ true) {q : Place}
      (e : translate_of s b.control b.pool kind a n ≡ Ok q) where
    place : StorePlace b.control kind a q
    place = store_place s b.control b.pool kind a n store e

    -- to account data keeps the invariant, with the replay's store
    pub keep_store : type_of a ≡ 3 → Good s (after_store s b q bytes) (stored r a bytes)
    keep_store h = keep_data (rw size (data_accepted s b.control b.pool kind a n e refl h).0) place

    -- elsewhere keeps it as it is
    pub keep_region_store : type_of a ≢ 3 → Good s (after_store s b q bytes) r
    keep_region_store h = keep_region (rw size (accepted s b.control b.pool kind a n e refl).passed.within) h place
