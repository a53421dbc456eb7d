-- The change list after a history: every copy can be listed, the keys are those of the touched pages, and each page is the plain
-- copy's, so the list is the one that the replay expects. Assumes nothing.
use mathlib.Core.Path.{◌≡◌, refl, sym, ap, ◌∙◌}
use mathlib.Core.Bool.{true, false, not}
use mathlib.Core.List.{List}
use Prim.Native.Nat.{ℕ, ◌*◌, ◌/◌, ◌%◌, ◌≤◌, ◌<◌}
use native.Mathlib.Omega.{arith}
use lib.ListN.{length}
use borrow.Author.Tests.{lt-ltb, le-leb, eqb-true}
use Rattle.layout.specs.List.{list_total}
use Rattle.layout.specs.Page.{page_size}
use Rattle.words.proofs.Run.{bytes_at_ext}
use Rattle.choice.proofs.Picked.{picked_ext}
use Rattle.choice.proofs.Ascending.{Member, picked-passes}
use Rattle.choice.proofs.Every.{every_all}
use Rattle.choice.specs.Search.{every}
use Rattle.choice.proofs.Tests.{by_test, differ}
use Rattle.refusal.proofs.Checks.{need_on, need_last}
use Rattle.snapshot.specs.Accounts.{entry_of, data_length}
use Rattle.control.specs.Control.{frames}
use Rattle.control.specs.Buffers.{Buffers}
use Rattle.pages.proofs.PageBytes.{live_positive}
use Rattle.pages.specs.Pages.{live, page_there}
use Rattle.pages.specs.declared.Frame.{Frame}
use Rattle.frames.specs.Table.{frame_entry_of, claims, frame_of, is_found, is_copy}
use Rattle.frames.specs.declared.claim.Claim.TheVariants.{Copy}
use Rattle.frames.proofs.Found.{First}
use Rattle.frames.proofs.Claims.{copy_claims, frame_found, frame_none}
use Rattle.changes.specs.Keys.{key_of, key_account, key_page, key_claim, key_limit, is_copied, copy_keys}
use Rattle.changes.specs.Entry.{change_bytes, change_of}
use Rattle.changes.specs.List.{padded, list_bytes, page_bytes, copy_depth, change_list, claimed_before, copy_listable, listable, list_check, change_list_number, change_list_out}
use Rattle.changes.proofs.Written.{joined_ext}
use Rattle.history.specs.Replay.{Replay, touched_keys, plain_page, expected_list}
use Rattle.history.specs.Claims.{ListRight}
use Rattle.history.proofs.Good.{LivePage, Good}
use Rattle.std.specs.Prelude.{None, Ok, Option, Some}

-- ---- the frame of a key

-- the frame of the page of a key
pub record Framed (c : List ℕ) (k : ℕ) : Type 0 where
  pub frame : ℕ
  pub below : frame < frames c
  pub claimed : claims c (key_claim k) frame ≡ true
  pub found : frame_of c (key_claim k) ≡ Some (record { 0 = frame })

-- what holds where a frame was found and where none was, holds
by_found : {A : Type 0} (x : Option Frame) → ((f : Frame) → x ≡ Some f → A) → (x ≡ None → A) → A
by_found (Some f) g h = g f refl
by_found None g h = h refl

module _ (c : List ℕ) (k : ℕ) where
  -- a page that a copy claims has a frame
  pub copied_framed : is_copied c k ≡ true → Framed c k
  unfolding is_copied
  copied_framed h =
      by_found (frame_of c (key_claim k))
      (λ f e.
      let t : First (claims c (key_claim k)) (frames c) f.0 = frame_found c (key_claim k) f e in
      record { frame = f.0; below = t.below; claimed = t.passes; found = e })
      (λ e. absurd (differ (is_found (frame_of c (key_claim k))) h (rw e)))

  -- a page that a frame claims is copied
  pub claimed_copied : (j : ℕ) → j < frames c → claims c (key_claim k) j ≡ true → is_copied c k ≡ true
  unfolding is_copied
  claimed_copied j l h =
      by_found (frame_of c (key_claim k)) (λ f e. rw e)
      (λ e. absurd (differ (claims c (key_claim k) j) h (frame_none c (key_claim k) e j l)))

-- entry i claims its own page, where it is a copy
pub own_claim : (c : List ℕ) (i : ℕ) → is_copy c i ≡ true → claims c (Copy (frame_entry_of c i).account (frame_entry_of c i).page) i ≡ true
own_claim c i h =
    copy_claims c i (frame_entry_of c i).account (frame_entry_of c i).page (record { usage = eqb-true _ _ h; account = refl; page = refl })

-- ---- the list

module _ (s : List ℕ) (b : Buffers) (r : Replay) (g : Good s b r) where
  -- a touched page has a frame
  pub touched_framed : (k : ℕ) → k < key_limit → r.touched k ≡ true → Framed b.control k
  touched_framed k l t = copied_framed b.control k (sym (g.claimed k l) ∙ t)

  -- no page of a copy is claimed before
  not_before : (i : ℕ) → i < frames b.control → is_copy b.control i ≡ true → claimed_before b.control i ≡ false
  unfolding claimed_before
  not_before i l h =
      ap not
      (every_all _ i
      (λ j m.
      by_test (claims b.control (Copy (frame_entry_of b.control i).account (frame_entry_of b.control i).page) j)
      (λ e. absurd (omega (arith, g.once _ _ j i (omega arith) l e (own_claim b.control i h)))) (λ e. rw e)))

  -- every copy can be listed
  copy_listable_lem : (i : ℕ) → i < frames b.control → is_copy b.control i ≡ true → copy_listable s b.control i ≡ true
  unfolding copy_listable page_there
  copy_listable_lem i l h =
      let v : LivePage s (frame_entry_of b.control i).account.0 (frame_entry_of b.control i).page.0 =
      g.live _ _ i l (own_claim b.control i h) in
      rw (
        lt-ltb _ _ v.known,
        v.entry,
        le-leb _ _ (live_positive (data_length (entry_of s (frame_entry_of b.control i).account)) (frame_entry_of b.control i).page v.present),
        not_before i l h,
      )

  -- so every entry can
  pub all_listable : every (listable s b.control) (frames b.control) ≡ true
  all_listable =
      every_all _ _
      (λ i l.
      unfold listable in
      by_test (is_copy b.control i) (λ h. rw h (copy_listable_lem i l h)) (λ h. rw h))

  -- the keys of the copies are those of the touched pages
  pub keys_right : copy_keys b.control ≡ touched_keys r
  unfolding copy_keys touched_keys
  keys_right = picked_ext (is_copied b.control) r.touched 0 key_limit (λ k l. sym (g.claimed k (omega arith)))

  -- the page of a touched key is the plain copy's
  pub page_right : (k : ℕ) → k < key_limit → r.touched k ≡ true → page_bytes s b.control b.pool k ≡ plain_page s r k
  unfolding page_bytes plain_page
  page_right k l t =
      let f : Framed b.control k = touched_framed k l t in
      rw f.found
      (ap (padded (live s (key_account k) (key_page k)))
      (bytes_at_ext page_size b.pool (r.plain (k / 65536)) (page_size * f.frame) (page_size * (k % 65536))
      (g.held (k / 65536) (k % 65536) f.frame f.below f.claimed)))

  -- the depth that its entry holds is the replay's
  pub depth_right : (k : ℕ) → k < key_limit → r.touched k ≡ true → copy_depth b.control k ≡ r.first k
  unfolding copy_depth
  depth_right k l t =
      let f : Framed b.control k = touched_framed k l t in
      let e : key_of (k / 65536) (k % 65536) ≡ k = omega arith in
      rw f.found (rw e at (g.deep.taken (k / 65536) (k % 65536) f.frame f.below f.claimed))

  -- a key of the list is touched
  pub key_touched : (k : ℕ) → Member k (touched_keys r) → (k < key_limit) × (r.touched k ≡ true)
  unfolding touched_keys
  key_touched k m = let c = picked-passes r.touched 0 key_limit k m in (omega arith, c.2)

  -- the change list is the one expected
  pub changes_right : change_list s b.control b.pool ≡ expected_list s r
  unfolding change_list expected_list list_bytes
  changes_right =
      rw (
        keys_right,
        joined_ext (λ k. change_bytes (change_of s (copy_depth b.control) k)) (λ k. change_bytes (change_of s r.first k)) (touched_keys r)
            (λ k m. let t = key_touched k m in rw (depth_right k t.0 t.1)),
        joined_ext (page_bytes s b.control b.pool) (plain_page s r) (touched_keys r)
            (λ k m. let t = key_touched k m in page_right k t.0 t.1),
      )

  -- ---- the call

  module _ (out : List ℕ) (room : list_total (length (touched_keys r)) ≤ length out) where
    -- it passes every check
    list_passes : list_check s b.control b.pool (length out) ≡ Ok tt
    unfolding list_check
    list_passes =
        need_on _ _ _ g.buffers ∙ need_on _ _ _ all_listable ∙ need_last _ _ (rw keys_right (le-leb _ _ room))

    -- "After the history the change list, given at least its total, answers 0. Its bytes are those laid out above"
    pub list_right : ListRight s b r out
    list_right =
        record {
          number = unfold change_list_number in rw list_passes;
          bytes = unfold change_list_out in rw (list_passes, changes_right);
        }
