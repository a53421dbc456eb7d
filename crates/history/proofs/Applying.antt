-- Applying the change list after a history to an account's original data: the list is good for the account, and what it leaves is the
-- plain copy. Assumes nothing.
use mathlib.Core.Path.{◌≡◌, refl, sym, ◌∙◌}
use mathlib.Core.Bool.{true, false}
use mathlib.Core.List.{List}
use Prim.Native.Nat.{ℕ, zero, suc, ◌+◌, ◌*◌, ◌-◌, ◌/◌, ◌%◌, ◌≤◌, ◌<◌}
use native.Mathlib.Nat.{zero-add}
use native.Mathlib.Omega.{arith}
use lib.ListN.{length, get_or}
use lib.Seq.{ext_get_or}
use lib.Dec.{eqb}
use borrow.Author.Tests.{lt-ltb, le-leb, eq-eqb, eqb-true, ltb-true}
use Rattle.layout.specs.Page.{page_size}
use Rattle.layout.specs.List.{list_header, pages_at, list_total}
use Rattle.words.specs.Words.{word_at, bytes_at}
use Rattle.words.proofs.Splice.{length-splice}
use Rattle.words.proofs.Run.{get_or-bytes_at}
use Rattle.choice.proofs.Ascending.{Member, passes-picked, picked_ascending}
use Rattle.choice.proofs.Every.{every_all}
use Rattle.choice.proofs.Tests.{by_test, differ, both_intro}
use Rattle.refusal.specs.declared.Refusal.TheVariants.{BadList}
use Rattle.refusal.proofs.Checks.{need_last}
use Rattle.snapshot.specs.Header.{accounts}
use Rattle.snapshot.specs.Accounts.{known, entry_of, data_length, entry_valid, original}
use Rattle.snapshot.specs.declared.accounts.Account.{Account}
use Rattle.snapshot.proofs.Facts.{snapshot_facts, data_short, length-original}
use Rattle.control.proofs.Facts.{buffers_facts}
use Rattle.control.specs.Buffers.{Buffers}
use Rattle.pages.proofs.PageBytes.{live_most, live_positive}
use Rattle.pages.specs.Pages.{live_of, live}
use Rattle.changes.specs.Keys.{key_of, key_account, key_page, key_limit}
use Rattle.changes.specs.List.{padded, change_list_out}
use Rattle.changes.proofs.Written.{length-padded}
use Rattle.apply.specs.Apply.{list_count, change_account, change_page, change_live, layout_exact, ascends, change_good, list_good, applied, apply_number, apply_data}
use Rattle.apply.proofs.Applied.{length-applied, applied_other, applied_page}
use Rattle.history.specs.Replay.{Replay, touched_keys, plain_page, expected_list}
use Rattle.history.specs.Claims.{ApplyRight}
use Rattle.history.proofs.Good.{LivePage, Good}
use Rattle.history.proofs.Listing.{Framed, touched_framed, key_touched, list_right}
use Rattle.history.proofs.Counted.{touched_few}
use Rattle.history.proofs.Reading.{list_in, ReadBack, read_back}

-- ---- a page of the list

-- it has 4,096 bytes
length_page : (s : List ℕ) (r : Replay) (k : ℕ) → length (plain_page s r k) ≡ page_size
unfolding plain_page
length_page s r k = length-padded _ _

-- a live one is the plain copy's
page_byte : (s : List ℕ) (r : Replay) (k j : ℕ) → j < live s (key_account k) (key_page k)
    → get_or (plain_page s r k) j 0 ≡ get_or (r.plain (k / 65536)) (page_size * (k % 65536) + j) 0
unfolding plain_page padded
page_byte s r k j h =
    let n : ℕ = live s (key_account k) (key_page k) in
    let m : n ≤ page_size = live_most (data_length (entry_of s (key_account k))) (key_page k) in
    let page : List ℕ = bytes_at page_size (r.plain (k / 65536)) (page_size * (k % 65536)) in
    get_or-bytes_at page_size (bytes_at n page 0) 0 j (omega arith)
    ∙ rw zero-add
    (get_or-bytes_at n page 0 j h ∙ rw zero-add (get_or-bytes_at page_size (r.plain (k / 65536)) (page_size * (k % 65536)) j (omega arith)))

-- ---- the list of a history

module _ (s : List ℕ) (b : Buffers) (r : Replay) (g : Good s b r) (out : List ℕ) (room : list_total (length (touched_keys r)) ≤ length out) where
  -- the buffer with the list
  abbrev list : List ℕ
  list = list_in out s r.first (plain_page s r) (touched_keys r)

  -- key i
  abbrev key : ℕ → ℕ
  key i = get_or (touched_keys r) i 0

  -- what is read of the list
  back : ReadBack list s (plain_page s r) (touched_keys r)
  back = read_back s r.first (plain_page s r) (touched_keys r) out (length_page s r) (touched_few s b r g) room

  -- the layout is exact
  layout_right : layout_exact list ≡ true
  unfolding layout_exact
  layout_right =
      let k : ReadBack list s (plain_page s r) (touched_keys r) = back in
      let m : length list ≡ length out = length-splice out 0 _ in
      let e : word_at 4 list 8 ≡ pages_at (list_count list) = omega arith in
      let f : word_at 4 list 12 ≡ list_total (list_count list) = omega arith in
      both_intro _ _ (le-leb list_header (length list) (omega arith))
      (both_intro _ _ (eq-eqb _ _ k.entries)
      (both_intro _ _ (eq-eqb _ _ e) (both_intro _ _ (eq-eqb _ _ f) (le-leb (list_total (list_count list)) (length list) (omega arith)))))

  module _ (i : ℕ) (h : i < length (touched_keys r)) where
    -- a key is below the limit and touched
    key_good : (key i < key_limit) × (r.touched (key i) ≡ true)
    key_good = key_touched s b r g (key i) (record { at = i; below = h; is = refl })

    -- entry i, read back
    account_is : change_account list i ≡ key i / 65536
    account_is = back.account i h key_good.0

    page_is : change_page list i ≡ key i % 65536
    page_is = back.page_number i h

    live_is : change_live list i ≡ live s (key_account (key i)) (key_page (key i))
    live_is = back.live_count i h

    -- its page has live bytes
    live_some : 1 ≤ live s (key_account (key i)) (key_page (key i))
    live_some =
        let f : Framed b.control (key i) = touched_framed s b r g (key i) key_good.0 key_good.1 in
        let v : LivePage s (key i / 65536) (key i % 65536) = g.live _ _ f.frame f.below f.claimed in
        live_positive (data_length (entry_of s (key_account (key i)))) (key_page (key i)) v.present

  -- the entries ascend
  ascends_right : (i : ℕ) → i < length (touched_keys r) → ascends list i ≡ true
  unfolding ascends
  ascends_right zero h = rw (eq-eqb 0 0 refl)
  ascends_right (suc j) h =
      let z : suc j - 1 ≡ j = omega arith in
      let l : j < length (touched_keys r) = omega arith in
      let o : key j < key (suc j) = unfold touched_keys in picked_ascending r.touched 0 key_limit j (suc j) (omega arith) (unfold touched_keys in h) in
      rw (
        z,
        account_is j l,
        page_is j l,
        account_is (suc j) h,
        page_is (suc j) h,
        lt-ltb (key_of (key j / 65536) (key j % 65536)) (key_of (key (suc j) / 65536) (key (suc j) % 65536)) (omega arith),
      )
      (by_test (eqb (suc j) 0) (λ e. rw e) (λ e. rw e))

  module _ (a : Account) where
    -- each entry is good
    change_right : (i : ℕ) → i < length (touched_keys r) → change_good list a (length (original s a)) i ≡ true
    unfolding change_good
    change_right i h =
        rw (
          ascends_right i h,
          back.ends i h,
          live_is i h,
          account_is i h,
          page_is i h,
          length-original s a,
          le-leb _ _ (live_some i h),
          le-leb _ _ (live_most (data_length (entry_of s (key_account (key i)))) (key_page (key i))),
        )
        (by_test (eqb (key i / 65536) a.0)
        (λ e. rw (eqb-true (key i / 65536) a.0 e, eq-eqb a.0 a.0 refl, eq-eqb _ _ refl)) (λ e. rw e))

    -- so the list is
    pub good_right : list_good list a (length (original s a)) ≡ true
    unfolding list_good
    good_right = both_intro _ _ layout_right (rw back.count (every_all _ _ change_right))

    -- ---- the data

    -- what the list leaves
    abbrev left : List ℕ
    left = applied list a (original s a) (list_count list)

    -- its length is the plain copy's
    left_length : length left ≡ length (r.plain a.0)
    left_length = length-applied list a (original s a) (list_count list) ∙ sym (g.sized a.0)

    module _ (q j : ℕ) (low : a.0 < 65536) (paged : q < 65536) (inside : j < page_size) where
      -- a byte of a touched page is the list's, which is the plain copy's
      byte_touched : r.touched (key_of a.0 q) ≡ true → page_size * q + j < length left
          → get_or left (page_size * q + j) 0 ≡ get_or (r.plain a.0) (page_size * q + j) 0
      byte_touched t h =
          let w : Member (key_of a.0 q) (touched_keys r) =
          unfold touched_keys in passes-picked r.touched 0 key_limit (key_of a.0 q) (omega arith) (omega arith) t in
          let i : ℕ = w.at in
          let u : key i / 65536 ≡ a.0 = omega arith in
          let v : key i % 65536 ≡ q = omega arith in
          let x : change_account list i ≡ a.0 = account_is i w.below ∙ u in
          let y : change_page list i ≡ q = page_is i w.below ∙ v in
          let n : page_size * q + j < data_length (entry_of s a) = omega (arith, length-applied list a (original s a) (list_count list), length-original s a) in
          let l : j < live s (key_account (key i)) (key_page (key i)) = rw (u, v) (unfold live_of in omega arith) in
          rw y at (applied_page list a (original s a) good_right i j (rw back.count w.below) x (rw (live_is i w.below) l))
          ∙ rw back.count (back.page_byte i w.below j inside)
          ∙ rw (u, v) at (page_byte s r (key i) j l)

      -- a byte of an untouched page is the original's, which is the plain copy's
      byte_kept : r.touched (key_of a.0 q) ≡ false → get_or left (page_size * q + j) 0 ≡ get_or (r.plain a.0) (page_size * q + j) 0
      byte_kept t =
          applied_other list a (original s a) good_right (list_count list) q j (omega arith)
          (λ i h x y.
          let l : i < length (touched_keys r) = rw back.count at h in
          let e : key i ≡ key_of a.0 q = omega (arith, account_is i l, page_is i l) in
          differ (r.touched (key i)) (key_good i l).1 (rw e t))
          inside
          ∙ sym (g.kept a.0 q low paged t j inside)

    module _ (below : known s a ≡ true) (fit : entry_valid s a ≡ true) where
      -- what the list leaves is the plain copy
      pub applied_right : left ≡ r.plain a.0
      applied_right =
          ext_get_or 0 left (r.plain a.0) left_length
          (λ j l.
          let e : j ≡ page_size * (j / page_size) + j % page_size = omega arith in
          let m : a.0 < 65536 =
          omega (arith, ltb-true a.0 (accounts s) below, snapshot_facts s (buffers_facts s b.control b.pool g.buffers).snapshot) in
          let q : j / page_size < 65536 =
          omega (arith, length-applied list a (original s a) (list_count list), length-original s a, data_short s a fit) in
          rw e
          (by_test (r.touched (key_of a.0 (j / page_size))) (λ t. byte_touched (j / page_size) (j % page_size) m q (omega arith) t (omega arith))
          (byte_kept (j / page_size) (j % page_size) m q (omega arith))))

      -- "Applying it to the original data of an account with a fit entry answers 0 and leaves that plain copy."
      pub apply_right : ApplyRight s b r out a
      apply_right =
          let e : change_list_out s b.control b.pool out ≡ list = unfold expected_list in (list_right s b r g out room).bytes in
          record {
            number = rw e (unfold apply_number in rw (need_last _ BadList good_right));
            «data» = rw e (unfold apply_data in rw (need_last _ BadList good_right, applied_right));
          }
