-- The change list's answers, from what the code has found out: the first test that fails refuses and leaves the buffer; where
-- all pass, the codes' entries and pages are those of the keys in ascending order. Assumes nothing.
use Rattle.std.proofs.Common.{ℕ, ◌*◌, ◌/◌, ◌≤◌, ◌<◌, ◌≡◌, refl, sym, ap, ◌∙◌, subst, true, false, List, ◌++◌, map, arith, leb, length, get_or, le-leb}
use Rattle.std.proofs.Math.ListN.{length-map}
use borrow.Author.Tests.{lt-leb}
use Rattle.layout.specs.Control.{frame_limit}
use Rattle.layout.specs.List.{list_header, change_size, pages_at, list_total}
use Rattle.words.specs.Words.{splice}
use Rattle.choice.specs.Search.{every}
use Rattle.choice.proofs.Ascending.{Member}
use Rattle.choice.proofs.Every.{every_at}
use Rattle.choice.proofs.Tests.{both_true}
use Rattle.refusal.specs.Checks.{need}
use Rattle.refusal.specs.declared.Refusal.{Refusal}
use Rattle.refusal.specs.declared.Refusal.TheVariants.{Invalid, ShortOutput}
use Rattle.refusal.proofs.Checks.{need_on, need_stop, need_last, need_refused}
use Rattle.snapshot.specs.Accounts.{known}
use Rattle.control.specs.Control.{frames, buffers_valid}
use Rattle.control.proofs.Facts.{control_facts, BuffersFacts, buffers_facts}
use Rattle.pages.specs.Pages.{page_there}
use Rattle.frames.specs.Table.{frame_entry_of, is_copy}
use Rattle.frames.proofs.Entries.{EntryRange, entry_range}
use Rattle.changes.specs.Keys.{copy_keys}
use Rattle.changes.specs.Entry.{change_bytes, change_of}
use Rattle.changes.specs.List.{list_header_bytes, joined, list_bytes, page_bytes, copy_depth, change_list, listable, list_check, change_list_out}
use Rattle.changes.specs.Copies.{code_key, code_depth, table_codes, codes_below, key_twice, entry_listable, code_entry, code_page, ChangeFits, Answered}
use Rattle.sort.specs.Sort.{sorted}
use Rattle.changes.proofs.Codes.{CopyCode, codes_copies}
use Rattle.changes.proofs.Apart.{Apart, once_apart, code_found, code_told, keys_are}
use Rattle.changes.proofs.Listable.{listable_all, unlistable_entry, unlistable_twice}
use Rattle.changes.proofs.Written.{joined_images, joined_ext, length-joined, length_change, parts_written}
use Rattle.std.specs.Prelude.{Err, Ok}

-- what the code has found out before it asks for room: the codes, in order
pub record Listed (s c p order : List ℕ) : Type 0 where
  pub valid : buffers_valid s c p ≡ true
  pub bytes : (k : ℕ) → get_or c k 0 < 256
  pub codes : order ≡ codes_below c (frames c)
  pub entries : every (entry_listable s c) (frames c) ≡ true
  pub differ : key_twice order ≡ false

-- ---- the copies gathered and put in order

-- the codes of all the copies, sorted
pub sorted_codes : (c gathered : List ℕ) {order : List ℕ} → order ≡ sorted gathered → gathered ≡ table_codes c 0 (frames c) → order ≡ codes_below c (frames c)
unfolding codes_below
sorted_codes c gathered e f = e ∙ ap sorted f

-- ---- refusals

module _ (s c p : List ℕ) where
  -- a refusal, and the buffer as it was
  stopped : (out : List ℕ) {r : Refusal} → list_check s c p (length out) ≡ Err r → Answered s c p out (Err r) out
  unfolding change_list_out
  stopped out e = rw e (refl, refl)

  -- the buffers are not valid
  pub bad_buffers : (out : List ℕ) → buffers_valid s c p ≡ false → Answered s c p out (Err Invalid) out
  unfolding list_check
  bad_buffers out e = stopped out (need_stop (buffers_valid s c p) Invalid _ e)

  module _ (v : buffers_valid s c p ≡ true) where
    -- there are at most 1,024 frames
    few : frames c ≤ frame_limit
    few = (control_facts c (buffers_facts s c p v).control).few_frames

    -- a copy cannot be listed
    unlistable : (out : List ℕ) → every (listable s c) (frames c) ≡ false → Answered s c p out (Err Invalid) out
    unfolding list_check
    unlistable out e = stopped out (need_on (buffers_valid s c p) Invalid _ v ∙ need_stop (every (listable s c) (frames c)) Invalid _ e)

    module _ (bytes : (k : ℕ) → get_or c k 0 < 256) (out : List ℕ) where
      -- by its account or its page
      pub bad_entry : every (entry_listable s c) (frames c) ≡ false → Answered s c p out (Err Invalid) out
      bad_entry e = unlistable out (unlistable_entry s c bytes (frames c) few e)

      -- by a claim before it
      pub bad_twice : {xs : List ℕ} → xs ≡ codes_below c (frames c) → key_twice xs ≡ true → Answered s c p out (Err Invalid) out
      bad_twice g e = unlistable out (unlistable_twice s c bytes (frames c) few (rw g at e))

-- ---- the list

module _ (s c p order : List ℕ) (h : Listed s c p order) where
  -- there are at most 1,024 frames
  limit : frames c ≤ frame_limit
  limit = few s c p h.valid

  -- no two neighbours among the codes have one key
  once : key_twice (codes_below c (frames c)) ≡ false
  once = rw h.codes at h.differ

  -- no two copies are of one page
  apart : Apart c (frames c)
  apart = once_apart c h.bytes (frames c) limit once

  -- their keys are those of the list
  keys : map code_key order ≡ copy_keys c
  keys = rw h.codes (keys_are c h.bytes limit apart)

  -- there are as many of them
  count : length (copy_keys c) ≡ length order
  count = sym (ap length keys) ∙ length-map order code_key

  -- the buffers' and the copies' tests pass
  goes_on : (out : List ℕ) → list_check s c p (length out) ≡ need (leb (list_total (length order)) (length out)) ShortOutput
  unfolding list_check
  goes_on out =
      need_on (buffers_valid s c p) Invalid _ h.valid
      ∙ need_on (every (listable s c) (frames c)) Invalid _ (listable_all s c h.bytes (frames c) limit h.entries once)
      ∙ ap (λ (k : ℕ). need (leb (list_total k) (length out)) ShortOutput) count

  -- the lent buffer is too short
  pub bad_room : (out : List ℕ) {n t : ℕ} → length order ≡ n → t ≡ list_total n → length out < t → Answered s c p out (Err ShortOutput) out
  bad_room out k e l = stopped s c p out (goes_on out ∙ need_refused _ ShortOutput (lt-leb (list_total (length order)) (length out) (rw (e, ← k) at l)))

  -- each copy's account is below A
  entry_known : (i : ℕ) → i < frames c → is_copy c i ≡ true → known s (frame_entry_of c i).account ≡ true
  unfolding entry_listable page_there
  entry_known i l q =
      (both_true (known s (frame_entry_of c i).account) _ (rw q at (every_at (entry_listable s c) (frames c) i h.entries l))).0

  -- each code fits the snapshot and the pool
  pub code_fits : (j : ℕ) → j < length order → ChangeFits s p (get_or order j 0)
  code_fits j l =
      let f : BuffersFacts s c p = buffers_facts s c p h.valid in
      let m : Member (get_or order j 0) order = record { at = j; below = l; is = refl } in
      let u : CopyCode c (frames c) (get_or order j 0) = codes_copies c (frames c) (get_or order j 0) (subst (λ (xs : List ℕ). Member (get_or order j 0) xs) h.codes m) in
      let r : EntryRange (frame_entry_of c u.frame) = entry_range c h.bytes u.frame in
      let a : code_key (get_or order j 0) / 65536 ≡ (frame_entry_of c u.frame).account.0 =
      omega (arith, u.is, u.below, r.page, r.depth, limit) in
      record {
        snapshot = f.snapshot;
        account = rw a (entry_known u.frame u.below u.copy);
        frame = omega (arith, u.is, u.below, r.depth, f.pool, limit);
      }

  -- a code's page is the page of its key
  same_page : (x : ℕ) → Member x order → code_page s p x ≡ page_bytes s c p (code_key x)
  unfolding page_bytes
  same_page x m = rw (code_found c h.bytes limit apart x (rw h.codes at m))

  -- a code's entry is the entry of its key
  same_entry : (x : ℕ) → Member x order → code_entry s x ≡ change_bytes (change_of s (copy_depth c) (code_key x))
  same_entry x m =
      ap (λ (d : ℕ). change_bytes (change_of s (λ _. d) (code_key x))) (code_told c h.bytes limit apart x (rw h.codes at m))

  -- pieces that are those of the keys
  of_keys : (f g : ℕ → List ℕ) → ((x : ℕ) → Member x order → f x ≡ g (code_key x)) → joined f order ≡ joined g (copy_keys c)
  of_keys f g e = joined_ext f (λ x. g (code_key x)) order e ∙ sym (joined_images g code_key order) ∙ ap (joined g) keys

  -- the parts of the codes are the change list
  parts : (list_header_bytes (length order) ++ (joined (code_entry s) order ++ joined (code_page s p) order)) ≡ change_list s c p
  unfolding change_list list_bytes
  parts =
      rw (of_keys (code_entry s) (λ k. change_bytes (change_of s (copy_depth c) k)) same_entry, of_keys (code_page s p) (page_bytes s c p) same_page, count)

  -- the list is written
  pub written : (out : List ℕ) {o₁ o₂ : List ℕ} {n t : ℕ} → length order ≡ n → t ≡ list_total n → t ≤ length out → o₁ ≡ splice out 0 (list_header_bytes n)
      → o₂ ≡ splice (splice o₁ list_header (joined (code_entry s) order)) (pages_at (length order)) (joined (code_page s p) order)
      → Answered s c p out (Ok tt) o₂
  unfolding change_list_out
  written out m e l e₁ e₂ =
      let es : List ℕ = joined (code_entry s) order in
      let k : length es ≡ change_size * length order =
      length-joined (code_entry s) change_size (λ x. length_change (change_of s (λ _. code_depth x) (code_key x))) order in
      let q : list_check s c p (length out) ≡ Ok tt = goes_on out ∙ need_last _ ShortOutput (le-leb (list_total (length order)) (length out) (rw (e, ← m) at l)) in
      rw q (refl, e₂ ∙ rw (e₁, ← m) (parts_written out (length order) es (joined (code_page s p) order) k) ∙ ap (splice out 0) parts)
