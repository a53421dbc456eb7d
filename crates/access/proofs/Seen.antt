-- What an accepted load of account data gives: the bytes of the page's frame, or else the original data's; and the bytes of a copy, which are the
-- original data's, too. Assumes nothing.
use Rattle.std.proofs.Common.{ℕ, ◌+◌, ◌≤◌, ◌<◌, ◌≡◌, refl, sym, ◌∙◌, List, arith, length, get_or}
use Rattle.layout.specs.Page.{page_size}
use Rattle.words.specs.Words.{word_at, bytes_at}
use Rattle.words.proofs.Splice.{splice_in}
use Rattle.words.proofs.Word.{word_ext}
use Rattle.words.proofs.Run.{bytes_at_ext}
use Rattle.address.specs.Address.{type_of, offset_of}
use Rattle.snapshot.specs.Accounts.{entry_of, data_length, original}
use Rattle.snapshot.proofs.Facts.{get_or-original}
use Rattle.pages.specs.Pages.{page_start, frame_start, in_frame, original_page}
use Rattle.pages.proofs.PageBytes.{length-original_page, original_byte}
use Rattle.frames.specs.Table.{frame_of}
use Rattle.segments.specs.Kinds.{kind_load, kind_load_span}
use Rattle.translate.specs.Translate.{translate_of}
use Rattle.translate.specs.declared.place.NewCopy.{NewCopy}
use Rattle.translate.specs.declared.place.Place.{Place}
use Rattle.translate.proofs.Accepted.{account_of, data_accepted}
use Rattle.translate.proofs.Stores.{copy_of, LoadPlace, from_copy, from_original, load_place}
use Rattle.access.specs.Loads.{value_at, value_in, span_at, load_of, load_span_out}
use Rattle.access.specs.Stores.{taken_pool}
use Rattle.std.specs.Prelude.{None, Ok, Option, Some}
use Rattle.pages.specs.declared.Frame.{Frame}

-- ---- the copy of a page

-- its bytes are the original data's
pub copied_byte : (s p : List ℕ) (t : NewCopy) → frame_start t.frame + page_size ≤ length p → (k : ℕ) → k < page_size
    → get_or (taken_pool s p t) (frame_start t.frame + k) 0 ≡ get_or (original s t.account) (page_start t.page + k) 0
copied_byte s p t h k l =
    let n : length (original_page s t.account t.page) ≡ page_size = length-original_page s t.account t.page in
    splice_in p (frame_start t.frame) (original_page s t.account t.page) k (omega arith) (omega arith)
    ∙ original_byte s t.account t.page k l

-- ---- an accepted load of account data

-- what is read at an address: in the frame that was found for its page, or else in the original data
abbrev pub seen : {X : Type 0} → (List ℕ → ℕ → X) → List ℕ → List ℕ → ℕ → Option Frame → X
seen read s p a (Some f) = read p (in_frame f (offset_of a))
seen read s p a None = read (original s (account_of a)) (offset_of a)

module _ (s c p : List ℕ) (a : ℕ) where
  -- n bytes of the original data stand in the snapshot
  original-run : (n : ℕ) → offset_of a + n ≤ data_length (entry_of s (account_of a)) → (k : ℕ) → k < n
      → get_or s ((entry_of s (account_of a)).start + offset_of a + k) 0 ≡ get_or (original s (account_of a)) (offset_of a + k) 0
  original-run n h k l =
      let e : (entry_of s (account_of a)).start + offset_of a + k ≡ (entry_of s (account_of a)).start + (offset_of a + k) = omega arith in
      rw e (sym (get_or-original s (account_of a) (offset_of a + k) (omega arith)))

  -- the value at either place
  value_seen : (n : ℕ) → offset_of a + n ≤ data_length (entry_of s (account_of a)) → {kind : ℕ} {q : Place} → LoadPlace s c kind a q
      → value_at s c p n q ≡ seen (word_at n) s p a (frame_of c (copy_of a))
  value_seen n h (from_copy x) = rw (x.held, x.place)
  value_seen n h (from_original x) = rw (x.none, x.place) (word_ext n _ _ _ _ (original-run n h))

  -- the bytes at either place
  span_seen : (out : List ℕ) → offset_of a + length out ≤ data_length (entry_of s (account_of a)) → {kind : ℕ} {q : Place}
      → LoadPlace s c kind a q → span_at s c p out q ≡ seen (bytes_at (length out)) s p a (frame_of c (copy_of a))
  span_seen out h (from_copy x) = rw (x.held, x.place)
  span_seen out h (from_original x) = rw (x.none, x.place) (bytes_at_ext (length out) _ _ _ _ (original-run (length out) h))

  -- "Later loads in type 3 .. read the frame": the value of a load
  pub load_value : (n : ℕ) {q : Place} → type_of a ≡ 3 → translate_of s c p kind_load a n ≡ Ok q
      → value_in (load_of s c p a n) ≡ seen (word_at n) s p a (frame_of c (copy_of a))
  unfolding load_of
  load_value n h e =
      rw e (value_seen n (data_accepted s c p kind_load a n e refl h).0.present (load_place s c p kind_load a n refl h e))

  -- the bytes of a span load
  pub load_span_bytes : (out : List ℕ) {q : Place} → type_of a ≡ 3 → translate_of s c p kind_load_span a (length out) ≡ Ok q
      → load_span_out s c p a out ≡ seen (bytes_at (length out)) s p a (frame_of c (copy_of a))
  unfolding load_span_out
  load_span_bytes out h e =
      rw e
      (span_seen out (data_accepted s c p kind_load_span a (length out) e refl h).0.present
      (load_place s c p kind_load_span a (length out) refl h e))
