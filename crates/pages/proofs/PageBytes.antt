-- The bytes of a page: put into one frame or page they leave the others, a page's live bytes are those of the data, and its original
-- bytes are the data's, then zeros. Assumes nothing.
use Rattle.std.proofs.Common.{ℕ, ◌+◌, ◌*◌, ◌-◌, ◌≤◌, ◌<◌, ◌≡◌, sym, ◌∙◌, ◌≢◌, List, [], ◌++◌, arith, length, get_or}
use Rattle.std.proofs.Math.Decide.{dec_lt}
use Rattle.std.proofs.Math.ListN.{get_or-eq_default}
use Rattle.layout.specs.Page.{page_size}
use Rattle.words.specs.Words.{splice, bytes_at, zeros}
use Rattle.words.proofs.Splice.{splice_before, splice_behind, splice_in}
use Rattle.words.proofs.Run.{length-bytes_at, get_or-bytes_at, bytes_at_ext, run-append, run_past}
use Rattle.snapshot.specs.Accounts.{entry_of, data_length, original}
use Rattle.snapshot.specs.declared.accounts.Account.{Account}
use Rattle.snapshot.proofs.Facts.{length-original, get_or-original}
use Rattle.pages.specs.Pages.{live_of, live, original_page}
use Rattle.pages.specs.declared.Page.{Page}

-- ---- bytes put into one page

-- another page keeps its bytes
pub elsewhere : (s : List ℕ) (f w : ℕ) (bs : List ℕ) → w + length bs ≤ page_size → (i k : ℕ) → i ≢ f → k < page_size
    → get_or (splice s (page_size * f + w) bs) (page_size * i + k) 0 ≡ get_or s (page_size * i + k) 0
elsewhere s f w bs h i k d l =
    elim (dec_lt i f) [
      | yes q ↦ splice_before s (page_size * f + w) bs (page_size * i + k) (omega arith)
      | no q ↦ splice_behind s (page_size * f + w) bs (page_size * i + k) (omega arith)
    ]

-- lists that agree at two places agree there after the same bytes are put in as far on
pub alike : (s t : List ℕ) (i j w : ℕ) (bs : List ℕ) → i + w + length bs ≤ length s → j + w + length bs ≤ length t
    → (k : ℕ) → get_or s (i + k) 0 ≡ get_or t (j + k) 0 → get_or (splice s (i + w) bs) (i + k) 0 ≡ get_or (splice t (j + w) bs) (j + k) 0
alike s t i j w bs h l k e =
    elim (dec_lt k w) [
      | yes q ↦ splice_before s (i + w) bs (i + k) (omega arith) ∙ e ∙ sym (splice_before t (j + w) bs (j + k) (omega arith))
      | no q ↦
          elim (dec_lt k (w + length bs)) [
            | yes m ↦
                let u : i + k ≡ i + w + (k - w) = omega arith in
                let v : j + k ≡ j + w + (k - w) = omega arith in
                rw (u, v) (splice_in s (i + w) bs (k - w) (omega arith) h ∙ sym (splice_in t (j + w) bs (k - w) (omega arith) l))
            | no m ↦ splice_behind s (i + w) bs (i + k) (omega arith) ∙ e ∙ sym (splice_behind t (j + w) bs (j + k) (omega arith))
          ]
    ]

-- ---- live bytes

module _ (size : ℕ) (p : Page) where
  -- a page has at most 4,096
  pub live_most : live_of size p ≤ page_size
  unfolding live_of
  live_most = omega arith

  -- each is a byte of the data
  pub live_inside : (k : ℕ) → k < live_of size p → page_size * p.0 + k < size
  unfolding live_of
  live_inside k h = omega arith

  -- a page that begins within the data has one
  pub live_positive : page_size * p.0 < size → 1 ≤ live_of size p
  unfolding live_of
  live_positive h = omega arith

  -- behind them the page or the data ends
  pub live_ends : (k : ℕ) → live_of size p ≤ k → k < page_size → size ≤ page_size * p.0 + k
  unfolding live_of
  live_ends k h l = omega arith

-- ---- original bytes

module _ (s : List ℕ) (a : Account) (p : Page) where
  -- a page has 4,096
  pub length-original_page : length (original_page s a p) ≡ page_size
  unfolding original_page
  length-original_page = length-bytes_at page_size (original s a) (page_size * p.0)

  -- each is the data's
  pub original_byte : (k : ℕ) → k < page_size → get_or (original_page s a p) k 0 ≡ get_or (original s a) (page_size * p.0 + k) 0
  unfolding original_page
  original_byte k h = get_or-bytes_at page_size (original s a) (page_size * p.0) k h

  -- the live ones stand in the snapshot
  live-run : bytes_at (live s a p) (original s a) (page_size * p.0) ≡ bytes_at (live s a p) s ((entry_of s a).start + page_size * p.0)
  live-run =
      bytes_at_ext (live s a p) (original s a) s (page_size * p.0) ((entry_of s a).start + page_size * p.0)
      (λ k h.
      let e : (entry_of s a).start + page_size * p.0 + k ≡ (entry_of s a).start + (page_size * p.0 + k) = omega arith in
      rw e (get_or-original s a (page_size * p.0 + k) (live_inside (data_length (entry_of s a)) p k h)))

  -- the others are zeros
  rest_run : bytes_at (page_size - live s a p) (original s a) (page_size * p.0 + live s a p) ≡ zeros (page_size - live s a p)
  rest_run =
      bytes_at_ext (page_size - live s a p) (original s a) [] (page_size * p.0 + live s a p) 0
      (λ k h.
      get_or-eq_default (original s a) 0
      (omega (arith, length-original s a, live_ends (data_length (entry_of s a)) p (live s a p + k) (omega arith) (omega arith))))
      ∙ run_past (page_size - live s a p) [] 0 (omega arith)

  -- "copies the page's original bytes, fills the rest with zeros"
  pub original_page_is : original_page s a p ≡ bytes_at (live s a p) s ((entry_of s a).start + page_size * p.0) ++ zeros (page_size - live s a p)
  unfolding original_page
  original_page_is =
      let e : live s a p + (page_size - live s a p) ≡ page_size = omega (arith, live_most (data_length (entry_of s a)) p) in
      rw (live-run, rest_run, e) at (run-append (live s a p) (page_size - live s a p) (original s a) (page_size * p.0))
