-- A change list read back from the buffer that it was written to: its header, its entries and its pages. Assumes nothing.
use mathlib.Core.Path.{◌≡◌, ◌∙◌}
use mathlib.Core.List.{List, [], ◌∷◌, ◌++◌}
use Prim.Native.Nat.{ℕ, zero, suc, ◌+◌, ◌*◌, ◌/◌, ◌%◌, ◌≤◌, ◌<◌}
use native.Mathlib.Nat.{zero-add, mul-suc, mul-zero}
use native.Mathlib.Omega.{arith}
use lib.ListN.{length, get_or, length-append, get_or-append}
use lib.Seq.{get_or-append-add}
use Rattle.layout.specs.List.{list_header, change_size, change_at, pages_at, list_total}
use Rattle.layout.specs.Page.{page_size}
use Rattle.layout.specs.Control.{frame_limit}
use Rattle.words.specs.Words.{word_at, word_bytes, splice}
use Rattle.words.proofs.Splice.{splice_in}
use Rattle.words.proofs.Word.{word_ext, word_left, word_right, word_bytes_lem, length-word_bytes}
use Rattle.snapshot.specs.Accounts.{entry_of, data_length}
use Rattle.pages.proofs.PageBytes.{live_most}
use Rattle.pages.specs.Pages.{live}
use Rattle.changes.specs.Keys.{key_account, key_page, key_limit}
use Rattle.changes.specs.Entry.{change_bytes, change_of}
use Rattle.changes.specs.List.{list_header_bytes, joined, list_bytes}
use Rattle.changes.proofs.Written.{length-joined, length_header, length_change}
use Rattle.apply.specs.Apply.{list_count, change_account, change_page, change_live, change_zero}

-- ---- header and entry

-- a number among others in bytes, behind m bytes that stand before it
word_next : (w m : ℕ) (xs ys : List ℕ) (k : ℕ) → length xs ≡ m → word_at w (xs ++ ys) (m + k) ≡ word_at w ys k
word_next w m xs ys k e = rw (← e) (word_right w xs ys k)

-- a number at the front
word_front : (w v : ℕ) (ys : List ℕ) → word_at w (word_bytes w v ++ ys) 0 ≡ word_at w (word_bytes w v) 0
word_front w v ys = word_left w (word_bytes w v) ys 0 (omega (arith, length-word_bytes w v))

module _ (n : ℕ) (few : n ≤ frame_limit) where
  -- the header's four numbers
  header_count : word_at 4 (list_header_bytes n) 0 ≡ n
  unfolding list_header_bytes
  header_count = word_front 4 n _ ∙ word_bytes_lem 4 n (omega arith)

  header_entries : word_at 4 (list_header_bytes n) 4 ≡ list_header
  unfolding list_header_bytes
  header_entries =
      word_next 4 4 (word_bytes 4 n) _ 0 (length-word_bytes 4 n) ∙ word_front 4 list_header _ ∙ word_bytes_lem 4 list_header (omega arith)

  header_pages : word_at 4 (list_header_bytes n) 8 ≡ pages_at n
  unfolding list_header_bytes
  header_pages =
      word_next 4 4 (word_bytes 4 n) _ 4 (length-word_bytes 4 n) ∙ word_next 4 4 (word_bytes 4 list_header) _ 0 (length-word_bytes 4 list_header)
      ∙ word_front 4 (pages_at n) _
      ∙ word_bytes_lem 4 (pages_at n) (omega arith)

  header_total : word_at 4 (list_header_bytes n) 12 ≡ list_total n
  unfolding list_header_bytes
  header_total =
      word_next 4 4 (word_bytes 4 n) _ 8 (length-word_bytes 4 n) ∙ word_next 4 4 (word_bytes 4 list_header) _ 4 (length-word_bytes 4 list_header)
      ∙ word_next 4 4 (word_bytes 4 (pages_at n)) _ 0 (length-word_bytes 4 (pages_at n))
      ∙ word_bytes_lem 4 (list_total n) (omega arith)

-- the entry of a key, in bytes
abbrev row : List ℕ → (ℕ → ℕ) → ℕ → List ℕ
row s d k = change_bytes (change_of s d k)

module _ (s : List ℕ) (d : ℕ → ℕ) (k : ℕ) where
  -- an entry's numbers, but for the depth, which applying does not ask for
  change_account_lem : k < key_limit → word_at 2 (row s d k) 0 ≡ k / 65536
  unfolding change_bytes
  change_account_lem h = word_front 2 (k / 65536) _ ∙ word_bytes_lem 2 (k / 65536) (omega arith)

  change_page_lem : word_at 2 (row s d k) 2 ≡ k % 65536
  unfolding change_bytes
  change_page_lem =
      word_next 2 2 (word_bytes 2 (k / 65536)) _ 0 (length-word_bytes 2 (k / 65536)) ∙ word_front 2 (k % 65536) _
      ∙ word_bytes_lem 2 (k % 65536) (omega arith)

  change_live_lem : word_at 4 (row s d k) 4 ≡ live s (key_account k) (key_page k)
  unfolding change_bytes
  change_live_lem =
      word_next 4 2 (word_bytes 2 (k / 65536)) _ 2 (length-word_bytes 2 (k / 65536))
      ∙ word_next 4 2 (word_bytes 2 (k % 65536)) _ 0 (length-word_bytes 2 (k % 65536))
      ∙ word_front 4 (live s (key_account k) (key_page k)) _
      ∙ word_bytes_lem 4 (live s (key_account k) (key_page k)) (omega (arith, live_most (data_length (entry_of s (key_account k))) (key_page k)))

  change_zero_lem : word_at 2 (row s d k) 10 ≡ 0
  unfolding change_bytes
  change_zero_lem =
      word_next 2 2 (word_bytes 2 (k / 65536)) _ 8 (length-word_bytes 2 (k / 65536))
      ∙ word_next 2 2 (word_bytes 2 (k % 65536)) _ 6 (length-word_bytes 2 (k % 65536))
      ∙ word_next 2 4 (word_bytes 4 (live s (key_account k) (key_page k))) _ 2 (length-word_bytes 4 (live s (key_account k) (key_page k)))
      ∙ word_next 2 2 (word_bytes 2 (d k)) _ 0 (length-word_bytes 2 (d k))
      ∙ word_bytes_lem 2 0 (omega arith)

-- ---- the whole list, written to a buffer with room for it

-- a byte of piece i of pieces of one length
get_or-joined : (f : ℕ → List ℕ) (w : ℕ) → ((k : ℕ) → length (f k) ≡ w) → (ks : List ℕ) (i j : ℕ) → i < length ks → j < w
    → get_or (joined f ks) (w * i + j) 0 ≡ get_or (f (get_or ks i 0)) j 0
unfolding joined
get_or-joined f w each [] i j h l = absurd (omega arith)
get_or-joined f w each (k ∷ ks) zero j h l = rw (mul-zero, zero-add) (get_or-append (f k) (joined f ks) 0 j (omega (arith, each k)))
get_or-joined f w each (k ∷ ks) (suc i) j h l =
    let e : w * suc i + j ≡ length (f k) + (w * i + j) = rw mul-suc (omega (arith, each k)) in
    rw e (get_or-append-add (f k) (joined f ks) (w * i + j) 0 ∙ get_or-joined f w each ks i j (omega arith) l)

-- a byte of the second of two lists
second : (xs ys : List ℕ) (m j : ℕ) → length xs ≡ m → get_or (xs ++ ys) (m + j) 0 ≡ get_or ys j 0
second xs ys m j e = rw (← e) (get_or-append-add xs ys j 0)

-- what is read of a list of these keys with these pages
pub record ReadBack (l s : List ℕ) (page : ℕ → List ℕ) (ks : List ℕ) : Type 0 where
  pub count : list_count l ≡ length ks
  pub entries : word_at 4 l 4 ≡ list_header
  pub pages : word_at 4 l 8 ≡ pages_at (length ks)
  pub total : word_at 4 l 12 ≡ list_total (length ks)
  pub account : (i : ℕ) → i < length ks → get_or ks i 0 < key_limit → change_account l i ≡ get_or ks i 0 / 65536
  pub page_number : (i : ℕ) → i < length ks → change_page l i ≡ get_or ks i 0 % 65536
  pub live_count : (i : ℕ) → i < length ks → change_live l i ≡ live s (key_account (get_or ks i 0)) (key_page (get_or ks i 0))
  pub ends : (i : ℕ) → i < length ks → change_zero l i ≡ 0
  pub page_byte : (i : ℕ) → i < length ks → (k : ℕ) → k < page_size
      → get_or l (pages_at (length ks) + page_size * i + k) 0 ≡ get_or (page (get_or ks i 0)) k 0

-- the buffer with the list
abbrev pub list_in : List ℕ → List ℕ → (ℕ → ℕ) → (ℕ → List ℕ) → List ℕ → List ℕ
list_in out s d page ks = splice out 0 (list_bytes (change_of s d) page ks)

module _ (s : List ℕ) (d : ℕ → ℕ) (page : ℕ → List ℕ) (ks out : List ℕ) (each : (k : ℕ) → length (page k) ≡ page_size) (few : length ks ≤ frame_limit)
    (room : list_total (length ks) ≤ length out) where
  -- the list is as long as its total
  length_list : length (list_bytes (change_of s d) page ks) ≡ list_total (length ks)
  unfolding list_bytes
  length_list =
      simp length-append
      (omega (
        arith,
        length_header (length ks),
        length-joined (row s d) change_size (λ k. length_change (change_of s d k)) ks,
        length-joined page page_size each ks,
      ))

  -- each of its bytes is in the buffer
  written_byte : (j : ℕ) → j < list_total (length ks) → get_or (list_in out s d page ks) j 0 ≡ get_or (list_bytes (change_of s d) page ks) j 0
  written_byte j h = rw zero-add at (splice_in out 0 (list_bytes (change_of s d) page ks) j (omega (arith, length_list)) (omega (arith, length_list)))

  -- a number of the header
  read_header : (j : ℕ) → j + 4 ≤ list_header → word_at 4 (list_in out s d page ks) j ≡ word_at 4 (list_header_bytes (length ks)) j
  read_header j h =
      word_ext 4 (list_in out s d page ks) (list_header_bytes (length ks)) j j
      (λ k l.
      written_byte (j + k) (omega arith)
      ∙ unfold list_bytes in get_or-append (list_header_bytes (length ks)) _ 0 (j + k) (omega (arith, length_header (length ks))))

  -- the count
  read_count : list_count (list_in out s d page ks) ≡ length ks
  read_count = read_header 0 (omega arith) ∙ header_count (length ks) few

  -- where the entries start
  read_entries : word_at 4 (list_in out s d page ks) 4 ≡ list_header
  read_entries = read_header 4 (omega arith) ∙ header_entries (length ks) few

  -- where the pages start
  read_pages : word_at 4 (list_in out s d page ks) 8 ≡ pages_at (length ks)
  read_pages = read_header 8 (omega arith) ∙ header_pages (length ks) few

  -- the total
  read_total : word_at 4 (list_in out s d page ks) 12 ≡ list_total (length ks)
  read_total = read_header 12 (omega arith) ∙ header_total (length ks) few

  module _ (i : ℕ) (h : i < length ks) where
    -- a number of entry i
    read_change : (w o : ℕ) → o + w ≤ change_size → word_at w (list_in out s d page ks) (change_at i + o) ≡ word_at w (row s d (get_or ks i 0)) o
    read_change w o l =
        word_ext w (list_in out s d page ks) (row s d (get_or ks i 0)) (change_at i + o) o
        (λ k m.
        let e : change_at i + o + k ≡ list_header + (change_size * i + (o + k)) = omega arith in
        rw e
        (written_byte (list_header + (change_size * i + (o + k))) (omega arith)
        ∙ unfold list_bytes in second (list_header_bytes (length ks)) _ list_header (change_size * i + (o + k)) (length_header (length ks))
        ∙ get_or-append (joined (row s d) ks) _ 0 (change_size * i + (o + k)) (omega (arith, length-joined (row s d) change_size (λ k. length_change (change_of s d k)) ks))
        ∙ get_or-joined (row s d) change_size (λ k. length_change (change_of s d k)) ks i (o + k) h (omega arith)))

    -- its account
    read_account : get_or ks i 0 < key_limit → change_account (list_in out s d page ks) i ≡ get_or ks i 0 / 65536
    read_account l =
        let z : change_at i + 0 ≡ change_at i = omega arith in
        rw z at (read_change 2 0 (omega arith)) ∙ change_account_lem s d (get_or ks i 0) l

    -- its page
    read_page : change_page (list_in out s d page ks) i ≡ get_or ks i 0 % 65536
    read_page = read_change 2 2 (omega arith) ∙ change_page_lem s d (get_or ks i 0)

    -- its live count
    read_live : change_live (list_in out s d page ks) i ≡ live s (key_account (get_or ks i 0)) (key_page (get_or ks i 0))
    read_live = read_change 4 4 (omega arith) ∙ change_live_lem s d (get_or ks i 0)

    -- its last u16
    read_zero : change_zero (list_in out s d page ks) i ≡ 0
    read_zero = read_change 2 10 (omega arith) ∙ change_zero_lem s d (get_or ks i 0)

    -- a byte of its page
    read_byte : (k : ℕ) → k < page_size → get_or (list_in out s d page ks) (pages_at (length ks) + page_size * i + k) 0 ≡ get_or (page (get_or ks i 0)) k 0
    read_byte k l =
        let e : pages_at (length ks) + page_size * i + k ≡ list_header + (change_size * length ks + (page_size * i + k)) = omega arith in
        rw e
        (written_byte (list_header + (change_size * length ks + (page_size * i + k))) (omega arith)
        ∙ unfold list_bytes in second (list_header_bytes (length ks)) _ list_header (change_size * length ks + (page_size * i + k)) (length_header (length ks))
        ∙ second (joined (row s d) ks) _ (change_size * length ks) (page_size * i + k) (length-joined (row s d) change_size (λ k. length_change (change_of s d k)) ks)
        ∙ get_or-joined page page_size each ks i k h l)

  -- what is read of the list
  pub read_back : ReadBack (list_in out s d page ks) s page ks
  read_back =
      record {
        count = read_count;
        entries = read_entries;
        pages = read_pages;
        total = read_total;
        account = read_account;
        page_number = read_page;
        live_count = read_live;
        ends = read_zero;
        page_byte = read_byte;
      }
