-- Pieces one after the other, and how they are written: the list's parts put in one by one are the whole list put in at the start.
-- Assumes nothing.
use Rattle.std.proofs.Common.{ℕ, suc, ◌+◌, ◌*◌, ◌-◌, ◌≤◌, ◌≡◌, refl, ap, ◌∙◌, List, [], ◌∷◌, ◌++◌, map, add-zero, mul-zero, mul-suc, arith, length, length-append}
use Rattle.layout.specs.Page.{page_size}
use Rattle.layout.specs.List.{list_header, change_size, pages_at}
use Rattle.words.specs.Words.{word_bytes, splice, bytes_at, zeros}
use Rattle.words.proofs.Splice.{splice-append, splice_swap}
use Rattle.words.proofs.Run.{length-bytes_at, run-append, run-run, run_past}
use Rattle.choice.proofs.Ascending.{Member, member_head, member_tail}
use Rattle.changes.specs.Entry.{change_bytes}
use Rattle.changes.specs.List.{list_header_bytes, joined, padded}
use Rattle.changes.specs.declared.entry.Change.{Change}

-- ---- pieces one after the other

-- pieces of images
pub joined_images : (f : ℕ → List ℕ) (g : ℕ → ℕ) (xs : List ℕ) → joined f (map g xs) ≡ joined (λ x. f (g x)) xs
unfolding joined
joined_images f g [] = refl
joined_images f g (x ∷ xs) = ap (λ (l : List ℕ). f (g x) ++ l) (joined_images f g xs)

-- pieces that agree at each member
pub joined_ext : (f g : ℕ → List ℕ) (xs : List ℕ) → ((x : ℕ) → Member x xs → f x ≡ g x) → joined f xs ≡ joined g xs
unfolding joined
joined_ext f g [] h = refl
joined_ext f g (x ∷ xs) h =
    rw (h x (member_head x xs)) (ap (λ (l : List ℕ). g x ++ l) (joined_ext f g xs (λ z m. h z (member_tail x xs z m))))

-- pieces of one length
pub length-joined : (f : ℕ → List ℕ) (w : ℕ) → ((x : ℕ) → length (f x) ≡ w) → (xs : List ℕ) → length (joined f xs) ≡ w * length xs
unfolding joined
length-joined f w e [] = rw mul-zero
length-joined f w e (x ∷ xs) = rw (length-append, mul-suc) (omega (arith, e x, length-joined f w e xs))

-- two rows of pieces, the first before the second: a piece of each, then the rest of each
pub rows_turn : (f g : ℕ → List ℕ) (u w : ℕ) → ((x : ℕ) → length (f x) ≡ u) → ((x : ℕ) → length (g x) ≡ w) → (o : List ℕ) (a b x : ℕ) (xs : List ℕ)
    → a + u * suc (length xs) ≤ b
    → splice (splice o a (joined f (x ∷ xs))) b (joined g (x ∷ xs)) ≡ splice (splice (splice (splice o a (f x)) b (g x)) (a + u) (joined f xs)) (b + w) (joined g xs)
unfolding joined
rows_turn f g u w e d o a b x xs h =
    let m : u * suc (length xs) ≡ u * length xs + u = rw mul-suc (omega arith) in
    let s : splice (splice (splice o a (f x)) (a + u) (joined f xs)) b (g x) ≡ splice (splice (splice o a (f x)) b (g x)) (a + u) (joined f xs) =
    splice_swap (splice o a (f x)) (a + u) (joined f xs) b (g x) (omega (arith, length-joined f u e xs)) in
    rw (splice-append o a (f x) (joined f xs), splice-append _ b (g x) (joined g xs), e x, d x, s)

-- ---- the list's parts

-- the header's length
pub length_header : (n : ℕ) → length (list_header_bytes n) ≡ list_header
unfolding list_header_bytes word_bytes
length_header n = refl

-- an entry's length
pub length_change : (e : Change) → length (change_bytes e) ≡ change_size
unfolding change_bytes word_bytes
length_change e = refl

-- a page's length
pub length-padded : (n : ℕ) (bs : List ℕ) → length (padded n bs) ≡ page_size
unfolding padded
length-padded n bs = length-bytes_at page_size (bytes_at n bs 0) 0

-- a page is the first n bytes of the frame, then zeros
pub padded_is : (n : ℕ) (p : List ℕ) (at : ℕ) → n ≤ page_size → padded n (bytes_at page_size p at) ≡ bytes_at n p at ++ zeros (page_size - n)
unfolding padded
padded_is n p at h =
    let b : List ℕ = bytes_at n (bytes_at page_size p at) 0 in
    let e : n + (page_size - n) ≡ page_size = omega arith in
    let u : b ≡ bytes_at n p at = rw add-zero at (run-run n page_size p at 0 (omega arith)) in
    let v : bytes_at n b 0 ≡ b = run-run n n (bytes_at page_size p at) 0 0 (omega arith) in
    let w : bytes_at (page_size - n) b (0 + n) ≡ zeros (page_size - n) = run_past (page_size - n) b (0 + n) (omega (arith, length-bytes_at n (bytes_at page_size p at) 0)) in
    rw e at (run-append n (page_size - n) b 0) ∙ rw (v, w, u)

-- header, entries and pages put in one after the other are the list put in at the start
pub parts_written : (out : List ℕ) (n : ℕ) (es ps : List ℕ) → length es ≡ change_size * n
    → splice (splice (splice out 0 (list_header_bytes n)) list_header es) (pages_at n) ps ≡ splice out 0 (list_header_bytes n ++ (es ++ ps))
parts_written out n es ps e =
    rw (splice-append out 0 (list_header_bytes n) (es ++ ps), splice-append _ (0 + length (list_header_bytes n)) es ps, length_header n, e)
