-- The three writes to a shadow record: what record k reads afterwards, and what every write inside one record leaves as it was.
-- Assumes nothing.
use Rattle.std.proofs.Common.{ℕ, ◌+◌, ◌≤◌, ◌<◌, ◌≡◌, refl, sym, ap, ◌∙◌, ◌≢◌, inl, inr, List, ◌++◌, append_assoc, add-zero, arith, length}
use Rattle.std.proofs.Math.Decide.{dec_lt}
use Rattle.layout.specs.Control.{edition_at, shadow_at, shadow_size, table_at, registers_size, live_limit}
use Rattle.words.specs.Words.{word_at, word_bytes, splice, zeros}
use Rattle.words.proofs.Splice.{splice-append}
use Rattle.words.proofs.Word.{word_before, word_in, word_zeros, word_same, length-word_bytes}
use Rattle.words.proofs.Run.{length-zeros}
use Rattle.control.specs.Control.{edition, record_at, control_valid, invocation_of, invocation_bytes, put_invocation, clear_invocation, region_at, set_pages, pages_of}
use Rattle.control.specs.declared.shadow.Region.{Region}
use Rattle.control.specs.declared.shadow.Region.TheVariants.{Stack, Heap}
use Rattle.control.specs.declared.shadow.Invocation.{Invocation}
use Rattle.control.proofs.Kept.{Only, Apart, only_splice, word_kept, invocation_kept, valid_kept}

-- ---- any write inside record k

-- c' is c but for bytes of record k
abbrev pub OnlyRecord : ℕ → List ℕ → List ℕ → Type 0
OnlyRecord k c c' = Only (record_at k) (record_at k + shadow_size) c c'

module _ (k : ℕ) {c c' : List ℕ} (o : OnlyRecord k c c') where
  -- two records lie apart
  apart : (j : ℕ) → j ≢ k → Apart (record_at k) (record_at k + shadow_size) shadow_size (record_at j)
  apart j h = elim (dec_lt j k) [ yes p ↦ inl (omega arith) | no p ↦ inr (omega arith) ]

  -- the program and sizes of another record stay
  pub invocation_other : (j : ℕ) → j ≢ k → invocation_of c' j ≡ invocation_of c j
  invocation_other j h = invocation_kept o j (apart j h)

  -- every word of the header stays
  pub header_kept : (w j : ℕ) → j + w ≤ shadow_at → word_at w c' j ≡ word_at w c j
  header_kept w j h = word_kept o w j (inl (omega arith))

  -- so does the edition
  pub record_edition : edition c' ≡ edition c
  record_edition = header_kept 4 edition_at (omega arith)

  -- and the control block is as valid as it was
  pub record_valid : control_valid c' ≡ control_valid c
  record_valid = valid_kept o (omega arith)

  -- every word of the frame table stays
  pub table_kept : k ≤ live_limit → (w j : ℕ) → table_at ≤ j → word_at w c' j ≡ word_at w c j
  table_kept l w j h = word_kept o w j (inr (omega arith))

-- ---- what record k reads

-- three words make its program and sizes
pub invocation_is : (c : List ℕ) (k at p s h : ℕ) → at ≡ record_at k → p ≡ word_at 2 c at → s ≡ word_at 2 c (at + 2) → h ≡ word_at 2 c (at + 4)
    → record { program = record { 0 = p }; stack = s; heap = h } ≡ invocation_of c k
unfolding invocation_of
invocation_is c k at p s h e e₁ e₂ e₃ = rw (e₁, e₂, e₃, e)

-- ---- a record put anew

-- the bytes of the three fields and of the two zeros behind them
unfoldable pub field_bytes : Invocation → List ℕ
field_bytes i = word_bytes 2 i.program.0 ++ (word_bytes 2 i.stack ++ (word_bytes 2 i.heap ++ zeros 2))

-- they are eight
length_field_bytes : (i : Invocation) → length (field_bytes i) ≡ 8
unfolding field_bytes word_bytes zeros
length_field_bytes i = refl

-- they spell the fields
fields_read : (i : Invocation) → i.program.0 < 65536 → i.stack < 65536 → i.heap < 65536
    → (word_at 2 (field_bytes i) 0 ≡ i.program.0) × (word_at 2 (field_bytes i) 2 ≡ i.stack) × (word_at 2 (field_bytes i) 4 ≡ i.heap)
unfolding field_bytes word_bytes word_at
fields_read i hp hs hh = (omega arith, omega arith, omega arith)

-- the record's bytes are those, then the registers
joined : (i : Invocation) (registers : List ℕ) → invocation_bytes i registers ≡ field_bytes i ++ registers
unfolding invocation_bytes field_bytes
joined i registers = simp append_assoc

module _ (c : List ℕ) (k : ℕ) (i : Invocation) (registers : List ℕ) where
  -- the fields are put in, and behind them the registers
  pub put_parts : put_invocation c k i registers ≡ splice (splice c (record_at k) (field_bytes i)) (record_at k + 8) registers
  unfolding put_invocation invocation_bytes
  put_parts =
      let e : invocation_bytes i registers ≡ field_bytes i ++ registers = joined i registers in
      rw e (rw (length_field_bytes i) at (splice-append c (record_at k) (field_bytes i) registers))

  -- where it writes
  pub put_only : length registers ≡ registers_size → OnlyRecord k c (put_invocation c k i registers)
  unfolding put_invocation invocation_bytes word_bytes zeros
  put_only e = only_splice _ _ c (record_at k) (invocation_bytes i registers) (omega arith) (omega arith)

  module _ (l : k ≤ live_limit) (long : table_at ≤ length c) where
    -- a word of the fields
    field_put : (o : ℕ) → o + 2 ≤ 8 → word_at 2 (put_invocation c k i registers) (record_at k + o) ≡ word_at 2 (field_bytes i) o
    field_put o h =
        let e : length (field_bytes i) ≡ 8 = length_field_bytes i in
        rw put_parts
        (word_before 2 (splice c (record_at k) (field_bytes i)) (record_at k + 8) registers (record_at k + o) (omega arith)
        ∙ word_in 2 c (record_at k) (field_bytes i) o (omega arith) (omega arith))

    -- the fields are read back
    pub invocation_same : i.program.0 < 65536 → i.stack < 65536 → i.heap < 65536 → invocation_of (put_invocation c k i registers) k ≡ i
    invocation_same hp hs hh =
        let f = fields_read i hp hs hh in
        sym
        (invocation_is (put_invocation c k i registers) k (record_at k) i.program.0 i.stack i.heap refl (sym (rw add-zero at (field_put 0 (omega arith)) ∙ f.0))
        (sym (field_put 2 (omega arith) ∙ f.1))
        (sym (field_put 4 (omega arith) ∙ f.2)))

-- ---- a record cleared

module _ (c : List ℕ) (k : ℕ) where
  -- where it writes
  pub clear_only : OnlyRecord k c (clear_invocation c k)
  unfolding clear_invocation
  clear_only = only_splice _ _ c (record_at k) (zeros shadow_size) (omega arith) (omega (arith, length-zeros shadow_size))

  module _ (l : k ≤ live_limit) (long : table_at ≤ length c) where
    -- a word of it is 0
    cleared : (w o : ℕ) → o + w ≤ shadow_size → word_at w (clear_invocation c k) (record_at k + o) ≡ 0
    unfolding clear_invocation
    cleared w o h =
        let z : length (zeros shadow_size) ≡ shadow_size = length-zeros shadow_size in
        word_in w c (record_at k) (zeros shadow_size) o (omega arith) (omega arith) ∙ word_zeros w shadow_size o

-- ---- the size of a region

-- it stands between the program and the zeros
region_place_lem : (r : Region) → (2 ≤ region_at r) × (region_at r ≤ 4)
region_place_lem Stack = (omega arith, omega arith)
region_place_lem Heap = (omega arith, omega arith)

module _ (c : List ℕ) (k : ℕ) (r : Region) (n : ℕ) where
  -- where it writes
  size_only : Only (record_at k + region_at r) (record_at k + region_at r + 2) c (set_pages c k r n)
  unfolding set_pages
  size_only = only_splice _ _ c (record_at k + region_at r) (word_bytes 2 n) (omega arith) (omega (arith, length-word_bytes 2 n))

  -- it lies in the record
  pub pages_only : OnlyRecord k c (set_pages c k r n)
  unfolding set_pages
  pages_only =
      only_splice _ _ c (record_at k + region_at r) (word_bytes 2 n) (omega arith)
      (omega (arith, length-word_bytes 2 n, region_place_lem r))

  -- the program stays
  pub pages_program : (invocation_of (set_pages c k r n) k).program ≡ (invocation_of c k).program
  unfolding invocation_of
  pages_program = ap (λ (x : ℕ). record { 0 = x }) (word_kept size_only 2 (record_at k) (inl (omega (arith, region_place_lem r))))

-- the size of the other region stays
pub pages_other : (c : List ℕ) (k : ℕ) (r : Region) (n : ℕ) (q : Region) → q ≢ r → pages_of (invocation_of (set_pages c k r n) k) q ≡ pages_of (invocation_of c k) q
unfolding invocation_of
pages_other c k Stack n Stack h = absurd (h refl)
pages_other c k Stack n Heap h = word_kept (size_only c k Stack n) 2 (record_at k + 4) (inr (omega arith))
pages_other c k Heap n Stack h = word_kept (size_only c k Heap n) 2 (record_at k + 2) (inl (omega arith))
pages_other c k Heap n Heap h = absurd (h refl)

-- the size is read back
pub pages_same : (c : List ℕ) (k : ℕ) (r : Region) (n : ℕ) → k ≤ live_limit → table_at ≤ length c → n < 65536 → pages_of (invocation_of (set_pages c k r n) k) r ≡ n
unfolding invocation_of set_pages
pages_same c k Stack n l long h = word_same 2 c (record_at k + 2) n h (omega arith)
pages_same c k Heap n l long h = word_same 2 c (record_at k + 4) n h (omega arith)

-- a record's fields with another size of a region
abbrev pub with_pages : Invocation → Region → ℕ → Invocation
with_pages i Stack n = record { program = i.program; stack = n; heap = i.heap }
with_pages i Heap n = record { program = i.program; stack = i.stack; heap = n }

-- they are what the record reads
pub pages_set : (c : List ℕ) (k : ℕ) (r : Region) (n : ℕ) → k ≤ live_limit → table_at ≤ length c → n < 65536
    → invocation_of (set_pages c k r n) k ≡ with_pages (invocation_of c k) r n
pages_set c k Stack n l long h = λ i.
    record {
      program = pages_program c k Stack n i;
      stack = pages_same c k Stack n l long h i;
      heap = pages_other c k Stack n Heap (λ e. omega (arith, ap region_at e)) i;
    }
pages_set c k Heap n l long h = λ i.
    record {
      program = pages_program c k Heap n i;
      stack = pages_other c k Heap n Stack (λ e. omega (arith, ap region_at e)) i;
      heap = pages_same c k Heap n l long h i;
    }
