-- What a write to one place of the control block leaves as it was. Each law is over the place, so it serves the header, the shadow records and the
-- frame table. Assumes nothing.
use Rattle.std.proofs.Common.{ℕ, ◌+◌, ◌≤◌, ◌<◌, ◌≡◌, ◌∙◌, true, ◌⊎◌, inl, inr, ⊎_elim, List, arith, length, get_or}
use Rattle.layout.specs.Control.{edition_at, reserved_at, shadow_at, shadow_size, table_at}
use Rattle.words.specs.Words.{word_at, bytes_at, splice}
use Rattle.words.proofs.Splice.{length-splice, splice_before, splice_behind}
use Rattle.words.proofs.Word.{word_ext}
use Rattle.words.proofs.Run.{bytes_at_ext}
use Rattle.control.specs.Control.{invocations, record_at, invocation_of, current, control_valid, current_valid, buffers_valid}
use Rattle.control.proofs.Facts.{ControlFacts, BuffersFacts, control_facts, buffers_facts, buffers_valid_lem}

-- c' is c but for bytes from lo on and below hi
pub record Only (lo hi : ℕ) (c c' : List ℕ) : Type 0 where
  pub size : length c' ≡ length c
  pub below : (j : ℕ) → j < lo → get_or c' j 0 ≡ get_or c j 0
  pub above : (j : ℕ) → hi ≤ j → get_or c' j 0 ≡ get_or c j 0

-- n bytes from j on lie apart from those
abbrev pub Apart : ℕ → ℕ → ℕ → ℕ → Type 0
Apart lo hi n j = (j + n ≤ lo) ⊎ (hi ≤ j)

-- bytes put in there
pub only_splice : (lo hi : ℕ) (c : List ℕ) (at : ℕ) (bs : List ℕ) → lo ≤ at → at + length bs ≤ hi → Only lo hi c (splice c at bs)
only_splice lo hi c at bs l h =
    record {
      size = length-splice c at bs;
      below = λ j m. splice_before c at bs j (omega arith);
      above = λ j m. splice_behind c at bs j (omega arith);
    }

module _ {lo hi : ℕ} {c c' : List ℕ} (o : Only lo hi c c') where
  -- a byte of a run apart
  byte_kept : (n j k : ℕ) → Apart lo hi n j → k < n → get_or c' (j + k) 0 ≡ get_or c (j + k) 0
  byte_kept n j k a l = ⊎_elim (λ h. o.below (j + k) (omega arith)) (λ h. o.above (j + k) (omega arith)) a

  -- a word apart
  pub word_kept : (w j : ℕ) → Apart lo hi w j → word_at w c' j ≡ word_at w c j
  word_kept w j a = word_ext w c' c j j (λ k l. byte_kept w j k a l)

  -- a run apart
  pub run_kept : (n j : ℕ) → Apart lo hi n j → bytes_at n c' j ≡ bytes_at n c j
  run_kept n j a = bytes_at_ext n c' c j j (λ k l. byte_kept n j k a l)

  -- a shadow record apart
  module _ (k : ℕ) (a : Apart lo hi shadow_size (record_at k)) where
    -- a part of it lies apart
    inside : (n i : ℕ) → record_at k ≤ i → i + n ≤ record_at k + shadow_size → Apart lo hi n i
    inside n i l m = ⊎_elim (λ h. inl (omega arith)) (λ h. inr (omega arith)) a

    -- its program and sizes
    pub invocation_kept : invocation_of c' k ≡ invocation_of c k
    unfolding invocation_of
    invocation_kept =
        rw (word_kept 2 (record_at k) (inside _ _ (omega arith) (omega arith)), word_kept 2 (record_at k + 2) (inside _ _ (omega arith) (omega arith)), word_kept 2 (record_at k + 4) (inside _ _ (omega arith) (omega arith)))

  -- validity, where the header lies apart
  pub valid_kept : shadow_at ≤ lo → control_valid c' ≡ control_valid c
  unfolding control_valid
  valid_kept h =
      rw (o.size, word_kept 4 0 (inl (omega arith)), word_kept 4 4 (inl (omega arith)), word_kept 4 8 (inl (omega arith)), word_kept 4 12 (inl (omega arith)), word_kept 4 edition_at (inl (omega arith)), word_kept 4 reserved_at (inl (omega arith)))

  -- a write to the frame table leaves the three buffers valid
  pub buffers_kept : (s p p' : List ℕ) → table_at ≤ lo → length p' ≡ length p → buffers_valid s c p ≡ true → buffers_valid s c' p' ≡ true
  unfolding current_valid
  buffers_kept s p p' h q v =
      let f : BuffersFacts s c p = buffers_facts s c p v in
      let g : ControlFacts c = control_facts c f.control in
      let e : current c' ≡ current c = rw (word_kept 4 4 (inl (omega arith))) (invocation_kept (invocations c) (inl (omega arith))) in
      buffers_valid_lem s c' p'
      (record {
        snapshot = f.snapshot;
        control = valid_kept (omega arith) ∙ f.control;
        pool = omega (arith, word_kept 4 0 (inl (omega arith)));
        current = rw e f.current;
      })
