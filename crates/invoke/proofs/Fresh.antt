-- What a fresh control block reads: the header with one invocation and the edition, its record with the program and no pages, and zeros elsewhere.
-- Assumes nothing.
use Rattle.std.proofs.Common.{ℕ, ◌+◌, ◌≤◌, ◌<◌, ◌^◌, ◌≡◌, refl, sym, ◌∙◌, ap, true, false, inl, inr, ⊎_elim, List, zero-add, arith, length, eqb, eqb-true}
use Rattle.layout.specs.Control.{edition_at, reserved_at, older, newer, shadow_at, stack_at, heap_at, table_at}
use Rattle.words.specs.Words.{word_at, word_bytes, splice, zeros}
use Rattle.words.proofs.Splice.{length-splice}
use Rattle.words.proofs.Word.{word_in, word_behind, word_zeros, word_same, length-word_bytes}
use Rattle.words.proofs.Run.{length-zeros}
use Rattle.choice.proofs.Tests.{either_true}
use Rattle.control.specs.Control.{frames, invocations, edition, edition_known, record_at, invocation_of, current, control_valid, current_valid, pages_of, size_of}
use Rattle.control.specs.declared.shadow.Invocation.{Invocation}
use Rattle.control.specs.declared.shadow.Region.{Region}
use Rattle.control.specs.declared.shadow.Region.TheVariants.{Stack, Heap}
use Rattle.control.proofs.Facts.{control_valid_lem, current_valid_lem}
use Rattle.control.proofs.Kept.{Only, Apart, only_splice, word_kept}
use Rattle.control.proofs.Records.{invocation_is}
use Rattle.frames.specs.Table.{frame_entry_at, frame_field, frame_entry_of, zero_entry, claims, is_free}
use Rattle.frames.specs.declared.claim.Claim.{Claim}
use Rattle.frames.proofs.Claims.{free_claims}
use Rattle.invoke.specs.Invoke.{frames_in, room_valid, header_bytes, fresh}
use Rattle.invoke.specs.declared.begin.Start.{Start}
use Rattle.invoke.proofs.Accepted.{RoomFacts, room_facts, StartFits}

-- ---- the header's bytes

-- they are all that stands before the shadow records
length-header_bytes : (f d e : ℕ) → length (header_bytes f d e) ≡ shadow_at
unfolding header_bytes word_bytes zeros
length-header_bytes f d e = refl

-- they spell the six words
header_read : (f d e : ℕ) → f < 2 ^ 32 → d < 2 ^ 32 → e < 2 ^ 32
    → (word_at 4 (header_bytes f d e) 0 ≡ f) × (word_at 4 (header_bytes f d e) 4 ≡ d)
    × (word_at 4 (header_bytes f d e) 8 ≡ shadow_at) × (word_at 4 (header_bytes f d e) 12 ≡ table_at)
    × (word_at 4 (header_bytes f d e) edition_at ≡ e) × (word_at 4 (header_bytes f d e) reserved_at ≡ 0)
unfolding header_bytes word_bytes word_at zeros
header_read f d e hf hd he = (omega arith, omega arith, refl, refl, omega arith, refl)

-- an edition fits its word: both are small
edition_fits : (e : ℕ) → edition_known e ≡ true → e ≤ newer
unfolding edition_known
edition_fits e h =
    ⊎_elim (λ t. omega (arith, eqb-true e older t)) (λ t. omega (arith, eqb-true e newer t))
    (either_true (eqb e older) (eqb e newer) h)

-- ---- a fresh control block

-- the header that a begin writes
abbrev header : ℕ → Start → List ℕ
header size x = header_bytes (frames_in size) 1 x.edition

-- that over zeros
abbrev base : ℕ → Start → List ℕ
base size x = splice (zeros size) 0 (header size x)

-- what a program that begins has
abbrev pub starts : Start → Invocation
starts x = record { program = x.program; stack = 0; heap = 0 }

-- neither region has pages then
no_pages : (x : Start) (r : Region) → pages_of (starts x) r ≡ 0
no_pages x Stack = refl
no_pages x Heap = refl

module _ (size pool : ℕ) (x : Start) (valid : room_valid size pool ≡ true) (fits : StartFits x) where
  -- the lengths, by name
  room : RoomFacts size pool
  room = room_facts size pool valid

  -- the header does not change the length
  length_base : length (base size x) ≡ size
  length_base = length-splice (zeros size) 0 (header size x) ∙ length-zeros size

  -- it is as long as the place before the shadow records
  length_header : length (header size x) ≡ shadow_at
  length_header = length-header_bytes (frames_in size) 1 x.edition

  -- the program is put into it
  program_only : Only (record_at 1) (record_at 1 + stack_at) (base size x) (fresh size x)
  unfolding fresh
  program_only = only_splice (record_at 1) (record_at 1 + stack_at) (base size x) (record_at 1) (word_bytes 2 x.program.0) (omega arith) (omega (arith, length-word_bytes 2 x.program.0))

  -- a word of the header
  header_word : (o : ℕ) → o + 4 ≤ shadow_at → word_at 4 (fresh size x) o ≡ word_at 4 (header size x) o
  header_word o h =
      word_kept program_only 4 o (inl (omega arith))
      ∙ rw zero-add at (word_in 4 (zeros size) 0 (header size x) o (omega (arith, length_header)) (omega (arith, length_header, length-zeros size, room.header)))

  -- the six words
  words : (frames (fresh size x) ≡ frames_in size) × (invocations (fresh size x) ≡ 1)
      × (word_at 4 (fresh size x) 8 ≡ shadow_at) × (word_at 4 (fresh size x) 12 ≡ table_at)
      × (edition (fresh size x) ≡ x.edition) × (word_at 4 (fresh size x) reserved_at ≡ 0)
  words =
      let h = header_read (frames_in size) 1 x.edition (omega (arith, room.few_frames)) (omega arith)
      (omega (arith, edition_fits x.edition fits.edition)) in (
        header_word 0 (omega arith) ∙ h.0,
        header_word 4 (omega arith) ∙ h.1,
        header_word 8 (omega arith) ∙ h.2,
        header_word 12 (omega arith) ∙ h.3,
        header_word edition_at (omega arith) ∙ h.4,
        header_word reserved_at (omega arith) ∙ h.5,
      )

  -- every word behind the header but the program's is 0
  fresh-zero : (w j : ℕ) → shadow_at ≤ j → Apart (record_at 1) (record_at 1 + stack_at) w j → word_at w (fresh size x) j ≡ 0
  fresh-zero w j h apart =
      word_kept program_only w j apart
      ∙ word_behind w (zeros size) 0 (header size x) j (omega (arith, length_header))
      ∙ word_zeros w size j

  -- ---- length, header, current invocation

  -- it is as long as asked
  pub length-fresh : length (fresh size x) ≡ size
  length-fresh = program_only.size ∙ length_base

  -- it has as many frames as there is room for
  pub fresh-frames : frames (fresh size x) ≡ frames_in size
  fresh-frames = words.0

  -- one invocation is live
  pub fresh-invocations : invocations (fresh size x) ≡ 1
  fresh-invocations = words.1

  -- its edition is the one asked for
  pub fresh-edition : edition (fresh size x) ≡ x.edition
  fresh-edition = words.4

  -- it is valid
  pub fresh_valid : control_valid (fresh size x) ≡ true
  fresh_valid =
      let l : length (fresh size x) ≡ size = length-fresh in
      let w = words in
      let r : RoomFacts size pool = room in
      control_valid_lem (fresh size x)
      (record {
        header = omega arith;
        few_frames = omega arith;
        some_live = omega arith;
        few_live = omega arith;
        shadow_at_is = w.2;
        table_at_is = w.3;
        edition = rw fresh-edition fits.edition;
        reserved = w.5;
        size = omega arith;
      })

  -- the program's word
  program_word : word_at 2 (fresh size x) (record_at 1) ≡ x.program.0
  unfolding fresh
  program_word = word_same 2 (base size x) (record_at 1) x.program.0 fits.program (omega (arith, length_base, room.header))

  -- its record has the program and no pages
  pub fresh_invocation : invocation_of (fresh size x) 1 ≡ starts x
  fresh_invocation =
      sym
      (invocation_is (fresh size x) 1 (record_at 1) x.program.0 0 0 refl (sym program_word) (sym (fresh-zero 2 (record_at 1 + stack_at) (omega arith) (inr (omega arith))))
      (sym (fresh-zero 2 (record_at 1 + heap_at) (omega arith) (inr (omega arith)))))

  -- that is the current invocation
  pub fresh-current : current (fresh size x) ≡ starts x
  fresh-current = rw fresh-invocations fresh_invocation

  -- no region has pages
  pub fresh_size : (r : Region) → size_of (fresh size x) r ≡ 0
  fresh_size r = ap (λ (y : Invocation). pages_of y r) fresh-current ∙ no_pages x r

  -- the current invocation is valid where the program is below the account count
  pub fresh-current_valid : (n : ℕ) → x.program.0 < n → current_valid (fresh size x) n ≡ true
  fresh-current_valid n l =
      current_valid_lem (fresh size x) n
      (record { program_known = rw fresh-current l; few_stack = rw fresh-current (omega arith); few_heap = rw fresh-current (omega arith) })

  -- ---- the frame table

  module _ (i : ℕ) where
    -- every field is 0
    field_zero : (w o : ℕ) → frame_field w o (fresh size x) i ≡ 0
    unfolding frame_field
    field_zero w o = fresh-zero w (frame_entry_at i + o) (omega arith) (inr (omega arith))

    -- every entry is zeros
    pub fresh_entry : frame_entry_of (fresh size x) i ≡ zero_entry
    fresh_entry = rw (field_zero 1 0, field_zero 1 1, field_zero 2 2, field_zero 2 4, field_zero 2 6)

    -- it is free
    pub fresh_free : is_free (fresh size x) i ≡ true
    unfolding is_free
    fresh_free = rw (field_zero 1 0)

    -- it claims nothing
    pub fresh-claims : (q : Claim) → claims (fresh size x) q i ≡ false
    fresh-claims q = free_claims (fresh size x) i fresh_free q
