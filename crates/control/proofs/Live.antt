-- `set_invocations` writes the header's second word: the live invocations are the number written, and all else of the control block is as it was.
-- Assumes nothing.
use Rattle.std.proofs.Common.{ℕ, ◌≤◌, ◌<◌, ◌^◌, ◌≡◌, true, inl, inr, List, arith, length}
use Rattle.layout.specs.Control.{edition_at, reserved_at, table_at, live_limit}
use Rattle.words.specs.Words.{word_at, word_bytes, bytes_at}
use Rattle.words.proofs.Word.{length-word_bytes, word_same}
use Rattle.control.specs.Control.{frames, invocations, edition, set_invocations, control_valid, invocation_of}
use Rattle.control.proofs.Facts.{ControlFacts, control_facts, control_valid_lem}
use Rattle.control.proofs.Kept.{Only, only_splice, word_kept, run_kept, invocation_kept}

module _ (c : List ℕ) (d : ℕ) where
  -- where it writes
  pub live_only : Only 4 8 c (set_invocations c d)
  unfolding set_invocations
  live_only = only_splice 4 8 c 4 (word_bytes 4 d) (omega arith) (omega (arith, length-word_bytes 4 d))

  -- the frame count stays
  pub live-frames : frames (set_invocations c d) ≡ frames c
  live-frames = word_kept live_only 4 0 (inl (omega arith))

  -- every word behind stays: the two offsets, the edition, and those of the frame table
  pub live_word : (w j : ℕ) → 8 ≤ j → word_at w (set_invocations c d) j ≡ word_at w c j
  live_word w j h = word_kept live_only w j (inr h)

  -- so the edition does
  pub live-edition : edition (set_invocations c d) ≡ edition c
  live-edition = live_word 4 edition_at (omega arith)

  -- every run behind stays
  pub live-run : (n j : ℕ) → 8 ≤ j → bytes_at n (set_invocations c d) j ≡ bytes_at n c j
  live-run n j h = run_kept live_only n j (inr h)

  -- every shadow record stays: its program and sizes
  pub live_invocation : (k : ℕ) → invocation_of (set_invocations c d) k ≡ invocation_of c k
  live_invocation k = invocation_kept live_only k (inr (omega arith))

  -- the number is read back
  pub live_same : d < 2 ^ 32 → table_at ≤ length c → invocations (set_invocations c d) ≡ d
  unfolding set_invocations
  live_same h l = word_same 4 c 4 d h (omega arith)

  -- a number in range keeps the control block valid
  pub live_valid : 1 ≤ d → d ≤ live_limit → control_valid c ≡ true → control_valid (set_invocations c d) ≡ true
  live_valid l m v =
      let f : ControlFacts c = control_facts c v in
      let size : length (set_invocations c d) ≡ length c = live_only.size in
      let e : frames (set_invocations c d) ≡ frames c = live-frames in
      let s : invocations (set_invocations c d) ≡ d = live_same (omega arith) f.header in
      control_valid_lem (set_invocations c d)
      (record {
        header = omega arith;
        few_frames = omega arith;
        some_live = omega arith;
        few_live = omega arith;
        shadow_at_is = omega (arith, live_word 4 8 (omega arith));
        table_at_is = omega (arith, live_word 4 12 (omega arith));
        edition = rw live-edition f.edition;
        reserved = omega (arith, live_word 4 reserved_at (omega arith));
        size = omega arith;
      })
