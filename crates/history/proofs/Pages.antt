-- Keys of pages, and what the invariant says of a page that a copy claims, or that none does. Assumes nothing.
use Prim.Native.Nat.{ℕ, ◌*◌, ◌<◌}
use mathlib.Core.Path.{◌≡◌, ap, ◌∙◌}
use mathlib.Core.Bool.{true}
use mathlib.Core.List.{List}
use native.Mathlib.Omega.{arith}
use lib.ListN.{length}
use Rattle.layout.specs.Page.{page_size}
use Rattle.choice.specs.Search.{lowest}
use Rattle.choice.proofs.Lowest.{lowest_some}
use Rattle.control.specs.Control.{frames}
use Rattle.control.proofs.Facts.{buffers_facts}
use Rattle.control.specs.Buffers.{Buffers}
use Rattle.frames.specs.Table.{frame_entry_of, claims, frame_of, is_found}
use Rattle.frames.specs.declared.claim.Claim.{Claim}
use Rattle.frames.proofs.Entries.{EntryRange}
use Rattle.frames.proofs.Found.{lowest_first}
use Rattle.frames.proofs.Claims.{IsCopy, claims_copy, found_frame}
use Rattle.changes.specs.Keys.{key_of, key_account, key_page, key_claim, key_limit, is_copied}
use Rattle.history.specs.Replay.{Replay}
use Rattle.history.proofs.Good.{copy_of, Good}
use Rattle.std.specs.Prelude.{Some}

-- ---- keys

module _ (a p : ℕ) (small_a : a < 65536) (small_p : p < 65536) where
  -- the account of a page's key
  pub key_account_lem : key_account (key_of a p) ≡ record { 0 = a }
  key_account_lem = ap (λ (n : ℕ). record { 0 = n }) (omega arith)

  -- its page
  pub key_page_lem : key_page (key_of a p) ≡ record { 0 = p }
  key_page_lem = ap (λ (n : ℕ). record { 0 = n }) (omega arith)

  -- its claim
  pub key_claim_lem : key_claim (key_of a p) ≡ copy_of a p
  key_claim_lem = rw (key_account_lem, key_page_lem)

  -- it is below the limit
  pub key_below : key_of a p < key_limit
  key_below = omega arith

-- ---- claims

-- a page that an entry claims has a frame
pub claim_found : (c : List ℕ) (q : Claim) (i : ℕ) → i < frames c → claims c q i ≡ true
    → frame_of c q ≡ Some (record { 0 = lowest (claims c q) (frames c) })
claim_found c q i l h =
    found_frame c q (lowest (claims c q) (frames c)) (lowest_first (claims c q) (frames c) (lowest_some (claims c q) (frames c) i l h))

module _ {s : List ℕ} {b : Buffers} {r : Replay} (g : Good s b r) where
  -- the pool has 4,096 bytes for each frame
  pub pool_length_lem : length b.pool ≡ page_size * frames b.control
  pool_length_lem = (buffers_facts s b.control b.pool g.buffers).pool

  module _ (a p : ℕ) where
    -- a page in range is touched where it has a frame
    pub touched_found : a < 65536 → p < 65536 → r.touched (key_of a p) ≡ is_found (frame_of b.control (copy_of a p))
    unfolding is_copied
    touched_found h l = rw (key_claim_lem a p h l) at (g.claimed (key_of a p) (key_below a p h l))

    -- the page that entry i claims
    module _ (i : ℕ) (low : i < frames b.control) (has : claims b.control (copy_of a p) i ≡ true) where
      -- is in range
      pub claim_small : (a < 65536) × (p < 65536)
      claim_small =
          let f : IsCopy (record { 0 = a }) (record { 0 = p }) (frame_entry_of b.control i) = claims_copy b.control i _ _ has in
          let e : EntryRange (frame_entry_of b.control i) = g.ranged i low in
          (omega arith, omega arith)

      -- and touched
      pub claim_touched : r.touched (key_of a p) ≡ true
      claim_touched = touched_found claim_small.0 claim_small.1 ∙ rw (claim_found b.control (copy_of a p) i low has)
