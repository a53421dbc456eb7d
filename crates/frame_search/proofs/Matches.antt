-- The laws of entries whose bits are wanted: what matches under the masks of the four searches is
-- what claims or is used so. Assumes nothing.
use Rattle.std.proofs.Common.{◌≡◌, ℕ, ◌+◌, ◌*◌, ◌/◌, ◌%◌, ◌^◌, ◌<◌, ◌≤◌, Bool, true, false, eqb, List, get_or, sym, refl, ap, ◌∙◌, arith, eq-eqb, ne_eqb, eqb-true, bit_and, bit_or}
use lib.Bits.{and_le_l, and_le_r, and_mask, and_block, or_add_and, or_mod}
use Rattle.words.specs.Words.{word_at}
use Rattle.words.proofs.Word.{word_append, word_fits}
use borrow.Author.Tests.{eqb-false}
use Rattle.choice.proofs.Tests.{by_test, differ, fails}
use Rattle.snapshot.specs.declared.accounts.Account.{Account}
use Rattle.control.specs.declared.shadow.Region.{Region}
use Rattle.control.specs.declared.shadow.Region.TheVariants.{Stack, Heap}
use Rattle.pages.specs.declared.Page.{Page}
use Rattle.layout.specs.Control.{usage_free, usage_copy}
use Rattle.frames.specs.Table.{frame_entry_at, frame_entry_of, frame_field, usage_of, claims, is_copy, is_free}
use Rattle.frames.specs.declared.claim.Claim.TheVariants.{Copy, Anonymous}
use Rattle.frames.proofs.Fields.{field_is, byte_is}
use Rattle.frames.proofs.Claims.{claims_copy, copy_claims, claims_page, page_claims}
use Rattle.frame_search.specs.Match.{matches, usage_bits, copy_bits, copy_of, page_bits}

-- ---- a group asked at once

-- an or is at least each of its parts
or_parts : (a b : ℕ) → (a ≤ bit_or a b) × (b ≤ bit_or a b)
or_parts a b = (omega (arith, or_add_and a b, and_le_r a b), omega (arith, or_add_and a b, and_le_l a b))

-- where an or lacks the second bit, each of its parts does
pub or_second : (a b : ℕ) → bit_or a b % 4 < 2 → (a % 4 < 2) × (b % 4 < 2)
or_second a b h = let p = or_parts (a % 4) (b % 4) in (omega (arith, or_mod a b 2, p.0), omega (arith, or_mod a b 2, p.1))

-- ---- an entry looked at alone

module _ (c : List ℕ) (mask wanted i word : ℕ) (e : word ≡ word_at 8 c (frame_entry_at i)) where
  -- its bits are those wanted: it matches
  match_is : bit_and word mask ≡ wanted → matches c mask wanted i ≡ true
  unfolding matches
  match_is h = rw (← e) (eq-eqb _ _ h)

  -- they are not: it does not
  match_fails : (bit_and word mask ≡ wanted → ⊥) → matches c mask wanted i ≡ false
  unfolding matches
  match_fails h = rw (← e) (ne_eqb _ _ h)

-- ---- what matches under a mask

-- the bits of a copy are the key and the lowest byte
copy_mask : (w : ℕ) → bit_and w copy_bits ≡ w / 65536 % 4294967296 * 65536 + w % 256
copy_mask w =
    let s : w ≡ w / 65536 * 2 ^ 16 + w % 65536 = omega arith in
    ap (λ x. bit_and x copy_bits) s
    ∙ and_block 16 (w / 65536) 4294967295 (w % 65536) 255 (omega arith) (omega arith)
    ∙ omega (arith, and_mask (w / 65536) 32, and_mask (w % 65536) 8)

-- a copy with the key has it
pub key_there : (c : List ℕ) (key i : ℕ) → copy_of c key i ≡ true → word_at 8 c (frame_entry_at i) / 65536 % 4294967296 ≡ key
unfolding matches
key_there c key i e =
    omega (
      arith,
      eqb-true (bit_and (word_at 8 c (frame_entry_at i)) copy_bits) (usage_copy + 65536 * key) e,
      copy_mask (word_at 8 c (frame_entry_at i)),
    )

-- a region's use byte is a byte
usage_byte : (r : Region) → usage_of r < 256
usage_byte Stack = omega arith
usage_byte Heap = omega arith

-- it has the second bit
usage_second : (r : Region) → 2 ≤ usage_of r % 4
usage_second Stack = omega arith
usage_second Heap = omega arith

module _ (c : List ℕ) (i : ℕ) (b : (j : ℕ) → get_or c j 0 < 256) where
  -- where entry i starts
  abbrev at : ℕ
  at = frame_entry_at i

  -- the use byte is the first
  usage_first : word_at 1 c at ≡ frame_field 1 0 c i
  usage_first = field_is 1 0 c i at _ (omega arith) refl

  -- the use byte
  usage_bits_lem : bit_and (word_at 8 c at) usage_bits ≡ frame_field 1 0 c i
  usage_bits_lem = and_mask (word_at 8 c at) 8 ∙ omega (arith, word_append 1 7 c at, word_fits 1 c at b, usage_first)

  -- the lowest byte is the use byte
  lowest_byte : word_at 8 c at % 256 ≡ frame_field 1 0 c i
  lowest_byte = omega (arith, word_append 1 7 c at, word_fits 1 c at b, usage_first)

  -- the key stands above the first two bytes
  key_above : word_at 8 c at / 65536 % 4294967296 ≡ word_at 4 c (at + 2)
  key_above = omega (arith, word_append 2 6 c at, word_fits 2 c at b, word_append 4 2 c (at + 2), word_fits 4 c (at + 2) b)

  -- the use byte, the account and the page
  copy_bits_lem : bit_and (word_at 8 c at) copy_bits ≡ frame_field 1 0 c i + 65536 * frame_field 2 2 c i + 4294967296 * frame_field 2 4 c i
  copy_bits_lem =
      copy_mask (word_at 8 c at)
      ∙ omega (
        arith,
        lowest_byte,
        key_above,
        word_append 2 2 c (at + 2),
        field_is 2 2 c i (at + 2) _ refl refl,
        field_is 2 4 c i (at + 2 + 2) _ (omega arith) refl,
      )

  -- the use byte and the page
  page_bits_lem : bit_and (word_at 8 c at) page_bits ≡ frame_field 1 0 c i + 4294967296 * frame_field 2 4 c i
  page_bits_lem =
      let w : word_at 8 c at ≡ word_at 4 c (at + 4) * 2 ^ 32 + word_at 4 c at = omega (arith, word_append 4 4 c at) in
      rw w
      (and_block 32 (word_at 4 c (at + 4)) 65535 (word_at 4 c at) 255 (word_fits 4 c at b) (omega arith)
      ∙ rw (and_mask (word_at 4 c (at + 4)) 16, and_mask (word_at 4 c at) 8)
      (omega (
        arith,
        word_append 1 3 c at,
        word_fits 1 c at b,
        usage_first,
        word_append 2 2 c (at + 4),
        word_fits 2 c (at + 4) b,
        field_is 2 4 c i (at + 4) _ refl refl,
      )))

  -- a test that passes exactly where the bits are those wanted is the match
  same : (mask wanted : ℕ) (t : Bool) → (t ≡ true → bit_and (word_at 8 c at) mask ≡ wanted) → (bit_and (word_at 8 c at) mask ≡ wanted → t ≡ true)
      → matches c mask wanted i ≡ t
  same mask wanted t f g =
      by_test t (λ e. match_is c mask wanted i _ refl (f e) ∙ sym e)
      (λ e. match_fails c mask wanted i _ refl (λ h. differ t (g h) e) ∙ sym e)

  -- a copy of the account's page
  pub copy_matches : (a : Account) (p : Page) → a.0 < 65536 → copy_of c (a.0 + 65536 * p.0) i ≡ claims c (Copy a p) i
  copy_matches a p l =
      let u : frame_field 1 0 c i < 256 = omega (arith, usage_first, word_fits 1 c at b) in
      let v : frame_field 2 2 c i < 65536 = omega (arith, field_is 2 2 c i (at + 2) _ refl refl, word_fits 2 c (at + 2) b) in
      same copy_bits _ (claims c (Copy a p) i)
      (λ t. let f = claims_copy c i a p t in copy_bits_lem ∙ omega (arith, f.usage, f.account, f.page))
      (λ e.
      let s = sym copy_bits_lem ∙ e in
      copy_claims c i a p (record { usage = omega arith; account = omega arith; page = omega arith }))

  -- a page of the region
  pub page_matches : (r : Region) (p : Page) (n : ℕ) → n ≡ usage_of r → matches c page_bits (n + 4294967296 * p.0) i ≡ claims c (Anonymous r p) i
  page_matches r p n h =
      let u : frame_field 1 0 c i < 256 = omega (arith, usage_first, word_fits 1 c at b) in
      let v = usage_byte r in
      same page_bits _ (claims c (Anonymous r p) i)
      (λ t. let f = claims_page c i r p t in page_bits_lem ∙ omega (arith, f.usage, f.page))
      (λ e. let s = sym page_bits_lem ∙ e in page_claims c i r p (record { usage = omega arith; page = omega arith }))

  -- a use byte
  usage_matches : (n : ℕ) → matches c usage_bits n i ≡ eqb (frame_entry_of c i).usage n
  usage_matches n = same usage_bits n _ (λ t. usage_bits_lem ∙ eqb-true _ _ t) (λ e. eq-eqb _ _ (sym usage_bits_lem ∙ e))

  -- a free entry
  pub free_matches : matches c usage_bits usage_free i ≡ is_free c i
  unfolding is_free
  free_matches = usage_matches usage_free

  -- a copy, of whichever page
  pub used_matches : matches c usage_bits usage_copy i ≡ is_copy c i
  used_matches = usage_matches usage_copy

  -- a region's entry, of whichever region, has the second bit
  pub region_second : (q : Region) (word : ℕ) → word ≡ word_at 8 c at → eqb (frame_entry_of c i).usage (usage_of q) ≡ true → 2 ≤ word % 4
  region_second q word e t =
      let u : frame_field 1 0 c i ≡ usage_of q = eqb-true _ _ t in
      omega (arith, word_append 1 7 c at, usage_first, usage_second q)

  -- an entry that has a copy's use byte and the key is a copy with the key
  keyed_is : (key : ℕ) → get_or c at 0 ≡ usage_copy → word_at 4 c (at + 2) ≡ key → copy_of c key i ≡ true
  keyed_is key u k =
      match_is c copy_bits (usage_copy + 65536 * key) i _ refl
      (copy_mask (word_at 8 c at) ∙ omega (arith, lowest_byte, key_above, byte_is 0 c i at (omega arith)))

  -- and a copy with the key has both
  keyed_has : (key : ℕ) → copy_of c key i ≡ true → (get_or c at 0 ≡ usage_copy) × (word_at 4 c (at + 2) ≡ key)
  unfolding matches
  keyed_has key t =
      let e = eqb-true (bit_and (word_at 8 c at) copy_bits) (usage_copy + 65536 * key) t in
      let m = copy_mask (word_at 8 c at) in
      (omega (arith, e, m, lowest_byte, byte_is 0 c i at (omega arith)), omega (arith, e, m, key_above))

  -- where the key is an entry's, a copy's use byte makes it a copy with the key
  pub keyed_if : (key : ℕ) → word_at 4 c (at + 2) ≡ key → eqb (get_or c at 0) usage_copy ≡ copy_of c key i
  keyed_if key k =
      by_test (eqb (get_or c at 0) usage_copy) (λ t. t ∙ sym (keyed_is key (eqb-true _ _ t) k))
      (λ t. t ∙ sym (fails (copy_of c key i) (λ m. eqb-false _ _ t (keyed_has key m).0)))

  -- an entry with another key is none
  pub keyed_not : (key : ℕ) → (word_at 4 c (at + 2) ≡ key → ⊥) → false ≡ copy_of c key i
  keyed_not key h = sym (fails (copy_of c key i) (λ m. h (keyed_has key m).1))
