-- Copies of different pages: no two neighbours among the ascending codes have one key; then each page's frame is that of its code, and
-- the keys of the codes are the keys of the pages that copies claim. Assumes nothing.
use Rattle.std.proofs.Common.{ℕ, suc, ◌-◌, ◌≤◌, ◌<◌, ◌≡◌, refl, sym, ap, ◌∙◌, Bool, true, false, not, List, map, arith, eqb, length, get_or, eqb-true, eq-eqb, ne_eqb}
use Rattle.std.proofs.Math.Decide.{dec_lt}
use Rattle.std.proofs.Math.ListN.{length-map}
use borrow.Author.Tests.{eqb-false, not-true, not-false}
use Rattle.layout.specs.Control.{frame_limit}
use Rattle.choice.specs.Ascending.{Ascending}
use Rattle.choice.proofs.Ascending.{Member, get_or_images, member_image, image_member, ascending_steps, ascending_once, ascending_same, picked-passes, passes-picked, picked_ascending}
use Rattle.choice.proofs.Every.{every_at, every_all}
use Rattle.choice.proofs.Tests.{fails}
use Rattle.control.specs.Control.{frames}
use Rattle.frames.specs.Table.{frame_entry_of, claims, frame_of, is_found, is_copy}
use Rattle.frames.proofs.Entries.{EntryRange, entry_range}
use Rattle.frames.proofs.Claims.{IsCopy, claims_copy, copy_claims, frame_found, found_frame}
use Rattle.changes.specs.Keys.{key_account, key_page, key_claim, key_limit, is_copied, copy_keys}
use Rattle.changes.specs.List.{frame_depth, copy_depth}
use Rattle.changes.specs.Copies.{entry_code, code_key, code_frame, code_depth, codes_below, key_twice}
use Rattle.changes.proofs.Codes.{entry_key, code_key_lem, code_frame_lem, code_depth_lem, code_once, CopyCode, codes_copies, copies_codes, codes_ascending}
use Rattle.std.specs.Prelude.{None, Option, Some}
use Rattle.pages.specs.declared.Frame.{Frame}

-- of the first n entries no two copies are of one page
abbrev pub Apart : List ℕ → ℕ → Type 0
Apart c n = (i j : ℕ) → i < j → j < n → is_copy c i ≡ true → is_copy c j ≡ true → entry_key c i ≡ entry_key c j → ⊥

-- ---- neighbours

-- the test of two neighbours
abbrev pub differs : List ℕ → ℕ → Bool
differs xs j = not (eqb (code_key (get_or xs j 0)) (code_key (get_or xs (suc j) 0)))

-- where no two neighbours of an ascending list have one key, the keys ascend
keys_ascending : (xs : List ℕ) → Ascending xs → key_twice xs ≡ false → Ascending (map code_key xs)
unfolding key_twice
keys_ascending xs a h =
    ascending_steps (map code_key xs)
    (λ j l.
    let m : suc j < length xs = omega (arith, length-map xs code_key) in
    let t : differs xs j ≡ true = every_at (differs xs) (length xs - 1) j (not-false _ h) (omega arith) in
    let d : code_key (get_or xs j 0) ≡ code_key (get_or xs (suc j) 0) → ⊥ = eqb-false _ _ (not-true _ t) in
    rw (get_or_images code_key xs j (omega arith), get_or_images code_key xs (suc j) m) (omega (arith, a j (suc j) (omega arith) m)))

module _ (c : List ℕ) (bytes : (k : ℕ) → get_or c k 0 < 256) (n : ℕ) (few : n ≤ frame_limit) where
  -- where no two neighbours have one key, no two copies have
  pub once_apart : key_twice (codes_below c n) ≡ false → Apart c n
  once_apart h i j l m p q e =
      let xs : List ℕ = codes_below c n in
      let u : Member (entry_code c i) xs = copies_codes c n i (omega arith) p in
      let v : Member (entry_code c j) xs = copies_codes c n j m q in
      let f : get_or (map code_key xs) u.at 0 ≡ entry_key c i =
      get_or_images code_key xs u.at u.below ∙ ap code_key u.is ∙ code_key_lem c bytes i (omega arith) in
      let g : get_or (map code_key xs) v.at 0 ≡ entry_key c j =
      get_or_images code_key xs v.at v.below ∙ ap code_key v.is ∙ code_key_lem c bytes j (omega arith) in
      let s : u.at ≡ v.at =
      ascending_once (map code_key xs) (keys_ascending xs (codes_ascending c n bytes few) h) u.at v.at
      (omega (arith, u.below, length-map xs code_key)) (omega (arith, v.below, length-map xs code_key)) (f ∙ e ∙ sym g) in
      let w : entry_code c i ≡ entry_code c j = sym u.is ∙ ap (λ (k : ℕ). get_or xs k 0) s ∙ v.is in
      omega (arith, code_once c bytes i j (omega arith) (omega arith) w)

  -- where no two copies have one key, no two neighbours have
  pub apart_once : Apart c n → key_twice (codes_below c n) ≡ false
  unfolding key_twice
  apart_once h =
      let xs : List ℕ = codes_below c n in
      rw (every_all (differs xs) (length xs - 1)
      (λ j l.
      rw (ne_eqb (code_key (get_or xs j 0)) (code_key (get_or xs (suc j) 0))
      (λ e.
      let m : suc j < length xs = omega arith in
      let a : get_or xs j 0 < get_or xs (suc j) 0 = codes_ascending c n bytes few j (suc j) (omega arith) m in
      let u : CopyCode c n (get_or xs j 0) = codes_copies c n _ (record { at = j; below = omega arith; is = refl }) in
      let v : CopyCode c n (get_or xs (suc j) 0) = codes_copies c n _ (record { at = suc j; below = m; is = refl }) in
      let d : EntryRange (frame_entry_of c u.frame) = entry_range c bytes u.frame in
      let g : EntryRange (frame_entry_of c v.frame) = entry_range c bytes v.frame in
      let f : entry_key c u.frame ≡ entry_key c v.frame = omega (arith, u.is, v.is, u.below, v.below, d.depth, g.depth) in
      elim (dec_lt u.frame v.frame) [
        | yes p ↦ h u.frame v.frame p v.below u.copy v.copy f
        | no p ↦
            let i : u.frame ≡ v.frame = omega (arith, u.is, v.is, d.depth, g.depth) in
            let w : get_or xs j 0 ≡ get_or xs (suc j) 0 = u.is ∙ ap (entry_code c) i ∙ sym v.is in
            omega arith
      ]))))

-- ---- pages

module _ (c : List ℕ) (bytes : (k : ℕ) → get_or c k 0 < 256) where
  -- entry i is a copy of the page of its key
  entry_claims : (i : ℕ) → is_copy c i ≡ true → claims c (key_claim (entry_key c i)) i ≡ true
  entry_claims i p =
      let r : EntryRange (frame_entry_of c i) = entry_range c bytes i in
      copy_claims c i _ _
      (record { usage = eqb-true _ _ p; account = omega (arith, r.account, r.page); page = omega (arith, r.account, r.page) })

  -- an entry that claims the page of a key is a copy with that key
  claims_key : (i k : ℕ) → claims c (key_claim k) i ≡ true → (is_copy c i ≡ true) × (entry_key c i ≡ k)
  claims_key i k h =
      let f : IsCopy (key_account k) (key_page k) (frame_entry_of c i) = claims_copy c i (key_account k) (key_page k) h in
      (eq-eqb _ _ f.usage, omega (arith, f.account, f.page))

  module _ (few : frames c ≤ frame_limit) (apart : Apart c (frames c)) where
    -- the frame of a copy's page is the copy's
    entry_frame : (i : ℕ) → i < frames c → is_copy c i ≡ true → frame_of c (key_claim (entry_key c i)) ≡ Some (record { 0 = i })
    entry_frame i l p =
        found_frame c (key_claim (entry_key c i)) i
        (record {
          below = l;
          passes = entry_claims i p;
          before =
              λ j h.
              fails (claims c (key_claim (entry_key c i)) j)
              (λ t. let f = claims_key j (entry_key c i) t in apart j i h l f.0 p f.1);
        })

    -- the frame of a code's page is the code's
    pub code_found : (x : ℕ) → Member x (codes_below c (frames c)) → frame_of c (key_claim (code_key x)) ≡ Some (record { 0 = code_frame x })
    code_found x m =
        let u : CopyCode c (frames c) x = codes_copies c (frames c) x m in
        let l : u.frame < frame_limit = omega (arith, u.below) in
        rw (u.is, code_key_lem c bytes u.frame l, code_frame_lem c bytes u.frame l) (entry_frame u.frame u.below u.copy)

    -- the depth of a code's page is the code's
    pub code_told : (x : ℕ) → Member x (codes_below c (frames c)) → code_depth x ≡ copy_depth c (code_key x)
    unfolding copy_depth
    code_told x m =
        let u : CopyCode c (frames c) x = codes_copies c (frames c) x m in
        let l : u.frame < frame_limit = omega (arith, u.below) in
        let f : code_frame x ≡ u.frame = ap code_frame u.is ∙ code_frame_lem c bytes u.frame l in
        ap code_depth u.is ∙ code_depth_lem c bytes u.frame l
        ∙ sym (ap (frame_depth c) (code_found x m) ∙ ap (λ (i : ℕ). (frame_entry_of c i).depth) f)

    -- each code's key is that of a page with a copy
    key_copied : (z : ℕ) → Member z (map code_key (codes_below c (frames c))) → Member z (copy_keys c)
    unfolding copy_keys is_copied
    key_copied z m =
        let xs : List ℕ = codes_below c (frames c) in
        let g = image_member code_key xs z m in
        let u : CopyCode c (frames c) g.0 = codes_copies c (frames c) g.0 g.1 in
        let r : EntryRange (frame_entry_of c u.frame) = entry_range c bytes u.frame in
        passes-picked (is_copied c) 0 key_limit z (omega arith) (omega (arith, g.2, u.is, u.below, r.account, r.page, r.depth))
        (rw (g.2, code_found g.0 g.1))

    -- the key of each page with a copy is a code's
    copied_key : (z : ℕ) → Member z (copy_keys c) → Member z (map code_key (codes_below c (frames c)))
    unfolding copy_keys is_copied
    copied_key z m = look (frame_of c (key_claim z)) refl (picked-passes (is_copied c) 0 key_limit z m).2
      where
        look : (f : Option Frame) → frame_of c (key_claim z) ≡ f → is_found f ≡ true → Member z (map code_key (codes_below c (frames c)))
        look None e t = let w : ◌≡◌ {A = ℕ} 0 1 = cc in absurd (omega arith)
        look (Some f) e t =
            let g = frame_found c (key_claim z) f e in
            let k = claims_key f.0 z g.passes in
            let u : code_key (entry_code c f.0) ≡ z = code_key_lem c bytes f.0 (omega (arith, g.below)) ∙ k.1 in
            rw u at (member_image code_key (codes_below c (frames c)) (entry_code c f.0) (copies_codes c (frames c) f.0 g.below k.0))

    -- the codes' keys are the keys of the pages that copies claim
    pub keys_are : map code_key (codes_below c (frames c)) ≡ copy_keys c
    unfolding copy_keys
    keys_are =
        ascending_same (map code_key (codes_below c (frames c))) (copy_keys c)
        (keys_ascending (codes_below c (frames c)) (codes_ascending c (frames c) bytes few) (apart_once c bytes (frames c) few apart))
        (picked_ascending (is_copied c) 0 key_limit) key_copied copied_key
