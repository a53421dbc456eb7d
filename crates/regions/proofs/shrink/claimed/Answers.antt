-- `regions::shrink::claimed` meets its contract: an entry of the region claims the page that it names, and no other. Assumes nothing.
use Rattle.std.proofs.Common.{◌≡◌, true, false, ℕ, ◌+◌, ◌≤◌, ◌<◌, Bool, List, sym, ap, ◌∙◌, ◌≢◌, arith, eqb, ltb, eq-eqb, ne_eqb, ltb-true, ltb-false, Option, IfSome, IfNone}
use Rattle.std.specs.Bool.{then_some}
use Rattle.layout.specs.Page.{page_limit}
use Rattle.regions.specs.Resize.{page_at}
use Rattle.regions.proofs.shrink.claimed.Goals as goal
use Rattle.choice.proofs.Tests.{by_test, differ, fails}
use Rattle.control.specs.declared.shadow.Region.{Region}
use Rattle.pages.specs.declared.Page.{Page}
use Rattle.frames.specs.Table.{frame_entry_of, usage_of}
use Rattle.frames.specs.declared.table.FrameEntry.{FrameEntry}
use Rattle.frames.proofs.Claims.{claims_page, page_claims}
use Rattle.regions.proofs.Listed.{claim}

-- a test that passes for j alone
tested : (b : Bool) (k j : ℕ) → (b ≡ true → k ≡ j) → (k ≡ j → b ≡ true) → b ≡ eqb k j
tested b k j f g = by_test b (λ e. e ∙ sym (eq-eqb k j (f e))) (λ e. e ∙ sym (ne_eqb k j (λ z. differ b (g z) e)))

module _ (c : List ℕ) (r : Region) (i pages n : ℕ) (most : pages + n ≤ page_limit) where
  -- entry i claims none of the pages
  abbrev Nothing : Type 0
  Nothing = (k : ℕ) → k < n → claim c r pages k i ≡ false

  -- it claims the j-th of the pages, and no other
  abbrev Alone : ℕ → Type 0
  Alone j = (j < n) × ((k : ℕ) → k < n → claim c r pages k i ≡ eqb k j)

  -- it is in another use
  other_use : (frame_entry_of c i).usage ≢ usage_of r → Nothing
  other_use d k l = fails _ (λ h. d (claims_page c i r _ h).usage)

  -- its page is q
  module _ (q : Page) (read : (frame_entry_of c i).page ≡ q) where
    -- the number that a page has that it claims
    number : (k : ℕ) → claim c r pages k i ≡ true → q.0 ≡ (page_at r (pages + k)).0
    number k h = sym (ap (λ (x : Page). x.0) read) ∙ (claims_page c i r (page_at r (pages + k)) h).page

    -- its place is x, and no other page of the region has it
    module _ (x : ℕ) (at : (k : ℕ) → k < page_limit → q.0 ≡ (page_at r k).0 → x ≡ k) where
      -- so x is the place of a page that it claims
      place : (k : ℕ) → k < n → claim c r pages k i ≡ true → x ≡ pages + k
      place k l h = at (pages + k) (omega arith) (number k h)

      -- and j is how far it lies behind the first `pages` of them, if it is one of the n
      module _ (j : ℕ) (near : (k : ℕ) → k < n → x ≡ pages + k → j ≡ k) (far : j < n → x ≡ pages + j) where
        -- it is none of them
        behind : n ≤ j → Nothing
        behind d k l = fails _ (λ h. omega (arith, d, l, near k l (place k l h)))

        -- it is the j-th
        itself : (x < page_limit → q ≡ page_at r x) → (frame_entry_of c i).usage ≡ usage_of r → j < n → Alone j
        itself p u d = (
          d,
          λ k l. tested _ k j (λ h. sym (near k l (place k l h)))
              (λ e.
              let z : pages + k ≡ x = omega (arith, far d, e) in
              rw z (page_claims c i r (page_at r x) (record { usage = u; page = ap (λ (y : Page). y.0) (read ∙ p (omega (arith, far d, d, most))) }))),
        )

-- an answer that a test gives
given : (o : Option ℕ) (k n : ℕ) (P : ℕ → Type 0) → o ≡ then_some (ltb k n) k → (k < n → P k) → IfSome o P
given o k n P e h = by_test (ltb k n) (λ t. rw (e, t) (h (ltb-true _ _ t))) (λ t. rw (e, t) tt)

missed : (o : Option ℕ) (k n : ℕ) (P : Type 0) → o ≡ then_some (ltb k n) k → (n ≤ k → P) → IfNone o P
missed o k n P e h = by_test (ltb k n) (λ t. rw (e, t) tt) (λ t. rw (e, t) (h (ltb-false _ _ t)))

pub returns-then-usage_at-usage_of-clause-none : goal.returns-then-usage_at-usage_of-clause-none
returns-then-usage_at-usage_of-clause-none c =
    other_use _ _ _ _ _ c.requires.1 (λ e. c.if-usage_at-usage_of.true (c.usage_at.ensures ∙ e ∙ sym c.usage_of.ensures))

pub returns-clause-some : goal.returns-clause-some
returns-clause-some c =
    given _ _ _ (Alone c.args.c.now c.args.r c.args.i c.args.pages c.args.n c.requires.1) c.then_some.ensures
    (λ l.
    itself _ _ _ _ _ c.requires.1 _ (ap (λ (e : FrameEntry). e.page) (sym c.entry_at.ensures)) _ c.place_of.ensures.alone
    _ (λ k h e. omega (arith, e, h)) (λ h. omega (arith, h)) c.place_of.ensures.itself (sym c.usage_at.ensures ∙ c.if-usage_at-usage_of.false ∙ c.usage_of.ensures) l)

pub returns-clause-none : goal.returns-clause-none
returns-clause-none c =
    missed _ _ _ _ c.then_some.ensures
    (λ l.
    behind _ _ _ _ _ c.requires.1 _ (ap (λ (e : FrameEntry). e.page) (sym c.entry_at.ensures)) _ c.place_of.ensures.alone
    _ (λ k h e. omega (arith, e, h)) (λ h. omega (arith, h)) l)
