-- `changes::entry::Change::put` meets its contract: the first three fields are the bytes of one number and the last two of another, one behind the
-- other. Assumes nothing.
use Rattle.std.proofs.Common.{◌≡◌, ◌+◌, ◌<◌, ℕ, ◌*◌, List, ◌++◌, refl, ap, ◌∙◌, arith}
use Rattle.layout.specs.List.{change_at}
use Rattle.words.specs.Words.{splice, word_bytes}
use Rattle.changes.specs.Entry.{change_bytes}
use Rattle.changes.proofs.entry.Change.put.Goals as goal
use Rattle.words.proofs.Splice.{splice-append}
use Rattle.words.proofs.Word.{length-word_bytes, word_bytes-append}
use Rattle.changes.specs.declared.entry.Change.{Change}

-- the first three fields as one number
abbrev named : Change → ℕ
named e = e.account.0 + 65536 * e.page.0 + 4294967296 * e.live

-- the last two
abbrev told : Change → ℕ
told e = e.depth + 65536 * e.zero

module _ (e : Change) (account : e.account.0 < 65536) (page : e.page.0 < 65536) (depth : e.depth < 65536) where
  -- the first number's bytes are the first three fields'
  named_bytes : word_bytes 8 (named e) ≡ word_bytes 2 e.account.0 ++ (word_bytes 2 e.page.0 ++ word_bytes 4 e.live)
  named_bytes =
      let s : named e ≡ e.account.0 + 65536 * (e.page.0 + 65536 * e.live) = omega arith in
      rw s (word_bytes-append 2 6 e.account.0 (e.page.0 + 65536 * e.live) account)
      ∙ ap (λ (x : List ℕ). word_bytes 2 e.account.0 ++ x) (word_bytes-append 2 4 e.page.0 e.live page)

  -- both numbers' bytes are the entry's
  both_bytes : word_bytes 8 (named e) ++ word_bytes 4 (told e) ≡ change_bytes e
  unfolding change_bytes
  both_bytes = rw (named_bytes, word_bytes-append 2 2 e.depth e.zero depth) (unfold word_bytes in refl)

  -- they are put in
  put : (out : List ℕ) (i : ℕ) {at x y : ℕ} {o₁ o₂ : List ℕ} → at ≡ change_at i → x ≡ named e → y ≡ told e → o₁ ≡ splice out at (word_bytes 8 x)
      → o₂ ≡ splice o₁ (at + 8) (word_bytes 4 y) → o₂ ≡ splice out (change_at i) (change_bytes e)
  put out i f ex ey g h = h ∙ rw (g, f, ex, ey, ← both_bytes, splice-append, length-word_bytes)

pub returns : goal.returns
returns c =
    put c.args.self (omega arith) (omega arith) (omega arith) _ _ c.change_at-start.ensures (omega arith) (omega arith) c.write.ensures c.write-2.ensures
