-- A valid header and a valid entry, as facts by name, and what they say of an account's data. Assumes nothing.
use Rattle.std.proofs.Common.{ℕ, ◌+◌, ◌*◌, ◌≤◌, ◌<◌, ◌≡◌, true, List, arith, length, get_or, leb-true, eqb-true, ltb-true}
use Rattle.layout.specs.Snapshot.{header_size, entry_size, context_size, account_limit, context_limit, transaction_limit, data_limit, snapshot_limit}
use Rattle.words.proofs.Run.{length-bytes_at, get_or-bytes_at}
use Rattle.choice.proofs.Tests.{both_true, by_test}
use Rattle.snapshot.specs.Header.{header_of, accounts, contexts, transaction, counts_valid, offsets_valid, total_valid, snapshot_valid}
use Rattle.snapshot.specs.Accounts.{known, entry_at, entry_of, exists, data_length, body_valid, valid_within, entry_valid, original}
use Rattle.snapshot.specs.declared.header.Header.{Header}
use Rattle.snapshot.specs.declared.accounts.Account.{Account}

-- ---- the header

-- counts that pass the test are within their limits
pub counts_limited : (h : Header) → counts_valid h ≡ true → (h.accounts ≤ account_limit) × (h.contexts ≤ context_limit) × (h.transaction ≤ transaction_limit)
unfolding counts_valid
counts_limited h e =
    let t₁ = both_true _ _ e in
    let t₂ = both_true _ _ t₁.1 in
    (leb-true _ _ t₁.0, leb-true _ _ t₂.0, leb-true _ _ t₂.1)

-- what a valid header keeps
pub record SnapshotFacts (s : List ℕ) : Type 0 where
  pub header : header_size ≤ length s
  pub few_accounts : accounts s ≤ account_limit
  pub few_contexts : contexts s ≤ context_limit
  pub short_transaction : transaction s ≤ transaction_limit
  pub accounts_at : (header_of s).accounts_at ≡ header_size
  pub contexts_at : (header_of s).contexts_at ≡ header_size + entry_size * accounts s
  pub transaction_at : (header_of s).transaction_at ≡ header_size + entry_size * accounts s + context_size * contexts s
  pub data_at : (header_of s).data_at ≡ header_size + entry_size * accounts s + context_size * contexts s + transaction s
  pub total : (header_of s).total ≡ length s
  pub room : (header_of s).data_at ≤ length s
  pub most : length s ≤ snapshot_limit

pub snapshot_facts : (s : List ℕ) → snapshot_valid s ≡ true → SnapshotFacts s
unfolding snapshot_valid offsets_valid total_valid
snapshot_facts s e =
    let t₁ = both_true _ _ e in
    let t₂ = both_true _ _ t₁.1 in
    let t₃ = both_true _ _ t₂.1 in
    let c = counts_limited _ t₂.0 in
    let o₁ = both_true _ _ t₃.0 in
    let o₂ = both_true _ _ o₁.1 in
    let o₃ = both_true _ _ o₂.1 in
    let l₁ = both_true _ _ t₃.1 in
    let l₂ = both_true _ _ l₁.1 in
    let total : (header_of s).total ≡ length s = eqb-true _ _ l₁.0 in
    let room : (header_of s).data_at ≤ (header_of s).total = leb-true _ _ l₂.0 in
    let most : (header_of s).total ≤ snapshot_limit = leb-true _ _ l₂.1 in
    record {
      header = leb-true _ _ t₁.0;
      few_accounts = c.0;
      few_contexts = c.1;
      short_transaction = c.2;
      accounts_at = eqb-true _ _ o₁.0;
      contexts_at = eqb-true _ _ o₂.0;
      transaction_at = eqb-true _ _ o₃.0;
      data_at = eqb-true _ _ o₃.1;
      total = total;
      room = omega arith;
      most = omega arith;
    }

-- the entry of a known account lies in the snapshot
pub entry_inside : (s : List ℕ) (a : Account) → snapshot_valid s ≡ true → known s a ≡ true → entry_at a + entry_size ≤ length s
entry_inside s a v k =
    let f : SnapshotFacts s = snapshot_facts s v in
    let l : a.0 < accounts s = ltb-true _ _ k in
    omega arith

-- ---- an entry

-- what a valid entry of an account that exists keeps
pub record EntryFacts (s : List ℕ) (a : Account) : Type 0 where
  pub few_flags : (entry_of s a).flags ≤ 3
  pub zero : (entry_of s a).zero ≡ 0
  pub short : (entry_of s a).length ≤ data_limit
  pub behind : (header_of s).data_at ≤ (entry_of s a).start
  pub within : (entry_of s a).start + (entry_of s a).length ≤ (header_of s).total

pub entry_facts : (s : List ℕ) (a : Account) → entry_valid s a ≡ true → exists (entry_of s a) ≡ true → EntryFacts s a
unfolding entry_valid valid_within body_valid
entry_facts s a v x =
    let t₁ = both_true _ _ (rw x at v) in
    let t₂ = both_true _ _ t₁.1 in
    let t₃ = both_true _ _ t₂.1 in
    let t₄ = both_true _ _ t₃.1 in
    record {
      few_flags = leb-true _ _ t₁.0;
      zero = eqb-true _ _ t₂.0;
      short = leb-true _ _ t₃.0;
      behind = leb-true _ _ t₄.0;
      within = leb-true _ _ t₄.1;
    }

-- ---- the data

module _ (s : List ℕ) (a : Account) where
  -- no account has more data than 2^24 bytes
  pub data_short : entry_valid s a ≡ true → data_length (entry_of s a) ≤ data_limit
  data_short v =
      by_test (exists (entry_of s a)) (λ x. rw x (entry_facts s a v x).short) (λ x. rw x (omega arith))

  -- every byte of the data lies in the snapshot
  pub data_inside : snapshot_valid s ≡ true → entry_valid s a ≡ true → (k : ℕ) → k < data_length (entry_of s a) → (entry_of s a).start + k < length s
  data_inside w v k =
      by_test (exists (entry_of s a))
      (λ x. rw x (λ l. omega (arith, (entry_facts s a v x).within, (snapshot_facts s w).total)))
      (λ x. rw x (λ l. absurd (omega arith)))

  -- the original data is as long as the entry says
  pub length-original : length (original s a) ≡ data_length (entry_of s a)
  unfolding original
  length-original = length-bytes_at (data_length (entry_of s a)) s (entry_of s a).start

  -- a byte of the original data
  pub get_or-original : (k : ℕ) → k < data_length (entry_of s a) → get_or (original s a) k 0 ≡ get_or s ((entry_of s a).start + k) 0
  unfolding original
  get_or-original k l = get_or-bytes_at (data_length (entry_of s a)) s (entry_of s a).start k l
