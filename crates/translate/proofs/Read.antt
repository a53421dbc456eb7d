-- What is read on the way to a row's columns: an entry's place is a u32, the records and the program's entry are there. Assumes nothing.
use Rattle.std.proofs.Common.{ℕ, ◌+◌, ◌<◌, ◌≤◌, ◌≡◌, Bool, true, false, List, arith, length, get_or, lt-ltb}
use Rattle.layout.specs.Page.{page_limit}
use Rattle.layout.specs.Control.{table_at, live_limit}
use Rattle.layout.specs.Snapshot.{entry_size}
use Rattle.words.proofs.Word.{word_fits}
use Rattle.snapshot.specs.Header.{header_of}
use Rattle.choice.specs.Choice.{pick}
use Rattle.snapshot.specs.Accounts.{entry_at, entry_of, valid_within}
use Rattle.snapshot.specs.declared.header.Header.{Header}
use Rattle.snapshot.specs.declared.accounts.Account.{Account}
use Rattle.snapshot.specs.declared.accounts.AccountEntry.{AccountEntry}
use Rattle.snapshot.proofs.Facts.{SnapshotFacts, snapshot_facts, entry_inside}
use Rattle.control.specs.Control.{invocations, current, pages_of}
use Rattle.control.specs.declared.shadow.Invocation.{Invocation}
use Rattle.control.specs.declared.shadow.Region.{Region}
use Rattle.control.specs.declared.shadow.Region.TheVariants.{Stack, Heap}
use Rattle.control.proofs.Facts.{ControlFacts, control_facts, current_facts}
use Rattle.segments.specs.declared.rules.Presence.{Presence}
use Rattle.translate.specs.Translate.{no_entry, Named, Ready}
use Rattle.translate.specs.declared.sought.Sought.{Sought}
use Rattle.translate.specs.declared.request.Request.{Request}

-- the place that an entry names is a u32
pub start_fits : (s : List ℕ) (a : Account) {e : AccountEntry} → e ≡ entry_of s a → ((i : ℕ) → get_or s i 0 < 256) → e.start < 4294967296
unfolding entry_of
start_fits s a entry bytes = rw entry (word_fits 4 s (entry_at a + 8) bytes)

-- an entry that was tested, within the snapshot's length, decides what is sought of its row
module _ (h : Header) {n : ℕ} {e x : AccountEntry} {v : Bool} (all : h.total ≡ n) (is : e ≡ x) (tested : v ≡ valid_within h.data_at n e) (y : Sought) where
  -- it is valid
  pub entry_holds : v ≡ true → pick (valid_within h.data_at h.total x) y no_entry ≡ y
  entry_holds t = rw (all, ← is, ← tested, t)

  -- it is not
  pub entry_fails : v ≡ false → pick (valid_within h.data_at h.total x) y no_entry ≡ no_entry
  entry_fails t = rw (all, ← is, ← tested, t)

-- what is known of a row's index, by the row's presence
pub named_as : (s : List ℕ) (q : Request) {p r : Presence} → p ≡ r → Named s p q → Named s r q
named_as s q e n = rw e at n

module _ (s c : List ℕ) (q : Request) (ready : Ready s c q) where
  -- the places in the header are u32
  pub header_fits : {h : Header} → h ≡ header_of s → (h.transaction_at < 4294967296) × (h.contexts_at < 4294967296)
  header_fits e = let f : SnapshotFacts s = snapshot_facts s ready.snapshot in rw e (omega arith, omega arith)

  -- the count of live invocations is in range, and their records are there
  pub record_there : {d : ℕ} → d ≡ invocations c → (d ≤ live_limit) × (table_at ≤ length c)
  record_there live = let f : ControlFacts c = control_facts c ready.control in omega arith

  module _ {i : Invocation} (read : i ≡ current c) where
    -- the current program's entry lies in the snapshot
    pub program_inside : entry_at i.program + entry_size ≤ length s
    program_inside =
        rw read (entry_inside s _ ready.snapshot (lt-ltb _ _ (current_facts c (header_of s).accounts ready.current).program_known))

    -- no region has more pages than an offset reaches
    pub few_pages : (r : Region) → pages_of i r ≤ page_limit
    few_pages Stack = rw read (current_facts c _ ready.current).few_stack
    few_pages Heap = rw read (current_facts c _ ready.current).few_heap
