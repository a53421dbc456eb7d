use Rattle.std.proofs.Common.{ℕ, ◌≡◌, refl, ap, ◌∙◌, true, false, List, length}
use Rattle.snapshot.specs.Header.{header_of, snapshot_valid}
use Rattle.snapshot.specs.Accounts.{entry_of, entry_valid}
use Rattle.snapshot.specs.declared.header.Header.{Header}
use Rattle.snapshot.proofs.Facts.{snapshot_facts, entry_inside}
use Rattle.control.specs.Control.{edition, current, invocations, invocation_of}
use Rattle.control.specs.declared.shadow.Invocation.{Invocation}
use Rattle.control.specs.declared.shadow.Region.TheVariants as region
use Rattle.control.proofs.Facts.{control_facts}
use Rattle.segments.specs.Rules.{permitted}
use Rattle.segments.specs.declared.rules.FetchRule.{FetchRule}
use Rattle.segments.specs.declared.rules.Presence.{Presence}
use Rattle.segments.specs.declared.rules.Presence.TheVariants.{Transaction, Shadow, Program, Context, Metadata, Data, Stack, Heap}
use Rattle.segments.specs.declared.rules.StoreRule.{StoreRule}
use Rattle.translate.specs.Columns.{of_transaction, of_shadow, of_program, of_context, of_metadata, of_data, of_region}
use Rattle.translate.specs.Translate.{indexed, concerned_valid, owned, running, end_of, start_of, source_of, sought_of}
use Rattle.translate.specs.declared.request.Request.{Request}
use Rattle.translate.specs.declared.sought.Sought.{Sought}
use Rattle.translate.proofs.Read.{named_as, header_fits, record_there, program_inside, few_pages}
use Rattle.translate.proofs.sought.sought_of.Goals as goal

-- the columns of each row, of the header and the invocation that were read
abbrev columns : List ℕ → List ℕ → Header → Invocation → FetchRule → StoreRule → Request → Presence → Sought
columns s c h i fetch store q Transaction = of_transaction h (permitted q.kind fetch store false false) q.offset
columns s c h i fetch store q Shadow = of_shadow (permitted q.kind fetch store false false) q.offset
columns s c h i fetch store q Program = of_program h (entry_of s i.program) (permitted q.kind fetch store false false) q.offset
columns s c h i fetch store q Context = of_context h (permitted q.kind fetch store false false) q.offset
columns s c h i fetch store q Metadata = of_metadata h (entry_of s (indexed q)) (indexed q) (permitted q.kind fetch store false false) q.offset
columns s c h i fetch store q Data = of_data h (entry_of s (indexed q)) (indexed q) i.program (edition c) fetch store q
columns s c h i fetch store q Stack = of_region i region.Stack (permitted q.kind fetch store false false) q.offset
columns s c h i fetch store q Heap = of_region i region.Heap (permitted q.kind fetch store false false) q.offset

-- are the definition's
columns_are : (s c : List ℕ) (fetch : FetchRule) (store : StoreRule) (q : Request) {h : Header} {i : Invocation} → h ≡ header_of s → i ≡ current c
    → (p : Presence)
    → columns s c h i fetch store q p ≡ sought_of s c p fetch store q
unfolding sought_of concerned_valid owned running end_of start_of source_of entry_valid
columns_are s c fetch store q header read Transaction = cc
columns_are s c fetch store q header read Shadow = refl
columns_are s c fetch store q header read Program = cc
columns_are s c fetch store q header read Context = cc
columns_are s c fetch store q header read Metadata = cc
columns_are s c fetch store q header read Data = cc
columns_are s c fetch store q header read Stack = cc
columns_are s c fetch store q header read Heap = cc

-- the invocation that was read is the current one
current_read : (c : List ℕ) {d : ℕ} {i : Invocation} → d ≡ invocations c → i ≡ invocation_of c d → i ≡ current c
current_read c live read = rw (← live) read

-- the snapshot is as long as its header says
total_there : (s : List ℕ) {h : Header} → h ≡ header_of s → snapshot_valid s ≡ true → h.total ≡ length s
total_there s e v = ap (λ (h : Header). h.total) e ∙ (snapshot_facts _ v).total

pub whole_header-h-requires : goal.whole_header-h-requires
whole_header-h-requires c = (snapshot_facts _ c.requires.ready.snapshot).header

pub invocation_count-requires : goal.invocation_count-requires
invocation_count-requires c = (control_facts _ c.requires.ready.control).header

pub invocation_at-i-requires : goal.invocation_at-i-requires
invocation_at-i-requires c = record_there _ _ _ c.requires.ready c.invocation_count.ensures.0

pub edition_of-requires : goal.edition_of-requires
edition_of-requires c = (control_facts _ c.requires.ready.control).header

pub of_data-requires : goal.of_data-requires
of_data-requires c = (total_there _ c.whole_header-h.ensures c.requires.ready.snapshot, entry_inside _ _ c.requires.ready.snapshot (named_as _ _ c.in-Data.is c.requires.named), c.requires.ready.offset)

pub of_program-requires : goal.of_program-requires
of_program-requires c = (total_there _ c.whole_header-h.ensures c.requires.ready.snapshot, program_inside _ _ _ c.requires.ready (current_read _ c.invocation_count.ensures.0 c.invocation_at-i.ensures), c.requires.ready.offset)

pub of_transaction-requires : goal.of_transaction-requires
of_transaction-requires c = ((header_fits _ _ _ c.requires.ready c.whole_header-h.ensures).0, c.requires.ready.offset)

pub of_context-requires : goal.of_context-requires
of_context-requires c = ((header_fits _ _ _ c.requires.ready c.whole_header-h.ensures).1, c.requires.ready.offset)

pub of_metadata-requires : goal.of_metadata-requires
of_metadata-requires c = (total_there _ c.whole_header-h.ensures c.requires.ready.snapshot, entry_inside _ _ c.requires.ready.snapshot (named_as _ _ c.in-Metadata.is c.requires.named), c.requires.ready.offset)

pub of_region-requires : goal.of_region-requires
of_region-requires c = (few_pages _ _ _ c.requires.ready (current_read _ c.invocation_count.ensures.0 c.invocation_at-i.ensures) region.Stack, c.requires.ready.offset)

pub of_region-requires-in-Heap : goal.of_region-requires-in-Heap
of_region-requires-in-Heap c = (few_pages _ _ _ c.requires.ready (current_read _ c.invocation_count.ensures.0 c.invocation_at-i.ensures) region.Heap, c.requires.ready.offset)

pub returns-in-Data : goal.returns-in-Data
returns-in-Data c = rw c.in-Data.is ((rw c.edition_of.ensures at c.of_data.ensures) ∙ columns_are _ _ _ _ _ c.whole_header-h.ensures (current_read _ c.invocation_count.ensures.0 c.invocation_at-i.ensures) Data)

pub returns-in-Program : goal.returns-in-Program
returns-in-Program c = rw c.in-Program.is ((rw c.plain.ensures at c.of_program.ensures) ∙ columns_are _ _ _ _ _ c.whole_header-h.ensures (current_read _ c.invocation_count.ensures.0 c.invocation_at-i.ensures) Program)

pub returns-in-Transaction : goal.returns-in-Transaction
returns-in-Transaction c = rw c.in-Transaction.is ((rw c.plain-in-Transaction.ensures at c.of_transaction.ensures) ∙ columns_are _ _ _ _ _ c.whole_header-h.ensures (current_read _ c.invocation_count.ensures.0 c.invocation_at-i.ensures) Transaction)

pub returns-in-Shadow : goal.returns-in-Shadow
returns-in-Shadow c = rw c.in-Shadow.is ((rw c.plain-in-Shadow.ensures at c.of_shadow.ensures) ∙ columns_are _ _ _ _ _ c.whole_header-h.ensures (current_read _ c.invocation_count.ensures.0 c.invocation_at-i.ensures) Shadow)

pub returns-in-Context : goal.returns-in-Context
returns-in-Context c = rw c.in-Context.is ((rw c.plain-in-Context.ensures at c.of_context.ensures) ∙ columns_are _ _ _ _ _ c.whole_header-h.ensures (current_read _ c.invocation_count.ensures.0 c.invocation_at-i.ensures) Context)

pub returns-in-Metadata : goal.returns-in-Metadata
returns-in-Metadata c = rw c.in-Metadata.is ((rw c.plain-in-Metadata.ensures at c.of_metadata.ensures) ∙ columns_are _ _ _ _ _ c.whole_header-h.ensures (current_read _ c.invocation_count.ensures.0 c.invocation_at-i.ensures) Metadata)

pub returns-in-Stack : goal.returns-in-Stack
returns-in-Stack c = rw c.in-Stack.is ((rw c.plain-in-Stack.ensures at c.of_region.ensures) ∙ columns_are _ _ _ _ _ c.whole_header-h.ensures (current_read _ c.invocation_count.ensures.0 c.invocation_at-i.ensures) Stack)

pub returns-in-Heap : goal.returns-in-Heap
returns-in-Heap c = rw c.in-Heap.is ((rw c.plain-in-Heap.ensures at c.of_region-in-Heap.ensures) ∙ columns_are _ _ _ _ _ c.whole_header-h.ensures (current_read _ c.invocation_count.ensures.0 c.invocation_at-i.ensures) Heap)
