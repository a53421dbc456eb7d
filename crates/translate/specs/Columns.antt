-- The columns of each row of the table, from the header h, the current invocation i and the entry e that were read. Assumes nothing.
use Rattle.std.specs.Prelude.{ℕ, ◌+◌, ◌-◌, ◌*◌, ◌/◌, ◌%◌, Bool, true}
use Rattle.layout.specs.Page.{page_size}
use Rattle.layout.specs.Control.{shadow_at, table_at}
use Rattle.layout.specs.Snapshot.{context_size, metadata_size}
use Rattle.snapshot.specs.Accounts.{valid_within, data_length, metadata_at}
use Rattle.choice.specs.Choice.{pick}
use Rattle.snapshot.specs.declared.header.Header.{Header}
use Rattle.snapshot.specs.declared.accounts.Account.{Account}
use Rattle.snapshot.specs.declared.accounts.AccountEntry.{AccountEntry}
use Rattle.control.specs.Control.{pages_of}
use Rattle.control.specs.declared.shadow.Invocation.{Invocation}
use Rattle.control.specs.declared.shadow.Region.{Region}
use Rattle.segments.specs.Rules.{permitted}
use Rattle.segments.specs.declared.rules.FetchRule.{FetchRule}
use Rattle.segments.specs.declared.rules.StoreRule.{StoreRule}
use Rattle.translate.specs.Translate.{owned_by, runs, context_end, region_end, metadata_buffer, no_entry}
use Rattle.translate.specs.declared.request.Request.{Request}
use Rattle.translate.specs.declared.sought.Sought.{Sought}
use Rattle.translate.specs.declared.sought.Source.{Source}
use Rattle.translate.specs.declared.sought.Source.TheVariants as source
use Rattle.translate.specs.declared.sought.Buffer.TheVariants as buffer

-- what is asked of a row whose entry is valid, or that belongs to no account
abbrev pub asked : Bool → ℕ → Source → ℕ → Sought
asked permitted end source at = record { entry = true; permitted = permitted; end = end; source = source; at = at }

-- 0/1
abbrev pub of_transaction : Header → Bool → ℕ → Sought
of_transaction h permitted offset = asked permitted h.transaction (source.Plain buffer.Snapshot) (h.transaction_at + offset)

-- 0/2
abbrev pub of_shadow : Bool → ℕ → Sought
of_shadow permitted offset = asked permitted (table_at - shadow_at) (source.Plain buffer.Control) (shadow_at + offset)

-- 0/3
abbrev pub of_program : Header → AccountEntry → Bool → ℕ → Sought
of_program h e permitted offset =
    pick (valid_within h.data_at h.total e) (asked permitted (data_length e) (source.Plain buffer.Snapshot) (e.start + offset)) no_entry

-- 0/4
abbrev pub of_context : Header → Bool → ℕ → Sought
of_context h permitted offset =
    asked permitted (context_end h.contexts offset) (source.Plain buffer.Snapshot) (h.contexts_at + context_size * (offset / page_size) + offset % page_size)

-- type 2
abbrev pub of_metadata : Header → AccountEntry → Account → Bool → ℕ → Sought
of_metadata h e a permitted offset =
    pick (valid_within h.data_at h.total e) (asked permitted metadata_size (source.Plain (metadata_buffer e)) (metadata_at a + offset)) no_entry

-- type 3
abbrev pub of_data : Header → AccountEntry → Account → Account → ℕ → FetchRule → StoreRule → Request → Sought
of_data h e a program edition fetch store q =
    pick (valid_within h.data_at h.total e)
    (asked (permitted q.kind fetch store (runs edition a program) (owned_by e program)) (data_length e) source.Copy (e.start + q.offset))
    no_entry

-- types 5 and 7
abbrev pub of_region : Invocation → Region → Bool → ℕ → Sought
of_region i r permitted offset = asked permitted (region_end r (pages_of i r) offset) (source.Region r) 0
