-- Buffers for the trials on accesses. Assumes nothing.
use Rattle.std.specs.Prelude.{ℕ, ◌+◌, ◌-◌, ◌*◌, List, [], ◌++◌}
use Rattle.layout.specs.Snapshot.{header_size, entry_size, context_size, metadata_size}
use Rattle.layout.specs.Page.{page_limit, pool_length}
use Rattle.layout.specs.Control.{older, newer, shadow_at, shadow_size, registers_size, live_limit, table_at, usage_stack, usage_heap}
use Rattle.words.specs.Words.{word_bytes, zeros}
use Rattle.control.specs.Control.{invocation_bytes}
use Rattle.frames.specs.Table.{frame_entry_bytes}

-- the three buffers of a trial
pub record Setting : Type 0 where
  pub snapshot : List ℕ
  pub control : List ℕ
  pub pool : List ℕ

-- an account entry with metadata of zeros
unfoldable pub entry_bytes : ℕ → ℕ → ℕ → ℕ → List ℕ
entry_bytes flags owner size start = word_bytes 2 flags ++ (word_bytes 2 owner ++ (word_bytes 4 size ++ (word_bytes 4 start ++ zeros (4 + metadata_size))))

-- where the contexts start with six accounts
abbrev pub contexts_start : ℕ
contexts_start = header_size + entry_size * 6

-- where the data starts with six accounts, b contexts and a transaction of 72 bytes
abbrev pub data_start : ℕ → ℕ
data_start b = contexts_start + context_size * b + 72

-- the snapshot's header, with n bytes of data
unfoldable pub snapshot_header : ℕ → ℕ → List ℕ
snapshot_header b n =
    word_bytes 4 6 ++ (word_bytes 4 b ++ (word_bytes 4 72 ++ (word_bytes 4 header_size ++ (word_bytes 4 contexts_start ++ (word_bytes 4 (contexts_start + context_size * b)
    ++ (word_bytes 4 (data_start b) ++ word_bytes 4 (data_start b + n)))))))

-- six accounts: account 0 is the program, accounts 1 to 4 do not exist, account 5 is writable, is owned by account 0 and has n bytes
unfoldable pub snapshot_with : ℕ → ℕ → List ℕ
snapshot_with b n =
    snapshot_header b n
    ++ (entry_bytes 1 0 0 (data_start b) ++ (zeros (entry_size * 4) ++ (entry_bytes 3 0 n (data_start b) ++ zeros (context_size * b + 72 + n))))

-- one invocation of account 0 in an edition with these sizes, over a frame table of f entries
unfoldable pub control_with : ℕ → ℕ → ℕ → ℕ → List ℕ → List ℕ
control_with edition f stack heap table =
    word_bytes 4 f ++ (word_bytes 4 1 ++ (word_bytes 4 shadow_at ++ (word_bytes 4 table_at ++ (word_bytes 4 edition
    ++ (zeros 4
    ++ (zeros shadow_size
    ++ (invocation_bytes (record { program = record { 0 = 0 }; stack = stack; heap = heap }) (zeros registers_size) ++ (zeros (shadow_size * (live_limit - 1)) ++ table))))))))

-- "Account data of 6,000 bytes", one block context, no frame
unfoldable pub plain : Setting
plain = record { snapshot = snapshot_with 1 6000; control = control_with newer 0 0 0 []; pool = [] }

-- the same in the older edition
unfoldable pub plain_older : Setting
plain_older = record { snapshot = snapshot_with 1 6000; control = control_with older 0 0 0 []; pool = [] }

-- one stack page in frame 0 and one heap page in frame 1
unfoldable pub one_page : Setting
one_page =
    record {
      snapshot = snapshot_with 1 0;
      control =
          control_with newer 2 1 1
          (frame_entry_bytes (record { usage = usage_stack; tag = 0; account = record { 0 = 0 }; page = record { 0 = page_limit - 1 }; depth = 0 })
          ++ frame_entry_bytes (record { usage = usage_heap; tag = 0; account = record { 0 = 0 }; page = record { 0 = 0 }; depth = 0 }));
      pool = zeros (pool_length 2);
    }
