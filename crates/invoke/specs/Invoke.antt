-- Rules: "Begin, call, return, resize": begin, call and return. Assumes nothing.
use Rattle.std.specs.Prelude.{ℕ, zero, suc, ◌+◌, ◌-◌, ◌/◌, Bool, List, ◌++◌, length, nat_lt, nat_le, nat_eq}
use Rattle.layout.specs.Page.{pool_length}
use Rattle.layout.specs.Control.{shadow_at, table_at, frame_entry_size, frame_limit, live_limit, registers_size, control_length}
use Rattle.words.specs.Words.{word_bytes, splice, zeros}
use Rattle.choice.specs.Choice.{pick, both}
use Rattle.refusal.specs.Checks.{need, ◌then◌, check_number, or_keep, Check}
use Rattle.refusal.specs.declared.Refusal.TheVariants.{Invalid, BadRequest, NoSegment, NoFrame, DepthLimit}
use Rattle.snapshot.specs.Header.{snapshot_valid}
use Rattle.snapshot.specs.Accounts.{entry_of, exists}
use Rattle.snapshot.specs.Lookup.{account_check}
use Rattle.snapshot.specs.declared.accounts.Account.{Account}
use Rattle.control.specs.Buffers.{Buffers}
use Rattle.control.specs.Control.{frames, invocations, depth, edition_known, set_invocations, record_at, current, put_invocation, clear_invocation, set_pages, registers_of, buffers_valid}
use Rattle.control.specs.declared.shadow.Region.TheVariants.{Stack, Heap}
use Rattle.frames.specs.Table.{frame_entry_of, free_frame_entry, usage_of}
use Rattle.frames.specs.declared.table.FrameEntry.{FrameEntry}
use Rattle.regions.specs.Resize.{resize_to}
use Rattle.invoke.specs.declared.begin.Start.{Start}

-- "4 (not below A), 1 (entry unfit), 4 (does not exist)"
unfoldable pub program_check : List ℕ → Account → Check
program_check s a =
    account_check s a
    then need (exists (entry_of s a)) NoSegment

-- ---- begin

-- the F that a control block of this length has room for
abbrev pub frames_in : ℕ → ℕ
frames_in size = (size - table_at) / frame_entry_size

-- "ledger length .. for some F in range; pool 4,096F", and "the length is 4,512+8F"
unfoldable pub room_valid : ℕ → ℕ → Bool
room_valid control pool =
    both (nat_le table_at control)
    (both (nat_le (frames_in control) frame_limit)
    (both (nat_eq control (control_length (frames_in control))) (nat_eq pool (pool_length (frames_in control)))))

-- "the number of pages, 0 or 1; any other is 2, right after the first 1"; "Both begins take the edition; any other is 2, right after the first
-- 1"; the program; "With F=0 it answers 8, checked last", where a page is asked
unfoldable pub start_check : List ℕ → ℕ → Start → Check
start_check s f x =
    need (both (nat_le x.pages 1) (edition_known x.edition)) BadRequest
    then program_check s x.program
    then need (nat_le x.pages f) NoFrame

-- "Order: 1 (ground; ledger length ..; pool ..)", then the tests of what is asked
unfoldable pub begin_check : List ℕ → ℕ → ℕ → Start → Check
begin_check s control pool x = need (both (snapshot_valid s) (room_valid control pool)) Invalid then start_check s (frames_in control) x

-- "frame count F .., live invocations D .., offset of shadow frames .., offset of the frame table", "a u32 edition .. and a zero u32"
unfoldable pub header_bytes : ℕ → ℕ → ℕ → List ℕ
header_bytes f d e =
    word_bytes 4 f ++ (word_bytes 4 d ++ (word_bytes 4 shadow_at ++ (word_bytes 4 table_at ++ (word_bytes 4 e ++ zeros 4))))

-- "It writes the whole ledger: header with D=1, frame 1 with that program and no pages, zeros elsewhere."
unfoldable pub fresh : ℕ → Start → List ℕ
fresh size x = splice (splice (zeros size) 0 (header_bytes (frames_in size) 1 x.edition)) (record_at 1) (word_bytes 2 x.program.0)

-- "Every mill's first call is to grow the stack to one page. Begin shall do it": the stack of a fresh control block, resized to the pages given
unfoldable pub begun : ℕ → List ℕ → Start → Buffers
begun size p x = (resize_to (fresh size x) p Stack x.pages).after

-- begin's number
unfoldable pub begin_number : List ℕ → List ℕ → List ℕ → Start → ℕ
begin_number s c p x = check_number (begin_check s (length c) (length p) x)

-- the control block after begin
unfoldable pub begin_control : List ℕ → List ℕ → List ℕ → Start → List ℕ
begin_control s c p x = or_keep (begin_check s (length c) (length p) x) c (begun (length c) p x).control

-- the pool after begin
unfoldable pub begin_pool : List ℕ → List ℕ → List ℕ → Start → List ℕ
begin_pool s c p x = or_keep (begin_check s (length c) (length p) x) p (begun (length c) p x).pool

-- ---- call

-- "1, 2, 9, then 4 and entry as for begin"
unfoldable pub call_check : List ℕ → List ℕ → List ℕ → Account → ℕ → Check
call_check s c p a size =
    need (buffers_valid s c p) Invalid
    then need (nat_eq size registers_size) BadRequest
    then need (nat_lt (invocations c) live_limit) DepthLimit
    then program_check s a

-- "D rises by one, and the new frame D holds the program, the caller's two sizes, two zero bytes and those registers"
unfoldable pub called : List ℕ → Account → List ℕ → List ℕ
called c a registers =
    set_invocations
    (put_invocation c (invocations c + 1) (record { program = a; stack = (current c).stack; heap = (current c).heap }) registers)
    (invocations c + 1)

-- a call's number
unfoldable pub call_number : List ℕ → List ℕ → List ℕ → Account → List ℕ → ℕ
call_number s c p a registers = check_number (call_check s c p a (length registers))

-- the control block after a call
unfoldable pub call_control : List ℕ → List ℕ → List ℕ → Account → List ℕ → List ℕ
call_control s c p a registers = or_keep (call_check s c p a (length registers)) c (called c a registers)

-- ---- return

-- "1, 2, 9"
unfoldable pub return_check : List ℕ → List ℕ → List ℕ → ℕ → Check
return_check s c p room =
    need (buffers_valid s c p) Invalid
    then need (nat_eq room registers_size) BadRequest
    then need (nat_lt 1 (invocations c)) DepthLimit

-- "return frees stack frames only": of these each "whose tag is at or above D−1"
unfoldable pub leaves : ℕ → FrameEntry → Bool
leaves d e = both (nat_eq e.usage (usage_of Stack)) (nat_le d e.tag)

-- such a frame freed, any other left
unfoldable pub free_leaving : ℕ → List ℕ → ℕ → List ℕ
free_leaving d c i = pick (leaves d (frame_entry_of c i)) (free_frame_entry c i) c

-- the first n frames done
unfoldable pub freed_below : ℕ → List ℕ → ℕ → List ℕ
freed_below d c zero = c
freed_below d c (suc n) = free_leaving d (freed_below d c n) n

-- "The caller's heap size becomes the returning frame's."
unfoldable pub hand_over : List ℕ → List ℕ → List ℕ
hand_over c x = set_pages x (invocations c - 1) Heap (current c).heap

-- "frees .., zeroes shadow frame D and lowers D"
unfoldable pub returned : List ℕ → List ℕ
returned c = set_invocations (clear_invocation (hand_over c (freed_below (depth c) c (frames c))) (invocations c)) (invocations c - 1)

-- a return's number
unfoldable pub return_number : List ℕ → List ℕ → List ℕ → List ℕ → ℕ
return_number s c p out = check_number (return_check s c p (length out))

-- the control block after a return
unfoldable pub return_control : List ℕ → List ℕ → List ℕ → List ℕ → List ℕ
return_control s c p out = or_keep (return_check s c p (length out)) c (returned c)

-- "It hands back frame D's registers"
unfoldable pub return_out : List ℕ → List ℕ → List ℕ → List ℕ → List ℕ
return_out s c p out = or_keep (return_check s c p (length out)) out (registers_of c (invocations c))
