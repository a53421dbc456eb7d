-- Each trial of the table comes out as its row says: the whole table computes, and a table that passes passes at each row.
-- Assumes nothing.
use mathlib.Core.List.Memᴰ
use Rattle.std.proofs.Common.{List, [], ◌∷◌, ⊎_elim, T}
use mathlib.Core.List.{Memᴰ}
use Rattle.words.specs.Words.{word_at, word_bytes, zeros}
use Rattle.choice.proofs.Tests.{by_test}
use Rattle.choice.specs.Search.{seek, highest}
use Rattle.refusal.specs.Checks.{need, ◌then◌}
use Rattle.address.specs.Address.{split_of}
use Rattle.snapshot.specs.Header.{header_of, counts_valid, offsets_valid, total_valid, snapshot_valid}
use Rattle.snapshot.specs.Accounts.{entry_of, body_valid, valid_within, entry_valid}
use Rattle.control.specs.Control.{edition_known, control_valid, invocation_of, invocation_bytes, current_valid, control_ready, buffers_valid}
use Rattle.frames.specs.Table.{frame_field, frame_entry_bytes, claims, is_free, found_in, frame_of, free_frame}
use Rattle.segments.specs.Kinds.{request_valid, aligned, within}
use Rattle.segments.specs.Rules.{rules, row_of, segment_of, permitted}
use Rattle.translate.specs.Checks.{first_checks, row_checks}
use Rattle.translate.specs.Translate.{concerned_valid, owned, running, end_of, start_of, source_of, row_check, data_place, region_place, place_in, place_of, in_row, in_segment, translate_of}
use Rattle.trials.specs.Settings.{entry_bytes, snapshot_header, snapshot_with, control_with, plain, plain_older, one_page}
use Rattle.trials.specs.Trials.{Trial, trials, split_gives, passes, all_pass}

-- the trials marked P
pub table : T (all_pass trials)
unfolding word_at word_bytes zeros seek need ◌then◌ split_of header_of counts_valid offsets_valid total_valid snapshot_valid entry_of body_valid valid_within entry_valid edition_known control_valid invocation_of invocation_bytes current_valid buffers_valid control_ready frame_field frame_entry_bytes claims is_free found_in frame_of highest free_frame request_valid aligned within rules row_of segment_of permitted first_checks row_checks concerned_valid owned running end_of start_of source_of row_check data_place region_place place_in place_of in_row in_segment translate_of entry_bytes snapshot_header snapshot_with control_with plain plain_older one_page trials split_gives passes all_pass
table = tt

-- each row of a table that passes
pub each : (ts : List Trial) → T (all_pass ts) → (t : Trial) → Memᴰ t ts → T (passes t)
unfolding all_pass
each [] h t m = absurd (Memᴰ.not-nil m)
each (x ∷ xs) h t m =
    by_test (passes x)
    (λ e. ⊎_elim (λ q. rw q (rw e tt)) (λ r. each xs (rw e at h) t r) (Memᴰ.cases_cons m))
    (λ e. absurd (rw e at h))
