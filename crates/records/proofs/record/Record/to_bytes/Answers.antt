use Rattle.std.proofs.Common.{◌∙◌}
use Rattle.records.proofs.Encoding.{put_whole}
use Rattle.records.proofs.record.Record.to_bytes.Goals as goal

pub returns : goal.returns
returns g c = c.write_at.ensures ∙ put_whole _ _ _ g.met.Self.Record.size
