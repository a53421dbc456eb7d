use Rattle.records.proofs.RoundTrip.{round_trip_lem}
use Rattle.records.proofs.laws.round_trip.Goals as goal

pub returns : goal.returns
returns g c = round_trip_lem g.R.Record.layout g.R.Record.fields g.R.Record.of_fields g.met.R.Record.back
