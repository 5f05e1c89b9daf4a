-- An event of a station, as the definitions say it.
use Rattle.std.specs.Prelude.{ℕ, ◌==◌, if◌then◌else◌, Option, Some, None}
use Rattle.smi_protocol.specs.Happening.{Happening, Comes, Reports, Ticks}
use Rattle.smi_protocol.specs.Step.{ordered_or_reported}
use Rattle.smi_protocol.specs.Schedule as schedule
use Rattle.smi_world.specs.declared.coming.Coming.{Coming}
use Rattle.smi_world.specs.declared.coming.Coming.TheVariants as coming
use Rattle.smi_world.specs.declared.coming.Arrival.{Arrival}

abbrev pub happening : Coming → Happening
happening (coming.Datagram m) = Comes m
happening (coming.Order o what) = ordered_or_reported o what
happening (coming.Report device s) = Reports device s
happening coming.Tick = Ticks

abbrev pub arrival_in : Arrival → schedule.Arrival
arrival_in a = schedule.arrival (happening a.what) a.station

-- the event of this station
abbrev pub what_comes_to : ℕ → Option Arrival → Option Coming
what_comes_to number None = None
what_comes_to number (Some a) = if a.station == number then Some a.what else None
