-- How far a journal is read.
use Rattle.std.specs.Prelude.{Bool, true, false}
use Rattle.smi_replay.specs.declared.station_journal.Extent.{Extent}
use Rattle.smi_replay.specs.declared.station_journal.Extent.TheVariants as extent

-- lines may follow: neither the end was reached, nor a gap
abbrev pub is_reading : Extent → Bool
is_reading extent.Reading = true
is_reading (extent.Read ended) = false
is_reading (extent.Gap place) = false
