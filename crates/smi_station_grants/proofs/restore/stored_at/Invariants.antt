use Rattle.std.proofs.Common.{◌≡◌, drop}
use Rattle.smi_protocol.specs.Loading.{stored_at}
use Rattle.smi_station_grants.proofs.restore.stored_at.Given as goal

-- it is among those that are left
abbrev pub invariant-loop-stored : goal.invariant-loop-stored
invariant-loop-stored l = stored_at (drop l.stored-index l.links) l.domain ≡ stored_at l.links l.domain
