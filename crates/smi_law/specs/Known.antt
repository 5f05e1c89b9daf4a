-- The record of a domain in the world, and the links of its holders.
use Rattle.std.specs.Prelude.{ℕ, unwrap_or}
use Rattle.smi_grant.specs.declared.Holder.{Holder}
use Rattle.smi_grant.specs.Record.{Standing}
use Rattle.smi_tree.specs.Hierarchy.{Hierarchy}
use Rattle.smi_command.specs.declared.Link.{Link}
use Rattle.smi_protocol.specs.Messages.{home}
use Rattle.smi_tree.specs.Roles.{holder_station}
use Rattle.smi_protocol.specs.Schedule.{World}

-- the station of a holder
abbrev pub holder_home : Hierarchy → Holder → ℕ
holder_home h who = unwrap_or (holder_station h who) 0

-- the record of a domain, at its keeper
abbrev pub record_in : Hierarchy → World → ℕ → Standing
record_in h w d = (w.stations (home h d)).grants.records d

-- the link of a holder to a domain, at the holder's station
abbrev pub link_in : Hierarchy → World → Holder → ℕ → Link
link_in h w who d = (w.stations (holder_home h who)).grants.links who d
