-- A command that begins at a domain.
use Rattle.std.specs.Prelude.{ℕ, ◌≡◌, true, if◌then◌else◌}
use Rattle.smi_grant.specs.declared.Command.{Command}
use Rattle.smi_grant.specs.declared.Holder.{Holder}
use Rattle.smi_grant.specs.Keeper.{admits, started}
use Rattle.smi_tree.specs.Hierarchy.{Hierarchy}
use Rattle.smi_protocol.specs.Children.{own_code}
use Rattle.smi_protocol.specs.Grants.{Grants}
use Rattle.smi_protocol.specs.GrantStep.{waits_for_children}
use Rattle.smi_protocol.specs.Keeping.{commanded}
use Rattle.smi_station_grants.specs.Commanded.{AreSo}
use Rattle.smi_station_decide.specs.declared.run.BegunCommand.{BegunCommand}

-- a command at a domain results in this: the record, the code that is gathered, and what becomes of the children
pub record IsBegun (h : Hierarchy) (g : Grants) (d : ℕ) (c : Command) (b : BegunCommand) : Type 0 where
  pub standing : b.standing ≡ started (g.records d) (waits_for_children h (commanded h g d c) d) (own_code h g d c)
  pub code : b.code ≡ (if waits_for_children h (commanded h g d c) d then own_code h g d c else 0)
  pub children : AreSo h g d c b.children

-- the record admits the command, and it results in this
abbrev pub Begins : Hierarchy → Grants → ℕ → Holder → ℕ → ℕ → Command → BegunCommand → Type 0
Begins h g d who e n c b = (admits (g.records d) who e n ≡ true) × IsBegun h g d c b
