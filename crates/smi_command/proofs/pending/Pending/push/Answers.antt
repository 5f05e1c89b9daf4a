use Rattle.std.proofs.Common.{ap, length, arith}
use Rattle.smi_command.proofs.Stored.{stored-set}
use Rattle.smi_command.specs.Pending.{stored_count}
use Rattle.smi_command.proofs.pending.Pending.push.Goals as goal

pub invariant_of-self : goal.invariant_of-self
invariant_of-self c =
    let places = c.self.inside in
    stored-set places.commands places.count c.args.command c.self.invariant
    (omega (arith, c.requires, ap length c.self.view_is, stored_count places.commands places.count c.self.invariant))
