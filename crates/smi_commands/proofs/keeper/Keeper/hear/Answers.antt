use Rattle.std.proofs.Common.{sym, ◌∙◌}
use Rattle.smi_commands.proofs.Tellable.{said_tellable}
use Rattle.smi_commands.proofs.keeper.Keeper.hear.Goals as goal

pub invariant_of-self : goal.invariant_of-self
invariant_of-self c =
    said_tellable c.self.inside.record c.datagram.inside.body c.in_ok-self-inside.field-0 c.self.invariant
    c.datagram.invariant.body
    (sym c.said_after.ensures ∙ c.in_ok-self-inside.was)
