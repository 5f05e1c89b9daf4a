-- The command at work in a busy domain, on the links above and below it.
use Rattle.std.proofs.Common.{◌∷◌, sym, ap, ◌∙◌}
use Rattle.smi_grant.specs.Holder.{is_free}
use Rattle.smi_protocol.proofs.SendsInRange.{working_held}
use Rattle.smi_law.specs.Known.{record_in}
use Rattle.smi_law.proofs.AtWork.{busy_waits, handed_down}
use Rattle.smi_law.proofs.KnownFacts.{known_lawful}
use Rattle.smi_law.proofs.Unheld.{held_by_its_parent}
use Rattle.smi_law.proofs.Viewed.{viewed}
use Rattle.smi_law.proofs.law.commands_are_handed_on.Goals as goal

pub returns-clause-at_work : goal.returns-clause-at_work
returns-clause-at_work c = λ h past w d me run busy holder.
    busy_waits h past w d me (ap is_free (sym holder)
    ∙ working_held (record_in h w d) (known_lawful h w d (viewed h past w run)) busy) run busy holder

pub returns-clause-handed_on : goal.returns-clause-handed_on
returns-clause-handed_on c = λ h past w d p e n k more run is.
    let parent = held_by_its_parent h past w p d e n (k ∷ more) run is in
    let down = handed_down h past w d p e n k more run parent is in
    (parent, down.0, down.1, down.2, down.3, down.4)
