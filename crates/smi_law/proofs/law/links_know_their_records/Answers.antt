-- The facts on each pair of a keeper and a link, said of the world.
use Rattle.std.proofs.Common.{subst}
use Rattle.smi_command.specs.declared.Due.TheVariants.{Run}
use Rattle.smi_law.proofs.KnownFacts.{known_lawful, known_grant, known_in_step, known_sent}
use Rattle.smi_law.proofs.Unheld.{held_by_somebody}
use Rattle.smi_law.proofs.Viewed.{viewed}
use Rattle.smi_law.proofs.Views.{Fair, fair_request}
use Rattle.smi_law.proofs.law.links_know_their_records.Goals as goal

pub returns-clause-lawful : goal.returns-clause-lawful
returns-clause-lawful c = λ h past w d run. known_lawful h w d (viewed h past w run)

pub returns-clause-known : goal.returns-clause-known
returns-clause-known c = λ h past w d me party run. known_grant h w d me party (viewed h past w run)

pub returns-clause-in_step : goal.returns-clause-in_step
returns-clause-in_step c = λ h past w d me e n p run is. known_in_step h w d me e n p
    (held_by_somebody h past w me d e n p run is) (viewed h past w run) is

pub returns-clause-sent : goal.returns-clause-sent
returns-clause-sent c = λ h past w d me m e n k run a b.
    let v = viewed h past w run in
    known_sent h w d me m e n k (fair_request d me (Run e n k) (subst Fair b (v.range m a))).held v a b
