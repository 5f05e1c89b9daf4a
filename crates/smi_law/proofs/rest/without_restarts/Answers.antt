-- All that is under way ends, no station stops, and what no longer waits was told.
use Rattle.std.proofs.Common.{false}
use Rattle.smi_grant.specs.declared.Holder.TheVariants.{Operator}
use Rattle.smi_law.proofs.Answers.{all_told, list_keeps}
use Rattle.smi_law.proofs.Rests.{goes_to_rest, settling}
use Rattle.smi_law.proofs.rest.without_restarts.Goals as goal

pub returns-clause-rest : goal.returns-clause-rest
returns-clause-rest c = λ h past w tree run runs changes.
    (settling false h w _ (goes_to_rest h tree past w run runs changes)).0

pub returns-clause-heard : goal.returns-clause-heard
returns-clause-heard c = λ h w s o d. list_keeps h o d s.items w s.each

pub returns-clause-answered : goal.returns-clause-answered
returns-clause-answered c = λ h w s o d. all_told h o d s.items w s.each (s.rest.links (Operator o) d)
