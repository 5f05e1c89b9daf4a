use Rattle.std.proofs.Common.{◌≡◌, true, false, refl}
use Rattle.smi_grant.specs.declared.Holder.TheVariants.{Operator}
use Rattle.smi_law.proofs.examples.these_are_not_at_rest.Goals as goal

pub returns-clause-waiting : goal.returns-clause-waiting
returns-clause-waiting c = λ rest. let settled : true ≡ false = rest.links (Operator 1) 1 in cc

pub returns-clause-working : goal.returns-clause-working
returns-clause-working c = λ rest. let settled : false ≡ true = rest.records 1 in cc

pub returns-clause-stopped : goal.returns-clause-stopped
returns-clause-stopped c = λ rest. let runs : true ≡ false = rest.running 1 refl in cc
