use Rattle.std.proofs.Common.{List, ap, subst}
use Rattle.std.specs.Prelude.{OnOk}
use Rattle.smi_protocol.specs.Step.{Out}
use Rattle.smi_protocol.specs.declared.entry.Entry.{Entry}
use Rattle.smi_world.specs.Posts.{Makes}
use Rattle.smi_world.specs.Turning.{restart_act}
use Rattle.smi_world.proofs.acting.restart.Goals as goal

pub returns-clause-makes : goal.returns-clause-makes
returns-clause-makes c = λ h number s is.
    subst (λ (kept : List Entry). OnOk c.start_again.result
    (Makes h number c.start_again.new.post c.start_again.new.left (restart_act h number kept s)))
    (ap (λ (o : Out). o.kept) c.clear.ensures) (c.start_again.ensures.makes h number s is)
