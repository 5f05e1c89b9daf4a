use Rattle.std.proofs.Common.{sym, subst}
use Rattle.smi_rows.specs.declared.Plan.{Plan}
use Rattle.smi_world.specs.Coming.{happening}
use Rattle.smi_world.specs.Posts.{Makes}
use Rattle.smi_world.specs.Turning.{failed_act}
use Rattle.smi_world.proofs.failing.fail_save.Goals as goal

pub returns-in-Device-clause-makes : goal.returns-in-Device-clause-makes
returns-in-Device-clause-makes c = λ h number s is.
    subst (λ (how : Plan). Makes h number c.args.post.now c.fail_at_device.new.left
    (failed_act h number how (happening c.args.what.now) s)) (sym c.in-Device.is)
    (c.fail_at_device.ensures.makes h number s is)

pub returns-in-Before-clause-makes : goal.returns-in-Before-clause-makes
returns-in-Before-clause-makes c = λ h number s is.
    subst (λ (how : Plan). Makes h number c.fail_before.new.post c.fail_before.new.left
    (failed_act h number how (happening c.args.what.now) s)) (sym c.in-Before.is)
    (c.fail_before.ensures.makes h number s is)
