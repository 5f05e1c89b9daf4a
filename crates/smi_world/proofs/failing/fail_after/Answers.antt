use Rattle.std.proofs.Common.{◌∙◌, refl, ap}
use Rattle.smi_protocol.specs.Step.{nothing_out}
use Rattle.smi_world.specs.Coming.{happening}
use Rattle.smi_world.specs.Left.{Left}
use Rattle.smi_world.proofs.Acts.{held_err, stays}
use Rattle.smi_world.proofs.FailedActs.{after_makes}
use Rattle.smi_world.proofs.failing.fail_after.Goals as goal

pub returns-in_err-make-clause-same : goal.returns-in_err-make-clause-same
returns-in_err-make-clause-same c = λ h number s is.
    held_err c.from_residual.result (stays h number s c.args.post.now is
    (record { station = c.make.new.station; is_down = c.args.post.now.is_down }) refl c.in_err-make.ensures.same
    (c.make.ensures.stored is.stored))

pub returns-clause-makes : goal.returns-clause-makes
returns-clause-makes c = λ h number s is.
    after_makes h number s c.args.post.now is (record { station = c.make.new.station; is_down = _ }) c.make.new.left _
    (happening c.args.what.now) c.requires.runs refl
    c.in_ok-make.ensures.station c.in_ok-make.ensures.of c.in_ok-make.ensures.leaves (c.make.ensures.stored is.stored)
    refl (c.clear_but_entries.ensures ∙ ap (λ (l : Left). record nothing_out { kept = l.out.kept }) c.left.view_is)
