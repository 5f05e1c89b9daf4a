use Rattle.std.proofs.Common.{sym, ◌∙◌}
use Rattle.smi_world.specs.Coming.{happening}
use Rattle.smi_world.proofs.FailedActs.{nothing_fails, saving_fails}
use Rattle.smi_world.proofs.failing.fail.Goals as goal

pub returns-then-would_save-clause-makes : goal.returns-then-would_save-clause-makes
returns-then-would_save-clause-makes c = λ h number s is.
    saving_fails h number s c.args.post.now is c.fail_save.result c.args.how c.fail_save.new.post
    c.fail_save.new.left (happening c.args.what.now) (sym c.is_stopped.ensures ∙ c.if-is_stopped.false)
    (sym c.would_save.ensures ∙ c.if-would_save.true) (c.fail_save.ensures.makes h number s is)

pub returns-else-would_save-clause-makes : goal.returns-else-would_save-clause-makes
returns-else-would_save-clause-makes c = λ h number s is.
    nothing_fails h number s c.args.post.now is c.arrive.result c.args.how c.arrive.new.post c.arrive.new.left
    (happening c.args.what.now) (sym c.is_stopped.ensures ∙ c.if-is_stopped.false)
    (sym c.would_save.ensures ∙ c.if-would_save.false) (c.arrive.ensures.makes h number s is)
