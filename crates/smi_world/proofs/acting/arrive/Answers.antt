use Rattle.std.proofs.Common.{◌∙◌, refl, sym}
use Rattle.smi_world.specs.Coming.{happening}
use Rattle.smi_world.proofs.Acts.{all_ok, idles, on_err, runs_there, stays, step_makes, stopped_makes}
use Rattle.smi_world.proofs.acting.arrive.Goals as goal

pub returns-then-is_stopped-clause-makes : goal.returns-then-is_stopped-clause-makes
returns-then-is_stopped-clause-makes c = λ h number s is.
    stopped_makes h number s c.args.post.now is c.clear.new.self (happening c.args.what.now)
    (sym c.is_stopped.ensures ∙ c.if-is_stopped.true)
    (idles h number s c.args.post.now is c.clear.new.self c.args.left.now.station c.args.left.now.before
    c.clear.ensures)

pub make-requires : goal.make-requires
make-requires c = record { runs = runs_there c.args.post.now (sym c.is_stopped.ensures ∙ c.if-is_stopped.false) }

pub returns-clause-makes : goal.returns-clause-makes
returns-clause-makes c = λ h number s is.
    all_ok c.make.result c.make.ensures.station c.make.ensures.of c.make.ensures.leaves
    (λ made of leaves. step_makes h number s c.args.post.now is
    (record { station = c.make.new.station; is_down = c.args.post.now.is_down }) c.make.new.left
    (happening c.args.what.now) (sym c.is_stopped.ensures ∙ c.if-is_stopped.false) refl made of leaves
    (c.make.ensures.stored is.stored))

pub returns-clause-same : goal.returns-clause-same
returns-clause-same c = λ h number s is.
    on_err c.make.result c.make.ensures.same
    (λ same. stays h number s c.args.post.now is
    (record { station = c.make.new.station; is_down = c.args.post.now.is_down }) refl same
    (c.make.ensures.stored is.stored))
