use Rattle.std.proofs.Common.{◌∙◌, inl, inr, refl, sym, true}
use Rattle.smi_protocol.specs.Opening.{saved_only}
use Rattle.smi_world.specs.Coming.{happening}
use Rattle.smi_world.proofs.Acts.{held_err, on_err, saved_halts, saved_kept, saved_restarts, stays}
use Rattle.smi_world.proofs.acting.stop_after.Goals as goal

pub returns-then-is_stopped-clause-halts : goal.returns-then-is_stopped-clause-halts
returns-then-is_stopped-clause-halts c = λ h number s is. on_err c.restart.result
    (c.restart.ensures.same h number s is) (λ x. inl x)

pub returns-clause-makes : goal.returns-clause-makes
returns-clause-makes c = λ h number s is.
    let what = happening c.args.what.now in
    let runs = sym c.is_stopped.ensures ∙ c.if-is_stopped.false in
    saved_restarts h number s c.args.post.now is c.start_again.result c.start_again.new.post c.start_again.new.left
    c.make.new.left.out.kept what runs (saved_kept h number s c.args.post.now is c.make.new.left what runs
    c.in_ok-make.ensures.leaves)
    (c.start_again.ensures.makes h number (saved_only h number s what)
    (saved_halts h number s c.args.post.now is (record { station = c.make.new.station; is_down = true }) what runs
    refl c.in_ok-make.ensures.station c.in_ok-make.ensures.of (c.make.ensures.stored is.stored)))

pub returns-clause-halts : goal.returns-clause-halts
returns-clause-halts c = λ h number s is.
    let what = happening c.args.what.now in
    let runs = sym c.is_stopped.ensures ∙ c.if-is_stopped.false in
    on_err c.start_again.result
    (c.start_again.ensures.same h number (saved_only h number s what)
    (saved_halts h number s c.args.post.now is (record { station = c.make.new.station; is_down = true }) what runs
    refl c.in_ok-make.ensures.station c.in_ok-make.ensures.of (c.make.ensures.stored is.stored)))
    (λ x. inr (is.stopped ∙ runs, x))

pub returns-in_err-make-clause-halts : goal.returns-in_err-make-clause-halts
returns-in_err-make-clause-halts c = λ h number s is.
    held_err c.from_residual.result
    (inl (stays h number s c.args.post.now is
    (record { station = c.make.new.station; is_down = c.args.post.now.is_down }) refl c.in_err-make.ensures.same
    (c.make.ensures.stored is.stored)))
