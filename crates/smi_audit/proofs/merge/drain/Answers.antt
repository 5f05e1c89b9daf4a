use Rattle.std.proofs.Common.{length, sym, ap, ◌∙◌, arith}
use Rattle.smi_audit.proofs.Stuck.{drained, empty_at}
use Rattle.smi_audit.proofs.merge.drain.Goals as goal

pub returns-then-not-branch-clause-stuck : goal.returns-then-not-branch-clause-stuck
returns-then-not-branch-clause-stuck c =
    drained c.loop-number.number c.in_ok-take_first.field-0 c.args.audit.now c.loop-number.audit c.take_first.new.audit
    c.args.journals.now c.loop-number.journals c.take_first.new.journals c.args.place c.loop-number.invariant.1
    c.if-not-branch.true c.in_ok-take_first.ensures.stuck

pub returns-clause-stuck : goal.returns-clause-stuck
returns-clause-stuck c =
    empty_at c.len-count.result c.args.audit.now c.loop-number.audit c.args.journals.now c.loop-number.journals
    c.args.place c.index-journals-place.result c.requires c.index-journals-place.is
    (c.len-count.ensures ∙ ap length (sym c.index-journals-place.is))
    (λ none. c.loop-number.invariant.1 (let end = c.loop-number.auto.number-end in omega (arith, end, none)))
