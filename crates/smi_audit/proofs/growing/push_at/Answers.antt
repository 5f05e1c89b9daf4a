use Rattle.std.proofs.Common.{subst, ◌∙◌, ◌<◌, ◌≤◌}
use Rattle.smi_audit.proofs.Puts.{put_at, put_nowhere}
use Rattle.smi_audit.proofs.growing.push_at.Goals as goal

pub returns-in_ok-push : goal.returns-in_ok-push
returns-in_ok-push c =
    put_at c.args.journals.now.items c.args.number c.args.entry.now c.index_mut.result.now c.push.new.self
    (subst (λ z. c.args.number < z) (c.len.ensures ∙ c.args.journals.now.ok.0) c.if-number-len.true)
    c.index_mut.ensures.value c.in_ok-push.ensures

pub returns-else-number-len : goal.returns-else-number-len
returns-else-number-len c =
    put_nowhere c.args.journals.now.items c.args.number c.args.entry.now
    (subst (λ z. z ≤ c.args.number) (c.len.ensures ∙ c.args.journals.now.ok.0) c.if-number-len.false)
