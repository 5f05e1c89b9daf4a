use Rattle.std.proofs.Common.{◌≡◌, subst}
use Rattle.smi_tree.specs.Text.{words}
use Rattle.smi_session.specs.Session.{SessionState, with_reply}
use Rattle.smi_session.specs.Withdrawal.{TakesBack, named_tag, told_of, withdrawal_of, withdrawal_text}
use Rattle.smi_session.proofs.service.SessionService.withdraw.Goals as goal

pub returns-clause-ok : goal.returns-clause-ok
returns-clause-ok g c =
    let named = c.named_tag-named.ensures in
    let what = c.withdrawal_of-withdrawal.ensures in
    let told = c.in_ok-tell_order.ensures in
    let text = c.in_ok-write_withdrawal.ensures in
    let slice = c.as_slice.ensures.value in
    let pushed = c.in_ok-push_reply.ensures.pushed in
    let tag = named_tag (words c.args.line.text.now) in
    let replied : c.push_reply.new.self ≡ with_reply c.args.line.tag
    (withdrawal_text (withdrawal_of tag c.self.inside.seats c.args.session.now) tag)
    (told_of (withdrawal_of tag c.self.inside.seats c.args.session.now) tag c.args.session.now) = cc in
    rw (← c.self.view_is) (subst (λ (e : SessionState). TakesBack tag c.self.inside.seats e c.take_back.new.self
    c.take_back.new.session) replied (rw (← named) c.take_back.ensures))
