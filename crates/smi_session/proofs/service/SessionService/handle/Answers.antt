use Rattle.std.proofs.Common.{◌≡◌, ◌∙◌, sym, subst, Ok, Err, is_some, OnOk}
use Rattle.smi_tree.specs.Text.{words}
use Rattle.smi_session.specs.Trust.{judged}
use Rattle.smi_session.specs.Request.{request_of_line}
use Rattle.smi_session.specs.Handling.{Refuses}
use Rattle.smi_session.proofs.service.SessionService.handle.Goals as goal

pub returns-in-Ok-clause-ok : goal.returns-in-Ok-clause-ok
returns-in-Ok-clause-ok g c =
    let e : request_of_line c.args.tree.now c.args.self.now.seats.operators c.args.session.now.style
    (is_some c.args.line.tag) c.args.line.text.now ≡ Ok c.in-Ok.request
    = rw (← c.is_some.ensures) (sym c.request.ensures ∙ c.in-Ok.is) in
    rw (e, ← c.admit.ensures) c.do_request.ensures.ok

-- what the fault shows of the session was noted before it was told
pub returns-in-Err-clause-ok : goal.returns-in-Err-clause-ok
returns-in-Err-clause-ok g c =
    let e : request_of_line c.args.tree.now c.args.self.now.seats.operators c.args.session.now.style
    (is_some c.args.line.tag) c.args.line.text.now ≡ Err c.in-Err.fault
    = rw (← c.is_some.ensures) (sym c.request.ensures ∙ c.in-Err.is) in
    let noted : c.judge.new.self ≡ judged (is_some c.args.line.tag) (words c.args.line.text.now) c.args.session.now
    = rw (← c.is_some-in-Err.ensures) c.judge.ensures in
    rw e (subst (λ session. OnOk c.refuse.result (Refuses c.args.tree.now c.args.line.tag c.args.line.number
    c.args.line.text.now c.in-Err.fault c.args.self.now session c.refuse.new.self c.refuse.new.session)) noted
    c.refuse.ensures.ok)
