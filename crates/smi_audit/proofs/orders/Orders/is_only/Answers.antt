use Rattle.std.proofs.Common.{◌∙◌, arith}
use Rattle.smi_audit.proofs.Ordered.{only_none, only_read, only_out}
use Rattle.smi_audit.proofs.orders.Orders.is_only.Goals as goal

pub returns-then-number-eq0 : goal.returns-then-number-eq0
returns-then-number-eq0 c = only_none c.args.self.now c.args.number c.args.command (omega arith)

pub returns-in-Some : goal.returns-in-Some
returns-in-Some c =
    let e = c.in-Some.ensures.lookup in
    c.same_command.ensures
    ∙ only_read c.args.self.now c.deref.result.now c.args.number c.in-Some.found.now c.args.command
    c.if-number-eq0.false e.3.0 e.1 (c.deref.ensures.value ∙ c.self.view_is)

pub returns-in-None : goal.returns-in-None
returns-in-None c =
    let e = c.in-None.ensures.lookup in
    only_out c.args.self.now c.deref.result.now c.args.number c.args.command c.if-number-eq0.false
    e.3 (c.deref.ensures.value ∙ c.self.view_is)
