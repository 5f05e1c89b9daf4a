use Rattle.std.proofs.Common.{◌≡◌, ◌∙◌, sym, ap, subst, true}
use Rattle.std.specs.Prelude.{ℕ, Result, IfOk}
use Rattle.smi_protocol.specs.Ordering.{order_comes}
use Rattle.smi_protocol.specs.Refusals.{is_order_here}
use Rattle.smi_station_grants.specs.GrantTable.{grants_of}
use Rattle.smi_station_decide.specs.Decided.{IsObeyable, decided, refused_by, step_of}
use Rattle.smi_station_decide.specs.declared.order.DecidedOrder.{DecidedOrder}
use Rattle.smi_station_decide.proofs.Decisions.{decided_here, decided_obeyable, decided_refused, decided_step}
use Rattle.smi_station_decide.proofs.order.decide_order.Goals as goal

pub returns-then-is_order_here-clause-refused : goal.returns-then-is_order_here-clause-refused
returns-then-is_order_here-clause-refused c =
    let k = c.args.kept.now in
    let here : is_order_here k.tree k.number c.args.operator c.args.order.now ≡ true =
    rw (c.tree.ensures.value, c.number.ensures.value) at (sym c.is_order_here.ensures ∙ c.if-is_order_here.true) in
    let is : c.decide_by_link.result ≡ decided k.tree k.number (grants_of k) c.args.operator c.args.order.now =
    c.decide_by_link.ensures
    ∙ sym (decided_here k.tree k.number (grants_of k) c.args.operator c.args.order.now here) in
    ap refused_by is ∙ decided_refused k.tree k.number (grants_of k) c.args.operator c.args.order.now

pub returns-then-is_order_here-clause-step : goal.returns-then-is_order_here-clause-step
returns-then-is_order_here-clause-step c =
    let k = c.args.kept.now in
    let here : is_order_here k.tree k.number c.args.operator c.args.order.now ≡ true =
    rw (c.tree.ensures.value, c.number.ensures.value) at (sym c.is_order_here.ensures ∙ c.if-is_order_here.true) in
    let is : c.decide_by_link.result ≡ decided k.tree k.number (grants_of k) c.args.operator c.args.order.now =
    c.decide_by_link.ensures
    ∙ sym (decided_here k.tree k.number (grants_of k) c.args.operator c.args.order.now here) in
    subst (λ (r : Result DecidedOrder ℕ). IfOk r (λ x. step_of k.tree k.number (grants_of k) c.args.operator x
    ≡ order_comes k.tree k.number (grants_of k) c.args.operator c.args.order.now)) (sym is)
    (decided_step k.tree k.number (grants_of k) c.args.operator c.args.order.now)

pub returns-then-is_order_here-clause-obeyable : goal.returns-then-is_order_here-clause-obeyable
returns-then-is_order_here-clause-obeyable c = λ sound.
    let k = c.args.kept.now in
    let here : is_order_here k.tree k.number c.args.operator c.args.order.now ≡ true =
    rw (c.tree.ensures.value, c.number.ensures.value) at (sym c.is_order_here.ensures ∙ c.if-is_order_here.true) in
    let is : c.decide_by_link.result ≡ decided k.tree k.number (grants_of k) c.args.operator c.args.order.now =
    c.decide_by_link.ensures
    ∙ sym (decided_here k.tree k.number (grants_of k) c.args.operator c.args.order.now here) in
    subst (λ (r : Result DecidedOrder ℕ). IfOk r (IsObeyable k.tree k.number c.args.operator)) (sym is)
    (decided_obeyable k.tree k.number (grants_of k) c.args.operator c.tree-tree.ensures.kept.tree sound
    c.args.order.now)
