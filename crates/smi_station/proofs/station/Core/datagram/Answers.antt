use Rattle.std.proofs.Common.{◌≡◌, ◌∙◌, None, ap, sym, subst}
use Rattle.smi_tree.specs.Hierarchy.{Hierarchy}
use Rattle.smi_protocol.specs.Happening.{Comes}
use Rattle.smi_protocol.specs.Refusals.{refusal_of_message}
use Rattle.smi_station.specs.Core.{Core, number_of, tree_of}
use Rattle.smi_station.proofs.Steps.{taken_steps}
use Rattle.smi_station.proofs.station.Core.datagram.Goals as goal

pub returns-in-None-clause-step : goal.returns-in-None-clause-step
returns-in-None-clause-step g c =
    let now = c.args.self.now in
    taken_steps now c.accept.new.self (Comes c.args.datagram.now) c.accept.new.out c.accept.result
    (subst (λ (before : Core). refusal_of_message (tree_of before) (number_of before) c.args.datagram.now ≡ None)
    c.self.view_is
    (sym (ap (λ (h : Hierarchy). refusal_of_message h c.number.result c.args.datagram.now) c.tree.ensures.value
    ∙ ap (λ n. refusal_of_message c.self.inside.kept.tree n c.args.datagram.now) c.number.ensures.value)
    ∙ sym c.check_datagram.ensures ∙ c.in-None.is))
    c.accept.ensures.step
