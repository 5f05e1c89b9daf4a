use Rattle.std.proofs.Common.{◌∙◌, Some, sym, ap}
use Rattle.smi_station_grants.specs.GrantTable.{grants_of}
use Rattle.smi_station_decide.proofs.Listeners.{operator_may, parent_hears, parent_is, parent_within}
use Rattle.smi_station_decide.proofs.tell.decide_tell.Goals as goal

pub tell_operator-requires-clause-operator : goal.tell_operator-requires-clause-operator
tell_operator-requires-clause-operator c =
    operator_may c.args.kept.now.tree c.args.kept.now.number (grants_of c.args.kept.now) c.args.domain
    c.args.news.now c.in-Some-Operator.operator c.requires.domain
    (sym c.listener.ensures ∙ c.in-Some-Operator.is ∙ ap Some c.in-Some-Operator.field-0-is)

pub tell_parent-requires-clause-parent : goal.tell_parent-requires-clause-parent
tell_parent-requires-clause-parent c =
    parent_within c.args.kept.now.tree c.args.kept.now.number (grants_of c.args.kept.now) c.args.domain
    c.args.news.now c.tree-tree.ensures.kept.tree c.in-Some-Domain.parent
    (sym c.listener.ensures ∙ c.in-Some-Domain.is ∙ ap Some c.in-Some-Domain.field-0-is)

pub tell_parent-requires-clause-child : goal.tell_parent-requires-clause-child
tell_parent-requires-clause-child c =
    parent_is c.args.kept.now.tree c.args.kept.now.number (grants_of c.args.kept.now) c.args.domain c.args.news.now
    c.in-Some-Domain.parent (sym c.listener.ensures ∙ c.in-Some-Domain.is ∙ ap Some c.in-Some-Domain.field-0-is)

pub tell_parent-requires-clause-hears : goal.tell_parent-requires-clause-hears
tell_parent-requires-clause-hears c =
    parent_hears c.args.kept.now.tree c.args.kept.now.number (grants_of c.args.kept.now) c.args.domain
    c.args.news.now c.in-Some-Domain.parent (sym c.listener.ensures ∙ c.in-Some-Domain.is
    ∙ ap Some c.in-Some-Domain.field-0-is)
