use Rattle.std.proofs.Common.{rules, ◌∷◌, map, sym, ap, ◌∙◌, subst}
use Rattle.smi_watchers.specs.declared.cell.Cell.{Cell}
use Rattle.smi_watchers.specs.Walked.{Chain, walked, step_at, steps_from}
use Rattle.smi_watchers.proofs.Walks.{chain_rest}
use Rattle.smi_watchers.proofs.steps.StepsIterator.next.Goals as goal

pub invariant_of-self : goal.invariant_of-self
invariant_of-self c =
    let n = c.self.inside.lists.now in
    let rest = chain_rest n c.self.inside.next c.in_ok-place.place c.self.invariant c.in_ok-place.was in
    subst (λ (x : Cell). Chain n x.by_object.after (walked n x.by_object.after)) (sym c.cell-cell.ensures) rest.1

pub returns-clause-steps : goal.returns-clause-steps
returns-clause-steps c =
    let n = c.self.inside.lists.now in let p = c.in_ok-place.place in
    let rest = chain_rest n c.self.inside.next p c.self.invariant c.in_ok-place.was in
    sym c.self.view_is ∙ ap (map (step_at n)) rest.0
    ∙ (λ i. (p, sym c.cell-cell.ensures i) ∷ steps_from n (sym c.cell-cell.ensures i).by_object.after)

pub returns-clause-goes : goal.returns-clause-goes
returns-clause-goes c = let e = returns-clause-steps c in rw e (search rules)
