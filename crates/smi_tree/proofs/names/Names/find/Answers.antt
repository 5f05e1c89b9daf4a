use Rattle.std.proofs.Common.{◌∙◌, ◌+◌, Some, None}
use Rattle.smi_tree.proofs.NumberLemmas.{number_of-place, number_of-within}
use Rattle.smi_tree.proofs.names.Names.find.Goals as goal

pub returns-in_err-place-clause-place : goal.returns-in_err-place-clause-place
returns-in_err-place-clause-place c =
    let absent = number_of-place c.args.self.now c.args.sought.now None
    (rw (← c.self.view_is) c.in_err-place.ensures.index) in
    c.from_residual.ensures ∙ absent

pub returns-clause-place : goal.returns-clause-place
returns-clause-place c =
    number_of-place c.args.self.now c.args.sought.now (Some c.in_ok-place.place)
    (rw (← c.self.view_is) c.in_ok-place.ensures.index)

pub returns-clause-within : goal.returns-clause-within
returns-clause-within c =
    number_of-within c.args.self.now c.args.sought.now (Some (c.in_ok-place.place + 1)) (returns-clause-place c)
