use Rattle.std.proofs.Common.{rules, tests, ◌==◌, [], ◌∷◌}
use Rattle.std.proofs.lemmas.Iterator.Search.{any_from_yields_List}
use Rattle.smi_tree.specs.Lookups.{unit_state}
use Rattle.smi_commands.specs.Doubts.{goes_with}
use Rattle.smi_commands.proofs.Numbers.{up_to}
use Rattle.smi_commands.proofs.unreached_states.goes_with.Goals as goal

pub returns : goal.returns
unfolding goes_with
returns c =
    any_from_yields_List
    (λ second. unit_state c.args.tree.now c.args.domain 0 (c.args.first ∷ second ∷ []) == c.args.state)
    _ _ _ c.any.ensures.ran
    (up_to _ _ c.state_count.ensures.value)
    (λ x b q k. search (rules, tests))
