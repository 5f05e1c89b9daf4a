use Rattle.std.proofs.Common.{rules, tests, ap, ◌∙◌, ℕ, ◌+◌}
use Rattle.std.proofs.lemmas.Iterator.Search.{any_from_yields_List}
use Rattle.smi_tree.specs.Lookups.{domain_count}
use Rattle.smi_commands.specs.Doubts.{begins, some_begins}
use Rattle.smi_commands.proofs.Numbers.{up_to}
use Rattle.smi_commands.proofs.unreached_states.some_begins.Goals as goal

pub returns : goal.returns
unfolding some_begins
returns c =
    any_from_yields_List
    (λ object. begins c.args.tree.now object c.args.state)
    _ _ _ c.any.ensures.ran
    (up_to _ _ (ap (λ (n : ℕ). n + c.device_count.result) c.domain_count.ensures.value
    ∙ ap (λ (n : ℕ). domain_count c.args.tree.now + n) c.device_count.ensures.value))
    (λ x b q k. search (rules, tests))
