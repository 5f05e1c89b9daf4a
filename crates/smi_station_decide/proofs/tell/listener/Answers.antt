use Rattle.std.proofs.Common.{ℕ, ◌≡◌, ◌∙◌, sym, ap, true, get_or, ◌++◌}
use Rattle.std.specs.Prelude.{find, map}
use Rattle.smi_grant.specs.declared.Holder.{Holder}
use Rattle.smi_grant.specs.declared.Holder.TheVariants.{Operator}
use Rattle.smi_tree.specs.Lookups.{parent_of, operators_of}
use Rattle.smi_tree.specs.Hierarchy.{Hierarchy}
use Rattle.smi_protocol.specs.Hearing.{hears, parent_here}
use Rattle.smi_station_grants.specs.GrantTable.{grants_of}
use Rattle.smi_station_decide.proofs.Heard.{found_next, found_later}
use Rattle.smi_station_decide.proofs.tell.listener.Goals as goal

pub returns-then-hears : goal.returns-then-hears
returns-then-hears c =
    let k = c.args.kept.now in
    let d = c.args.domain in
    let ops = c.operators-operators.result.now in
    let i = c.loop-operator.operator-index in
    let test = λ (who : Holder). hears ((grants_of k).links who d) who c.args.news.now in
    let rest = parent_here k.tree k.number (parent_of k.tree d) in
    let passes : test (Operator (get_or ops i 0))
    ≡ true = rw (← c.link.ensures) (sym c.hears.ensures ∙ c.if-hears.true) in
    let listed : ops ≡ operators_of k.tree k.number =
    c.operators-operators.ensures ∙ ap (λ (t : Hierarchy). operators_of t c.number.result)
    c.tree-tree.ensures.value ∙ ap (λ (n : ℕ). operators_of k.tree n) c.number.ensures.value in
    sym (found_next test ops rest i 0 c.loop-operator-test.true passes) ∙ c.loop-operator.invariant
    ∙ ap (λ xs. find test (map Operator xs ++ rest)) listed

pub returns : goal.returns
returns c =
    let k = c.args.kept.now in
    let d = c.args.domain in
    let ops = c.operators-operators.result.now in
    let i = c.loop-operator.operator-index in
    let test = λ (who : Holder). hears ((grants_of k).links who d) who c.args.news.now in
    let rest = parent_here k.tree k.number (parent_of k.tree d) in
    let listed : ops ≡ operators_of k.tree k.number =
    c.operators-operators.ensures ∙ ap (λ (t : Hierarchy). operators_of t c.number.result)
    c.tree-tree.ensures.value ∙ ap (λ (n : ℕ). operators_of k.tree n) c.number.ensures.value in
    c.listening_parent.ensures ∙ sym (found_later test ops rest i c.loop-operator-test.false)
    ∙ c.loop-operator.invariant ∙ ap (λ xs. find test (map Operator xs ++ rest)) listed
