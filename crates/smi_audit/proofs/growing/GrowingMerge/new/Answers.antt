use Rattle.std.proofs.Common.{◌≡◌, ◌∷◌, [], List, ◌++◌, length, ap, ◌∙◌, arith}
use Rattle.smi_protocol.specs.declared.Entry.{Entry}
use Rattle.smi_audit.proofs.Puts.{begun, count_of, one_more}
use Rattle.smi_audit.proofs.growing.GrowingMerge.new.Goals as goal

pub invariant_of-result : goal.invariant_of-result
invariant_of-result c =
    begun c.loop.counter c.of-start.result.value c.args.merge c.loop.journals.items c.of-start.ensures c.loop.invariant

pub loop-preserved : goal.loop-preserved
loop-preserved c =
    c.in_ok-push.ensures.items ∙ ap (λ (z : List Entry). c.loop.journals.items ++ z ∷ []) c.new.ensures
    ∙ ap (λ (z : List (List Entry)). z ++ [] ∷ []) c.loop.invariant ∙ one_more c.loop.counter

pub returns-clause-count : goal.returns-clause-count
returns-clause-count c =
    let end = c.loop.auto.counter-end in let past = c.loop-test.false in
    let whole : c.loop.counter ≡ c.args.count = omega (arith, end, past) in
    ap (λ (z : List (List Entry)). length z) c.loop.invariant ∙ count_of c.loop.counter ∙ whole
