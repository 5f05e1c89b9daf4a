use Rattle.std.proofs.Common.{sym, ◌∙◌, arith}
use Rattle.smi_audit.proofs.Merging.{none_left}
use Rattle.smi_audit.proofs.Stuck.{some_left}
use Rattle.smi_audit.proofs.merge.are_empty.Goals as goal

pub returns-clause-empty : goal.returns-clause-empty
returns-clause-empty c = λ _. none_left c.args.journals.now (λ k less. c.loop-journal.invariant k
    (let past = c.loop-journal-test.false in omega (arith, past, less)))

pub returns-then-not-is_empty-clause-left : goal.returns-then-not-is_empty-clause-left
returns-then-not-is_empty-clause-left c = λ _ none.
    some_left c.args.journals.now c.loop-journal.journal-index c.journal-item.result c.loop-journal-test.true
    c.journal-item.is (sym c.is_empty.ensures ∙ c.if-not-is_empty.true) none
