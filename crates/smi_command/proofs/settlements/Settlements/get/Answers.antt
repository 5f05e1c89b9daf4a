use Rattle.std.proofs.Common.{Some, ◌≡◌, ◌+◌, ◌∙◌, ap, arith}
use Rattle.std.specs.Prelude.{◌==◌, if◌then◌else◌}
use Rattle.std.proofs.lemmas.Bool.Decides.{nat_tests}
use Rattle.smi_command.specs.Settlements.{settlement, unseen}
use Rattle.smi_command.proofs.SettledRuns.{none_past, one_within}
use Rattle.smi_command.proofs.settlements.Settlements.get.Goals as goal

pub returns-then-i-self : goal.returns-then-i-self
returns-then-i-self c =
    let run = c.self.inside in
    none_past run.first run.count run.code c.args.self.now c.self.view_is c.args.i c.if-i-self.true

pub returns-then-i-self-2 : goal.returns-then-i-self-2
returns-then-i-self-2 c =
    let run = c.self.inside in
    let newest : run.code ≡ (if c.args.i + 1 == run.count then run.code else unseen) = grind
    (arith, nat_tests, c.if-i-self-2.true) in
    ap (λ x. Some (settlement (run.first + c.args.i) x)) newest
    ∙ one_within run.first run.count run.code c.args.self.now c.self.view_is c.args.i c.if-i-self.false

pub returns-else-i-self-2 : goal.returns-else-i-self-2
returns-else-i-self-2 c =
    let run = c.self.inside in
    let older : unseen ≡ (if c.args.i + 1 == run.count then run.code else unseen) = grind
    (arith, nat_tests, c.if-i-self-2.false) in
    ap (λ x. Some (settlement (run.first + c.args.i) x)) (c.code.ensures ∙ older)
    ∙ one_within run.first run.count run.code c.args.self.now c.self.view_is c.args.i c.if-i-self.false
