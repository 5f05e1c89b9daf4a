use Rattle.std.proofs.Common.{◌≡◌, ◌+◌}
use Rattle.smi_command.specs.Pending.{base_of}
use Rattle.smi_command.specs.Hearing.{settled_count, code_in}
use Rattle.smi_command.proofs.HeardCommands.{some_settle}
use Rattle.smi_command.proofs.hearing.held_told.Goals as goal

pub returns : goal.returns
returns c =
    let r = c.args.heard.now in
    let p = c.args.pending.now in
    let n = c.args.number in
    let k = c.min-count.result in
    let count : k ≡ settled_count n p r = cc in
    let is : c.code_in-code.result ≡ code_in r (base_of n p + k) = cc in
    let told = some_settle c.args.epoch n p r k c.code_in-code.result count c.if-count-eq0.false is in
    cc
