use Rattle.std.proofs.Common.{◌∙◌, ap, arith}
use Rattle.smi_message.specs.Spelling.{reading}
use Rattle.smi_message.proofs.Laws.{read_is_found, spelled_is_read}
use Rattle.smi_message.proofs.reading.decode.Goals as goal

pub returns-clause-found : goal.returns-clause-found
returns-clause-found c = read_is_found c.args.bytes.now c.tested.result (λ i. omega (arith, c.type_inv.bytes i))
    c.tested.ensures

pub returns-clause-only : goal.returns-clause-only
returns-clause-only c = λ m h e. c.tested.ensures ∙ ap reading e ∙ spelled_is_read m h
