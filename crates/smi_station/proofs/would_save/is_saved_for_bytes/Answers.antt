use Rattle.std.proofs.Common.{◌≡◌, ◌∙◌, Result, sym, subst}
use Rattle.std.specs.Prelude.{is_some}
use Rattle.smi_message.specs.Message.{Message}
use Rattle.smi_message.specs.declared.Bad.{Bad}
use Rattle.smi_protocol.specs.Step.{after_reading}
use Rattle.smi_station.proofs.would_save.is_saved_for_bytes.Goals as goal

pub returns-in-Ok : goal.returns-in-Ok
returns-in-Ok c = λ s same.
    subst (λ (r : Result Message Bad). c.is_saved_for_datagram.result
    ≡ is_some (after_reading c.args.kept.now.tree c.args.kept.now.number s r).saved)
    (sym c.in-Ok.is ∙ c.decode.ensures.exact) (c.is_saved_for_datagram.ensures s same)
