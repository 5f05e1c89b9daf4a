use Rattle.std.proofs.Common.{◌∙◌, sym, subst}
use Rattle.std.specs.Prelude.{Result}
use Rattle.smi_message.specs.Message.{Message}
use Rattle.smi_protocol.specs.Step.{after_reading}
use Rattle.smi_station.specs.Core.{Steps, number_of, station_of, tree_of}
use Rattle.smi_message.specs.declared.Bad.{Bad}
use Rattle.smi_station.proofs.station.Core.read.Goals as goal

pub returns-in-Ok-clause-step : goal.returns-in-Ok-clause-step
returns-in-Ok-clause-step g c =
    let now = c.args.self.now in
    subst (λ (r : Result Message Bad). Steps now c.datagram.new.self
    (after_reading (tree_of now) (number_of now) (station_of now) r) c.datagram.new.out c.datagram.result)
    (sym c.in-Ok.is ∙ c.decode.ensures.exact) c.datagram.ensures.step
