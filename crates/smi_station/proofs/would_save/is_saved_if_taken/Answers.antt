use Rattle.std.proofs.Common.{◌∙◌, sym, ap}
use Rattle.std.specs.Prelude.{is_some}
use Rattle.smi_station_grants.specs.GrantTable.{grants_of}
use Rattle.smi_protocol.specs.Grants.{Grants}
use Rattle.smi_protocol.specs.GrantStep.{GrantStep}
use Rattle.smi_protocol.specs.Happening.{Orders}
use Rattle.smi_protocol.specs.Refusals.{refusal_of}
use Rattle.smi_station_decide.specs.Decided.{refused_by}
use Rattle.smi_station.proofs.Saves.{refused_saves_nothing, step_saves}
use Rattle.smi_station.proofs.would_save.is_saved_if_taken.Goals as goal

pub returns-in-Err : goal.returns-in-Err
returns-in-Err c = λ s same.
    let kept = c.args.kept.now in
    refused_saves_nothing kept.tree kept.number s (Orders c.args.operator c.args.what.now) c.in-Err.field-0
    (ap (λ (x : Grants). refusal_of kept.tree kept.number x (Orders c.args.operator c.args.what.now)) same
    ∙ sym c.decide_order.ensures.refused ∙ ap refused_by c.in-Err.is)

pub returns-in-Ok : goal.returns-in-Ok
returns-in-Ok c = λ s same.
    let kept = c.args.kept.now in
    c.has_row.ensures kept.tree kept.number (grants_of kept) c.args.operator
    ∙ ap (λ (step : GrantStep). is_some step.row) c.in-Ok.ensures.step
    ∙ step_saves kept.tree kept.number s (Orders c.args.operator c.args.what.now) (grants_of kept) same
    (sym c.decide_order.ensures.refused ∙ ap refused_by c.in-Ok.is)
