use Rattle.std.proofs.Common.{◌∙◌, sym, ap}
use Rattle.smi_tree.specs.Hierarchy.{Hierarchy}
use Rattle.smi_station_grants.specs.GrantTable.{grants_of}
use Rattle.smi_protocol.specs.Happening.{Comes}
use Rattle.smi_protocol.specs.Refusals.{refusal_of_message}
use Rattle.smi_station.proofs.Saves.{taken_saves, wanted_saves}
use Rattle.smi_station.proofs.would_save.is_saved_for_datagram.Goals as goal

pub returns-in-Ok : goal.returns-in-Ok
returns-in-Ok c = λ s same.
    let kept = c.args.kept.now in
    c.has_row.ensures
    ∙ taken_saves kept.tree kept.number s (Comes c.args.datagram.now) (grants_of kept) c.in-Ok.change same
    (sym (ap (λ (h : Hierarchy). refusal_of_message h c.number.result c.args.datagram.now) c.tree.ensures.value
    ∙ ap (λ n. refusal_of_message kept.tree n c.args.datagram.now) c.number.ensures.value)
    ∙ sym c.check_datagram.ensures ∙ c.in-None.is)
    c.in-Ok.ensures.plan

pub returns-in-Err : goal.returns-in-Err
returns-in-Err c = λ s same.
    let kept = c.args.kept.now in
    wanted_saves kept.tree kept.number s (Comes c.args.datagram.now) (grants_of kept) same
    (sym (ap (λ (h : Hierarchy). refusal_of_message h c.number.result c.args.datagram.now) c.tree.ensures.value
    ∙ ap (λ n. refusal_of_message kept.tree n c.args.datagram.now) c.number.ensures.value)
    ∙ sym c.check_datagram.ensures ∙ c.in-None.is)
    c.in-Err.ensures.memory
