use Rattle.std.proofs.Common.{◌≡◌, sym, subst}
use Rattle.std.specs.Prelude.{is_some}
use Rattle.smi_protocol.specs.Happening.{Happening}
use Rattle.smi_protocol.specs.Step.{after}
use Rattle.smi_station.proofs.would_save.is_saved_for_order.Goals as goal

pub returns-in-None : goal.returns-in-None
returns-in-None c = λ s same.
    subst (λ (what : Happening). c.is_saved_if_taken.result
    ≡ is_some (after c.args.kept.now.tree c.args.kept.now.number s what).saved)
    (sym (c.reported_in.ensures.other c.args.operator c.in-None.is)) (c.is_saved_if_taken.ensures s same)
