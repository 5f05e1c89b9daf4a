use Rattle.std.proofs.Common.{List, ◌++◌, ap, sym, subst, ◌∙◌}
use Rattle.smi_protocol.specs.declared.item.Line.{Line}
use Rattle.smi_law.specs.Safe.{Safe}
use Rattle.smi_protocol.specs.Schedule.{trace_of}
use Rattle.smi_law.specs.World.{past_of}
use Rattle.smi_law.proofs.SafeRuns.{schedule_safe}
use Rattle.smi_world.proofs.running.run.Goals as goal

pub returns-in-Ok-clause-safe : goal.returns-in-Ok-clause-safe
returns-in-Ok-clause-safe c =
    let h = c.args.tree.now in
    let items = c.args.items.now in
    subst (λ (ls : List Line). Safe h (past_of ls))
    (sym (c.in-Ok.ensures.trace ∙ ap (λ (ls : List Line). ls ++ trace_of h items) c.new-lines.ensures.items))
    (schedule_safe h c.station_count-stations.ensures.tree items)
