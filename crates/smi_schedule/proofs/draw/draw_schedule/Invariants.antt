use Rattle.std.proofs.Common.{◌≡◌, ◌-◌, ◌++◌}
use Rattle.smi_schedule.specs.Drawn.{items_drawn, schedule_drawn}
use Rattle.smi_schedule.proofs.draw.draw_schedule.Given as goal

-- the items so far, and then as many as are left, are all
abbrev pub invariant-loop : goal.invariant-loop
invariant-loop l = l.items.items ++ items_drawn l.tree (l.steps - l.counter) l.drawer
    ≡ schedule_drawn l.tree l.seed l.steps
