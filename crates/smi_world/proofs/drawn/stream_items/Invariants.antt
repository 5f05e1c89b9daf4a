use Rattle.std.proofs.Common.{◌≡◌, ◌-◌}
use Rattle.smi_protocol.specs.Schedule.{World}
use Rattle.smi_schedule.specs.Drawn.{items_drawn}
use Rattle.smi_world.specs.Posts.{IsAt}
use Rattle.smi_world.proofs.Drawing.{Drawing}
use Rattle.smi_world.proofs.drawn.stream_items.Given as goal

-- this many items are made and written, and the others are left
abbrev pub invariant-loop : goal.invariant-loop
invariant-loop g l = record {
  tree : l.world.tree ≡ l.fn.world.tree;
  made : (w : World) → IsAt l.fn.world w → Drawing l.fn.world.tree w
      (items_drawn l.fn.world.tree l.steps l.fn.drawer) l.world
      (g.W.Write.contents l.fn.writer) (g.W.Write.contents l.writer)
      (items_drawn l.fn.world.tree (l.steps - l.counter) l.drawer);
}
