use Rattle.std.proofs.Common.{◌≡◌, ◌++◌, drop}
use Rattle.smi_protocol.specs.Schedule.{World, trace_from}
use Rattle.smi_world.specs.Posts.{IsAt}
use Rattle.smi_world.proofs.Runs.{MadeSo, SeenSo}
use Rattle.smi_world.proofs.running.run_on.Given as goal

abbrev pub invariant-loop-item : goal.invariant-loop-item
invariant-loop-item l = record {
  tree : l.world.tree ≡ l.fn.world.tree;
  number : l.number ≡ l.item-index;
  made : (w : World) → IsAt l.fn.world w → MadeSo l.fn.world.tree l.world l.lines.items (drop l.item-index l.items)
      (l.fn.lines.items ++ trace_from l.fn.world.tree w l.items);
  seen : SeenSo l.fn.world.tree l.items (drop l.item-index l.items) l.item-index;
}
