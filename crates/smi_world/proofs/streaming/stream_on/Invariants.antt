use Rattle.std.proofs.Common.{◌≡◌, IfSome}
use Rattle.smi_protocol.specs.Schedule.{World}
use Rattle.smi_schedule.specs.Lines.{left}
use Rattle.smi_world.specs.Posts.{IsAt}
use Rattle.smi_world.proofs.Going.{Going}
use Rattle.smi_world.proofs.streaming.stream_on.Given as goal

-- this many lines are made, and that is left
abbrev pub invariant-loop-number : goal.invariant-loop-number
invariant-loop-number g l = record {
  tree : l.world.tree ≡ l.fn.world.tree;
  gone : (w : World) → IsAt l.fn.world w → IfSome (g.R.Read.remaining l.fn.reader) (λ input.
      Going l.fn.world.tree w input l.number l.world (g.W.Write.contents l.fn.writer) (g.W.Write.contents l.writer)
      (left l.cutter (g.R.Read.remaining l.reader)));
}
