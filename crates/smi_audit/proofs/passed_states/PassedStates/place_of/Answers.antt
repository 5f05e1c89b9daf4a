use Rattle.std.proofs.Common.{sym, ◌∙◌}
use Rattle.smi_audit.proofs.Searching.{narrows_up, narrows_down}
use Rattle.smi_audit.proofs.passed_states.PassedStates.place_of.Goals as goal

pub loop-low-preserved-then-is_newer : goal.loop-low-preserved-then-is_newer
loop-low-preserved-then-is_newer c =
    narrows_up c.self.inside.list.items c.args.version c.loop-low.low c.loop-low.high c.index.result.now
    c.self.invariant c.loop-low-test.true c.loop-low.invariant c.index.ensures
    (sym c.is_newer.ensures ∙ c.if-is_newer.true)

pub loop-low-preserved : goal.loop-low-preserved
loop-low-preserved c =
    narrows_down c.self.inside.list.items c.args.version c.loop-low.low c.loop-low.high c.index.result.now
    c.self.invariant c.loop-low-test.true c.loop-low.invariant c.index.ensures
    (sym c.is_newer.ensures ∙ c.if-is_newer.false)
