use Rattle.std.proofs.Common.{◌≡◌, ℕ, ◌-◌, length, ap, sym, ◌∙◌, arith}
use Rattle.smi_tree.specs.Hierarchy.{ancestors}
use Rattle.smi_tree.proofs.HierarchyLemmas.{ancestors-none, ancestors-zero, length-ancestors_up}
use Rattle.smi_tree.proofs.declare.depth_in.Goals as goal

pub returns-in-None : goal.returns-in-None
returns-in-None c =
    let none = ap length (ancestors-none (8 - c.loop-above.above) c.args.domains.now c.loop-above.at
    (sym c.in-None.ensures)) in
    omega (arith, none, c.loop-above.invariant)

pub loop-above-preserved : goal.loop-above-preserved
loop-above-preserved c =
    let up = length-ancestors_up c.loop-above.above c.args.domains.now c.loop-above.at c.in-Some.parent (omega arith)
    (sym c.in-Some.ensures) in
    omega (arith, up, c.loop-above.invariant)

pub returns : goal.returns
returns c =
    let end : c.loop-above.above ≡ 8 = omega arith in
    let none = ap (λ (n : ℕ). length (ancestors (8 - n) c.args.domains.now c.loop-above.at)) end
    ∙ ap length (ancestors-zero c.args.domains.now c.loop-above.at) in
    omega (arith, none, c.loop-above.invariant, end)
