use Rattle.std.proofs.Common.{◌≡◌, ℕ, ◌-◌, true, false, refl, ap, sym, ◌∙◌, arith}
use Rattle.std.specs.Prelude.{◌==◌}
use Rattle.std.proofs.lemmas.Bool.Decides.{nat_tests}
use Rattle.smi_tree.specs.Lookups.{towards}
use Rattle.smi_tree.proofs.Ways.{towards-root, towards-step, towards-zero}
use Rattle.smi_tree.proofs.lookup.towards.Goals as goal

pub returns-then-parent-domain : goal.returns-then-parent-domain
returns-then-parent-domain c =
    let step = towards-step c.loop.counter c.args.domains.now c.args.domain c.loop.at c.in-Some.parent (omega arith)
    (sym c.in-Some.ensures) in
    let same : (c.in-Some.parent == c.args.domain) ≡ true = grind (arith, nat_tests) in
    sym (sym c.loop.invariant ∙ step ∙ rw same refl)

pub returns-in-None : goal.returns-in-None
returns-in-None c =
    sym (sym c.loop.invariant ∙ towards-root (8 - c.loop.counter) c.args.domains.now c.args.domain c.loop.at
    (sym c.in-None.ensures))

pub loop-preserved : goal.loop-preserved
loop-preserved c =
    let step = towards-step c.loop.counter c.args.domains.now c.args.domain c.loop.at c.in-Some.parent (omega arith)
    (sym c.in-Some.ensures) in
    let other : (c.in-Some.parent == c.args.domain) ≡ false = grind (arith, nat_tests) in
    sym (step ∙ rw other refl) ∙ c.loop.invariant

pub returns : goal.returns
returns c =
    let end : c.loop.counter ≡ 8 = omega arith in
    sym (sym c.loop.invariant ∙ ap (λ (n : ℕ). towards (8 - n) c.args.domains.now c.args.domain c.loop.at) end
    ∙ towards-zero c.args.domains.now c.args.domain c.loop.at)
