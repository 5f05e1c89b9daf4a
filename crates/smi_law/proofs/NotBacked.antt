-- Commands that rest on no current grants.
use Rattle.std.proofs.Common.{ℕ, ◌≡◌, inl, inr, true, false, [], ◌∷◌, Some, None, sym, subst, arith}
use Rattle.smi_grant.specs.declared.Command.TheVariants.{Do}
use Rattle.smi_grant.specs.declared.Holder.TheVariants.{Operator, Domain}
use Rattle.smi_protocol.specs.examples.WorkedTree.{worked_tree}
use Rattle.smi_law.specs.NotSafe as trace
use Rattle.smi_law.specs.Safe.{Backed, by_operator, by_parent, Forwards}
use Rattle.smi_law.specs.Trace.{epoch_at, has_learned, holder_at, Holds, InWork, mode_at, orders_of}
use Rattle.smi_law.specs.World.{noted}

pub not_ordered : Backed worked_tree (noted trace.run_not_ordered []) 1 1 1 (Do 1) → ⊥
unfolding orders_of
not_ordered (by_operator o now once) = cc
not_ordered (by_parent p f m now parent commanded work hands rest) = cc

pub ordered_twice : Backed worked_tree (noted trace.ordered_twice []) 1 1 1 (Do 1) → ⊥
unfolding holder_at orders_of
ordered_twice (by_operator o now once) =
    let same : ◌≡◌ {A = ℕ} 1 o = (let held : Operator 1 ≡ Operator o = now.1 in cc) in
    let at = subst (λ z. orders_of z 1 1 1 (noted trace.ordered_twice []) ≡ Do 1 ∷ []) (sym same) once in
    cc
ordered_twice (by_parent p f m now parent commanded work hands rest) = cc

pub manual_child : Backed worked_tree (noted trace.through_a_manual_child []) 2 1 1 (Do 1) → ⊥
unfolding holder_at mode_at
manual_child (by_operator o now once) = let held : Domain 1 ≡ Operator o = now.1 in cc
manual_child (by_parent p f m now parent commanded work hands rest) = let off : false ≡ true = commanded in cc

-- once ANN has let go of DCS, its own command rests on nothing
of_released : (f m : ℕ) → Backed worked_tree (noted trace.run_under_a_released_parent []) 1 f m (Do 1) → ⊥
unfolding epoch_at has_learned holder_at
of_released f m (by_operator o now once) =
    let same : ◌≡◌ {A = ℕ} 1 o = (let held : Operator 1 ≡ Operator o = now.1 in cc) in
    let held : false ≡ true
    = subst (λ z. Holds (Operator z) 1 (noted trace.run_under_a_released_parent [])) (sym same) now.2 in
    cc
of_released f m (by_parent q g k now parent commanded work hands rest) = let none : None ≡ Some q = parent in cc

pub released_parent : Backed worked_tree (noted trace.run_under_a_released_parent []) 2 1 1 (Do 1) → ⊥
unfolding holder_at
released_parent (by_operator o now once) = let held : Domain 1 ≡ Operator o = now.1 in cc
released_parent (by_parent p f m now parent commanded work hands rest) =
    let same : ◌≡◌ {A = ℕ} 1 p = (let held : Domain 1 ≡ Domain p = now.1 in cc) in
    of_released f m
    (subst (λ z. Backed worked_tree (noted trace.run_under_a_released_parent []) z f m (Do 1)) (sym same) rest)

-- DCS is not at work once its command has ended
of_ended : (f m : ℕ) → InWork 1 f m (Do 1) (noted trace.run_after_its_parents_end []) → ⊥
unfolding InWork
of_ended f m work = elim work [
  | inl at_tpc ↦ let two : ◌≡◌ {A = ℕ} 2 1 = at_tpc.0 in omega (arith, two)
  | inr before ↦ elim before.1 [ inl ran ↦ before.0 (ran.0, ran.1, ran.2) | inr none ↦ none ]
]

pub ended_parent : Backed worked_tree (noted trace.run_after_its_parents_end []) 2 1 1 (Do 1) → ⊥
unfolding holder_at
ended_parent (by_operator o now once) = let held : Domain 1 ≡ Operator o = now.1 in cc
ended_parent (by_parent p f m now parent commanded work hands rest) =
    let same : ◌≡◌ {A = ℕ} 1 p = (let held : Domain 1 ≡ Domain p = now.1 in cc) in
    of_ended f m (subst (λ z. InWork z f m (Do 1) (noted trace.run_after_its_parents_end [])) (sym same) work)

pub not_handed_on : Backed worked_tree (noted trace.run_of_what_is_not_handed_on []) 2 1 1 (Do 3) → ⊥
unfolding holder_at
not_handed_on (by_operator o now once) = let held : Domain 1 ≡ Operator o = now.1 in cc
not_handed_on (by_parent p f m now parent commanded work hands rest) =
    let same : ◌≡◌ {A = ℕ} 1 p = (let held : Domain 1 ≡ Domain p = now.1 in cc) in
    let accepted : false ≡ true = subst (λ z. Forwards worked_tree z (Do 3) 2) (sym same) hands in
    cc

pub let_go : Backed worked_tree (noted trace.run_after_letting_go []) 1 1 1 (Do 1) → ⊥
unfolding epoch_at has_learned holder_at
let_go (by_operator o now once) =
    let same : ◌≡◌ {A = ℕ} 1 o = (let held : Operator 1 ≡ Operator o = now.1 in cc) in
    let held : false ≡ true
    = subst (λ z. Holds (Operator z) 1 (noted trace.run_after_letting_go [])) (sym same) now.2 in
    cc
let_go (by_parent p f m now parent commanded work hands rest) = let none : None ≡ Some p = parent in cc
