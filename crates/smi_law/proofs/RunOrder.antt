-- In every run the commands of each domain run in order: 1, 2 and so on under each grant.
use Rattle.std.proofs.Common.{ℕ, ◌≡◌, ◌≤◌, ◌<◌, ◌+◌, true, false, List, [], ◌∷◌, ◌⊎◌, inl, inr, refl, sym, ap, ◌∙◌}
use Rattle.std.proofs.Common.{subst, arith}
use Rattle.std.specs.Prelude.{◌==◌, ◌&&◌, if◌then◌else◌}
use Rattle.std.proofs.lemmas.Bool.{and_parts, eqb-true}
use Rattle.std.proofs.lemmas.Bool.Decides.{nat_tests}
use Rattle.smi_grant.specs.declared.Command.{Command}
use Rattle.smi_tree.specs.Hierarchy.{Hierarchy}
use Rattle.smi_grant.proofs.Holders.{either}
use Rattle.smi_protocol.specs.declared.Entry.{Entry}
use Rattle.smi_protocol.specs.declared.Entry.TheVariants.{Booted, Granted, Freed, Ordered, Ran, Learned, LetGo}
use Rattle.smi_protocol.specs.declared.Entry.TheVariants.{InMode, Settled, Showed, Passed, Told}
use Rattle.smi_law.specs.Known.{record_in}
use Rattle.smi_law.specs.Safe.{IsBehind, RunsInOrder}
use Rattle.smi_protocol.specs.Schedule.{World}
use Rattle.smi_law.specs.Trace.{Stands, runs_under}
use Rattle.smi_law.specs.World.{noted}
use Rattle.smi_law.proofs.Moves.{apart}
use Rattle.smi_law.proofs.RunSteps.{IsNoRun, NoRuns, SameLast}

-- What a trace says of runs.

none_under : (d f : ℕ) (y : Entry) (past : List Entry) → IsNoRun y → runs_under d f (y ∷ past) ≡ runs_under d f past
unfolding runs_under
none_under d f (Booted s b) past calm = refl
none_under d f (Granted x e who) past calm = refl
none_under d f (Freed x e) past calm = refl
none_under d f (Ordered o x e n c) past calm = refl
none_under d f (Learned who x e) past calm = refl
none_under d f (LetGo who x e) past calm = refl
none_under d f (InMode x m) past calm = refl
none_under d f (Settled x e n q) past calm = refl
none_under d f (Showed s v) past calm = refl
none_under d f (Passed v) past calm = refl
none_under d f (Told o t) past calm = refl
none_under d f (Ran x e n c) past calm = absurd calm

one_under : (d f x e n : ℕ) (c : Command) (past : List Entry)
    → runs_under d f (Ran x e n c ∷ past) ≡ (if x == d && e == f then runs_under d f past + 1 else runs_under d f past)
unfolding runs_under
one_under d f x e n c past = refl

pub nothing_under : (d f : ℕ) → runs_under d f [] ≡ 0
unfolding runs_under
nothing_under d f = refl

stood_none : (d f m : ℕ) (k : Command) (y : Entry) (past : List Entry) → IsNoRun y → Stands (Ran d f m k) (y ∷ past)
    → Stands (Ran d f m k) past
stood_none d f m k y past q (inl same) = absurd (subst IsNoRun (sym same) q)
stood_none d f m k y past q (inr a) = a

order_none : (y : Entry) (past : List Entry) → IsNoRun y → RunsInOrder past → RunsInOrder (y ∷ past)
order_none (Booted s b) past calm safe = safe
order_none (Granted x e who) past calm safe = safe
order_none (Freed x e) past calm safe = safe
order_none (Ordered o x e n c) past calm safe = safe
order_none (Learned who x e) past calm safe = safe
order_none (LetGo who x e) past calm safe = safe
order_none (InMode x m) past calm safe = safe
order_none (Settled x e n q) past calm safe = safe
order_none (Showed s v) past calm safe = safe
order_none (Passed v) past calm safe = safe
order_none (Told o t) past calm safe = safe
order_none (Ran x e n c) past calm safe = absurd calm

-- if no command has run under a grant, none is counted
runs_zero : (d f : ℕ) (past : List Entry) → ((m : ℕ) (k : Command) → Stands (Ran d f m k) past → ⊥)
    → runs_under d f past ≡ 0
runs_zero d f [] none = nothing_under d f
runs_zero d f (Ran x e n c ∷ past) none = elim (either (x == d && e == f)) [
  | inl t ↦
      let a = and_parts (x == d) _ t in
      absurd (none n c
      (inl (ap (λ z. Ran z f n c) (sym (eqb-true x d a.0)) ∙ ap (λ z. Ran x z n c) (sym (eqb-true e f a.1)))))
  | inr i ↦ one_under d f x e n c past ∙ ap (λ b. if b then runs_under d f past + 1 else runs_under d f past) i
      ∙ runs_zero d f past (λ m k a. none m k (inr a))
]
runs_zero d f (Booted s b ∷ past) none = none_under d f (Booted s b) past tt
    ∙ runs_zero d f past (λ m k a. none m k (inr a))
runs_zero d f (Granted x e who ∷ past) none =
    none_under d f (Granted x e who) past tt ∙ runs_zero d f past (λ m k a. none m k (inr a))
runs_zero d f (Freed x e ∷ past) none = none_under d f (Freed x e) past tt
    ∙ runs_zero d f past (λ m k a. none m k (inr a))
runs_zero d f (Ordered o x e n c ∷ past) none =
    none_under d f (Ordered o x e n c) past tt ∙ runs_zero d f past (λ m k a. none m k (inr a))
runs_zero d f (Learned who x e ∷ past) none =
    none_under d f (Learned who x e) past tt ∙ runs_zero d f past (λ m k a. none m k (inr a))
runs_zero d f (LetGo who x e ∷ past) none =
    none_under d f (LetGo who x e) past tt ∙ runs_zero d f past (λ m k a. none m k (inr a))
runs_zero d f (InMode x m ∷ past) none = none_under d f (InMode x m) past tt
    ∙ runs_zero d f past (λ m k a. none m k (inr a))
runs_zero d f (Settled x e n q ∷ past) none =
    none_under d f (Settled x e n q) past tt ∙ runs_zero d f past (λ m k a. none m k (inr a))
runs_zero d f (Showed s v ∷ past) none = none_under d f (Showed s v) past tt
    ∙ runs_zero d f past (λ m k a. none m k (inr a))
runs_zero d f (Passed v ∷ past) none = none_under d f (Passed v) past tt
    ∙ runs_zero d f past (λ m k a. none m k (inr a))
runs_zero d f (Told o t ∷ past) none = none_under d f (Told o t) past tt
    ∙ runs_zero d f past (λ m k a. none m k (inr a))

-- How the runs so far relate to the records.

pub record Counted (h : Hierarchy) (past : List Entry) (w : World) : Type 0 where
  pub count : (d : ℕ) → runs_under d (record_in h w d).epoch past ≡ (record_in h w d).last
  pub bound : (d f m : ℕ) (k : Command) → Stands (Ran d f m k) past
      → (f < (record_in h w d).epoch) ⊎ ((f ≡ (record_in h w d).epoch) × (m ≤ (record_in h w d).last))
  pub order : RunsInOrder past

pub counted_none : (h : Hierarchy) (w : World) (new past : List Entry) → NoRuns new → Counted h past w
    → Counted h (noted new past) w
counted_none h w [] past q c = c
counted_none h w (y ∷ new) past q c = counted_none h w new (y ∷ past) q.1 (record {
  count = λ d. none_under d (record_in h w d).epoch y past q.0 ∙ c.count d;
  bound = λ d f m k a. c.bound d f m k (stood_none d f m k y past q.0 a);
  order = order_none y past q.0 c.order;
})

pub counted_same : (h : Hierarchy) (w next : World) (past : List Entry)
    → ((d : ℕ) → SameLast (record_in h w d) (record_in h next d)) → Counted h past w → Counted h past next
counted_same h w next past same c = record {
  count = λ d. ap (λ z. runs_under d z past) (same d).epoch ∙ c.count d ∙ sym (same d).last;
  bound = λ d f m k a. moved d f m (c.bound d f m k a);
  order = c.order;
}
  where
    moved : (d f m : ℕ) → (f < (record_in h w d).epoch)
        ⊎ ((f ≡ (record_in h w d).epoch) × (m ≤ (record_in h w d).last))
        → (f < (record_in h next d).epoch) ⊎ ((f ≡ (record_in h next d).epoch) × (m ≤ (record_in h next d).last))
    moved d f m (inl less) = let a = (same d).epoch in inl (omega (arith, less, a))
    moved d f m (inr at) = let a = (same d).epoch in let b = (same d).last in let e = at.0 in let l = at.1 in
        inr (e ∙ sym a, omega (arith, l, b))

-- one record changes, and the others have run what they had
pub record OneRecord (h : Hierarchy) (w next : World) (x : ℕ) (epoch last : ℕ) : Type 0 where
  pub epoch_ : (record_in h next x).epoch ≡ epoch
  pub last_ : (record_in h next x).last ≡ last
  pub others : (d : ℕ) → (d ≡ x → ⊥) → SameLast (record_in h w d) (record_in h next d)

-- a domain changes hands: nothing has run yet
pub counted_handed : (h : Hierarchy) (w next : World) (past : List Entry) (x : ℕ)
    → OneRecord h w next x ((record_in h w x).epoch + 1) 0 → Counted h past w → Counted h past next
counted_handed h w next past x one c = record {
  count = λ d. elim (apart d x) [
    | inl i ↦ subst (λ z. runs_under z (record_in h next z).epoch past ≡ (record_in h next z).last) (sym i) here
    | inr o ↦ ap (λ z. runs_under d z past) (one.others d o).epoch ∙ c.count d ∙ sym (one.others d o).last
  ];
  bound = λ d f m k a. elim (apart d x) [
    | inl i ↦ subst (λ z. (f < (record_in h next z).epoch)
        ⊎ ((f ≡ (record_in h next z).epoch) × (m ≤ (record_in h next z).last))) (sym i)
        (earlier f m
        (subst (λ z. (f < (record_in h w z).epoch)
        ⊎ ((f ≡ (record_in h w z).epoch) × (m ≤ (record_in h w z).last))) i (c.bound d f m k a)))
    | inr o ↦ kept d f m (one.others d o) (c.bound d f m k a)
  ];
  order = c.order;
}
  where
    none : (m : ℕ) (k : Command) → Stands (Ran x ((record_in h w x).epoch + 1) m k) past → ⊥
    none m k a = elim (c.bound x ((record_in h w x).epoch + 1) m k a)
        [ inl less ↦ omega (arith, less) | inr at ↦ let e = at.0 in omega (arith, e) ]

    here : runs_under x (record_in h next x).epoch past ≡ (record_in h next x).last
    here = ap (λ z. runs_under x z past) one.epoch_ ∙ runs_zero x ((record_in h w x).epoch + 1) past none
        ∙ sym one.last_

    earlier : (f m : ℕ) → (f < (record_in h w x).epoch)
        ⊎ ((f ≡ (record_in h w x).epoch) × (m ≤ (record_in h w x).last))
        → (f < (record_in h next x).epoch) ⊎ ((f ≡ (record_in h next x).epoch) × (m ≤ (record_in h next x).last))
    earlier f m (inl less) = let a = one.epoch_ in inl (omega (arith, less, a))
    earlier f m (inr at) = let a = one.epoch_ in let e = at.0 in inl (omega (arith, e, a))

    kept : (d f m : ℕ) → SameLast (record_in h w d) (record_in h next d)
        → (f < (record_in h w d).epoch) ⊎ ((f ≡ (record_in h w d).epoch) × (m ≤ (record_in h w d).last))
        → (f < (record_in h next d).epoch) ⊎ ((f ≡ (record_in h next d).epoch) × (m ≤ (record_in h next d).last))
    kept d f m same (inl less) = let a = same.epoch in inl (omega (arith, less, a))
    kept d f m same (inr at) = let a = same.epoch in let b = same.last in let e = at.0 in let l = at.1 in
        inr (e ∙ sym a, omega (arith, l, b))

-- the next command of a domain runs
pub counted_run : (h : Hierarchy) (w next : World) (past : List Entry) (x n : ℕ) (k : Command)
    → n ≡ (record_in h w x).last + 1 → OneRecord h w next x (record_in h w x).epoch n → Counted h past w
    → Counted h (Ran x (record_in h w x).epoch n k ∷ past) next
counted_run h w next past x n k numbered one c = record {
  count = λ d. elim (apart d x) [
    | inl i ↦ subst (λ z. runs_under z (record_in h next z).epoch (Ran x e n k ∷ past) ≡ (record_in h next z).last)
        (sym i) here
    | inr o ↦ one_under d (record_in h next d).epoch x e n k past
        ∙ ap (λ b. if b then runs_under d (record_in h next d).epoch past + 1
        else runs_under d (record_in h next d).epoch past) (not_it d (record_in h next d).epoch o)
        ∙ (ap (λ z. runs_under d z past) (one.others d o).epoch ∙ c.count d ∙ sym (one.others d o).last)
  ];
  bound = bounded;
  order = (numbered ∙ ap (λ z. z + 1) (sym (c.count x)), behind, c.order);
}
  where
    e : ℕ
    e = (record_in h w x).epoch

    self : (m : ℕ) → (m == m) ≡ true
    self m = grind (arith, nat_tests)

    not_it : (d f : ℕ) → (d ≡ x → ⊥) → (x == d && e == f) ≡ false
    not_it d f o = elim (either (x == d && e == f)) [
      | inl t ↦ absurd (o (sym (eqb-true x d (and_parts (x == d) _ t).0)))
      | inr i ↦ i
    ]

    here : runs_under x (record_in h next x).epoch (Ran x e n k ∷ past) ≡ (record_in h next x).last
    here =
        ap (λ z. runs_under x z (Ran x e n k ∷ past)) one.epoch_
        ∙ one_under x e x e n k past
        ∙ rw (self x) (rw (self e) (ap (λ z. z + 1) (c.count x) ∙ sym numbered ∙ sym one.last_))

    behind : IsBehind x e n past
    behind f m j a = elim (c.bound x f m j a) [
      | inl less ↦ inl less
      | inr at ↦ let l = at.1 in inr (at.0, omega (arith, l, numbered))
    ]

    bounded : (d f m : ℕ) (j : Command) → Stands (Ran d f m j) (Ran x e n k ∷ past)
        → (f < (record_in h next d).epoch) ⊎ ((f ≡ (record_in h next d).epoch) × (m ≤ (record_in h next d).last))
    bounded d f m j (inl same) =
        let a : d ≡ x = cc in
        let b : f ≡ e = cc in
        let g : m ≡ n = cc in
        let l : (record_in h next d).last ≡ n = ap (λ z. (record_in h next z).last) a ∙ one.last_ in
        inr (b ∙ sym one.epoch_ ∙ ap (λ z. (record_in h next z).epoch) (sym a), omega (arith, g, l))
    bounded d f m j (inr a) = elim (apart d x) [
      | inl i ↦ subst (λ z. (f < (record_in h next z).epoch)
          ⊎ ((f ≡ (record_in h next z).epoch) × (m ≤ (record_in h next z).last))) (sym i)
          (further f m
          (subst (λ z. (f < (record_in h w z).epoch)
          ⊎ ((f ≡ (record_in h w z).epoch) × (m ≤ (record_in h w z).last))) i (c.bound d f m j a)))
      | inr o ↦ kept d f m (one.others d o) (c.bound d f m j a)
    ]
      where
        further : (f m : ℕ) → (f < (record_in h w x).epoch)
            ⊎ ((f ≡ (record_in h w x).epoch) × (m ≤ (record_in h w x).last))
            → (f < (record_in h next x).epoch) ⊎ ((f ≡ (record_in h next x).epoch) × (m ≤ (record_in h next x).last))
        further f m (inl less) = let b = one.epoch_ in inl (omega (arith, less, b))
        further f m (inr at) = let b = one.epoch_ in let g = one.last_ in let l = at.1 in
            inr (at.0 ∙ sym b, omega (arith, l, g, numbered))

        kept : (d f m : ℕ) → SameLast (record_in h w d) (record_in h next d)
            → (f < (record_in h w d).epoch) ⊎ ((f ≡ (record_in h w d).epoch) × (m ≤ (record_in h w d).last))
            → (f < (record_in h next d).epoch) ⊎ ((f ≡ (record_in h next d).epoch) × (m ≤ (record_in h next d).last))
        kept d f m same (inl less) = let b = same.epoch in inl (omega (arith, less, b))
        kept d f m same (inr at) = let b = same.epoch in let g = same.last in let l = at.1 in
            inr (at.0 ∙ sym b, omega (arith, l, g))
