-- Every link under way waits for less in the end, whatever its domain has handed on.
use Rattle.std.proofs.Common.{ℕ, zero, suc, ◌≡◌, ◌<◌, ◌≤◌, ◌+◌, Bool, true, false, List, [], ◌∷◌, inl, inr, refl, sym}
use Rattle.std.proofs.Common.{ap}
use Rattle.std.proofs.Common.{◌∙◌, subst, arith}
use Rattle.std.specs.Prelude.{◌*◌, map}
use Rattle.std.proofs.lemmas.Bool.{and_parts}
use Rattle.smi_grant.specs.declared.Holder.{Holder}
use Rattle.smi_grant.specs.declared.Holder.TheVariants.{Domain}
use Rattle.smi_tree.specs.Hierarchy.{Hierarchy}
use Rattle.smi_tree.specs.Lawful.{IsTree}
use Rattle.smi_tree.specs.Lookups.{children_of, domain_count}
use Rattle.smi_command.specs.declared.Link.{Link}
use Rattle.smi_command.specs.declared.Link.TheVariants.{Out, Taking, Held, Dropping}
use Rattle.smi_command.specs.Link.{is_unsettled}
use Rattle.smi_grant.proofs.Holders.{either}
use Rattle.smi_tree.specs.Roles.{has_domain, is_holder_of, is_parent}
use Rattle.smi_protocol.proofs.Lists.{In}
use Rattle.smi_protocol.proofs.Tables.{child_in, child_of}
use Rattle.smi_protocol.specs.Schedule.{World}
use Rattle.smi_protocol.specs.declared.Entry.{Entry}
use Rattle.smi_law.specs.Known.{holder_home, link_in}
use Rattle.smi_law.specs.World.{Reaches}
use Rattle.smi_law.proofs.Parents.{parents_are_lower}
use Rattle.smi_law.specs.Bound.{changing, passing, total}
use Rattle.smi_law.specs.Waiting.{waiting}
use Rattle.smi_law.proofs.Asking.{is_placed}
use Rattle.smi_law.proofs.Changing.{Settles, drop_way, none_waits, take_way}
use Rattle.smi_law.proofs.Owing.{one_waits}
use Rattle.smi_law.proofs.Passes.{Eases, eases_above, eases_not, eases_on}
use Rattle.smi_law.proofs.Placed.{has_place, placed, unsettled_place}
use Rattle.smi_law.proofs.Running.{hold_way}
use Rattle.smi_law.proofs.Sounds.{all_sound}
use Rattle.smi_law.proofs.Ways.{Fine, Way, go_on, less_fine, no_longer, stay}

-- a command is asked for twice, that it runs and that it has ended, and between these each child has done the same
abbrev pub passes : Hierarchy → (levels : ℕ) → (domain : ℕ) → ℕ
passes h zero d = 0
passes h (suc more) d = 2 + total (map (passes h more) (children_of h d))

-- a link to what is no child is as at the beginning
no_child : (h : Hierarchy) → IsTree h → (past : List Entry) (w : World) → Reaches h past w → (d x : ℕ)
    → is_parent h x d ≡ false → waiting (link_in h w (Domain d) x) ≡ 0
no_child h tree past w run d x not =
    ap waiting (placed h tree past w run (holder_home h (Domain d)) (Domain d) x
    (elim (either (has_place h (holder_home h (Domain d)) x (Domain d))) [
      | inl t ↦
          let a = and_parts (has_domain h x) _ t in
          let b = and_parts (is_holder_of h x (Domain d)) _ a.1 in
          absurd (let wrong : true ≡ false = sym b.0 ∙ not in cc)
      | inr f ↦ f
    ]))

module _ (starts : Bool) (h : Hierarchy) (tree : IsTree h) (levels d : ℕ)
    (settle : (x n : ℕ) (w : World) → domain_count h < x + levels → is_unsettled (link_in h w (Domain d) x) ≡ true
    → Fine starts h (n + passes h levels x * changing) w
    → Way starts h w (passes h levels x * passing h) (Settles starts h n x (Domain d) w)) where
  abbrev all : List ℕ → ℕ
  all xs = total (map (passes h levels) xs)

  -- the domain waits for none of these children
  record Rest (n : ℕ) (xs : List ℕ) (u v : World) : Type 0 where
    fine : Fine starts h n v
    eases : Eases h (d + 1) u v
    none : (x : ℕ) → In x xs → waiting (link_in h v (Domain d) x) ≡ 0

  -- one child
  child_way : (x n : ℕ) (u : World) → domain_count h < x + levels → d < x
      → Fine starts h (n + passes h levels x * changing) u
      → Way starts h u (passes h levels x * passing h) (Rest n (x ∷ []) u)
  child_way x n u deep under fine = elim (either (is_unsettled (link_in h u (Domain d) x))) [
    | inl waits ↦
        no_longer starts h u (passes h levels x * passing h) (passes h levels x * passing h)
        (Settles starts h n x (Domain d) u) (Rest n (x ∷ []) u) (omega arith)
        (λ v s. record {
          fine = s.fine;
          eases = eases_above h (d + 1) x u v (omega (arith, under)) s.eases;
          none = λ y at. elim at [
            | inl same ↦ subst (λ z. waiting (link_in h v (Domain d) z) ≡ 0) (sym same)
                (let one = one_waits h (link_in h u (Domain d) x)
                (((all_sound h tree fine.past u fine.run).sound (holder_home h (Domain d))).child d x) in
                let less = s.less in omega (arith, one, less))
            | inr none ↦ absurd none
          ];
        })
        (settle x n u deep waits fine)
    | inr settled ↦ stay starts h u (passes h levels x * passing h) (Rest n (x ∷ []) u) (record {
      fine = less_fine starts h n (n + passes h levels x * changing) u (omega arith) fine;
      eases = eases_not h (d + 1) u;
      none = λ y at. elim at [
        | inl same ↦ subst (λ z. waiting (link_in h u (Domain d) z) ≡ 0) (sym same)
            (none_waits (link_in h u (Domain d) x) settled)
        | inr none ↦ absurd none
      ];
    })
  ]

  -- all of them, one after the other
  children_way : (xs : List ℕ) → ((x : ℕ) → In x xs → (d < x) × (domain_count h < x + levels)) → (n : ℕ) (u : World)
      → Fine starts h (n + all xs * changing) u → Way starts h u (all xs * passing h) (Rest n xs u)
  children_way [] deep n u fine = stay starts h u (0 * passing h) (Rest n [] u) (record {
    fine = less_fine starts h n (n + 0 * changing) u (omega arith) fine;
    eases = eases_not h (d + 1) u;
    none = λ x at. absurd at;
  })
  children_way (x ∷ xs) deep n u fine =
      no_longer starts h u (passes h levels x * passing h + all xs * passing h) (all (x ∷ xs) * passing h)
      (Rest n (x ∷ xs) u) (Rest n (x ∷ xs) u) (parts (passes h levels x) (all xs) (passing h)) (λ v r. r)
      (go_on starts h u (passes h levels x * passing h) (all xs * passing h)
      (Rest (n + all xs * changing) (x ∷ []) u) (Rest n (x ∷ xs) u)
      (child_way x (n + all xs * changing) u (deep x (inl refl)).1 (deep x (inl refl)).0
      (less_fine starts h (n + all xs * changing + passes h levels x * changing) (n + all (x ∷ xs) * changing) u
      (room n (passes h levels x) (all xs) (changing)) fine))
      (λ v r. no_longer starts h v (all xs * passing h) (all xs * passing h) (Rest n xs v) (Rest n (x ∷ xs) u)
      (omega arith)
      (λ z s. record {
        fine = s.fine;
        eases = eases_on h (d + 1) u v z r.eases s.eases;
        none = λ y at. elim at [
          | inl same ↦ let a = r.none y (inl same) in let b = s.eases.less (Domain d) y in omega (arith, a, b)
          | inr more ↦ s.none y more
        ];
      })
      (children_way xs (λ y at. deep y (inr at)) n v r.fine)))
    where
      parts : (a b k : ℕ) → a * k + b * k ≤ (a + b) * k
      parts a b k = grind arith

      room : (m a b k : ℕ) → m + b * k + a * k ≤ m + (a + b) * k
      room m a b k = grind arith

  -- and so the domain waits for nothing
  below_way : domain_count h < d + suc levels → (n : ℕ) (u : World)
      → Fine starts h (n + all (children_of h d) * changing) u
      → Way starts h u (all (children_of h d) * passing h)
      (λ v. Fine starts h n v × Eases h (d + 1) u v × ((x : ℕ) → waiting (link_in h v (Domain d) x) ≡ 0))
  below_way deep n u fine =
      no_longer starts h u (all (children_of h d) * passing h) (all (children_of h d) * passing h)
      (Rest n (children_of h d) u)
      (λ v. Fine starts h n v × Eases h (d + 1) u v × ((x : ℕ) → waiting (link_in h v (Domain d) x) ≡ 0)) (omega arith)
      (λ v r. (
        r.fine,
        r.eases,
        λ x. elim (either (is_parent h x d)) [
          | inl t ↦ r.none x (child_in h d x t)
          | inr f ↦ no_child h tree r.fine.past v r.fine.run d x f
        ],
      ))
      (children_way (children_of h d)
      (λ x at. let less = parents_are_lower h tree x d (child_of h d x at) in (
        less,
        omega
            (arith, less, deep),
      )) n u fine)

-- the passes of all children
abbrev more : Hierarchy → ℕ → ℕ → ℕ
more h levels d = total (map (passes h levels) (children_of h d))

-- A link under way waits for less in the end.
pub settle_way : (starts : Bool) (h : Hierarchy) → IsTree h → (levels d : ℕ) (who : Holder) (n : ℕ) (w : World)
    → domain_count h < d + levels → is_unsettled (link_in h w who d) ≡ true
    → Fine starts h (n + passes h levels d * changing) w
    → Way starts h w (passes h levels d * passing h) (Settles starts h n d who w)
settle_way starts h tree zero d who n w deep waits fine =
    let place = unsettled_place h tree fine.past w fine.run (holder_home h who) who d waits in
    let most = (is_placed h tree (holder_home h who) d who place).within.most in
    absurd (omega (arith, deep, most))
settle_way starts h tree (suc levels) d who n w deep waits fine =
    by (link_in h w who d) refl
    (below_way starts h tree levels d (λ x m v deeper wait on. settle_way starts h tree levels x
    (Domain d) m v deeper wait on)
    deep)
  where
    twice : (a k : ℕ) → k + k ≤ (2 + a) * k
    twice a k = grind arith

    once : (a k : ℕ) → k ≤ (2 + a) * k
    once a k = grind arith

    three : (a k : ℕ) → k + a * k + k ≤ (2 + a) * k
    three a k = grind arith

    by : (l : Link) → link_in h w who d ≡ l
        → ((m : ℕ) (u : World) → Fine starts h (m + more h levels d * changing) u
        → Way starts h u (more h levels d * passing h)
        (λ v. Fine starts h m v × Eases h (d + 1) u v × ((x : ℕ) → waiting (link_in h v (Domain d) x) ≡ 0)))
        → Way starts h w ((2 + more h levels d) * passing h) (Settles starts h n d who w)
    by (Out k) is below = absurd (let wrong : true ≡ false = sym waits ∙ ap is_unsettled is in cc)
    by (Taking s) is below =
        no_longer starts h w (passing h + passing h) ((2 + more h levels d) * passing h) (Settles starts h n d who w)
        (Settles starts h n d who w) (twice (more h levels d) (passing h)) (λ v s'. s')
        (take_way starts h tree d who n w s is
        (less_fine starts h (n + changing + changing) (n + (2 + more h levels d) * changing) w
        (let a = twice (more h levels d) (changing) in omega (arith, a)) fine))
    by (Held e k []) is below = absurd (let wrong : true ≡ false = sym waits ∙ ap is_unsettled is in cc)
    by (Held e k (c ∷ p)) is below =
        no_longer starts h w (passing h + more h levels d * passing h + passing h) ((2 + more h levels d) * passing h)
        (Settles starts h n d who w) (Settles starts h n d who w) (three (more h levels d) (passing h)) (λ v s'. s')
        (hold_way starts h tree d who (more h levels d * changing) (more h levels d * passing h) below n w e k c p is
        (less_fine starts h (n + changing + more h levels d * changing + changing) (n +
        (2 + more h levels d) * changing) w
        (let a = three (more h levels d) (changing) in omega (arith, a)) fine))
    by (Dropping e) is below =
        no_longer starts h w (passing h) ((2 + more h levels d) * passing h) (Settles starts h n d who w)
        (Settles starts h n d who w) (once (more h levels d) (passing h)) (λ v s'. s')
        (drop_way starts h tree d who n w e is
        (less_fine starts h (n + changing) (n + (2 + more h levels d) * changing) w
        (let a = once (more h levels d) (changing) in omega (arith, a)) fine))
