-- A command is asked for no more than twice for each domain.
use Rattle.std.proofs.Common.{ℕ, zero, suc, ◌≡◌, ◌<◌, ◌≤◌, ◌+◌, Bool, true, false, List, [], ◌∷◌, ◌⊎◌, inl, inr, refl}
use Rattle.std.proofs.Common.{sym, ap}
use Rattle.std.proofs.Common.{◌∙◌, subst, arith}
use Rattle.std.specs.Prelude.{◌*◌, ◌==◌, ◌||◌, filter, map, length, Some, if◌then◌else◌}
use Rattle.std.specs.List.{list_any}
use Rattle.std.proofs.lemmas.Bool.{eqb-true}
use Rattle.smi_tree.specs.Hierarchy.{Hierarchy}
use Rattle.smi_tree.specs.Lawful.{IsTree}
use Rattle.smi_tree.specs.Lookups.{children_of, domain_count, parent_of}
use Rattle.smi_grant.proofs.Holders.{either}
use Rattle.smi_tree.specs.Roles.{has_domain}
use Rattle.smi_protocol.proofs.Lists.{In, in_range}
use Rattle.smi_protocol.proofs.Ranges.{between, child_there, is_within}
use Rattle.smi_protocol.proofs.Tables.{child_of, number_self, parent_is}
use Rattle.smi_protocol.specs.Ticking.{domains_of}
use Rattle.smi_law.proofs.Parents.{parents_are_lower}
use Rattle.smi_law.specs.Bound.{total}
use Rattle.smi_law.proofs.Settling.{passes}
use Rattle.smi_law.proofs.Ascending.{Ascends, Less, ascends_numbers}
use Rattle.smi_law.proofs.RestLists.{in_kept, kept_most, range_length, some_there}

-- a domain is another one, or below it, by no more levels than this
abbrev under : Hierarchy → ℕ → ℕ → ℕ → Bool
under h zero d y = false
under h (suc k) d y = y == d || list_any (λ x. under h k x y) (children_of h d)

either_of : (a b : Bool) → (a || b) ≡ true → (a ≡ true) ⊎ (b ≡ true)
either_of true b t = inl refl
either_of false b t = inr t

some_any : {X : Type 0} (test : X → Bool) (xs : List X) → list_any test xs ≡ true → (x : X) × In x xs × (test x ≡ true)
some_any test [] t = absurd cc
some_any {X = X} test (x ∷ xs) t = by (test x) refl t (λ u. some_any test xs u)
  where
    by : (b : Bool) → test x ≡ b → (b || list_any test xs) ≡ true
        → (list_any test xs ≡ true → (y : X) × In y xs × (test y ≡ true)) → (y : X) × In y (x ∷ xs) × (test y ≡ true)
    by true is u rest = (x, inl refl, is)
    by false is u rest = let r = rest u in (r.0, inr r.1, r.2)

any_some : {X : Type 0} (test : X → Bool) (x : X) (xs : List X) → In x xs → test x ≡ true → list_any test xs ≡ true
any_some test x [] at t = absurd at
any_some test x (y ∷ xs) (inl same) t = ap (λ b. b || list_any test xs) (ap test (sym same) ∙ t)
any_some test x (y ∷ xs) (inr at) t = by (test y) (any_some test x xs at t)
  where
    by : (b : Bool) → list_any test xs ≡ true → (b || list_any test xs) ≡ true
    by true u = refl
    by false u = u

module _ (h : Hierarchy) (tree : IsTree h) where
  above : (x d : ℕ) → In x (children_of h d) → d < x
  above x d at = parents_are_lower h tree x d (child_of h d x at)

  under_le : (k x y : ℕ) → under h k x y ≡ true → x ≤ y
  under_le zero x y t = absurd cc
  under_le (suc k) x y t = elim (either_of (y == x) (list_any (λ z. under h k z y) (children_of h x)) t) [
    | inl same ↦ let is = eqb-true y x same in omega (arith, is)
    | inr more ↦
        let z = some_any (λ z. under h k z y) (children_of h x) more in
        let a = under_le k z.0 y z.2 in
        let b = above z.0 x z.1 in
        omega (arith, a, b)
  ]

  -- seen from below
  abbrev Bottom : ℕ → ℕ → ℕ → Type 0
  Bottom k x y = (y ≡ x) ⊎ ((q : ℕ) × (parent_of h y ≡ Some q) × (under h k x q ≡ true))

  bottom : (k x y : ℕ) → under h (suc k) x y ≡ true → Bottom k x y
  bottom zero x y t = elim (either_of (y == x) (list_any (λ z. under h zero z y) (children_of h x)) t) [
    | inl same ↦ inl (eqb-true y x same)
    | inr more ↦ let z = some_any (λ z. under h zero z y) (children_of h x) more in
        absurd (let wrong : false ≡ true = z.2 in cc)
  ]
  bottom (suc k) x y t = elim (either_of (y == x) (list_any (λ z. under h (suc k) z y) (children_of h x)) t) [
    | inl same ↦ inl (eqb-true y x same)
    | inr more ↦
        let z = some_any (λ z. under h (suc k) z y) (children_of h x) more in
        elim (bottom k z.0 y z.2) [
          | inl is ↦ inr (
            x,
            ap (parent_of h) is ∙ child_of h x z.0 z.1,
            ap (λ b. b || list_any (λ u. under h k u x) (children_of h x)) (number_self x),
          )
          | inr up ↦ inr (
            up.0,
            up.1,
            by (up.0 == x) (any_some (λ u. under h k u up.0) z.0 (children_of h x) z.1 up.2),
          )
        ]
  ]
    where
      by : (b : Bool) {c : Bool} → c ≡ true → (b || c) ≡ true
      by true u = refl
      by false u = u

  -- nobody is below two children of a domain
  one_way : (k j x z y d : ℕ) → parent_of h x ≡ Some d → parent_of h z ≡ Some d → under h k x y ≡ true
      → under h j z y ≡ true → x ≡ z
  one_way zero j x z y d a b s t = absurd cc
  one_way (suc k) zero x z y d a b s t = absurd cc
  one_way (suc k) (suc j) x z y d a b s t = by (bottom k x y s) (bottom j z y t) (λ q u v. one_way k j x z q d a b u v)
    where
      low : (u v : ℕ) → parent_of h u ≡ Some d → (i : ℕ) → under h i u d ≡ true → ⊥
      low u v p i up =
          let le = under_le i u d up in
          let less = parents_are_lower h tree u d p in
          omega (arith, le, less)

      same_parent : (u q : ℕ) → parent_of h u ≡ Some q → parent_of h u ≡ Some d → q ≡ d
      same_parent u q p r = let both : Some q ≡ Some d = sym p ∙ r in cc

      by : Bottom k x y → Bottom j z y
          → ((q : ℕ) → under h k x q ≡ true → under h j z q ≡ true → x ≡ z) → x ≡ z
      by (inl m) (inl n) again = sym m ∙ n
      by (inl m) (inr n) again =
          let q = same_parent x n.0 (ap (parent_of h) (sym m) ∙ n.1) a in
          absurd (low z n.0 b j (subst (λ i. under h j z i ≡ true) q n.2))
      by (inr m) (inl n) again =
          let q = same_parent z m.0 (ap (parent_of h) (sym n) ∙ m.1) b in
          absurd (low x m.0 a k (subst (λ i. under h k x i ≡ true) q m.2))
      by (inr m) (inr n) again =
          let q : Some n.0 ≡ Some m.0 = sym n.1 ∙ m.1 in
          let r : n.0 ≡ m.0 = cc in
          again m.0 m.2 (subst (λ i. under h j z i ≡ true) r n.2)

-- Counts.

abbrev one : Bool → ℕ
one true = 1
one false = 0

all_none : (test : ℕ → Bool) (xs : List ℕ) → ((x : ℕ) → In x xs → test x ≡ false)
    → total (map (λ x. one (test x)) xs) ≡ 0
all_none test [] each = refl
all_none test (x ∷ xs) each =
    let a = ap one (each x (inl refl)) in
    let b = all_none test xs (λ y i. each y (inr i)) in
    omega (arith, a, b)

-- at most one of them passes
once : (test : ℕ → Bool) (xs : List ℕ) → Ascends Less xs
    → ((x z : ℕ) → In x xs → In z xs → test x ≡ true → test z ≡ true → x ≡ z)
    → total (map (λ x. one (test x)) xs) ≤ one (list_any test xs)
once test [] a unique = omega arith
once test (x ∷ xs) a unique = by (test x) refl (once test xs a.1 (λ u v i j. unique u v (inr i) (inr j)))
  where
    nobody : (test x ≡ true) → (ys : List ℕ) → ((y : ℕ) → In y ys → In y xs) → total (map (λ y. one (test y)) ys) ≡ 0
    nobody t [] part = refl
    nobody t (y ∷ ys) part = here (test y) refl (nobody t ys (λ z i. part z (inr i)))
      where
        here : (b : Bool) → test y ≡ b → total (map (λ z. one (test z)) ys) ≡ 0
            → one (test y) + total (map (λ z. one (test z)) ys) ≡ 0
        here true u rest =
            let same = unique x y (inl refl) (inr (part y (inl refl))) t u in
            let less = a.0 y (part y (inl refl)) in
            absurd (omega (arith, same, less))
        here false u rest = let n = ap one u in omega (arith, n, rest)

    by : (b : Bool) → test x ≡ b → total (map (λ y. one (test y)) xs) ≤ one (list_any test xs)
        → one (test x) + total (map (λ y. one (test y)) xs) ≤ one (test x || list_any test xs)
    by true t rest =
        let none = nobody t xs (λ y i. i) in
        let n = ap one t in
        let m = ap (λ b. one (b || list_any test xs)) t in
        omega (arith, none, n, m)
    by false t rest =
        let n = ap one t in
        let m = ap (λ b. one (b || list_any test xs)) t in
        omega (arith, rest, n, m)

abbrev count : (ℕ → Bool) → List ℕ → ℕ
count test ys = length (filter test ys)

count_more : (test : ℕ → Bool) (y : ℕ) (ys : List ℕ) → count test (y ∷ ys) ≡ one (test y) + count test ys
count_more test y ys = by (test y)
  where
    by : (b : Bool) → length (if b then y ∷ filter test ys else filter test ys) ≡ one b + length (filter test ys)
    by true = omega arith
    by false = omega arith

totals_more : (f : ℕ → ℕ → Bool) (y : ℕ) (ys xs : List ℕ)
    → total (map (λ x. count (f x) (y ∷ ys)) xs) ≡ total (map (λ x. one (f x y)) xs) + total (map (λ x. count
    (f x) ys) xs)
totals_more f y ys [] = omega arith
totals_more f y ys (x ∷ xs) =
    let a = count_more (f x) y ys in
    let b = totals_more f y ys xs in
    omega (arith, a, b)

nothing_counted : (f : ℕ → ℕ → Bool) (xs : List ℕ) → total (map (λ x. count (f x) []) xs) ≡ 0
nothing_counted f [] = refl
nothing_counted f (x ∷ xs) = let a = nothing_counted f xs in omega (arith, a)

-- counted one by one
counted : (f : ℕ → ℕ → Bool) (g t : ℕ → Bool) (xs ys : List ℕ)
    → ((y : ℕ) → total (map (λ x. one (f x y)) xs) + one (g y) ≤ one (t y))
    → total (map (λ x. count (f x) ys) xs) + count g ys ≤ count t ys
counted f g t xs [] each = let a = nothing_counted f xs in omega (arith, a)
counted f g t xs (y ∷ ys) each =
    let a = totals_more f y ys xs in
    let b = count_more g y ys in
    let c = count_more t y ys in
    let e = each y in
    let r = counted f g t xs ys each in
    omega (arith, a, b, c, e, r)

all_twice : (f g : ℕ → ℕ) (xs : List ℕ) → ((x : ℕ) → In x xs → f x ≤ g x + g x)
    → total (map f xs) ≤ total (map g xs) + total (map g xs)
all_twice f g [] each = omega arith
all_twice f g (x ∷ xs) each =
    let a = each x (inl refl) in
    let b = all_twice f g xs (λ y i. each y (inr i)) in
    omega (arith, a, b)

module _ (h : Hierarchy) (tree : IsTree h) where
  each_once : (k d y : ℕ)
      → total (map (λ x. one (under h k x y)) (children_of h d)) + one (y == d) ≤ one (under h (suc k) d y)
  each_once k d y = by (y == d) refl
    where
      most : total (map (λ x. one (under h k x y)) (children_of h d)) ≤ one (list_any (λ x. under h k x y)
          (children_of h d))
      most = once (λ x. under h k x y) (children_of h d) (ascends_numbers _ h.domains 1)
          (λ x z i j s t. one_way h tree k k x z y d (child_of h d x i) (child_of h d z j) s t)

      by : (b : Bool) → (y == d) ≡ b → total (map (λ x. one (under h k x y)) (children_of h d)) + one b
          ≤ one (b || list_any (λ x. under h k x y) (children_of h d))
      by true t =
          let is = eqb-true y d t in
          let none = all_none (λ x. under h k x y) (children_of h d) (λ x i. elim (either (under h k x y)) [
            | inl u ↦
                let le = under_le h tree k x y u in
                let less = above h tree x d i in
                absurd (omega (arith, is, le, less))
            | inr f ↦ f
          ]) in
          omega (arith, none)
      by false t = omega (arith, most)

  -- a domain of the tree is counted
  itself : (d : ℕ) → has_domain h d ≡ true → 1 ≤ count (λ y. y == d) (domains_of h)
  itself d there =
      let within = is_within 1 (domain_count h) d there in
      some_there d (filter (λ y. y == d) (domains_of h))
      (in_kept (λ y. y == d) d (domains_of h) (in_range d 1 (domain_count h) within.least (omega (arith, within.most)))
      (number_self d))

  -- twice for each domain at or below this one
  twice_each : (k d : ℕ) → has_domain h d ≡ true
      → passes h k d ≤ count (under h k d) (domains_of h) + count (under h k d) (domains_of h)
  twice_each zero d there = omega arith
  twice_each (suc k) d there =
      let a = counted (λ x y. under h k x y) (λ y. y == d) (under h (suc k) d) (children_of h d) (domains_of h)
      (each_once k d) in
      let b = itself d there in
      let c = all_twice (passes h k) (λ x. count (under h k x) (domains_of h)) (children_of h d)
      (λ x i. twice_each k x (x_there x i)) in
      omega (arith, a, b, c)
    where
      x_there : (x : ℕ) → In x (children_of h d) → has_domain h x ≡ true
      x_there x i =
          let w = (child_there h tree x d (parent_is h d x i)).0 in between 1 (domain_count h) x w.least w.most

  counted_most : (k d : ℕ) → count (under h k d) (domains_of h) ≤ domain_count h
  counted_most k d =
      let a = kept_most (under h k d) (domains_of h) in
      let b = range_length 1 (domain_count h) in
      omega (arith, a, b)

  -- no more than twice for each domain of the tree
  pub passes_most : (k d : ℕ) → passes h k d ≤ 2 * domain_count h
  passes_most k d = elim (either (has_domain h d)) [
    | inl there ↦ let a = twice_each k d there in let b = counted_most k d in omega (arith, a, b)
    | inr away ↦ alone k (children_of h d) refl away
  ]
    where
      alone : (j : ℕ) (xs : List ℕ) → children_of h d ≡ xs → has_domain h d ≡ false → passes h j d ≤ 2 * domain_count h
      alone zero xs is away = omega arith
      alone (suc j) [] is away =
          let none : total (map (passes h j) (children_of h d)) ≡ 0 = ap (λ zs. total (map (passes h j) zs)) is in
          let some = tree.domains in
          omega (arith, none, some)
      alone (suc j) (x ∷ xs) is away =
          let i : In x (children_of h d) = subst (In x) (sym is) (inl refl) in
          let w = (child_there h tree x d (parent_is h d x i)).1 in
          absurd (let wrong : true ≡ false = sym (between 1 (domain_count h) d w.least w.most) ∙ away in cc)
