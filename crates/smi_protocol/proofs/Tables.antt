-- Tables with another value at one number, and the rows of a tree by number.
use Rattle.std.proofs.Common.{ℕ, zero, suc, refl, sym, ap, ◌∙◌, ◌≡◌, ◌+◌, ◌-◌, Bool, true, false, List, [], ◌∷◌, ◌⊎◌}
use Rattle.std.proofs.Common.{inl, inr, Option, Some, None, subst, arith}
use Rattle.std.specs.Prelude.{◌==◌, ◌&&◌, ◌||◌, if◌then◌else◌, slice_get, option_and_then}
use Rattle.std.specs.Option.{option_map_or}
use Rattle.std.specs.List.{list_any}
use Rattle.std.proofs.lemmas.Bool.{and_parts, eqb-true}
use Rattle.std.proofs.lemmas.Bool.Decides.{nat_tests}
use Rattle.smi_grant.specs.declared.Holder.{Holder}
use Rattle.smi_grant.specs.Holder.{same_holder}
use Rattle.smi_command.specs.declared.Link.{Link}
use Rattle.smi_grant.proofs.Holders.{either, same_is, same_self}
use Rattle.smi_tree.specs.declared.row.Domain.{Domain as DomainRow}
use Rattle.smi_tree.specs.Hierarchy.{Hierarchy, entry, is_child_of}
use Rattle.smi_tree.specs.Lookups.{children_of, operators_of, operator_station_of, parent_of}
use Rattle.smi_tree.specs.Roles.{is_number, is_parent}
use Rattle.smi_protocol.specs.Grants.{put, put_link}
use Rattle.smi_protocol.proofs.Lists.{In, in_numbers, from_numbers}

-- two numbers are one, or are not
pub apart : (m n : ℕ) → (m ≡ n) ⊎ (m ≡ n → ⊥)
apart m n = grind arith

-- what holds of both holds of the one that a test chooses
pub choice : {X : Type 0} (P : X → Type 0) (b : Bool) (one other : X) → P one → P other → P (if b then one else other)
choice P true a b p q = p
choice P false a b p q = q

-- a number is itself by the test
pub number_self : (n : ℕ) → (n == n) ≡ true
number_self n = grind (arith, nat_tests)

-- what holds of each value holds of a table with another value at one number
pub at_put : {X : Type 0} (P : X → Type 0) (table : ℕ → X) (x : ℕ) (v : X) (d : ℕ) → (d ≡ x → P v) → P (table d)
    → P (put table x v d)
at_put P table x v d here other = elim (either (d == x)) [ inl t ↦ rw t (here (eqb-true d x t)) | inr f ↦ rw f other ]

pub at_put_link : (P : Link → Type 0) (links : Holder → ℕ → Link) (who : Holder) (x : ℕ) (l : Link) (me : Holder)
    (d : ℕ) → (d ≡ x → me ≡ who → P l) → P (links me d) → P (put_link links who x l me d)
at_put_link P links who x l me d here other = elim (either (d == x && same_holder me who)) [
  | inl t ↦ let a = and_parts (d == x) _ t in rw t (here (eqb-true d x a.0) (same_is me who a.1))
  | inr f ↦ rw f other
]

pub put_link_here : (links : Holder → ℕ → Link) (who : Holder) (x : ℕ) (l : Link) → put_link links who x l who x ≡ l
put_link_here links who x l = rw (number_self x) (rw (same_self who) refl)

pub put_here : {X : Type 0} (table : ℕ → X) (n : ℕ) (v : X) → put table n v n ≡ v
put_here table n v = rw (number_self n) refl

pub put_there : {X : Type 0} (table : ℕ → X) (n : ℕ) (v : X) (other : ℕ) → (other ≡ n → ⊥)
    → put table n v other ≡ table other
put_there table n v other o = elim (either (other == n))
    [ inl t ↦ absurd (o (eqb-true other n t)) | inr f ↦ ap (λ b. if b then v else table other) f ]

pub entry_of : {X : Type 0} (rows : List X) (i : ℕ) (row : X) → slice_get rows i ≡ Some row
    → entry rows (i + 1) ≡ Some row
entry_of rows i row is = rw (later i) (ap (slice_get rows) (back i) ∙ is)
  where
    later : (j : ℕ) → (j + 1 == 0) ≡ false
    later j = grind (arith, nat_tests)

    back : (j : ℕ) → j + 1 - 1 ≡ j
    back j = omega arith

-- the operators of a station, and the children of a domain
pub operator_ours : (h : Hierarchy) (number o : ℕ) → In o (operators_of h number)
    → operator_station_of h o ≡ Some number
operator_ours h number o a =
    let b = from_numbers (λ home. home == number) h.homes 1 o a in
    ap (entry h.homes) b.4 ∙ entry_of h.homes b.0 b.1 b.2 ∙ ap Some (eqb-true b.1 number b.3)

pub child_of : (h : Hierarchy) (d x : ℕ) → In x (children_of h d) → parent_of h x ≡ Some d
child_of h d x a =
    let b = from_numbers (is_child_of d) h.domains 1 x a in
    ap (λ o. option_and_then (λ (row : DomainRow). row.parent) o)
    (ap (entry h.domains) b.4 ∙ entry_of h.domains b.0 b.1 b.2) ∙ above b.1.parent b.3
  where
    above : (o : Option ℕ) → option_map_or (λ p. p == d) o false ≡ true → o ≡ Some d
    above None i = absurd cc
    above (Some p) i = ap Some (eqb-true p d i)

pub number_is : (o : Option ℕ) (n : ℕ) → is_number o n ≡ true → o ≡ Some n
number_is None n i = absurd cc
number_is (Some m) n i = ap Some (eqb-true m n i)

-- a domain has one parent
pub one_parent : (h : Hierarchy) (x a b : ℕ) → is_parent h x a ≡ true → is_parent h x b ≡ true → a ≡ b
one_parent h x a b i j = let same : Some a ≡ Some b = sym (number_is (parent_of h x) a i)
    ∙ number_is (parent_of h x) b j in cc

-- a domain is among the children of its parent
pub child_in : (h : Hierarchy) (d x : ℕ) → is_parent h x d ≡ true → In x (children_of h d)
child_in h d zero t = absurd cc
child_in h d (suc n) t = by (slice_get h.domains n) refl (rw (positive n) at t)
  where
    positive : (n : ℕ) → (suc n == 0) ≡ false
    positive n = grind (arith, nat_tests)

    by : (o : Option DomainRow) → slice_get h.domains n ≡ o
        → option_map_or (λ m. m == d) (option_and_then (λ (row : DomainRow). row.parent)
        (slice_get h.domains (suc n - 1))) false ≡ true → In (suc n) (children_of h d)
    by None at i =
        absurd (let wrong
        : false ≡ true =
        sym (ap (λ z. option_map_or (λ m. m == d) (option_and_then (λ (row : DomainRow). row.parent) z) false)
        (ap (slice_get h.domains) (back n) ∙ at)) ∙ i in cc)
      where
        back : (n : ℕ) → suc n - 1 ≡ n
        back n = omega arith
    by (Some row) at i = subst (λ z. In z (children_of h d)) (next n)
        (in_numbers (is_child_of d) h.domains 1 n row at
        (sym (ap (λ z. option_map_or (λ m. m == d) (option_and_then (λ (row : DomainRow). row.parent) z) false)
        (ap (slice_get h.domains) (back n) ∙ at)) ∙ i))
      where
        back : (n : ℕ) → suc n - 1 ≡ n
        back n = omega arith

        next : (n : ℕ) → n + 1 ≡ suc n
        next n = omega arith

-- and a child's parent is known by the test
pub parent_is : (h : Hierarchy) (d x : ℕ) → In x (children_of h d) → is_parent h x d ≡ true
parent_is h d x a = ap (λ o. is_number o d) (child_of h d x a) ∙ number_self d

-- what no child passes a given child does not pass
pub none_passes : (test : ℕ → Bool) (xs : List ℕ) (x : ℕ) → list_any test xs ≡ false → In x xs → test x ≡ false
none_passes test [] x none a = absurd a
none_passes test (y ∷ xs) x none a = by (test y) refl none a (λ n i. none_passes test xs x n i)
  where
    by : (b : Bool) → test y ≡ b → (b || list_any test xs) ≡ false → In x (y ∷ xs)
        → (list_any test xs ≡ false → In x xs → test x ≡ false) → test x ≡ false
    by true is n i rest = absurd cc
    by false is n (inl same) rest = ap test same ∙ is
    by false is n (inr i) rest = rest n i
