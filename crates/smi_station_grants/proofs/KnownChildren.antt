-- What is known of the children of a command.
use Rattle.std.proofs.Common.{◌≡◌, ◌<◌, ◌+◌, ℕ, suc, List, [], ◌∷◌, Bool, true, false, Option, Some, None, length}
use Rattle.std.proofs.Common.{get_or, map, drop, refl, sym, ap, ◌∙◌, arith}
use Rattle.std.specs.Prelude.{◌==◌, ◌||◌, ◌&&◌, All, if◌then◌else◌, max, option_map, cond}
use Rattle.std.specs.List.{find, list_any}
use Rattle.std.proofs.lemmas.Bool.{eqb-true, eq-eqb}
use Rattle.std.proofs.Math.Bool.{or_assoc}
use Rattle.std.proofs.lemmas.List.{drop_more}
use Rattle.std.proofs.lemmas.Option.{none-some, same_Some}
use Rattle.smi_grant.specs.declared.Command.{Command}
use Rattle.smi_grant.specs.declared.Holder.TheVariants.{Domain}
use Rattle.smi_command.specs.Link.{is_unsettled}
use Rattle.smi_tree.specs.Hierarchy.{Hierarchy}
use Rattle.smi_tree.specs.Lookups.{children_of}
use Rattle.smi_tree.specs.Roles.{is_parent}
use Rattle.smi_protocol.specs.Grants.{Grants}
use Rattle.smi_protocol.specs.GrantStep.{waits_for_children}
use Rattle.smi_protocol.specs.Keeping.{commanded}
use Rattle.smi_protocol.specs.Children as spec
use Rattle.smi_protocol.specs.Children.{change_of, largest, link_after, mode_after}
use Rattle.smi_station_grants.specs.Children.{is_among, commanded_among, meant}
use Rattle.smi_station_grants.specs.Commanded.{AreSo, IsSo, change_for}
use Rattle.smi_station_grants.specs.declared.commanded.ChildChange.{ChildChange}
use Rattle.smi_station_grants.specs.declared.commanded.CommandedChild.{CommandedChild}
use Rattle.smi_command.specs.declared.Link.{Link}
use Rattle.smi_rows.specs.declared.Mode.{Mode}
use Rattle.smi_station_grants.proofs.Among.{among_children, at_among}

-- a child is as before while others are commanded
pub not_yet : (h : Hierarchy) (g : Grants) (d : ℕ) (c : Command) (xs : List ℕ) (x : ℕ) → is_among xs x ≡ false
    → change_of h g d c x ≡ change_of h (commanded_among h g d c xs) d c x
not_yet h g d c xs x fresh = rw fresh refl

-- a test that is the same at each number
same_tests : (p q : ℕ → Bool) (xs : List ℕ) → ((k : ℕ) (e : ℕ) → k < length xs → p (get_or xs k e) ≡ q (get_or xs k e))
    → list_any p xs ≡ list_any q xs
same_tests p q [] same = refl
same_tests p q (x ∷ xs) same =
    ap (λ b. b || list_any p xs) (same 0 x (omega arith))
    ∙ ap (λ b. q x || b) (same_tests p q xs (λ k e within. same (suc k) e (omega (arith, within))))

-- a mode and a link after what is known, if anything
abbrev pub mode_by : Option ChildChange → Mode → Mode
mode_by None m = m
mode_by (Some z) m = mode_after (meant z) m

abbrev pub link_by : Option ChildChange → Link → Link
link_by None l = l
link_by (Some z) l = link_after (meant z) l

-- One more of a list is looked at.

pub any_more : (p : ℕ → Bool) (xs : List ℕ) (i : ℕ) (b : Bool) → i < length xs
    → ((b || p (get_or xs i 0)) || list_any p (drop (i + 1) xs)) ≡ (b || list_any p (drop i xs))
any_more p xs i b within = or_assoc b (p (get_or xs i 0)) (list_any p (drop (i + 1) xs))
    ∙ ap (λ ys. b || list_any p ys) (sym (drop_more xs i 0 within))

three : (a b c : ℕ) → max (max a b) c ≡ max a (max b c)
three a b c = omega arith

pub largest_more : (f : ℕ → ℕ) (xs : List ℕ) (i m : ℕ) → i < length xs
    → max (max m (f (get_or xs i 0))) (largest (map f (drop (i + 1) xs))) ≡ max m (largest (map f (drop i xs)))
largest_more f xs i m within = three m (f (get_or xs i 0)) (largest (map f (drop (i + 1) xs)))
    ∙ ap (λ ys. max m (largest (map f ys))) (sym (drop_more xs i 0 within))

module _ (h : Hierarchy) (g : Grants) (d : ℕ) (c : Command) where
  -- what comes of each child, by what is known of it
  each_of : {X : Type 0} (F : ℕ → spec.ChildChange → X) (xs : List CommandedChild) → All (IsSo h g d c) xs
      → map (λ x. F x.child (meant x.change)) xs
      ≡ map (λ y. F y (change_of h g d c y)) (map (λ (x : CommandedChild). x.child) xs)
  each_of F [] all = refl
  each_of F (x ∷ xs) all =
      ap (λ z. F x.child z ∷ map (λ (y : CommandedChild). F y.child (meant y.change)) xs) (all 0 x (omega arith))
      ∙ ap (λ zs. F x.child (change_of h g d c x.child) ∷ zs)
      (each_of F xs (λ k y within. all (suc k) y (omega (arith, within))))

  pub each_child : {X : Type 0} (F : ℕ → spec.ChildChange → X) (xs : List CommandedChild) → AreSo h g d c xs
      → map (λ x. F x.child (meant x.change)) xs ≡ map (λ y. F y (change_of h g d c y)) (children_of h d)
  each_child F xs so = each_of F xs so.each ∙ ap (map (λ y. F y (change_of h g d c y))) so.children

  -- what is known of a child
  pub known_at : (xs : List CommandedChild) (x : ℕ) → AreSo h g d c xs
      → option_map meant (change_for xs x) ≡ (if is_parent h x d then Some (change_of h g d c x) else None)
  known_at xs x so = go xs so.each
      ∙ ap (λ (b : Bool). if b then Some (change_of h g d c x) else None)
      (ap (λ ys. is_among ys x) so.children ∙ among_children h d x)
    where
      go : (ys : List CommandedChild) → All (IsSo h g d c) ys → option_map meant (change_for ys x)
          ≡ (if is_among (map (λ (y : CommandedChild). y.child) ys) x then Some (change_of h g d c x) else None)
      go [] all = refl
      go (y ∷ ys) all = by (go ys (λ k z within. all (suc k) z (omega (arith, within)))) (y.child == x) refl
        where
          by : option_map meant (change_for ys x)
              ≡ (if is_among (map (λ (z : CommandedChild). z.child) ys) x then Some (change_of h g d c x) else None)
              → (b : Bool) → (y.child == x) ≡ b
              → option_map meant (option_map (λ (z : CommandedChild). z.change)
              (cond b (Some y) (find (λ (z : CommandedChild). z.child == x) ys)))
              ≡ (if b || is_among (map (λ (z : CommandedChild). z.child) ys) x then Some (change_of h g d c x)
              else None)
          by rest true e = ap Some (all 0 y (omega arith) ∙ ap (change_of h g d c) (eqb-true y.child x e))
          by rest false e = rest

  -- whether a child has to answer
  pub answers_at : (y : ℕ) → is_parent h y d ≡ true
      → is_unsettled (link_after (change_of h g d c y) (g.links (Domain d) y))
      ≡ is_unsettled ((commanded h g d c).links (Domain d) y)
  answers_at y child = rw (child, eq-eqb d d refl) refl

  -- whether one of them has
  pub answer_known : list_any (λ y. is_unsettled (link_after (change_of h g d c y) (g.links (Domain d) y)))
      (children_of h d)
      ≡ waits_for_children h (commanded h g d c) d
  answer_known = same_tests (λ y. is_unsettled (link_after (change_of h g d c y) (g.links (Domain d) y)))
      (λ y. is_unsettled ((commanded h g d c).links (Domain d) y)) (children_of h d)
      (λ k e within. answers_at (get_or (children_of h d) k e)
      (sym (among_children h d (get_or (children_of h d) k e)) ∙ at_among (children_of h d) k e within))

  -- the mode of a child after what is known of it, and of any other domain as it was
  pub mode_known : (xs : List CommandedChild) (x : ℕ) → AreSo h g d c xs → (o : Option ChildChange)
      → o ≡ change_for xs x → mode_by o (g.modes x) ≡ (commanded h g d c).modes x
  mode_known xs x so o is = by (is_parent h x d) o (ap (option_map meant) is ∙ known_at xs x so)
    where
      by : (b : Bool) (o : Option ChildChange)
          → option_map meant o ≡ (if b then Some (change_of h g d c x) else None)
          → mode_by o (g.modes x) ≡ (if b then mode_after (change_of h g d c x) (g.modes x) else g.modes x)
      by true None e = absurd (none-some (change_of h g d c x) e)
      by true (Some z) e = ap (λ y. mode_after y (g.modes x)) (same_Some (meant z) (change_of h g d c x) e)
      by false None e = refl
      by false (Some z) e = absurd (none-some (meant z) (sym e))

  -- and the domain's link to it
  pub link_known : (xs : List CommandedChild) (x : ℕ) → AreSo h g d c xs → (o : Option ChildChange)
      → o ≡ change_for xs x → link_by o (g.links (Domain d) x) ≡ (commanded h g d c).links (Domain d) x
  link_known xs x so o is =
      by (is_parent h x d) o (ap (option_map meant) is ∙ known_at xs x so)
      ∙ ap (λ own. if is_parent h x d && own then link_after (change_of h g d c x) (g.links (Domain d) x)
      else g.links (Domain d) x) (sym (eq-eqb d d refl))
    where
      by : (b : Bool) (o : Option ChildChange)
          → option_map meant o ≡ (if b then Some (change_of h g d c x) else None)
          → link_by o (g.links (Domain d) x)
          ≡ (if b && true then link_after (change_of h g d c x) (g.links (Domain d) x) else g.links (Domain d) x)
      by true None e = absurd (none-some (change_of h g d c x) e)
      by true (Some z) e = ap (λ y. link_after y (g.links (Domain d) x)) (same_Some (meant z) (change_of h g d c x) e)
      by false None e = refl
      by false (Some z) e = absurd (none-some (meant z) (sym e))
