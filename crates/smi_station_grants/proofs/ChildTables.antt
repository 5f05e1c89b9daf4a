-- What a command makes of the tables, child by child.
use Rattle.std.proofs.Common.{◌≡◌, ℕ, ◌+◌, ◌-◌, ◌<◌, ◌≤◌, Bool, true, false, List, [], length, get_or, take, Option}
use Rattle.std.proofs.Common.{Some, None, refl, sym, ap, ◌∙◌, arith}
use Rattle.std.proofs.Math.ListN.{set}
use Rattle.std.specs.Prelude.{◌==◌, ◌&&◌, ◌||◌, if◌then◌else◌, option_and_then}
use Rattle.std.specs.Option.{option_map_or}
use Rattle.std.proofs.lemmas.Bool.{eqb-true, false≢true}
use Rattle.std.proofs.lemmas.Bool.Decides.{nat_tests}
use Rattle.std.proofs.lemmas.List.Folds.{list_any_more}
use mathlib.Core.Path.{fun_ext}
use Rattle.smi_grant.specs.declared.Command.{Command}
use Rattle.smi_grant.specs.Holder.{same_holder}
use Rattle.smi_protocol.specs.Keeping.{commanded}
use Rattle.smi_protocol.specs.Children.{change_of, link_after, mode_after}
use Rattle.smi_station_grants.proofs.Among.{among_children}
use Rattle.smi_grant.specs.declared.Holder.{Holder}
use Rattle.smi_grant.specs.declared.Holder.TheVariants.{Free, Operator, Domain}
use Rattle.smi_command.specs.declared.Link.{Link}
use Rattle.smi_command.specs.declared.Link.TheVariants.{Out}
use Rattle.smi_tree.specs.Hierarchy.{Hierarchy, entry}
use Rattle.smi_tree.specs.Lawful.{IsTree, IsBetween}
use Rattle.smi_tree.specs.declared.row.Domain as row_of
use Rattle.smi_tree.specs.Lookups.{parent_of, children_of, domain_count}
use Rattle.smi_tree.specs.Roles.{is_number, is_parent}
use Rattle.smi_rows.specs.declared.Mode.{Mode}
use Rattle.smi_rows.specs.declared.Mode.TheVariants.{Included}
use Rattle.smi_protocol.specs.Grants.{Grants, put, put_link}
use Rattle.smi_station_grants.specs.GrantTable.{Kept, link_in, grants_of}
use Rattle.smi_station_grants.specs.Entries.{entry_or}
use Rattle.smi_station_grants.specs.Children.{with_child, is_among, commanded_among, commanded_child}
use Rattle.smi_station_grants.proofs.Writes.{entry_set, table_set, in_list}

-- a domain has one parent
one_parent : (o : Option ℕ) (p d : ℕ) → is_number o d ≡ true → is_number o p ≡ (p == d)
one_parent None p d is = absurd (false≢true is)
one_parent (Some m) p d is =
    let same : m ≡ d = eqb-true m d is in
    rw same (grind (arith, nat_tests))

-- another link and mode of a child
pub child_put : (k : Kept) (d x : ℕ) (l : Link) (m : Mode) → is_parent k.tree x d ≡ true → 1 ≤ x
    → x ≤ length k.child_links → x ≤ length k.modes
    → grants_of (record k { child_links = set k.child_links (x - 1) l; modes = set k.modes (x - 1) m })
    ≡ with_child (grants_of k) d x l m
child_put k d x l m parent least most mode_most =
    ap (λ (t : Holder → ℕ → Link). record (grants_of k) {
      links = t;
      modes = λ y. entry_or (set k.modes (x - 1) m) y Included;
    }) (fun_ext (λ who. fun_ext (λ y. at who y)))
    ∙ ap (λ (t : ℕ → Mode). record (grants_of k) { links = put_link (link_in k) (Domain d) x l; modes = t })
    (table_set k.modes x m Included least mode_most)
  where
    other_kind : (y : ℕ) (a : Link) → a ≡ (if y == x && false then l else a)
    other_kind y a = elim (y == x) as (λ b. a ≡ (if b && false then l else a)) [ true ↦ refl | false ↦ refl ]

    here : (own : Bool) → (if own then l else Out 0)
        ≡ (if true && own then l else (if own then entry_or k.child_links x (Out 0) else Out 0))
    here true = refl
    here false = refl

    by_child : (p y : ℕ) (same : Bool) → (y == x) ≡ same
        → (if is_parent k.tree y p then (if same then l else entry_or k.child_links y (Out 0)) else Out 0)
        ≡ (if same && (p == d) then l else (if is_parent k.tree y p then entry_or k.child_links y (Out 0) else Out 0))
    by_child p y true is =
        let that : y ≡ x = eqb-true y x is in
        let one : is_parent k.tree x p ≡ (p == d) = one_parent (parent_of k.tree x) p d parent in
        rw (that, one) (here (p == d))
    by_child p y false is = refl

    at : (who : Holder) (y : ℕ)
        → link_in (record k { child_links = set k.child_links (x - 1) l; modes = set k.modes (x - 1) m }) who y
        ≡ put_link (link_in k) (Domain d) x l who y
    at Free y = other_kind y (Out 0)
    at (Operator o) y = other_kind y (link_in k (Operator o) y)
    at (Domain p) y = rw (entry_set k.child_links x y l (Out 0) least most) (by_child p y (y == x) refl)

-- One child more.

pick : {X : Type 0} (same here s : Bool) (new old made : X) → (same ≡ true → new ≡ made)
    → (if same && s then new else (if here && s then made else old)) ≡ (if (here || same) && s then made else old)
pick true true true new old made is = is refl
pick true true false new old made is = refl
pick true false true new old made is = is refl
pick true false false new old made is = refl
pick false true true new old made is = refl
pick false true false new old made is = refl
pick false false true new old made is = refl
pick false false false new old made is = refl

flip : (x y : ℕ) → (x == y) ≡ (y == x)
flip x y = grind (arith, nat_tests)

abbrev link_made : Hierarchy → Grants → ℕ → Command → ℕ → Link
link_made h g d c y = link_after (change_of h g d c y) (g.links (Domain d) y)

abbrev mode_made : Hierarchy → Grants → ℕ → Command → ℕ → Mode
mode_made h g d c y = mode_after (change_of h g d c y) (g.modes y)

plain : (same here : Bool) (new old made : Mode) → (same ≡ true → new ≡ made)
    → (if same then new else (if here then made else old)) ≡ (if here || same then made else old)
plain true true new old made e = e refl
plain true false new old made e = e refl
plain false true new old made e = refl
plain false false new old made e = refl

pub one_more : (h : Hierarchy) (g : Grants) (d : ℕ) (c : Command) (xs : List ℕ) (i x : ℕ) → i < length xs
    → x ≡ get_or xs i x → is_among (take i xs) x ≡ false
    → commanded_child h (commanded_among h g d c (take i xs)) d c x ≡ commanded_among h g d c (take (i + 1) xs)
one_more h g d c xs i x within is fresh =
    first ∙ ap (λ (t : Holder → ℕ → Link). record
    g { links = t; modes = put (commanded_among h g d c (take i xs)).modes x (mode_made h g d c x) })
    (fun_ext (λ who. fun_ext (λ y. at who y)))
    ∙ ap (λ (t : ℕ → Mode). record g { links = (commanded_among h g d c (take (i + 1) xs)).links; modes = t })
    (fun_ext (λ y. in_mode y))
  where
    first : commanded_child h (commanded_among h g d c (take i xs)) d c x
        ≡ with_child (commanded_among h g d c (take i xs)) d x (link_made h g d c x) (mode_made h g d c x)
    first = rw fresh refl

    more : (y : ℕ) → is_among (take (i + 1) xs) y ≡ (is_among (take i xs) y || (y == x))
    more y = list_any_more (λ z. z == y) xs i x within ∙ ap (λ z. is_among (take i xs) y || (z == y)) (sym is)
        ∙ ap (λ b. is_among (take i xs) y || b) (flip x y)

    at : (who : Holder) (y : ℕ) → put_link (commanded_among h g d c (take i xs)).links (Domain d) x
        (link_made h g d c x) who y ≡ (commanded_among h g d c (take (i + 1) xs)).links who y
    at who y = rw (more y) (pick (y == x) (is_among (take i xs) y) (same_holder who (Domain d)) (link_made h g d c x)
        (g.links who y) (link_made h g d c y) (λ e. ap (link_made h g d c) (sym (eqb-true y x e))))

    in_mode : (y : ℕ) → put (commanded_among h g d c (take i xs)).modes x (mode_made h g d c x) y
        ≡ (commanded_among h g d c (take (i + 1) xs)).modes y
    in_mode y = rw (more y) (plain (y == x) (is_among (take i xs) y) (mode_made h g d c x) (g.modes y)
        (mode_made h g d c y) (λ e. ap (mode_made h g d c) (sym (eqb-true y x e))))

-- all children
pub all_commanded : (h : Hierarchy) (g : Grants) (d : ℕ) (c : Command)
    → commanded_among h g d c (children_of h d) ≡ commanded h g d c
all_commanded h g d c =
    ap (λ (t : ℕ → Bool). record g {
      links = λ who x. if t x && same_holder who (Domain d)
          then link_after (change_of h g d c x) (g.links (Domain d) x) else g.links who x;
      modes = λ x. if t x then mode_after (change_of h g d c x) (g.modes x) else g.modes x;
    }) (fun_ext (λ x. among_children h d x))

-- none yet
pub none_commanded : (h : Hierarchy) (g : Grants) (d : ℕ) (c : Command) → g ≡ commanded_among h g d c []
none_commanded h g d c = refl

-- a child is a domain of the tree
pub child_inside : (h : Hierarchy) (x d : ℕ) → IsTree h → is_parent h x d ≡ true → IsBetween 1 (domain_count h) x
child_inside h x d tree parent = go (entry h.domains x) refl parent
  where
    go : (o : Option row_of.Domain) → entry h.domains x ≡ o
        → option_map_or (λ m. m == d) (option_and_then (λ row. row.parent) o) false ≡ true
        → IsBetween 1 (domain_count h) x
    go None e p = absurd (false≢true p)
    go (Some row) e p =
        let inside = in_list (λ r. true) h.domains x (entry h.domains x) refl (rw e refl) in
        record { least = inside.least; most = omega (arith, inside.most, tree.lawful.domains.rows) }
