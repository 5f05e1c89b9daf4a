use Rattle.std.proofs.Common.{◌≡◌, ◌<◌, ℕ, List, true, false, take, length, map, get_or, ap, sym, subst, ◌∙◌}
use Rattle.std.proofs.Common.{arith}
use Rattle.std.proofs.lemmas.List.{get_or-map, length-map, take_all}
use Rattle.std.proofs.lemmas.List.Elements.{All-get_or}
use Rattle.smi_tree.specs.Hierarchy.{Hierarchy}
use Rattle.smi_tree.specs.Lookups.{children_of}
use Rattle.smi_protocol.specs.Children.{change_of}
use Rattle.smi_protocol.specs.Grants.{Grants}
use Rattle.smi_station_grants.specs.GrantTable.{grants_of}
use Rattle.smi_station_grants.specs.Children.{is_among, commanded_among, commanded_child}
use Rattle.smi_station_grants.specs.Commanded.{IsSo}
use Rattle.smi_station_grants.specs.declared.commanded.CommandedChild.{CommandedChild}
use Rattle.smi_station_grants.proofs.Among.{among_children, at_among, fresh_child}
use Rattle.smi_station_grants.proofs.ChildTables.{one_more, all_commanded}
use Rattle.smi_station_grants.proofs.KnownChildren.{not_yet}
use Rattle.smi_station_grants.proofs.grant_table.GrantTable.command_children.Goals as goal

abbrev child_of : CommandedChild → ℕ
child_of y = y.child

-- a child at its place in the list of all, if it is there for the first time
record Place (h : Hierarchy) (d : ℕ) (xs : List ℕ) (i x : ℕ) : Type 0 where
  listed : xs ≡ children_of h d
  within : i < length xs
  this : (e : ℕ) → get_or xs i e ≡ x
  fresh : is_among (take i xs) x ≡ false

place_of : (h : Hierarchy) (d : ℕ) (known items : List CommandedChild) (i : ℕ) (one : CommandedChild)
    → map child_of known ≡ children_of h d → items ≡ known → i < length items → one ≡ get_or items i one
    → Place h d (map child_of items) i one.child
place_of h d known items i one children is within at =
    let listed : map child_of items ≡ children_of h d = ap (map child_of) is ∙ children in
    let inside : i < length (map child_of items) = omega (arith, length-map items child_of, within) in
    let this : (e : ℕ) → get_or (map child_of items) i e ≡ one.child =
    λ e. get_or-map child_of items i one e within ∙ ap child_of (sym at) in
    record {
      listed = listed;
      within = inside;
      this = this;
      fresh =
          subst (λ x. is_among (take i (map child_of items)) x ≡ false) (this 0)
          (subst (λ (ys : List ℕ). is_among (take i ys) (get_or ys i 0) ≡ false) (sym listed)
          (fresh_child h d i 0 (subst (λ (ys : List ℕ). i < length ys) listed inside)));
    }

pub command_child-requires : goal.command_child-requires
command_child-requires c =
    let h = c.args.self.now.tree in
    let g = grants_of c.args.self.now in
    let d = c.args.domain in
    let items = c.as_slice-one-items.result.now in
    let i = c.loop-one.one-index in
    let one = c.one-item.result in
    let inv = c.loop-one.invariant in
    let at = place_of h d c.args.known.now items i one c.requires.so.children c.as_slice-one-items.ensures
    c.loop-one-test.true c.one-item.is in
    let there : is_among (map child_of items) one.child ≡ true =
    subst (λ x. is_among (map child_of items) x ≡ true) (at.this 0) (at_among (map child_of items) i 0 at.within) in
    let so : IsSo h g d c.args.command one =
    subst (IsSo h g d c.args.command) (sym c.one-item.is)
    (All-get_or (IsSo h g d c.args.command) items i one c.loop-one-test.true
    (subst (λ (ys : List CommandedChild). (k : ℕ) (e : CommandedChild) → k < length ys
    → IsSo h g d c.args.command (get_or ys k e)) (sym c.as_slice-one-items.ensures) c.requires.so.each)) in
    record {
      parent = rw inv.tree
          (sym (among_children h d one.child) ∙ ap (λ (ys : List ℕ). is_among ys one.child) (sym at.listed) ∙ there);
      change =
          so
          ∙ not_yet h g d c.args.command (take i (map child_of items)) one.child at.fresh
          ∙ ap (λ (k : Grants). change_of h k d c.args.command one.child) (sym inv.grants)
          ∙ ap (λ (t : Hierarchy). change_of t (grants_of c.loop-one.self) d c.args.command one.child) (sym inv.tree);
    }

pub loop-one-preserved : goal.loop-one-preserved
loop-one-preserved c =
    let h = c.args.self.now.tree in
    let g = grants_of c.args.self.now in
    let d = c.args.domain in
    let items = c.as_slice-one-items.result.now in
    let i = c.loop-one.one-index in
    let x = c.one-item.result.child in
    let inv = c.loop-one.invariant in
    let e = c.command_child.ensures in
    let at = place_of h d c.args.known.now items i c.one-item.result c.requires.so.children
    c.as_slice-one-items.ensures c.loop-one-test.true c.one-item.is in
    record {
      grants =
          e.grants
          ∙ ap (λ (t : Hierarchy). commanded_child t (grants_of c.loop-one.self) d c.args.command x) inv.tree
          ∙ ap (λ (k : Grants). commanded_child h k d c.args.command x) inv.grants
          ∙ one_more h g d c.args.command (map child_of items) i x at.within (sym (at.this x)) at.fresh;
      tree = e.tree ∙ inv.tree;
      number = e.number ∙ inv.number;
    }

pub returns-clause-grants : goal.returns-clause-grants
returns-clause-grants c =
    let h = c.args.self.now.tree in
    let items = c.as_slice-one-items.result.now in
    c.loop-one.invariant.grants
    ∙ ap (commanded_among h (grants_of c.args.self.now) c.args.domain c.args.command)
    (take_all c.loop-one.one-index (map child_of items) (omega (
      arith,
      length-map items child_of,
      c.loop-one-test.false,
    )) ∙ ap (map child_of) c.as_slice-one-items.ensures ∙ c.requires.so.children)
    ∙ all_commanded h (grants_of c.args.self.now) c.args.domain c.args.command
