use Rattle.std.proofs.Common.{◌≡◌, ℕ, List, true, take, get_or, ap, sym, ◌∙◌}
use Rattle.std.proofs.lemmas.List.{take_all, get_or_default}
use Rattle.smi_tree.specs.Hierarchy.{Hierarchy}
use Rattle.smi_tree.specs.Lookups.{children_of}
use Rattle.smi_rows.specs.declared.StoredLink.{StoredLink}
use Rattle.smi_protocol.specs.Grants.{Grants}
use Rattle.smi_station_grants.specs.GrantTable.{grants_of}
use Rattle.smi_station_grants.specs.Children.{is_among, with_child}
use Rattle.smi_station_grants.specs.Restored.{with_children}
use Rattle.smi_station_grants.proofs.Among.{among_children, at_among}
use Rattle.smi_station_grants.proofs.Restoring.{child_restored}
use Rattle.smi_station_grants.proofs.grant_table.GrantTable.restore_children.Goals as goal

pub put_child-requires : goal.put_child-requires
put_child-requires c =
    let h = c.args.self.now.tree in
    let xs = c.children-child-items.result.now in
    let x = get_or xs c.loop-child.child-index 0 in
    let listed : xs ≡ children_of h c.args.domain = c.children-child-items.ensures
    ∙ ap (λ (t : Hierarchy). children_of t c.args.domain) c.tree-tree.ensures.value in
    let there : is_among xs x ≡ true = at_among xs c.loop-child.child-index 0 c.loop-child-test.true in
    record {
      parent = rw c.loop-child.invariant.tree
          (sym (among_children h c.args.domain x) ∙ ap (λ (ys : List ℕ). is_among ys x) (sym listed) ∙ there);
    }

pub loop-child-preserved : goal.loop-child-preserved
loop-child-preserved c =
    let g = grants_of c.args.self.now in
    let d = c.args.domain in
    let links = c.args.links.now in
    let i = c.loop-child.child-index in
    let xs = c.children-child-items.result.now in
    let x = get_or xs i 0 in
    let inv = c.loop-child.invariant in
    let e = c.put_child.ensures in
    record {
      grants =
          e.grants
          ∙ ap (λ (k : Grants). with_child k d x c.stored_at-stored.result.link c.stored_at-stored.result.mode)
          inv.grants
          ∙ ap (λ (y : StoredLink). with_child (with_children g d links (take i xs)) d x y.link y.mode)
          c.stored_at-stored.ensures
          ∙ child_restored g d links xs i x c.loop-child-test.true (get_or_default xs i 0 x c.loop-child-test.true);
      tree = e.tree ∙ inv.tree;
      number = e.number ∙ inv.number;
    }

pub returns-clause-grants : goal.returns-clause-grants
returns-clause-grants c =
    let h = c.args.self.now.tree in
    let xs = c.children-child-items.result.now in
    let listed : xs ≡ children_of h c.args.domain = c.children-child-items.ensures
    ∙ ap (λ (t : Hierarchy). children_of t c.args.domain) c.tree-tree.ensures.value in
    c.loop-child.invariant.grants
    ∙ ap (with_children (grants_of c.args.self.now) c.args.domain c.args.links.now)
    (take_all c.loop-child.child-index xs c.loop-child-test.false ∙ listed)
