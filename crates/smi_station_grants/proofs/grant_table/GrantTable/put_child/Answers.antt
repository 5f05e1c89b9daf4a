use Rattle.std.proofs.Common.{◌≡◌, sym, true, subst, arith}
use Rattle.smi_tree.specs.Roles.{is_parent}
use Rattle.smi_station_grants.specs.GrantTable.{Kept}
use Rattle.smi_station_grants.proofs.ChildTables.{child_put, child_inside}
use Rattle.smi_station_grants.proofs.grant_table.GrantTable.put_child.Goals as goal

pub returns-clause-grants : goal.returns-clause-grants
returns-clause-grants c =
    let parent : is_parent c.self.inside.tree.now c.args.child c.args.domain ≡ true =
    subst (λ (k : Kept). is_parent k.tree c.args.child c.args.domain ≡ true) (sym c.self.view_is) c.requires.parent in
    let inside = child_inside c.self.inside.tree.now c.args.child c.args.domain c.self.invariant.tree parent in
    rw (c.from.ensures, c.put.ensures, ← c.self.view_is)
    (child_put (record {
      tree = c.self.inside.tree.now;
      number = c.self.inside.number;
      boot = c.self.inside.boot;
      records = c.self.inside.records.items;
      gathered = c.self.inside.gathered.items;
      modes = c.self.inside.modes.items;
      child_links = c.self.inside.child_links;
      operator_links = c.self.inside.operator_links.items;
    }) c.args.domain c.args.child c.args.link c.args.mode parent inside.least
    (omega (arith, inside.most, c.self.invariant.child_links)) (omega (arith, inside.most, c.self.invariant.modes)))
