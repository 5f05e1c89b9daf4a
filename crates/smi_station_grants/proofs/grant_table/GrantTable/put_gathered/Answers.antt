use Rattle.std.proofs.Common.{◌≤◌, ◌-◌, length, ap, ◌∙◌, arith}
use Rattle.std.proofs.Math.ListN.{length-set}
use Rattle.smi_tree.specs.Lookups.{domain_count}
use Rattle.smi_station_grants.specs.GrantTable.{Kept}
use Rattle.smi_station_grants.proofs.Tables.{gathered_put}
use Rattle.smi_station_grants.proofs.grant_table.GrantTable.put_gathered.Goals as goal

pub invariant_of-self : goal.invariant_of-self
invariant_of-self c =
    let most : c.args.domain ≤ length c.self.inside.gathered.items =
    omega (arith, c.self.invariant.gathered, ap (λ (k : Kept). domain_count k.tree) c.self.view_is, c.requires.most) in
    let old = c.self.invariant in
    record {
      tree = old.tree;
      number = old.number;
      records = old.records;
      gathered = length-set c.self.inside.gathered.items (c.from.result - 1) c.args.code ∙ old.gathered;
      modes = old.modes;
      child_links = old.child_links;
      operators = old.operators;
      served = old.served;
    }

pub returns-clause-grants : goal.returns-clause-grants
returns-clause-grants c =
    let most : c.args.domain ≤ length c.self.inside.gathered.items =
    omega (arith, c.self.invariant.gathered, ap (λ (k : Kept). domain_count k.tree) c.self.view_is, c.requires.most) in
    rw (c.from.ensures, ← c.self.view_is)
    (gathered_put (record {
      tree = c.self.inside.tree.now;
      number = c.self.inside.number;
      boot = c.self.inside.boot;
      records = c.self.inside.records.items;
      gathered = c.self.inside.gathered.items;
      modes = c.self.inside.modes.items;
      child_links = c.self.inside.child_links;
      operator_links = c.self.inside.operator_links.items;
    }) c.args.domain c.args.code c.requires.least most)
