use Rattle.std.proofs.Common.{◌≡◌, ◌≤◌, ◌-◌, [], length, ap, sym, ◌∙◌, true, subst, arith}
use Rattle.std.proofs.Math.ListN.{set, length-set}
use Rattle.smi_tree.specs.Lawful.{IsBetween}
use Rattle.smi_tree.specs.Lookups.{domain_count, operator_count, operator_station_of}
use Rattle.smi_tree.specs.Roles.{is_number}
use Rattle.smi_station_grants.specs.GrantTable.{Kept}
use Rattle.smi_station_grants.specs.Entries.{entry_or}
use Rattle.smi_station_grants.proofs.Writes.{entry_read}
use Rattle.smi_station_grants.proofs.Tables.{operator_put, operator_there, served_put}
use Rattle.smi_station_grants.proofs.grant_table.GrantTable.put_operator_link.Goals as goal

-- what is known of the operator's own table
record Own (c : goal.After-self-1) : Type 0 where
  pub least : 1 ≤ c.args.operator
  pub most : c.args.operator ≤ length c.self.inside.operator_links.items
  pub table : c.put.new.self ≡ set (entry_or c.self.inside.operator_links.items c.args.operator [])
      (c.args.domain - 1) c.args.link
  pub long : length (entry_or c.self.inside.operator_links.items c.args.operator [])
      ≡ domain_count c.self.inside.tree.now
  pub within : c.args.domain ≤ length (entry_or c.self.inside.operator_links.items c.args.operator [])

own : (c : goal.After-self-1) → Own c
own c =
    let links = c.self.inside.operator_links.items in
    let at : is_number (operator_station_of c.self.inside.tree.now c.args.operator) c.self.inside.number ≡ true =
    subst (λ (k : Kept). is_number (operator_station_of k.tree c.args.operator) k.number ≡ true) (sym c.self.view_is)
    c.requires.operator in
    let there : IsBetween 1 (operator_count c.self.inside.tree.now) c.args.operator = operator_there _ _ _
    c.self.invariant.tree at in
    let most : c.args.operator ≤ length links = omega (arith, there.most, c.self.invariant.operators) in
    let read : c.index_mut.result.now ≡ entry_or links c.args.operator [] =
    entry_read links c.args.operator c.index_mut.result.now [] there.least most
    (rw (← c.from.ensures) c.index_mut.ensures.value) in
    let long = c.self.invariant.served c.args.operator at in
    record {
      least = there.least;
      most = most;
      table = rw (← read) c.put.ensures;
      long = long;
      within = omega (arith, long, ap (λ (k : Kept). domain_count k.tree) c.self.view_is, c.requires.most);
    }

pub invariant_of-self : goal.invariant_of-self
invariant_of-self c =
    let o = own c in
    let old = c.self.invariant in
    let long = ap length o.table ∙ length-set _ _ _ ∙ o.long in
    record {
      tree = old.tree;
      number = old.number;
      records = old.records;
      gathered = old.gathered;
      modes = old.modes;
      child_links = old.child_links;
      operators = length-set c.self.inside.operator_links.items (c.from.result - 1) c.put.new.self ∙ old.operators;
      served = λ m at. rw c.from.ensures (served_put c.self.inside.operator_links.items c.args.operator _ m
          c.put.new.self o.least o.most long (old.served m at));
    }

pub returns-clause-grants : goal.returns-clause-grants
returns-clause-grants c =
    let o = own c in
    rw (c.from.ensures, o.table, ← c.self.view_is)
    (operator_put (record {
      tree = c.self.inside.tree.now;
      number = c.self.inside.number;
      boot = c.self.inside.boot;
      records = c.self.inside.records.items;
      gathered = c.self.inside.gathered.items;
      modes = c.self.inside.modes.items;
      child_links = c.self.inside.child_links;
      operator_links = c.self.inside.operator_links.items;
    }) c.args.operator c.args.domain c.args.link o.least o.most c.requires.least o.within)
