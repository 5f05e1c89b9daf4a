use Rattle.std.proofs.Common.{◌≡◌, ◌≤◌, [], true, length, ap, sym, ◌∙◌, subst, arith}
use Rattle.smi_tree.specs.Lookups.{domain_count, operator_station_of}
use Rattle.smi_tree.specs.Roles.{is_number}
use Rattle.smi_station_grants.specs.GrantTable.{Kept, count_in_use}
use Rattle.smi_station_grants.specs.Entries.{entry_or}
use Rattle.smi_station_grants.proofs.Writes.{entry_read}
use Rattle.smi_station_grants.proofs.InUse.{counted_by_number}
use Rattle.smi_station_grants.proofs.Tables.{operator_there}
use Rattle.smi_station_grants.proofs.grant_table.GrantTable.links_in_use.Goals as goal

pub returns : goal.returns
returns c =
    let links = c.self.inside.operator_links.items in
    let h = c.self.inside.tree.now in
    let at : is_number (operator_station_of h c.args.operator) c.self.inside.number ≡ true =
    subst (λ (k : Kept). is_number (operator_station_of k.tree c.args.operator) k.number ≡ true)
    (sym c.self.view_is) c.requires in
    let there = operator_there _ _ _ c.self.invariant.tree at in
    let most : c.args.operator ≤ length links = omega (arith, there.most, c.self.invariant.operators) in
    let read : c.index.result.now ≡ entry_or links c.args.operator [] =
    entry_read links c.args.operator c.index.result.now [] there.least most
    (rw (← c.from.ensures) c.index.ensures) in
    rw (← c.self.view_is) (c.in_use.ensures ∙ ap count_in_use read
    ∙ counted_by_number (entry_or links c.args.operator []) (domain_count h)
    (c.self.invariant.served c.args.operator at))
