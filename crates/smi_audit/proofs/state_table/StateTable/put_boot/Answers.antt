use Rattle.std.proofs.Common.{◌≡◌, true, sym, subst}
use Rattle.smi_station_grants.proofs.Writes.{table_set}
use Rattle.smi_audit.specs.Kept.{StateTable}
use Rattle.smi_audit.specs.Teller.{has_station}
use Rattle.smi_audit.proofs.ShownLists.{place_of_boot}
use Rattle.smi_audit.proofs.state_table.StateTable.put_boot.Goals as goal

pub returns-clause-boots : goal.returns-clause-boots
returns-clause-boots c =
    let k : StateTable = record {
      tree = c.self.inside.tree.now;
      passed = c.self.inside.passed.items;
      shown = c.self.inside.shown.items;
      boots = c.self.inside.boots.items;
    } in
    let station : has_station k.tree c.args.station ≡ true =
    subst (λ (z : StateTable). has_station z.tree c.args.station ≡ true) (sym c.self.view_is) c.requires in
    let s = place_of_boot k c.self.invariant c.args.station station in
    rw (c.from.ensures, ← c.self.view_is) (table_set k.boots c.args.station c.args.boot 0 s.0 s.1)
