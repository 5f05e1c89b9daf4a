use Rattle.std.proofs.Common.{◌≡◌, [], true, sym, subst}
use Rattle.smi_tree.specs.Roles.{has_object}
use Rattle.smi_station_grants.specs.Entries.{entry_or}
use Rattle.smi_station_grants.proofs.Writes.{entry_read}
use Rattle.smi_audit.specs.Kept.{StateTable}
use Rattle.smi_audit.specs.Teller.{has_station}
use Rattle.smi_audit.proofs.ShownLists.{place_of_station, place_at_station, shown_put}
use Rattle.smi_audit.proofs.state_table.StateTable.put.Goals as goal

pub returns-clause-shown : goal.returns-clause-shown
returns-clause-shown c =
    let k : StateTable = record {
      tree = c.self.inside.tree.now;
      passed = c.self.inside.passed.items;
      shown = c.self.inside.shown.items;
      boots = c.self.inside.boots.items;
    } in
    let station : has_station k.tree c.args.station ≡ true =
    subst (λ (z : StateTable). has_station z.tree c.args.station ≡ true) (sym c.self.view_is) c.requires.station in
    let object : has_object k.tree c.args.shown.object ≡ true =
    subst (λ (z : StateTable). has_object z.tree c.args.shown.object ≡ true) (sym c.self.view_is) c.requires.object in
    let s = place_of_station k c.self.invariant c.args.station station in
    let x = place_at_station k c.self.invariant c.args.station c.args.shown.object station object in
    let read : c.index_mut.result.now ≡ entry_or k.shown c.args.station [] =
    entry_read k.shown c.args.station c.index_mut.result.now [] s.0 s.1
    (rw (← c.from.ensures) c.index_mut.ensures.value) in
    rw (c.from.ensures, ← c.self.view_is)
    (shown_put k c.args.station c.args.shown c.put.new.self s.0 s.1 x.0 x.1 (rw (← read) c.put.ensures))
