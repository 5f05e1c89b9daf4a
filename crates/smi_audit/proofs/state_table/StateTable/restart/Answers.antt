use Rattle.std.proofs.Common.{◌≡◌, ◌∙◌, List, [], length, true, sym, ap, subst}
use Rattle.std.proofs.lemmas.List.{length-map}
use Rattle.smi_station_grants.specs.Entries.{entry_or}
use Rattle.smi_station_grants.proofs.Writes.{entry_read}
use Rattle.smi_audit.specs.Kept.{StateTable}
use Rattle.smi_audit.specs.Tables.{seen_before}
use Rattle.smi_audit.specs.Teller.{has_station}
use Rattle.smi_audit.specs.declared.last_shown.LastShown.{LastShown}
use Rattle.smi_audit.proofs.ShownLists.{place_of_station, places_stay, shown_restart}
use Rattle.smi_audit.proofs.state_table.StateTable.restart.Goals as goal

pub invariant_of-self : goal.invariant_of-self
invariant_of-self c =
    let k : StateTable = record {
      tree = c.self.inside.tree.now;
      passed = c.self.inside.passed.items;
      shown = c.self.inside.shown.items;
      boots = c.self.inside.boots.items;
    } in
    let station : has_station k.tree c.args.station ≡ true =
    subst (λ (z : StateTable). has_station z.tree c.args.station ≡ true) (sym c.self.view_is) c.requires in
    let s = place_of_station k c.self.invariant c.args.station station in
    let read : c.index_mut.result.now ≡ entry_or k.shown c.args.station [] =
    entry_read k.shown c.args.station c.index_mut.result.now [] s.0 s.1
    (rw (← c.from.ensures) c.index_mut.ensures.value) in
    rw c.from.ensures
    (places_stay k c.self.invariant c.args.station c.restart.new.self station
    (ap (λ (z : List LastShown). length z) c.restart.ensures
    ∙ length-map c.index_mut.result.now seen_before ∙ ap (λ (z : List LastShown). length z) read))

pub returns-clause-shown : goal.returns-clause-shown
returns-clause-shown c =
    let k : StateTable = record {
      tree = c.self.inside.tree.now;
      passed = c.self.inside.passed.items;
      shown = c.self.inside.shown.items;
      boots = c.self.inside.boots.items;
    } in
    let station : has_station k.tree c.args.station ≡ true =
    subst (λ (z : StateTable). has_station z.tree c.args.station ≡ true) (sym c.self.view_is) c.requires in
    let s = place_of_station k c.self.invariant c.args.station station in
    let read : c.index_mut.result.now ≡ entry_or k.shown c.args.station [] =
    entry_read k.shown c.args.station c.index_mut.result.now [] s.0 s.1
    (rw (← c.from.ensures) c.index_mut.ensures.value) in
    rw (c.from.ensures, ← c.self.view_is)
    (shown_restart k c.args.station c.restart.new.self s.0 s.1 (rw (← read) c.restart.ensures))
