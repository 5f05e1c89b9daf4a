use Rattle.std.proofs.Common.{◌∙◌, Err, Some, ap, false, refl, true, subst, sym}
use Rattle.smi_station_grants.specs.GrantTable.{Kept}
use Rattle.smi_rows.specs.Store.{found_in}
use Rattle.smi_station.specs.Core.{IsStoredIn, number_of, station_of, tree_of}
use Rattle.smi_station_grants.specs.Stored.{Restarts}
use Rattle.smi_protocol.specs.Step.{nothing_out}
use Rattle.smi_protocol.specs.declared.fault.OpenFault.{OpenFault}
use Rattle.smi_world.proofs.Acts.{rows_stay, spent_makes, starts_makes, stays}
use Rattle.smi_world.specs.Left.{Left}
use Rattle.smi_world.proofs.acting.start_again.Goals as goal

pub returns-in-Ok-clause-makes : goal.returns-in-Ok-clause-makes
returns-in-Ok-clause-makes c = λ h number s is.
    starts_makes h number s c.args.post.now is (record { station = c.restart.new.self; is_down = false }) _
    c.args.left.now.out.kept
    (c.number-left-inside.ensures.value ∙ ap (λ (k : Kept). k.number) c.grants.ensures ∙ is.of_tree.number)
    (c.clear_but_entries.ensures ∙ ap (λ (l : Left). record nothing_out { kept = l.out.kept }) c.left.view_is)
    refl (c.in-Ok.ensures.anew tt tt is.stored) c.in-Ok.ensures.of (c.in-Ok.ensures.stored tt) (ap Some c.boot.ensures)

pub returns-in-Err-BootsSpent-clause-makes : goal.returns-in-Err-BootsSpent-clause-makes
returns-in-Err-BootsSpent-clause-makes c = λ h number s is.
    let same = c.in-Err-BootsSpent.ensures.unchanged in
    spent_makes h number s c.args.post.now is (record { station = c.restart.new.self; is_down = true }) _
    c.args.left.now.out.kept
    (c.number-left-inside.ensures.value ∙ ap (λ (k : Kept). k.number) c.grants.ensures ∙ is.of_tree.number)
    (c.clear_but_entries.ensures ∙ ap (λ (l : Left). record nothing_out { kept = l.out.kept }) c.left.view_is)
    refl (subst (λ (f : OpenFault). Restarts (tree_of c.args.post.now.station.core)
    (number_of c.args.post.now.station.core) (station_of c.args.post.now.station.core).grants (Err f))
    c.in-Err-BootsSpent.field-0-is (c.in-Err-BootsSpent.ensures.anew tt tt is.stored)) same
    (subst (IsStoredIn (found_in c.restart.new.self.store.list)) (sym same)
    (rows_stay (found_in c.args.post.now.station.store.list) (found_in c.restart.new.self.store.list)
    c.args.post.now.station.core c.in-Err-BootsSpent.field-0 c.in-Err-BootsSpent.ensures.cause
    (c.in-Err-BootsSpent.ensures.kept tt tt) is.stored))
    refl

pub returns-in-Err : goal.returns-in-Err
returns-in-Err c = record {
  makes = λ h number s is. tt;
  same = λ h number s is.
      let same = c.in-Err.ensures.unchanged in
      stays h number s c.args.post.now is (record { station = c.restart.new.self; is_down = c.args.post.now.is_down })
      refl same
      (subst (IsStoredIn (found_in c.restart.new.self.store.list)) (sym same)
      (rows_stay (found_in c.args.post.now.station.store.list) (found_in c.restart.new.self.store.list)
      c.args.post.now.station.core c.in-Err.field-0 c.in-Err.ensures.cause (c.in-Err.ensures.kept tt tt) is.stored));
  before = ap (λ (l : Left). l.before) c.left.view_is;
}
