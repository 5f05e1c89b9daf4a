use Rattle.std.proofs.Common.{◌≡◌, Result, Ok, Err, true, sym, ◌∙◌}
use Rattle.std.specs.Prelude.{IfErr, IfOk}
use Rattle.smi_message.specs.Message.{is_boot}
use Rattle.smi_protocol.specs.Sound.{IsSound}
use Rattle.smi_protocol.specs.declared.fault.OpenFault.{OpenFault}
use Rattle.smi_station_grants.specs.GrantTable.{Kept, grants_of}
use Rattle.smi_station_grants.specs.Restoring.{Comes, started}
use Rattle.smi_station_grants.specs.Starting.{IsNotOfStore, grants_after}
use Rattle.smi_station_grants.proofs.Opening.{opens_as, started_fault, started_sound}
use Rattle.smi_station_grants.proofs.load.kept_of_rows.Goals as goal

pub returns-clause-opens : goal.returns-clause-opens
returns-clause-opens c = λ all listing.
    opens_as c.args.tree.now c.args.number c.args.rows.now all listing
    (sym c.has_station.ensures.there ∙ c.if-not-has_station.false) c.kept_of.result c.kept_of.ensures.comes

pub returns-clause-sound : goal.returns-clause-sound
returns-clause-sound c = go c.kept_of.result c.kept_of.ensures.comes
  where
    go : (r : Result Kept OpenFault) → Comes (grants_after r) (started c.args.tree.now c.args.number c.args.rows.now)
        → IfOk r (λ kept. IsSound c.args.tree.now (grants_of kept))
    go (Ok kept) comes = (started_sound c.args.tree.now c.args.number c.args.rows.now (grants_of kept) comes).0
    go (Err fault) comes = tt

pub returns-clause-boot : goal.returns-clause-boot
returns-clause-boot c = go c.kept_of.result c.kept_of.ensures.comes
  where
    go : (r : Result Kept OpenFault) → Comes (grants_after r) (started c.args.tree.now c.args.number c.args.rows.now)
        → IfOk r (λ kept. is_boot (grants_of kept).boot ≡ true)
    go (Ok kept) comes = (started_sound c.args.tree.now c.args.number c.args.rows.now (grants_of kept) comes).1
    go (Err fault) comes = tt

pub returns-clause-fault : goal.returns-clause-fault
returns-clause-fault c = go c.kept_of.result c.kept_of.ensures.comes
  where
    go : (r : Result Kept OpenFault) → Comes (grants_after r) (started c.args.tree.now c.args.number c.args.rows.now)
        → IfErr r IsNotOfStore
    go (Ok kept) comes = tt
    go (Err fault) comes = started_fault c.args.tree.now c.args.number c.args.rows.now fault comes
