-- Results that are what they are to be.
use Rattle.std.proofs.Common.{◌≡◌, Result, Ok, Err, refl, ap}
use Rattle.smi_protocol.specs.declared.fault.OpenFault.{OpenFault}
use Rattle.smi_protocol.specs.declared.fault.OpenFault.TheVariants.{NoSuchStation, Row, BootsSpent, Store, Memory}
use Rattle.smi_station_grants.specs.Migrating.{only_told}
use Rattle.smi_station_grants.specs.Restoring.{Comes, and_then}

-- a fault stays what it is when more was to follow
pub passed_on : {X Y : Type 0} (f : X → Result Y OpenFault) (fault : OpenFault) (r : Result X OpenFault)
    → Comes {X = X} (Err fault) r → Comes {X = Y} (Err fault) (and_then f r)
passed_on f NoSuchStation r is = ap (and_then f) is
passed_on f (Row k code) r is = ap (and_then f) is
passed_on f BootsSpent r is = ap (and_then f) is
passed_on f (Store fault) r is = ap (and_then f) is
passed_on f Memory r is = tt

pub comes_so : {X : Type 0} (r s : Result X OpenFault) → s ≡ r → Comes r s
comes_so (Ok x) s is = is
comes_so (Err NoSuchStation) s is = is
comes_so (Err (Row k code)) s is = is
comes_so (Err BootsSpent) s is = is
comes_so (Err (Store fault)) s is = is
comes_so (Err Memory) s is = tt

-- what follows whatever was told
pub whatever_told : {X Y : Type 0} (y : Result Y OpenFault) (r : Result X OpenFault)
    → and_then (λ u. y) (only_told r) ≡ and_then (λ x. y) r
whatever_told y (Ok x) = refl
whatever_told y (Err fault) = refl
