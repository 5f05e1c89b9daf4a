-- Rows that can be told are read, and the first that cannot be is refused as where a station starts.
use Rattle.std.proofs.Common.{ℕ, ◌≡◌, true, List, [], ◌∷◌, Option, Result, Ok, Err, refl, ap, subst}
use mathlib.Core.Path.{fun_ext}
use Rattle.smi_tree.specs.Hierarchy.{Hierarchy}
use Rattle.smi_rows.specs.declared.Row.{Row}
use Rattle.smi_rows.specs.Store.{IsListing, Rows, Saved, found_in}
use Rattle.smi_protocol.specs.Grants.{Grants, no_grants}
use Rattle.smi_protocol.specs.Loading.{AllRead, IsFirstFault, IsStation}
use Rattle.smi_protocol.specs.declared.fault.OpenFault.{OpenFault}
use Rattle.smi_protocol.specs.declared.fault.OpenFault.TheVariants as open_fault
use Rattle.smi_station_grants.specs.Migrating.{Migrates, all_told}
use Rattle.smi_station_grants.specs.Restoring.{Comes, and_then, as_told, restored, said_to}
use Rattle.smi_station_grants.proofs.Opening.{all_read, first_refused}

module _ (h : Hierarchy) (number : ℕ) where
  told_restores : (list : List Saved) (g : Grants) → all_told h number list ≡ Ok tt
      → (k : Grants) × (restored h number g list ≡ Ok k)
  told_restores [] g told = (g, refl)
  told_restores (r ∷ more) g told = by (said_to h number r) told (λ j t. told_restores more j t)
    where
      by : (x : Result (Option Row) OpenFault) → and_then (λ s. all_told h number more) x ≡ Ok tt
          → ((j : Grants) → all_told h number more ≡ Ok tt → (k : Grants) × (restored h number j more ≡ Ok k))
          → (k : Grants)
          × (and_then (λ j. restored h number j more) (and_then (λ s. Ok (as_told h g r.key s)) x) ≡ Ok k)
      by (Ok o) rest later = later (as_told h g r.key o) rest
      by (Err fault) rest later = absurd cc

  told_refuses : (list : List Saved) (g : Grants) (fault : OpenFault) → all_told h number list ≡ Err fault
      → restored h number g list ≡ Err fault
  told_refuses [] g fault told = absurd cc
  told_refuses (r ∷ more) g fault told = by (said_to h number r) told (λ j t. told_refuses more j fault t)
    where
      by : (x : Result (Option Row) OpenFault) → and_then (λ s. all_told h number more) x ≡ Err fault
          → ((j : Grants) → all_told h number more ≡ Err fault → restored h number j more ≡ Err fault)
          → and_then (λ j. restored h number j more) (and_then (λ s. Ok (as_told h g r.key s)) x) ≡ Err fault
      by (Ok o) rest later = later (as_told h g r.key o) rest
      by (Err f) rest later = let same : f ≡ fault = cc in ap Err same

  module _ (list : List Saved) (rows : Rows) (listing : IsListing rows list) where
    all_same : found_in list ≡ rows
    all_same = fun_ext listing.same

    pub told_read : all_told h number list ≡ Ok tt → AllRead h number rows
    told_read told = let k = told_restores list no_grants told in
        subst (AllRead h number) all_same (all_read h number list no_grants k.0 k.1)

    pub told_faults : (X : Type 0) → IsStation h number true → (fault : OpenFault)
        → Comes {X = Unit {0}} (Err fault) (all_told h number list) → Migrates {X = X} h number rows (Err fault)
    told_faults X there open_fault.NoSuchStation is =
        absurd (first_refused h number list no_grants open_fault.NoSuchStation listing.rises
        (told_refuses list no_grants open_fault.NoSuchStation is))
    told_faults X there (open_fault.Row k code) is = (
      there,
      subst (λ (r : Rows). IsFirstFault h number r k code) all_same
          (first_refused h number list no_grants (open_fault.Row k code) listing.rises
          (told_refuses list no_grants (open_fault.Row k code) is)),
    )
    told_faults X there open_fault.BootsSpent is =
        first_refused h number list no_grants open_fault.BootsSpent listing.rises
        (told_refuses list no_grants open_fault.BootsSpent is)
    told_faults X there (open_fault.Store fault) is = there
    told_faults X there open_fault.Memory is = tt
