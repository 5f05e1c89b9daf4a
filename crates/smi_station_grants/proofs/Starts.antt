-- What a start leaves in the store.
use Rattle.std.proofs.Common.{◌≡◌, ◌+◌, ◌⊎◌, inl, inr, ℕ, Ok, Err, ap, ◌∙◌}
use mathlib.Core.Path.{fun_ext}
use Rattle.smi_tree.specs.Hierarchy.{Hierarchy}
use Rattle.smi_rows.specs.declared.StoreFault.TheVariants as store_fault
use Rattle.smi_rows.specs.Store.{IsSame, Rows}
use Rattle.smi_protocol.specs.Display.{Station}
use Rattle.smi_protocol.specs.Loading.{Opens, grants_in}
use Rattle.smi_protocol.specs.declared.fault.OpenFault.{OpenFault}
use Rattle.smi_protocol.specs.declared.fault.OpenFault.TheVariants as open_fault
use Rattle.smi_station_grants.specs.GrantTable.{Kept, grants_of}
use Rattle.smi_station_grants.specs.Starting.{IfInDoubt, after_start, beginning_with, with_boot}

-- what follows in doubt
pub doubtful : (X Y : Type 0) {P Q : Type 0} (fault : OpenFault) → (P → Q) → IfInDoubt {X = X} (Err fault) P
    → IfInDoubt {X = Y} (Err fault) Q
doubtful X Y open_fault.NoSuchStation f p = tt
doubtful X Y (open_fault.Row k code) f p = tt
doubtful X Y open_fault.BootsSpent f p = tt
doubtful X Y (open_fault.Store store_fault.Memory) f p = tt
doubtful X Y (open_fault.Store store_fault.Device) f p = tt
doubtful X Y (open_fault.Store store_fault.Unsure) f p = f p
doubtful X Y open_fault.Memory f p = tt

module _ (h : Hierarchy) (number : ℕ) (old loaded : Rows) (kept : Kept)
    (opens : Opens h number old (beginning_with h number (Ok kept))) (same : IsSame loaded old)
    (own : kept.number ≡ number) where
  -- the raised boot is that of one start more
  pub boot_saved : (new : Rows) → IsSame new (with_boot kept.number (grants_of kept).boot loaded)
      → IsSame new (after_start h number old)
  boot_saved new is k =
      let rows : loaded ≡ old = fun_ext same in
      let boot : (grants_of kept).boot ≡ (grants_in h number old).boot
      + 1 = ap (λ (s : Station). s.grants.boot) opens.3 in
      is k ∙ ap (λ n. with_boot n (grants_of kept).boot loaded k) own ∙ ap (λ n. with_boot number n loaded k) boot
      ∙ ap (λ (r : Rows). with_boot number ((grants_in h number old).boot + 1) r k) rows

  pub boot_or_not : (new : Rows) → IsSame new loaded
      ⊎ IsSame new (with_boot kept.number (grants_of kept).boot loaded)
      → IsSame new old ⊎ IsSame new (after_start h number old)
  boot_or_not new (inl a) = inl (λ k. a k ∙ same k)
  boot_or_not new (inr b) = inr (boot_saved new b)
