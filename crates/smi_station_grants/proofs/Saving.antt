-- Rows saved one after the other.
use Rattle.std.proofs.Common.{◌≡◌, ◌+◌, ◌<◌, ◌≤◌, ◌++◌, ℕ, List, [], ◌∷◌, length, take, get_or, Err, ◌⊎◌, inl, inr}
use Rattle.std.proofs.Common.{refl, ap, sym, ◌∙◌, arith}
use Rattle.std.proofs.lemmas.List.{take_more}
use mathlib.Core.Path.{fun_ext}
use Rattle.smi_rows.specs.declared.StoreFault.TheVariants as store_fault
use Rattle.smi_rows.specs.Store.{IsSame, Rows, Saved, with_row}
use Rattle.smi_protocol.specs.declared.fault.OpenFault.{OpenFault}
use Rattle.smi_protocol.specs.declared.fault.OpenFault.TheVariants as open_fault
use Rattle.smi_station_grants.specs.Migrating.{over}
use Rattle.smi_station_grants.specs.Starting.{IfCertain, IfInDoubt, IfStoreFailed, IfStoreUnfailed, IfUnchanged}

over_more : (rows : Rows) (xs : List Saved) (r : Saved)
    → over rows (xs ++ r ∷ []) ≡ with_row r.key r.bytes (over rows xs)
over_more rows [] r = refl
over_more rows (x ∷ xs) r = over_more (with_row x.key x.bytes rows) xs r

-- one row more
pub one_more : (rows : Rows) (list : List Saved) (i : ℕ) (r : Saved) → i < length list → r ≡ get_or list i r
    → (before after : Rows) → IsSame before (over rows (take i list)) → IsSame after (with_row r.key r.bytes before)
    → IsSame after (over rows (take (i + 1) list))
one_more rows list i r within at before after same saved k =
    saved k
    ∙ ap (λ (t : Rows). with_row r.key r.bytes t k) (fun_ext same)
    ∙ sym (ap (λ (xs : List Saved). over rows xs k)
    (take_more list i r within ∙ ap (λ (x : Saved). take i list ++ x ∷ []) (sym at))
    ∙ ap (λ (t : Rows). t k) (over_more rows (take i list) r))

-- a fault that leaves no doubt leaves what is certain
pub certain_then : (X Y P Q : Type 0) (fault : OpenFault) → IfUnchanged {X = X} (Err fault) (P × Q)
    → IfCertain {X = Y} (Err fault) P
certain_then X Y P Q open_fault.NoSuchStation p = p.0
certain_then X Y P Q (open_fault.Row k code) p = p.0
certain_then X Y P Q open_fault.BootsSpent p = p.0
certain_then X Y P Q (open_fault.Store store_fault.Memory) p = p.0
certain_then X Y P Q (open_fault.Store store_fault.Device) p = p.0
certain_then X Y P Q (open_fault.Store store_fault.Unsure) p = tt
certain_then X Y P Q open_fault.Memory p = p.0

-- a fault leaves the rows unchanged, or in doubt one of two
pub either_way : (X Y P A B C : Type 0) (fault : OpenFault) → IfUnchanged {X = X} (Err fault) (P × A)
    → IfInDoubt {X = Y} (Err fault) (A ⊎ B) → (A → C) → (B → C) → C
either_way X Y P A B C open_fault.NoSuchStation p d f g = f p.1
either_way X Y P A B C (open_fault.Row k code) p d f g = f p.1
either_way X Y P A B C open_fault.BootsSpent p d f g = f p.1
either_way X Y P A B C (open_fault.Store store_fault.Memory) p d f g = f p.1
either_way X Y P A B C (open_fault.Store store_fault.Device) p d f g = f p.1
either_way X Y P A B C (open_fault.Store store_fault.Unsure) p d f g = elim d [ inl a ↦ f a | inr b ↦ g b ]
either_way X Y P A B C open_fault.Memory p d f g = f p.1

-- what is said of the store in a case is said with what follows from it
pub unfailed_then : (X Y P Q : Type 0) (fault : OpenFault) → (P → Q) → IfStoreUnfailed {X = X} (Err fault) P
    → IfStoreUnfailed {X = Y} (Err fault) Q
unfailed_then X Y P Q open_fault.NoSuchStation f p = f p
unfailed_then X Y P Q (open_fault.Row k code) f p = f p
unfailed_then X Y P Q open_fault.BootsSpent f p = f p
unfailed_then X Y P Q (open_fault.Store fault) f p = tt
unfailed_then X Y P Q open_fault.Memory f p = f p

pub doubt_then : (X Y P Q : Type 0) (fault : OpenFault) → (P → Q) → IfInDoubt {X = X} (Err fault) P
    → IfInDoubt {X = Y} (Err fault) Q
doubt_then X Y P Q open_fault.NoSuchStation f p = tt
doubt_then X Y P Q (open_fault.Row k code) f p = tt
doubt_then X Y P Q open_fault.BootsSpent f p = tt
doubt_then X Y P Q (open_fault.Store store_fault.Memory) f p = tt
doubt_then X Y P Q (open_fault.Store store_fault.Device) f p = tt
doubt_then X Y P Q (open_fault.Store store_fault.Unsure) f p = f p
doubt_then X Y P Q open_fault.Memory f p = tt

pub sure_then : (X Y P Q : Type 0) (fault : OpenFault) → (P → Q) → IfCertain {X = X} (Err fault) P
    → IfCertain {X = Y} (Err fault) Q
sure_then X Y P Q open_fault.NoSuchStation f p = f p
sure_then X Y P Q (open_fault.Row k code) f p = f p
sure_then X Y P Q open_fault.BootsSpent f p = f p
sure_then X Y P Q (open_fault.Store store_fault.Memory) f p = f p
sure_then X Y P Q (open_fault.Store store_fault.Device) f p = f p
sure_then X Y P Q (open_fault.Store store_fault.Unsure) f p = tt
sure_then X Y P Q open_fault.Memory f p = f p

pub failed_more : (X Y : Type 0) (fault : OpenFault) (a b c : ℕ) → a ≤ b → IfStoreFailed {X = X} (Err fault) (b < c)
    → IfStoreFailed {X = Y} (Err fault) (a < c)
failed_more X Y open_fault.NoSuchStation a b c less f = tt
failed_more X Y (open_fault.Row k code) a b c less f = tt
failed_more X Y open_fault.BootsSpent a b c less f = tt
failed_more X Y (open_fault.Store fault) a b c less f = omega (arith, less, f)
failed_more X Y open_fault.Memory a b c less f = tt
