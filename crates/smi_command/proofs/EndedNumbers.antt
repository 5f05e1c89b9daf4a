-- Which pending commands a told record settles, number by number.
use Rattle.std.proofs.Common.{ℕ, ◌≡◌, ◌<◌, ◌≤◌, ◌+◌, ◌-◌, List, length, Some, ◌⊎◌, inl, inr, refl, sym, arith}
use Rattle.std.specs.Prelude.{◌↔◌, if◌then◌else◌, slice_get}
use Rattle.std.proofs.lemmas.Option.{slice_get_read}
use Rattle.std.proofs.lemmas.List.FromFn.{length-map-range_with_len, get_or-map-range_with_len}
use Rattle.smi_grant.specs.declared.command.Command.{Command}
use Rattle.smi_grant.specs.declared.record.Phase.{Phase}
use Rattle.smi_grant.specs.declared.record.Phase.TheVariants.{Settled, Busy}
use Rattle.smi_grant.specs.Record.{Standing, is_settled}
use Rattle.smi_command.specs.Hearing.{newest_settled, settled_count, settlement_in, settlements}
use Rattle.smi_command.specs.KnownGrant.{ShowsEnd}
use Rattle.smi_command.specs.Pending.{base_of}

ended_by_phase : (x : Phase) (last n : ℕ) → n ≤ (if is_settled x then last else last - 1) → 0 < n
    → (n < last) ⊎ ((n ≡ last) × (x ≡ Settled))
ended_by_phase Settled last n within some =
    elim (below n last within) [ inl less ↦ inl less | inr same ↦ inr (same, refl) ]
  where
    below : (a b : ℕ) → a ≤ b → (a < b) ⊎ (a ≡ b)
    below a b h = grind arith
ended_by_phase Busy last n within some = inl (omega arith)

settled_by_phase : (x : Phase) (last n : ℕ) → (n < last) ⊎ ((n ≡ last) × (x ≡ Settled))
    → n ≤ (if is_settled x then last else last - 1)
settled_by_phase Settled last n (inl less) = omega arith
settled_by_phase Settled last n (inr same) = omega arith
settled_by_phase Busy last n (inl less) = omega arith
settled_by_phase Busy last n (inr same) = let b = same.1 in absurd cc

-- a pending command settles where the record shows its end
pub settles_where : (n i : ℕ) (p : List Command) (r : Standing) → i < length p
    → (i < settled_count n p r) ↔ ShowsEnd r (base_of n p + 1 + i)
settles_where n i p r within = (
  λ counted. ended_by_phase r.phase r.last (base_of n p + 1 + i) (omega arith) (omega arith),
  λ ended.
      let low : base_of n p + 1 + i ≤ newest_settled r = settled_by_phase r.phase r.last (base_of n p + 1 + i) ended in
      omega arith,
)

pub settles_with : (n i : ℕ) (p : List Command) (r : Standing) → i < settled_count n p r
    → slice_get (settlements n p r) i ≡ Some (settlement_in r (base_of n p + 1 + i))
settles_with n i p r within =
    let b = base_of n p + 1 in
    let k = settled_count n p r in
    slice_get_read (settlements n p r) k i (settlement_in r (b + i))
    (sym (length-map-range_with_len (settlement_in r) b k)) within
    (sym (get_or-map-range_with_len (settlement_in r) b k i (b + i) (settlement_in r (b + i)) within refl))
