-- The table of a station that has just started.
use Rattle.std.proofs.Common.{◌≡◌, ℕ, zero, suc, ◌+◌, ◌-◌, ◌<◌, ◌≤◌, Bool, true, false, List, [], ◌∷◌, ◌++◌, length}
use Rattle.std.proofs.Common.{get_or, length-append, ◌⊎◌, inl, inr, Option, Some, None, refl, sym, ap, ◌∙◌, arith}
use Rattle.std.specs.Prelude.{◌==◌, nat_le, IfSome, slice_get, option_and_then, option_map, if◌then◌else◌}
use Rattle.std.proofs.lemmas.Bool.{cases_lt}
use Rattle.std.proofs.lemmas.Bool.Decides.{nat_tests}
use Rattle.std.proofs.lemmas.Option.{slice_get-get_or, slice_get_past}
use Rattle.std.proofs.Math.ListN.{get_or-append}
use Rattle.std.proofs.Math.Seq.{get_or-append_seam}
use Rattle.smi_tree.specs.Hierarchy.{Hierarchy}
use Rattle.smi_tree.specs.Lookups.{domain_count, device_count, first_state}
use Rattle.smi_tree.specs.Lawful.{IsTree}
use Rattle.smi_publish.specs.declared.condition.Condition.{Condition}
use Rattle.smi_publish.specs.Published.{condition, condition_in, HasRoom, last_sequence}
use Rattle.smi_publish.specs.Publishing.{first_condition}
use Rattle.smi_tree.specs.Roles.{is_kept_by, keeper_of}

-- the first objects have their first conditions
pub record Opened (h : Hierarchy) (station n : ℕ) (table : List (Option Condition)) : Type 0 where
  pub all : length table ≡ n
  pub each : (k : ℕ) (d : Option Condition) → k < n → get_or table k d ≡ first_condition h station (k + 1)

-- a number that no object has
unkept : (h : Hierarchy) (station x : ℕ) → keeper_of h x ≡ None → first_condition h station x ≡ None
unkept h station x none = rw none refl

keeper_of-zero : (h : Hierarchy) → keeper_of h 0 ≡ None
keeper_of-zero h =
    let unit : nat_le 0 (domain_count h) ≡ true = grind (arith, nat_tests) in
    rw unit refl

keeper_of-beyond : (h : Hierarchy) (k : ℕ) → IsTree h → domain_count h + device_count h ≤ k → keeper_of h (suc k) ≡ None
keeper_of-beyond h k tree beyond =
    let device : nat_le (suc k) (domain_count h) ≡ false = grind (arith, nat_tests) in
    let positive : (suc k - domain_count h == 0) ≡ false = grind (arith, nat_tests) in
    let absent : slice_get h.devices (suc k - domain_count h - 1) ≡ None =
    slice_get_past h.devices (suc k - domain_count h - 1) (omega (arith, beyond, tree.lawful.devices.rows)) in
    rw (device, positive, absent) refl

in_table : (table : List (Option Condition)) (k : ℕ) → k < length table
    → condition_in table (suc k) ≡ get_or table k None
in_table table k within =
    let positive : (suc k == 0) ≡ false = grind (arith, nat_tests) in
    let place : suc k - 1 ≡ k = omega arith in
    rw (positive, place, slice_get-get_or table k None within) (itself (get_or table k None))
  where
    itself : (o : Option Condition) → option_and_then (λ c. c) (Some o) ≡ o
    itself o = refl

past_table : (table : List (Option Condition)) (k : ℕ) → length table ≤ k → condition_in table (suc k) ≡ None
past_table table k beyond =
    let positive : (suc k == 0) ≡ false = grind (arith, nat_tests) in
    let place : suc k - 1 ≡ k = omega arith in
    rw (positive, place, slice_get_past table k beyond) refl

pub opened_as : (h : Hierarchy) (station : ℕ) (table : List (Option Condition)) → IsTree h
    → Opened h station (domain_count h + device_count h) table
    → (x : ℕ) → condition_in table x ≡ first_condition h station x
opened_as h station table tree o zero = sym (unkept h station 0 (keeper_of-zero h))
opened_as h station table tree o (suc k) = by_place (cases_lt k (domain_count h + device_count h))
  where
    by_place : (k < domain_count h + device_count h) ⊎ (domain_count h + device_count h ≤ k)
        → condition_in table (suc k) ≡ first_condition h station (suc k)
    by_place (inr beyond) =
        past_table table k (omega (arith, beyond, o.all))
        ∙ sym (unkept h station (suc k) (keeper_of-beyond h k tree beyond))
    by_place (inl within) =
        in_table table k (omega (arith, within, o.all)) ∙ o.each k None within
        ∙ ap (first_condition h station) (omega arith)

pub Opened-more : (h : Hierarchy) (station n : ℕ) (table : List (Option Condition)) (v : Option Condition)
    → Opened h station n table → v ≡ first_condition h station (n + 1) → Opened h station (n + 1) (table ++ v ∷ [])
Opened-more h station n table v o is = record {
  all = omega (arith, o.all, length-append table (v ∷ []));
  each = λ k d within. by_place k d (cases_lt k n) within;
}
  where
    by_place : (k : ℕ) (d : Option Condition) → (k < n) ⊎ (n ≤ k) → k < n + 1
        → get_or (table ++ v ∷ []) k d ≡ first_condition h station (k + 1)
    by_place k d (inr last) within =
        let same : k ≡ length table = omega (arith, last, within, o.all) in
        let number : n ≡ k = omega (arith, last, within) in
        rw same (get_or-append_seam table v [] d) ∙ is ∙ ap (λ m. first_condition h station (m + 1)) number
    by_place k d (inl before) within = get_or-append table (v ∷ []) d k (omega (arith, before, o.all))
        ∙ o.each k d before

-- whatever the first state is, the object may change
pub first_room : (h : Hierarchy) (station x : ℕ) → HasRoom (first_condition h station) x
first_room h station x = by_keeper (is_kept_by h station x) (first_state h x)
  where
    by_keeper : (b : Bool) (o : Option ℕ) → IfSome (if b then option_map (λ state. condition state 0) o else None)
        (λ c. c.sequence < last_sequence)
    by_keeper false o = tt
    by_keeper true None = tt
    by_keeper true (Some state) = omega arith
