-- What a write makes of what stations were shown.
use Rattle.std.proofs.Common.{ℕ, ◌≡◌, ◌-◌, ◌≤◌, Bool, true, false, List, [], ◌∷◌, length, map, get_or, refl, ◌∙◌, arith}
use Rattle.std.proofs.Math.ListN.{set}
use Rattle.std.specs.Prelude.{◌==◌, ◌&&◌, if◌then◌else◌, Result, Ok, Err, OnOk, is_ok}
use Rattle.std.proofs.lemmas.List.{length-set}
use Rattle.std.proofs.lemmas.Bool.{eqb-true}
use Rattle.std.proofs.lemmas.Bool.Decides.{nat_tests}
use mathlib.Core.Path.{fun_ext}
use Rattle.smi_grant.specs.declared.Shown.{Shown}
use Rattle.smi_station_grants.specs.Entries.{entry_or}
use Rattle.smi_station_grants.proofs.Writes.{entry_set, entry_read, table_set}
use Rattle.smi_tree.specs.Lookups.{station_count}
use Rattle.smi_tree.specs.Roles.{has_object}
use Rattle.smi_protocol.specs.Grants.{put}
use Rattle.smi_audit.specs.Teller.{has_station}
use Rattle.smi_base.specs.Between.{is_between}
use Rattle.smi_audit.specs.Kept.{StateTable, IsStateTable, object_count, passed_of, shown_of, shown_to}
use Rattle.smi_audit.specs.Tables.{unseen, seen_now, seen_before, showed_now, started}
use Rattle.smi_audit.specs.declared.last_shown.LastShown.{LastShown}
use Rattle.smi_audit.proofs.Listing.{entry_map}

pub placed : (n count : ℕ) → is_between 1 count n ≡ true → (1 ≤ n) × (n ≤ count)
placed n count t = grind (arith, nat_tests)

pub shown_put : (k : StateTable) (s : ℕ) (z : Shown) (g : List LastShown) → 1 ≤ s → s ≤ length k.shown → 1 ≤ z.object
    → z.object ≤ length (shown_to k s) → g ≡ set (shown_to k s) (z.object - 1) (seen_now z.version)
    → shown_of (record k { shown = set k.shown (s - 1) g }) ≡ showed_now (shown_of k) s z
shown_put k s z g least most first last is = fun_ext (λ v. fun_ext (λ y. at v y))
  where
    there : (v y : ℕ) (here : Bool) → (v == s) ≡ here
        → entry_or (if here then g else entry_or k.shown v []) y unseen
        ≡ (if here && y == z.object then seen_now z.version else shown_of k v y)
    there v y true same =
        let one : v ≡ s = eqb-true v s same in
        rw one (rw is (entry_set (shown_to k s) z.object y (seen_now z.version) unseen first last))
    there v y false other = refl

    at : (v y : ℕ) → shown_of (record k { shown = set k.shown (s - 1) g }) v y ≡ showed_now (shown_of k) s z v y
    at v y = rw (entry_set k.shown s v g [] least most) (there v y (v == s) refl)

pub shown_restart : (k : StateTable) (s : ℕ) (g : List LastShown) → 1 ≤ s → s ≤ length k.shown
    → g ≡ map seen_before (shown_to k s)
    → shown_of (record k { shown = set k.shown (s - 1) g }) ≡ started (shown_of k) s
shown_restart k s g least most is = fun_ext (λ v. fun_ext (λ y. at v y))
  where
    there : (v y : ℕ) (here : Bool) → (v == s) ≡ here
        → entry_or (if here then g else entry_or k.shown v []) y unseen
        ≡ (if here then seen_before (shown_of k v y) else shown_of k v y)
    there v y true same =
        let one : v ≡ s = eqb-true v s same in
        rw one (rw is (entry_map seen_before (shown_to k s) y unseen refl))
    there v y false other = refl

    at : (v y : ℕ) → shown_of (record k { shown = set k.shown (s - 1) g }) v y ≡ started (shown_of k) s v y
    at v y = rw (entry_set k.shown s v g [] least most) (there v y (v == s) refl)

-- There is a place for each station and object of the tree.

module _ (k : StateTable) (is : IsStateTable k) where
  pub place_of_object : (x : ℕ) → has_object k.tree x ≡ true → (1 ≤ x) × (x ≤ length k.passed)
  place_of_object x t =
      let p = placed x (object_count k.tree) t in
      (p.0, let most = p.1 in let long = is.passed in omega (arith, most, long))

  pub place_of_boot : (s : ℕ) → has_station k.tree s ≡ true → (1 ≤ s) × (s ≤ length k.boots)
  place_of_boot s t =
      let p = placed s (station_count k.tree) t in
      (p.0, let most = p.1 in let long = is.boots in omega (arith, most, long))

  pub place_of_station : (s : ℕ) → has_station k.tree s ≡ true → (1 ≤ s) × (s ≤ length k.shown)
  place_of_station s t =
      let p = placed s (station_count k.tree) t in
      (p.0, let most = p.1 in let long = is.shown in omega (arith, most, long))

  pub place_at_station : (s x : ℕ) → has_station k.tree s ≡ true → has_object k.tree x ≡ true
      → (1 ≤ x) × (x ≤ length (shown_to k s))
  place_at_station s x t u =
      let p = placed x (object_count k.tree) u in
      (p.0, let most = p.1 in let long = is.each s t in omega (arith, most, long))

  -- the table of another station may be replaced
  pub places_stay : (s : ℕ) (g : List LastShown) → has_station k.tree s ≡ true → length g ≡ length (shown_to k s)
      → IsStateTable (record k { shown = set k.shown (s - 1) g })
  places_stay s g t long = record {
    passed = is.passed;
    shown = length-set k.shown (s - 1) g ∙ is.shown;
    each = λ v u. rw (entry_set k.shown s v g [] (place_of_station s t).0 (place_of_station s t).1)
        (by v u (v == s) refl);
    boots = is.boots;
  }
    where
      by : (v : ℕ) → has_station k.tree v ≡ true → (here : Bool) → (v == s) ≡ here
          → length (if here then g else entry_or k.shown v []) ≡ object_count k.tree
      by v u true same = long ∙ is.each s t
      by v u false other = is.each v u

  pub passed_push : {E : Type 0} (r : Result (Unit {0}) E) (z : Shown) (v old : List Shown)
      → has_object k.tree z.object ≡ true → old ≡ get_or k.passed (z.object - 1) old
      → v ≡ (if is_ok r then z ∷ old else old)
      → OnOk r (passed_of (record k { passed = set k.passed (z.object - 1) v })
      ≡ put (passed_of k) z.object (z ∷ passed_of k z.object))
  passed_push (Ok u) z v old t read pushed =
      let p = place_of_object z.object t in
      let here : old ≡ passed_of k z.object = entry_read k.passed z.object old [] p.0 p.1 read in
      rw pushed (rw here (table_set k.passed z.object (z ∷ passed_of k z.object) [] p.0 p.1))
  passed_push (Err e) z v old t read pushed = tt
