-- An audit that has taken nothing.
use Rattle.std.proofs.Common.{ℕ, zero, suc, ◌≡◌, ◌-◌, ◌<◌, Bool, true, false, List, [], length, get_or, refl, sym, ap}
use Rattle.std.proofs.Common.{◌∙◌, subst}
use Rattle.std.proofs.Common.{arith}
use Rattle.std.proofs.lemmas.List.{length-replicate}
use Rattle.std.proofs.lemmas.Bool.Decides.{nat_tests}
use Rattle.smi_base.specs.Between.{is_between}
use Rattle.std.specs.Prelude.{◌==◌, if◌then◌else◌}
use Rattle.std.specs.Prelude.{replicate}
use mathlib.Core.Path.{fun_ext}
use Rattle.smi_grant.specs.declared.Command.{Command}
use Rattle.smi_grant.specs.declared.Shown.{Shown}
use Rattle.smi_tree.specs.Hierarchy.{Hierarchy}
use Rattle.smi_tree.specs.Lookups.{domain_count, station_count}
use Rattle.smi_station_grants.specs.Entries.{entry_or}
use Rattle.smi_audit.specs.Audited.{AuditState, tables_of, IsAudited}
use Rattle.smi_audit.specs.Described.{IsDescribed}
use Rattle.smi_audit.specs.Kept.{DomainTable, StateTable, IsStateTable, accounts_of, passed_of, shown_of, boots_of}
use Rattle.smi_audit.specs.Kept.{account_of, fresh_state}
use Rattle.smi_audit.specs.Kept.{object_count}
use Rattle.smi_audit.specs.Tables.{Account, no_trace, unseen}
use Rattle.smi_audit.specs.declared.last_shown.LastShown.{LastShown}
use Rattle.smi_audit.specs.declared.grant_state.GrantState.{GrantState}
use Rattle.smi_audit.proofs.Listing.{entry_replicate}
use Rattle.smi_audit.proofs.Sound.{first_described, first_safe}

abbrev pub first_domains : Hierarchy → DomainTable
first_domains h = record {
  tree = h;
  grants = replicate (domain_count h) fresh_state;
  orders = replicate (domain_count h) [];
}

abbrev pub first_states : Hierarchy → StateTable
first_states h = record {
  tree = h;
  passed = replicate (object_count h) [];
  shown = replicate (station_count h) (replicate (object_count h) unseen);
  boots = replicate (station_count h) 0;
}

no_accounts : (h : Hierarchy) → accounts_of (first_domains h) ≡ no_trace.domains
no_accounts h = fun_ext (λ d.
    ap (λ (r : GrantState). account_of r (entry_or (first_domains h).orders d []))
    (entry_replicate fresh_state (domain_count h) d)
    ∙ ap (λ (l : List Command). account_of fresh_state l) (entry_replicate [] (domain_count h) d))

nothing_passed : (h : Hierarchy) → passed_of (first_states h) ≡ no_trace.passed
nothing_passed h = fun_ext (λ x. entry_replicate [] (object_count h) x)

no_boots : (h : Hierarchy) → boots_of (first_states h) ≡ no_trace.boots
no_boots h = fun_ext (λ s. entry_replicate 0 (station_count h) s)

-- what holds of what was put everywhere, and of the default, holds of what is read
read_either : {X : Type 0} (P : X → Type 0) (v d : X) (n i : ℕ) → P v → P d → P (get_or (replicate n v) i d)
read_either P v d zero i a b = b
read_either P v d (suc n) zero a b = a
read_either P v d (suc n) (suc i) a b = read_either P v d n i a b

entry_either : {X : Type 0} (P : X → Type 0) (v d : X) (n m : ℕ) → P v → P d → P (entry_or (replicate n v) m d)
entry_either P v d n m a b = by (m == 0)
  where
    by : (c : Bool) → P (if c then d else get_or (replicate n v) (m - 1) d)
    by true = b
    by false = read_either P v d n (m - 1) a b

-- a station of which there is no table was shown nothing either
nothing_shown : (h : Hierarchy) → shown_of (first_states h) ≡ no_trace.shown
nothing_shown h = fun_ext (λ s. fun_ext (λ x. at s x))
  where
    at : (s x : ℕ) → shown_of (first_states h) s x ≡ unseen
    at s x = entry_either (λ (l : List LastShown). entry_or l x unseen ≡ unseen) (replicate (object_count h) unseen) []
        (station_count h) s (entry_replicate unseen (object_count h) x) (entry_replicate unseen 0 x)

abbrev first_audit : Hierarchy → AuditState
first_audit h = record { domains = first_domains h; states = first_states h }

no_tables : (h : Hierarchy) → tables_of (first_audit h) ≡ no_trace
no_tables h =
    ap (λ (a : ℕ → Account). record (tables_of (first_audit h)) { domains = a }) (no_accounts h)
    ∙ ap (λ (a : ℕ → List Shown). record no_trace {
      passed = a;
      shown = shown_of (first_states h);
      boots = boots_of (first_states h);
    }) (nothing_passed h)
    ∙ ap (λ (a : ℕ → ℕ → LastShown). record no_trace { shown = a; boots = boots_of (first_states h) }) (nothing_shown h)
    ∙ ap (λ (a : ℕ → ℕ). record no_trace { boots = a }) (no_boots h)

pub begun_audited : (b : AuditState) (h : Hierarchy) → b.domains ≡ first_domains h → b.states ≡ first_states h
    → IsAudited b []
begun_audited b h domains states =
    subst (λ (z : AuditState). IsAudited z []) (sym whole)
    (record {
      described = subst (λ t. IsDescribed [] t) (sym (no_tables h)) first_described;
      safe = first_safe h;
      booted = λ s c a. absurd a;
      boots = tt;
    })
  where
    whole : b ≡ first_audit h
    whole = ap (λ l. record b { domains = l }) domains ∙ ap (λ s. record (first_audit h) { states = s }) states

-- There is a place for everything.

read_place : {X : Type 0} (v d : X) (n i : ℕ) → i < n → get_or (replicate n v) i d ≡ v
read_place v d zero i less = absurd (omega (arith, less))
read_place v d (suc n) zero less = refl
read_place v d (suc n) (suc i) less = read_place v d n i (omega (arith, less))

read_entry : {X : Type 0} (v d : X) (n s : ℕ) → is_between 1 n s ≡ true → entry_or (replicate n v) s d ≡ v
read_entry v d n s is = by (s == 0) refl
  where
    by : (c : Bool) → (s == 0) ≡ c → (if c then d else get_or (replicate n v) (s - 1) d) ≡ v
    by true z = absurd (let no : is_between 1 n s ≡ false = grind (arith, nat_tests) in
        let wrong : true ≡ false = sym is ∙ no in cc)
    by false z =
        let less : s - 1 < n = grind (arith, nat_tests) in
        read_place v d n (s - 1) less

pub first_is_table : (h : Hierarchy) → IsStateTable (first_states h)
first_is_table h = record {
  passed = length-replicate (object_count h) [];
  shown = length-replicate (station_count h) (replicate (object_count h) unseen);
  each = λ s is. ap length (read_entry (replicate (object_count h) unseen) [] (station_count h) s is)
      ∙ length-replicate (object_count h) unseen;
  boots = length-replicate (station_count h) 0;
}
