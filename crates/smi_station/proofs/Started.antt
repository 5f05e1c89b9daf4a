-- A station that starts.
use Rattle.std.proofs.Common.{ℕ, ◌≡◌, ◌<◌, Bool, true, false, Option, Some, None, Result, Ok, Err, sym}
use Rattle.std.proofs.Common.{◌∙◌, subst, arith}
use Rattle.std.specs.Prelude.{IfErr, IfOk, IfSome, option_map, if◌then◌else◌}
use Rattle.smi_tree.specs.Hierarchy.{Hierarchy}
use Rattle.smi_tree.specs.Lookups.{first_state}
use Rattle.smi_publish.specs.declared.condition.Condition.{Condition}
use Rattle.smi_publish.specs.Published.{condition, last_sequence}
use Rattle.smi_tree.specs.Roles.{is_kept_by}
use Rattle.smi_rows.specs.Store.{Rows}
use Rattle.smi_protocol.specs.Loading.{Opens}
use Rattle.smi_protocol.specs.Opening.{first_display}
use Rattle.smi_protocol.specs.Sound.{IsSound}
use Rattle.smi_protocol.specs.SoundDisplay.{MayChange}
use Rattle.smi_protocol.specs.Tidy.{IsTidy}
use Rattle.smi_law.proofs.Tidy.{first_tidy}
use Rattle.smi_protocol.specs.declared.fault.OpenFault.{OpenFault}
use Rattle.smi_protocol.specs.declared.fault.OpenFault.TheVariants as open_fault
use Rattle.smi_station_grants.specs.GrantTable.{Kept, grants_of}
use Rattle.smi_station_display.specs.Displayed.{Displayed, display_of}
use Rattle.smi_station_grants.specs.Starting.{beginning_with}
use Rattle.smi_station.specs.Core.{Core, IsCore, begun, core_with, station_of}

-- at a start each object may change
first_room : (h : Hierarchy) (number : ℕ) → MayChange (first_display h number)
first_room h number x = by (is_kept_by h number x) (first_state h x)
  where
    by : (b : Bool) (o : Option ℕ) → IfSome (if b then option_map (λ state. condition state 0) o else None)
        (λ (c : Condition). c.sequence < last_sequence)
    by true None = tt
    by true (Some state) = omega arith
    by false o = tt

-- what starts is a station
pub started_core : (h : Hierarchy) (number boot : ℕ) (k : Kept) (d : Displayed) → k.tree ≡ h → k.number ≡ number
    → IsSound h (grants_of k) → d.tree ≡ h → d.number ≡ number → d.published.boot ≡ k.boot
    → display_of d ≡ first_display h number
    → IsCore (core_with k d false)
started_core h number boot k d tree own sound d_tree d_number d_boot shows = record {
  halves = record {
    tree = d_tree ∙ sym tree;
    number = d_number ∙ sym own;
    boot = d_boot;
    sound = subst (λ (x : Hierarchy). IsSound x (grants_of k)) (sym tree) sound;
  };
  tidy = subst (λ (x : Hierarchy). IsTidy x (display_of d)) (sym tree)
      (subst (IsTidy h) (sym shows) (first_tidy h number));
  room = λ is. subst MayChange (sym shows) (first_room h number);
}

-- it is what the rows mean
pub opens_begun : (h : Hierarchy) (number : ℕ) (rows : Rows) (k : Kept) (r : Result Core OpenFault)
    → Opens h number rows (beginning_with h number (Ok k))
    → IfOk r (λ core. station_of core ≡ record {
      grants = grants_of k;
      display = first_display h number;
      is_stopped = false;
    }) → IfErr r (λ fault. fault ≡ open_fault.Memory) → Opens h number rows (begun r)
opens_begun h number rows k (Ok core) opens is fault = (opens.0, opens.1, opens.2, is ∙ opens.3)
opens_begun h number rows k (Err f) opens is fault =
    subst (λ (f : OpenFault). Opens h number rows (Err f)) (sym fault) tt

pub opens_kept : (h : Hierarchy) (number : ℕ) (rows : Rows) (k : Kept) (r : Result Core OpenFault)
    → Opens h number rows (beginning_with h number (Ok k)) → IfOk r (λ core. core.kept ≡ k)
    → IfOk r (λ core. Opens h number rows (beginning_with h number (Ok core.kept)))
opens_kept h number rows k (Ok core) opens is =
    subst (λ (k : Kept). Opens h number rows (beginning_with h number (Ok k))) (sym is) opens
opens_kept h number rows k (Err f) opens is = tt
