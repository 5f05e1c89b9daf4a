-- What a step and a start leave in the store says all that the station keeps.
use Rattle.std.proofs.Common.{ℕ, ◌≡◌, ◌⊎◌, inl, inr, Result, Ok, Err, sym, subst}
use Rattle.std.specs.Prelude.{IfOk, OnOk}
use mathlib.Core.Path.{fun_ext}
use Rattle.smi_tree.specs.Hierarchy.{Hierarchy}
use Rattle.smi_tree.specs.Lawful.{IsBetween, IsTree}
use Rattle.smi_tree.specs.Lookups.{station_count}
use Rattle.smi_rows.specs.Store.{IsSame, Rows}
use Rattle.smi_protocol.specs.Display.{Station}
use Rattle.smi_protocol.specs.Loading.{Opens}
use Rattle.smi_protocol.specs.Step.{Out, after_event}
use Rattle.smi_protocol.specs.declared.event.Event.{Event}
use Rattle.smi_protocol.specs.declared.event.Heard.{Heard}
use Rattle.smi_protocol.specs.declared.event.StepFault.{StepFault}
use Rattle.smi_protocol.specs.declared.fault.OpenFault.{OpenFault}
use Rattle.smi_station_grants.specs.Change.{with_saved}
use Rattle.smi_station_grants.specs.Starting.{after_start}
use Rattle.smi_station_grants.specs.Stored.{IsStored, Restarts}
use Rattle.smi_station_grants.proofs.Restarting.{event_stored, only_restarts, opens_stored}
use Rattle.smi_station.specs.Core.{Core, IsOf, IsStoredIn, Steps, begun, number_of, station_of, tree_of}

-- a step
pub step_stored : (X : Type 0) (before next : Core) (e : Event) (handed : Out) (r : Result Heard StepFault)
    (old new : Rows) → IsTree (tree_of before)
    → Steps before next (after_event (tree_of before) (number_of before) (station_of before) e) handed r
    → OnOk r (X × IsSame new
    (with_saved (after_event (tree_of before) (number_of before) (station_of before) e).saved old))
    → IsStoredIn old before → OnOk r (IsStoredIn new next)
step_stored X before next e handed (Err fault) old new tree steps saved stored = tt
step_stored X before next e handed (Ok x) old new tree steps saved stored =
    subst (λ (h : Hierarchy). IsStored h (number_of next) (station_of next).grants new) (sym steps.tree)
    (subst (λ n. IsStored (tree_of before) n (station_of next).grants new) (sym steps.number)
    (subst (λ (s : Station). IsStored (tree_of before) (number_of before) s.grants new) (sym steps.station)
    (subst (IsStored (tree_of before) (number_of before)
    (after_event (tree_of before) (number_of before) (station_of before) e).station.grants) (sym (fun_ext saved.1))
    (event_stored (tree_of before) (number_of before) (station_of before) old e tree stored))))

-- a start
pub start_stored : (h : Hierarchy) (number : ℕ) (X : Type 0) (r : Result Core OpenFault) (old new : Rows)
    → Opens h number old (begun r) → IfOk r (IsOf h number) → OnOk r (X × IsSame new (after_start h number old))
    → IfOk r (IsStoredIn new)
start_stored h number X (Err fault) old new opens of saved = tt
start_stored h number X (Ok core) old new opens of saved =
    subst (λ (x : Hierarchy). IsStored x (number_of core) (station_of core).grants new) (sym of.tree)
    (subst (λ n. IsStored h n (station_of core).grants new) (sym of.number)
    (subst (IsStored h number (station_of core).grants) (sym (fun_ext saved.1))
    (opens_stored h number old (station_of core) opens)))

-- a restart is one of what the station kept
pub start_restarts : (h : Hierarchy) (number : ℕ) (before : Core) (rows : Rows) (r : Result Core OpenFault)
    → h ≡ tree_of before → number ≡ number_of before → IsBetween 1 (station_count (tree_of before)) (number_of before)
    → IsStoredIn rows before → Opens h number rows (begun r)
    → Restarts (tree_of before) (number_of before) (station_of before).grants (begun r)
start_restarts h number before rows r tree own there stored opens =
    only_restarts (tree_of before) (number_of before) (station_of before).grants rows there stored (begun r)
    (subst (λ (x : Hierarchy). Opens x (number_of before) rows (begun r)) tree
    (subst (λ n. Opens h n rows (begun r)) own opens))

-- what is found after a stop in a step
pub stop_restarts : (h : Hierarchy) (number : ℕ) (s : Station) (e : Event) (before found : Rows)
    (r : Result Station OpenFault) → IsTree h → IsBetween 1 (station_count h) number → IsStored h number s.grants before
    → IsSame found before ⊎ IsSame found (with_saved (after_event h number s e).saved before)
    → Opens h number found r
    → Restarts h number s.grants r ⊎ Restarts h number (after_event h number s e).station.grants r
stop_restarts h number s e before found r tree there stored (inl same) opens =
    inl (only_restarts h number s.grants before there stored r
    (subst (λ (x : Rows). Opens h number x r) (fun_ext same) opens))
stop_restarts h number s e before found r tree there stored (inr same) opens =
    inr (only_restarts h number (after_event h number s e).station.grants
    (with_saved (after_event h number s e).saved before) there (event_stored h number s before e tree stored) r
    (subst (λ (x : Rows). Opens h number x r) (fun_ext same) opens))
