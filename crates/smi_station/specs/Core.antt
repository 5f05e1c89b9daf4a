-- A station as it is kept: the half of its grants, the half of its display, and whether it has stopped.
use Rattle.std.specs.Prelude.{ℕ, ◌≡◌, Bool, true, false, Result, Ok, Err, IfOk, OnOk, OnErr, List}
use Rattle.smi_tree.specs.Hierarchy.{Hierarchy}
use Rattle.smi_station_grants.specs.GrantTable.{Kept, grants_of}
use Rattle.smi_station_display.specs.Displayed.{Displayed, display_of}
use Rattle.smi_protocol.specs.Display.{Station}
use Rattle.smi_message.specs.Message.{Message}
use Rattle.smi_rows.specs.Store.{Rows}
use Rattle.smi_station_grants.specs.Stored.{IsStored}
use Rattle.smi_protocol.specs.Sending.{MaySend}
use Rattle.smi_protocol.specs.Sound.{In, IsSound}
use Rattle.smi_protocol.specs.SoundDisplay.{MayChange}
use Rattle.smi_protocol.specs.Tidy.{IsTidy}
use Rattle.smi_protocol.specs.Step.{Out, Outcome, nothing_out}
use Rattle.smi_protocol.specs.declared.event.Heard.{Heard}
use Rattle.smi_protocol.specs.declared.fault.OpenFault.{OpenFault}
use Rattle.smi_protocol.specs.declared.event.StepFault.{StepFault}
use Rattle.smi_protocol.specs.declared.event.StepFault.TheVariants.{Memory, Stopped}
use Rattle.smi_protocol.specs.declared.event.Heard.TheVariants.{Same}

pub record Core : Type 0 where
  pub kept : Kept
  pub displayed : Displayed
  pub is_stopped : Bool

-- the station that two halves are
abbrev pub station_with : Kept → Displayed → Bool → Station
station_with k d stopped = record { grants = grants_of k; display = display_of d; is_stopped = stopped }

abbrev pub station_of : Core → Station
station_of c = station_with c.kept c.displayed c.is_stopped

-- the halves are one station's in one boot, and its grants are sound
pub record AreHalves (k : Kept) (d : Displayed) : Type 0 where
  pub tree : d.tree ≡ k.tree
  pub number : d.number ≡ k.number
  pub boot : d.published.boot ≡ k.boot
  pub sound : IsSound k.tree (grants_of k)

-- its lists of watchers are tidy, and each object of a station that runs may change once more
pub record IsCore (c : Core) : Type 0 where
  pub halves : AreHalves c.kept c.displayed
  pub tidy : IsTidy c.kept.tree (display_of c.displayed)
  pub room : c.is_stopped ≡ false → MayChange (display_of c.displayed)

abbrev pub core_with : Kept → Displayed → Bool → Core
core_with k d stopped = record { kept = k; displayed = d; is_stopped = stopped }

-- the tree and the number of the station
abbrev pub tree_of : Core → Hierarchy
tree_of c = c.kept.tree

abbrev pub number_of : Core → ℕ
number_of c = c.kept.number

-- A step of the station results in what is defined: the station afterwards, what it made of the event, and what is
-- handed out; on a fault nothing is.
pub record Steps (before after : Core) (o : Outcome) (handed : Out) (r : Result Heard StepFault) : Type 0 where
  pub station : OnOk r (station_of after ≡ o.station)
  pub heard : IfOk r (λ heard. heard ≡ o.heard)
  pub out : OnOk r (handed ≡ o.out)
  pub cleared : OnErr r (handed ≡ nothing_out)
  pub tree : tree_of after ≡ tree_of before
  pub number : number_of after ≡ number_of before

-- a step has stopped its station
abbrev pub is_stopped_by : Result Heard StepFault → Bool
is_stopped_by (Err Stopped) = true
is_stopped_by _ = false

-- a watch saves nothing, and may want memory
abbrev pub same_or_memory : {X Y : Type 0} → Result X Y → Result Heard StepFault
same_or_memory (Ok x) = Ok Same
same_or_memory (Err fault) = Err Memory

-- it is that station of this tree
pub record IsOf (h : Hierarchy) (n : ℕ) (c : Core) : Type 0 where
  pub tree : tree_of c ≡ h
  pub number : number_of c ≡ n

-- the station after a start
abbrev pub begun : Result Core OpenFault → Result Station OpenFault
begun (Ok core) = Ok (station_of core)
begun (Err fault) = Err fault

-- the station may send each of these datagrams
abbrev pub MaySendAll : Core → List Message → Type 0
MaySendAll c ms = (m : Message) → In m ms → MaySend (tree_of c) (number_of c) (station_of c) m

-- these rows say all that the station keeps: started on them, it is what it is now, one boot later
abbrev pub IsStoredIn : Rows → Core → Type 0
IsStoredIn rows c = IsStored (tree_of c) (number_of c) (station_of c).grants rows
