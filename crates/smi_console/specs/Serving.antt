-- How long a node serves, and what that comes to.
use Rattle.std.specs.Prelude.{ℕ, zero, suc, ◌≡◌, ◌⊎◌, ◌<◌, ◌≤◌, List, Result, Ok, Err}
use Rattle.smi_rows.specs.Store.{Rows, IsSame, IfSure, IfUnsure, IfFailed, IfCalm}
use Rattle.smi_rows.specs.declared.stable.StoreFault.{StoreFault}
use Rattle.smi_station.specs.Readers.{Whole}
use Rattle.smi_node.specs.Carried.{Edges, Node, StepsTo, node}
use Rattle.smi_node.specs.Observed.{Seen}
use Rattle.smi_node.specs.Served.{Serves, carrying}
use Rattle.smi_node.specs.declared.turns.ServeFault.{ServeFault}
use Rattle.smi_console.specs.declared.exit.StartError.{StartError}
use Rattle.smi_console.specs.declared.station_loop.TheConstants.{TURNS_AT_ONCE}
use Rattle.smi_console.specs.declared.station_loop.Turns.{Turns}
use Rattle.smi_console.specs.declared.station_loop.Turns.TheVariants.{Count, Endless}

-- The log of a store was copied into its file, or the store was shut by that: all that is said of `copy_log`.
pub record CopiesLog {S : Type 0} (is_honest is_open : S → Type 0) (rows : S → Rows) (may_find : S → Rows → Type 0)
    (saves failures doubts : S → ℕ) (before after : S) (r : Result (Unit {0}) StoreFault) : Type 0 where
  pub stays_open : is_honest after → is_open before → IfSure r (is_open after)
  pub kept : is_honest after → is_open before → is_open after → IsSame (rows after) (rows before)
  pub crash : is_honest after → is_open before → (found : Rows) → may_find after found → IsSame found (rows before)
  pub honest : is_honest after → is_honest before
  pub saves_same : saves after ≡ saves before
  pub failed : failures before ≤ failures after
  pub cause : IfFailed r (failures before < failures after)
  pub calm : IfCalm r (failures after ≡ failures before)
  pub doubt : IfUnsure r (doubts before < doubts after)
  pub sure : IfSure r (doubts after ≡ doubts before)

-- a station is left as it is, but that its log may have been copied
abbrev pub KeepsAll : {S : Type 0} (is_honest is_open : S → Type 0) (rows : S → Rows) (may_find : S → Rows → Type 0)
    (saves failures doubts : S → ℕ) → Whole S → Whole S → Type 0
KeepsAll is_honest is_open rows may_find saves failures doubts before after =
    (after ≡ before)
    ⊎ ((after.core ≡ before.core) × (r : Result (Unit {0}) StoreFault)
    × CopiesLog is_honest is_open rows may_find saves failures doubts before.store after.store r)

-- How a node is served.
pub record Serving (T : Type 0) : Type 1 where
  -- this many turns may lead from one node to another, with this end
  pub Makes : ℕ → Node T → Node T → Result (Unit {0}) ServeFault → Type 0
  -- what may become of its station between two rounds
  pub Rests : T → T → Type 0

-- as a station on a store is served for these operators
abbrev pub serving : {S : Type 0} (is_honest is_open : S → Type 0) (rows : S → Rows) (may_find : S → Rows → Type 0)
    (saves failures doubts : S → ℕ) (operators : List ℕ) → Serving (Whole S)
serving is_honest is_open rows may_find saves failures doubts operators = record {
  Makes = λ turns before after r.
      Serves (carrying (StepsTo is_honest is_open rows may_find saves failures doubts) operators) operators turns before
      after r;
  Rests = KeepsAll is_honest is_open rows may_find saves failures doubts;
}

-- only the station of a node may differ, and so
abbrev pub RestsAt : {T : Type 0} → Serving T → Node T → Node T → Type 0
RestsAt V before after = (after ≡ record before { station = after.station }) × V.Rests before.station after.station

-- as many turns as are made at once, so often, and each time all of them, and a rest
abbrev pub ServesOn : {T : Type 0} → Serving T → ℕ → Node T → Node T → Type 0
ServesOn V zero before after = after ≡ before
ServesOn {T} V (suc times) before after =
    (between : Node T) × (served : Node T) × ServesOn V times before between
    × V.Makes TURNS_AT_ONCE between served (Ok tt) × RestsAt V served after

-- so many turns; or turn after turn, until a fault
abbrev pub ServesFor : {T : Type 0} → Serving T → Turns → Node T → Node T → Result (Unit {0}) ServeFault → Type 0
ServesFor V (Count turns) before after r = V.Makes turns before after r
ServesFor V Endless before after (Ok u) = ⊥
ServesFor {T} V Endless before after (Err f) =
    (times : ℕ) × (between : Node T) × ServesOn V times before between × V.Makes TURNS_AT_ONCE between after (Err f)

-- a station is served so, with some link, some seats and some board, before some observer
abbrev pub IsServed : {T : Type 0} → Serving T → Turns → T → T → Result (Unit {0}) ServeFault → Type 0
IsServed V turns before after r =
    (first : Edges) × (last : Edges) × (seen : Seen) × (sees : Seen)
    × ServesFor V turns (node before first seen) (node after last sees) r

-- a station is served, or left as it is
abbrev pub IsServedIfStarted : {T : Type 0} → Serving T → Turns → T → T
    → Result (Result (Unit {0}) ServeFault) StartError → Type 0
IsServedIfStarted V turns before after (Ok r) = IsServed V turns before after r
IsServedIfStarted V turns before after (Err error) = after ≡ before
