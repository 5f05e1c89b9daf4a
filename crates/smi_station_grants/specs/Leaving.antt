-- What a step leaves in the store of a station's rows.
use Rattle.std.specs.Prelude.{ℕ, ◌≡◌, ◌≤◌, ◌<◌, ◌+◌, ◌⊎◌, Result, OnOk, Option}
use Rattle.smi_rows.specs.Store.{Rows, Saved, IsSame}
use Rattle.smi_protocol.specs.declared.event.StepFault.{StepFault}
use Rattle.smi_station_grants.specs.Change.{with_saved}
use Rattle.smi_station_grants.specs.Save.{IfKept, IfKnown, IfStopped, IfCounted, IfUnfailed}

-- A step that saves this row, if any, has this result. While the store is honest: after a step the row is
-- there; if nothing was saved the rows are as before; and if nobody knows, they are one or the other. So are
-- those that an open finds after a stop at any moment, whatever the result, also if the store has shut itself. It
-- saves once at most. The store failed if a step was not stored, or stopped, and else not; and it left a doubt
-- if one stopped, and else not.
pub record Leaves {T X : Type 0} (is_honest is_open : T → Type 0) (rows : T → Rows)
    (may_find : T → Rows → Type 0) (saves failures doubts : T → ℕ) (before after : T) (r : Result X StepFault)
    (row : Option Saved) : Type 0 where
  pub saved : is_honest after → is_open before
      → OnOk r (is_open after × IsSame (rows after) (with_saved row (rows before)))
  pub kept : is_honest after → IfKept r (is_open before → is_open after × IsSame (rows after) (rows before))
  pub unsure : is_honest after → is_open after
      → IfStopped r (IsSame (rows after) (rows before) ⊎ IsSame (rows after) (with_saved row (rows before)))
  pub crash : is_honest after → is_open before → (x : Rows) → may_find after x
      → IsSame x (rows before) ⊎ IsSame x (with_saved row (rows before))
  pub honest : is_honest after → is_honest before
  pub one_save : saves after ≤ saves before + 1
  pub failures_rise : failures before ≤ failures after
  pub cause : IfCounted r (failures before < failures after)
  pub calm : IfUnfailed r (failures after ≡ failures before)
  pub doubt : IfStopped r (doubts before < doubts after)
  pub sure : IfKnown r (doubts after ≡ doubts before)
