-- What an item makes of one station: the station then, what it leaves in the trace, and what it sends.
use Rattle.std.specs.Prelude.{ℕ, ◌==◌, true, if◌then◌else◌, List, [], ◌++◌, is_some}
use Rattle.smi_message.specs.Message.{Message, last_boot}
use Rattle.smi_tree.specs.Hierarchy.{Hierarchy}
use Rattle.smi_rows.specs.declared.Plan.{Plan}
use Rattle.smi_rows.specs.declared.Plan.TheVariants as plan
use Rattle.smi_protocol.specs.Display.{Station}
use Rattle.smi_protocol.specs.Happening.{Happening}
use Rattle.smi_protocol.specs.Opening.{opened, opening_entries, saved_only}
use Rattle.smi_protocol.specs.Step.{Outcome, after}
use Rattle.smi_protocol.specs.declared.entry.Entry.{Entry}
use Rattle.smi_protocol.specs.Schedule.{World, Turn, changed, not_stored}

pub record Act : Type 0 where
  pub station : Station
  pub entries : List Entry
  pub sends : List Message

abbrev pub act : Station → List Entry → List Message → Act
act s entries sends = record { station = s; entries = entries; sends = sends }

-- nothing happens
abbrev pub idle : Station → Act
idle s = act s [] []

-- a station that runs makes its step
abbrev pub step_of : Outcome → Act
step_of o = act o.station (o.kept ++ o.after) o.out.datagrams

abbrev pub step_act : Hierarchy → ℕ → Happening → Station → Act
step_act h number what s = if s.is_stopped then idle s else step_of (after h number s what)

-- a station starts once more, while boots are left
abbrev pub restart_act : Hierarchy → ℕ → List Entry → Station → Act
restart_act h number kept s =
    if s.grants.boot == last_boot then act (record s { is_stopped = true }) kept []
    else act (opened h number s.grants) (kept ++ opening_entries h number (opened h number s.grants)) []

-- a station stops after its save, and starts again
abbrev pub stop_act : Hierarchy → ℕ → Happening → Station → Act
stop_act h number what s =
    if s.is_stopped then restart_act h number [] s
    else restart_act h number (after h number s what).kept (saved_only h number s what)

-- a save fails
abbrev pub failed_act : Hierarchy → ℕ → Plan → Happening → Station → Act
failed_act h number plan.Device what s = act s (not_stored what) []
failed_act h number plan.Before what s = act (record s { is_stopped = true }) [] []
failed_act h number plan.After what s = act (saved_only h number s what) (after h number s what).kept []

-- a step that saves nothing can't fail
abbrev pub fail_act : Hierarchy → ℕ → Plan → Happening → Station → Act
fail_act h number how what s =
    if s.is_stopped then idle s
    else (if is_some (after h number s what).saved then failed_act h number how what s
    else step_of (after h number s what))

-- the world in which a station has made this
abbrev pub turn_at : World → ℕ → Act → Turn
turn_at w number a = changed w number a.station a.entries a.sends
