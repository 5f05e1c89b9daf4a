-- The trace of a schedule that is read line by line.
use Rattle.std.specs.Prelude.{ℕ, ◌≡◌, ◌<◌, ◌-◌, ◌^◌, ◌++◌, List, [], length, Option, Some, None, IfSome, Result, Ok}
use Rattle.std.specs.Prelude.{Err}
use Rattle.std.specs.Str.Lines.{lines}
use Rattle.std.specs.Io.KnownBytes.{Appends}
use Rattle.smi_schedule.specs.Lines.{HasNoLine}
use Rattle.smi_tree.specs.Fault.{fault_code}
use Rattle.smi_tree.specs.Hierarchy.{Hierarchy}
use Rattle.smi_tree.specs.declared.fault.Fault.{Fault}
use Rattle.smi_protocol.specs.declared.item.Item.{Item}
use Rattle.smi_protocol.specs.declared.item.Line.{Line}
use Rattle.smi_schedule.specs.Schedule.{first_fault, items_before_fault}
use Rattle.smi_schedule.specs.declared.schedule.ScheduleFault.{ScheduleFault}
use Rattle.smi_schedule.specs.declared.schedule.ScheduleFault.TheVariants as schedule_fault
use Rattle.smi_schedule.specs.Text.{trace_text}
use Rattle.smi_protocol.specs.Schedule.{World, lines_of, trace_of, turn}
use Rattle.smi_world.specs.declared.streaming.Streamed.{Streamed}
use Rattle.smi_world.specs.declared.streaming.Streamed.TheVariants as streamed

-- what is written of these lines of a schedule: the trace of all items before the end or the first faulty line
abbrev pub text_of : Hierarchy → List (List ℕ) → List ℕ
text_of h ls = trace_text h (trace_of h (items_before_fault h ls))

-- how a schedule ends, whose first line has this number: at its first faulty line, or with its last line
abbrev pub ended_by : Option ScheduleFault → Streamed
ended_by None = streamed.Ended
ended_by (Some (schedule_fault.Line number code)) = streamed.Faulty number code
ended_by (Some schedule_fault.Memory) = streamed.Memory

abbrev pub ending_from : ℕ → Hierarchy → List (List ℕ) → Streamed
ending_from number h ls = ended_by (first_fault number h ls)

abbrev pub ending_of : Hierarchy → List (List ℕ) → Streamed
ending_of h ls = ending_from 1 h ls

-- the schedule is done: it has ended, or a line is faulty
abbrev pub IsDone : Streamed → Type 0
IsDone streamed.Ended = Unit {0}
IsDone (streamed.Faulty number code) = Unit {0}
IsDone streamed.ReadFault = ⊥
IsDone streamed.WriteFault = ⊥
IsDone streamed.Memory = ⊥

-- how many lines are looked for at most
abbrev pub most_lines : ℕ
most_lines = 2 ^ 64 - 2

-- of what was read no whole line is left: these lines are made, and bytes without a line feed are before what the
-- reader still has
pub record IsAllMade (input : List ℕ) (made : List (List ℕ)) (unread : List ℕ) : Type 0 where
  pub rest : List ℕ
  pub no_line : HasNoLine rest
  pub text : lines input ≡ made ++ lines (rest ++ unread)

-- A read has failed: of all lines that were read before it, this text is written.
pub record MadeOfRead (input : List ℕ) (unread before now : Option (List ℕ)) (text : List (List ℕ) → List ℕ)
    : Type 0 where
  pub made : List (List ℕ)
  pub all : length made < most_lines → IfSome unread (IsAllMade input made)
  pub written : Appends before now (text made)

-- the world after a lawful line, and the lines that it leaves
abbrev pub world_after : Hierarchy → World → Result (Option Item) Fault → World
world_after h w (Ok None) = w
world_after h w (Ok (Some x)) = (turn h w x).world
world_after h w (Err fault) = w

abbrev pub lines_after : Hierarchy → World → Result (Option Item) Fault → List Line
lines_after h w (Ok None) = []
lines_after h w (Ok (Some x)) = lines_of w (turn h w x)
lines_after h w (Err fault) = []

-- the line of this number has that fault
abbrev pub IsFault : ℕ → Result (Option Item) Fault → Streamed → Type 0
IsFault number (Ok x) how = ⊥
IsFault number (Err fault) how = how ≡ streamed.Faulty number (fault_code fault)
