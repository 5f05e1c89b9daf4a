-- What the parts of a turn answer.
use Rattle.std.specs.Prelude.{ℕ, ◌≡◌, ◌+◌, ◌<◌, Bool, true, false, List, length, Some, None, Result, Ok, Err}
use Rattle.smi_node.specs.declared.node.CarryFault.{CarryFault}
use Rattle.smi_node.specs.Carried.{Node}
use Rattle.smi_node.specs.Served.{AreFailed, Carrying, Coming, Hears, TakesTurns, Turns, is_failed, most_faults}
use Rattle.smi_node.specs.declared.node.CarryFault.TheVariants as carry
use Rattle.smi_node.specs.declared.turns.ServeFault.{ServeFault}
use Rattle.smi_node.specs.declared.turns.ServeFault.TheVariants as serve

-- something came and was carried; the answer is whether it was a fault of the link
abbrev pub HearsSo : {T : Type 0} → Carrying T → Node T → Node T → Result Bool CarryFault → Type 0
HearsSo C before after (Ok failed) = (coming : Coming) × (failed ≡ is_failed coming) × Hears C coming before after None
HearsSo C before after (Err f) = (coming : Coming) × Hears C coming before after (Some f)

-- a turn was made, or ended in a fault
abbrev pub TurnsSo : {T : Type 0} → Carrying T → List ℕ → Node T → Node T → Result Bool CarryFault → Type 0
TurnsSo C operators before after (Ok failed) =
    (coming : Coming) × (failed ≡ is_failed coming) × Turns C operators coming before after None
TurnsSo C operators before after (Err f) = (coming : Coming) × Turns C operators coming before after (Some f)

-- this many faults in a row, after one more turn
abbrev pub in_a_row : ℕ → Bool → ℕ
in_a_row faults true = faults + 1
in_a_row faults false = 0

-- a fault of a carry ends the service
abbrev pub ended_by : CarryFault → ServeFault
ended_by carry.Stopped = serve.Stopped
ended_by carry.Memory = serve.Memory

-- this many turns were made, the newest of them this many faults, and not too many
pub record MadeTurns {T : Type 0} (C : Carrying T) (operators : List ℕ) (turns faults : ℕ) (before after : Node T)
    : Type 0 where
  pub comings : List Coming
  pub count : length comings ≡ turns
  pub path : TakesTurns C operators comings before after
  pub row : AreFailed faults comings
  pub few : faults < most_faults
