-- How a schedule ends, as an exit status tells it.
use Rattle.std.specs.Prelude.{ℕ, List}
use Rattle.smi_tree.specs.Hierarchy.{Hierarchy}
use Rattle.smi_world.specs.Streaming.{ending_of}
use Rattle.smi_world.specs.declared.streaming.Streamed.{Streamed}
use Rattle.smi_world.specs.declared.streaming.Streamed.TheVariants as streamed

-- a line of it is faulty
abbrev pub IsFaulty : Streamed → Type 0
IsFaulty (streamed.Faulty number code) = Unit {0}
IsFaulty streamed.Ended = ⊥
IsFaulty streamed.ReadFault = ⊥
IsFaulty streamed.WriteFault = ⊥
IsFaulty streamed.Memory = ⊥

-- a line of these is faulty
abbrev pub HasFault : Hierarchy → List (List ℕ) → Type 0
HasFault h ls = IsFaulty (ending_of h ls)

-- the exit status of each end
abbrev pub status_of : Streamed → ℕ
status_of streamed.Ended = 0
status_of (streamed.Faulty number code) = 1
status_of streamed.ReadFault = 3
status_of streamed.WriteFault = 3
status_of streamed.Memory = 4
