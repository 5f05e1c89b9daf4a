-- Every run of a tree is safe, and so is every schedule.
use Rattle.std.proofs.Common.{List}
use Rattle.smi_tree.specs.Hierarchy.{Hierarchy}
use Rattle.smi_tree.specs.Lawful.{IsTree}
use Rattle.smi_protocol.specs.declared.Entry.{Entry}
use Rattle.smi_protocol.specs.declared.item.Item.{Item}
use Rattle.smi_law.specs.Safe.{Safe}
use Rattle.smi_protocol.specs.Schedule.{World, trace_of}
use Rattle.smi_law.specs.World.{Reaches, past_of}
use Rattle.smi_law.proofs.Bridge.{schedule_runs}
use Rattle.smi_law.proofs.GrantsSafe.{safe_grants}
use Rattle.smi_law.proofs.Parents.{parents_are_lower}
use Rattle.smi_law.proofs.RunsOrdered.{runs_in_order}
use Rattle.smi_law.proofs.RunsSound.{sound_runs}
use Rattle.smi_law.proofs.StatesShown.{shows}

pub run_safe : (h : Hierarchy) → IsTree h → (past : List Entry) (w : World) → Reaches h past w → Safe h past
run_safe h tree past w run = record {
  grants = safe_grants h past w run;
  runs = sound_runs h (parents_are_lower h tree) past w run;
  order = runs_in_order h past w run;
  states = (shows h tree past w run).well;
}

pub schedule_safe : (h : Hierarchy) → IsTree h → (items : List Item) → Safe h (past_of (trace_of h items))
schedule_safe h tree items = let end = schedule_runs h tree items in
    run_safe h tree (past_of (trace_of h items)) end.world end.run
