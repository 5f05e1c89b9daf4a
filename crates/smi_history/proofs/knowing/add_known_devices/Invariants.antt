use Rattle.std.proofs.Common.{◌≡◌, ◌++◌}
use Rattle.smi_history.specs.Looking.{each}
use Rattle.smi_history.specs.Knowing.{known_of_device}
use Rattle.smi_history.proofs.knowing.add_known_devices.Given as goal

-- what is known of those so far is there
abbrev pub invariant-loop-place : goal.invariant-loop-place
invariant-loop-place l =
    l.notes.items ≡ l.initial.notes.items
    ++ each (known_of_device l.looking.tree.now l.looking.picture.now l.looking.moment) l.place
