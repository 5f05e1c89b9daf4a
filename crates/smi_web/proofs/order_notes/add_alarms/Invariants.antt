use Rattle.std.proofs.Common.{◌≡◌, ◌++◌, drop}
use Rattle.std.specs.List.{flat_map}
use Rattle.smi_web.specs.OrderNotes.{alarm_notes}
use Rattle.smi_web.proofs.order_notes.add_alarms.Given as goal

-- with those of the alarms left, all are there
abbrev pub invariant-loop-alarm : goal.invariant-loop-alarm
invariant-loop-alarm l =
    l.notes.items ++ flat_map (alarm_notes l.since.from l.since.moment) (drop l.alarm-index l.alarms)
    ≡ l.initial.notes.items ++ flat_map (alarm_notes l.since.from l.since.moment) l.alarms
