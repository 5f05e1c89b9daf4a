use Rattle.std.proofs.Common.{◌≡◌, ◌+◌, ◌-◌, ◌++◌, Some, map}
use Rattle.std.specs.List.{filter_map, range_with_len}
use Rattle.smi_protocol.specs.declared.item.Line.TheVariants as line
use Rattle.smi_protocol.specs.declared.entry.Entry.TheVariants as entry
use Rattle.smi_publish.specs.Published.{shown_at}
use Rattle.smi_publish.specs.Publishing.{first_condition}
use Rattle.smi_world.specs.Left.{start_entries}
use Rattle.smi_world.proofs.left.push_start.Given as goal

-- the lines so far, and those that are left, are all
abbrev pub invariant-loop-object : goal.invariant-loop-object
invariant-loop-object l =
    l.lines.items
    ++ map line.Entry
    (map entry.Passed (filter_map (shown_at l.boot (first_condition l.tree l.station))
    (range_with_len (l.object + 1) (l.count - l.object))))
    ≡ l.fn.lines.items ++ map line.Entry (start_entries l.tree l.station (Some l.boot))
