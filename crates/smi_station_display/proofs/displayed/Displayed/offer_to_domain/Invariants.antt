use Rattle.std.proofs.Common.{◌≡◌, ◌-◌, map}
use Rattle.std.specs.List.{filter_map, range_with_len}
use Rattle.smi_command.specs.Link.{due_of}
use Rattle.smi_grant.specs.declared.Holder.TheVariants.{Operator}
use Rattle.smi_protocol.specs.Messages.{requests}
use Rattle.smi_protocol.specs.Ticking.{number_of_due, owed}
use Rattle.smi_protocol.specs.declared.ResendCursor.TheVariants as place
use Rattle.smi_station_display.specs.Sweeping.{offered, sweeping}
use Rattle.smi_station_display.proofs.displayed.Displayed.offer_to_domain.Given as goal

-- what is due so far was offered
abbrev pub invariant-loop-i : goal.invariant-loop-i
invariant-loop-i l =
    offered (sweeping l.sweep l.out)
    (map (λ due. owed (place.Link l.operator l.domain (number_of_due due))
    (requests l.self.tree l.self.number (Operator l.operator) l.domain due))
    (filter_map (due_of l.link) (range_with_len l.i (8 - l.i))))
    ≡ offered (sweeping l.initial.sweep l.initial.out)
    (map (λ due. owed (place.Link l.operator l.domain (number_of_due due))
    (requests l.self.tree l.self.number (Operator l.operator) l.domain due))
    (filter_map (due_of l.link) (range_with_len 0 8)))
