use Rattle.std.proofs.Common.{ap, sym, ◌∙◌, subst}
use Rattle.smi_tree.specs.Hierarchy.{Hierarchy}
use Rattle.smi_station_grants.specs.GrantTable.{grants_of}
use Rattle.smi_protocol.specs.Sound.{IsSound}
use Rattle.smi_protocol.specs.Step.{Out}
use Rattle.smi_protocol.specs.Ticking.{tick_noticed}
use Rattle.smi_station_output.specs.Out.{with_notice}
use Rattle.smi_station_display.specs.Displayed.{display_of}
use Rattle.smi_station.proofs.Quiet.{ticked_out, ticked_room, ticked_station}
use Rattle.smi_station.proofs.reports.tick.Goals as goal

pub tick-requires-clause-sound : goal.tick-requires-clause-sound
tick-requires-clause-sound c = subst (λ (h : Hierarchy). IsSound h (grants_of c.args.kept.now))
    (sym c.requires.halves.tree) c.requires.halves.sound

pub returns-clause-station : goal.returns-clause-station
returns-clause-station c = ticked_station c.args.kept.now c.args.display.now c.tick.new.self c.requires.halves
    c.tick.ensures.display

pub returns-clause-out : goal.returns-clause-out
returns-clause-out c =
    let d = c.args.display.now in
    ticked_out c.args.kept.now d c.tick.new.self c.requires.halves c.tick.ensures.display c.tick.new.out
    (c.tick.ensures.sent
    ∙ ap (λ (o : Out). with_notice o (tick_noticed d.tree d.number (grants_of c.args.kept.now) (display_of d)))
    c.requires.empty)

pub returns-clause-room : goal.returns-clause-room
returns-clause-room c = ticked_room c.args.kept.now c.args.display.now c.tick.new.self c.requires.halves
    c.tick.ensures.display c.requires.room
