use Rattle.std.proofs.Common.{sym, ◌∙◌}
use Rattle.smi_publish.specs.Publishing.{device_objects}
use Rattle.smi_station_display.specs.Displayed.{display_of}
use Rattle.smi_station.proofs.Passing.{unchanged_shown}
use Rattle.smi_station.proofs.object_update.move_devices.Goals as goal

pub returns-in-None-clause-changes : goal.returns-in-None-clause-changes
returns-in-None-clause-changes c =
    let d = c.args.display.now in
    rw (c.in-None.is)
    (c.new.ensures
    ∙ sym (unchanged_shown d.published.boot (display_of d).conditions (device_objects d.tree c.args.domain)))
