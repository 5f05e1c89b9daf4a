use Rattle.std.proofs.Common.{Bool, Err, refl, subst}
use Rattle.smi_protocol.specs.declared.event.StepFault.TheVariants as fault
use Rattle.smi_station.specs.Readers.{Whole}
use Rattle.smi_node.specs.Linked.{shown_by}
use Rattle.smi_screen.specs.Looking.{NotesTaken, View, view}
use Rattle.smi_screen.proofs.Looks.{taken_so}
use Rattle.smi_screen.proofs.observer.Observer.deliver.Goals as goal

pub returns-in-Ok : goal.returns-in-Ok
returns-in-Ok g c =
    let shows = shown_by g.L.DatagramLink.received g.L.DatagramLink.handed g.L.DatagramLink.failures
    g.L.DatagramLink.receives in
    let between : View (Whole g.row.S.Denot)
    = view c.carry.new.station (shows c.carry.new.link) c.carry.new.self.picture in
    let after : View (Whole g.row.S.Denot)
    = view c.carry.new.station (shows c.carry.new.link) c.record_taken.new.picture in (
      _,
      refl,
      c.in-Ok.made,
      between,
      c.in-Ok.ensures,
      subst (λ (is : Bool). NotesTaken is c.args.bytes.now c.args.self.now.now between after) c.is_taken.ensures
          (taken_so c.is_taken.result c.args.bytes.now c.args.self.now.now c.carry.new.station (shows c.carry.new.link)
          c.carry.new.self.picture c.record_taken.new.picture c.record_taken.ensures),
    )

pub returns-in-Err : goal.returns-in-Err
returns-in-Err g c =
    let shows = shown_by g.L.DatagramLink.received g.L.DatagramLink.handed g.L.DatagramLink.failures
    g.L.DatagramLink.receives in
    let after : View (Whole g.row.S.Denot)
    = view c.carry.new.station (shows c.carry.new.link) c.carry.new.self.picture in
    (_, refl, Err fault.Stopped, after, c.in-Err.ensures, refl)
