use Rattle.std.proofs.Common.{◌∙◌, refl, ap, Err}
use Rattle.smi_station_display.proofs.Listens.{full_left, has_room_at, is_full_at, left_adds}
use Rattle.smi_station_display.proofs.watch.listen.Goals as goal

pub returns-in-Ok-clause-lists : goal.returns-in-Ok-clause-lists
returns-in-Ok-clause-lists c =
    rw (
      c.if-is_newer.true,
      full_left c.args.from c.args.watchers.now.lists c.args.object
          ∙ has_room_at c.args.watchers.now.lists c.args.object c.args.from c.in-Ok.ensures.room,
    )
    c.in-Ok.ensures.lists

pub returns-in-Ok-clause-room : goal.returns-in-Ok-clause-room
returns-in-Ok-clause-room c =
    rw (
      c.if-is_newer.true,
      full_left c.args.from c.args.watchers.now.lists c.args.object
          ∙ has_room_at c.args.watchers.now.lists c.args.object c.args.from c.in-Ok.ensures.room,
    ) refl

pub returns-in-Err-Full-clause-lists : goal.returns-in-Err-Full-clause-lists
returns-in-Err-Full-clause-lists c =
    rw (
      c.if-is_newer.true,
      full_left c.args.from c.args.watchers.now.lists c.args.object
          ∙ is_full_at c.args.watchers.now.lists c.args.object c.args.from
          (c.in-Err-Full.ensures.full (ap Err c.in-Err-Full.field-0-is)),
    )
    (c.in-Err-Full.ensures.after_full (ap Err c.in-Err-Full.field-0-is))

pub returns-in-Err-Full-clause-room : goal.returns-in-Err-Full-clause-room
returns-in-Err-Full-clause-room c =
    rw (
      c.if-is_newer.true,
      full_left c.args.from c.args.watchers.now.lists c.args.object
          ∙ is_full_at c.args.watchers.now.lists c.args.object c.args.from
          (c.in-Err-Full.ensures.full (ap Err c.in-Err-Full.field-0-is)),
    ) refl

pub returns-in-Err-Memory-clause-memory : goal.returns-in-Err-Memory-clause-memory
returns-in-Err-Memory-clause-memory c =
    rw c.if-is_newer.true (left_adds c.args.from c.args.watchers.now.lists c.args.object c.args.echo)
