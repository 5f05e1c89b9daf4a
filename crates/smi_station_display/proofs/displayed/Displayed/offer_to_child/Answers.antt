use Rattle.std.proofs.Common.{◌∙◌, ◌+◌, ◌-◌, map, ap, sym}
use Rattle.std.specs.List.{filter_map, range_with_len}
use Rattle.smi_command.specs.Link.{due_of}
use Rattle.smi_command.specs.declared.Due.{Due}
use Rattle.smi_grant.specs.declared.Holder.TheVariants.{Domain}
use Rattle.smi_protocol.specs.Messages.{if_any, requests}
use Rattle.smi_protocol.specs.Ticking.{Owed, owed}
use Rattle.smi_protocol.specs.declared.ResendCursor.TheVariants as place
use Rattle.smi_station_display.specs.Sweeping.{Sweeping, offered, sweeping}
use Rattle.smi_station_display.proofs.Sweeps.{due_offered}
use Rattle.smi_station_display.proofs.displayed.Displayed.offer_to_child.Goals as goal

pub loop-i-preserved : goal.loop-i-preserved
loop-i-preserved c =
    let f : Due → Owed = λ due. owed (place.Child c.args.child)
    (requests c.args.self.now.tree c.args.self.now.number (Domain c.args.parent) c.args.child due) in
    let i = c.loop-i.i in
    ap (λ (s : Sweeping). offered s
    (map f (filter_map (due_of c.args.link.now) (range_with_len (i + 1) (8 - (i + 1)))))) c.offer_due_of_child.ensures
    ∙ ap (λ o. offered (offered (sweeping c.loop-i.sweep c.loop-i.out) (map f (if_any o)))
    (map f (filter_map (due_of c.args.link.now) (range_with_len (i + 1) (8 - (i + 1)))))) c.due.ensures
    ∙ sym (due_offered (sweeping c.loop-i.sweep c.loop-i.out) f (due_of c.args.link.now) 8 i c.loop-i-test.true)
    ∙ c.loop-i.invariant
