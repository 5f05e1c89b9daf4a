use Rattle.std.proofs.Common.{List, Ok, refl, subst}
use Rattle.smi_rows.specs.Store.{Saved, found_in}
use Rattle.smi_protocol.specs.Loading.{Opens}
use Rattle.smi_station.specs.Core.{station_of}
use Rattle.smi_world.proofs.Opened.{first_is}
use Rattle.smi_world.proofs.opening.first_post.Goals as goal

pub returns-in-Ok : goal.returns-in-Ok
returns-in-Ok c =
    first_is c.args.tree.now c.args.number (record { station = c.in-Ok.station; is_down = _ }) refl
    (subst (λ (list : List Saved). Opens c.args.tree.now c.args.number (found_in list)
    (Ok (station_of c.in-Ok.station.core))) c.new.ensures.list (c.in-Ok.ensures.opens tt)) c.in-Ok.ensures.of
    (c.in-Ok.ensures.stored tt)
