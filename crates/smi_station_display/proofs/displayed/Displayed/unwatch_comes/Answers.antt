use Rattle.std.proofs.Common.{◌≡◌, subst, sym, arith}
use Rattle.std.specs.Prelude.{true}
use Rattle.smi_tree.specs.Roles.{is_kept_by}
use Rattle.smi_protocol.proofs.KeptObjects.{kept_within}
use Rattle.smi_station_display.specs.Displayed.{Displayed}
use Rattle.smi_station_display.proofs.Displays.{unwatch_kept}
use Rattle.smi_station_display.proofs.displayed.Displayed.unwatch_comes.Goals as goal

pub unwatch-requires-clause-object_most : goal.unwatch-requires-clause-object_most
unwatch-requires-clause-object_most c =
    let within = kept_within _ c.self.invariant.tree _ c.args.object
    (subst (λ (k : Displayed). is_kept_by k.tree k.number c.args.object ≡ true) (sym c.self.view_is)
    c.requires.object) in
    let below = within.1 in
    omega (arith, below, c.self.invariant.sound.lists)

pub invariant_of-self : goal.invariant_of-self
invariant_of-self c = unwatch_kept _ c.self.invariant _ c.args.object c.args.from c.args.echo c.unwatch.ensures.lists
