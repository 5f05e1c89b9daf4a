use Rattle.std.proofs.Common.{◌∙◌, ap, refl}
use Rattle.smi_station_grants.specs.GrantTable.{Kept}
use Rattle.smi_station.specs.Core.{number_of, station_of, tree_of}
use Rattle.smi_world.specs.Coming.{happening}
use Rattle.smi_world.proofs.Stepped.{leaves}
use Rattle.smi_world.proofs.stepping.make.Goals as goal

pub returns-clause-leaves : goal.returns-clause-leaves
returns-clause-leaves c =
    let now = c.args.station.now.core in
    let steps = c.in_ok-step_with.ensures.steps in
    leaves (tree_of now) (number_of now) (station_of now) (happening c.args.what.now) _
    (c.number-left-inside.ensures.value ∙ ap (λ (k : Kept). k.number) c.grants.ensures ∙ steps.same.number)
    refl steps.out
