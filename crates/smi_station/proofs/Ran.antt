-- A command that runs moves the devices of its domain by its action.
use Rattle.std.proofs.Common.{◌≡◌, ◌∙◌, ℕ, Bool, true, false, Some, None, Result, Ok, Err, refl, ap}
use Rattle.std.specs.Prelude.{if◌then◌else◌, IfOk}
use Rattle.smi_grant.specs.Keeper.{admits}
use Rattle.smi_grant.specs.declared.Command.{Command}
use Rattle.smi_grant.specs.declared.Holder.{Holder}
use Rattle.smi_message.specs.declared.Body.TheVariants as body
use Rattle.smi_tree.specs.Hierarchy.{Hierarchy}
use Rattle.smi_protocol.specs.Grants.{Grants}
use Rattle.smi_station_grants.specs.Change.{runs}
use Rattle.smi_station_grants.specs.declared.change.Change.{Change}
use Rattle.smi_station.specs.Stirring.{action_by, action_in, action_of, action_run}

-- a command that runs moves the devices by its action
ran_if : (h : Hierarchy) (d : ℕ) (c : Command) (b : Bool)
    → action_run h (if b then Some (d, c) else None) ≡ (if b then action_by h d c else None)
ran_if h d c true = refl
ran_if h d c false = refl

pub ran_action : {X : Type 0} (h : Hierarchy) (g : Grants) (d : ℕ) (who : Holder) (e n : ℕ) (c : Command)
    (r : Result Change X)
    → IfOk r (λ x. runs x ≡ (if admits (g.records d) who e n then Some (d, c) else None))
    → IfOk r (λ x. action_in h x ≡ action_of h g (body.Run d who e n c))
ran_action h g d who e n c (Ok x) is = ap (action_run h) is ∙ ran_if h d c (admits (g.records d) who e n)
ran_action h g d who e n c (Err why) is = tt
