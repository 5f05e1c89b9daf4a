-- The keeper's verdicts as changes.
use Rattle.std.proofs.Common.{◌≡◌, ℕ, List, true, refl, sym, subst}
use Rattle.std.specs.Prelude.{if◌then◌else◌}
use Rattle.smi_grant.specs.declared.Command.{Command}
use Rattle.smi_grant.specs.declared.Holder.{Holder}
use Rattle.smi_grant.specs.Keeper.{admits, started}
use Rattle.smi_grant.specs.Record.{Standing}
use Rattle.smi_grant.specs.declared.Verdict.{Verdict}
use Rattle.smi_grant.specs.declared.Verdict.TheVariants.{New, Same}
use Rattle.smi_tree.specs.Hierarchy.{Hierarchy}
use Rattle.smi_tree.specs.Lawful.{IsBetween}
use Rattle.smi_tree.specs.Lookups.{domain_count}
use Rattle.smi_protocol.specs.Grants.{Grants}
use Rattle.smi_protocol.specs.Children.{own_code}
use Rattle.smi_protocol.specs.GrantStep.{waits_for_children}
use Rattle.smi_protocol.specs.Keeping.{commanded, decided, run_comes}
use Rattle.smi_station_grants.specs.declared.change.Change.TheVariants.{Ran}
use Rattle.smi_protocol.specs.declared.Entry.{Entry}
use Rattle.smi_station_decide.specs.Begun.{Begins}
use Rattle.smi_station_grants.specs.Commanded.{AreSo}
use Rattle.smi_station_grants.specs.declared.commanded.CommandedChild.{CommandedChild}
use Rattle.smi_station_decide.specs.declared.run.BegunCommand.{BegunCommand}
use Rattle.smi_station_decide.specs.Plans.{Plans, handed_by}

pub verdict_planned : (h : Hierarchy) (number : ℕ) (g : Grants) (from d : ℕ) (note : Entry) (v : Verdict)
    → IsBetween 1 (domain_count h) d
    → Plans h number g (decided h number g from d note v) (handed_by d v)
verdict_planned h number g from d note (New r) inside = record { grants = refl; row = refl; lawful = inside }
verdict_planned h number g from d note Same inside = record { grants = refl; row = refl; lawful = tt }

-- a command that is admitted runs
pub run_planned : (h : Hierarchy) (number : ℕ) (g : Grants) (from d : ℕ) (who : Holder) (e n : ℕ) (c : Command)
    (xs : List CommandedChild) → IsBetween 1 (domain_count h) d → AreSo h g d c xs
    → admits (g.records d) who e n ≡ true
    → Plans h number g (run_comes h number g from d who e n c)
    (Ran d c (started (g.records d) (waits_for_children h (commanded h g d c) d) (own_code h g d c))
    (if waits_for_children h (commanded h g d c) d then own_code h g d c else 0) xs)
run_planned h number g from d who e n c xs inside so ok =
    record { grants = rw ok refl; row = rw ok refl; lawful = (inside, so) }

-- and becomes what has begun
pub begun_planned : (h : Hierarchy) (number : ℕ) (g : Grants) (from d : ℕ) (who : Holder) (e n : ℕ) (c : Command)
    (b : BegunCommand) → IsBetween 1 (domain_count h) d → Begins h g d who e n c b
    → Plans h number g (run_comes h number g from d who e n c) (Ran d c b.standing b.code b.children)
begun_planned h number g from d who e n c b inside begins =
    subst (λ (r : Standing). Plans h number g (run_comes h number g from d who e n c) (Ran d c r b.code b.children))
    (sym begins.1.standing)
    (subst (λ code. Plans h number g (run_comes h number g from d who e n c)
    (Ran d c (started (g.records d) (waits_for_children h (commanded h g d c) d) (own_code h g d c)) code b.children))
    (sym begins.1.code)
    (run_planned h number g from d who e n c b.children inside begins.1.children begins.0))
