use Rattle.std.proofs.Common.{◌≡◌, Option, Some, None, refl, ◌∙◌}
use Rattle.std.specs.Prelude.{option_map}
use Rattle.std.proofs.lemmas.Iterator.Consumers.{nth_from_yields_List, YieldsList-from_first}
use Rattle.smi_watchers.specs.declared.watcher.Watcher.{Watcher}
use Rattle.smi_watchers.proofs.watchers.Watchers.nth.Goals as goal

as_it_is : (o : Option Watcher) → o ≡ option_map (λ (w : Watcher). w) o
as_it_is None = refl
as_it_is (Some w) = refl

pub returns-clause-entry : goal.returns-clause-entry
returns-clause-entry c =
    as_it_is c.nth.result
    ∙ nth_from_yields_List {v = λ (w : Watcher). w} c.nth.result c.nth.new.self c.args.i c.nth.ensures.ran
    (YieldsList-from_first (λ (w : Watcher). w) (λ s. s) _ c.walk.ensures.entries)
