use Rattle.std.proofs.Common.{◌∙◌, List, map, sym, ap, length, get_or, refl}
use Rattle.std.proofs.Math.ListN.{set}
use Rattle.smi_audit.specs.Tables.{seen_before, unseen}
use Rattle.smi_audit.specs.declared.last_shown.LastShown.{LastShown}
use Rattle.smi_audit.proofs.Listing.{so_far, none_yet, all_now, changed_next, in_place_of}
use Rattle.smi_audit.proofs.last_shown.ShownStates.restart.Goals as goal

pub loop-shown-init : goal.loop-shown-init
loop-shown-init c = none_yet seen_before c.deref_mut-shown-items.result.now

pub loop-shown-preserved : goal.loop-shown-preserved
loop-shown-preserved c =
    let xs = c.deref_mut-shown-items.result.now in
    let i = c.loop-shown.shown-index in
    ap (λ (ys : List LastShown). set ys i (seen_before (get_or ys i unseen))) c.loop-shown.invariant
    ∙ changed_next seen_before xs i (seen_before (get_or (so_far seen_before xs i) i unseen)) unseen
    c.loop-shown-test.true refl

pub returns : goal.returns
returns c =
    let was = c.deref_mut-shown-items.ensures.value in
    let same = c.loop-shown.auto.shown-items ∙ ap length was in
    in_place_of c.self.inside.list.items c.loop-shown.shown-items c.self.inside.list.len same
    (sym (ap length was) ∙ c.deref_mut-shown-items.ensures.len)
    ∙ c.loop-shown.invariant
    ∙ all_now seen_before c.deref_mut-shown-items.result.now c.loop-shown.shown-index c.loop-shown-test.false
    ∙ ap (map seen_before) (was ∙ c.self.view_is)
