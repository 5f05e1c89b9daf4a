use Rattle.std.proofs.Common.{◌≡◌, ◌+◌, ◌++◌, Err, true, false, drop, get_or, ap, arith, subst, ◌∙◌}
use Rattle.smi_tree.specs.Hierarchy.{Hierarchy}
use Rattle.smi_protocol.specs.declared.item.Deed.TheVariants as deed
use Rattle.smi_protocol.specs.declared.item.Item.TheVariants as item
use Rattle.smi_protocol.specs.Schedule.{lines_of, turn}
use Rattle.smi_schedule.specs.Naming.{has_item}
use Rattle.smi_world.specs.Posts.{IsAt}
use Rattle.smi_world.specs.Running.{FirstUnnamed}
use Rattle.smi_world.proofs.Runs.{items_next, made_on, seen_on, unnamed_here}
use Rattle.smi_world.proofs.running.run_on.Goals as goal

pub returns-in-Err-NoSuch-clause-no_such : goal.returns-in-Err-NoSuch-clause-no_such
returns-in-Err-NoSuch-clause-no_such c =
    let h = c.args.world.now.tree in
    let i = c.loop-item.item-index in
    let items = c.args.items.now in
    let d = item.Do (deed.Deliver 0) in
    let x = get_or items i d in
    let was = c.loop-item.invariant in
    let number = was.number in
    let not = c.act_into.ensures.unnamed (c.in-Err-NoSuch.is ∙ ap Err c.in-Err-NoSuch.field-0-is) in
    let e : 1 + i ≡ c.loop-item.number + 1 = omega (arith, number) in
    subst (FirstUnnamed h items) e (was.seen.unnamed 1
    (unnamed_here h x (drop i items) (drop (i + 1) items) (items_next items i d c.loop-item-test.true)
    (subst (λ (t : Hierarchy). has_item t x ≡ false) was.tree not)))

pub loop-item-preserved : goal.loop-item-preserved
loop-item-preserved c =
    let h = c.args.world.now.tree in
    let i = c.loop-item.item-index in
    let items = c.args.items.now in
    let d = item.Do (deed.Deliver 0) in
    let x = get_or items i d in
    let was = c.loop-item.invariant in
    let same = items_next items i d c.loop-item-test.true in
    record {
      tree = c.in-Ok.ensures.tree ∙ was.tree;
      number = ap (λ n. n + 1) was.number;
      made = λ w is.
          made_on h c.loop-item.world c.act_into.new.world c.loop-item.lines.items c.act_into.new.lines.items _ x
          (drop i items) (drop (i + 1) items) same
          (λ v at. subst (λ (t : Hierarchy). c.act_into.new.lines.items ≡ c.loop-item.lines.items
          ++ lines_of v (turn t v x)) was.tree (c.in-Ok.ensures.lines v at))
          (λ v at. subst (λ (t : Hierarchy). IsAt c.act_into.new.world (turn t v x).world) was.tree
          (c.in-Ok.ensures.next v at)) (was.made w is);
      seen = seen_on h x items (drop i items) (drop (i + 1) items) i same
          (subst (λ (t : Hierarchy). has_item t x ≡ true) was.tree c.in-Ok.ensures.named) was.seen;
    }
