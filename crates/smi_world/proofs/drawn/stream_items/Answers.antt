use Rattle.std.proofs.Common.{◌+◌, ◌-◌, refl, sym, ap, ◌∙◌, arith}
use Rattle.smi_tree.specs.Hierarchy.{Hierarchy}
use Rattle.smi_schedule.specs.Drawn.{items_drawn, word_of}
use Rattle.smi_schedule.specs.Naming.{has_item}
use Rattle.smi_schedule.proofs.NamedItems.{drawn_named}
use Rattle.smi_world.proofs.Drawing.{all_drawing, drawing_all, drawing_front, drawing_next, drawing_on, first_drawn}
use Rattle.smi_world.proofs.Drawing.{none_drawn}
use Rattle.smi_world.proofs.drawn.stream_items.Goals as goal

pub loop-init : goal.loop-init
loop-init g c = record {
  tree = refl;
  made = λ w is. all_drawing c.args.world.now.tree w c.args.steps (c.args.steps - 0) c.args.drawer.now
      c.args.world.now (g.W.Write.contents c.args.writer.now) (omega arith) is;
}

pub write_item-requires : goal.write_item-requires
write_item-requires g c =
    let named = drawn_named c.tree-tree.result.now c.station_count-stations.ensures.tree (word_of c.loop.drawer) in
    ap (λ (a : Hierarchy). has_item a c.draw-item.result) (c.loop.invariant.tree ∙ sym c.tree-tree.ensures.tree)
    ∙ ap (has_item c.tree-tree.result.now) c.draw-item.ensures.item ∙ named

pub returns-in-Err-clause-prefix : goal.returns-in-Err-clause-prefix
returns-in-Err-clause-prefix g c = λ w is.
    drawing_next _ _ _ _ _ _ _ (c.loop.invariant.made w is) c.loop.world.tree c.draw-item.result
    (items_drawn c.args.world.now.tree (c.args.steps - (c.loop.counter + 1)) c.draw-item.new.self) _
    c.loop.invariant.tree
    (first_drawn c.tree-tree.result.now c.args.world.now.tree (c.args.steps - c.loop.counter)
    (c.args.steps - (c.loop.counter + 1)) c.loop.drawer c.draw-item.new.self c.draw-item.result c.tree-tree.ensures.tree
    (omega arith) c.draw-item.ensures.item c.draw-item.ensures.after)
    c.write_item.ensures.prefix

pub loop-preserved : goal.loop-preserved
loop-preserved g c = record {
  tree = c.in-Ok.ensures.tree ∙ c.loop.invariant.tree;
  made = λ w is.
      drawing_on _ _ _ _ _ _ _ (c.loop.invariant.made w is) c.loop.world.tree c.draw-item.result
      (items_drawn c.args.world.now.tree (c.args.steps - (c.loop.counter + 1)) c.draw-item.new.self) _ _
      c.loop.invariant.tree
      (first_drawn c.tree-tree.result.now c.args.world.now.tree (c.args.steps - c.loop.counter)
      (c.args.steps - (c.loop.counter + 1)) c.loop.drawer c.draw-item.new.self c.draw-item.result
      c.tree-tree.ensures.tree (omega arith) c.draw-item.ensures.item c.draw-item.ensures.after)
      c.in-Ok.ensures.next c.in-Ok.ensures.all;
}

pub returns-clause-all : goal.returns-clause-all
returns-clause-all g c = λ w is. drawing_all _ _ _ _ _ _ _ (c.loop.invariant.made w is)
    (none_drawn c.args.world.now.tree (c.args.steps - c.loop.counter) c.loop.drawer (omega arith))

pub returns-clause-prefix : goal.returns-clause-prefix
returns-clause-prefix g c = λ w is. drawing_front _ _ _ _ _ _ _ (c.loop.invariant.made w is)
    (none_drawn c.args.world.now.tree (c.args.steps - c.loop.counter) c.loop.drawer (omega arith))
