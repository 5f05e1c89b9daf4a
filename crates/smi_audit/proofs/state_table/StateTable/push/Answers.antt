use Rattle.std.proofs.Common.{◌≡◌, true, sym, subst}
use Rattle.smi_tree.specs.Roles.{has_object}
use Rattle.smi_audit.specs.Kept.{StateTable}
use Rattle.smi_audit.proofs.ShownLists.{passed_push}
use Rattle.smi_audit.proofs.state_table.StateTable.push.Goals as goal

pub returns-clause-passed : goal.returns-clause-passed
returns-clause-passed c =
    let k : StateTable = record {
      tree = c.self.inside.tree.now;
      passed = c.self.inside.passed.items;
      shown = c.self.inside.shown.items;
      boots = c.self.inside.boots.items;
    } in
    let known : has_object k.tree c.args.shown.object ≡ true =
    subst (λ (z : StateTable). has_object z.tree c.args.shown.object ≡ true) (sym c.self.view_is) c.requires.known in
    rw (c.from.ensures, ← c.self.view_is)
    (passed_push k c.self.invariant c.push.result c.args.shown c.push.new.self c.index_mut.result.now known
    (rw (← c.from.ensures) c.index_mut.ensures.value) c.push.ensures)
