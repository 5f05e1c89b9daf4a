use Rattle.std.proofs.Common.{◌≤◌, ap, length}
use Rattle.smi_view.specs.Accepting.{Views}
use Rattle.smi_view.proofs.LastStates.{last_set}
use Rattle.smi_view.proofs.view.View.accept.Goals as goal

pub returns-clause-last : goal.returns-clause-last
returns-clause-last c =
    let table = ap (λ (v : Views). v.table) c.self.view_is in
    let most : c.args.shown.object ≤ length c.self.inside.table.items = rw table c.requires.most in
    rw (c.from.ensures, ← table) (last_set c.self.inside.table.items c.args.shown.object c.args.shown
    c.requires.least most)
