use Rattle.std.proofs.Common.{sym, ◌∙◌}
use Rattle.smi_station_grants.specs.GrantTable.{grants_of}
use Rattle.smi_station_decide.proofs.Heard.{ending_planned, going_on_planned}
use Rattle.smi_station_decide.proofs.tell.parent_told.Goals as goal

pub returns-then-ends-clause-plan : goal.returns-then-ends-clause-plan
returns-then-ends-clause-plan c =
    rw (
      c.settled_record.ensures,
      c.gathered_with-code.ensures,
      c.gathered.ensures,
      c.record-standing.ensures,
      c.told-link.ensures,
      c.link.ensures,
    )
    (ending_planned c.args.kept.now.tree c.args.kept.now.number (grants_of c.args.kept.now) c.args.parent
    c.args.child c.args.news.now
    (record { least = c.requires.least; most = c.requires.most }) c.requires.child
    (rw (c.told-link.ensures, c.link.ensures) at (sym c.ends.ensures ∙ c.if-ends.true)))

pub returns-else-ends-clause-plan : goal.returns-else-ends-clause-plan
returns-else-ends-clause-plan c =
    rw (
      c.gathered_with-code.ensures,
      c.gathered.ensures,
      c.record-standing.ensures,
      c.told-link.ensures,
      c.link.ensures,
    )
    (going_on_planned c.args.kept.now.tree c.args.kept.now.number (grants_of c.args.kept.now) c.args.parent
    c.args.child c.args.news.now
    (record { least = c.requires.least; most = c.requires.most }) c.requires.child
    (rw (c.told-link.ensures, c.link.ensures) at (sym c.ends.ensures ∙ c.if-ends.false)))
