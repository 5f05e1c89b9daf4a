use Rattle.std.proofs.Common.{◌∙◌, ap, sym}
use Rattle.smi_grant.specs.Keeper.{admits}
use Rattle.smi_grant.specs.Record.{Standing}
use Rattle.smi_station_decide.proofs.run.run_comes.Goals as goal

pub returns-clause-begins : goal.returns-clause-begins
returns-clause-begins c =
    let e = c.in_ok-effect.ensures in (
      ap (λ (r : Standing). admits r c.args.holder c.args.epoch c.args.number) (sym c.record-standing.ensures)
          ∙ sym c.admit.ensures ∙ c.if-not-admit.false,
      record {
        standing = rw (e.busy, e.code, c.record-standing.ensures) at c.started.ensures;
        code = rw (e.busy, e.code) at c.gathered_at_first.ensures;
        children = e.children;
      },
    )
