use Rattle.std.proofs.Common.{refl}
use Rattle.std.specs.Arc.{arc_value}
use Rattle.smi_console.specs.Running.{OpensOn}
use Rattle.smi_console.proofs.node.open_and_serve.Goals as goal

pub returns-in-Ok : goal.returns-in-Ok
returns-in-Ok g c =
    let s = g.S.Stable in
    let o = c.open.ensures in
    let opens : OpensOn {S = g.row.S.Denot} s.is_honest s.is_open s.rows s.may_find s.saves s.failures s.doubts
    (arc_value c.args.setup.now.tree) c.args.setup.now.station c.args.store c.open.result
    = rw (← c.deref.ensures) (record {
      opens = o.opens;
      of = o.of;
      stranger = o.stranger;
      stored = o.stored;
      saved = o.saved;
      kept = o.kept;
      unsure = o.unsure;
      crash = o.crash;
      honest = o.honest;
      once = o.saves;
      failed = o.failures;
      cause = o.cause;
      calm = o.calm;
      doubt = o.doubt;
      sure = o.sure;
      fault = o.fault;
    }) in (
      c.open.result,
      opens,
      rw c.in-Ok.is (
        c.serve_with_board-served.new.station,
        c.serve_with_board-served.result,
        c.serve_with_board-served.ensures,
        c.report_exit-status.ensures,
        c.into_stable.ensures,
      ),
    )

pub returns-in-Err : goal.returns-in-Err
returns-in-Err g c =
    let s = g.S.Stable in
    let o = c.open.ensures in
    let opens : OpensOn {S = g.row.S.Denot} s.is_honest s.is_open s.rows s.may_find s.saves s.failures s.doubts
    (arc_value c.args.setup.now.tree) c.args.setup.now.station c.args.store c.open.result
    = rw (← c.deref.ensures) (record {
      opens = o.opens;
      of = o.of;
      stranger = o.stranger;
      stored = o.stored;
      saved = o.saved;
      kept = o.kept;
      unsure = o.unsure;
      crash = o.crash;
      honest = o.honest;
      once = o.saves;
      failed = o.failures;
      cause = o.cause;
      calm = o.calm;
      doubt = o.doubt;
      sure = o.sure;
      fault = o.fault;
    }) in
    (c.open.result, opens, rw c.in-Err.is (c.opening_fault.ensures, refl {a = c.in-Err.store}))
