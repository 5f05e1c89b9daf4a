use Rattle.std.proofs.Common.{refl}
use Rattle.smi_screen.specs.Running.{OpensOn}
use Rattle.smi_screen.proofs.screen.open_and_look.Goals as goal

pub returns-in-Ok : goal.returns-in-Ok
returns-in-Ok g c =
    let s = g.S.Stable in
    let o = c.open.ensures in
    let opens : OpensOn {S = g.row.S.Denot} s.is_honest s.is_open s.rows s.may_find s.saves s.failures s.doubts
    c.args.tree.now c.args.setup.now.station c.args.store c.open.result
    = record {
      opens = o.opens;
      of = o.of;
      stranger = o.stranger;
      stored = o.stored;
      saved = o.saved;
      kept = o.kept;
      unsure = o.unsure;
      crash = o.crash;
      honest = o.honest;
      once = o.saves;
      failed = o.failures;
      cause = o.cause;
      calm = o.calm;
      doubt = o.doubt;
      sure = o.sure;
      fault = o.fault;
    } in (
      c.open.result,
      opens,
      rw c.in-Ok.is (
        c.look_with_station.new.station,
        c.look_with_station.result,
        c.look_with_station.ensures,
        c.end_of-how.ensures,
        c.into_stable.ensures,
      ),
    )

pub returns-in-Err : goal.returns-in-Err
returns-in-Err g c =
    let s = g.S.Stable in
    let o = c.open.ensures in
    let opens : OpensOn {S = g.row.S.Denot} s.is_honest s.is_open s.rows s.may_find s.saves s.failures s.doubts
    c.args.tree.now c.args.setup.now.station c.args.store c.open.result
    = record {
      opens = o.opens;
      of = o.of;
      stranger = o.stranger;
      stored = o.stored;
      saved = o.saved;
      kept = o.kept;
      unsure = o.unsure;
      crash = o.crash;
      honest = o.honest;
      once = o.saves;
      failed = o.failures;
      cause = o.cause;
      calm = o.calm;
      doubt = o.doubt;
      sure = o.sure;
      fault = o.fault;
    } in
    (c.open.result, opens, rw c.in-Err.is (refl, refl {a = c.in-Err.store}))
