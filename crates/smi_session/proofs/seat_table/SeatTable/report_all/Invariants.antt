use Rattle.std.proofs.Common.{drop}
use Rattle.smi_session.specs.SeatTable.{ReportsAll, SeatTableState}
use Rattle.smi_session.proofs.seat_table.SeatTable.report_all.Given as goal

-- whatever the others leave, all leave
abbrev pub invariant-loop-will : goal.invariant-loop-will
invariant-loop-will l = (after : SeatTableState)
    → ReportsAll l.now l.session (drop l.will-index l.wills) l.self after
    → ReportsAll l.now l.session l.wills l.fn.self after
