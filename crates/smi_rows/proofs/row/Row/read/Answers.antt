use Rattle.std.proofs.Common.{Ok}
use Rattle.smi_rows.specs.declared.fault.RowFlaw.TheVariants.{Unknown}
use Rattle.smi_rows.specs.Reading.{refused}
use Rattle.smi_rows.proofs.Laws.{reads_row, reads-along, row_is_read, unknown_row, in_range}
use Rattle.smi_rows.proofs.row.Row.read.Goals as goal

pub returns-clause-found : goal.returns-clause-found
returns-clause-found c = reads_row c.args.tree.now c.args.key c.args.bytes.now c.tested.result c.tested.ensures

pub returns-clause-only : goal.returns-clause-only
returns-clause-only c = λ r w. reads-along c.tested.result _ (Ok r)
    (row_is_read c.args.tree.now c.args.key c.args.bytes.now r w) c.tested.ensures

pub returns-clause-unknown : goal.returns-clause-unknown
returns-clause-unknown c = λ r w n. reads-along c.tested.result _ (refused Unknown)
    (unknown_row c.args.tree.now c.args.key c.args.bytes.now r w n) c.tested.ensures

pub returns-clause-out_of_range : goal.returns-clause-out_of_range
returns-clause-out_of_range c = λ is r w. in_range c.args.tree.now c.args.key c.args.bytes.now c.tested.result
    c.tested.ensures is r w
