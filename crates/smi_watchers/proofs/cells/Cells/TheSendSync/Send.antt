use denote.Param.Send.{IsSend}
use Rattle.smi_watchers.proofs.Crosses.{cells_send}
use Rattle.smi_watchers.specs.contracts.cells.Cells.{the_row}

pub send : IsSend the_row
send = cells_send
