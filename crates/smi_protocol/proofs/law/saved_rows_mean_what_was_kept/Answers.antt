use Rattle.smi_protocol.proofs.RowsMean.{saved_means}
use Rattle.smi_protocol.proofs.law.saved_rows_mean_what_was_kept.Goals as goal

pub returns : goal.returns
returns c = saved_means
