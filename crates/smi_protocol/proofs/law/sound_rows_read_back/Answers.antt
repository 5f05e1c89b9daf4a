use Rattle.smi_protocol.proofs.RowsRead.{domain_reads, operator_reads}
use Rattle.smi_protocol.proofs.law.sound_rows_read_back.Goals as goal

pub returns-clause-domains : goal.returns-clause-domains
returns-clause-domains c = λ h g number d tree sound. domain_reads h tree g sound number d

pub returns-clause-operators : goal.returns-clause-operators
returns-clause-operators c = λ h g number o tree sound. operator_reads h tree g sound number o
