use Rattle.smi_station_grants.proofs.load.put.Goals as goal

pub returns-in-Boot-clause-grants : goal.returns-in-Boot-clause-grants
returns-in-Boot-clause-grants c = rw c.in-Boot.is c.put_boot.ensures.grants

pub returns-in-Domain-clause-grants : goal.returns-in-Domain-clause-grants
returns-in-Domain-clause-grants c = rw c.in-Domain.is c.restore_domain.ensures.grants

pub returns-in-Operator-clause-grants : goal.returns-in-Operator-clause-grants
returns-in-Operator-clause-grants c = rw c.in-Operator.is c.restore_operator.ensures.grants
