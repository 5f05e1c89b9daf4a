use Rattle.smi_audit.proofs.Begun.{begun_audited}
use Rattle.smi_audit.proofs.audit.Audit.new.Goals as goal

pub returns-clause-safe : goal.returns-clause-safe
returns-clause-safe c = begun_audited _ c.args.tree.now c.in_ok-domains.ensures c.in_ok-states.ensures
