use Rattle.smi_audit.specs.Kept.{accounts_of}
use Rattle.smi_audit.proofs.Cleared.{cleared_state}
use Rattle.smi_audit.proofs.domain_table.DomainTable.hand_over.Goals as goal

pub returns-clause-accounts : goal.returns-clause-accounts
returns-clause-accounts c =
    cleared_state (accounts_of c.args.self.now) (accounts_of c.clear_orders.new.self) (accounts_of c.put_state.new.self)
    c.args.domain c.args.state c.clear_orders.ensures.accounts c.put_state.ensures.accounts
