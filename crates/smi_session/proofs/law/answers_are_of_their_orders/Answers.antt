use Rattle.smi_session.proofs.Stepping.{answers}
use Rattle.smi_session.proofs.law.answers_are_of_their_orders.Goals as goal

pub returns : goal.returns
returns c = answers
