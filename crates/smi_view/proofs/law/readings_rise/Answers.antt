use Rattle.smi_view.proofs.Rises.{rises}
use Rattle.smi_view.proofs.law.readings_rise.Goals as goal

pub returns-then-meet : goal.returns-then-meet
returns-then-meet g c = λ rising.
    rw (c.in_ok-first.ensures.row, c.in_ok-second.ensures.row)
    (rises c.read.new.self.seen c.read-2.new.self.seen c.args.board.now.publications c.args.object rising
    c.in_ok-second.ensures.seen (c.meet.ensures.0 c.if-meet.true))
