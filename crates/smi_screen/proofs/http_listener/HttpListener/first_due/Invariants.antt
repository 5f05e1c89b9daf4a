use Rattle.std.proofs.Common.{◌<◌}
use Rattle.smi_screen.proofs.http_listener.HttpListener.first_due.Given as goal

-- it is among them
abbrev pub invariant-loop-place : goal.invariant-loop-place
invariant-loop-place l = l.first < l.self.connections
