use Rattle.std.proofs.Common.{◌≡◌, fold}
use Rattle.smi_history.specs.History.{noted}
use Rattle.smi_history.proofs.history.History.note_all.Given as goal

-- those so far are noted
abbrev pub invariant-loop-note : goal.invariant-loop-note
invariant-loop-note l = l.self ≡ fold noted l.initial.self l.yielded
