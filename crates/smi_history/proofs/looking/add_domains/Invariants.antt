use Rattle.std.proofs.Common.{◌≡◌, ◌++◌}
use Rattle.smi_history.specs.Looking.{each, domain_notes}
use Rattle.smi_history.proofs.looking.add_domains.Given as goal

-- the notes so far are there
abbrev pub invariant-loop-place : goal.invariant-loop-place
invariant-loop-place l =
    l.notes.items ≡ l.initial.notes.items
    ++ each (domain_notes l.looking.tree.now l.looking.picture.now l.looking.from l.looking.moment l.silent) l.place
