-- What a step leaves in a trace, read off its result.
use Rattle.std.specs.Prelude.{ℕ, ◌&&◌, not, if◌then◌else◌, List, [], ◌∷◌}
use Rattle.smi_grant.specs.Record.{Standing, is_settled}
use Rattle.smi_protocol.specs.declared.entry.Entry.{Entry}
use Rattle.smi_protocol.specs.declared.entry.Entry.TheVariants as entry

-- a command has ended with this record of its domain
abbrev pub at_rest : ℕ → ℕ → ℕ → Standing → List Entry
at_rest d e n r = if is_settled r.phase then entry.Settled d e n r.outcome ∷ [] else []

-- a domain was at work and is no longer
abbrev pub came_to_rest : ℕ → Standing → Standing → List Entry
came_to_rest d old new = if not (is_settled old.phase) && is_settled new.phase
    then entry.Settled d new.epoch new.last new.outcome ∷ [] else []
