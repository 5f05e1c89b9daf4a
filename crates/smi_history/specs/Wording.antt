-- What was seen, as a line.
use Rattle.std.specs.Prelude.{ℕ, ◌++◌, List, codes}
use Rattle.std.specs.Fmt.{decimal}
use Rattle.smi_grant.specs.declared.Holder.{Holder}
use Rattle.smi_grant.specs.declared.Holder.TheVariants as holder
use Rattle.smi_grant.specs.declared.Phase.{Phase}
use Rattle.smi_grant.specs.declared.Phase.TheVariants as phase
use Rattle.smi_grant.specs.declared.state.Shown.{Shown}
use Rattle.smi_grant.specs.Record as grants
use Rattle.smi_tree.specs.Hierarchy.{Hierarchy}
use Rattle.smi_schedule.specs.TraceWords.{domain_word, operator_word, state_word}

-- the version of a state
abbrev pub version_text : Shown → List ℕ
version_text shown = codes " " ++ decimal shown.version.boot ++ codes "." ++ decimal shown.version.sequence

-- a state that was shown: its version, and its name
abbrev pub shown_text : Hierarchy → Shown → List ℕ
shown_text h shown = version_text shown ++ codes " " ++ state_word h shown.state

-- who holds a domain
abbrev pub holder_text : Hierarchy → Holder → List ℕ
holder_text h holder.Free = codes " free"
holder_text h (holder.Operator o) = codes " operator " ++ operator_word h o
holder_text h (holder.Domain d) = codes " domain " ++ domain_word h d

abbrev pub phase_word : Phase → List ℕ
phase_word phase.Settled = codes " settled"
phase_word phase.Busy = codes " busy"

-- its last command, whether that has ended, and how
abbrev pub last_text : grants.Standing → List ℕ
last_text r = codes " " ++ decimal r.last ++ phase_word r.phase ++ codes " " ++ decimal r.outcome

-- who holds it, since which epoch, and its last command
abbrev pub record_text : Hierarchy → grants.Standing → List ℕ
record_text h r = holder_text h r.holder ++ codes " " ++ decimal r.epoch ++ last_text r
