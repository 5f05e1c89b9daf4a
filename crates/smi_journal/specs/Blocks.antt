-- The lines of a block: what a station has loaded, or what stands.
use Rattle.std.specs.Prelude.{ℕ, List, [], ◌∷◌, codes}
use Rattle.std.specs.Fmt.{decimal}
use Rattle.smi_grant.specs.Record.{Standing}
use Rattle.smi_grant.specs.declared.holder.Holder.{Holder}
use Rattle.smi_grant.specs.declared.state.Shown.{Shown}
use Rattle.smi_rows.specs.declared.mode.Mode.{Mode}
use Rattle.smi_schedule.specs.TraceWords.{domain_word, holder_word, mode_word, object_word, phase_word}
use Rattle.smi_schedule.specs.TraceWords.{state_word, version_word}
use Rattle.smi_tree.specs.Hierarchy.{Hierarchy}
use Rattle.smi_journal.specs.Words.{line_text}

-- a domain: its epoch, its holder, the last command that ran, and how that stands
abbrev pub stands_text : Hierarchy → List ℕ → ℕ → Standing → List ℕ
stands_text h prefix d r =
    line_text prefix (codes "stands") (domain_word h d ∷ decimal r.epoch ∷ holder_word h r.holder ∷ decimal r.last
    ∷ phase_word r.phase ∷ decimal r.outcome ∷ [])

-- a link that is not held: what it is, and the epoch that it knows
abbrev pub known_text : Hierarchy → List ℕ → Holder → ℕ → List ℕ → ℕ → List ℕ
known_text h prefix who d what e =
    line_text prefix (codes "link") (holder_word h who ∷ domain_word h d ∷ what ∷ decimal e ∷ [])

-- a link that is held: the epoch of the grant, how many commands were issued, the mode of the child
abbrev pub held_text : Hierarchy → List ℕ → Holder → ℕ → ℕ → ℕ → Mode → List ℕ
held_text h prefix who d e n m =
    line_text prefix (codes "link") (holder_word h who ∷ domain_word h d ∷ codes "held" ∷ decimal e ∷ decimal n
    ∷ mode_word m ∷ [])

-- the newest state of an object
abbrev pub shown_text : Hierarchy → List ℕ → List ℕ → Shown → List ℕ
shown_text h prefix first s =
    line_text prefix first (object_word h s.object ∷ version_word s.version ∷ state_word h s.state ∷ [])
