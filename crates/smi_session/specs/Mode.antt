-- How the domains of a station have their children.
use Rattle.std.specs.Prelude.{ℕ, ◌==◌, ◌++◌, List, [], ◌∷◌, codes, set, Option, Some, None}
use Rattle.std.specs.List.{position}
use Rattle.smi_tree.specs.Hierarchy.{Hierarchy}
use Rattle.smi_schedule.specs.Text.{line_of}
use Rattle.smi_schedule.specs.TraceWords.{object_word}
use Rattle.smi_session.specs.declared.mode.ChildMode.{ChildMode}
use Rattle.smi_session.specs.declared.mode.ChildMode.TheVariants.{Out, Included, Manual, Ignored}
use Rattle.smi_session.specs.declared.mode.ChildState.{ChildState}

abbrev pub word_of : ChildMode → List ℕ
word_of Out = codes "out"
word_of Included = codes "included"
word_of Manual = codes "manual"
word_of Ignored = codes "ignored"

-- a child and how its domain has it
abbrev pub mode_text : Hierarchy → ChildState → List ℕ
mode_text h s = line_of (codes "mode") (object_word h s.child ∷ word_of s.mode ∷ [])

abbrev pub placed : Option ℕ → ChildState → List ChildState → List ChildState
placed (Some place) s states = set states place s
placed None s states = states ++ s ∷ []

-- of each child the newest counts
abbrev pub with_newest : ChildState → List ChildState → List ChildState
with_newest s states = placed (position (λ other. other.child == s.child) states) s states
