-- The text of a journal's lines.
use Rattle.std.specs.Prelude.{ℕ, ◌≡◌, ◌++◌, List, [], ◌∷◌}
use Rattle.std.specs.Fmt.{decimal}
use Rattle.smi_tree.specs.Hierarchy.{Hierarchy}
use Rattle.smi_schedule.specs.Text.{entry_text}
use Rattle.smi_schedule.specs.TraceWords.{station_word}
use Rattle.smi_replay.specs.declared.line.JournalLine.{JournalLine}
use Rattle.smi_replay.specs.declared.line.Says.{Says}
use Rattle.smi_replay.specs.declared.line.Says.TheVariants as says

-- when, at which station and in which boot, each with a blank after it
abbrev pub head_text : Hierarchy → List ℕ → ℕ → ℕ → List ℕ
head_text h time station boot = ((time ++ 32 ∷ station_word h station) ++ 32 ∷ decimal boot) ++ 32 ∷ []

-- words say an entry only if they are its text, which ends in a line feed
abbrev pub IsSaid : Hierarchy → List ℕ → Says → Type 0
IsSaid h words (says.Entry x) = words ++ 10 ∷ [] ≡ entry_text h x
IsSaid h words (says.Stands d) = Unit {0}
IsSaid h words (says.Link l) = Unit {0}
IsSaid h words (says.Pending p) = Unit {0}
IsSaid h words (says.State shown) = Unit {0}
IsSaid h words (says.Seen shown) = Unit {0}
IsSaid h words (says.Continues s b) = Unit {0}
IsSaid h words says.Ends = Unit {0}
IsSaid h words says.Console = Unit {0}

-- a line is a time, the station and the boot, and then what it says
pub record IsLine (h : Hierarchy) (line : List ℕ) (it : JournalLine) : Type 0 where
  pub time : List ℕ
  pub words : List ℕ
  pub whole : line ≡ head_text h time it.station it.boot ++ words
  pub said : IsSaid h words it.says
