-- A text that is cut into lines while it is read.
use Rattle.std.specs.Prelude.{ℕ, ◌≡◌, ◌<◌, List, [], ◌∷◌, length, Option, Some, None, IfSome}
use Rattle.std.specs.Str.Lines.{lines}
use Rattle.std.specs.List.{position_or_len}
use Rattle.smi_tree.specs.Text.{is_line_feed}
use Rattle.std.specs.Io.KnownBytes.{prepend_known}
use Rattle.smi_base.specs.declared.trees.TheConstants.{MOST_BYTES_OF_A_LINE}
use Rattle.smi_schedule.specs.declared.lines.Cut.{Cut}
use Rattle.smi_schedule.specs.declared.lines.Cut.TheVariants as cut

-- the line that was cut last, what was read after it, and how many reads are left
pub record Window : Type 0 where
  pub line : List ℕ
  pub rest : List ℕ
  pub reads : ℕ

-- what is left of the text: what was read, and what the reader still has
abbrev pub left : Window → Option (List ℕ) → Option (List ℕ)
left w remaining = prepend_known w.rest remaining

-- no line of it has its end
abbrev pub HasNoLine : List ℕ → Type 0
HasNoLine read = position_or_len is_line_feed read ≡ length read

-- how a text is cut: its first line is taken, and these bytes are left; or it has no line; or its first line is too
-- long
abbrev pub CutsText : Cut → List ℕ → List ℕ → Option (List ℕ) → Type 0
CutsText cut.Line text line None = ⊥
CutsText cut.Line text line (Some later) = lines text ≡ line ∷ lines later
CutsText cut.TooLong text line later = (first : List ℕ) × (more : List (List ℕ)) × (lines text ≡ first ∷ more)
    × (MOST_BYTES_OF_A_LINE < length first)
CutsText cut.End text line later = lines text ≡ []
CutsText cut.ReadFault text line later = Unit {0}
CutsText cut.Memory text line later = Unit {0}

-- the same of a text that is known
abbrev pub Cuts : Cut → Option (List ℕ) → List ℕ → Option (List ℕ) → Type 0
Cuts how text line later = IfSome text (λ known. CutsText how known line later)
