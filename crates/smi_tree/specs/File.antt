-- What the lines of a tree file make, or the first faulty one.
use Rattle.std.specs.Prelude.{ℕ, ◌≡◌, ◌+◌, ◌==◌, ◌&&◌, nat_lt, not, Bool, true, false, List, [], ◌∷◌, length, ok_or}
use Rattle.std.specs.Prelude.{codes, Result, Ok, Err, if◌then◌else◌}
use Rattle.std.specs.Str.{bytes_eq}
use Rattle.std.specs.Str.Lines.{lines}
use Rattle.smi_base.specs.declared.trees.TheConstants.{MOST_BYTES_OF_A_FILE, MOST_BYTES_OF_A_LINE}
use Rattle.smi_tree.specs.Text.{words}
use Rattle.smi_tree.specs.Fault.{◌>>=◌, fault_code}
use Rattle.smi_tree.specs.Declaration.{keyword_of}
use Rattle.smi_tree.specs.Hierarchy.{Hierarchy, undeclared}
use Rattle.smi_tree.specs.Additions.{with_words_of}
use Rattle.smi_tree.specs.declared.fault.Fault.{Fault}
use Rattle.smi_tree.specs.declared.fault.Fault.TheVariants.{UnknownWord, TreeLine, LineTooLong, FileTooLong}
use Rattle.smi_tree.specs.declared.fault.Fault.TheVariants.{Incomplete}
use Rattle.smi_tree.specs.declared.fault.LineRefusal.{LineRefusal}
use Rattle.smi_tree.specs.declared.fault.LineRefusal.TheVariants as refusal
use Rattle.smi_tree.specs.declared.fault.TreeFault.{TreeFault}
use Rattle.smi_tree.specs.declared.fault.TreeFault.TheVariants.{Line, Memory}

-- a comment begins with #
abbrev pub is_comment : List ℕ → Bool
is_comment [] = false
is_comment (b ∷ bs) = b == 35

abbrev pub is_tree : List ℕ → Bool
is_tree word = bytes_eq word (codes "tree")

-- whether the `tree` line has come
abbrev pub is_begun : Hierarchy → Bool
is_begun h = not (h.number == 0)

-- the `tree` line is the first, and there is no second
abbrev pub is_out_of_place : Hierarchy → List ℕ → Bool
is_out_of_place h word = if is_begun h then is_tree word else not (is_tree word)

-- what the words of a line make of the hierarchy of the lines above it
unfoldable pub with_words : Hierarchy → List (List ℕ) → Result Hierarchy Fault
with_words h [] = Ok h
with_words h (word ∷ more) =
    if is_comment word then Ok h
    else (if is_out_of_place h word then Err TreeLine
    else (do
      keyword ← ok_or (keyword_of word) UnknownWord
      with_words_of h keyword more))

-- no line is longer than 200 bytes
unfoldable pub with_line : Hierarchy → List ℕ → Result Hierarchy Fault
with_line h line = if nat_lt MOST_BYTES_OF_A_LINE (length line) then Err LineTooLong else with_words h (words line)

-- a fault of the line of this number
abbrev pub at_line : ℕ → Fault → TreeFault
at_line number fault = Line number (fault_code fault)

-- the refusal of the line of this number
abbrev pub refused_at : ℕ → LineRefusal → TreeFault
refused_at number (refusal.Faulty fault) = at_line number fault
refused_at number refusal.Memory = Memory

-- what is made of a line's result and of the lines after it
abbrev pub go_on : ℕ → (Hierarchy → Result Hierarchy TreeFault) → Result Hierarchy Fault → Result Hierarchy TreeFault
go_on number next (Ok h) = next h
go_on number next (Err fault) = Err (at_line number fault)

-- what lines make of a hierarchy, the first of them having this number; the first faulty line ends it
unfoldable pub with_lines : ℕ → Hierarchy → List (List ℕ) → Result Hierarchy TreeFault
with_lines number h [] = Ok h
with_lines number h (line ∷ more) = go_on number (λ next. with_lines (number + 1) next more) (with_line h line)

abbrev pub has_one : {X : Type 0} → List X → Bool
has_one [] = false
has_one (x ∷ xs) = true

-- there is a station, an operator, a state, an action and a domain
abbrev pub is_complete : Hierarchy → Bool
is_complete h =
    has_one h.station_names && (has_one h.operator_names
    && (has_one h.state_names && (has_one h.action_names && has_one h.domain_names)))

-- the end of the file
abbrev pub ended : Result Hierarchy TreeFault → Result Hierarchy TreeFault
ended (Ok h) = if is_complete h then Ok h else Err (at_line 0 Incomplete)
ended (Err fault) = Err fault

-- the hierarchy of a tree file, or its first fault
unfoldable pub tree_of : List ℕ → Result Hierarchy TreeFault
tree_of bytes =
    if nat_lt MOST_BYTES_OF_A_FILE (length bytes) then Err (at_line 0 FileTooLong)
    else ended (with_lines 1 undeclared (lines bytes))

-- A result is what reading gives, unless memory ran out.
abbrev pub Reads : Result Hierarchy TreeFault → Result Hierarchy TreeFault → Type 0
Reads (Ok h) reading = reading ≡ Ok h
Reads (Err Memory) reading = Unit {0}
Reads (Err (Line number code)) reading = reading ≡ Err (Line number code)

-- What reading left of a hierarchy is what it gives, unless memory ran out.
abbrev pub Fills : {X : Type 0} → Hierarchy → Result X TreeFault → Result Hierarchy TreeFault → Type 0
Fills new (Ok done) reading = Reads (Ok new) reading
Fills new (Err fault) reading = Reads (Err fault) reading
