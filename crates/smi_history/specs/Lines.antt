-- Entries as the lines of a file.
use Rattle.std.specs.Prelude.{ℕ, ◌+◌, ◌*◌, ◌==◌, ◌++◌, take, drop, List, [], ◌∷◌, length, fold, codes}
use Rattle.std.specs.Prelude.{Option, Some, None, option_map, option_and_then, if◌then◌else◌}
use Rattle.std.specs.Fmt as fmt
use Rattle.std.specs.List.{flat_map, list_all}
use Rattle.std.specs.Option.{option_map_or}
use Rattle.smi_tree.specs.Number.{number_within}
use Rattle.smi_history.specs.History.{HistoryState, empty, noted, piece}
use Rattle.smi_history.specs.Text.{is_plain}
use Rattle.smi_history.specs.Parts.{after_mark, before_mark, parts}
use Rattle.smi_history.specs.declared.history.HistoryEntry.{HistoryEntry}
use Rattle.smi_history.specs.declared.history.HistoryNote.{HistoryNote}

-- thirteen decimal digits: seconds since 1970, and three digits of milliseconds
abbrev pub time_of : List ℕ → Option ℕ
time_of word =
    if length word == 13
    then option_and_then (λ seconds. option_map (λ rest. 1_000 * seconds + rest) (number_within 0 999 (drop 10 word)))
    (number_within 0 9_999_999_999 (take 10 word))
    else None

-- the time with which a line begins, and what follows the blank after it
abbrev pub timed_text : List ℕ → Option (ℕ × List ℕ)
timed_text line =
    option_and_then (λ at. option_map (λ rest. (at, rest)) (after_mark 32 line)) (time_of (before_mark 32 line))

abbrev pub plain_note : (ℕ × List ℕ) → Option HistoryNote
plain_note (at, text) = if list_all is_plain text then Some (record { at = at; text = text }) else None

-- the note that a line is
abbrev pub note_in : List ℕ → Option HistoryNote
note_in line = option_and_then plain_note (timed_text line)

-- the time in milliseconds since 1970, a blank, and the text
unfoldable pub entry_line : HistoryEntry → List ℕ
entry_line e = fmt.decimal e.note.at ++ codes " " ++ e.note.text ++ codes "\n"

-- those after a number, as many as are written at a time
abbrev pub lines_text : HistoryState → ℕ → List ℕ
lines_text h number = flat_map entry_line (piece h number)

-- all but the last
abbrev pub whole : List (List ℕ) → List (List ℕ)
whole [] = []
whole (last ∷ []) = []
whole (one ∷ two ∷ more) = one ∷ whole (two ∷ more)

-- the lines that have an end
abbrev pub whole_lines : List ℕ → List (List ℕ)
whole_lines bytes = whole (parts 10 bytes)

-- what a line tells is the newest then, if it is the line of an entry
abbrev pub line_noted : HistoryState → List ℕ → HistoryState
line_noted h line = option_map_or (λ note. noted h note) (note_in line) h

abbrev pub lines_noted : HistoryState → List (List ℕ) → HistoryState
lines_noted h lines = fold line_noted h lines

-- what the lines of a file tell
abbrev pub history_in : List ℕ → HistoryState
history_in bytes = lines_noted empty (whole_lines bytes)
