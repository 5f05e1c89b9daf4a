-- What a line of a schedule lets happen.
use Rattle.std.specs.Prelude.{ℕ, nat_lt, ok_or, List, [], ◌∷◌, length, Option, Some, None, Result, Ok, Err}
use Rattle.std.specs.Prelude.{if◌then◌else◌}
use Rattle.smi_base.specs.declared.trees.TheConstants.{MOST_BYTES_OF_A_LINE}
use Rattle.smi_tree.specs.Fault.{◌>>=◌}
use Rattle.smi_tree.specs.Text.{words}
use Rattle.smi_tree.specs.File.{is_comment}
use Rattle.smi_tree.specs.Hierarchy.{Hierarchy}
use Rattle.smi_tree.specs.declared.fault.Fault.{Fault}
use Rattle.smi_tree.specs.declared.fault.Fault.TheVariants.{UnknownWord, LineTooLong}
use Rattle.smi_protocol.specs.declared.item.Item.{Item}
use Rattle.smi_schedule.specs.Words.{line_word}
use Rattle.smi_schedule.specs.Said.{said_of}
use Rattle.smi_schedule.specs.Known.{known}

-- a line without words, or one that begins with #, is skipped
abbrev pub item_by : Hierarchy → List (List ℕ) → Result (Option Item) Fault
item_by h [] = Ok None
item_by h (word ∷ more) =
    if is_comment word then Ok None
    else (do
      which ← ok_or (line_word word) UnknownWord
      said ← said_of which more
      item ← known h said
      Ok (Some item))

-- no line is longer than 200 bytes
unfoldable pub item_in : Hierarchy → List ℕ → Result (Option Item) Fault
item_in h line = if nat_lt MOST_BYTES_OF_A_LINE (length line) then Err LineTooLong else item_by h (words line)
