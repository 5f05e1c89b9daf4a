-- The text of the lines that a running node prints and no trace has.
use Rattle.std.specs.Prelude.{ℕ, List, [], ◌∷◌, Option, Some, None, codes}
use Rattle.std.specs.Fmt.{decimal}
use Rattle.smi_grant.specs.declared.Shown.{Shown}
use Rattle.smi_protocol.specs.declared.order.Order.{Order}
use Rattle.smi_protocol.specs.declared.order.Told.{Told}
use Rattle.smi_tree.specs.Hierarchy.{Hierarchy}
use Rattle.smi_schedule.specs.Text.{line_of, shown_words, with_words}
use Rattle.smi_schedule.specs.TraceWords.{answer_words, object_word, operator_word, order_words}

-- a report, and how it ended
abbrev pub report_text : Hierarchy → Told → List ℕ
report_text h told = line_of (with_words (codes "told") (order_words h told.order))
    (answer_words h told.code told.asked)

-- what a board shows of an object
abbrev pub board_text : Hierarchy → ℕ → Option Shown → List ℕ
board_text h object None = line_of (codes "board") (object_word h object ∷ codes "none" ∷ [])
board_text h object (Some shown) = line_of (codes "board") (shown_words h shown)

-- an operator's order that is not answered yet, and since how many seconds
abbrev pub waiting_text : Hierarchy → ℕ → Order → ℕ → List ℕ
waiting_text h operator order seconds =
    line_of (with_words (codes "way") (operator_word h operator ∷ order_words h order)) (decimal seconds ∷ [])
