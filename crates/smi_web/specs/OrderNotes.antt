-- What is new among the orders of a page, for the history.
use Rattle.std.specs.Prelude.{ℕ, ◌++◌, List, [], ◌∷◌, Option, Some, None, codes, if◌then◌else◌}
use Rattle.std.specs.Fmt.{decimal}
use Rattle.std.specs.List.{flat_map}
use Rattle.smi_history.specs.Looking.{note_of}
use Rattle.smi_history.specs.LookTime.{clock_at, is_new}
use Rattle.smi_history.specs.declared.history.HistoryNote.{HistoryNote}
use Rattle.smi_history.specs.declared.look_time.LookTime.{LookTime}
use Rattle.smi_web.specs.declared.acknowledgements.Acknowledgement.{Acknowledgement}
use Rattle.smi_web.specs.declared.page_orders.PageOrders.{PageOrders}
use Rattle.smi_web.specs.declared.relayed_order.RelayedOrder.{RelayedOrder}
use Rattle.smi_web.specs.declared.relayed_order.Reply.{Reply}

-- words, a number, and a text, if they are of a time that is new
abbrev pub numbered_notes : ℕ → LookTime → ℕ → List ℕ → ℕ → List ℕ → List HistoryNote
numbered_notes from m at word number text =
    if is_new from m at then note_of (clock_at m at) (word ++ decimal number ++ codes " " ++ text) ∷ [] else []

-- how an order ended
abbrev pub end_notes : ℕ → LookTime → ℕ → Option Reply → List HistoryNote
end_notes from m number None = []
end_notes from m number (Some answer) = numbered_notes from m answer.at (codes "ended ") number answer.text

-- an order was given, and how it ended
abbrev pub order_notes : ℕ → LookTime → RelayedOrder → List HistoryNote
order_notes from m e =
    numbered_notes from m e.given (codes "given ") e.number e.line ++ end_notes from m e.number e.answer

-- an alarm was acknowledged, and who has done so
abbrev pub worded_note : LookTime → ℕ → List ℕ → List ℕ → HistoryNote
worded_note m at word text = note_of (clock_at m at) (word ++ text)

unfoldable pub acknowledged_word : List ℕ
acknowledged_word = codes "acknowledged "

abbrev pub alarm_note : LookTime → Acknowledgement → HistoryNote
alarm_note m a = worded_note m a.at acknowledged_word a.text

abbrev pub alarm_notes : ℕ → LookTime → Acknowledgement → List HistoryNote
alarm_notes from m a = if is_new from m a.at then alarm_note m a ∷ [] else []

-- the orders, the oldest first, and then the alarms
abbrev pub page_notes : Option PageOrders → ℕ → LookTime → List HistoryNote
page_notes None from m = []
page_notes (Some o) from m =
    flat_map (order_notes from m) o.relay.orders ++ flat_map (alarm_notes from m) o.acknowledged
