-- How the orders that were given from a page read.
use Rattle.std.specs.Prelude.{ℕ, Bool, ◌-◌, ◌/◌, ◌++◌, List, [], length, Option, Some, None, codes}
use Rattle.std.specs.Option.{option_map_or}
use Rattle.std.specs.Fmt.{decimal}
use Rattle.smi_tree.specs.Hierarchy.{entry}
use Rattle.smi_web.specs.declared.acknowledgements.Acknowledgement.{Acknowledgement}
use Rattle.smi_web.specs.declared.relayed_order.Reply.{Reply}
use Rattle.smi_web.specs.declared.relayed_order.RelayedOrder.{RelayedOrder}
use Rattle.smi_web.specs.Outcome.{code_of, words_of}
use Rattle.smi_web.specs.OrderRelay.{OrderRelayState, is_waiting}
use Rattle.smi_web.specs.Json.{flag, listed, quoted}

-- when it was answered; now, if it was not
abbrev pub end_of : RelayedOrder → ℕ → ℕ
end_of e now = option_map_or (λ answer. answer.at) e.answer now

-- for how many whole seconds it waited, until now at most
abbrev pub seconds : RelayedOrder → ℕ → ℕ
seconds e now = (end_of e now - e.given) / 1_000

-- a code, and what it means
unfoldable pub code_text : Option ℕ → List ℕ
code_text None = codes ",\"code\":null,\"words\":null"
code_text (Some code) = codes ",\"code\":" ++ decimal code ++ codes ",\"words\":" ++ quoted (words_of code)

-- what the console said, the code in it, and what that means
unfoldable pub answer_text : List ℕ → Option Reply → List ℕ
answer_text line None = codes ",\"answer\":null,\"code\":null,\"words\":null"
answer_text line (Some answer) = codes ",\"answer\":" ++ quoted answer.text ++ code_text (code_of line answer.text)

-- who has given an order, if that is known
unfoldable pub by_text : Option (List ℕ) → List ℕ
by_text None = codes ",\"by\":null"
by_text (Some name) = codes ",\"by\":" ++ quoted name

-- an order, its number, and who has given it
unfoldable pub given_text : RelayedOrder → List ℕ
given_text e = codes "{\"number\":" ++ decimal e.number ++ codes ",\"line\":" ++ quoted e.line ++ by_text e.name

-- for how many seconds it waited or waits, and whether it does
unfoldable pub waiting_text : ℕ → Bool → List ℕ
waiting_text seconds waits = codes ",\"seconds\":" ++ decimal seconds ++ codes ",\"waits\":" ++ flag waits

-- an order, how long it waited, and what was said to it
unfoldable pub errand_text : OrderRelayState → ℕ → RelayedOrder → List ℕ
errand_text r now e =
    given_text e ++ waiting_text (seconds e now) (is_waiting r e) ++ answer_text e.line e.answer ++ codes "}"

abbrev pub errand_or_nothing : OrderRelayState → ℕ → Option RelayedOrder → List ℕ
errand_or_nothing r now None = []
errand_or_nothing r now (Some e) = errand_text r now e

abbrev pub errand_text_at : OrderRelayState → ℕ → ℕ → List ℕ
errand_text_at r now n = errand_or_nothing r now (entry r.orders n)

-- the orders, the oldest first
abbrev pub errands_text : OrderRelayState → ℕ → List ℕ
errands_text r now = codes ",\"orders\":[" ++ listed (codes ",") (errand_text_at r now) (length r.orders)

abbrev pub mode_or_nothing : Option (List ℕ) → List ℕ
mode_or_nothing None = []
mode_or_nothing (Some mode) = quoted mode

abbrev pub mode_text_at : OrderRelayState → ℕ → List ℕ
mode_text_at r n = mode_or_nothing (entry r.modes.known n)

-- a child and its mode each, as the console told them
abbrev pub modes_text : OrderRelayState → List ℕ
modes_text r = codes "],\"modes\":[" ++ listed (codes ",") (mode_text_at r) (length r.modes.known)

-- what is in alarm, who has acknowledged it, and when
unfoldable pub alarm_text : Acknowledgement → List ℕ
alarm_text a = codes "{\"alarm\":" ++ quoted a.text ++ codes ",\"at\":" ++ decimal a.at ++ codes "}"

abbrev pub alarm_or_nothing : Option Acknowledgement → List ℕ
alarm_or_nothing None = []
alarm_or_nothing (Some a) = alarm_text a

abbrev pub alarm_text_at : List Acknowledgement → ℕ → List ℕ
alarm_text_at acknowledged n = alarm_or_nothing (entry acknowledged n)

-- the alarms that were acknowledged, the oldest acknowledgement first
abbrev pub alarms_text : List Acknowledgement → List ℕ
alarms_text acknowledged =
    codes "],\"acknowledged\":[" ++ listed (codes ",") (alarm_text_at acknowledged) (length acknowledged)

-- the modes, and the alarms that were acknowledged
abbrev pub known_text : OrderRelayState → List Acknowledgement → List ℕ
known_text r acknowledged = modes_text r ++ alarms_text acknowledged

-- whether there is a connection with the console, the orders, the modes, and the alarms that were acknowledged
abbrev pub orders_text : OrderRelayState → List Acknowledgement → ℕ → List ℕ
orders_text r acknowledged now =
    codes "{\"console\":" ++ flag r.is_open ++ errands_text r now ++ known_text r acknowledged ++ codes "]}\n"
