-- An order that was given from a page, and what became of it.
use Rattle.std.specs.Prelude.{ℕ, nat_le, ◌==◌, ◌&&◌, not, ◌++◌, Bool, List, drop, length, codes, Some, None}
use Rattle.std.specs.Prelude.{[], Option, is_some, if◌then◌else◌}
use Rattle.std.specs.Fmt.{decimal}
use Rattle.std.specs.List.{list_all, starts_with}
use Rattle.smi_web.specs.declared.relayed_order.Reply.{Reply}
use Rattle.smi_web.specs.declared.relayed_order.RelayedOrder.{RelayedOrder}
use Rattle.smi_web.specs.OrderLine.{name_in, order_in}
use Rattle.smi_history.specs.Text.{is_plain}

-- a tag of its own for each number
abbrev pub tag_of : ℕ → List ℕ
tag_of number = codes "@" ++ decimal number ++ codes " "

-- a line is an order, and maybe who has given it
abbrev pub order_of : (number : ℕ) → List ℕ → (now : ℕ) → RelayedOrder
order_of number line now = record {
  number = number;
  tag = tag_of number;
  line = order_in line;
  name = name_in line;
  given = now;
  answer = None;
}

-- a remark that says who has given the order with this tag, if a name is known
unfoldable pub remark_of : List ℕ → Option (List ℕ) → List ℕ
remark_of tag None = []
remark_of tag (Some name) = codes "# " ++ tag ++ codes "name " ++ name ++ codes "\n"

-- what is sent of an order: the remark, and then in a line its tag and the order
abbrev pub sent_of : RelayedOrder → List ℕ
sent_of e = remark_of e.tag e.name ++ e.tag ++ e.line ++ codes "\n"

-- no answer has come, and the connection is still the one on which it was given
abbrev pub is_waiting : ℕ → RelayedOrder → Bool
is_waiting first e = not (is_some e.answer) && nat_le first e.number

-- it waits, and the line begins with its tag
abbrev pub is_answered_by : ℕ → List ℕ → RelayedOrder → Bool
is_answered_by first line e = is_waiting first e && starts_with (λ a b. a == b) line e.tag

-- what the console said, if it is plain text
abbrev pub said : List ℕ → List ℕ
said text = if list_all is_plain text then text else codes "?"

-- the answer that a line is: what follows the tag, and when it came
abbrev pub answer_by : RelayedOrder → List ℕ → ℕ → Reply
answer_by e line now = record { text = said (drop (length e.tag) line); at = now }

abbrev pub answered : List ℕ → ℕ → RelayedOrder → RelayedOrder
answered line now e = record e { answer = Some (answer_by e line now) }
