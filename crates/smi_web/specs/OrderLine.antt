-- Which lines are orders, and who has given them.
use Rattle.std.specs.Prelude.{ℕ, nat_le, ◌-◌, ◌==◌, ◌&&◌, ◌||◌, not, Bool, true, false, List, length, take, drop}
use Rattle.std.specs.Prelude.{Option, Some, None, is_some, position, Result, Ok, Err, codes}
use Rattle.std.specs.List.{list_all}
use Rattle.std.specs.Option.{option_map_or}
use Rattle.smi_tree.specs.Hierarchy.{Hierarchy}
use Rattle.smi_tree.specs.declared.fault.Fault.{Fault}
use Rattle.smi_protocol.specs.declared.item.Item.{Item}
use Rattle.smi_protocol.specs.declared.item.Item.TheVariants as item
use Rattle.smi_protocol.specs.declared.item.Deed.TheVariants as deed
use Rattle.smi_schedule.specs.Line.{item_in}
use Rattle.smi_history.specs.Text.{is_plain, rest_of}

-- an operator orders
abbrev pub is_order : Result (Option Item) Fault → Bool
is_order (Ok (Some (item.Do (deed.Order operator what)))) = true
is_order (Ok (Some (item.Do (deed.Report device state)))) = false
is_order (Ok (Some (item.Do (deed.Deliver number)))) = false
is_order (Ok (Some (item.Do (deed.Recent before)))) = false
is_order (Ok (Some (item.Do (deed.Tick station)))) = false
is_order (Ok (Some (item.Restart station))) = false
is_order (Ok (Some (item.Stop station moment what))) = false
is_order (Ok (Some (item.Fail station plan what))) = false
is_order (Ok None) = false
is_order (Err fault) = false

abbrev pub is_digit : ℕ → Bool
is_digit byte = nat_le 48 byte && nat_le byte 57

-- one to sixteen digits: the number of an order, as its tag has it
abbrev pub is_number : List ℕ → Bool
is_number text = nat_le 1 (length text) && (nat_le (length text) 16 && list_all is_digit text)

-- the word, a blank, and the number of an order
abbrev pub is_withdrawal : List ℕ → Bool
is_withdrawal line = option_map_or is_number (rest_of (codes "withdraw ") line) false

-- the place of the first `#`, which no order has
abbrev pub mark_in : List ℕ → Option ℕ
mark_in line = position (λ byte. byte == 35) line

-- what ends one byte before the first `#`: the whole line, if it has none
abbrev pub order_in : List ℕ → List ℕ
order_in line = option_map_or (λ place. take (place - 1) line) (mark_in line) line

-- what follows ` # ` after the order
abbrev pub name_in : List ℕ → Option (List ℕ)
name_in line = rest_of (codes " # ") (drop (length (order_in line)) line)

-- 1 to 32 bytes without `#`
abbrev pub is_name : List ℕ → Bool
is_name text = nat_le 1 (length text) && (nat_le (length text) 32 && not (is_some (mark_in text)))

-- after the order comes a name, or there is no `#`
abbrev pub ends_well : List ℕ → Bool
ends_well line = option_map_or is_name (name_in line) (not (is_some (mark_in line)))

-- an order of an operator of the tree as schedules and consoles have it, or what withdraws an order
abbrev pub is_order_alone : Hierarchy → List ℕ → Bool
is_order_alone h order = is_withdrawal order || is_order (item_in h order)

-- one plain line: an order, and maybe after it who has given it
abbrev pub is_order_line : Hierarchy → List ℕ → Bool
is_order_line h line = list_all is_plain line && (ends_well line && is_order_alone h (order_in line))
