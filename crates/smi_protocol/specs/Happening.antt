-- An event of a station, and what it leaves.
use Rattle.std.specs.Prelude.{ℕ, List, map, Option, Some, None}
use Rattle.smi_grant.specs.declared.Command.{Command}
use Rattle.smi_grant.specs.declared.Command.TheVariants.{Do, Include, Exclude, Manual, Ignore}
use Rattle.smi_grant.specs.Record.{Standing}
use Rattle.smi_message.specs.Message.{Message}
use Rattle.smi_protocol.specs.declared.order.Order.{Order}
use Rattle.smi_protocol.specs.declared.order.Order.TheVariants as order
use Rattle.smi_protocol.specs.declared.order.Told.{Told}
use Rattle.smi_protocol.specs.declared.order.Mark.{Mark}
use Rattle.smi_protocol.specs.declared.order.Answer.{Answer}
use Rattle.smi_protocol.specs.declared.entry.Entry.{Entry}
use Rattle.smi_protocol.specs.declared.entry.Entry.TheVariants as entry

-- a datagram comes, an operator orders, a device reports its state, or time passes
pub data Happening : Type 0 where
  Comes : Message → Happening
  Orders : (operator : ℕ) → Order → Happening
  Reports : (device : ℕ) → (state : ℕ) → Happening
  Ticks : Happening

-- the command that an order gives to a domain
abbrev pub order_of : ℕ → Command → Order
order_of d (Do a) = order.Do d a
order_of d (Include t) = order.Include d t
order_of d (Exclude t) = order.Exclude d t
order_of d (Manual t) = order.Manual d t
order_of d (Ignore t) = order.Ignore d t

-- an order with its code, and the record if it asked for one
abbrev pub told : Order → ℕ → Option Standing → Told
told what code asked = record { order = what; code = code; asked = asked }

-- a command of a grant
abbrev pub mark : ℕ → ℕ → ℕ → Mark
mark d e n = record { domain = d; epoch = e; number = n }

-- an operator is told the code of an order
abbrev pub answer : ℕ → Order → ℕ → Answer
answer o what code = record { operator = o; told = told what code None; mark = None }

-- an operator who asked is told the record
abbrev pub answer_asked : ℕ → ℕ → Standing → Answer
answer_asked o d r = record { operator = o; told = told (order.Ask d) 0 (Some r); mark = None }

-- an operator is told the code of a command that was issued
abbrev pub answer_command : ℕ → ℕ → ℕ → ℕ → Command → ℕ → Answer
answer_command o d e n c code =
    record { operator = o; told = told (order_of d c) code None; mark = Some (mark d e n) }

-- what an answer leaves in the trace
abbrev pub told_entry : Answer → Entry
told_entry a = entry.Told a.operator a.told

-- what answers leave in the trace, one after the other
abbrev pub told_entries : List Answer → List Entry
told_entries answers = map told_entry answers
