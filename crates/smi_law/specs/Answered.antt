-- What an operator waits for, and what the operator is told.
use Rattle.std.specs.Prelude.{ℕ, ◌≡◌, ◌==◌, ◌&&◌, ◌++◌, Bool, false, if◌then◌else◌, List, [], ◌∷◌, map}
use Rattle.smi_grant.specs.declared.Holder.TheVariants.{Operator}
use Rattle.smi_grant.specs.Record.{Standing}
use Rattle.smi_message.specs.declared.Body.TheVariants as body
use Rattle.smi_message.specs.Message.{Message}
use Rattle.smi_tree.specs.Hierarchy.{Hierarchy}
use Rattle.smi_command.specs.declared.Link.{Link}
use Rattle.smi_command.specs.declared.Link.TheVariants.{Out, Taking, Held, Dropping}
use Rattle.smi_command.specs.Hearing.{told_heard, told_link}
use Rattle.smi_protocol.specs.Happening.{order_of}
use Rattle.smi_protocol.specs.Hearing.{answers_of, settlements_in}
use Rattle.smi_protocol.specs.Schedule.{World, turn}
use Rattle.smi_protocol.specs.declared.Entry.{Entry}
use Rattle.smi_protocol.specs.declared.Entry.TheVariants as entry
use Rattle.smi_protocol.specs.declared.item.Item.{Item}
use Rattle.smi_protocol.specs.declared.order.Answer.{Answer}
use Rattle.smi_protocol.specs.declared.order.Order.{Order}
use Rattle.smi_protocol.specs.declared.order.Order.TheVariants as order
use Rattle.smi_protocol.specs.declared.order.Told.{Told}
use Rattle.smi_law.specs.World.{Among}

-- the orders about a domain that its link has not answered, the oldest first
abbrev pub orders_waiting : ℕ → Link → List Order
orders_waiting d (Out k) = []
orders_waiting d (Taking s) = order.Take d ∷ []
orders_waiting d (Held e n p) = map (order_of d) p
orders_waiting d (Dropping e) = order.Drop d ∷ []

-- the order is about the operator's link to the domain
abbrev pub is_about : ℕ → Order → Bool
is_about d (order.Take x) = x == d
is_about d (order.Drop x) = x == d
is_about d (order.Do x a) = x == d
is_about d (order.Include x t) = x == d
is_about d (order.Exclude x t) = x == d
is_about d (order.Manual x t) = x == d
is_about d (order.Ignore x t) = x == d
is_about d _ = false

-- what the operator is told about it, in the order of the trace
abbrev pub told_about : ℕ → ℕ → List Entry → List Told
told_about o d [] = []
told_about o d (entry.Told p t ∷ more) =
    if p == o && is_about d t.order then t ∷ told_about o d more else told_about o d more
told_about o d (other ∷ more) = told_about o d more

-- what is told of an answer
abbrev pub told_of : Answer → Told
told_of a = a.told

-- the order that has ended
abbrev pub order_told : Told → Order
order_told t = t.order

-- what an operator is told while the link hears of records that were told of the domain, one after the other
pub data Hears (o d : ℕ) (sent : List Message) (l : Link) : List Told → Link → Type 0 where
  nothing : Hears o d sent l [] l
  hears : {told : List Told} {k : Link} (m : Message) (r : Standing) → Among m sent → m.body ≡ body.Tell d r
      → Hears o d sent l told k
      → Hears o d sent l (told ++ map told_of (answers_of o d k (settlements_in (told_heard k (Operator o) r))))
      (told_link k (Operator o) r)

-- what a list of items leaves in the trace
abbrev pub entries_left : Hierarchy → World → List Item → List Entry
entries_left h w [] = []
entries_left h w (x ∷ more) = (turn h w x).entries ++ entries_left h (turn h w x).world more
