-- What a schedule line says, with the numbers of the tree for its names. A name that the tree does not have as what the
-- line wants there is a fault.
use Rattle.std.specs.Prelude.{ℕ, ok_or, List, Option, Result, Ok}
use Rattle.smi_tree.specs.Fault.{◌>>=◌}
use Rattle.smi_tree.specs.Name.{number_of}
use Rattle.smi_tree.specs.Hierarchy.{Hierarchy}
use Rattle.smi_tree.specs.Lookups.{object_named}
use Rattle.smi_tree.specs.declared.fault.Fault.{Fault}
use Rattle.smi_tree.specs.declared.fault.Fault.TheVariants.{UnknownName}
use Rattle.smi_protocol.specs.declared.order.Order.{Order}
use Rattle.smi_protocol.specs.declared.order.Order.TheVariants as order
use Rattle.smi_protocol.specs.declared.item.Deed.{Deed}
use Rattle.smi_protocol.specs.declared.item.Deed.TheVariants as deed
use Rattle.smi_protocol.specs.declared.item.Item.{Item}
use Rattle.smi_protocol.specs.declared.item.Item.TheVariants as item
use Rattle.smi_schedule.specs.declared.said.SaidOrder.{SaidOrder}
use Rattle.smi_schedule.specs.declared.said.SaidOrder.TheVariants as said_order
use Rattle.smi_schedule.specs.declared.said.SaidDeed.{SaidDeed}
use Rattle.smi_schedule.specs.declared.said.SaidDeed.TheVariants as said_deed
use Rattle.smi_schedule.specs.declared.said.Said.{Said}
use Rattle.smi_schedule.specs.declared.said.Said.TheVariants as said

-- what is found, or the fault
abbrev pub found : Option ℕ → Result ℕ Fault
found number = ok_or number UnknownName

abbrev pub station : Hierarchy → List ℕ → Result ℕ Fault
station h name = found (number_of h.station_names name)

abbrev pub operator : Hierarchy → List ℕ → Result ℕ Fault
operator h name = found (number_of h.operator_names name)

abbrev pub domain : Hierarchy → List ℕ → Result ℕ Fault
domain h name = found (number_of h.domain_names name)

abbrev pub device : Hierarchy → List ℕ → Result ℕ Fault
device h name = found (number_of h.device_names name)

abbrev pub object : Hierarchy → List ℕ → Result ℕ Fault
object h name = found (object_named h name)

abbrev pub state : Hierarchy → List ℕ → Result ℕ Fault
state h name = found (number_of h.state_names name)

abbrev pub action : Hierarchy → List ℕ → Result ℕ Fault
action h name = found (number_of h.action_names name)

-- an order that names a domain
abbrev pub of_domain : (ℕ → Order) → Hierarchy → List ℕ → Result Order Fault
of_domain make h name = do
  number ← domain h name
  Ok (make number)

-- an order that names an object
abbrev pub of_object : (ℕ → Order) → Hierarchy → List ℕ → Result Order Fault
of_object make h name = do
  number ← object h name
  Ok (make number)

abbrev pub domains : Hierarchy → List ℕ → List ℕ → Result (ℕ × ℕ) Fault
domains h first second = do
  number ← domain h first
  other ← domain h second
  Ok (number, other)

-- an order that names a domain and another one
abbrev pub of_domains : (ℕ → ℕ → Order) → Hierarchy → List ℕ → List ℕ → Result Order Fault
of_domains make h first second = do
  numbers ← domains h first second
  Ok (make numbers.0 numbers.1)

unfoldable pub order_known : Hierarchy → SaidOrder → Result Order Fault
order_known h (said_order.Take d) = of_domain (λ number. order.Take number) h d
order_known h (said_order.Drop d) = of_domain (λ number. order.Drop number) h d
order_known h (said_order.Ask d) = of_domain (λ number. order.Ask number) h d
order_known h (said_order.Do d a) = do
  number ← domain h d
  other ← action h a
  Ok (order.Do number other)
order_known h (said_order.Include d t) = of_domains (λ number other. order.Include number other) h d t
order_known h (said_order.Exclude d t) = of_domains (λ number other. order.Exclude number other) h d t
order_known h (said_order.Manual d t) = of_domains (λ number other. order.Manual number other) h d t
order_known h (said_order.Ignore d t) = of_domains (λ number other. order.Ignore number other) h d t
order_known h (said_order.Watch x) = of_object (λ number. order.Watch number) h x
order_known h (said_order.Unwatch x) = of_object (λ number. order.Unwatch number) h x

unfoldable pub deed_known : Hierarchy → SaidDeed → Result Deed Fault
deed_known h (said_deed.Deliver number) = Ok (deed.Deliver number)
deed_known h (said_deed.Recent before) = Ok (deed.Recent before)
deed_known h (said_deed.Order o what) = do
  number ← operator h o
  ordered ← order_known h what
  Ok (deed.Order number ordered)
deed_known h (said_deed.Report d s) = do
  number ← device h d
  other ← state h s
  Ok (deed.Report number other)
deed_known h (said_deed.Tick s) = do
  number ← station h s
  Ok (deed.Tick number)

-- the item of a line
unfoldable pub known : Hierarchy → Said → Result Item Fault
known h (said.Do what) = do
  done ← deed_known h what
  Ok (item.Do done)
known h (said.Restart s) = do
  number ← station h s
  Ok (item.Restart number)
known h (said.Stop s when what) = do
  number ← station h s
  done ← deed_known h what
  Ok (item.Stop number when done)
known h (said.Fail s how what) = do
  number ← station h s
  done ← deed_known h what
  Ok (item.Fail number how done)
