-- The orders that were given from a page, and what becomes of them.
use Rattle.std.specs.Prelude.{ℕ, nat_lt, nat_le, ◌+◌, ◌-◌, ◌^◌, ◌==◌, ◌&&◌, ◌||◌, not, ◌++◌, Bool, true, false}
use Rattle.std.specs.Prelude.{List, [], ◌∷◌, drop, length, remove, set, slice_get, position, Option}
use Rattle.std.specs.Prelude.{codes, is_some, if◌then◌else◌}
use Rattle.std.specs.Option.{option_map_or}
use Rattle.smi_tree.specs.Hierarchy.{Hierarchy}
use Rattle.smi_web.specs.declared.relayed_order.RelayedOrder.{RelayedOrder}
use Rattle.smi_web.specs.declared.order_relay.Admission.{Admission}
use Rattle.smi_web.specs.declared.order_relay.Admission.TheVariants as admission
use Rattle.smi_web.specs.RelayedOrder as order
use Rattle.smi_web.specs.OrderLine.{is_order_line}
use Rattle.smi_history.specs.Text.{rest_of}
use Rattle.smi_web.specs.ModeList as mode_list
use Rattle.smi_web.specs.ModeList.{ModeListState}

-- the orders, the oldest first; the number of the next, and of the first of this connection; the bytes that are to be
-- sent; whether there is a connection; and the modes that were told on it
pub record OrderRelayState : Type 0 where
  pub orders : List RelayedOrder
  pub next : ℕ
  pub first : ℕ
  pub unsent : List ℕ
  pub is_open : Bool
  pub modes : ModeListState

abbrev pub most_orders : ℕ
most_orders = 64

abbrev pub most_unsent : ℕ
most_unsent = 8192

abbrev pub nothing : OrderRelayState
nothing = record {
  orders = [];
  next = 1;
  first = 1;
  unsent = [];
  is_open = false;
  modes = mode_list.nothing;
}

abbrev pub is_waiting : OrderRelayState → RelayedOrder → Bool
is_waiting r e = order.is_waiting r.first e

-- the place of the oldest order that does not wait, if those before the order `first` wait no more
abbrev pub first_over : ℕ → List RelayedOrder → Option ℕ
first_over first orders = position (λ e. not (order.is_waiting first e)) orders

-- fewer orders are there than can be kept, or one of them does not wait
abbrev pub can_keep : ℕ → List RelayedOrder → Bool
can_keep first orders = nat_lt (length orders) most_orders || is_some (first_over first orders)

-- little is unsent, and one order more can be kept
abbrev pub has_room : OrderRelayState → Bool
has_room r =
    nat_lt r.next (2 ^ 64 - 1) && (nat_le (length r.unsent) most_unsent && can_keep r.first r.orders)

-- first of all it has to be an order, then there has to be a connection, and then room
abbrev pub admission_of : Hierarchy → OrderRelayState → List ℕ → Admission
admission_of h r line =
    if is_order_line h line
    then (if r.is_open then (if has_room r then admission.Accepted else admission.QueueFull) else admission.ConsoleDown)
    else admission.NoOrder

-- of as many as can be kept, the oldest that does not wait goes
abbrev pub with_room : ℕ → List RelayedOrder → List RelayedOrder
with_room first orders =
    if length orders == most_orders then option_map_or (λ i. remove orders i) (first_over first orders) orders
    else orders

-- the newest order is the last, and its line the last that is to be sent
abbrev pub with_errand : OrderRelayState → RelayedOrder → OrderRelayState
with_errand r e = record r {
  orders = with_room r.first r.orders ++ e ∷ [];
  next = r.next + 1;
  unsent = r.unsent ++ order.sent_of e;
}

-- an order is given, if there is room
abbrev pub given : OrderRelayState → List ℕ → ℕ → OrderRelayState
given r line now = if has_room r then with_errand r (order.order_of r.next line now) else r

-- this many bytes are sent
abbrev pub sent : ℕ → OrderRelayState → OrderRelayState
sent count r = record r { unsent = drop count r.unsent }

-- the place of the order that a line answers
abbrev pub place_of : OrderRelayState → List ℕ → Option ℕ
place_of r line = position (order.is_answered_by r.first line) r.orders

-- the order at this place changes, if there is one
abbrev pub changed_at : (RelayedOrder → RelayedOrder) → ℕ → List RelayedOrder → List RelayedOrder
changed_at f i orders = option_map_or (λ e. set orders i (f e)) (slice_get orders i) orders

-- a line answers the order that waits with its tag, and nothing else changes
abbrev pub answered : OrderRelayState → List ℕ → ℕ → OrderRelayState
answered r line now =
    option_map_or (λ i. record r { orders = changed_at (order.answered line now) i r.orders }) (place_of r line) r

-- a line is heard: with the tag `modes` it tells modes, and with any other it answers an order
abbrev pub heard : OrderRelayState → List ℕ → ℕ → OrderRelayState
heard r line now =
    option_map_or (λ text. record r { modes = mode_list.told r.modes text }) (rest_of (codes "@modes ") line)
    (answered r line now)

-- the console is asked for the modes, if it is there and nothing else is to be sent
abbrev pub asked : OrderRelayState → OrderRelayState
asked r =
    if r.is_open && length r.unsent == 0
    then record r { unsent = codes "@modes modes\n"; modes = mode_list.begun r.modes }
    else r

abbrev pub opened : OrderRelayState → OrderRelayState
opened r = record r { is_open = true }

-- the connection has ended: no order waits any more, nothing is to be sent, and no mode is known
abbrev pub closed : OrderRelayState → OrderRelayState
closed r = record r { is_open = false; first = r.next; unsent = []; modes = mode_list.nothing }
