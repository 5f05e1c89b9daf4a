-- What contracts see of the queue of a seat, and what each call makes of it.
use Rattle.std.specs.Prelude.{ℕ, List, [], ◌∷◌, ◌++◌, ◌≡◌, ◌≤◌, length, map, drop, Option}
use Rattle.smi_protocol.specs.declared.order.Order.{Order}
use Rattle.smi_protocol.specs.declared.order.Told.{Told}
use Rattle.smi_operator.specs.declared.ends.Seat.{Seat}
use Rattle.smi_operator.specs.Sides.{SameSeat, submitted, told_to}
use Rattle.smi_session.specs.declared.lane.Lane.{Lane}
use Rattle.smi_session.specs.declared.seat_queue.PendingOrder.{PendingOrder}

-- the operator of the seat, its lane, the seat, and its orders that are not answered yet, the oldest first
pub record SeatQueueState : Type 0 where
  pub operator : Option ℕ
  pub lane : Lane
  pub seat : Seat
  pub pending : List PendingOrder

abbrev pub new_queue : Option ℕ → Lane → Seat → SeatQueueState
new_queue operator lane seat = record { operator = operator; lane = lane; seat = seat; pending = [] }

-- nothing was ever said at the seat
abbrev pub IsUnused : Seat → Type 0
IsUnused seat = (submitted seat ≡ []) × (told_to seat ≡ [])

abbrev pub orders_of : List PendingOrder → List Order
orders_of pending = map (λ p. p.order) pending

-- the pending orders are those that were submitted and not told, in their order
pub record IsInStep (q : SeatQueueState) : Type 0 where
  pub orders : drop (length (told_to q.seat)) (submitted q.seat) ≡ orders_of q.pending
  pub told : length (told_to q.seat) ≤ length (submitted q.seat)

-- operator, lane and seat stay
abbrev pub SameQueue : SeatQueueState → SeatQueueState → Type 0
SameQueue a b = (b.operator ≡ a.operator) × SameSeat a.seat b.seat × (b.lane ≡ a.lane)

-- the order is submitted once, after those before it, and is the newest that is pending
abbrev pub Submits : PendingOrder → SeatQueueState → SeatQueueState → Type 0
Submits p a b = SameQueue a b × (submitted b.seat ≡ submitted a.seat ++ p.order ∷ [])
    × (b.pending ≡ a.pending ++ p ∷ []) × (told_to b.seat ≡ told_to a.seat)

-- nothing is submitted or told
abbrev pub Keeps : SeatQueueState → SeatQueueState → Type 0
Keeps a b = SameQueue a b × (submitted b.seat ≡ submitted a.seat) × (b.pending ≡ a.pending)
    × (told_to b.seat ≡ told_to a.seat)

-- the next answer of the seat is told, as that of the oldest pending order
abbrev pub TellsOldest : PendingOrder → Told → SeatQueueState → SeatQueueState → Type 0
TellsOldest p told a b = SameQueue a b × (submitted b.seat ≡ submitted a.seat) × (a.pending ≡ p ∷ b.pending)
    × (told_to b.seat ≡ told_to a.seat ++ told ∷ [])
