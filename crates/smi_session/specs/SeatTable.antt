-- The seats of a station, and what becomes of an order of a session there.
use Rattle.std.specs.Prelude.{ℕ, zero, suc, ◌≡◌, ◌≢◌, ◌==◌, ◌+◌, ◌&&◌, ◌||◌, nat_lt, Bool, true, false, List, [], ◌∷◌}
use Rattle.std.specs.Prelude.{◌++◌, length}
use Rattle.std.specs.Prelude.{map, take, remove, slice_get, Option, Some, None, IfSome}
use Rattle.std.specs.List.{list_all, list_any}
use Rattle.smi_operator.specs.declared.ends.Seat.{Seat}
use Rattle.smi_session.specs.Lane.{are_of_one_domain, is_same_operator, lane_at, lane_for}
use Rattle.smi_session.specs.Session.{SessionState}
use Rattle.smi_session.specs.SeatQueue.{Keeps, SeatQueueState, Submits, TellsOldest, new_queue}
use Rattle.smi_session.specs.declared.seat_queue.PendingOrder.{PendingOrder}
use Rattle.smi_session.specs.declared.session.Deferred.{Deferred}
use Rattle.smi_session.specs.declared.seat_table.SeatAnswer.{SeatAnswer}
use Rattle.smi_session.specs.declared.lane.Lane.TheVariants.{Any}
use Rattle.smi_session.specs.declared.will.DeviceWill.{DeviceWill}
use Rattle.smi_protocol.specs.declared.order.Order.TheVariants as order
use Rattle.std.specs.declared.time.Instant.{Instant}

-- the operators by seat, their queues and after them nobody's, the orders that wait for a seat, the oldest first, and
-- whether an order was given since that was last asked
pub record SeatTableState : Type 0 where
  pub operators : List ℕ
  pub queues : List SeatQueueState
  pub held : List Deferred
  pub has_given : Bool

-- whose seats they are: the operators', and after them nobody's
abbrev pub AreQueuesOf : List ℕ → List SeatQueueState → Type 0
AreQueuesOf operators queues = map (λ q. q.operator) queues ≡ map Some operators ++ None ∷ []

-- the queue of this place changes so, and the others not at all
pub record ChangesAt (place : ℕ) (R : SeatQueueState → SeatQueueState → Type 0) (before after : SeatTableState) : Type 0
  where
    pub this : IfSome (slice_get before.queues place) (λ a. IfSome (slice_get after.queues place) (R a))
    pub others : (i : ℕ) → i ≢ place → slice_get after.queues i ≡ slice_get before.queues i
    pub count : length after.queues ≡ length before.queues
    pub operators : after.operators ≡ before.operators
    pub held : after.held ≡ before.held

-- an order is submitted at this place, if there is one and its seat has room
abbrev pub GivesAt : Option ℕ → PendingOrder → SeatTableState → SeatTableState → Bool → Type 0
GivesAt None p a b given = (b ≡ a) × (given ≡ false)
GivesAt (Some place) p a b true = ChangesAt place (Submits p) a b × (b.has_given ≡ true)
GivesAt (Some place) p a b false = ChangesAt place Keeps a b × (b.has_given ≡ a.has_given)

-- the seat that takes an order now
abbrev pub lane_of : SeatTableState → Deferred → Option ℕ
lane_of t x = lane_for t.queues (length t.operators) x.operator x.pending.order

-- it is submitted where a seat takes it now
abbrev pub Attempts : Deferred → SeatTableState → SeatTableState → Bool → Type 0
Attempts x a b given = GivesAt (lane_of a x) x.pending a b given

-- else it waits for a seat, or if too many do, its session keeps it
abbrev pub waits_too : Deferred → SeatTableState → SeatTableState
waits_too x t = record t { held = t.held ++ x ∷ [] }

abbrev pub Waits : Bool → Deferred → SeatTableState → SessionState → SeatTableState → SessionState → Type 0
Waits true x m c b d = (b ≡ waits_too x m) × (d ≡ c)
Waits false x m c b d = (b ≡ m) × (d ≡ record c { deferred = Some x })

abbrev pub WaitsUnless : Bool → Deferred → SeatTableState → SessionState → SeatTableState → SessionState → Type 0
WaitsUnless true x m c b d = (b ≡ m) × (d ≡ c)
WaitsUnless false x m c b d = Waits (nat_lt (length m.held) 256) x m c b d

-- one of these orders is of the same operator, and about the same domain
abbrev pub has_earlier : Deferred → List Deferred → Bool
has_earlier x held = list_any (λ y. is_same_operator y.operator x.operator
    && are_of_one_domain y.pending.order x.pending.order) held

-- an order is submitted after these, which wait: none of them may be about the same domain
abbrev pub AttemptsUnless : Bool → Deferred → SeatTableState → SeatTableState → Bool → Type 0
AttemptsUnless true x a b given = (b ≡ a) × (given ≡ false)
AttemptsUnless false x a b given = Attempts x a b given

abbrev pub AttemptsAfter : List Deferred → Deferred → SeatTableState → SeatTableState → Bool → Type 0
AttemptsAfter held x a b given = AttemptsUnless (has_earlier x held) x a b given

-- an order of an operator, or of nobody, is given: it is submitted, waits, or stays with its session
abbrev pub GivesIt : Deferred → SeatTableState → SessionState → SeatTableState → SessionState → Type 0
GivesIt x a c b d = (given : Bool) × (m : SeatTableState) × AttemptsAfter (take (length a.held) a.held) x a m given
    × WaitsUnless given x m c b d

abbrev pub Gives : Option ℕ → PendingOrder → SeatTableState → SessionState → SeatTableState → SessionState → Type 0
Gives operator pending a c b d = GivesIt (record { operator = operator; pending = pending }) a c b d

-- an order that was not submitted waits
abbrev pub waits_unless : Bool → Deferred → SeatTableState → SeatTableState
waits_unless true x t = t
waits_unless false x t = waits_too x t

-- the report of a session that ends waits, however many orders do
abbrev pub report_of : Option Instant → ℕ → DeviceWill → Deferred
report_of now session w = record {
  operator = None;
  pending = record { session = session; tag = None; order = order.Report w.device w.state; since = now };
}

abbrev pub Reports : Deferred → SeatTableState → SeatTableState → Type 0
Reports x a b = (given : Bool) × (m : SeatTableState) × Attempts x a m given × (b ≡ waits_unless given x m)

abbrev pub ReportsAll : Option Instant → ℕ → List DeviceWill → SeatTableState → SeatTableState → Type 0
ReportsAll now session [] a b = b ≡ a
ReportsAll now session (w ∷ more) a b =
    (m : SeatTableState) × Reports (report_of now session w) a m × ReportsAll now session more m b

-- an order that waits at this place is taken out once it is submitted, and else the next one has its turn
abbrev pub after_attempt : Bool → ℕ → SeatTableState → SeatTableState
after_attempt true place t = record t { held = remove t.held place }
after_attempt false place t = t

abbrev pub next_place : Bool → ℕ → ℕ
next_place true place = place
next_place false place = place + 1

abbrev pub GivesThis : Option Deferred → ℕ → SeatTableState → SeatTableState → Bool → Type 0
GivesThis None place a b given = (b ≡ a) × (given ≡ false)
GivesThis (Some x) place a b given = (m : SeatTableState) × AttemptsAfter (take place a.held) x a m given
    × (b ≡ after_attempt given place m)

-- the order at this place is submitted if a seat takes it now, and none before it is about the same domain
abbrev pub GivesAtPlace : ℕ → SeatTableState → SeatTableState → Bool → Type 0
GivesAtPlace place a b given = GivesThis (slice_get a.held place) place a b given

-- this many orders that wait had their turn, the oldest first; the next one waits at this place
abbrev pub GivesMany : ℕ → SeatTableState → SeatTableState → ℕ → Type 0
GivesMany zero a b next = (b ≡ a) × (next ≡ 0)
GivesMany (suc n) a b next = (m : SeatTableState) × (place : ℕ) × (given : Bool) × GivesMany n a m place
    × GivesAtPlace place m b given × (next ≡ next_place given place)

abbrev pub GivesHeld : ℕ → SeatTableState → SeatTableState → Type 0
GivesHeld n a b = (next : ℕ) × GivesMany n a b next

-- an order that its session keeps is given
abbrev pub GivesSo : Option Deferred → SeatTableState → SessionState → SeatTableState → SessionState → Type 0
GivesSo None a c b d = (b ≡ a) × (d ≡ c)
GivesSo (Some deferred) a c b d =
    GivesIt deferred a (record c { deferred = None }) b d

abbrev pub GivesDeferred : SeatTableState → SessionState → SeatTableState → SessionState → Type 0
GivesDeferred a c b d = GivesSo c.deferred a c b d

-- an answer is the next of its seat, of its oldest order that was not answered, and of its operator
abbrev pub TakesAnswer : SeatAnswer → SeatQueueState → SeatQueueState → Type 0
TakesAnswer r a b = TellsOldest r.pending r.told a b × (r.operator ≡ a.operator)

-- then each order that waited for a seat may have one
abbrev pub TakesNext : ℕ → SeatAnswer → SeatTableState → SeatTableState → Type 0
TakesNext place r a b = (m : SeatTableState) × ChangesAt place (TakesAnswer r) a m × (m.has_given ≡ a.has_given)
    × GivesHeld (length m.held) m b

-- the queues of these operators over these seats, each over the one at its place, the first of which has this number
abbrev pub queues_over : ℕ → List ℕ → List Seat → List SeatQueueState
queues_over number [] seats = []
queues_over number (operator ∷ operators) [] = []
queues_over number (operator ∷ operators) (seat ∷ seats) =
    new_queue (Some operator) (lane_at number) seat ∷ queues_over (number + 1) operators seats

-- each operator has the seats at the operator's places, as far as there are both, and nobody has the last one; nothing
-- is pending
pub record IsOpened (own : List ℕ) (seats : List Seat) (reports : Seat) (t : SeatTableState) : Type 0 where
  pub operators : t.operators ≡ take (length seats) own
  pub queues : t.queues ≡ queues_over 0 own seats ++ new_queue None Any reports ∷ []
  pub held : t.held ≡ []
  pub has_given : t.has_given ≡ false

-- no order is pending
abbrev pub is_idle : SeatTableState → Bool
is_idle t = list_all (λ q. length q.pending == 0) t.queues && length t.held == 0

-- an order of this session is pending
abbrev pub has_pending : SeatTableState → ℕ → Bool
has_pending t session = list_any (λ q. list_any (λ p. p.session == session) q.pending) t.queues
    || list_any (λ x. x.pending.session == session) t.held
