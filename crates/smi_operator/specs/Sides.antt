-- What a seat and a desk show.
use Rattle.std.specs.Prelude.{◌≡◌, ◌≢◌, ◌≤◌, ℕ, ◌+◌, List, [], ◌∷◌, ◌++◌, length, true, Option, Some, None, IfSome}
use Rattle.std.specs.Prelude.{slice_get}
use mathlib.Core.List.{IsPrefix}
use Rattle.rtrb.specs.Ring.{sent, received, known_items, known_free, IsPair, SameProducer, SameConsumer}
use Rattle.smi_grant.specs.Record.{Standing}
use Rattle.smi_protocol.specs.declared.order.Mark.{Mark}
use Rattle.smi_protocol.specs.declared.order.Order.{Order}
use Rattle.smi_protocol.specs.declared.order.Told.{Told}
use Rattle.smi_operator.specs.Working.{begun, ending, may_join, ended_at, newest_marked, handed_out, still_in_work}
use Rattle.smi_operator.specs.declared.work.WorkSlot.{WorkSlot}
use Rattle.smi_operator.specs.declared.ends.SeatEnd.{SeatEnd}
use Rattle.smi_operator.specs.declared.ends.Seat.{Seat}
use Rattle.smi_operator.specs.declared.ends.Desk.{Desk}
use Rattle.smi_operator.specs.declared.ends.Finished.{Finished}

-- A seat.

-- the orders that it submitted, and what it was told
abbrev pub submitted : Seat → List Order
submitted s = sent s.orders

abbrev pub told_to : Seat → List Told
told_to s = received s.answers

-- it is the same seat
abbrev pub SameSeat : Seat → Seat → Type 0
SameSeat a b = SameProducer a.orders b.orders × SameConsumer a.answers b.answers

-- The desk's end of a seat.

-- the orders that it gave, and what it answered
abbrev pub given : SeatEnd → List Order
given p = received p.orders

abbrev pub answered : SeatEnd → List Told
answered p = sent p.answers

-- the orders in work, the oldest first
abbrev pub work_of : SeatEnd → List WorkSlot
work_of p = p.work.items

-- the orders that it has seen and not given
abbrev pub left : SeatEnd → List Order
left p = known_items p.orders

-- how many answers have a place for certain
abbrev pub room : SeatEnd → ℕ
room p = known_free p.answers

abbrev pub SameEnd : SeatEnd → SeatEnd → Type 0
SameEnd a b = SameConsumer a.orders b.orders × SameProducer a.answers b.answers

-- The desk.

-- the desk's end of the seat with this number, from 0
abbrev pub seat_end : Desk → ℕ → Option SeatEnd
seat_end d seat = slice_get d.seat_ends.items seat

abbrev pub seat_count : Desk → ℕ
seat_count d = length d.seat_ends.items

-- one seat changes so, and the others not at all
pub record Steps (old new : Desk) (seat : ℕ) (R : SeatEnd → SeatEnd → Type 0) : Type 0 where
  pub this : IfSome (seat_end old seat) (λ a. IfSome (seat_end new seat) (λ b. SameEnd a b × R a b))
  pub others : (i : ℕ) → i ≢ seat → seat_end new i ≡ seat_end old i
  pub count : seat_count new ≡ seat_count old

-- an order is given that may join those in work, or none; what else was seen is left, and no place is lost
abbrev pub Gives : Option Order → SeatEnd → SeatEnd → Type 0
Gives (Some o) a b =
    (may_join (work_of a) o ≡ true) × (work_of b ≡ work_of a ++ begun o ∷ []) × (given b ≡ given a ++ o ∷ [])
    × (answered b ≡ answered a)
    × IsPrefix (left a) (o ∷ left b) × (room a ≤ room b)
Gives None a b = (work_of b ≡ work_of a) × (given b ≡ given a) × (answered b ≡ answered a)
    × IsPrefix (left a) (left b) × (room a ≤ room b)

-- the order at this place ends, and what can be handed out is, each answer in a place of its own
abbrev pub Answers : ℕ → ℕ → Option Standing → SeatEnd → SeatEnd → Type 0
Answers place code asked a b =
    (work_of b ≡ still_in_work (ended_at (work_of a) place (ending code asked)))
    × (answered b ≡ answered a ++ handed_out (ended_at (work_of a) place (ending code asked)))
    × (given b ≡ given a)
    × (left b ≡ left a)
    × (room b + length (handed_out (ended_at (work_of a) place (ending code asked))) ≡ room a)

-- the newest order in work is marked
abbrev pub Marks : Mark → SeatEnd → SeatEnd → Type 0
Marks m a b =
    (work_of b ≡ newest_marked (work_of a) m) × (answered b ≡ answered a) × (given b ≡ given a) × (left b ≡ left a)
    × (room b ≡ room a)

-- A seat that has ended.

-- the seat and its end at the station are the two ends of the same rings
abbrev pub IsSeatOf : Seat → SeatEnd → Type 0
IsSeatOf s p = IsPair s.orders p.orders × IsPair p.answers s.answers

-- the ended seat is that of this end
abbrev pub IsFinishedAt : Finished → SeatEnd → Type 0
IsFinishedAt f p = IsPair f.orders p.orders × IsPair p.answers f.answers

-- the same at the desk: the seat, and the ended seat, is that with this number
abbrev pub IsSeatAt : Seat → Desk → ℕ → Type 0
IsSeatAt s d i = IfSome (seat_end d i) (IsSeatOf s)

abbrev pub IsEndedAt : Finished → Desk → ℕ → Type 0
IsEndedAt f d i = IfSome (seat_end d i) (IsFinishedAt f)

-- it is the same desk, whatever it gave and answered since
abbrev pub SameEnds : Option SeatEnd → Option SeatEnd → Type 0
SameEnds (Some a) (Some b) = SameEnd a b
SameEnds None None = Unit {0}
SameEnds _ _ = ⊥

pub record SameDesk (old new : Desk) : Type 0 where
  pub count : seat_count new ≡ seat_count old
  pub seat_ends : (i : ℕ) → SameEnds (seat_end old i) (seat_end new i)

-- an ended seat keeps both lists
abbrev pub Keeps : Seat → Finished → Type 0
Keeps s f = (f.orders ≡ s.orders) × (f.answers ≡ s.answers)

-- the seat ended so, whatever it submitted and was told before
abbrev pub Ends : Seat → Finished → Type 0
Ends s f = (t : Seat) × SameSeat s t × Keeps t f

-- what was given and what is left are all that was submitted; what the seat was told begins what was answered; and
-- of the sixteen places those are free whose answers the seat was told
pub record Met (f : Finished) (p : SeatEnd) : Type 0 where
  pub orders : given p ++ left p ≡ sent f.orders
  pub answers : IsPrefix (received f.answers) (answered p)
  pub room : room p + length (answered p) ≡ 16 + length (received f.answers)

-- the lists of both stay
abbrev pub Stays : Finished → Finished → SeatEnd → SeatEnd → Type 0
Stays f g p q =
    (given q ≡ given p) × (answered q ≡ answered p) × (work_of q ≡ work_of p) × (sent g.orders ≡ sent f.orders)
    × (received g.answers ≡ received f.answers)

-- Seats that were just opened.

-- nothing was said yet
abbrev pub IsFresh : Seat → SeatEnd → Type 0
IsFresh s p = IsSeatOf s p × (submitted s ≡ []) × (told_to s ≡ []) × (given p ≡ []) × (answered p ≡ [])
    × (work_of p ≡ [])

-- each seat is that of the end with its number
abbrev pub AreSeats : List Seat → List SeatEnd → Type 0
AreSeats [] [] = Unit {0}
AreSeats [] (p ∷ ps) = ⊥
AreSeats (s ∷ ss) [] = ⊥
AreSeats (s ∷ ss) (p ∷ ps) = IsFresh s p × AreSeats ss ps

-- the desk of these seats
abbrev pub IsDeskOf : Desk → List Seat → Type 0
IsDeskOf d seats = AreSeats seats d.seat_ends.items
