-- What answers leave of the desk.
use Rattle.std.specs.Prelude.{ℕ, ◌≡◌, ◌==◌, ◌<◌, ◌+◌, ◌&&◌, not, Bool, true, false, List, [], ◌∷◌, length, slice_get}
use Rattle.std.specs.Prelude.{Option, Some, None}
use Rattle.std.specs.Option.{option_map_or}
use Rattle.smi_grant.specs.Record.{Standing}
use Rattle.smi_protocol.specs.declared.order.Answer.{Answer}
use Rattle.smi_protocol.specs.declared.order.Mark.{Mark}
use Rattle.smi_protocol.specs.declared.order.Order.{Order}
use Rattle.smi_protocol.specs.declared.order.Order.TheVariants as order
use Rattle.smi_operator.specs.Sides.{Answers, Marks, Steps, seat_end, work_of}
use Rattle.smi_operator.specs.Working.{IsPlaceOf, newest_of}
use Rattle.smi_operator.specs.declared.ends.Desk.{Desk}
use Rattle.smi_operator.specs.declared.work.WorkSlot.{WorkSlot}

-- the orders in work of a seat, the oldest first; a seat that the desk does not have has none
abbrev pub work_at : Desk → ℕ → List WorkSlot
work_at desk seat = option_map_or work_of (seat_end desk seat) []

-- it is this number
abbrev pub is_some_of : Option ℕ → ℕ → Bool
is_some_of None n = false
is_some_of (Some m) n = m == n

-- the order of a seat at this place ends, if there is a place
abbrev pub EndsAt : ℕ → Option ℕ → ℕ → Option Standing → Desk → Desk → Type 0
EndsAt seat None code asked before after = after ≡ before
EndsAt seat (Some place) code asked before after = Steps before after seat (Answers place code asked)

-- the newest order in work of a seat ends with a code
abbrev pub TellsNewest : Option ℕ → ℕ → Desk → Desk → Type 0
TellsNewest None code before after = after ≡ before
TellsNewest (Some seat) code before after = EndsAt seat (newest_of (work_at before seat)) code None before after

-- the newest order in work of a seat, if there is one, became this command
abbrev pub MarksAt : ℕ → Option ℕ → Mark → Desk → Desk → Type 0
MarksAt seat None m before after = after ≡ before
MarksAt seat (Some place) m before after = Steps before after seat (Marks m)

abbrev pub MarksNewest : Option ℕ → Option Mark → Desk → Desk → Type 0
MarksNewest (Some seat) (Some m) before after = MarksAt seat (newest_of (work_at before seat)) m before after
MarksNewest (Some seat) None before after = after ≡ before
MarksNewest None issued before after = after ≡ before

-- An answer and the order that it is of.

-- where an answer is looked for: whose the seats are, what it says, and which command it is of
pub record Sought : Type 0 where
  pub operators : List ℕ
  pub answer : Answer
  pub desk : Desk

-- a seat is not its operator's, or has no order in work that it is of
abbrev pub IsNotAt : Sought → ℕ → Type 0
IsNotAt s seat = slice_get s.operators seat ≡ Some s.answer.operator
    → IsPlaceOf s.answer.told.order s.answer.mark (work_at s.desk seat) None

abbrev pub IsNotBefore : Sought → ℕ → Type 0
IsNotBefore s most = (seat : ℕ) → seat < most → IsNotAt s seat

-- the order that it is of, the oldest at the first seat of its operator that has such an order in work
abbrev pub IsFoundAt : Sought → Option (ℕ × ℕ) → Type 0
IsFoundAt s (Some found) = (slice_get s.operators found.0 ≡ Some s.answer.operator)
    × IsPlaceOf s.answer.told.order s.answer.mark (work_at s.desk found.0) (Some found.1) × IsNotBefore s found.0
IsFoundAt s None = IsNotBefore s (length s.operators)

abbrev pub EndsFound : Option (ℕ × ℕ) → Answer → Desk → Desk → Type 0
EndsFound None a before after = after ≡ before
EndsFound (Some found) a before after = EndsAt found.0 (Some found.1) a.told.code a.told.asked before after

-- an answer ends the order that it is of; if it is of none, nothing changes
abbrev pub TellsOne : List ℕ → Answer → Desk → Desk → Type 0
TellsOne operators a before after = (found : Option (ℕ × ℕ))
    × IsFoundAt (record { operators = operators; answer = a; desk = before }) found × EndsFound found a before after

-- answers are told one after the other
abbrev pub TellsAll : List ℕ → List Answer → Desk → Desk → Type 0
TellsAll operators [] before after = after ≡ before
TellsAll operators (a ∷ more) before after =
    (between : Desk) × TellsOne operators a before between × TellsAll operators more between after

-- A question that is asked again, at a desk where an operator has several seats: a station keeps one question of each.

-- the code of a question that another one of its operator has replaced
abbrev pub replaced : ℕ
replaced = 40

abbrev pub is_question : Order → Bool
is_question (order.Ask d) = true
is_question _ = false

abbrev pub asks_first : List WorkSlot → Bool
asks_first [] = false
asks_first (e ∷ more) = is_question e.work.order

-- a seat of an operator who asks again, other than the one that asks, has a question in work
abbrev pub is_replaced : (who : ℕ) → (asking : Option ℕ) → (operator seat : ℕ) → Desk → Bool
is_replaced who asking operator seat desk =
    operator == who && not (is_some_of asking seat) && asks_first (work_at desk seat)

abbrev pub EndsIf : Bool → ℕ → Desk → Desk → Type 0
EndsIf true seat before after = EndsAt seat (Some 0) replaced None before after
EndsIf false seat before after = after ≡ before

-- such questions end, at the seats of these operators from this seat on
abbrev pub EndsQuestions : (who : ℕ) → (asking : Option ℕ) → List ℕ → ℕ → Desk → Desk → Type 0
EndsQuestions who asking [] seat before after = after ≡ before
EndsQuestions who asking (operator ∷ more) seat before after =
    (between : Desk) × EndsIf (is_replaced who asking operator seat before) seat before between
    × EndsQuestions who asking more (seat + 1) between after

abbrev pub EndsReplaced : List ℕ → (asking asker : Option ℕ) → Desk → Desk → Type 0
EndsReplaced operators asking None before after = after ≡ before
EndsReplaced operators asking (Some who) before after = EndsQuestions who asking operators 0 before after
