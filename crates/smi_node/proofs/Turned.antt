-- What the parts of a turn answer.
use Rattle.std.proofs.Common.{◌≡◌, inr, ℕ, suc, ◌+◌, ◌<◌, Bool, false, List, Option, Some, None, Result, Ok, Err, sym}
use Rattle.std.proofs.Common.{subst, ◌∙◌, arith}
use Rattle.std.specs.Prelude.{IfOk}
use Rattle.smi_protocol.specs.declared.event.Event.{Event}
use Rattle.smi_operator.specs.Sides.{seat_count}
use Rattle.smi_node.specs.Carried.{Edges, Node, fault_in, node}
use Rattle.smi_node.specs.Linked.{LinkShows}
use Rattle.smi_node.specs.Served.{Carrying, Coming, Came, Hears, IsDelivery, ReceivesOne, ServesAll, ServesSeat}
use Rattle.smi_node.specs.Served.{ServesSeats, is_failed, operator_of_seat, with_link}
use Rattle.smi_node.specs.Observed.{Seen}
use Rattle.smi_node.specs.Turning.{HearsSo, TurnsSo}
use Rattle.smi_node.specs.declared.node.CarryFault.{CarryFault}

-- what came was carried, and was no fault of the link
pub heard_so : {T X : Type 0} (C : Carrying T) (coming : Coming) (a b : Node T) (carried : Result X CarryFault)
    (r : Result Bool CarryFault)
    → fault_in r ≡ fault_in carried → IfOk r (λ failed. failed ≡ false) → is_failed coming ≡ false
    → Hears C coming a b (fault_in carried) → HearsSo C a b r
heard_so C coming a b carried (Ok failed) same came is heard =
    (coming, came ∙ sym is, subst (λ f. Hears C coming a b f) (sym same) heard)
heard_so C coming a b carried (Err f) same came is heard = (coming, subst (λ f. Hears C coming a b f) (sym same) heard)

-- a datagram came
pub datagram_heard : {T : Type 0} (C : Carrying T) (bytes : List ℕ) (e : Event) (a b : Node T) (link : LinkShows)
    (f : Option CarryFault)
    → ReceivesOne bytes a.edges.link link → IsDelivery bytes e → C e None (with_link a link) b f
    → Hears C (Came bytes) a b f
datagram_heard C bytes e a b link f received is carried = (link, received, e, is, carried)

-- one seat more is served
pub next_seat : {T : Type 0} (C : Carrying T) (operators : List ℕ) (seats seat : ℕ) (who : Option ℕ) (a b c : Node T)
    → who ≡ operator_of_seat operators seats seat
    → ServesSeats C operators seats seat a b → ServesSeat C who seat b c None
    → ServesSeats C operators seats (seat + 1) a c
next_seat C operators seats seat who a b c is before one =
    subst (λ n. ServesSeats C operators seats n a c) (later seat)
    (b, before, subst (λ w. ServesSeat C w seat b c None) is one)
  where
    later : (n : ℕ) → suc n ≡ n + 1
    later n = omega arith

-- or ends in a fault
pub broken_seat : {T : Type 0} (C : Carrying T) (operators : List ℕ) (seats seat all : ℕ) (who : Option ℕ)
    (a b c : Node T) (f : CarryFault) → who ≡ operator_of_seat operators seats seat
    → seats ≡ all → seat < seats → ServesSeats C operators seats seat a b → ServesSeat C who seat b c (Some f)
    → ServesAll C operators all a c (Some f)
broken_seat C operators seats seat all who a b c f is same within before one =
    subst (λ n. ServesAll C operators n a c (Some f)) same
    (seat, within, b, before, subst (λ w. ServesSeat C w seat b c (Some f)) is one)

-- a turn ends in the fault of a seat
pub broken_turn : {T : Type 0} (C : Carrying T) (operators : List ℕ) (a b c : Node T) (failed : Bool) (f : CarryFault)
    → HearsSo C a b (Ok failed) → ServesAll C operators (seat_count b.edges.desk) b c (Some f)
    → TurnsSo C operators a c (Err f)
broken_turn C operators a b c failed f heard served = (heard.0, inr (b, heard.2, served))

-- or is whole, and its observer, who is told that it is over, has still seen the same steps
pub whole_turn : {T : Type 0} (C : Carrying T) (operators : List ℕ) (a b : Node T) (station : T) (e : Edges)
    (t u : Seen) (failed : Bool)
    → HearsSo C a b (Ok failed) → ServesAll C operators (seat_count b.edges.desk) b (node station e t) None → u ≡ t
    → TurnsSo C operators a (node station e u) (Ok failed)
whole_turn C operators a b station e t u failed heard served same =
    subst (λ (x : Seen). TurnsSo C operators a (node station e x) (Ok failed)) (sym same)
    (heard.0, heard.1, (b, heard.2, served))
