-- What turns leave of the link: what was received, how often it failed, and how often it was asked.
use Rattle.std.proofs.Common.{◌≡◌, inl, inr, ℕ, zero, suc, ◌+◌, ◌≤◌, List, [], ◌∷◌, ◌++◌, length, Option, Some, None}
use Rattle.std.proofs.Common.{Result, refl, sym, ap, subst, ◌∙◌, append-nil, append_assoc, arith}
use Rattle.std.specs.Prelude.{IfSome}
use Rattle.smi_protocol.specs.Step.{Out}
use Rattle.smi_protocol.specs.declared.event.Event.{Event}
use Rattle.smi_protocol.specs.declared.event.Event.TheVariants as event
use Rattle.smi_protocol.specs.declared.event.Heard.{Heard}
use Rattle.smi_protocol.specs.declared.event.StepFault.{StepFault}
use Rattle.smi_operator.specs.Sides.{seat_count}
use Rattle.smi_node.specs.Carried.{Edges, Node}
use Rattle.smi_node.specs.Linked.{LinkShows}
use Rattle.smi_node.specs.Served.{AreFailed, Coming, Came, Quiet, Failed, Hears, ServesSeats, TakesTurns, Turns}
use Rattle.smi_node.specs.Served.{came_in, came_with, carrying, failed_in, failed_with, operator_of_seat, with_link}
use Rattle.smi_node.specs.declared.node.CarryFault.{CarryFault}
use Rattle.smi_node.proofs.Edges.{IsKept, carry_keeps, kept_twice, seat_keeps}

-- what a link tells, and its count, grow by this
pub record Grows (came : List (List ℕ)) (failed : ℕ) (a b : LinkShows) : Type 0 where
  pub received : IfSome a.received (λ xs. b.received ≡ Some (xs ++ came))
  pub failures : a.failures + failed ≤ b.failures

nothing_more : (r : Option (List (List ℕ))) → IfSome r (λ xs. r ≡ Some (xs ++ []))
nothing_more (Some xs) = ap Some (sym (append-nil xs))
nothing_more None = tt

joined : (r s t : Option (List (List ℕ))) (one two : List (List ℕ)) → IfSome r (λ xs. s ≡ Some (xs ++ one))
    → IfSome s (λ xs. t ≡ Some (xs ++ two)) → IfSome r (λ xs. t ≡ Some (xs ++ (one ++ two)))
joined None s t one two first rest = tt
joined (Some xs) s t one two first rest = (rw first at rest) ∙ ap Some (append_assoc xs one two)

pub no_growth : (a : LinkShows) → Grows [] 0 a a
no_growth a = record { received = nothing_more a.received; failures = omega arith }

pub grows_twice : (one two : List (List ℕ)) (m n : ℕ) (a b c : LinkShows) → Grows one m a b → Grows two n b c
    → Grows (one ++ two) (m + n) a c
grows_twice one two m n a b c x y = record {
  received = joined a.received b.received c.received one two x.received y.received;
  failures = (let p = x.failures in let q = y.failures in omega (arith, p, q));
}

-- where what was received is kept, nothing comes
kept_grows : (came : List (List ℕ)) (failed : ℕ) (a : LinkShows) (b c : Edges) → Grows came failed a b.link
    → IsKept b c → Grows came failed a c.link
kept_grows came failed a b c x y = record {
  received = subst (λ r. IfSome a.received (λ xs. r ≡ Some (xs ++ came))) (sym y.received) x.received;
  failures = (let p = x.failures in let q = y.failures in omega (arith, p, q));
}

-- what a link has received stays, so nothing has come
kept_as : (a b : LinkShows) → b.received ≡ a.received → IfSome a.received (λ xs. b.received ≡ Some (xs ++ []))
kept_as a b same = subst (λ r. IfSome a.received (λ xs. r ≡ Some (xs ++ []))) (sym same) (nothing_more a.received)

abbrev StepsIn : Type 0 → Type 1
StepsIn T = T → Event → T → Out → Result Heard StepFault → Type 0

hears : {T : Type 0} (S : StepsIn T) (operators : List ℕ) (coming : Coming) (a b : Node T)
    → Hears (carrying S operators) coming a b None
    → Grows (came_with coming) (failed_with coming) a.edges.link b.edges.link
hears S operators (Came bytes) a b heard =
    let kept = carry_keeps S operators heard.2 None (with_link a heard.0) b None heard.4 in
    let counts = heard.1.2 in
    kept_grows (bytes ∷ []) 0 a.edges.link (with_link a heard.0).edges b.edges
    (record { received = heard.1.0; failures = omega (arith, counts) }) kept
hears S operators Quiet a b heard =
    let counts = heard.1.2 in
    kept_grows [] 0 a.edges.link (with_link a heard.0).edges b.edges
    (record { received = kept_as a.edges.link heard.0 heard.1.0; failures = omega (arith, counts) })
    (carry_keeps S operators event.Tick None (with_link a heard.0) b None heard.2)
hears {T} S operators Failed a b heard = record {
  received = subst (λ r. IfSome a.edges.link.received (λ xs. r ≡ Some (xs ++ [])))
      (sym (ap (λ (n : Node T). n.edges.link.received) heard.3)) (kept_as a.edges.link heard.0 heard.1.0);
  failures = (let n : b.edges.link.failures ≡ heard.0.failures = ap (λ (n : Node T). n.edges.link.failures) heard.3 in
      let m = heard.1.2 in omega (arith, n, m));
}

same_edges : (e : Edges) → IsKept e e
same_edges e = record { seats = refl; received = refl; receives = refl; failures = omega arith }

seats : {T : Type 0} (S : StepsIn T) (operators : List ℕ) (all many : ℕ) (a b : Node T)
    → ServesSeats (carrying S operators) operators all many a b → IsKept a.edges b.edges
seats {T} S operators all zero a b same = subst (λ (n : Node T). IsKept a.edges n.edges) (sym same) (same_edges a.edges)
seats S operators all (suc seat) a b served =
    kept_twice a.edges served.0.edges b.edges (seats S operators all seat a served.0 served.1)
    (seat_keeps S operators (operator_of_seat operators all seat) seat served.0 b None served.2)

turn : {T : Type 0} (S : StepsIn T) (operators : List ℕ) (coming : Coming) (a b : Node T)
    → Turns (carrying S operators) operators coming a b None
    → Grows (came_with coming) (failed_with coming) a.edges.link b.edges.link
turn S operators coming a b made =
    let n = seat_count made.0.edges.desk in
    kept_grows (came_with coming) (failed_with coming) a.edges.link made.0.edges b.edges
    (hears S operators coming a made.0 made.1) (seats S operators n n made.0 b made.2)

pub turns_count : {T : Type 0} (S : StepsIn T) (operators : List ℕ) (comings : List Coming) (a b : Node T)
    → TakesTurns (carrying S operators) operators comings a b
    → Grows (came_in comings) (failed_in comings) a.edges.link b.edges.link
turns_count {T} S operators [] a b same = subst (λ (n : Node T). Grows [] 0 a.edges.link n.edges.link) (sym same)
    (no_growth a.edges.link)
turns_count S operators (coming ∷ more) a b taken =
    grows_twice (came_in more) (came_with coming) (failed_in more) (failed_with coming) a.edges.link
    taken.0.edges.link b.edges.link
    (turns_count S operators more a taken.0 taken.1) (turn S operators coming taken.0 b taken.2)

-- How often the link was asked.

asked_once : {T : Type 0} (S : StepsIn T) (operators : List ℕ) (coming : Coming) (a b : Node T)
    (f : Option CarryFault) → Hears (carrying S operators) coming a b f
    → b.edges.link.receives ≡ a.edges.link.receives + 1
asked_once S operators (Came bytes) a b f heard =
    (carry_keeps S operators heard.2 None (with_link a heard.0) b f heard.4).receives ∙ heard.1.3
asked_once S operators Quiet a b f heard =
    (carry_keeps S operators event.Tick None (with_link a heard.0) b f heard.2).receives ∙ heard.1.3
asked_once {T} S operators Failed a b f heard = ap (λ (n : Node T). n.edges.link.receives) heard.3 ∙ heard.1.3

-- a turn asks it once, whole or not
pub turn_asks : {T : Type 0} (S : StepsIn T) (operators : List ℕ) (coming : Coming) (a b : Node T)
    (f : Option CarryFault) → Turns (carrying S operators) operators coming a b f
    → b.edges.link.receives ≡ a.edges.link.receives + 1
turn_asks S operators coming a b None made =
    let n = seat_count made.0.edges.desk in
    (seats S operators n n made.0 b made.2).receives ∙ asked_once S operators coming a made.0 None made.1
turn_asks S operators coming a b (Some f) (inl heard) = asked_once S operators coming a b (Some f) heard
turn_asks S operators coming a b (Some f) (inr made) =
    let all = seat_count made.0.edges.desk in
    let served = made.2 in
    (seat_keeps S operators (operator_of_seat operators all served.0) served.0 served.2 b (Some f) served.4).receives
    ∙ (seats S operators all served.0 made.0 served.2 served.3).receives
    ∙ asked_once S operators coming a made.0 None made.1

pub turns_ask : {T : Type 0} (S : StepsIn T) (operators : List ℕ) (comings : List Coming) (a b : Node T)
    → TakesTurns (carrying S operators) operators comings a b
    → b.edges.link.receives ≡ a.edges.link.receives + length comings
turns_ask {T} S operators [] a b same =
    let n = ap (λ (n : Node T). n.edges.link.receives) same in omega (arith, n)
turns_ask S operators (coming ∷ more) a b taken =
    let before = turns_ask S operators more a taken.0 taken.1 in
    let one = turn_asks S operators coming taken.0 b None taken.2 in
    omega (arith, before, one)

-- those that failed in a row are as many of all that failed
pub failed_in_a_row : (n : ℕ) (comings : List Coming) → AreFailed n comings → n ≤ failed_in comings
failed_in_a_row zero comings row = omega arith
failed_in_a_row (suc n) [] row = absurd row
failed_in_a_row (suc n) (coming ∷ more) row =
    let rest = failed_in_a_row n more row.1 in
    let one : failed_with coming ≡ 1 = ap failed_with row.0 in
    omega (arith, rest, one)
