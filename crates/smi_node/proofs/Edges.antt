-- What each carry leaves unchanged: how many seats there are, and what was received.
use Rattle.std.proofs.Common.{◌≡◌, ℕ, ◌≤◌, ◌+◌, Bool, true, false, List, [], ◌∷◌, Option, Some, None, Result, ap, ◌∙◌}
use Rattle.std.proofs.Common.{arith}
use Rattle.smi_grant.specs.Record.{Standing}
use Rattle.smi_protocol.specs.Step.{Out}
use Rattle.smi_protocol.specs.declared.event.Event.{Event}
use Rattle.smi_protocol.specs.declared.event.Heard.{Heard}
use Rattle.smi_protocol.specs.declared.event.StepFault.{StepFault}
use Rattle.smi_protocol.specs.declared.order.Answer.{Answer}
use Rattle.smi_protocol.specs.declared.order.Mark.{Mark}
use Rattle.smi_protocol.specs.declared.order.Order.{Order}
use Rattle.smi_message.specs.Message.{Message}
use Rattle.smi_operator.specs.Sides.{seat_count}
use Rattle.smi_operator.specs.Working.{newest_of}
use Rattle.smi_operator.specs.declared.ends.Desk.{Desk}
use Rattle.smi_station.specs.Core.{is_stopped_by}
use Rattle.smi_node.specs.Carried.{Edges, Follows, FollowsStep, Node, Tells, asker_of, code_of, is_report}
use Rattle.smi_node.specs.Linked.{LinkShows, Sends}
use Rattle.smi_node.specs.Served.{Obeys, ObeysGiven, ServesSeat, carrying, event_of, with_desk}
use Rattle.smi_node.specs.Told.{EndsAt, EndsFound, EndsIf, EndsQuestions, EndsReplaced, MarksAt, MarksNewest, TellsAll}
use Rattle.smi_node.specs.Told.{TellsNewest, is_replaced, replaced, work_at}
use Rattle.smi_node.specs.declared.node.CarryFault.{CarryFault}
use Rattle.smi_node.specs.declared.node.CarryFault.TheVariants.{Stopped, Memory}

pub record IsKept (before after : Edges) : Type 0 where
  pub seats : seat_count after.desk ≡ seat_count before.desk
  pub received : after.link.received ≡ before.link.received
  pub receives : after.link.receives ≡ before.link.receives
  pub failures : before.link.failures ≤ after.link.failures

-- The seats.

ends_at : (seat : ℕ) (place : Option ℕ) (code : ℕ) (asked : Option Standing) (a b : Desk)
    → EndsAt seat place code asked a b → seat_count b ≡ seat_count a
ends_at seat None code asked a b same = ap seat_count same
ends_at seat (Some place) code asked a b steps = steps.count

tells_newest : (seat : Option ℕ) (code : ℕ) (a b : Desk) → TellsNewest seat code a b → seat_count b ≡ seat_count a
tells_newest None code a b same = ap seat_count same
tells_newest (Some seat) code a b told = ends_at seat (newest_of (work_at a seat)) code None a b told

marks_at : (seat : ℕ) (place : Option ℕ) (m : Mark) (a b : Desk) → MarksAt seat place m a b
    → seat_count b ≡ seat_count a
marks_at seat None m a b same = ap seat_count same
marks_at seat (Some place) m a b steps = steps.count

marks : (seat : Option ℕ) (issued : Option Mark) (a b : Desk) → MarksNewest seat issued a b
    → seat_count b ≡ seat_count a
marks (Some seat) (Some m) a b marked = marks_at seat (newest_of (work_at a seat)) m a b marked
marks (Some seat) None a b same = ap seat_count same
marks None issued a b same = ap seat_count same

ends_found : (found : Option (ℕ × ℕ)) (x : Answer) (a b : Desk) → EndsFound found x a b → seat_count b ≡ seat_count a
ends_found None x a b same = ap seat_count same
ends_found (Some found) x a b told = ends_at found.0 (Some found.1) x.told.code x.told.asked a b told

tells_all : (operators : List ℕ) (xs : List Answer) (a b : Desk) → TellsAll operators xs a b
    → seat_count b ≡ seat_count a
tells_all operators [] a b same = ap seat_count same
tells_all operators (x ∷ xs) a b told = tells_all operators xs told.0 b told.2
    ∙ ends_found told.1.0 x a told.0 told.1.2

ends_if : (is : Bool) (seat : ℕ) (a b : Desk) → EndsIf is seat a b → seat_count b ≡ seat_count a
ends_if true seat a b ended = ends_at seat (Some 0) replaced None a b ended
ends_if false seat a b same = ap seat_count same

ends_questions : (who : ℕ) (asking : Option ℕ) (operators : List ℕ) (seat : ℕ) (a b : Desk)
    → EndsQuestions who asking operators seat a b → seat_count b ≡ seat_count a
ends_questions who asking [] seat a b same = ap seat_count same
ends_questions who asking (operator ∷ more) seat a b ended =
    ends_questions who asking more (seat + 1) ended.0 b ended.2
    ∙ ends_if (is_replaced who asking operator seat a) seat a ended.0 ended.1

ends_replaced : (operators : List ℕ) (asking asker : Option ℕ) (a b : Desk) → EndsReplaced operators asking asker a b
    → seat_count b ≡ seat_count a
ends_replaced operators asking None a b same = ap seat_count same
ends_replaced operators asking (Some who) a b ended = ends_questions who asking operators 0 a b ended

tells : (operators : List ℕ) (seat code asker : Option ℕ) (xs : List Answer) (a b : Desk)
    → Tells operators seat code asker xs a b → seat_count b ≡ seat_count a
tells operators seat (Some code) asker xs a b told = tells_newest seat code a b told
tells operators seat None asker xs a b told = ends_replaced operators seat asker told.0 b told.2
    ∙ tells_all operators xs a told.0 told.1

-- The link.

sends_on : (ms : List Message) (a b : LinkShows) → Sends ms a b → a.failures ≤ b.failures
sends_on ms a b sent = let e = sent.failures in omega (arith, e)

-- A carry.

follows : (operators : List ℕ) (seat code asker : Option ℕ) (handed : Out) (a b : Edges) (f : Option CarryFault)
    → Follows operators seat code asker handed a b f → IsKept a b
follows operators seat code asker handed a b None all = record {
  seats = tells operators seat code asker handed.answers all.marked b.desk all.tells
      ∙ marks seat handed.issued a.desk all.marked all.marks;
  received = all.sent.received;
  receives = all.sent.receives;
  failures = sends_on handed.datagrams a.link b.link all.sent;
}
follows operators seat code asker handed a b (Some Stopped) wrong = absurd wrong
follows operators seat code asker handed a b (Some Memory) most = record {
  seats = marks seat handed.issued a.desk b.desk most.marks;
  received = most.sent.received;
  receives = most.sent.receives;
  failures = sends_on handed.datagrams a.link b.link most.sent;
}

all_kept : (a b : Edges) → b ≡ a → IsKept a b
all_kept a b same = record {
  seats = ap (λ (e : Edges). seat_count e.desk) same;
  received = ap (λ (e : Edges). e.link.received) same;
  receives = ap (λ (e : Edges). e.link.receives) same;
  failures = (let n = ap (λ (e : Edges). e.link.failures) same in omega (arith, n));
}

follows_step : (stopped : Bool) (operators : List ℕ) (seat code asker : Option ℕ) (handed : Out) (a b : Edges)
    (f : Option CarryFault)
    → FollowsStep stopped operators seat code asker handed a b f → IsKept a b
follows_step true operators seat code asker handed a b f none = all_kept a b none.1
follows_step false operators seat code asker handed a b f all = follows operators seat code asker handed a b f all

pub carry_keeps : {T : Type 0} (StepsBy : T → Event → T → Out → Result Heard StepFault → Type 0) (operators : List ℕ)
    (e : Event) (seat : Option ℕ) (a b : Node T) (f : Option CarryFault)
    → carrying StepsBy operators e seat a b f → IsKept a.edges b.edges
carry_keeps StepsBy operators e seat a b f carried =
    follows_step (is_stopped_by carried.1.made) operators seat (code_of (is_report e) carried.1.made) (asker_of e)
    carried.0
    a.edges b.edges f carried.1.follows

-- one and then another
pub kept_twice : (a b c : Edges) → IsKept a b → IsKept b c → IsKept a c
kept_twice a b c x y = record {
  seats = y.seats ∙ x.seats;
  received = y.received ∙ x.received;
  receives = y.receives ∙ x.receives;
  failures = (let m = x.failures in let n = y.failures in omega (arith, m, n));
}

obeys : {T : Type 0} (StepsBy : T → Event → T → Out → Result Heard StepFault → Type 0) (operators : List ℕ)
    (seat : ℕ) (e : Option Event) (a b : Node T) (f : Option CarryFault)
    → Obeys (carrying StepsBy operators) seat e a b f → IsKept a.edges b.edges
obeys StepsBy operators seat (Some e) a b f carried = carry_keeps StepsBy operators e (Some seat) a b f carried
obeys {T} StepsBy operators seat None a b f told = record {
  seats = ap (λ (n : Node T). seat_count n.edges.desk) told.3 ∙ tells_newest (Some seat) 26 a.edges.desk told.1 told.2;
  received = ap (λ (n : Node T). n.edges.link.received) told.3;
  receives = ap (λ (n : Node T). n.edges.link.receives) told.3;
  failures = (let n = ap (λ (n : Node T). n.edges.link.failures) told.3 in omega (arith, n));
}

obeys_given : {T : Type 0} (StepsBy : T → Event → T → Out → Result Heard StepFault → Type 0) (operators : List ℕ)
    (who : Option ℕ) (seat : ℕ) (given : Option Order) (a b : Node T) (f : Option CarryFault)
    → ObeysGiven (carrying StepsBy operators) who seat given a b f → IsKept a.edges b.edges
obeys_given StepsBy operators who seat (Some what) a b f carried =
    obeys StepsBy operators seat (event_of who what) a b f carried
obeys_given {T} StepsBy operators who seat None a b f none =
    all_kept a.edges b.edges (ap (λ (n : Node T). n.edges) none.1)

-- a seat that is served
pub seat_keeps : {T : Type 0} (StepsBy : T → Event → T → Out → Result Heard StepFault → Type 0) (operators : List ℕ)
    (who : Option ℕ) (seat : ℕ) (a b : Node T) (f : Option CarryFault)
    → ServesSeat (carrying StepsBy operators) who seat a b f → IsKept a.edges b.edges
seat_keeps StepsBy operators who seat a b f served =
    let rest = obeys_given StepsBy operators who seat served.0 (with_desk a served.1) b f served.4 in
    record {
      seats = rest.seats ∙ served.2.count;
      received = rest.received;
      receives = rest.receives;
      failures = rest.failures;
    }
