-- What follows a step, and what does not follow one that stopped the station.
use Rattle.std.proofs.Common.{◌≡◌, ℕ, Bool, true, false, List, Option, Some, Result, refl, ap, subst}
use Rattle.smi_protocol.specs.Step.{Out}
use Rattle.smi_protocol.specs.declared.event.Event.{Event}
use Rattle.smi_protocol.specs.declared.event.Heard.{Heard}
use Rattle.smi_protocol.specs.declared.event.StepFault.{StepFault}
use Rattle.smi_operator.specs.declared.ends.Desk.{Desk}
use Rattle.smi_view.specs.Shows.{BoardShows}
use Rattle.smi_station.specs.Core.{is_stopped_by}
use Rattle.smi_node.specs.Carried.{Carries, Follows, FollowsStep, SendsStep, asker_of, code_of, edges, is_report, node}
use Rattle.smi_node.specs.Linked.{LinkShows, Sends}
use Rattle.smi_node.specs.Observed.{Seen, SeesOne, stepped}
use Rattle.smi_node.specs.declared.node.CarryFault.{CarryFault}
use Rattle.smi_node.specs.declared.node.CarryFault.TheVariants.{Stopped}

abbrev StepsIn : Type 0 → Type 1
StepsIn T = T → Event → T → Out → Result Heard StepFault → Type 0

nothing_follows : (stopped : Bool) (operators : List ℕ) (seat code asker : Option ℕ) (handed : Out) (l m : LinkShows)
    (desk : Desk) (board : BoardShows) → stopped ≡ true → SendsStep stopped handed.datagrams l m
    → FollowsStep stopped operators seat code asker handed (edges l desk board) (edges m desk board) (Some Stopped)
nothing_follows true operators seat code asker handed l m desk board is sends =
    (refl, ap (λ (x : LinkShows). edges x desk board) sends)
nothing_follows false operators seat code asker handed l m desk board is sends =
    absurd (let wrong : false ≡ true = is in cc)

all_follows : (stopped : Bool) (operators : List ℕ) (seat code asker : Option ℕ) (handed : Out) (l m : LinkShows)
    (desk desk' : Desk) (board board' : BoardShows) (f : Option CarryFault) → stopped ≡ false
    → SendsStep stopped handed.datagrams l m
    → ((x y : LinkShows) → Sends handed.datagrams x y
    → Follows operators seat code asker handed (edges x desk board) (edges y desk' board') f)
    → FollowsStep stopped operators seat code asker handed (edges l desk board) (edges m desk' board') f
all_follows false operators seat code asker handed l m desk desk' board board' f is sends follows = follows l m sends
all_follows true operators seat code asker handed l m desk desk' board board' f is sends follows =
    absurd (let wrong : true ≡ false = is in cc)

-- a step stopped the station
pub carried_not : {T : Type 0} (S : StepsIn T) (operators : List ℕ) (e : Event) (seat : Option ℕ) (handed : Out)
    (a b : T) (l m : LinkShows) (desk : Desk) (board : BoardShows) (t u : Seen)
    (made : Result Heard StepFault)
    → S a e b handed made → SendsStep (is_stopped_by made) handed.datagrams l m
    → SeesOne t u (stepped e made handed) → is_stopped_by made ≡ true
    → Carries S operators e seat handed (node a (edges l desk board) t) (node b (edges m desk board) u) (Some Stopped)
carried_not S operators e seat handed a b l m desk board t u made steps sends sees is = record {
  made = made;
  steps = steps;
  follows = nothing_follows (is_stopped_by made) operators seat (code_of (is_report e) made) (asker_of e) handed l m
      desk board is sends;
  sees = sees;
}

-- any other step is followed by all that it handed out
pub carried_on : {T : Type 0} (S : StepsIn T) (operators : List ℕ) (e : Event) (seat code asker : Option ℕ)
    (handed : Out) (a b : T) (l m : LinkShows) (desk desk' : Desk) (board board' : BoardShows)
    (t u : Seen)
    (made : Result Heard StepFault) (f : Option CarryFault)
    → S a e b handed made → SendsStep (is_stopped_by made) handed.datagrams l m
    → SeesOne t u (stepped e made handed) → is_stopped_by made ≡ false → code ≡ code_of (is_report e) made
    → asker ≡ asker_of e
    → ((x y : LinkShows) → Sends handed.datagrams x y
    → Follows operators seat code asker handed (edges x desk board) (edges y desk' board') f)
    → Carries S operators e seat handed (node a (edges l desk board) t) (node b (edges m desk' board') u) f
carried_on S operators e seat code asker handed a b l m desk desk' board board' t u made f steps sends sees is coded
    asked
    follows =
    record {
      made = made;
      steps = steps;
      follows = subst (λ (x : Option ℕ). FollowsStep (is_stopped_by made) operators seat x (asker_of e) handed
          (edges l desk board) (edges m desk' board') f) coded
          (subst (λ (x : Option ℕ). FollowsStep (is_stopped_by made) operators seat code x handed
          (edges l desk board) (edges m desk' board') f) asked
          (all_follows (is_stopped_by made) operators seat code asker handed l m desk desk' board board' f is sends
          follows));
      sees = sees;
    }
