-- What follows a step of an observer's station, and what does not follow one that stopped it.
use Rattle.std.proofs.Common.{◌≡◌, ℕ, Bool, true, false, Result, Ok, Err, refl, subst}
use Rattle.smi_protocol.specs.Step.{Out}
use Rattle.smi_protocol.specs.declared.event.Event.{Event}
use Rattle.smi_protocol.specs.declared.event.Heard.{Heard}
use Rattle.smi_protocol.specs.declared.event.StepFault.{StepFault}
use Rattle.smi_protocol.specs.declared.event.StepFault.TheVariants as fault
use Rattle.smi_station.specs.Core.{is_stopped_by}
use Rattle.smi_node.specs.Carried.{SendsStep}
use Rattle.smi_node.specs.Linked.{LinkShows}
use Rattle.smi_view.specs.Noted.{TakesIn}
use Rattle.smi_view.specs.Pictured.{Pictured}
use Rattle.smi_screen.specs.Looking.{Carries, Follows, Stepping, view}
use Rattle.smi_screen.specs.Noting.{handed_notes}

stopped_so : (made : Result Heard StepFault) → is_stopped_by made ≡ true → made ≡ Err fault.Stopped
stopped_so (Ok heard) is = absurd (let wrong : false ≡ true = is in cc)
stopped_so (Err fault.NotStored) is = absurd (let wrong : false ≡ true = is in cc)
stopped_so (Err fault.Memory) is = absurd (let wrong : false ≡ true = is in cc)
stopped_so (Err fault.Stopped) is = refl

-- a step stopped the station
pub carried_not : {T : Type 0} (S : Stepping T) (e : Event) (now : ℕ) (handed : Out) (a b : T) (l m : LinkShows)
    (p : Pictured) (made : Result Heard StepFault)
    → S a e b handed made → SendsStep (is_stopped_by made) handed.datagrams l m → is_stopped_by made ≡ true
    → Carries S e now (Err fault.Stopped) (view a l p) (view b m p) true
carried_not S e now handed a b l m p made steps sends is = record {
  handed = handed;
  steps = subst (λ (r : Result Heard StepFault). S a e b handed r) (stopped_so made is) steps;
  follows = (refl, subst (λ (x : Bool). SendsStep x handed.datagrams l m) is sends, refl);
}

follows_on : {T : Type 0} (stopped : Bool) (handed : Out) (now : ℕ) (a b : T) (l m : LinkShows) (p q : Pictured)
    → stopped ≡ false → SendsStep stopped handed.datagrams l m → TakesIn (handed_notes handed now) p q
    → Follows stopped handed now (view a l p) (view b m q) false
follows_on false handed now a b l m p q is sends notes = (refl, sends, notes)
follows_on true handed now a b l m p q is sends notes = absurd (let wrong : true ≡ false = is in cc)

-- what any other hands out is sent, and noted
pub carried_on : {T : Type 0} (S : Stepping T) (e : Event) (now : ℕ) (handed : Out) (a b : T) (l m : LinkShows)
    (p q : Pictured) (made : Result Heard StepFault)
    → S a e b handed made → SendsStep (is_stopped_by made) handed.datagrams l m → is_stopped_by made ≡ false
    → TakesIn (handed_notes handed now) p q → Carries S e now made (view a l p) (view b m q) false
carried_on S e now handed a b l m p q made steps sends is notes = record {
  handed = handed;
  steps = steps;
  follows = follows_on (is_stopped_by made) handed now a b l m p q is sends notes;
}
