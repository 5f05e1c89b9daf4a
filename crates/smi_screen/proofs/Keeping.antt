-- Whatever an observer does, its picture keeps up with what was had in it.
use Rattle.std.proofs.Common.{ℕ, Bool, true, false, List, [], ◌∷◌, Result, ap}
use Rattle.smi_protocol.specs.Step.{Out}
use Rattle.smi_protocol.specs.declared.event.Event.{Event}
use Rattle.smi_protocol.specs.declared.event.Heard.{Heard}
use Rattle.smi_protocol.specs.declared.event.StepFault.{StepFault}
use Rattle.smi_protocol.specs.declared.event.Event.TheVariants as event
use Rattle.smi_protocol.specs.declared.order.Order.TheVariants as order
use Rattle.smi_station.specs.Core.{is_stopped_by}
use Rattle.smi_view.specs.Keeping.{KeepsUp}
use Rattle.smi_view.proofs.Keeping.{keeps_both, keeps_same, keeps_up}
use Rattle.smi_screen.specs.Looking.{Asks, Carried, Carries, Comes, Deed, Does, DoesAll, Fails, Follows, Looks}
use Rattle.smi_screen.specs.Looking.{NotesTaken, Stepping, Ticks, View, Waits, Watches, with_link}
use Rattle.smi_screen.specs.Noting.{datagram_notes, handed_notes, is_taken}

follows : {T : Type 0} (stops : Bool) (handed : Out) (now : ℕ) (a b : View T) (stopped : Bool)
    → Follows stops handed now a b stopped → KeepsUp a.picture b.picture
follows true handed now a b stopped h = keeps_same a.picture b.picture h.2
follows false handed now a b stopped h = keeps_up (handed_notes handed now) a.picture b.picture h.2

carries : {T : Type 0} (S : Stepping T) (e : Event) (now : ℕ) (made : Result Heard StepFault) (a b : View T)
    (stopped : Bool) → Carries S e now made a b stopped → KeepsUp a.picture b.picture
carries S e now made a b stopped h = follows (is_stopped_by made) h.handed now a b stopped h.follows

carried : {T : Type 0} (S : Stepping T) (e : Event) (now : ℕ) (a b : View T) (stopped : Bool)
    → Carried S e now a b stopped → KeepsUp a.picture b.picture
carried S e now a b stopped h = carries S e now h.0 a b stopped h.1

taken : {T : Type 0} (is : Bool) (bytes : List ℕ) (now : ℕ) (a b : View T) → NotesTaken is bytes now a b
    → KeepsUp a.picture b.picture
taken true bytes now a b h = keeps_up (datagram_notes bytes now) a.picture b.picture h.2
taken false bytes now a b h = keeps_same a.picture b.picture (ap (λ v. v.picture) h)

does : {T : Type 0} (S : Stepping T) (operator now : ℕ) (deed : Deed) (a b : View T) (stopped : Bool)
    → Does S operator deed now a b stopped → KeepsUp a.picture b.picture
does S operator now (Comes bytes) a b stopped h =
    let delivered = h.2 in
    keeps_both a.picture delivered.3.picture b.picture
    (carries S delivered.0 now delivered.2 (with_link a h.0) delivered.3 stopped delivered.4)
    (taken (is_taken delivered.2) bytes now delivered.3 b delivered.5)
does S operator now Waits a b stopped h = keeps_same a.picture b.picture (ap (λ v. v.picture) h.3)
does S operator now Fails a b stopped h = keeps_same a.picture b.picture (ap (λ v. v.picture) h.3)
does S operator now (Watches x) a b stopped h =
    carried S (event.Order operator (order.Watch x)) now a b stopped h
does S operator now (Asks d) a b stopped h = carried S (event.Order operator (order.Ask d)) now a b stopped h
does S operator now Ticks a b stopped h = carried S event.Tick now a b stopped h

does_all : {T : Type 0} (S : Stepping T) (operator : ℕ) (deeds : List (Deed × ℕ)) (a b : View T)
    → DoesAll S operator deeds a b → KeepsUp a.picture b.picture
does_all S operator [] a b h = keeps_same a.picture b.picture (ap (λ v. v.picture) h)
does_all S operator (deed ∷ deeds) a b h =
    keeps_both a.picture h.0.picture b.picture (does_all S operator deeds a h.0 h.1)
    (does S operator deed.1 deed.0 h.0 b false h.2)

pub looks_keep : {T : Type 0} (S : Stepping T) (operator : ℕ) (a b : View T) (stopped : Bool)
    → Looks S operator a b stopped → KeepsUp a.picture b.picture
looks_keep S operator a b false h = does_all S operator h.0 a b h.1
looks_keep S operator a b true h =
    keeps_both a.picture h.1.picture b.picture (does_all S operator h.0 a h.1 h.2)
    (does S operator h.3.1 h.3.0 h.1 b true h.4)
