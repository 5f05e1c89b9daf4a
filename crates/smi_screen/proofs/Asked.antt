-- How often deeds of an observer ask its link.
use Rattle.std.proofs.Common.{◌≡◌, ◌+◌, ◌<◌, ◌≤◌, ℕ, Bool, true, false, List, [], ◌∷◌, ap, ◌∙◌, arith}
use Rattle.smi_protocol.specs.Step.{Out}
use Rattle.smi_protocol.specs.declared.event.Event.{Event}
use Rattle.smi_protocol.specs.declared.event.Event.TheVariants as event
use Rattle.smi_protocol.specs.declared.event.Heard.{Heard}
use Rattle.smi_protocol.specs.declared.event.StepFault.{StepFault}
use Rattle.smi_protocol.specs.declared.order.Order.TheVariants as order
use Rattle.smi_station.specs.Core.{is_stopped_by}
use Rattle.std.specs.Prelude.{Result}
use Rattle.smi_node.specs.Linked.{LinkShows}
use Rattle.smi_screen.specs.Looking.{Asks, Carries, Comes, Deed, Delivers, Does, DoesAll, Fails, Follows, Looks}
use Rattle.smi_screen.specs.Looking.{NotesTaken, Stepping, Ticks, View, Waits, Watches, with_link}
use Rattle.smi_screen.specs.Noting.{is_taken}

abbrev asked : {T : Type 0} → View T → ℕ
asked v = v.link.receives

follows_same : {T : Type 0} (is : Bool) (handed : Out) (now : ℕ) (a b : View T) (stopped : Bool)
    → Follows is handed now a b stopped → asked b ≡ asked a
follows_same true handed now a b stopped f = ap (λ (l : LinkShows). l.receives) f.1
follows_same false handed now a b stopped f = f.1.receives

carries_same : {T : Type 0} (S : Stepping T) (e : Event) (now : ℕ) (made : Result Heard StepFault) (a b : View T)
    (stopped : Bool) → Carries S e now made a b stopped → asked b ≡ asked a
carries_same S e now made a b stopped c = follows_same (is_stopped_by made) c.handed now a b stopped c.follows

taken_same : {T : Type 0} (is : Bool) (bytes : List ℕ) (now : ℕ) (a b : View T) → NotesTaken is bytes now a b
    → asked b ≡ asked a
taken_same true bytes now a b notes = ap (λ (l : LinkShows). l.receives) notes.1
taken_same {T} false bytes now a b notes = ap (λ (v : View T). v.link.receives) notes

delivers_same : {T : Type 0} (S : Stepping T) (bytes : List ℕ) (now : ℕ) (a b : View T) (stopped : Bool)
    → Delivers S bytes now a b stopped → asked b ≡ asked a
delivers_same S bytes now a b stopped d =
    taken_same (is_taken d.2) bytes now d.3 b d.5 ∙ carries_same S d.0 now d.2 a d.3 stopped d.4

-- a datagram came and was delivered, so the link was asked
pub delivery_asks : {T : Type 0} (S : Stepping T) (now : ℕ) (bytes : List ℕ) (a b : View T) (link : LinkShows)
    (stopped : Bool) → link.receives ≡ asked a + 1 → Delivers S bytes now (with_link a link) b stopped
    → asked a < asked b
delivery_asks S now bytes a b link stopped once d =
    let same = delivers_same S bytes now (with_link a link) b stopped d in omega (arith, once, same)

does_more : {T : Type 0} (S : Stepping T) (operator : ℕ) (deed : Deed) (now : ℕ) (a b : View T) (stopped : Bool)
    → Does S operator deed now a b stopped → asked a ≤ asked b
does_more S operator (Comes bytes) now a b stopped d =
    let same = delivers_same S bytes now (with_link a d.0) b stopped d.2 in
    let once = d.1.3 in omega (arith, once, same)
does_more {T} S operator Waits now a b stopped d =
    let same : asked b ≡ d.0.receives = ap (λ (v : View T). v.link.receives) d.3 in
    let once = d.1.3 in omega (arith, once, same)
does_more {T} S operator Fails now a b stopped d =
    let same : asked b ≡ d.0.receives = ap (λ (v : View T). v.link.receives) d.3 in
    let once = d.1.3 in omega (arith, once, same)
does_more S operator (Watches x) now a b stopped d =
    let same = carries_same S (event.Order operator (order.Watch x)) now d.0 a b stopped d.1 in omega (arith, same)
does_more S operator (Asks x) now a b stopped d =
    let same = carries_same S (event.Order operator (order.Ask x)) now d.0 a b stopped d.1 in omega (arith, same)
does_more S operator Ticks now a b stopped d =
    let same = carries_same S event.Tick now d.0 a b stopped d.1 in omega (arith, same)

all_more : {T : Type 0} (S : Stepping T) (operator : ℕ) (deeds : List (Deed × ℕ)) (a b : View T)
    → DoesAll S operator deeds a b → asked a ≤ asked b
all_more {T} S operator [] a b same =
    let is : asked b ≡ asked a = ap (λ (v : View T). v.link.receives) same in omega (arith, is)
all_more S operator (deed ∷ deeds) a b d =
    let first = all_more S operator deeds a d.0 d.1 in
    let last = does_more S operator deed.0 deed.1 d.0 b false d.2 in omega (arith, first, last)

-- whatever is looked at, the link is not asked less often
pub looks_ask : {T : Type 0} (S : Stepping T) (operator : ℕ) (a b : View T) (stopped : Bool)
    → Looks S operator a b stopped → asked a ≤ asked b
looks_ask S operator a b false d = all_more S operator d.0 a b d.1
looks_ask S operator a b true d =
    let first = all_more S operator d.0 a d.1 d.2 in
    let last = does_more S operator d.3.0 d.3.1 d.1 b true d.4 in omega (arith, first, last)
