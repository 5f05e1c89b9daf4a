-- What a step makes of the states that its station was shown: one that it shows was news.
use Rattle.std.proofs.Common.{ℕ, ◌≡◌, Bool, true, false, refl, sym, ap, ◌∙◌, subst, arith}
use Rattle.std.specs.Prelude.{◌==◌, nat_lt, not, Option, Some, None, Result, Ok, Err, OnOk, OnErr, if◌then◌else◌}
use Rattle.std.proofs.lemmas.Bool.{eqb-true}
use Rattle.std.proofs.lemmas.Bool.Decides.{nat_tests}
use Rattle.smi_grant.specs.declared.state.Shown.{Shown}
use Rattle.smi_grant.specs.declared.state.Version.{Version}
use Rattle.smi_message.specs.Message.{Message}
use Rattle.smi_message.specs.Spelling.{reading}
use Rattle.smi_message.specs.declared.Bad.{Bad}
use Rattle.smi_message.specs.declared.Body.{Body}
use Rattle.smi_message.specs.declared.Body.TheVariants as body
use Rattle.smi_tree.specs.Hierarchy.{Hierarchy}
use Rattle.smi_rows.specs.Store.{Rows}
use Rattle.smi_view.specs.declared.view.Acceptance.{Acceptance}
use Rattle.smi_view.specs.declared.view.Acceptance.TheVariants.{Accepted, OtherBoot, NotNewer}
use Rattle.smi_view.specs.Accepting.{acceptance, is_newer, is_newer_than_last, last_after}
use Rattle.smi_protocol.specs.Display.{Display, Station}
use Rattle.smi_protocol.specs.Grants.{Grants}
use Rattle.smi_protocol.specs.Happening.{Happening, Comes, Orders, Reports, Ticks}
use Rattle.smi_protocol.specs.Refusals.{refusal_of}
use Rattle.smi_protocol.specs.Step.{Out, after, after_event, after_reading, answered_or, body_noticed, notice}
use Rattle.smi_protocol.specs.Step.{nothing_out, ordered_or_reported}
use Rattle.smi_protocol.specs.Watching.{Notice, is_watched, order_noticed, showed_if, state_comes, told_state}
use Rattle.smi_protocol.specs.declared.event.Event.{Event}
use Rattle.smi_protocol.specs.declared.event.Event.TheVariants as event
use Rattle.smi_protocol.specs.declared.event.Heard.{Heard}
use Rattle.smi_protocol.specs.declared.event.StepFault.{StepFault}
use Rattle.smi_protocol.specs.declared.event.StepFault.TheVariants as fault
use Rattle.smi_protocol.specs.declared.order.Order.{Order}
use Rattle.smi_protocol.specs.declared.order.Order.TheVariants as order
use Rattle.smi_station_grants.specs.Save.{IfKept, IfStopped}
use Rattle.smi_station.specs.Core.{Core, number_of, station_of, tree_of}
use Rattle.smi_station.specs.Readers.{Whole}
use Rattle.smi_node.specs.Carried.{StepsTo}
use Rattle.smi_node.specs.Rising.{shown_to}

-- what was shown last, before and after a step that showed this or nothing: what was shown was news, and what would be
-- news afterwards is newer than it
pub record Shows (before after : ℕ → Option Shown) (showed : Option Shown) : Type 0 where
  pub table : (x : ℕ) (v : Version) → is_newer_than_last (after x) v ≡ true → is_newer_than_last (before x) v ≡ true
  pub newer : (v : Version) (s : Shown) → is_newer_than_last (after s.object) v ≡ true → showed ≡ Some s
      → is_newer v s.version ≡ true
  pub first : (s : Shown) → showed ≡ Some s → is_newer_than_last (before s.object) s.version ≡ true

pub calm : (before after : ℕ → Option Shown) (showed : Option Shown) → showed ≡ None → after ≡ before
    → Shows before after showed
calm before after showed none same = record {
  table = λ x v is. subst (λ (t : ℕ → Option Shown). is_newer_than_last (t x) v ≡ true) same is;
  newer = λ v s is some. absurd (nothing s some);
  first = λ s some. absurd (nothing s some);
}
  where
    nothing : (s : Shown) → showed ≡ Some s → ⊥
    nothing s some = let wrong : None ≡ Some s = sym none ∙ some in cc

newer_still : (a b c : Version) → is_newer a b ≡ true → is_newer b c ≡ true → is_newer a c ≡ true
newer_still a b c p q = grind (arith, nat_tests, p, q)

-- newer than what is newer than the last
past_last : (last : Option Shown) (a b : Version) → is_newer a b ≡ true → is_newer_than_last last b ≡ true
    → is_newer_than_last last a ≡ true
past_last None a b p q = refl
past_last (Some s) a b p q = newer_still a b s.version p q

same_object : (x : ℕ) → (x == x) ≡ true
same_object x = grind (arith, nat_tests)

taken : (s : ℕ → Option Shown) (state : Shown) → is_newer_than_last (s state.object) state.version ≡ true
    → Shows s (last_after s Accepted state) (Some state)
taken s state news = record {
  table = λ x v is. by x v (x == state.object) refl is;
  newer = λ v sh is same. shown v sh is (some same);
  first = λ sh same. subst (λ (z : Shown). is_newer_than_last (s z.object) z.version ≡ true) (some same) news;
}
  where
    some : {a b : Shown} → Some a ≡ Some b → a ≡ b
    some same = cc

    by : (x : ℕ) (v : Version) (b : Bool) → (x == state.object) ≡ b
        → is_newer_than_last (if b then Some state else s x) v ≡ true → is_newer_than_last (s x) v ≡ true
    by x v true is newer = subst (λ (n : ℕ). is_newer_than_last (s n) v ≡ true) (sym (eqb-true x state.object is))
        (past_last (s state.object) v state.version newer news)
    by x v false is newer = newer

    shown : (v : Version) (sh : Shown) → is_newer_than_last (last_after s Accepted state sh.object) v ≡ true
        → state ≡ sh → is_newer v sh.version ≡ true
    shown v sh is same =
        let at : (sh.object == state.object) ≡ true =
        subst (λ (z : Shown). (z.object == state.object) ≡ true) same (same_object state.object) in
        subst (λ (z : Shown). is_newer v z.version ≡ true) same
        (subst (λ (b : Bool). is_newer_than_last (if b then Some state else s sh.object) v ≡ true) at is)

told : (s : Display) (state : Shown) (a : Acceptance)
    → (a ≡ Accepted → is_newer_than_last (s.shown state.object) state.version ≡ true)
    → Shows s.shown (showed_if s state a).display.shown (showed_if s state a).showed
told s state Accepted news = taken s.shown state (news refl)
told s state OtherBoot news = calm s.shown s.shown None refl refl
told s state NotNewer news = calm s.shown s.shown None refl refl

accepted_if_newer : (a b : Bool) → (if a then (if b then Accepted else NotNewer) else OtherBoot) ≡ Accepted → b ≡ true
accepted_if_newer true true is = refl
accepted_if_newer true false is = absurd (let wrong : NotNewer ≡ Accepted = is in cc)
accepted_if_newer false b is = absurd (let wrong : OtherBoot ≡ Accepted = is in cc)

-- one of two notices
either_shows : (s : ℕ → Option Shown) (b : Bool) (m n : Notice) → Shows s m.display.shown m.showed
    → Shows s n.display.shown n.showed
    → Shows s (if b then m else n).display.shown (if b then m else n).showed
either_shows s true m n p q = p
either_shows s false m n p q = q

state_shows : (h : Hierarchy) (number boot : ℕ) (s : Display) (from echo : ℕ) (state : Shown)
    → Shows s.shown (state_comes h number boot s from echo state).display.shown
    (state_comes h number boot s from echo state).showed
state_shows h number boot s from echo state =
    either_shows s.shown (not (echo == boot)) _ _ (calm s.shown s.shown None refl refl)
    (either_shows s.shown (is_watched h number s state.object) _ _
    (told s state (acceptance boot (s.shown state.object) echo state.version)
    (accepted_if_newer (echo == boot) (is_newer_than_last (s.shown state.object) state.version)))
    (calm s.shown s.shown None refl refl))

body_shows : (h : Hierarchy) (number boot : ℕ) (s : Display) (from : ℕ) (b : Body)
    → Shows s.shown (body_noticed h number boot s from b).display.shown (body_noticed h number boot s from b).showed
body_shows h number boot s from (body.Tell d r) = calm s.shown s.shown None refl refl
body_shows h number boot s from (body.Watch x echo) =
    either_shows s.shown (nat_lt echo (s.echoes from)) _ _ (calm s.shown s.shown None refl refl)
    (calm s.shown s.shown None refl refl)
body_shows h number boot s from (body.State x echo v state) =
    state_shows h number boot s from echo (told_state x v state)
body_shows h number boot s from (body.Unwatch x echo) = calm s.shown s.shown None refl refl
body_shows h number boot s from (body.Ask d) = calm s.shown s.shown None refl refl
body_shows h number boot s from (body.Take d who e) = calm s.shown s.shown None refl refl
body_shows h number boot s from (body.Drop d who e) = calm s.shown s.shown None refl refl
body_shows h number boot s from (body.Run d who e n c) = calm s.shown s.shown None refl refl

order_shows : (h : Hierarchy) (number boot : ℕ) (s : Display) (o : ℕ) (what : Order)
    → Shows s.shown (order_noticed h number boot s o what).display.shown (order_noticed h number boot s o what).showed
order_shows h number boot s o (order.Unwatch x) =
    either_shows s.shown _ _ _ (calm s.shown s.shown None refl refl)
    (calm s.shown s.shown None refl refl)
order_shows h number boot s o (order.Take d) = calm s.shown s.shown None refl refl
order_shows h number boot s o (order.Drop d) = calm s.shown s.shown None refl refl
order_shows h number boot s o (order.Do d a) = calm s.shown s.shown None refl refl
order_shows h number boot s o (order.Include d c) = calm s.shown s.shown None refl refl
order_shows h number boot s o (order.Exclude d c) = calm s.shown s.shown None refl refl
order_shows h number boot s o (order.Manual d c) = calm s.shown s.shown None refl refl
order_shows h number boot s o (order.Ignore d c) = calm s.shown s.shown None refl refl
order_shows h number boot s o (order.Ask d) = calm s.shown s.shown None refl refl
order_shows h number boot s o (order.Watch x) = calm s.shown s.shown None refl refl
order_shows h number boot s o (order.Report device state) = calm s.shown s.shown None refl refl

notice_shows : (h : Hierarchy) (number : ℕ) (g : Grants) (s : Display) (what : Happening)
    → Shows s.shown (notice h number g s what).display.shown (notice h number g s what).showed
notice_shows h number g s (Comes m) = body_shows h number g.boot s m.from m.body
notice_shows h number g s (Orders o what) = order_shows h number g.boot s o what
notice_shows h number g s (Reports device state) = calm s.shown s.shown None refl refl
notice_shows h number g s Ticks = calm s.shown s.shown None refl refl

answered_shows : (h : Hierarchy) (number : ℕ) (s : Station) (what : Happening) (r : Option ℕ)
    → Shows s.display.shown (answered_or h number s what r).station.display.shown
    (answered_or h number s what r).out.shown
answered_shows h number s what (Some code) = calm s.display.shown s.display.shown None refl refl
answered_shows h number s what None = notice_shows h number s.grants s.display what

after_shows : (h : Hierarchy) (number : ℕ) (s : Station) (what : Happening)
    → Shows s.display.shown (after h number s what).station.display.shown (after h number s what).out.shown
after_shows h number s what = answered_shows h number s what (refusal_of h number s.grants what)

reading_shows : (h : Hierarchy) (number : ℕ) (s : Station) (r : Result Message Bad)
    → Shows s.display.shown (after_reading h number s r).station.display.shown (after_reading h number s r).out.shown
reading_shows h number s (Ok m) = after_shows h number s (Comes m)
reading_shows h number s (Err bad) = calm s.display.shown s.display.shown None refl refl

event_shows : (h : Hierarchy) (number : ℕ) (s : Station) (e : Event)
    → Shows s.display.shown (after_event h number s e).station.display.shown (after_event h number s e).out.shown
event_shows h number s (event.Datagram bytes) = reading_shows h number s (reading bytes.now)
event_shows h number s (event.Order o what) = after_shows h number s (ordered_or_reported o what)
event_shows h number s (event.Report device state) = after_shows h number s (Reports device state)
event_shows h number s event.Tick = after_shows h number s Ticks

-- A step, whatever it answers.

steps_by : {S : Type 0} (before : Whole S) (after : Core) (e : Event) (handed : Out) (r : Result Heard StepFault)
    → OnOk r (station_of after
    ≡ (after_event (tree_of before.core) (number_of before.core) (station_of before.core) e).station)
    → OnOk r (handed ≡ (after_event (tree_of before.core) (number_of before.core) (station_of before.core) e).out)
    → OnErr r (handed ≡ nothing_out) → IfKept r (after ≡ before.core)
    → IfStopped r (after ≡ record before.core { is_stopped = true })
    → Shows (shown_to before.core) (shown_to after) handed.shown
steps_by before after e handed (Ok heard) station out none kept stops =
    subst (λ (s : Station). Shows (shown_to before.core) s.display.shown handed.shown) (sym station)
    (subst (λ (o : Out). Shows (shown_to before.core)
    (after_event (tree_of before.core) (number_of before.core) (station_of before.core) e).station.display.shown
    o.shown) (sym out) (event_shows (tree_of before.core) (number_of before.core) (station_of before.core) e))
steps_by before after e handed (Err fault.NotStored) station out none kept stops =
    calm (shown_to before.core) (shown_to after) handed.shown (ap (λ (o : Out). o.shown) none) (ap shown_to kept)
steps_by before after e handed (Err fault.Memory) station out none kept stops =
    calm (shown_to before.core) (shown_to after) handed.shown (ap (λ (o : Out). o.shown) none) (ap shown_to kept)
steps_by before after e handed (Err fault.Stopped) station out none kept stops =
    calm (shown_to before.core) (shown_to after) handed.shown (ap (λ (o : Out). o.shown) none) (ap shown_to stops)

stopped_by : {S : Type 0} (before : Whole S) (after : Core) (handed : Out) (r : Result Heard StepFault)
    → r ≡ Err fault.Stopped → handed ≡ nothing_out → IfStopped r (after ≡ record before.core { is_stopped = true })
    → Shows (shown_to before.core) (shown_to after) handed.shown
stopped_by before after handed r is none stops =
    calm (shown_to before.core) (shown_to after) handed.shown (ap (λ (o : Out). o.shown) none)
    (ap shown_to (subst (λ (x : Result Heard StepFault). IfStopped x (after ≡ record before.core { is_stopped = true }))
    is stops))

pub step_shows : {S : Type 0} (is_honest is_open : S → Type 0) (rows : S → Rows) (may_find : S → Rows → Type 0)
    (saves failures doubts : S → ℕ) (before after : Whole S) (e : Event) (handed : Out) (r : Result Heard StepFault)
    → StepsTo is_honest is_open rows may_find saves failures doubts before e after handed r
    → Shows (shown_to before.core) (shown_to after.core) handed.shown
step_shows is_honest is_open rows may_find saves failures doubts before after e handed r steps =
    by before.core.is_stopped refl
  where
    by : (b : Bool) → before.core.is_stopped ≡ b → Shows (shown_to before.core) (shown_to after.core) handed.shown
    by true is =
        let stopped = steps.stopped is in
        stopped_by before after.core handed r stopped.0 stopped.1 steps.stops
    by false is =
        let one = steps.step is in
        steps_by before after.core e handed r one.station one.out one.cleared steps.kept steps.stops
