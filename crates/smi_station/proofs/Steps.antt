-- Steps of a station whose halves have been gone over one after the other.
use Rattle.std.proofs.Common.{ℕ, ◌≡◌, Bool, false, List, [], ◌∷◌, Option, Some, None, Result, Ok}
use Rattle.std.proofs.Common.{Err, inl, inr, refl, sym, ap, ◌∙◌, subst, arith}
use Rattle.std.specs.Prelude.{IfOk, OnOk, OnErr}
use Rattle.smi_tree.specs.Hierarchy.{Hierarchy}
use Rattle.smi_message.specs.Message.{Message}
use Rattle.smi_message.specs.declared.Body.TheVariants as body
use Rattle.smi_rows.specs.Store.{Rows, IsSame}
use Rattle.smi_protocol.specs.Display.{Display, Station}
use Rattle.smi_protocol.specs.GrantStep.{unchanged}
use Rattle.smi_protocol.specs.Happening.{Happening, Comes, Reports, Ticks}
use Rattle.smi_protocol.specs.Refusals.{refusal_of}
use Rattle.smi_protocol.specs.SoundDisplay.{MayChange}
use Rattle.smi_protocol.specs.Tidy.{IsTidy}
use Rattle.smi_law.proofs.Tidy.{after_tidy}
use Rattle.smi_law.proofs.Speaking.{one_speaks}
use Rattle.smi_law.specs.World.{Among}
use Rattle.smi_message.specs.declared.Bad.{Bad}
use Rattle.smi_message.specs.Spelling.{reading}
use Rattle.smi_tree.specs.Lawful.{IsTree}
use Rattle.smi_protocol.specs.Sending.{MaySend}
use Rattle.smi_protocol.specs.Sound.{In}
use Rattle.smi_protocol.specs.declared.event.Event.{Event}
use Rattle.smi_protocol.specs.declared.event.Event.TheVariants as event
use Rattle.smi_protocol.specs.Step.{Out, Outcome, accepted, after, after_event, after_reading, answered_or}
use Rattle.smi_protocol.specs.Step.{ordered_or_reported, nothing_out, refusal_answers}
use Rattle.smi_protocol.specs.Watching.{Notice, watch_comes}
use Rattle.smi_protocol.specs.declared.event.Heard.{Heard}
use Rattle.smi_protocol.specs.declared.event.Heard.TheVariants.{Refused}
use Rattle.smi_protocol.specs.declared.event.StepFault.{StepFault}
use Rattle.smi_protocol.specs.declared.event.StepFault.TheVariants.{NotStored, Stopped, Memory}
use Rattle.smi_station_grants.specs.GrantTable.{Kept, grants_of}
use Rattle.smi_station_output.specs.Out.{with_notice}
use Rattle.smi_station_display.specs.Displayed.{Displayed, display_of}
use Rattle.smi_station_display.specs.Listening.{KeepsTheRest}
use Rattle.smi_station.specs.Core.{AreHalves, Core, IsCore, MaySendAll, Steps, core_with, number_of, same_or_memory}
use Rattle.smi_station.specs.Core.{station_of, station_with, tree_of}
use Rattle.smi_station_grants.specs.Leaving.{Leaves}
use Rattle.smi_station.proofs.Outcomes.{notice_stays}
use Rattle.smi_station.proofs.Quiet.{quiet_out, quiet_room, quiet_station}

-- what holds of two halves that run holds of their station
pub stands : (k : Kept) (d : Displayed) (b : Bool) (now : Core) → core_with k d b ≡ now → now.is_stopped ≡ false
    → (P : Core → Type 0) → P (core_with k d false) → P now
stands k d b now view runs P p = subst P view
    (subst (λ x. P (core_with k d x)) (sym (ap (λ (c : Core). c.is_stopped) view ∙ runs)) p)

-- a station that runs: its halves, and room
pub running : (k : Kept) (d : Displayed) (b : Bool) (now : Core) → core_with k d b ≡ now → now.is_stopped ≡ false
    → b ≡ false
running k d b now view runs = ap (λ (c : Core). c.is_stopped) view ∙ runs

-- a step that was made, or ended in a fault
pub made_steps : (Q : Type 0) (k0 k2 : Kept) (d0 d2 : Displayed) (stopped : Bool) (o : Outcome) (out : Out)
    (r : Result Heard StepFault)
    → OnOk r (station_with k2 d2 stopped ≡ o.station) → IfOk r (λ heard. heard ≡ o.heard) → OnOk r (out ≡ o.out)
    → OnOk r ((k2.tree ≡ k0.tree) × (k2.number ≡ k0.number)) → OnErr r ((k2 ≡ k0) × Q) → OnErr r (out ≡ nothing_out)
    → Steps (core_with k0 d0 false) (core_with k2 d2 stopped) o out r
made_steps Q k0 k2 d0 d2 stopped o out (Ok x) station heard is same kept cleared =
    record { station = station; heard = heard; out = is; cleared = tt; tree = same.0; number = same.1 }
made_steps Q k0 k2 d0 d2 stopped o out (Err e) station heard is same kept cleared =
    record {
      station = tt;
      heard = tt;
      out = tt;
      cleared = cleared;
      tree = ap (λ (k : Kept). k.tree) kept.0;
      number = ap (λ (k : Kept). k.number) kept.0;
    }

-- lists that are tidy stay so
pub made_tidy : (k0 k2 : Kept) (d0 d2 : Displayed) (stopped : Bool) (what : Happening) (r : Result Heard StepFault)
    → OnOk r (station_with k2 d2 stopped ≡ (accepted k0.tree k0.number (station_with k0 d0 false) what).station)
    → OnOk r ((k2.tree ≡ k0.tree) × (k2.number ≡ k0.number)) → OnErr r ((k2 ≡ k0) × (d2 ≡ d0))
    → IsTidy k0.tree (display_of d0) → IsTidy k2.tree (display_of d2)
made_tidy k0 k2 d0 d2 stopped what (Ok x) is same kept tidy =
    subst (λ (h : Hierarchy). IsTidy h (display_of d2)) (sym same.0)
    (subst (λ (s : Station). IsTidy k0.tree s.display) (sym is)
    (after_tidy k0.tree k0.number (station_with k0 d0 false) what None tidy))
made_tidy k0 k2 d0 d2 stopped what (Err e) is same kept tidy =
    subst (λ (k : Kept). IsTidy k.tree (display_of d2)) (sym kept.0)
    (subst (λ (d : Displayed). IsTidy k0.tree (display_of d)) (sym kept.1) tidy)

-- a station keeps its invariant
pub made_core : (k0 k2 : Kept) (d0 d2 : Displayed) (stopped : Bool) (r : Result Heard StepFault) → AreHalves k0 d0
    → MayChange (display_of d0)
    → OnOk r (AreHalves k2 d2) → OnOk r (stopped ≡ false → MayChange (display_of d2))
    → OnErr r ((k2 ≡ k0) × (d2 ≡ d0)) → IsTidy k2.tree (display_of d2) → IsCore (core_with k2 d2 stopped)
made_core k0 k2 d0 d2 stopped (Ok x) halves room now still kept tidy =
    record { halves = now; tidy = tidy; room = still }
made_core k0 k2 d0 d2 stopped (Err e) halves room now still kept tidy = record {
  halves = subst (λ (k : Kept). AreHalves k d2) (sym kept.0)
      (subst (λ (d : Displayed). AreHalves k0 d) (sym kept.1) halves);
  tidy = tidy;
  room = λ is. subst (λ (d : Displayed). MayChange (display_of d)) (sym kept.1) room;
}

-- if it runs on whatever comes
pub runs_on : (d2 : Displayed) (r : Result Heard StepFault) → OnOk r (MayChange (display_of d2))
    → OnOk r (false ≡ false → MayChange (display_of d2))
runs_on d2 (Ok x) room = λ is. room
runs_on d2 (Err e) room = tt

-- A refusal changes nothing.

pub refused_steps : (now : Core) (what : Happening) (code : ℕ) (out : Out)
    → refusal_of (tree_of now) (number_of now) (grants_of now.kept) what ≡ Some code
    → out ≡ record nothing_out { answers = refusal_answers what code }
    → Steps now now (after (tree_of now) (number_of now) (station_of now) what) out (Ok (Refused code))
refused_steps now what code out is told =
    subst (λ (o : Option ℕ). Steps now now (answered_or (tree_of now) (number_of now) (station_of now) what o) out
    (Ok (Refused code))) (sym is)
    (record { station = refl; heard = refl; out = told; cleared = tt; tree = refl; number = refl })

-- what is not refused is accepted
pub taken_steps : (now next : Core) (what : Happening) (out : Out) (r : Result Heard StepFault)
    → refusal_of (tree_of now) (number_of now) (grants_of now.kept) what ≡ None
    → Steps now next (accepted (tree_of now) (number_of now) (station_of now) what) out r
    → Steps now next (after (tree_of now) (number_of now) (station_of now) what) out r
taken_steps now next what out r is steps =
    subst (λ (o : Option ℕ). Steps now next (answered_or (tree_of now) (number_of now) (station_of now) what o) out r)
    (sym is) steps

pub refused_saves : (now : Core) (what : Happening) (code : ℕ)
    → refusal_of (tree_of now) (number_of now) (grants_of now.kept) what ≡ Some code
    → (after (tree_of now) (number_of now) (station_of now) what).saved ≡ None
refused_saves now what code is =
    ap (λ (o : Option ℕ). (answered_or (tree_of now) (number_of now) (station_of now) what o).saved) is

pub taken_saves : (now : Core) (what : Happening)
    → refusal_of (tree_of now) (number_of now) (grants_of now.kept) what ≡ None
    → (after (tree_of now) (number_of now) (station_of now) what).saved
    ≡ (accepted (tree_of now) (number_of now) (station_of now) what).saved
taken_saves now what is =
    ap (λ (o : Option ℕ). (answered_or (tree_of now) (number_of now) (station_of now) what o).saved) is

-- A store that is let be.

-- the result is no fault of a store
abbrev pub IsRest : {X : Type 0} → Result X StepFault → Type 0
IsRest (Ok x) = Unit {0}
IsRest (Err fault) = fault ≡ Memory

pub rests : {T X : Type 0} (is_honest is_open : T → Type 0) (rows : T → Rows) (may_find : T → Rows → Type 0)
    (saves failures doubts : T → ℕ)
    → ((store : T) → is_honest store → is_open store → (x : Rows) → may_find store x → IsSame x (rows store))
    → (store : T) (r : Result X StepFault) → IsRest r → Leaves is_honest is_open rows may_find saves failures doubts
    store
    store r None
rests is_honest is_open rows may_find saves failures doubts finds store (Ok x) rest = record {
  saved = λ honest opened. (opened, λ k. refl);
  kept = λ honest. tt;
  unsure = λ honest opened. tt;
  crash = λ honest opened x may. inl (finds store honest opened x may);
  honest = λ honest. honest;
  one_save = omega arith;
  failures_rise = omega arith;
  cause = tt;
  calm = refl;
  doubt = tt;
  sure = refl;
}
rests is_honest is_open rows may_find saves failures doubts finds store (Err Memory) rest = record {
  saved = λ honest opened. tt;
  kept = λ honest opened. (opened, λ k. refl);
  unsure = λ honest opened. tt;
  crash = λ honest opened x may. inl (finds store honest opened x may);
  honest = λ honest. honest;
  one_save = omega arith;
  failures_rise = omega arith;
  cause = tt;
  calm = refl;
  doubt = tt;
  sure = refl;
}
rests is_honest is_open rows may_find saves failures doubts finds store (Err NotStored) rest = absurd cc
rests is_honest is_open rows may_find saves failures doubts finds store (Err Stopped) rest = absurd cc

-- Watches.

module _ (k : Kept) (d0 d2 : Displayed) (m : Message) (x echo : ℕ) (halves : AreHalves k d0)
    (is : m.body ≡ body.Watch x echo) where
  abbrev n : Notice
  n = watch_comes d0.tree d0.number d0.published.boot (display_of d0) m.from x echo

  abbrev whole : Outcome
  whole = accepted k.tree k.number (station_with k d0 false) (Comes (record m { body = body.Watch x echo }))

  same_notice : n ≡ watch_comes k.tree k.number k.boot (display_of d0) m.from x echo
  same_notice =
      ap (λ (h : Hierarchy). watch_comes h d0.number d0.published.boot (display_of d0) m.from x echo) halves.tree
      ∙ ap (λ i. watch_comes k.tree i d0.published.boot (display_of d0) m.from x echo) halves.number
      ∙ ap (λ b. watch_comes k.tree k.number b (display_of d0) m.from x echo) halves.boot

  stays : (watch_comes k.tree k.number k.boot (display_of d0) m.from x echo).display.conditions
      ≡ (display_of d0).conditions
  stays = notice_stays k.tree k.number k.boot (display_of d0) m.from (body.Watch x echo)

  pub watched_steps : {X Y : Type 0} (out0 out2 : Out) (r : Result X Y) → out0 ≡ nothing_out
      → OnOk r (display_of d2 ≡ n.display) → OnOk r (out2 ≡ with_notice out0 n) → OnErr r (out2 ≡ out0)
      → Steps (core_with k d0 false) (core_with k d2 false)
      (accepted k.tree k.number (station_with k d0 false) (Comes m)) out2 (same_or_memory r)
  watched_steps out0 out2 r empty shown sent unsent =
      subst (λ b. Steps (core_with k d0 false) (core_with k d2 false)
      (accepted k.tree k.number (station_with k d0 false) (Comes (record m { body = b }))) out2 (same_or_memory r))
      (sym is) (by r shown sent unsent)
    where
      by : {X Y : Type 0} (r : Result X Y) → OnOk r (display_of d2 ≡ n.display) → OnOk r (out2 ≡ with_notice out0 n)
          → OnErr r (out2 ≡ out0) → Steps (core_with k d0 false) (core_with k d2 false) whole out2 (same_or_memory r)
      by (Ok x) shown sent unsent = record {
        station = quiet_station k.tree k.number (station_with k d0 false) (unchanged (grants_of k) [])
            (watch_comes k.tree k.number k.boot (display_of d0) m.from _ echo) (grants_of k) (display_of d2) stays refl
            (shown ∙ ap (λ (n : Notice). n.display) same_notice);
        heard = refl;
        out = sent ∙ ap (λ (o : Out). with_notice o n) empty ∙ ap (with_notice nothing_out) same_notice
            ∙ quiet_out k.tree k.number (station_with k d0 false) (unchanged (grants_of k) [])
            (watch_comes k.tree k.number k.boot (display_of d0) m.from _ echo);
        cleared = tt;
        tree = refl;
        number = refl;
      }
      by (Err e) shown sent unsent = record {
        station = tt;
        heard = tt;
        out = tt;
        cleared = unsent ∙ empty;
        tree = refl;
        number = refl;
      }

  pub watched_core : {X Y : Type 0} (r : Result X Y) → IsTidy k.tree (display_of d0) → MayChange (display_of d0)
      → KeepsTheRest d0 d2 → OnOk r (display_of d2 ≡ n.display) → OnErr r (d2 ≡ d0) → IsCore (core_with k d2 false)
  watched_core r tidy room rest shown same = record {
    halves = record {
      tree = rest.tree ∙ halves.tree;
      number = rest.number ∙ halves.number;
      boot = rest.boot ∙ halves.boot;
      sound = halves.sound;
    };
    tidy = still r shown same;
    room = λ is. quiet_room (display_of d0) (display_of d2) (by r shown same) room;
  }
    where
      still : {X Y : Type 0} (r : Result X Y) → OnOk r (display_of d2 ≡ n.display) → OnErr r (d2 ≡ d0)
          → IsTidy k.tree (display_of d2)
      still (Ok y) shown same =
          let t = after_tidy k.tree k.number (station_with k d0 false)
          (Comes (record m { body = body.Watch x echo })) None tidy in
          subst (IsTidy k.tree) (sym (shown ∙ ap (λ (n : Notice). n.display) same_notice))
          (record { lists = t.lists; greatest = t.greatest })
      still (Err e) shown same = subst (λ (d : Displayed). IsTidy k.tree (display_of d)) (sym same) tidy

      by : {X Y : Type 0} (r : Result X Y) → OnOk r (display_of d2 ≡ n.display) → OnErr r (d2 ≡ d0)
          → (display_of d2).conditions ≡ (display_of d0).conditions
      by (Ok y) shown same = ap (λ (s : Display). s.conditions) (shown ∙ ap (λ (n : Notice). n.display) same_notice)
          ∙ stays
      by (Err e) shown same = ap (λ (d : Displayed). (display_of d).conditions) same

-- What is sent.

module _ (h : Hierarchy) (tree : IsTree h) (number : ℕ) (s : Station) (tidy : IsTidy h s.display) where
  among : (m : Message) (ms : List Message) → In m ms → Among m ms
  among m [] a = absurd a
  among m (k ∷ ms) (inl is) = inl is
  among m (k ∷ ms) (inr a) = inr (among m ms a)

  after_may : (what : Happening) (m : Message) → In m (after h number s what).out.datagrams
      → MaySend h number (after h number s what).station m
  after_may what m a = one_speaks h tree number s tidy what m (among m (after h number s what).out.datagrams a)

  reading_may : (r : Result Message Bad) (m : Message) → In m (after_reading h number s r).out.datagrams
      → MaySend h number (after_reading h number s r).station m
  reading_may (Ok d) = after_may (Comes d)
  reading_may (Err bad) = λ m a. absurd a

  -- whatever comes
  pub event_may : (e : Event) (m : Message) → In m (after_event h number s e).out.datagrams
      → MaySend h number (after_event h number s e).station m
  event_may (event.Datagram bytes) = reading_may (reading bytes.now)
  event_may (event.Order o what) = after_may (ordered_or_reported o what)
  event_may (event.Report device state) = after_may (Reports device state)
  event_may event.Tick = after_may Ticks

-- a step sends what the station may send then
pub steps_may : (before next : Core) (e : Event) (out : Out) (r : Result Heard StepFault) → IsTree (tree_of before)
    → IsTidy (tree_of before) (station_of before).display
    → Steps before next (after_event (tree_of before) (number_of before) (station_of before) e) out r
    → OnOk r (MaySendAll next out.datagrams)
steps_may before next e out (Ok x) tree tidy steps = λ m a.
    subst (λ (h : Hierarchy). MaySend h (number_of next) (station_of next) m) (sym steps.tree)
    (subst (λ n. MaySend (tree_of before) n (station_of next) m) (sym steps.number)
    (subst (λ (s : Station). MaySend (tree_of before) (number_of before) s m) (sym steps.station)
    (event_may (tree_of before) tree (number_of before) (station_of before) tidy e m
    (subst (λ (o : Out). In m o.datagrams) steps.out a))))
steps_may before next e out (Err fault) tree tidy steps = tt
