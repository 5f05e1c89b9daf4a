-- A list of ticks and deliveries tells an operator what the operator no longer waits for.
use Rattle.std.proofs.Common.{ℕ, zero, suc, ◌≡◌, ◌≢◌, ◌-◌, Bool, true, false, List, [], ◌∷◌, inl, inr, refl, sym}
use Rattle.std.proofs.Common.{ap, ◌∙◌, append-nil, subst}
use Rattle.std.specs.Prelude.{◌==◌, ◌&&◌, ◌++◌, if◌then◌else◌, map, slice_get, Option, Some, None}
use Rattle.std.proofs.lemmas.Bool.{and_parts, eqb-true}
use Rattle.smi_grant.specs.declared.Holder.{Holder}
use Rattle.smi_grant.specs.declared.Holder.TheVariants.{Free, Operator, Domain}
use Rattle.smi_grant.specs.declared.Shown.{Shown}
use Rattle.smi_grant.specs.Keeper.{drop_after, take_after}
use Rattle.smi_grant.specs.Record.{Standing}
use Rattle.smi_base.specs.Between.{is_between}
use Rattle.smi_message.specs.declared.Body.{Body}
use Rattle.smi_message.specs.declared.Body.TheVariants as body
use Rattle.smi_message.specs.Message.{Message}
use Rattle.smi_tree.specs.Hierarchy.{Hierarchy}
use Rattle.smi_tree.specs.Lookups.{station_count}
use Rattle.smi_command.specs.declared.Link.{Link}
use Rattle.smi_command.specs.declared.Link.TheVariants.{Out, Taking, Held, Dropping}
use Rattle.smi_command.specs.Hearing.{told_heard}
use Rattle.smi_command.specs.Link.{is_unsettled}
use Rattle.smi_grant.proofs.Holders.{either}
use Rattle.smi_protocol.proofs.Lists.{In}
use Rattle.smi_protocol.proofs.SoundSteps.{found}
use Rattle.smi_protocol.proofs.Tables.{apart, put_here, put_there}
use Rattle.smi_protocol.specs.Display.{Station}
use Rattle.smi_protocol.specs.Grants.{Grants}
use Rattle.smi_protocol.specs.GrantsOf.{datagram_comes, grant_step}
use Rattle.smi_protocol.specs.Happening.{Happening, Comes, Ticks, told_entries, told_entry}
use Rattle.smi_protocol.specs.Hearing.{hears, listener, listeners, settlements_in, told_to}
use Rattle.smi_protocol.specs.Refusals.{refusal_of}
use Rattle.smi_protocol.specs.Schedule.{Arrival, World, arrival, arrival_of, delivery, done_by, stepped, turn}
use Rattle.smi_protocol.specs.Schedule.{nothing as nothing_done}
use Rattle.smi_protocol.specs.Step.{Outcome, accepted, after, answered_or, conditions_after, notice, showed_entries}
use Rattle.smi_protocol.specs.Showing.{domain_of_happening, passed_in}
use Rattle.smi_protocol.specs.declared.Entry.{Entry}
use Rattle.smi_protocol.specs.declared.Entry.TheVariants as entry
use Rattle.smi_protocol.specs.declared.item.Deed.TheVariants as deed
use Rattle.smi_protocol.specs.declared.item.Item.{Item}
use Rattle.smi_protocol.specs.declared.item.Item.TheVariants as item
use Rattle.smi_protocol.specs.declared.order.Answer.{Answer}
use Rattle.smi_law.specs.Known.{holder_home, link_in}
use Rattle.smi_law.specs.World.{Among}
use Rattle.smi_law.specs.Answered.{Hears, entries_left, nothing, order_told, orders_waiting, told_about}
use Rattle.smi_law.specs.Rest.{Each, Goes, led}
use Rattle.smi_law.proofs.Answering.{aside_told, hears_more, hears_on, link_aside, orders_kept, told_both}
use Rattle.smi_law.proofs.Hears.{listens_here}
use Rattle.smi_law.proofs.Telling.{body_tells, body_untold, decided_quiet, notice_silent, nothing_told, run_quiet}
use Rattle.smi_law.proofs.Telling.{unheard}
use Rattle.smi_law.proofs.Ticks.{sent_first}

-- At other stations nothing is told.

tell_away : (h : Hierarchy) (number o d : ℕ) (g : Grants) (x : ℕ) (r : Standing) → holder_home h (Operator o) ≢ number
    → (who : Option Holder) → ((k : Holder) → who ≡ Some k → In k (listeners h number x))
    → told_about o d (told_entries (told_to h number g x r who).answers) ≡ []
tell_away h number o d g x r away None at = refl
tell_away h number o d g x r away (Some Free) at = refl
tell_away h number o d g x r away (Some (Domain p)) at = refl
tell_away h number o d g x r away (Some (Operator q)) at =
    aside_told o d _ (link_aside o d q x other (g.links (Operator q) x)
    (settlements_in (told_heard (g.links (Operator q) x) (Operator q) r)))
  where
    other : (q == o && x == d) ≡ false
    other = elim (either (q == o && x == d)) [
      | inl t ↦
          let same = eqb-true q o (and_parts (q == o) (x == d) t).0 in
          absurd (away (ap (λ z. holder_home h (Operator z)) (sym same)
          ∙ (listens_here h number x (Operator q) (at (Operator q) refl)).1))
      | inr f ↦ f
    ]

body_away : (h : Hierarchy) (number o d : ℕ) (g : Grants) (from : ℕ) (b : Body) → holder_home h (Operator o) ≢ number
    → told_about o d (told_entries (datagram_comes h number g from b).answers) ≡ []
body_away h number o d g from (body.Ask x) away = refl
body_away h number o d g from (body.Take x who s) away =
    ap (λ z. told_about o d (told_entries z)) (decided_quiet h number g from x _ (take_after (g.records x) who s))
body_away h number o d g from (body.Drop x who e) away =
    ap (λ z. told_about o d (told_entries z)) (decided_quiet h number g from x _ (drop_after (g.records x) who e))
body_away h number o d g from (body.Run x who e n c) away =
    ap (λ z. told_about o d (told_entries z)) (run_quiet h number g from x who e n c)
body_away h number o d g from (body.Tell x r) away =
    tell_away h number o d g x r away (listener h number g x r)
    (λ k is. (found (λ who. hears (g.links who x) who r) (listeners h number x) k is).0)
body_away h number o d g from (body.Watch x echo) away = refl
body_away h number o d g from (body.State x echo v s) away = refl
body_away h number o d g from (body.Unwatch x echo) away = refl

at_sent : (ms : List Message) (i : ℕ) (m : Message) → slice_get ms i ≡ Some m → Among m ms
at_sent [] i m is = absurd (none i is)
  where
    none : (j : ℕ) → slice_get [] j ≡ Some m → ⊥
    none j at = cc
at_sent (k ∷ ms) zero m is = let same : k ≡ m = cc in inl (sym same)
at_sent (k ∷ ms) (suc i) m is = inr (at_sent ms i m is)

-- What a step leaves.

entries_both : (xs ys : List Answer) → told_entries (xs ++ ys) ≡ told_entries xs ++ told_entries ys
entries_both [] ys = refl
entries_both (x ∷ xs) ys = ap (λ z. told_entry x ∷ z) (entries_both xs ys)

showed_told : (o d number : ℕ) (s : Option Shown) → told_about o d (showed_entries number s) ≡ []
showed_told o d number None = refl
showed_told o d number (Some v) = refl

passed_told : (o d : ℕ) (passed : List Shown) → told_about o d (map entry.Passed passed) ≡ []
passed_told o d [] = refl
passed_told o d (v ∷ passed) = passed_told o d passed

-- the orders that are told are those that the grants answer
left_told : (o d number : ℕ) (kept : List Entry) (shown : Option Shown) (passed : List Shown) (xs ys : List Answer)
    → told_about o d kept ≡ [] → told_about o d (told_entries ys) ≡ []
    → told_about o d (kept ++ (showed_entries number shown ++ map entry.Passed passed ++ told_entries (xs ++ ys)))
    ≡ told_about o d (told_entries xs)
left_told o d number kept shown passed xs ys none silent =
    told_both o d kept (showed_entries number shown ++ map entry.Passed passed ++ told_entries (xs ++ ys))
    ∙ ap (λ z. z ++ told_about o d (showed_entries number shown ++ map entry.Passed passed
    ++ told_entries (xs ++ ys))) none
    ∙ told_both o d (showed_entries number shown ++ map entry.Passed passed) (told_entries (xs ++ ys))
    ∙ ap (λ z. z ++ told_about o d (told_entries (xs ++ ys)))
    (told_both o d (showed_entries number shown) (map entry.Passed passed)
    ∙ ap (λ z. z ++ told_about o d (map entry.Passed passed)) (showed_told o d number shown)
    ∙ passed_told o d passed)
    ∙ ap (told_about o d) (entries_both xs ys)
    ∙ told_both o d (told_entries xs) (told_entries ys)
    ∙ ap (λ z. told_about o d (told_entries xs) ++ z) silent
    ∙ append-nil (told_about o d (told_entries xs))

-- what the trace says is what the link has heard
abbrev pub Keeps : Hierarchy → ℕ → ℕ → World → List Entry → World → Type 0
Keeps h o d w new v = Hears o d v.sent (link_in h w (Operator o) d) (told_about o d new) (link_in h v (Operator o) d)

-- a step of one station
step_keeps : (h : Hierarchy) (o d : ℕ) (w : World) (number : ℕ) (out : Outcome)
    → Hears o d w.sent ((w.stations number).grants.links (Operator o) d) (told_about o d (out.kept ++ out.after))
    (out.station.grants.links (Operator o) d)
    → (holder_home h (Operator o) ≢ number → told_about o d (out.kept ++ out.after) ≡ [])
    → Keeps h o d w (stepped w number out).entries (stepped w number out).world
step_keeps h o d w number out here away = elim (apart (holder_home h (Operator o)) number) [
  | inl same ↦
      subst (λ z. Hears o d v.sent ((w.stations z).grants.links (Operator o) d)
      (told_about o d (out.kept ++ out.after)) ((v.stations z).grants.links (Operator o) d)) (sym same)
      (subst (λ (z : Station). Hears o d v.sent ((w.stations number).grants.links (Operator o) d)
      (told_about o d (out.kept ++ out.after)) (z.grants.links (Operator o) d))
      (sym (put_here w.stations number out.station))
      (hears_more o d w.sent v.sent (λ m i. sent_first m w.sent out.out.datagrams i)
      ((w.stations number).grants.links (Operator o) d) (out.station.grants.links (Operator o) d)
      (told_about o d (out.kept ++ out.after)) here))
  | inr other ↦
      unheard o d v.sent (link_in h w (Operator o) d) (link_in h v (Operator o) d)
      (told_about o d (out.kept ++ out.after)) (away other)
      (ap (λ (z : Station). z.grants.links (Operator o) d)
      (put_there w.stations number out.station (holder_home h (Operator o)) other))
]
  where
    v : World
    v = (stepped w number out).world

module _ (h : Hierarchy) (o d : ℕ) (w : World) where
  -- a datagram that comes
  comes_keep : (number : ℕ) (m : Message) → Among m w.sent → (code : Option ℕ)
      → Keeps h o d w (stepped w number (answered_or h number (w.stations number) (Comes m) code)).entries
      (stepped w number (answered_or h number (w.stations number) (Comes m) code)).world
  comes_keep number m among (Some code) =
      step_keeps h o d w number (answered_or h number (w.stations number) (Comes m) (Some code)) nothing (λ away. refl)
  comes_keep number m among None =
      let s = w.stations number in
      let g = grant_step h number s.grants (Comes m) in
      let n = notice h number s.grants s.display (Comes m) in
      let told = left_told o d number g.entries n.showed
      (passed_in h s.grants.boot s.display.conditions (conditions_after h s g.grants n.display (Comes m))
      (domain_of_happening h (Comes m))) g.answers n.answers
      (nothing_told o d g.entries (body_untold h number s.grants m.from m.body))
      (notice_silent h number s.grants.boot o d s.display m.from m.body) in
      step_keeps h o d w number (accepted h number s (Comes m))
      (subst (λ z. Hears o d w.sent (s.grants.links (Operator o) d) z (g.grants.links (Operator o) d)) (sym told)
      (body_tells h number o d w.sent s.grants m.from m among m.body refl).here)
      (λ away. told ∙ body_away h number o d s.grants m.from m.body away)

  tick_keeps : (number : ℕ)
      → Keeps h o d w (stepped w number (after h number (w.stations number) Ticks)).entries
      (stepped w number (after h number (w.stations number) Ticks)).world
  tick_keeps number = step_keeps h o d w number (after h number (w.stations number) Ticks) nothing (λ away. refl)

  done_keeps : (number : ℕ) (what : Happening)
      → Keeps h o d w (stepped w number (after h number (w.stations number) what)).entries
      (stepped w number (after h number (w.stations number) what)).world
      → Keeps h o d w (done_by h w (Some (arrival what number))).entries
      (done_by h w (Some (arrival what number))).world
  done_keeps number what keeps = by (w.stations number).is_stopped
    where
      by : (b : Bool) → Keeps h o d w
          (if b then nothing_done w else stepped w number (after h number (w.stations number) what)).entries
          (if b then nothing_done w else stepped w number (after h number (w.stations number) what)).world
      by true = nothing
      by false = keeps

  given_keeps : (m : Option Message) → ((k : Message) → m ≡ Some k → Among k w.sent)
      → Keeps h o d w (done_by h w (delivery h m)).entries (done_by h w (delivery h m)).world
  given_keeps None among = nothing
  given_keeps (Some m) among = by (is_between 1 (station_count h) m.to)
    where
      by : (b : Bool) → Keeps h o d w (done_by h w (if b then Some (arrival (Comes m) m.to) else None)).entries
          (done_by h w (if b then Some (arrival (Comes m) m.to) else None)).world
      by true = done_keeps m.to (Comes m)
          (comes_keep m.to m (among m refl) (refusal_of h m.to (w.stations m.to).grants (Comes m)))
      by false = nothing

  -- an item of a settling without starts
  goes_keeps : (x : Item) → Goes h w x → Keeps h o d w (turn h w x).entries (turn h w x).world
  goes_keeps (item.Do (deed.Tick number)) fits = done_keeps number Ticks (tick_keeps number)
  goes_keeps (item.Do (deed.Deliver k)) fits = by (k == 0)
    where
      by : (b : Bool)
          → Keeps h o d w (done_by h w (if b then None else delivery h (slice_get w.sent (k - 1)))).entries
          (done_by h w (if b then None else delivery h (slice_get w.sent (k - 1)))).world
      by true = nothing
      by false = given_keeps (slice_get w.sent (k - 1)) (λ m is. at_sent w.sent (k - 1) m is)
  goes_keeps (item.Do (deed.Recent j)) fits = absurd fits
  goes_keeps (item.Do (deed.Order p what)) fits = absurd fits
  goes_keeps (item.Do (deed.Report device s)) fits = absurd fits
  goes_keeps (item.Restart number) fits = absurd fits
  goes_keeps (item.Stop number moment what) fits = absurd fits
  goes_keeps (item.Fail number how what) fits = absurd fits

-- a turn only sends more
turn_sends : (h : Hierarchy) (w : World) (x : Item) → Goes h w x → (m : Message) → Among m w.sent
    → Among m (turn h w x).world.sent
turn_sends h w (item.Do what) fits m i = by (arrival_of h w what)
  where
    running : (number : ℕ) (out : Outcome) (b : Bool)
        → Among m (if b then nothing_done w else stepped w number out).world.sent
    running number out true = i
    running number out false = sent_first m w.sent out.out.datagrams i

    by : (a : Option Arrival) → Among m (done_by h w a).world.sent
    by None = i
    by (Some a) = running a.station (after h a.station (w.stations a.station) a.what) (w.stations a.station).is_stopped
turn_sends h w (item.Restart number) fits m i = absurd fits
turn_sends h w (item.Stop number moment what) fits m i = absurd fits
turn_sends h w (item.Fail number how what) fits m i = absurd fits

list_sends : (h : Hierarchy) (items : List Item) (w : World) → Each false h w items → (m : Message) → Among m w.sent
    → Among m (led h w items).sent
list_sends h [] w each m i = i
list_sends h (x ∷ items) w each m i =
    list_sends h items (turn h w x).world each.1 m (turn_sends h w x each.0 m i)

-- a list of them
pub list_keeps : (h : Hierarchy) (o d : ℕ) (items : List Item) (w : World) → Each false h w items
    → Keeps h o d w (entries_left h w items) (led h w items)
list_keeps h o d [] w each = nothing
list_keeps h o d (x ∷ items) w each =
    let v = (turn h w x).world in
    let z = led h v items in
    subst (λ t. Hears o d z.sent (link_in h w (Operator o) d) t (link_in h z (Operator o) d))
    (sym (told_both o d (turn h w x).entries (entries_left h v items)))
    (hears_on o d z.sent (link_in h w (Operator o) d) (link_in h v (Operator o) d) (link_in h z (Operator o) d)
    (told_about o d (turn h w x).entries) (told_about o d (entries_left h v items))
    (hears_more o d v.sent z.sent (λ m i. list_sends h items v each.1 m i) (link_in h w (Operator o) d)
    (link_in h v (Operator o) d) (told_about o d (turn h w x).entries) (goes_keeps h o d w x each.0))
    (list_keeps h o d items v each.1))

nothing_waits : (d : ℕ) (l : Link) → is_unsettled l ≡ false → orders_waiting d l ≡ []
nothing_waits d (Out k) f = refl
nothing_waits d (Taking s) f = absurd cc
nothing_waits d (Held e n []) f = refl
nothing_waits d (Held e n (c ∷ p)) f = absurd cc
nothing_waits d (Dropping e) f = absurd cc

-- if it leads to rest, each order that waited is told
pub all_told : (h : Hierarchy) (o d : ℕ) (items : List Item) (w : World) → Each false h w items
    → is_unsettled (link_in h (led h w items) (Operator o) d) ≡ false
    → map order_told (told_about o d (entries_left h w items)) ≡ orders_waiting d (link_in h w (Operator o) d)
all_told h o d items w each settled =
    let z = led h w items in
    let told = told_about o d (entries_left h w items) in
    sym (append-nil (map order_told told))
    ∙ ap (λ t. map order_told told ++ t) (sym (nothing_waits d (link_in h z (Operator o) d) settled))
    ∙ orders_kept o d z.sent (link_in h w (Operator o) d) (link_in h z (Operator o) d) told
    (list_keeps h o d items w each)
