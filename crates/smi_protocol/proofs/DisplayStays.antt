-- Whatever comes, what a station keeps of states and of watching stays sound.
use Rattle.std.proofs.Common.{ℕ, ◌≡◌, ◌≤◌, ◌+◌, ◌-◌, Bool, true, false, List, [], ◌∷◌, inl, inr, Option, Some}
use Rattle.std.proofs.Common.{None, refl, sym, ap, ◌∙◌, subst, arith}
use Rattle.std.specs.Prelude.{◌==◌, nat_le, nat_lt, not, map, option_map, IfSome, if◌then◌else◌}
use Rattle.std.proofs.lemmas.Bool.{and_parts, leb-true}
use Rattle.std.proofs.lemmas.Bool.Decides.{nat_tests}
use Rattle.smi_grant.specs.declared.Command.{Command}
use Rattle.smi_grant.specs.declared.Command.TheVariants.{Do, Include, Exclude, Manual, Ignore}
use Rattle.smi_grant.specs.declared.Shown.{Shown}
use Rattle.smi_grant.specs.Keeper.{admits}
use Rattle.smi_message.specs.declared.Body.{Body}
use Rattle.smi_message.specs.declared.Body.TheVariants as body
use Rattle.smi_message.specs.Message.{is_body, is_boot, is_object}
use Rattle.smi_tree.specs.declared.row.Device.{Device as DeviceRow}
use Rattle.smi_tree.specs.Hierarchy.{Hierarchy, entry}
use Rattle.smi_tree.specs.Lawful.{IsBetween, IsTree}
use Rattle.smi_tree.specs.Lookups.{accepts, devices_of, domain_count, device_count, operator_station_of}
use Rattle.smi_tree.specs.Lookups.{state_count, station_count}
use Rattle.smi_publish.specs.declared.condition.Condition.{Condition}
use Rattle.smi_publish.specs.Published.{HasRoom}
use Rattle.smi_publish.specs.Publishing.{acted, device_objects, is_among, reported}
use Rattle.smi_tree.specs.Roles.{domain_of, is_kept_by, is_number, is_keeper, is_child_unit}
use Rattle.smi_publish.specs.Publishing as publishing
use Rattle.smi_view.specs.declared.Acceptance.{Acceptance}
use Rattle.smi_view.specs.declared.Acceptance.TheVariants.{Accepted, OtherBoot, NotNewer}
use Rattle.smi_view.specs.Accepting.{acceptance, last_after}
use Rattle.smi_command.proofs.Heard.{choose}
use Rattle.smi_grant.proofs.Holders.{either}
use Rattle.smi_protocol.specs.Display.{Display, Station}
use Rattle.smi_protocol.specs.Grants.{Grants, put}
use Rattle.smi_protocol.specs.GrantsOf.{grant_step}
use Rattle.smi_protocol.specs.Happening.{Happening, Comes, Orders, Reports, Ticks, answer}
use Rattle.smi_protocol.specs.Messages.{object_home, unwatches}
use Rattle.smi_protocol.specs.Refusals.{is_body_of, is_order_here, is_order_of, is_report_here}
use Rattle.smi_protocol.specs.Refusals.{refusal_by_link, refusal_of}
use Rattle.smi_protocol.specs.Showing.{domain_of_body, domain_of_happening, followed, members_of, moved_by}
use Rattle.smi_protocol.specs.Showing.{moved_by_body, moved_by_command, same_members, Member}
use Rattle.smi_protocol.specs.Sound.{IsSayable}
use Rattle.smi_protocol.specs.SoundDisplay.{IsDisplay, MayChange}
use Rattle.smi_protocol.specs.Step.{after, answered_or, body_noticed, conditions_after, conditions_by, notice}
use Rattle.smi_protocol.specs.Watching.{Notice, is_watched, lists_after, lists_before, noticed}
use Rattle.smi_protocol.specs.Watching.{order_noticed, showed_if, state_comes, told_state, unnoticed, watch_answer}
use Rattle.smi_protocol.specs.Watching.{watch_comes}
use Rattle.smi_protocol.specs.declared.order.Order.{Order}
use Rattle.smi_protocol.specs.declared.order.Order.TheVariants as order
use Rattle.smi_protocol.proofs.Lists.{In, from_mapped, in_any, numbers_above}
use Rattle.smi_protocol.proofs.Ranges.{is_within, kept_there}
use Rattle.smi_protocol.proofs.SoundDisplay.{Conditions, acted_sound, answered_sound, asked_sound, conditions_sound}
use Rattle.smi_protocol.proofs.SoundDisplay.{evaluated_sound, named_sound, reported_sound, unwatch_sound, watch_sound}
use Rattle.smi_protocol.proofs.SoundSteps.{body_here, sender_here}

-- the refusal of what is not here
abbrev missing : Option ℕ
missing = Some 26

module _ (h : Hierarchy) (number : ℕ) (s : Display) (sound : IsDisplay h number s) where
  -- what is shown by others, and where the next tick begins, is nothing that is sent
  abbrev aside : (t : Display) → Type 0
  aside t = (t.conditions ≡ s.conditions) × (t.watchers ≡ s.watchers) × (t.named ≡ s.named) × (t.asks ≡ s.asks)

  pub aside_sound : (t : Display) → aside t → IsDisplay h number t
  aside_sound t same = record {
    own = subst (λ (cs : ℕ → Option Condition). (x : ℕ) → IfSome (cs x) (λ c. is_kept_by h number x ≡ true))
        (sym same.0) sound.own;
    conditions = rw same.0 sound.conditions;
    lists = rw same.1 sound.lists;
    watchers = rw same.1 sound.watchers;
    named = rw same.2 sound.named;
    asks = rw same.3 sound.asks;
  }

  showed_sound : (t : Shown) (a : Acceptance) → IsDisplay h number (showed_if s t a).display
  showed_sound t Accepted = aside_sound (record s { shown = last_after s.shown Accepted t }) (refl, refl, refl, refl)
  showed_sound t OtherBoot = sound
  showed_sound t NotNewer = sound

  state_sound : (boot from echo : ℕ) (t : Shown) → IsDisplay h number (state_comes h number boot s from echo t).display
  state_sound boot from echo t =
      choose (λ (n : Notice). IsDisplay h number n.display) (not (echo == boot)) (unnoticed s)
      (if is_watched h number s t.object
      then showed_if s t (acceptance boot (s.shown t.object) echo t.version)
      else noticed s (unwatches h number boot from t.object ∷ []) [])
      (λ b. sound)
      (λ f. choose (λ (n : Notice). IsDisplay h number n.display) (is_watched h number s t.object)
      (showed_if s t (acceptance boot (s.shown t.object) echo t.version))
      (noticed s (unwatches h number boot from t.object ∷ []) [])
      (λ b. showed_sound t (acceptance boot (s.shown t.object) echo t.version)) (λ b. sound))

  watched_sound : (boot from x echo : ℕ) → IsBetween 1 (station_count h) from → is_boot echo ≡ true
      → IsDisplay h number (watch_comes h number boot s from x echo).display
  watched_sound boot from x echo there begun =
      choose (λ (n : Notice). IsDisplay h number n.display) (nat_lt echo (s.echoes from)) (unnoticed s)
      (noticed (record s {
        echoes = put s.echoes from echo;
        watchers = lists_after (lists_before s from echo) x from echo;
      }) (watch_answer h number boot s from x echo) [])
      (λ b. sound) (λ f. watch_sound h number s sound x from echo (record { station = there; echo = begun }))

  body_display : (boot from : ℕ) (b : Body) → IsBetween 1 (station_count h) from → is_body b ≡ true
      → IsDisplay h number (body_noticed h number boot s from b).display
  body_display boot from (body.Ask d) there fits = sound
  body_display boot from (body.Take d who seen) there fits = sound
  body_display boot from (body.Drop d who e) there fits = sound
  body_display boot from (body.Run d who e n c) there fits = sound
  body_display boot from (body.Tell d r) there fits = answered_sound h number s sound d
  body_display boot from (body.Watch x echo) there fits = watched_sound boot from x echo there
      (and_parts (is_object x) (is_boot echo) fits).1
  body_display boot from (body.State x echo v state) there fits = state_sound boot from echo (told_state x v state)
  body_display boot from (body.Unwatch x echo) there fits = unwatch_sound h number s sound x from echo

  order_display : (boot o : ℕ) (what : Order) → is_order_of h what ≡ true
      → IsDisplay h number (order_noticed h number boot s o what).display
  order_display boot o (order.Take d) there = sound
  order_display boot o (order.Drop d) there = sound
  order_display boot o (order.Do d a) there = sound
  order_display boot o (order.Include d t) there = sound
  order_display boot o (order.Exclude d t) there = sound
  order_display boot o (order.Manual d t) there = sound
  order_display boot o (order.Ignore d t) there = sound
  order_display boot o (order.Ask d) there = asked_sound h number s sound o d (is_within 1 (domain_count h) d there)
  order_display boot o (order.Watch x) there = named_sound h number s sound x true
      (is_within 1 (domain_count h + device_count h) x there)
  order_display boot o (order.Unwatch x) there =
      choose (λ (n : Notice). IsDisplay h number n.display) (is_child_unit h number x)
      (noticed s [] (answer o (order.Unwatch x) 0 ∷ []))
      (noticed (record s { named = put s.named x false }) (unwatches h number boot (object_home h x) x ∷ [])
      (answer o (order.Unwatch x) 0 ∷ []))
      (λ b. sound)
      (λ b. named_sound h number s sound x false (is_within 1 (domain_count h + device_count h) x there))
  order_display boot o (order.Report device state) there = absurd cc

  -- whatever comes and is not refused
  pub notice_sound : (g : Grants) (what : Happening) → IsSayable what → refusal_of h number g what ≡ None
      → IsDisplay h number (notice h number g s what).display
  notice_sound g (Comes m) fits none = body_display g.boot m.from m.body (sender_here h number m none) fits
  notice_sound g (Orders o what) fits none = by (is_order_here h number o what) refl none
    where
      by : (b : Bool) → is_order_here h number o what ≡ b
          → (if b then refusal_by_link h g o what else missing) ≡ None
          → IsDisplay h number (order_noticed h number g.boot s o what).display
      by true is i = order_display g.boot o what (and_parts (is_number (operator_station_of h o) number) _ is).1
      by false is i = absurd cc
  notice_sound g (Reports device state) fits none = sound
  notice_sound g Ticks fits none = aside_sound (notice h number g s Ticks).display (refl, refl, refl, refl)

-- Devices move, and then the unit follows.

-- the devices of a domain are no units
no_device : (h : Hierarchy) (d : ℕ) → d ≤ domain_count h → is_among (device_objects h d) d ≡ false
no_device h d within = elim (either (is_among (device_objects h d) d)) [
  | inl t ↦ absurd (wrong (in_any d (device_objects h d) t))
  | inr f ↦ f
]
  where
    wrong : In d (device_objects h d) → ⊥
    wrong a =
        let m = from_mapped (λ device. domain_count h + device) d (devices_of h d) a in
        let above = numbers_above _ h.devices 1 m.0 m.1 in
        let is : d ≡ domain_count h + m.0 = m.2 in
        omega (arith, within, above, is)

module _ (h : Hierarchy) (tree : IsTree h) (number : ℕ) (cs : ℕ → Option Condition) (old : Conditions h number cs)
    (room : (x : ℕ) → HasRoom cs x) where
  -- a unit that may change still may when devices have moved
  abbrev Moved : ℕ → (ℕ → Option Condition) → Type 0
  Moved d new = Conditions h number new × HasRoom new d

  ran_sound : (d : ℕ) (c : Command) → d ≤ domain_count h → Moved d (moved_by_command h cs d c)
  ran_sound d (Do a) within =
      choose (Moved d) (accepts h d a) (acted h cs d a) cs
      (λ t. (acted_sound h number cs old tree d a (λ x among. room x), unit))
      (λ f. (old, room d))
    where
      unit : HasRoom (acted h cs d a) d
      unit = rw (no_device h d within) (room d)
  ran_sound d (Include t) within = (old, room d)
  ran_sound d (Exclude t) within = (old, room d)
  ran_sound d (Manual t) within = (old, room d)
  ran_sound d (Ignore t) within = (old, room d)

  body_moved : (g : Grants) (from : ℕ) (b : Body) (d : ℕ) → is_body_of h from number b ≡ true
      → domain_of_body h b ≡ Some d → Moved d (moved_by_body h g cs b)
  body_moved g from (body.Run e who epoch n c) d here is =
      let same : e ≡ d = cc in
      let within = (kept_there h tree number e (and_parts (is_keeper h number e) _ here).0).0 in
      choose (Moved d) (admits (g.records e) who epoch n) (moved_by_command h cs e c) cs
      (λ t. subst (λ z. Moved z (moved_by_command h cs e c)) same (ran_sound e c within.most))
      (λ f. (old, room d))
  body_moved g from (body.Ask e) d here is = (old, room d)
  body_moved g from (body.Take e who seen) d here is = (old, room d)
  body_moved g from (body.Drop e who epoch) d here is = (old, room d)
  body_moved g from (body.Tell e r) d here is = (old, room d)
  body_moved g from (body.Watch x echo) d here is = (old, room d)
  body_moved g from (body.State x echo v state) d here is = (old, room d)
  body_moved g from (body.Unwatch x echo) d here is = (old, room d)

  -- a reported device is not its domain's unit
  report_moved : (device state d : ℕ) → 1 ≤ device → IsBetween 1 (state_count h) state
      → domain_of h (domain_count h + device) ≡ Some d → Moved d (reported cs (domain_count h + device) state)
  report_moved device state d least within is =
      (reported_sound h number cs old (domain_count h + device) state (room (domain_count h + device)) within, unit)
    where
      device_first : (m n : ℕ) → 1 ≤ n → nat_le (m + n) m ≡ false
      device_first m n l = grind (arith, nat_tests)

      rowed : (o : Option DeviceRow) → entry h.devices (domain_count h + device - domain_count h) ≡ o
          → option_map (λ (row : DeviceRow). row.domain) o ≡ Some d → d ≤ domain_count h
      rowed None at i = absurd cc
      rowed (Some row) at i =
          let same : row.domain ≡ d = cc in
          subst (λ z. z ≤ domain_count h) same
          (tree.lawful.devices.each (domain_count h + device - domain_count h) row at).domain.most

      most : d ≤ domain_count h
      most = rowed (entry h.devices (domain_count h + device - domain_count h)) refl
          (sym (ap (λ b. if b then Some (domain_count h + device)
          else option_map (λ (row : DeviceRow). row.domain)
          (entry h.devices (domain_count h + device - domain_count h)))
          (device_first (domain_count h) device least)) ∙ is)

      other : (n m k : ℕ) → n ≤ m → 1 ≤ k → (n == m + k) ≡ false
      other n m k a b = grind (arith, nat_tests)

      unit : HasRoom (reported cs (domain_count h + device) state) d
      unit = rw (other d (domain_count h) device most least) (room d)

  -- whatever comes and is not refused
  moved_sound : (g : Grants) (what : Happening) (d : ℕ) → refusal_of h number g what ≡ None
      → domain_of_happening h what ≡ Some d → Moved d (moved_by h g cs what)
  moved_sound g (Comes m) d none is = body_moved g m.from m.body d (body_here h number m none) is
  moved_sound g (Orders o what) d none is = absurd cc
  moved_sound g (Reports device state) d none is = by (is_report_here h number device state) refl none
    where
      by : (b : Bool) → is_report_here h number device state ≡ b → (if b then None else missing) ≡ None
          → Moved d (reported cs (domain_count h + device) state)
      by true here i =
          let a = and_parts (nat_le 1 device) _ here in
          let b = and_parts (is_kept_by h number (domain_count h + device)) _ a.1 in
          report_moved device state d (leb-true 1 device a.0) (is_within 1 (state_count h) state b.1) is
      by false here i = absurd cc
  moved_sound g Ticks d none is = absurd cc

  -- if no domain's members may change, nothing moves
  still : (g : Grants) (what : Happening) → refusal_of h number g what ≡ None → domain_of_happening h what ≡ None
      → Conditions h number (moved_by h g cs what)
  still g (Comes m) none is = by m.body is
    where
      by : (b : Body) → domain_of_body h b ≡ None → Conditions h number (moved_by_body h g cs b)
      by (body.Run e who epoch n c) i = absurd cc
      by (body.Ask e) i = old
      by (body.Take e who seen) i = old
      by (body.Drop e who epoch) i = old
      by (body.Tell e r) i = old
      by (body.Watch x echo) i = old
      by (body.State x echo v state) i = old
      by (body.Unwatch x echo) i = old
  still g (Orders o what) none is = old
  still g (Reports device state) none is = by (is_report_here h number device state) refl none
    where
      by : (b : Bool) → is_report_here h number device state ≡ b → (if b then None else missing) ≡ None
          → Conditions h number (reported cs (domain_count h + device) state)
      by true here i =
          let a = and_parts (nat_le 1 device) _ here in
          let b = and_parts (is_kept_by h number (domain_count h + device)) _ a.1 in
          reported_sound h number cs old (domain_count h + device) state (room (domain_count h + device))
          (is_within 1 (state_count h) state b.1)
      by false here i = absurd cc
  still g Ticks none is = old

  followed_sound : (before now : List Member) (new : ℕ → Option Condition) (d : ℕ) → Moved d new
      → Conditions h number (followed h before now new d)
  followed_sound before now new d moved =
      choose (Conditions h number) (same_members before now) new
      (publishing.evaluated h new d (map (λ (x : Member). x.state) now))
      (λ t. moved.0)
      (λ f. evaluated_sound h number new moved.0 tree d (map (λ (x : Member). x.state) now) moved.1)

-- the states of the station's objects after a step
pub conditions_stay : (h : Hierarchy) → IsTree h → (number : ℕ) (s : Station) (grants : Grants) (display : Display)
    (what : Happening) → IsDisplay h number s.display → MayChange s.display
    → refusal_of h number s.grants what ≡ None → Conditions h number (conditions_after h s grants display what)
conditions_stay h tree number s grants display what sound room none = by (domain_of_happening h what) refl
  where
    old : Conditions h number s.display.conditions
    old = (sound.own, sound.conditions)

    by : (o : Option ℕ) → domain_of_happening h what ≡ o
        → Conditions h number
        (conditions_by h s grants display (moved_by h s.grants s.display.conditions what) o)
    by None is = still h tree number s.display.conditions old room s.grants what none is
    by (Some d) is =
        followed_sound h tree number s.display.conditions old room
        (members_of h s.grants s.display.conditions s.display.shown d)
        (members_of h grants (moved_by h s.grants s.display.conditions what) display.shown d)
        (moved_by h s.grants s.display.conditions what) d
        (moved_sound h tree number s.display.conditions old room s.grants what d none is)

pub display_stays : (h : Hierarchy) (number : ℕ) (s : Station) (what : Happening) → IsTree h
    → IsDisplay h number s.display → MayChange s.display → IsSayable what
    → IsDisplay h number (after h number s what).station.display
display_stays h number s what tree sound room fits = by (refusal_of h number s.grants what) refl
  where
    by : (o : Option ℕ) → refusal_of h number s.grants what ≡ o
        → IsDisplay h number (answered_or h number s what o).station.display
    by (Some code) is = sound
    by None is =
        conditions_sound h number (notice h number s.grants s.display what).display
        (notice_sound h number s.display sound s.grants what fits is)
        (conditions_after h s (grant_step h number s.grants what).grants
        (notice h number s.grants s.display what).display what)
        (conditions_stay h tree number s (grant_step h number s.grants what).grants
        (notice h number s.grants s.display what).display what sound room is)
