-- A report of a device at a station.
use Rattle.std.proofs.Common.{ℕ, zero, suc, ◌≡◌, ◌≤◌, ◌+◌, ◌-◌, Bool, true, false, List, [], ◌++◌}
use Rattle.std.proofs.Common.{Option, Some, None, refl, sym, ap, ◌∙◌, subst, arith}
use Rattle.std.specs.Prelude.{◌==◌, if◌then◌else◌, nat_le, slice_get}
use Rattle.std.specs.List.{flat_map}
use Rattle.std.proofs.lemmas.Bool.{and_parts, leb-true}
use Rattle.std.proofs.lemmas.Bool.Decides.{nat_tests}
use Rattle.smi_grant.specs.declared.Shown.{Shown}
use Rattle.smi_tree.specs.Hierarchy.{Hierarchy, entry, is_device_of}
use Rattle.smi_tree.specs.Lawful.{IsBetween}
use Rattle.smi_tree.specs.Lookups.{devices_of, domain_count, state_count}
use Rattle.smi_tree.specs.declared.row.Device.{Device}
use Rattle.smi_publish.specs.declared.condition.Condition.{Condition}
use Rattle.smi_publish.specs.Published.{HasRoom, change_at, changes_at, conditions_of}
use Rattle.smi_publish.specs.Publishing.{device_objects, reported}
use Rattle.smi_tree.specs.Roles.{domain_of, is_kept_by}
use Rattle.smi_protocol.specs.Display.{Display, Station}
use Rattle.smi_protocol.specs.GrantStep.{unchanged}
use Rattle.smi_protocol.specs.Happening.{Reports}
use Rattle.smi_protocol.specs.Messages.{if_any}
use Rattle.smi_protocol.specs.Refusals.{is_report_here}
use Rattle.smi_protocol.specs.Showing.{is_spent, members_of, passed_in, shown_to_all}
use Rattle.smi_protocol.specs.SoundDisplay.{IsDisplay, MayChange}
use Rattle.smi_protocol.specs.Step.{Out, accepted, conditions_by, nothing_out}
use Rattle.smi_protocol.specs.Watching.{unnoticed}
use Rattle.smi_protocol.proofs.Lists.{Apart, In, apart_moved, apart_numbers, in_mapped, in_numbers, same}
use Rattle.smi_protocol.proofs.Tables.{number_self}
use Rattle.smi_station_grants.specs.GrantTable.{Kept, grants_of}
use Rattle.smi_station_output.specs.Out.{sent_after}
use Rattle.smi_station_display.specs.Displayed.{Displayed, display_of}
use Rattle.smi_station_display.specs.Following.{followed_at}
use Rattle.smi_station_display.specs.Listening.{KeepsTheRest}
use Rattle.smi_station_display.specs.Members.{Listed, listed_of}
use Rattle.smi_station.specs.Core.{AreHalves, station_with}
use Rattle.smi_station.specs.Stirring.{stirred_in}
use Rattle.smi_station.proofs.Outcomes.{listed_follows, parts_together, station_together}
use Rattle.smi_station.proofs.Passing.{reported_first, reported_shown}
use Rattle.smi_station.proofs.Stirred.{all_shown, shown_sends, stirred_display, stirred_room, unit_room}

-- a device is among its domain's
pub device_among : (h : Hierarchy) (device : ℕ) (row : Device) → entry h.devices device ≡ Some row
    → In (domain_count h + device) (device_objects h row.domain)
device_among h device row at = in_mapped (λ n. domain_count h + n) device (devices_of h row.domain) (by device at)
  where
    by : (n : ℕ) → entry h.devices n ≡ Some row → In n (devices_of h row.domain)
    by zero is = absurd cc
    by (suc n) is = subst (λ m. In m (devices_of h row.domain)) (plus n)
        (in_numbers (is_device_of row.domain) h.devices 1 n row
        (ap (slice_get h.devices) (sym (less n)) ∙ sym
        (ap (λ (b : Bool). if b then None else slice_get h.devices (suc n - 1)) (positive n)) ∙ is)
        (number_self row.domain))
      where
        plus : (n : ℕ) → n + 1 ≡ suc n
        plus n = grind arith

        less : (n : ℕ) → suc n - 1 ≡ n
        less n = grind arith

        positive : (n : ℕ) → (suc n == 0) ≡ false
        positive n = grind (arith, nat_tests)

devices_apart : (h : Hierarchy) (d : ℕ) → Apart same (device_objects h d)
devices_apart h d = apart_moved (domain_count h) (devices_of h d) (apart_numbers (is_device_of d) h.devices 1)

module _ (k : Kept) (d0 d1 d2 : Displayed) (device state d : ℕ) (before : Listed) (first second : List Shown)
    (halves : AreHalves k d0)
    (most : d ≤ domain_count k.tree)
    (stands : In (domain_count k.tree + device) (device_objects k.tree d))
    (is_of : domain_of k.tree (domain_count k.tree + device) ≡ Some d)
    (members : before ≡ listed_of (members_of d0.tree (grants_of k) (display_of d0).conditions (display_of d0).shown d))
    (rest : KeepsTheRest d0 d1)
    (reports : display_of d1
    ≡ record (display_of d0) {
      conditions = reported (conditions_of d0.published) (domain_count d0.tree + device)
          state;
    })
    (change : first
    ≡ if_any (change_at d0.published.boot (conditions_of d0.published) (conditions_of d1.published)
    (domain_count d0.tree + device)))
    (follows : display_of d2 ≡ record (display_of d1) { conditions = followed_at d1 (grants_of k) before d })
    (more : second ≡ first
    ++ if_any (change_at d1.published.boot (conditions_of d1.published) (conditions_of d2.published) d)) where
  within : d ≤ domain_count d0.tree
  within = subst (λ (h : Hierarchy). d ≤ domain_count h) (sym halves.tree) most

  among : In (domain_count d0.tree + device) (device_objects d0.tree d)
  among = subst (λ (h : Hierarchy). In (domain_count h + device) (device_objects h d)) (sym halves.tree) stands

  of : domain_of d0.tree (domain_count d0.tree + device) ≡ Some d
  of = subst (λ (h : Hierarchy). domain_of h (domain_count h + device) ≡ Some d) (sym halves.tree) is_of

  abbrev object : ℕ
  object = domain_count d0.tree + device

  abbrev mid : ℕ → Option Condition
  mid = reported (conditions_of d0.published) object state

  abbrev s : Station
  s = station_with k d0 false

  shown_first : first ≡ changes_at d0.published.boot (conditions_of d0.published) mid (device_objects d0.tree d)
  shown_first =
      change
      ∙ ap (λ (cs : ℕ → Option Condition). if_any
      (change_at d0.published.boot (conditions_of d0.published) cs object))
      (ap (λ (x : Display). x.conditions) reports)
      ∙ reported_shown d0.tree d0.published.boot (conditions_of d0.published) d object state
      (devices_apart d0.tree d) among

  passed_all : second ≡ passed_in d0.tree d0.published.boot (conditions_of d0.published) (conditions_of d2.published)
      (Some d)
  passed_all = all_shown d0 d1 d2 (grants_of k) before mid d first second within rest reports
      (reported_first (conditions_of d0.published) (device_objects d0.tree d) object state among)
      shown_first follows more

  display_then
      : display_of d2
      ≡ record (display_of d0) { conditions = stirred_in d0.tree (grants_of k) (display_of d0) before mid d }
  display_then = stirred_display d0 d1 d2 (grants_of k) before mid d first second within rest reports
      (reported_first (conditions_of d0.published) (device_objects d0.tree d) object state among)
      shown_first follows more

  -- the states that are defined
  abbrev defined : ℕ → Option Condition
  defined = conditions_by d0.tree s (grants_of k) (display_of d0) mid (domain_of d0.tree object)

  stirs : stirred_in d0.tree (grants_of k) (display_of d0) before mid d ≡ defined
  stirs =
      ap (λ (b : Listed). stirred_in d0.tree (grants_of k) (display_of d0) b mid d) members
      ∙ listed_follows d0.tree (members_of d0.tree (grants_of k) (display_of d0).conditions (display_of d0).shown d)
      (members_of d0.tree (grants_of k) mid (display_of d0).shown d) mid d
      ∙ ap (conditions_by d0.tree s (grants_of k) (display_of d0) mid) (sym of)

  conditions_then : conditions_of d2.published ≡ defined
  conditions_then = ap (λ (x : Display). x.conditions) display_then ∙ stirs

  abbrev passed : List Shown
  passed = passed_in d0.tree k.boot (conditions_of d0.published) defined (domain_of d0.tree object)

  passed_then : passed_in d0.tree d0.published.boot (conditions_of d0.published) (conditions_of d2.published)
      (Some d) ≡ passed
  passed_then =
      ap (λ b. passed_in d0.tree b (conditions_of d0.published) (conditions_of d2.published) (Some d)) halves.boot
      ∙ ap (λ (cs : ℕ → Option Condition). passed_in d0.tree k.boot (conditions_of d0.published) cs (Some d))
      conditions_then
      ∙ ap (passed_in d0.tree k.boot (conditions_of d0.published) defined) (sym of)

  pub reported_station : (stopped : Bool) → stopped ≡ is_spent second
      → station_with k d2 stopped ≡ (accepted k.tree k.number s (Reports device state)).station
  reported_station stopped is =
      station_together d0.tree d0.number s (unchanged (grants_of k) []) (unnoticed (display_of d0)) defined passed
      (grants_of k) (display_of d2) stopped
      refl (display_then ∙ ap (λ (cs : ℕ → Option Condition). record (display_of d0) { conditions = cs }) stirs)
      (is ∙ ap is_spent (passed_all ∙ passed_then))
      ∙ ap (λ (h : Hierarchy). (accepted h d0.number s (Reports device state)).station) halves.tree
      ∙ ap (λ n. (accepted k.tree n s (Reports device state)).station) halves.number

  pub reported_out : (out : Out) → out ≡ record nothing_out {
    datagrams = sent_after [] (flat_map (shown_to_all d1.tree d1.number d1.watchers) second);
    passed = second;
  }
      → out ≡ (accepted k.tree k.number s (Reports device state)).out
  reported_out out is =
      is
      ∙ parts_together d0.tree d0.number s (unchanged (grants_of k) []) (unnoticed (display_of d0)) defined passed
      (flat_map (shown_to_all d1.tree d1.number d1.watchers) second) second
      (shown_sends d0 d1 d2 (grants_of k) before mid d first second within rest reports
      (reported_first (conditions_of d0.published) (device_objects d0.tree d) object state among) shown_first
      follows more
      ∙ ap (flat_map (shown_to_all d0.tree d0.number d0.watchers)) passed_then)
      (passed_all ∙ passed_then)
      ∙ ap (λ (h : Hierarchy). (accepted h d0.number s (Reports device state)).out) halves.tree
      ∙ ap (λ n. (accepted k.tree n s (Reports device state)).out) halves.number

  pub reported_room : (h : Hierarchy) (number : ℕ) → MayChange (display_of d0) → IsDisplay h number (display_of d2)
      → is_spent second ≡ false → MayChange (display_of d2)
  reported_room = stirred_room d0 d1 d2 (grants_of k) before mid d first second within rest reports
      (reported_first (conditions_of d0.published) (device_objects d0.tree d) object state among)
      shown_first follows more

-- a report that is not refused is of a state of the tree
pub state_there : (h : Hierarchy) (number device state : ℕ) → is_report_here h number device state ≡ true
    → (1 ≤ device) × (is_kept_by h number (domain_count h + device) ≡ true) × IsBetween 1 (state_count h) state
state_there h number device state here =
    let a = and_parts (nat_le 1 device) _ here in
    let b = and_parts (is_kept_by h number (domain_count h + device)) _ a.1 in
    let c = and_parts (nat_le 1 state) (nat_le state (state_count h)) b.1 in
    (leb-true 1 device a.0, b.0, record { least = leb-true 1 state c.0; most = leb-true state (state_count h) c.1 })

-- and the unit of its domain may change once more after it
pub reported_unit : (k : Kept) (d0 d1 : Displayed) (device state d : ℕ) → AreHalves k d0 → d ≤ domain_count k.tree
    → In (domain_count k.tree + device) (device_objects k.tree d)
    → display_of d1
    ≡ record (display_of d0) {
      conditions = reported (conditions_of d0.published) (domain_count d0.tree + device)
          state;
    } → MayChange (display_of d0) → HasRoom (conditions_of d1.published) d
reported_unit k d0 d1 device state d halves most stands reports room =
    unit_room d0 d1 (reported (conditions_of d0.published) (domain_count d0.tree + device) state) d
    (subst (λ (h : Hierarchy). d ≤ domain_count h) (sym halves.tree) most) reports
    (reported_first (conditions_of d0.published) (device_objects d0.tree d) (domain_count d0.tree + device) state
    (subst (λ (h : Hierarchy). In (domain_count h + device) (device_objects h d)) (sym halves.tree) stands)) room
