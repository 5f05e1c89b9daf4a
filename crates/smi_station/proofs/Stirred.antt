-- A domain's devices move and its unit follows, at a station.
use Rattle.std.proofs.Common.{ℕ, ◌≡◌, ◌≤◌, ◌<◌, ◌⊎◌, inl, inr, true, false, List, ◌++◌, Option, Some}
use Rattle.std.proofs.Common.{sym, ap, ◌∙◌, subst}
use Rattle.std.specs.Prelude.{IfSome}
use Rattle.std.specs.List.{flat_map}
use Rattle.smi_grant.specs.declared.Shown.{Shown}
use Rattle.smi_tree.specs.Hierarchy.{Hierarchy}
use Rattle.smi_tree.specs.Lookups.{domain_count}
use Rattle.smi_publish.specs.declared.condition.Condition.{Condition}
use Rattle.smi_publish.specs.Published.{HasRoom, change_at, changes_at, conditions_of, differs, last_sequence}
use Rattle.smi_publish.specs.Publishing.{device_objects}
use Rattle.smi_protocol.specs.Display.{Display}
use Rattle.smi_protocol.specs.Grants.{Grants}
use Rattle.smi_protocol.specs.Messages.{if_any}
use Rattle.smi_protocol.specs.Showing.{is_spent, members_of, passed_in, shown_to_all}
use Rattle.smi_protocol.specs.SoundDisplay.{IsDisplay, MayChange}
use Rattle.smi_protocol.proofs.Lists.{In}
use Rattle.smi_station_display.specs.Displayed.{Displayed, display_of}
use Rattle.smi_station_display.specs.Following.{followed_at}
use Rattle.smi_station_display.specs.Listening.{KeepsTheRest}
use Rattle.smi_station_display.specs.Members.{Listed, followed_by, listed_of}
use Rattle.smi_station.specs.Stirring.{shown_anew, stirred_in}
use Rattle.smi_station.proofs.Passing.{Stirs, followed_then, no_device, stirs_room, stirs_shown}

-- devices move, and the unit may still change
pub unit_room : (d0 d1 : Displayed) (mid : ℕ → Option Condition) (d : ℕ) → d ≤ domain_count d0.tree
    → display_of d1 ≡ record (display_of d0) { conditions = mid }
    → ((x : ℕ) → (mid x ≡ conditions_of d0.published x)
    ⊎ ((differs (conditions_of d0.published x) (mid x) ≡ true) × In x (device_objects d0.tree d)))
    → MayChange (display_of d0) → HasRoom (conditions_of d1.published) d
unit_room d0 d1 mid d within moves firsts room =
    subst (λ (o : Option Condition). IfSome o (λ c. c.sequence < last_sequence))
    (sym (ap (λ (s : Display). s.conditions d) moves
    ∙ elim (firsts d) [ inl is ↦ is | inr a ↦ absurd (no_device d0.tree d within a.1) ])) (room d)

module _ (d0 d1 d2 : Displayed) (g : Grants) (before : Listed) (mid : ℕ → Option Condition) (d : ℕ)
    (first second : List Shown)
    (within : d ≤ domain_count d0.tree)
    (rest : KeepsTheRest d0 d1)
    (moves : display_of d1 ≡ record (display_of d0) { conditions = mid })
    (firsts : (x : ℕ) → (mid x ≡ conditions_of d0.published x)
    ⊎ ((differs (conditions_of d0.published x) (mid x) ≡ true) × In x (device_objects d0.tree d)))
    (shown : first ≡ changes_at d0.published.boot (conditions_of d0.published) mid (device_objects d0.tree d))
    (follows : display_of d2 ≡ record (display_of d1) { conditions = followed_at d1 g before d })
    (more : second ≡ first
    ++ if_any (change_at d1.published.boot (conditions_of d1.published) (conditions_of d2.published) d)) where
  moved : conditions_of d1.published ≡ mid
  moved = ap (λ (s : Display). s.conditions) moves

  followed : followed_at d1 g before d ≡ stirred_in d0.tree g (display_of d0) before mid d
  followed =
      ap (λ (h : Hierarchy). followed_by h before
      (listed_of (members_of h g (display_of d1).conditions (display_of d1).shown d)) (display_of d1).conditions d)
      rest.tree
      ∙ ap (λ (s : Display). followed_by d0.tree before (listed_of (members_of d0.tree g s.conditions s.shown d))
      s.conditions d) moves

  -- the display then
  pub stirred_display : display_of d2 ≡ record
      (display_of d0) { conditions = stirred_in d0.tree g (display_of d0) before mid d }
  stirred_display = follows ∙ ap (λ (s : Display). record s { conditions = followed_at d1 g before d }) moves
      ∙ ap (λ (cs : ℕ → Option Condition). record (display_of d0) { conditions = cs }) followed

  new_is : conditions_of d2.published ≡ stirred_in d0.tree g (display_of d0) before mid d
  new_is = ap (λ (s : Display). s.conditions) stirred_display

  stirs : Stirs (conditions_of d0.published) mid (conditions_of d2.published) (device_objects d0.tree d) d
  stirs = record {
    first = firsts;
    last = λ x. subst (λ (n : ℕ → Option Condition). (n x ≡ mid x) ⊎ ((differs (mid x) (n x) ≡ true) × (x ≡ d)))
        (sym new_is) (followed_then d0.tree before (listed_of (members_of d0.tree g mid (display_of d0).shown d)) mid d
        x);
    apart = no_device d0.tree d within;
  }

  -- what is newly shown
  pub all_shown : second ≡ passed_in d0.tree d0.published.boot (conditions_of d0.published)
      (conditions_of d2.published) (Some d)
  all_shown =
      more
      ∙ ap (λ (xs : List Shown). xs
      ++ if_any (change_at d1.published.boot (conditions_of d1.published) (conditions_of d2.published) d)) shown
      ∙ ap (λ b. changes_at d0.published.boot (conditions_of d0.published) mid (device_objects d0.tree d)
      ++ if_any (change_at b (conditions_of d1.published) (conditions_of d2.published) d)) rest.boot
      ∙ ap (λ (cs : ℕ → Option Condition). changes_at d0.published.boot (conditions_of d0.published) mid
      (device_objects d0.tree d) ++ if_any (change_at d0.published.boot cs (conditions_of d2.published) d)) moved
      ∙ stirs_shown d0.published.boot (conditions_of d0.published) mid (conditions_of d2.published)
      (device_objects d0.tree d) d stirs

  -- and who is told
  pub shown_sends : flat_map (shown_to_all d1.tree d1.number d1.watchers) second
      ≡ shown_anew d0.tree d0.number d0.published.boot (display_of d0) (conditions_of d2.published) (Some d)
  shown_sends =
      ap (λ (h : Hierarchy). flat_map (shown_to_all h d1.number d1.watchers) second) rest.tree
      ∙ ap (λ n. flat_map (shown_to_all d0.tree n d1.watchers) second) rest.number
      ∙ ap (λ (s : Display). flat_map (shown_to_all d0.tree d0.number s.watchers) second) moves
      ∙ ap (flat_map (shown_to_all d0.tree d0.number d0.watchers)) all_shown

  -- each may change once more, unless the station is to stop
  pub stirred_room : (h : Hierarchy) (number : ℕ) → MayChange (display_of d0) → IsDisplay h number (display_of d2)
      → is_spent second ≡ false → MayChange (display_of d2)
  stirred_room h number room sound unspent =
      stirs_room d0.published.boot (conditions_of d0.published) mid (conditions_of d2.published)
      (device_objects d0.tree d) d stirs h room sound.conditions
      (sym (ap is_spent all_shown) ∙ unspent)
