-- Steps in which no object of the station changes.
use Rattle.std.proofs.Common.{ℕ, ◌≡◌, Bool, true, false, [], ◌∷◌, refl, sym, ap, ◌∙◌, subst}
use Rattle.std.specs.Prelude.{Option, Some, None, Result, Ok, Err, if◌then◌else◌}
use Rattle.smi_tree.specs.Hierarchy.{Hierarchy}
use Rattle.smi_publish.specs.declared.condition.Condition.{Condition}
use Rattle.smi_publish.specs.Published.{HasRoom}
use Rattle.smi_protocol.specs.Display.{Display, Station}
use Rattle.smi_protocol.specs.Grants.{Grants, put}
use Rattle.smi_protocol.specs.GrantStep.{GrantStep, unchanged}
use Rattle.smi_protocol.specs.Happening.{Orders, Ticks, answer}
use Rattle.smi_protocol.specs.Ordering.{obeyed, order_comes}
use Rattle.smi_protocol.specs.Sound.{IsSound}
use Rattle.smi_command.specs.Order.{take_begun, drop_begun, command_issued}
use Rattle.smi_command.specs.declared.Link.{Link}
use Rattle.smi_grant.specs.declared.Command.{Command}
use Rattle.smi_grant.specs.declared.Command.TheVariants.{Do, Include, Exclude, Manual, Ignore}
use Rattle.smi_grant.specs.declared.Holder.TheVariants.{Operator}
use Rattle.smi_protocol.specs.SoundDisplay.{MayChange}
use Rattle.smi_protocol.specs.Step.{Out, accepted, nothing_out, put_together}
use Rattle.smi_protocol.specs.Ticking.{tick_noticed}
use Rattle.smi_protocol.specs.Watching.{Notice, noticed, order_noticed}
use Rattle.smi_tree.specs.Roles.{is_child_unit}
use Rattle.smi_protocol.specs.Messages.{object_home, unwatches}
use Rattle.smi_protocol.specs.declared.order.Order.{Order}
use Rattle.smi_protocol.specs.declared.order.Order.TheVariants as order
use Rattle.smi_station_grants.specs.GrantTable.{Kept, grants_of}
use Rattle.smi_station_grants.specs.Change.{changed}
use Rattle.smi_station_grants.specs.declared.change.Change.{Change}
use Rattle.smi_station_grants.specs.declared.change.Change.TheVariants as change
use Rattle.smi_station_display.specs.Listening.{KeepsTheRest}
use Rattle.smi_station_output.specs.Out.{with_notice}
use Rattle.smi_station_decide.specs.Handing.{with_step}
use Rattle.smi_station_display.specs.Displayed.{Displayed, display_of}
use Rattle.smi_station.specs.Core.{AreHalves, station_with}
use Rattle.smi_station.proofs.Outcomes.{parts_together, station_together}

module _ (h : Hierarchy) (number : ℕ) (s : Station) (g : GrantStep) (n : Notice) where
  pub quiet_station : (grants : Grants) (display : Display) → n.display.conditions ≡ s.display.conditions
      → grants ≡ g.grants → display ≡ n.display
      → record { grants = grants; display = display; is_stopped = false }
      ≡ (put_together h number s g n s.display.conditions []).station
  quiet_station grants display same a b =
      station_together h number s g n s.display.conditions [] grants display false a
      (b ∙ ap (λ (cs : ℕ → Option Condition). record n.display { conditions = cs }) same) refl

  pub quiet_out : with_notice (with_step nothing_out g) n ≡ (put_together h number s g n s.display.conditions []).out
  quiet_out = parts_together h number s g n s.display.conditions [] [] [] refl refl

-- what could change still may
pub quiet_room : (s t : Display) → t.conditions ≡ s.conditions → MayChange s → MayChange t
quiet_room s t same room x = subst (λ (cs : ℕ → Option Condition). HasRoom cs x) (sym same) (room x)

-- Ticks.

module _ (k : Kept) (d0 d2 : Displayed) (halves : AreHalves k d0)
    (ticks : display_of d2 ≡ (tick_noticed d0.tree d0.number (grants_of k) (display_of d0)).display) where
  pub ticked_station : station_with k d2 false ≡ (accepted k.tree k.number (station_with k d0 false) Ticks).station
  ticked_station =
      quiet_station d0.tree d0.number (station_with k d0 false) (unchanged (grants_of k) [])
      (tick_noticed d0.tree d0.number (grants_of k) (display_of d0)) (grants_of k) (display_of d2) refl refl ticks
      ∙ ap (λ (h : Hierarchy). (accepted h d0.number (station_with k d0 false) Ticks).station) halves.tree
      ∙ ap (λ n. (accepted k.tree n (station_with k d0 false) Ticks).station) halves.number

  pub ticked_out : (out : Out) → out ≡ with_notice nothing_out
      (tick_noticed d0.tree d0.number (grants_of k) (display_of d0))
      → out ≡ (accepted k.tree k.number (station_with k d0 false) Ticks).out
  ticked_out out is =
      is
      ∙ quiet_out d0.tree d0.number (station_with k d0 false) (unchanged (grants_of k) [])
      (tick_noticed d0.tree d0.number (grants_of k) (display_of d0))
      ∙ ap (λ (h : Hierarchy). (accepted h d0.number (station_with k d0 false) Ticks).out) halves.tree
      ∙ ap (λ n. (accepted k.tree n (station_with k d0 false) Ticks).out) halves.number

  pub ticked_room : MayChange (display_of d0) → MayChange (display_of d2)
  ticked_room = quiet_room (display_of d0) (display_of d2) (ap (λ (s : Display). s.conditions) ticks)

-- Halves.

-- a change leaves the boot
pub changed_boot : (h : Hierarchy) (g : Grants) (c : Change) → (changed h g c).boot ≡ g.boot
changed_boot h g change.Nothing = refl
changed_boot h g (change.HolderChanged d r) = refl
changed_boot h g (change.Linked o d l) = refl
changed_boot h g (change.Ran d c r code xs) = refl
changed_boot h g (change.ChildReported p d l r code) = refl

-- both halves have stayed the station's
pub still_halves : (k0 k2 : Kept) (d0 d2 : Displayed) (grants : Grants) → AreHalves k0 d0
    → (k2.tree ≡ k0.tree) × (k2.number ≡ k0.number) × (k2.boot ≡ k0.boot) → KeepsTheRest d0 d2
    → grants_of k2 ≡ grants → IsSound k0.tree grants → AreHalves k2 d2
still_halves k0 k2 d0 d2 grants halves same rest is sound = record {
  tree = rest.tree ∙ halves.tree ∙ sym same.0;
  number = rest.number ∙ halves.number ∙ sym same.1;
  boot = rest.boot ∙ halves.boot ∙ sym same.2;
  sound = subst (λ (h : Hierarchy). IsSound h (grants_of k2)) (sym same.0) (subst (IsSound k0.tree) (sym is) sound);
}

-- Orders.

obeyed_answers : (h : Hierarchy) (number : ℕ) (g : Grants) (o d : ℕ) (c : Option Command) (l : Result Link ℕ)
    → (obeyed h number g o d c l).answers ≡ []
obeyed_answers h number g o d c (Ok l) = refl
obeyed_answers h number g o d c (Err code) = refl

-- operators are answered by what they are told
pub order_answers : (h : Hierarchy) (number : ℕ) (g : Grants) (o : ℕ) (what : Order)
    → (order_comes h number g o what).answers ≡ []
order_answers h number g o (order.Take d) = obeyed_answers h number g o d None (take_begun (g.links (Operator o) d))
order_answers h number g o (order.Drop d) = obeyed_answers h number g o d None (drop_begun (g.links (Operator o) d))
order_answers h number g o (order.Do d a) =
    obeyed_answers h number g o d (Some (Do a)) (command_issued (g.links (Operator o) d) (Do a))
order_answers h number g o (order.Include d t) =
    obeyed_answers h number g o d (Some (Include t)) (command_issued (g.links (Operator o) d) (Include t))
order_answers h number g o (order.Exclude d t) =
    obeyed_answers h number g o d (Some (Exclude t)) (command_issued (g.links (Operator o) d) (Exclude t))
order_answers h number g o (order.Manual d t) =
    obeyed_answers h number g o d (Some (Manual t)) (command_issued (g.links (Operator o) d) (Manual t))
order_answers h number g o (order.Ignore d t) =
    obeyed_answers h number g o d (Some (Ignore t)) (command_issued (g.links (Operator o) d) (Ignore t))
order_answers h number g o (order.Ask d) = refl
order_answers h number g o (order.Watch x) = refl
order_answers h number g o (order.Unwatch x) = refl
order_answers h number g o (order.Report device s) = refl

-- an order leaves the states of the station's own objects alone
pub order_stays : (h : Hierarchy) (number boot : ℕ) (s : Display) (o : ℕ) (what : Order)
    → (order_noticed h number boot s o what).display.conditions ≡ s.conditions
order_stays h number boot s o (order.Take d) = refl
order_stays h number boot s o (order.Drop d) = refl
order_stays h number boot s o (order.Do d a) = refl
order_stays h number boot s o (order.Include d t) = refl
order_stays h number boot s o (order.Exclude d t) = refl
order_stays h number boot s o (order.Manual d t) = refl
order_stays h number boot s o (order.Ignore d t) = refl
order_stays h number boot s o (order.Ask d) = refl
order_stays h number boot s o (order.Watch x) = refl
order_stays h number boot s o (order.Unwatch x) = by (is_child_unit h number x)
  where
    by : (b : Bool) → (λ (n : Notice). n.display.conditions ≡ s.conditions)
        (if b then noticed s [] (answer o (order.Unwatch x) 0 ∷ [])
        else noticed (record s { named = put s.named x false }) (unwatches h number boot (object_home h x) x ∷ [])
        (answer o (order.Unwatch x) 0 ∷ []))
    by true = refl
    by false = refl
order_stays h number boot s o (order.Report device state) = refl

module _ (k0 k2 : Kept) (d0 d2 : Displayed) (o : ℕ) (what : Order)
    (halves : AreHalves k0 d0)
    (obeys : grants_of k2 ≡ (order_comes k0.tree k0.number (grants_of k0) o what).grants)
    (notices : display_of d2 ≡ (order_noticed d0.tree d0.number d0.published.boot (display_of d0) o what).display) where
  abbrev s : Station
  s = station_with k0 d0 false

  -- the notice in the words of the grants
  noticed_same : order_noticed d0.tree d0.number d0.published.boot (display_of d0) o what
      ≡ order_noticed k0.tree k0.number k0.boot (display_of d0) o what
  noticed_same =
      ap (λ (h : Hierarchy). order_noticed h d0.number d0.published.boot (display_of d0) o what) halves.tree
      ∙ ap (λ n. order_noticed k0.tree n d0.published.boot (display_of d0) o what) halves.number
      ∙ ap (λ b. order_noticed k0.tree k0.number b (display_of d0) o what) halves.boot

  pub obeyed_station : station_with k2 d2 false ≡ (accepted k0.tree k0.number s (Orders o what)).station
  obeyed_station =
      quiet_station k0.tree k0.number s (order_comes k0.tree k0.number (grants_of k0) o what)
      (order_noticed k0.tree k0.number k0.boot (display_of d0) o what) (grants_of k2) (display_of d2)
      (order_stays k0.tree k0.number k0.boot (display_of d0) o what) obeys
      (notices ∙ ap (λ (n : Notice). n.display) noticed_same)

  pub obeyed_out : (out : Out) → out ≡ with_notice
      (with_step nothing_out (order_comes k0.tree k0.number (grants_of k0) o what))
      (order_noticed d0.tree d0.number d0.published.boot (display_of d0) o what)
      → out ≡ (accepted k0.tree k0.number s (Orders o what)).out
  obeyed_out out is =
      is
      ∙ ap (with_notice (with_step nothing_out (order_comes k0.tree k0.number (grants_of k0) o what))) noticed_same
      ∙ quiet_out k0.tree k0.number s (order_comes k0.tree k0.number (grants_of k0) o what)
      (order_noticed k0.tree k0.number k0.boot (display_of d0) o what)

  pub obeyed_room : MayChange (display_of d0) → MayChange (display_of d2)
  obeyed_room = quiet_room (display_of d0) (display_of d2)
      (ap (λ (s : Display). s.conditions) notices
      ∙ order_stays d0.tree d0.number d0.published.boot (display_of d0) o what)
