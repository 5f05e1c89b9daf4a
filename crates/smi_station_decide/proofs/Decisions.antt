-- A decided order is what the definitions refuse, and the step that they make.
use Rattle.std.proofs.Common.{ℕ, ◌≡◌, Bool, true, false, Some, None, Ok, Err, Result, refl, ap, Option}
use Rattle.std.specs.Prelude.{◌&&◌, if◌then◌else◌, nat_le, IfOk, [], ◌∷◌}
use Rattle.std.specs.Option.{option_or}
use Rattle.std.proofs.lemmas.Bool.{and_parts}
use Rattle.smi_grant.specs.declared.Command.{Command}
use Rattle.smi_grant.specs.declared.Command.TheVariants.{Do, Include, Exclude, Manual, Ignore}
use Rattle.smi_grant.specs.declared.Holder.TheVariants.{Operator}
use Rattle.smi_command.specs.declared.Link.{Link}
use Rattle.smi_command.specs.declared.Link.TheVariants.{Out, Taking, Held, Dropping}
use Rattle.smi_command.specs.Order.{command_issued, drop_begun, take_begun}
use Rattle.smi_command.specs.Pending.{most_pending}
use Rattle.smi_tree.specs.Hierarchy.{Hierarchy}
use Rattle.smi_tree.specs.Lawful.{IsTree}
use Rattle.smi_tree.specs.Lookups.{operator_station_of}
use Rattle.smi_tree.specs.Roles.{has_domain, is_number}
use Rattle.smi_protocol.specs.Grants.{Grants}
use Rattle.smi_protocol.specs.Happening.{Orders, order_of}
use Rattle.smi_protocol.specs.Ordering.{obeyed, order_comes}
use Rattle.smi_protocol.specs.Refusals.{is_order_here, links_in_use, most_links, refusal_by_link, refusal_of, why_not}
use Rattle.smi_protocol.specs.Request.{has_named}
use Rattle.smi_protocol.specs.Sound.{IsLink, IsSound}
use Rattle.smi_protocol.specs.declared.Order.{Order}
use Rattle.smi_protocol.specs.declared.Order.TheVariants as order
use Rattle.smi_protocol.proofs.SoundLinks.{sound_issued}
use Rattle.smi_protocol.proofs.SoundOrders.{command_known}
use Rattle.smi_station_decide.specs.Plans.{MayOrder}
use Rattle.smi_station_decide.proofs.Ordered.{may_command, may_take}
use Rattle.smi_station_decide.specs.Decided.{IsObeyable, decided, decided_by_link, if_room, linked, refused_by, step_of}
use Rattle.smi_station_decide.specs.Decided.{commanded, taken}

-- commands are decided alike
pub command_decided : (h : Hierarchy) (g : Grants) (o d : ℕ) (c : Command)
    → commanded g o d c ≡ decided_by_link h g o (order_of d c)
command_decided h g o d (Do a) = refl
command_decided h g o d (Include t) = refl
command_decided h g o d (Exclude t) = refl
command_decided h g o d (Manual t) = refl
command_decided h g o d (Ignore t) = refl

link_refused : (d : ℕ) (c : Option Command) (r : Result Link ℕ) → refused_by (linked d c r) ≡ why_not r
link_refused d c (Ok l) = refl
link_refused d c (Err code) = refl

take_refused : (d : ℕ) (full : Bool) (r : Result Link ℕ)
    → refused_by (linked d None (if_room full r)) ≡ option_or (why_not r) (if full then Some 25 else None)
take_refused d true (Ok l) = refl
take_refused d false (Ok l) = refl
take_refused d true (Err code) = refl
take_refused d false (Err code) = refl

link_obeyed : (h : Hierarchy) (number : ℕ) (g : Grants) (o d : ℕ) (c : Option Command) (r : Result Link ℕ)
    → IfOk (linked d c r) (λ x. step_of h number g o x ≡ obeyed h number g o d c r)
link_obeyed h number g o d c (Ok l) = refl
link_obeyed h number g o d c (Err code) = tt

take_obeyed : (h : Hierarchy) (number : ℕ) (g : Grants) (o d : ℕ) (full : Bool) (r : Result Link ℕ)
    → IfOk (linked d None (if_room full r)) (λ x. step_of h number g o x ≡ obeyed h number g o d None r)
take_obeyed h number g o d false (Ok l) = refl
take_obeyed h number g o d true (Ok l) = tt
take_obeyed h number g o d true (Err code) = tt
take_obeyed h number g o d false (Err code) = tt

module _ (h : Hierarchy) (number : ℕ) (g : Grants) (o : ℕ) where
  by_link_refused : (what : Order) → refused_by (decided_by_link h g o what) ≡ refusal_by_link h g o what
  by_link_refused (order.Take d) =
      take_refused d (nat_le most_links (links_in_use h g o)) (take_begun (g.links (Operator o) d))
  by_link_refused (order.Drop d) = link_refused d None (drop_begun (g.links (Operator o) d))
  by_link_refused (order.Do d a) = link_refused d (Some (Do a)) (command_issued (g.links (Operator o) d) (Do a))
  by_link_refused (order.Include d t) =
      link_refused d (Some (Include t)) (command_issued (g.links (Operator o) d) (Include t))
  by_link_refused (order.Exclude d t) =
      link_refused d (Some (Exclude t)) (command_issued (g.links (Operator o) d) (Exclude t))
  by_link_refused (order.Manual d t) =
      link_refused d (Some (Manual t)) (command_issued (g.links (Operator o) d) (Manual t))
  by_link_refused (order.Ignore d t) =
      link_refused d (Some (Ignore t)) (command_issued (g.links (Operator o) d) (Ignore t))
  by_link_refused (order.Ask d) = refl
  by_link_refused (order.Watch x) = refl
  by_link_refused (order.Unwatch x) = refl
  by_link_refused (order.Report device s) = refl

  by_link_obeyed : (what : Order)
      → IfOk (decided_by_link h g o what) (λ x. step_of h number g o x ≡ order_comes h number g o what)
  by_link_obeyed (order.Take d) =
      take_obeyed h number g o d (nat_le most_links (links_in_use h g o)) (take_begun (g.links (Operator o) d))
  by_link_obeyed (order.Drop d) = link_obeyed h number g o d None (drop_begun (g.links (Operator o) d))
  by_link_obeyed (order.Do d a) =
      link_obeyed h number g o d (Some (Do a)) (command_issued (g.links (Operator o) d) (Do a))
  by_link_obeyed (order.Include d t) =
      link_obeyed h number g o d (Some (Include t)) (command_issued (g.links (Operator o) d) (Include t))
  by_link_obeyed (order.Exclude d t) =
      link_obeyed h number g o d (Some (Exclude t)) (command_issued (g.links (Operator o) d) (Exclude t))
  by_link_obeyed (order.Manual d t) =
      link_obeyed h number g o d (Some (Manual t)) (command_issued (g.links (Operator o) d) (Manual t))
  by_link_obeyed (order.Ignore d t) =
      link_obeyed h number g o d (Some (Ignore t)) (command_issued (g.links (Operator o) d) (Ignore t))
  by_link_obeyed (order.Ask d) = refl
  by_link_obeyed (order.Watch x) = refl
  by_link_obeyed (order.Unwatch x) = refl
  by_link_obeyed (order.Report device s) = refl

  -- what is here is decided by the link
  pub decided_here : (what : Order) → is_order_here h number o what ≡ true
      → decided h number g o what ≡ decided_by_link h g o what
  decided_here what here =
      ap (λ b. if b then decided_by_link h g o what else Err 26) here

  -- a decided order is refused as the definitions have it
  pub decided_refused : (what : Order) → refused_by (decided h number g o what) ≡ refusal_of h number g (Orders o what)
  decided_refused what = by (is_order_here h number o what)
    where
      by : (b : Bool) → refused_by (if b then decided_by_link h g o what else Err 26)
          ≡ (if b then refusal_by_link h g o what else Some 26)
      by true = by_link_refused what
      by false = refl

  -- and else it is their step
  pub decided_step : (what : Order)
      → IfOk (decided h number g o what) (λ x. step_of h number g o x ≡ order_comes h number g o what)
  decided_step what = by (is_order_here h number o what)
    where
      by : (b : Bool) → IfOk (if b then decided_by_link h g o what else Err 26)
          (λ x. step_of h number g o x ≡ order_comes h number g o what)
      by true = by_link_obeyed what
      by false = tt

  -- the operator is the station's
  pub orderer_here : (what : Order) → is_order_here h number o what ≡ true
      → is_number (operator_station_of h o) number ≡ true
  orderer_here what here = (and_parts (is_number (operator_station_of h o) number) _ here).0

  link_obeyable : (d : ℕ) (c : Option Command) → MayOrder h number o d → (r : Result Link ℕ)
      → IfOk r (IsLink h most_pending) → IfOk (linked d c r) (IsObeyable h number o)
  link_obeyable d c may (Ok l) is = (may, is)
  link_obeyable d c may (Err code) is = tt

  link_with_room : (full : Bool) (r : Result Link ℕ) → IfOk r (IsLink h most_pending)
      → IfOk (if_room full r) (IsLink h most_pending)
  link_with_room true (Ok l) is = tt
  link_with_room false (Ok l) is = is
  link_with_room true (Err code) is = tt
  link_with_room false (Err code) is = tt

  take_sound : (l : Link) → IsLink h most_pending l → IfOk (take_begun l) (IsLink h most_pending)
  take_sound (Out k) is = is
  take_sound (Taking s) is = tt
  take_sound (Held e n p) is = tt
  take_sound (Dropping e) is = tt

  drop_sound : (l : Link) → IsLink h most_pending l → IfOk (drop_begun l) (IsLink h most_pending)
  drop_sound (Out k) is = tt
  drop_sound (Taking s) is = tt
  drop_sound (Held e n []) is = is.0
  drop_sound (Held e n (c ∷ p)) is = tt
  drop_sound (Dropping e) is = tt

  module _ (tree : IsTree h) (sound : IsSound h g) where
    command_obeyable : (d : ℕ) (c : Command)
        → (is_number (operator_station_of h o) number && (has_domain h d && has_named h c)) ≡ true
        → IfOk (commanded g o d c) (IsObeyable h number o)
    command_obeyable d c here =
        link_obeyable d (Some c) (may_command h number o d (has_named h c) here)
        (command_issued (g.links (Operator o) d) c) (issued (command_issued (g.links (Operator o) d) c) refl)
      where
        named : has_named h c ≡ true
        named = (and_parts (has_domain h d) _ (and_parts (is_number (operator_station_of h o) number) _ here).1).1

        issued : (r : Result Link ℕ) → command_issued (g.links (Operator o) d) c ≡ r → IfOk r (IsLink h most_pending)
        issued (Ok new) is =
            sound_issued h most_pending (g.links (Operator o) d) c new is (command_known h c tree named)
            (λ e n p was room. room) (sound.own o d)
        issued (Err code) is = tt

    by_link_obeyable : (what : Order) → is_order_here h number o what ≡ true
        → IfOk (decided_by_link h g o what) (IsObeyable h number o)
    by_link_obeyable (order.Take d) here =
        link_obeyable d None (may_take h number o d here) (taken h g o d)
        (link_with_room (nat_le most_links (links_in_use h g o)) (take_begun (g.links (Operator o) d))
        (take_sound (g.links (Operator o) d) (sound.own o d)))
    by_link_obeyable (order.Drop d) here =
        link_obeyable d None (may_take h number o d here) (drop_begun (g.links (Operator o) d))
        (drop_sound (g.links (Operator o) d) (sound.own o d))
    by_link_obeyable (order.Do d a) here = command_obeyable d (Do a) here
    by_link_obeyable (order.Include d t) here = command_obeyable d (Include t) here
    by_link_obeyable (order.Exclude d t) here = command_obeyable d (Exclude t) here
    by_link_obeyable (order.Manual d t) here = command_obeyable d (Manual t) here
    by_link_obeyable (order.Ignore d t) here = command_obeyable d (Ignore t) here
    by_link_obeyable (order.Ask d) here = tt
    by_link_obeyable (order.Watch x) here = tt
    by_link_obeyable (order.Unwatch x) here = tt
    by_link_obeyable (order.Report device s) here = tt

    -- what it is about is here, and the link is one
    pub decided_obeyable : (what : Order) → IfOk (decided h number g o what) (IsObeyable h number o)
    decided_obeyable what = by (is_order_here h number o what) refl
      where
        by : (b : Bool) → is_order_here h number o what ≡ b
            → IfOk (if b then decided_by_link h g o what else Err 26) (IsObeyable h number o)
        by true here = by_link_obeyable what here
        by false here = tt
