-- What a station keeps stays sound where an operator's link changes: by an order, or by what it is told.
use Rattle.std.proofs.Common.{ℕ, ◌≡◌, ◌≤◌, ◌<◌, Bool, true, false, inl, inr, refl, sym, ap, ◌∙◌, subst, arith}
use Rattle.std.specs.Prelude.{◌&&◌, nat_le, not, Option, Some, None, Result, Ok, Err, if◌then◌else◌}
use Rattle.std.specs.Option.{option_or}
use Rattle.std.specs.List.{range_with_len}
use Rattle.std.proofs.lemmas.Bool.{and_from, and_parts, leb-true, leb-false}
use Rattle.std.proofs.lemmas.Bool.Decides.{nat_tests}
use Rattle.smi_base.specs.declared.trees.TheConstants.{MOST_ACTIONS, MOST_DOMAINS}
use Rattle.smi_grant.specs.declared.Command.{Command}
use Rattle.smi_grant.specs.declared.Command.TheVariants.{Do, Include, Exclude, Manual, Ignore}
use Rattle.smi_grant.specs.declared.Holder.{Holder}
use Rattle.smi_grant.specs.declared.Holder.TheVariants.{Operator, Domain}
use Rattle.smi_grant.specs.Record.{Standing, IsRecord}
use Rattle.smi_tree.specs.Hierarchy.{Hierarchy}
use Rattle.smi_tree.specs.Lawful.{IsTree}
use Rattle.smi_tree.specs.Lookups.{action_count, domain_count, operator_station_of}
use Rattle.smi_command.specs.declared.Link.{Link}
use Rattle.smi_command.specs.declared.Link.TheVariants.{Out, Taking, Held, Dropping}
use Rattle.smi_command.specs.Hearing.{told_link}
use Rattle.smi_command.specs.Order.{take_begun, drop_begun, command_issued}
use Rattle.smi_command.specs.Pending.{most_pending}
use Rattle.smi_command.proofs.Orders.{drop_begins, command_issues}
use Rattle.smi_tree.specs.Roles.{is_number, has_domain}
use Rattle.smi_command.specs.Link.{is_held, is_out}
use Rattle.smi_base.specs.Between.{is_between}
use Rattle.smi_protocol.specs.Grants.{Grants, put_link, with_link}
use Rattle.smi_protocol.specs.GrantsOf.{grant_step}
use Rattle.smi_protocol.specs.Happening.{Orders}
use Rattle.smi_protocol.specs.Ordering.{obeyed, order_comes}
use Rattle.smi_protocol.specs.Refusals.{links_in_use, most_links, is_order_here, is_order_of}
use Rattle.smi_protocol.specs.Request.{has_named}
use Rattle.smi_protocol.specs.Refusals.{refusal_by_link, refusal_of, why_not}
use Rattle.smi_protocol.specs.Sound.{IsCommand, IsLink, IsSound, most_handed_on}
use Rattle.smi_protocol.specs.declared.order.Order.{Order}
use Rattle.smi_protocol.specs.declared.order.Order.TheVariants as order
use Rattle.smi_protocol.proofs.Counts.{count_harder, count_one_more}
use Rattle.smi_protocol.proofs.SoundLinks.{sound_taken, sound_dropped, sound_issued, sound_told}
use Rattle.smi_protocol.proofs.SoundTables.{use_alike, waits_alike}
use Rattle.smi_protocol.proofs.Tables.{apart, at_put_link, put_link_here}

-- the refusal where sixteen links are in use
abbrev too_many : Bool → Option ℕ
too_many b = if b then Some 25 else None

-- the refusal of what is not here
abbrev here_or : Bool → Option ℕ → Option ℕ
here_or b other = if b then other else Some 26

module _ (h : Hierarchy) (g : Grants) (sound : IsSound h g) (o d : ℕ) where
  -- another link of one operator
  relinked_sound : (l : Link) → IsLink h most_pending l
      → links_in_use h (with_link g (Operator o) d l) o ≤ most_links → IsSound h (with_link g (Operator o) d l)
  relinked_sound l fits few = record {
    standing = sound.standing;
    holder = sound.holder;
    gathered = sound.gathered;
    at_rest = λ y s. let old = sound.at_rest y s in
        record {
          gathered = old.gathered;
          still = waits_alike h g (with_link g (Operator o) d l) y (child_link y)
              ∙ old.still;
        };
    at_work = λ y w. waits_alike h g (with_link g (Operator o) d l) y (child_link y) ∙ sound.at_work y w;
    own = λ p x. at_put_link (IsLink h most_pending) g.links (Operator o) d l (Operator p) x (λ i j. fits)
        (sound.own p x);
    child = λ p x. subst (IsLink h most_handed_on) (sym (child_link p x)) (sound.child p x);
    mode = λ p x parent out. sound.mode p x parent (subst (λ z. is_held z ≡ false) (child_link p x) out);
    few = λ p. elim (apart p o) [
      | inl is ↦ subst (λ z. links_in_use h (with_link g (Operator o) d l) z ≤ most_links) (sym is) few
      | inr other ↦
          subst (λ n. n ≤ most_links) (sym (use_alike h g (with_link g (Operator o) d l) p (other_operator p other)))
          (sound.few p)
    ];
  }
    where
      child_link : (p x : ℕ) → put_link g.links (Operator o) d l (Domain p) x ≡ g.links (Domain p) x
      child_link p x = at_put_link (λ z. z ≡ g.links (Domain p) x) g.links (Operator o) d l (Domain p) x
          (λ i j. absurd cc) refl

      other_operator : (p : ℕ) → (p ≡ o → ⊥) → (x : ℕ)
          → put_link g.links (Operator o) d l (Operator p) x ≡ g.links (Operator p) x
      other_operator p other x = at_put_link (λ z. z ≡ g.links (Operator p) x) g.links (Operator o) d l (Operator p)
          x (λ i j. absurd (let same : p ≡ o = cc in other same)) refl

  own_other : (l : Link) (x : ℕ) → (x ≡ d → ⊥)
      → put_link g.links (Operator o) d l (Operator o) x ≡ g.links (Operator o) x
  own_other l x other = at_put_link (λ z. z ≡ g.links (Operator o) x) g.links (Operator o) d l (Operator o) x
      (λ i j. absurd (other i)) refl

  -- a link that was in use takes none more
  in_use : (l : Link) → not (is_out (g.links (Operator o) d)) ≡ true
      → links_in_use h (with_link g (Operator o) d l) o ≤ most_links
  in_use l was =
      let fewer = count_harder (λ x. not (is_out (g.links (Operator o) x)))
      (λ x. not (is_out (put_link g.links (Operator o) d l (Operator o) x))) (range_with_len 1 (domain_count h))
      (λ x now. elim (apart x d) [
        | inl is ↦ subst (λ z. not (is_out (g.links (Operator o) z)) ≡ true) (sym is) was
        | inr other ↦ ap (λ z. not (is_out z)) (sym (own_other l x other)) ∙ now
      ]) in
      let old : links_in_use h g o ≤ most_links = sound.few o in
      omega (arith, fewer, old)

  -- a link that is out still has changed nothing
  told_few : (l : Link) → (not (is_out l) ≡ true → not (is_out (g.links (Operator o) d)) ≡ true)
      → links_in_use h (with_link g (Operator o) d l) o ≤ most_links
  told_few l keeps =
      let fewer = count_harder (λ x. not (is_out (g.links (Operator o) x)))
      (λ x. not (is_out (put_link g.links (Operator o) d l (Operator o) x))) (range_with_len 1 (domain_count h))
      (λ x now. elim (apart x d) [
        | inl is ↦
            let here : put_link g.links (Operator o) d l (Operator o) x
            ≡ l = subst (λ z. put_link g.links (Operator o) d l (Operator o) z ≡ l) (sym is)
            (put_link_here g.links (Operator o) d l) in
            subst (λ z. not (is_out (g.links (Operator o) z)) ≡ true) (sym is)
            (keeps (ap (λ z. not (is_out z)) (sym here) ∙ now))
        | inr other ↦ ap (λ z. not (is_out z)) (sym (own_other l x other)) ∙ now
      ]) in
      let old : links_in_use h g o ≤ most_links = sound.few o in
      omega (arith, fewer, old)

  -- one that comes into use takes one more
  one_more_use : (l : Link) → links_in_use h g o < most_links
      → links_in_use h (with_link g (Operator o) d l) o ≤ most_links
  one_more_use l room =
      let more = count_one_more (λ x. not (is_out (g.links (Operator o) x)))
      (λ x. not (is_out (put_link g.links (Operator o) d l (Operator o) x))) d
      (λ x other. ap (λ z. not (is_out z)) (own_other l x other)) 1 (domain_count h) in
      omega (arith, more, room)

  out_stays : (l : Link) (me : Holder) (r : Standing) → not (is_out (told_link l me r)) ≡ true → not (is_out l) ≡ true
  out_stays (Out k) me r now = now
  out_stays (Taking s) me r now = refl
  out_stays (Held e n p) me r now = refl
  out_stays (Dropping e) me r now = refl

  pub operator_sound : (r : Standing) → IsRecord r
      → IsSound h (with_link g (Operator o) d (told_link (g.links (Operator o) d) (Operator o) r))
  operator_sound r lawful =
      relinked_sound (told_link (g.links (Operator o) d) (Operator o) r)
      (sound_told h most_pending (g.links (Operator o) d) (Operator o) r refl lawful (sound.own o d))
      (told_few (told_link (g.links (Operator o) d) (Operator o) r) (out_stays (g.links (Operator o) d) (Operator o) r))

  -- Orders.

  take_sound : (number : ℕ) (res : Result Link ℕ) → take_begun (g.links (Operator o) d) ≡ res
      → option_or (why_not res) (too_many (nat_le most_links (links_in_use h g o))) ≡ None
      → IsSound h (obeyed h number g o d None res).grants
  take_sound number (Ok new) is none = relinked_sound new
      (sound_taken h most_pending (g.links (Operator o) d) new is (sound.own o d))
      (one_more_use new (room (nat_le most_links (links_in_use h g o)) refl none))
    where
      room : (b : Bool) → nat_le most_links (links_in_use h g o) ≡ b → too_many b ≡ None
          → links_in_use h g o < most_links
      room true t i = absurd cc
      room false f i = leb-false most_links (links_in_use h g o) f
  take_sound number (Err code) is none = sound

  drop_sound : (number : ℕ) (res : Result Link ℕ) → drop_begun (g.links (Operator o) d) ≡ res
      → IsSound h (obeyed h number g o d None res).grants
  drop_sound number (Ok new) is =
      let b = drop_begins (g.links (Operator o) d) new is in
      relinked_sound new (sound_dropped h most_pending (g.links (Operator o) d) new is (sound.own o d))
      (in_use new (ap (λ l. not (is_out l)) b.2))
  drop_sound number (Err code) is = sound

  command_sound : (number : ℕ) (c : Command) → IsCommand h c → (res : Result Link ℕ)
      → command_issued (g.links (Operator o) d) c ≡ res → IsSound h (obeyed h number g o d (Some c) res).grants
  command_sound number c command (Ok new) is =
      let b = command_issues (g.links (Operator o) d) c new is in
      relinked_sound new (sound_issued h most_pending (g.links (Operator o) d) c new is command
      (λ e n p was room. room) (sound.own o d)) (in_use new (ap (λ l. not (is_out l)) b.was))
  command_sound number c command (Err code) is = sound

-- a command that an order may give
action_command : (h : Hierarchy) (a : ℕ) → IsTree h → is_between 1 (action_count h) a ≡ true → IsCommand h (Do a)
action_command h a tree t =
    let p = and_parts (nat_le 1 a) (nat_le a (action_count h)) t in
    let most : a ≤ action_count h = leb-true a (action_count h) p.1 in
    record { range = and_from _ _ p.0 (within a (omega (arith, most, tree.lawful.actions))); known = p.1 }
  where
    within : (a : ℕ) → a ≤ MOST_ACTIONS → nat_le a MOST_ACTIONS ≡ true
    within a few = grind (arith, nat_tests)

target_range : (h : Hierarchy) (t : ℕ) → IsTree h → has_domain h t ≡ true
    → (nat_le 1 t && nat_le t MOST_DOMAINS ≡ true) × (nat_le t (domain_count h) ≡ true)
target_range h t tree is =
    let p = and_parts (nat_le 1 t) (nat_le t (domain_count h)) is in
    let most : t ≤ domain_count h = leb-true t (domain_count h) p.1 in
    (and_from _ _ p.0 (within t (omega (arith, most, tree.lawful.domains.most))), p.1)
  where
    within : (t : ℕ) → t ≤ MOST_DOMAINS → nat_le t MOST_DOMAINS ≡ true
    within t few = grind (arith, nat_tests)

-- a command whose names are there
pub command_known : (h : Hierarchy) (c : Command) → IsTree h → has_named h c ≡ true → IsCommand h c
command_known h (Do a) tree is = action_command h a tree is
command_known h (Include t) tree is = let r = target_range h t tree is in record { range = r.0; known = r.1 }
command_known h (Exclude t) tree is = let r = target_range h t tree is in record { range = r.0; known = r.1 }
command_known h (Manual t) tree is = let r = target_range h t tree is in record { range = r.0; known = r.1 }
command_known h (Ignore t) tree is = let r = target_range h t tree is in record { range = r.0; known = r.1 }

module _ (h : Hierarchy) (tree : IsTree h) (number : ℕ) (g : Grants) (sound : IsSound h g) (o : ℕ) where
  order_sound : (what : Order) → is_order_of h what ≡ true → refusal_by_link h g o what ≡ None
      → IsSound h (order_comes h number g o what).grants
  order_sound (order.Take d) here none = take_sound h g sound o d number (take_begun (g.links (Operator o) d)) refl none
  order_sound (order.Drop d) here none = drop_sound h g sound o d number (drop_begun (g.links (Operator o) d)) refl
  order_sound (order.Do d a) here none = command_sound h g sound o d number (Do a)
      (action_command h a tree (and_parts (has_domain h d) _ here).1) (command_issued (g.links (Operator o) d) (Do a))
      refl
  order_sound (order.Include d t) here none =
      let r = target_range h t tree (and_parts (has_domain h d) _ here).1 in
      command_sound h g sound o d number (Include t) (record { range = r.0; known = r.1 })
      (command_issued (g.links (Operator o) d) (Include t)) refl
  order_sound (order.Exclude d t) here none =
      let r = target_range h t tree (and_parts (has_domain h d) _ here).1 in
      command_sound h g sound o d number (Exclude t) (record { range = r.0; known = r.1 })
      (command_issued (g.links (Operator o) d) (Exclude t)) refl
  order_sound (order.Manual d t) here none =
      let r = target_range h t tree (and_parts (has_domain h d) _ here).1 in
      command_sound h g sound o d number (Manual t) (record { range = r.0; known = r.1 })
      (command_issued (g.links (Operator o) d) (Manual t)) refl
  order_sound (order.Ignore d t) here none =
      let r = target_range h t tree (and_parts (has_domain h d) _ here).1 in
      command_sound h g sound o d number (Ignore t) (record { range = r.0; known = r.1 })
      (command_issued (g.links (Operator o) d) (Ignore t)) refl
  order_sound (order.Ask d) here none = sound
  order_sound (order.Watch x) here none = sound
  order_sound (order.Unwatch x) here none = sound
  order_sound (order.Report device s) here none = sound

  pub orders_sound : (what : Order) → refusal_of h number g (Orders o what) ≡ None
      → IsSound h (grant_step h number g (Orders o what)).grants
  orders_sound what none = by (is_order_here h number o what) refl none
    where
      by : (b : Bool) → is_order_here h number o what ≡ b → here_or b (refusal_by_link h g o what) ≡ None
          → IsSound h (order_comes h number g o what).grants
      by true is i = order_sound what (and_parts (is_number (operator_station_of h o) number) _ is).1 i
      by false is i = absurd cc
