-- What a step sends of grants it may send.
use Rattle.std.proofs.Common.{ℕ, ◌≡◌, ◌-◌, Bool, true, false, List, [], ◌∷◌, inl, inr, refl, sym, ap, ◌∙◌, subst}
use Rattle.std.specs.Prelude.{Option, Some, None, option_map, Result, Ok, Err, length, map, unwrap_or, if◌then◌else◌}
use Rattle.std.specs.List.{range_with_len}
use Rattle.std.proofs.lemmas.Bool.{and_parts, eqb-true}
use Rattle.smi_grant.specs.declared.Command.{Command}
use Rattle.smi_grant.specs.declared.Command.TheVariants.{Do, Include, Exclude, Manual, Ignore}
use Rattle.smi_grant.specs.declared.Holder.{Holder}
use Rattle.smi_grant.specs.declared.Holder.TheVariants.{Free, Operator, Domain}
use Rattle.smi_grant.specs.declared.Verdict.{Verdict}
use Rattle.smi_grant.specs.declared.Verdict.TheVariants.{New, Same}
use Rattle.smi_grant.specs.Keeper.{take_after, drop_after, admits, started}
use Rattle.smi_grant.specs.Record.{Standing}
use Rattle.smi_message.specs.declared.Body.{Body}
use Rattle.smi_message.specs.declared.Body.TheVariants as body
use Rattle.smi_message.specs.Message.{Message}
use Rattle.smi_tree.specs.Hierarchy.{Hierarchy}
use Rattle.smi_tree.specs.Lookups.{children_of, operators_of, operator_station_of, parent_of, station_of}
use Rattle.smi_command.specs.declared.Due.{Due}
use Rattle.smi_command.specs.declared.Due.TheVariants.{Take, Drop, Run}
use Rattle.smi_command.specs.declared.Link.{Link}
use Rattle.smi_command.specs.Hearing.{told_link}
use Rattle.smi_command.specs.Link.{due_of}
use Rattle.smi_command.specs.Order.{take_begun, drop_begun, command_issued}
use Rattle.smi_command.specs.Pending.{most_pending}
use Rattle.smi_grant.proofs.Holders.{either}
use Rattle.smi_tree.specs.Roles.{is_number, holder_station, is_keeper}
use Rattle.smi_rows.specs.Known.{pending_of}
use Rattle.smi_protocol.specs.Children.{ChildChange, Stays, Relinked, ComesInto, change_of, link_after, own_code}
use Rattle.smi_protocol.specs.Display.{Station}
use Rattle.smi_protocol.specs.Grants.{Grants, with_record, with_link}
use Rattle.smi_protocol.specs.GrantStep.{waits_for_children}
use Rattle.smi_protocol.specs.GrantsOf.{datagram_comes, grant_step}
use Rattle.smi_protocol.specs.Happening.{Happening, Comes, Orders, Reports, Ticks}
use Rattle.smi_protocol.specs.Hearing.{parent_here, listeners, hears, listener, parent_heard, ends, ended}
use Rattle.smi_protocol.specs.Hearing.{ended_record, ended_sends, told_to}
use Rattle.smi_protocol.specs.Keeping.{answered, decided, commanded, begun, child_request, ran, run_comes}
use Rattle.smi_protocol.specs.Messages.{tells, tells_holder, requests, all_due, requests_due}
use Rattle.smi_protocol.specs.Messages.{newest_due, if_any, request_newest}
use Rattle.smi_protocol.specs.Ordering.{obeyed, order_comes}
use Rattle.smi_protocol.specs.Refusals.{is_body_of, refusal_by_link, is_order_here, refusal_of}
use Rattle.smi_protocol.specs.Sending.{MaySend}
use Rattle.smi_protocol.specs.declared.Entry.{Entry}
use Rattle.smi_protocol.specs.declared.Order.{Order}
use Rattle.smi_protocol.specs.declared.Order.TheVariants as order
use Rattle.smi_law.proofs.GrantKinds.{put_here}
use Rattle.smi_law.proofs.HearingKinds.{AllOf, all_both, all_found}
pub use Rattle.smi_protocol.proofs.Tables.{operator_ours, child_of}
use Rattle.smi_law.proofs.Lists.{In, in_both, from_mapped, from_chosen, from_flat}
use Rattle.smi_law.proofs.Moves.{put_link_here, number_self}
use Rattle.smi_law.proofs.StepKinds.{understood}
use Rattle.smi_law.proofs.WorkRuns.{link_child}

pub number_some : (o : Option ℕ) (n : ℕ) → is_number o n ≡ true → o ≡ Some n
number_some None n i = absurd cc
number_some (Some m) n i = ap Some (eqb-true m n i)

pub some_number : (o : Option ℕ) (n : ℕ) → o ≡ Some n → is_number o n ≡ true
some_number o n is = ap (λ z. is_number z n) is ∙ number_self n

module _ (h : Hierarchy) (number : ℕ) where
  -- a station with these grants may send it
  abbrev pub SaysOf : Grants → Message → Type 0
  SaysOf K m = (s : Station) → s.grants ≡ K → MaySend h number s m

  tell_says : (K : Grants) (to d : ℕ) (r : Standing) → is_keeper h number d ≡ true → r ≡ K.records d
      → SaysOf K (tells h number to d r)
  tell_says K to d r keeper is s same = (refl, refl, (keeper, is ∙ ap (λ (g : Grants). g.records d) (sym same)))

  request_says : (K : Grants) (who : Holder) (d : ℕ) (due : Due) → holder_station h who ≡ Some number → (i : ℕ)
      → due_of (K.links who d) i ≡ Some due → SaysOf K (requests h number who d due)
  request_says K who d (Take seen) ours i is s same =
      (refl, refl, (refl, (ours, (i, ap (λ (g : Grants). due_of (g.links who d) i) same ∙ is))))
  request_says K who d (Drop e) ours i is s same =
      (refl, refl, (refl, (ours, (i, ap (λ (g : Grants). due_of (g.links who d) i) same ∙ is))))
  request_says K who d (Run e n c) ours i is s same =
      (refl, refl, (refl, (ours, (i, ap (λ (g : Grants). due_of (g.links who d) i) same ∙ is))))

  pub due_says : (K : Grants) (who : Holder) (d : ℕ) (l : Link) → holder_station h who ≡ Some number
      → K.links who d ≡ l → (due : Due) → In due (all_due l) → SaysOf K (requests h number who d due)
  due_says K who d l ours is due a =
      let b = from_chosen (due_of l) due (range_with_len 0 most_pending) a in
      request_says K who d due ours b.0 (ap (λ z. due_of z b.0) is ∙ b.2)

  dues_say : (K : Grants) (who : Holder) (d : ℕ) (l : Link) → holder_station h who ≡ Some number → K.links who d ≡ l
      → (m : Message) → In m (requests_due h number who d l) → SaysOf K m
  dues_say K who d l ours is m a =
      let b = from_mapped (requests h number who d) m (all_due l) a in
      subst (SaysOf K) (sym b.2) (due_says K who d l ours is b.0 b.1)

  module _ (g : Grants) where
    -- every datagram of a step
    abbrev AllSay : Grants → List Message → Type 0
    AllSay K ms = (m : Message) → In m ms → SaysOf K m

    one_says : (K : Grants) (k : Message) → SaysOf K k → AllSay K (k ∷ [])
    one_says K k says m (inl is) = subst (SaysOf K) (sym is) says
    one_says K k says m (inr a) = absurd a

    none_say : (K : Grants) → AllSay K []
    none_say K m a = absurd a

    answers_say : (from d : ℕ) → is_keeper h number d ≡ true
        → AllSay (answered h number g from d).grants (answered h number g from d).sends
    answers_say from d keeper = one_says g (tells h number from d (g.records d))
        (tell_says g from d (g.records d) keeper refl)

    decided_say : (from d : ℕ) (note : Entry) (v : Verdict) → is_keeper h number d ≡ true
        → AllSay (decided h number g from d note v).grants (decided h number g from d note v).sends
    decided_say from d note (New r) keeper = one_says (with_record g d r) (tells h number from d r)
        (tell_says (with_record g d r) from d r keeper (sym (put_here g.records d r)))
    decided_say from d note Same keeper = answers_say from d keeper

    -- A command runs.

    child_says : (d : ℕ) (c : Command) (busy : Bool) (own : ℕ) → is_keeper h number d ≡ true → (x : ℕ)
        → parent_of h x ≡ Some d → (change : ChildChange) → change_of h g d c x ≡ change
        → AllSay (begun (commanded h g d c) d busy own) (child_request h number d x change)
    child_says d c busy own keeper x child (Stays code) is = none_say (begun (commanded h g d c) d busy own)
    child_says d c busy own keeper x child (ComesInto m) is = none_say (begun (commanded h g d c) d busy own)
    child_says d c busy own keeper x child (Relinked l) is =
        dues_say (begun (commanded h g d c) d busy own) (Domain d) x l (number_some (station_of h d) number keeper)
        (link_child h g d c x child ∙ ap (λ z. link_after z (g.links (Domain d) x)) is)

    ran_say : (from d e n : ℕ) (c : Command) (busy : Bool) (own : ℕ) → is_keeper h number d ≡ true
        → AllSay (ran h number g from d e n c busy own).grants (ran h number g from d e n c busy own).sends
    ran_say from d e n c busy own keeper m (inl is) =
        subst (SaysOf (begun (commanded h g d c) d busy own)) (sym is)
        (tell_says (begun (commanded h g d c) d busy own) from d (started (g.records d) busy own) keeper
        (sym (put_here g.records d (started (g.records d) busy own))))
    ran_say from d e n c busy own keeper m (inr a) =
        let b = from_flat (λ x. child_request h number d x (change_of h g d c x)) m (children_of h d) a in
        child_says d c busy own keeper b.0 (child_of h d b.0 b.1) (change_of h g d c b.0) refl m b.2

    run_say : (from d : ℕ) (who : Holder) (e n : ℕ) (c : Command) → is_keeper h number d ≡ true
        → AllSay (run_comes h number g from d who e n c).grants (run_comes h number g from d who e n c).sends
    run_say from d who e n c keeper = elim (either (admits (g.records d) who e n)) [
      | inl t ↦ rw t (ran_say from d e n c (waits_for_children h (commanded h g d c) d) (own_code h g d c) keeper)
      | inr f ↦ rw f (answers_say from d keeper)
    ]

    -- A record is told.

    ended_link : (b : Bool) (on : Grants) (p : ℕ) (who : Holder) (d : ℕ) → (ended b on p).links who d ≡ on.links who d
    ended_link true on p who d = refl
    ended_link false on p who d = refl

    ended_say : (b : Bool) (on : Grants) (p : ℕ) → is_keeper h number p ≡ true
        → AllSay (ended b on p) (ended_sends h number b on p)
    ended_say true on p keeper = one_says (ended true on p) (tells_holder h number p (ended_record on p))
        (tell_says (ended true on p) (unwrap_or (holder_station h (ended_record on p).holder) 0) p (ended_record on p)
        keeper (sym (put_here on.records p (ended_record on p))))
    ended_say false on p keeper = none_say (ended false on p)

    told_say : (d : ℕ) (r : Standing) (o : Option Holder)
        → ((who : Holder) → o ≡ Some who → holder_station h who ≡ Some number)
        → AllSay (told_to h number g d r o).grants (told_to h number g d r o).sends
    told_say d r None ours = none_say g
    told_say d r (Some Free) ours = none_say g
    told_say d r (Some (Operator o)) ours =
        dues_say (with_link g (Operator o) d (told_link (g.links (Operator o) d) (Operator o) r)) (Operator o) d
        (told_link (g.links (Operator o) d) (Operator o) r) (ours (Operator o) refl)
        (put_link_here g.links (Operator o) d (told_link (g.links (Operator o) d) (Operator o) r))
    told_say d r (Some (Domain p)) ours = λ m a.
        let on = parent_heard g p d r in
        elim (in_both m (ended_sends h number (ends h on p) on p)
        (requests_due h number (Domain p) d (on.links (Domain p) d)) a) [
          | inl first ↦ ended_say (ends h on p) on p (some_number (station_of h p) number (ours (Domain p) refl)) m
              first
          | inr then_ ↦ dues_say (ended (ends h on p) on p) (Domain p) d (on.links (Domain p) d)
              (ours (Domain p) refl) (ended_link (ends h on p) on p (Domain p) d) m then_
        ]

    operators_ours : (os : List ℕ) → ((o : ℕ) → In o os → operator_station_of h o ≡ Some number)
        → AllOf (λ who. holder_station h who ≡ Some number) (map Operator os)
    operators_ours [] each = tt
    operators_ours (o ∷ os) each = (each o (inl refl), operators_ours os (λ p a. each p (inr a)))

    parent_ours : (o : Option ℕ) → AllOf (λ who. holder_station h who ≡ Some number) (parent_here h number o)
    parent_ours None = tt
    parent_ours (Some p) = elim (either (is_keeper h number p)) [
      | inl t ↦ rw t (number_some (station_of h p) number t, tt)
      | inr f ↦ rw f tt
    ]

    listener_ours : (d : ℕ) (r : Standing) (who : Holder) → listener h number g d r ≡ Some who
        → holder_station h who ≡ Some number
    listener_ours d r who is =
        all_found (λ z. holder_station h z ≡ Some number) (λ z. hears (g.links z d) z r) (listeners h number d) who
        (all_both (λ z. holder_station h z ≡ Some number) (map Operator (operators_of h number))
        (parent_here h number (parent_of h d)) (operators_ours (operators_of h number)
        (λ o a. operator_ours h number o a)) (parent_ours (parent_of h d))) is

    -- Orders.

    newest_say : (K : Grants) (o x : ℕ) (l : Link) → operator_station_of h o ≡ Some number
        → K.links (Operator o) x ≡ l → AllSay K (request_newest h number (Operator o) x l)
    newest_say K o x l ours is = by (newest_due l) refl
      where
        by : (due : Option Due) → newest_due l ≡ due
            → AllSay K (if_any (option_map (requests h number (Operator o) x) due))
        by None at = none_say K
        by (Some due) at = one_says K (requests h number (Operator o) x due)
            (request_says K (Operator o) x due ours (length (pending_of l) - 1)
            (ap (λ z. due_of z (length (pending_of l) - 1)) is ∙ at))

    obeyed_say : (o x : ℕ) (c : Option Command) (res : Result Link ℕ) → operator_station_of h o ≡ Some number
        → AllSay (obeyed h number g o x c res).grants (obeyed h number g o x c res).sends
    obeyed_say o x c (Ok l) ours = newest_say (with_link g (Operator o) x l) o x l ours
        (put_link_here g.links (Operator o) x l)
    obeyed_say o x c (Err code) ours = none_say g

    order_say : (o : ℕ) (what : Order) → operator_station_of h o ≡ Some number
        → AllSay (order_comes h number g o what).grants (order_comes h number g o what).sends
    order_say o (order.Take x) ours = obeyed_say o x None (take_begun (g.links (Operator o) x)) ours
    order_say o (order.Drop x) ours = obeyed_say o x None (drop_begun (g.links (Operator o) x)) ours
    order_say o (order.Do x a) ours = obeyed_say o x (Some (Do a)) (command_issued (g.links (Operator o) x) (Do a)) ours
    order_say o (order.Include x t) ours = obeyed_say o x (Some (Include t))
        (command_issued (g.links (Operator o) x) (Include t)) ours
    order_say o (order.Exclude x t) ours = obeyed_say o x (Some (Exclude t))
        (command_issued (g.links (Operator o) x) (Exclude t)) ours
    order_say o (order.Manual x t) ours = obeyed_say o x (Some (Manual t))
        (command_issued (g.links (Operator o) x) (Manual t)) ours
    order_say o (order.Ignore x t) ours = obeyed_say o x (Some (Ignore t))
        (command_issued (g.links (Operator o) x) (Ignore t)) ours
    order_say o (order.Ask x) ours = none_say g
    order_say o (order.Watch x) ours = none_say g
    order_say o (order.Unwatch x) ours = none_say g
    order_say o (order.Report device s) ours = none_say g

    -- the operator of an order that is not refused is here
    pub orders_ours : (o : ℕ) (what : Order) → refusal_of h number g (Orders o what) ≡ None
        → operator_station_of h o ≡ Some number
    orders_ours o what none = by (is_order_here h number o what) refl none
      where
        by : (b : Bool) → is_order_here h number o what ≡ b
            → (if b then refusal_by_link h g o what else Some 26) ≡ None → operator_station_of h o ≡ Some number
        by true is i = number_some (operator_station_of h o) number
            (and_parts (is_number (operator_station_of h o) number) _ is).0
        by false is i = absurd cc

    body_say : (from : ℕ) (b : Body) → is_body_of h from number b ≡ true
        → AllSay (datagram_comes h number g from b).grants (datagram_comes h number g from b).sends
    body_say from (body.Ask d) ok = answers_say from d ok
    body_say from (body.Take d who s) ok = decided_say from d _ (take_after (g.records d) who s)
        (and_parts (is_keeper h number d) _ ok).0
    body_say from (body.Drop d who e) ok = decided_say from d _ (drop_after (g.records d) who e)
        (and_parts (is_keeper h number d) _ ok).0
    body_say from (body.Run d who e n c) ok = run_say from d who e n c (and_parts (is_keeper h number d) _ ok).0
    body_say from (body.Tell d r) ok = told_say d r (listener h number g d r) (listener_ours d r)
    body_say from (body.Watch x echo) ok = none_say g
    body_say from (body.State x echo v s) ok = none_say g
    body_say from (body.Unwatch x echo) ok = none_say g

    pub grants_say : (what : Happening) → refusal_of h number g what ≡ None
        → AllSay (grant_step h number g what).grants (grant_step h number g what).sends
    grants_say (Comes m) none = body_say m.from m.body (understood h number m none)
    grants_say (Orders o what) none = order_say o what (orders_ours o what none)
    grants_say (Reports device s) none = none_say g
    grants_say Ticks none = none_say g
