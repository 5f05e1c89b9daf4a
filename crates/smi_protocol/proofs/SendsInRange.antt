-- Whatever comes, what a station then sends of its grants is in the ranges of its kind.
use Rattle.std.proofs.Common.{ℕ, ◌≡◌, Bool, true, false, List, [], ◌∷◌, ◌++◌, inl, inr, Option, Some, None, Ok, Err}
use Rattle.std.proofs.Common.{refl, sym, ap, ◌∙◌, subst}
use Rattle.std.specs.Prelude.{map, not, option_map, Result, if◌then◌else◌}
use Rattle.std.specs.List.{range_with_len}
use Rattle.std.proofs.lemmas.Bool.{and_parts}
use Rattle.smi_grant.specs.declared.Command.{Command}
use Rattle.smi_grant.specs.declared.Command.TheVariants.{Do, Include, Exclude, Manual, Ignore}
use Rattle.smi_grant.specs.declared.Holder.{Holder}
use Rattle.smi_grant.specs.declared.Holder.TheVariants.{Free, Operator, Domain}
use Rattle.smi_grant.specs.declared.Verdict.{Verdict}
use Rattle.smi_grant.specs.declared.Verdict.TheVariants.{New, Same}
use Rattle.smi_grant.specs.Holder.{is_free}
use Rattle.smi_grant.specs.Keeper.{admits, started, take_after, drop_after}
use Rattle.smi_grant.specs.Record.{IsRecord, Standing, is_settled}
use Rattle.smi_message.specs.declared.Body.{Body}
use Rattle.smi_message.specs.declared.Body.TheVariants as body
use Rattle.smi_message.specs.Message.{Message, is_message, is_party}
use Rattle.smi_tree.specs.Hierarchy.{Hierarchy}
use Rattle.smi_tree.specs.Lawful.{IsBetween, IsTree}
use Rattle.smi_tree.specs.Lookups.{children_of, domain_count, operators_of, operator_station_of, parent_of}
use Rattle.smi_tree.specs.Lookups.{station_count}
use Rattle.smi_command.specs.declared.Due.{Due}
use Rattle.smi_command.specs.declared.Link.{Link}
use Rattle.smi_command.specs.Link.{due_of}
use Rattle.smi_command.specs.Hearing.{told_link}
use Rattle.smi_command.specs.Order.{take_begun, drop_begun, command_issued}
use Rattle.smi_command.specs.Pending.{most_pending}
use Rattle.smi_command.proofs.Heard.{not_true}
use Rattle.smi_grant.proofs.Lawful.{free_last, none_settled}
use Rattle.smi_tree.specs.Roles.{is_number, is_parent, has_domain, is_keeper}
use Rattle.smi_rows.specs.Ranges.{is_standing}
use Rattle.smi_protocol.specs.Children.{ChildChange, Stays, Relinked, ComesInto, change_of, link_after, own_code}
use Rattle.smi_protocol.specs.Grants.{Grants}
use Rattle.smi_protocol.specs.GrantsOf.{datagram_comes, grant_step}
use Rattle.smi_protocol.specs.GrantStep.{waits_for_children}
use Rattle.smi_protocol.specs.Happening.{Happening, Comes, Orders, Reports, Ticks}
use Rattle.smi_protocol.specs.Hearing.{ended, ended_record, ended_sends, ends, hears, listener, listeners}
use Rattle.smi_protocol.specs.Hearing.{parent_heard, parent_here, told_to}
use Rattle.smi_protocol.specs.Keeping.{child_request, child_requests, commanded, decided, ran, run_comes}
use Rattle.smi_protocol.specs.Messages.{all_due, newest_due, if_any, requests, requests_due, request_newest, tells}
use Rattle.smi_protocol.specs.Messages.{tells_holder}
use Rattle.smi_protocol.specs.Ordering.{obeyed, order_comes}
use Rattle.smi_protocol.specs.Refusals.{is_body_of, is_order_here, is_order_of}
use Rattle.smi_protocol.specs.Refusals.{refusal_by_link, refusal_of}
use Rattle.smi_protocol.specs.Sound.{AllInRange, IsLink, IsSayable, IsSound, most_handed_on}
use Rattle.smi_protocol.specs.declared.entry.Entry.{Entry}
use Rattle.smi_protocol.specs.declared.order.Order.{Order}
use Rattle.smi_protocol.specs.declared.order.Order.TheVariants as order
use Rattle.smi_protocol.proofs.Lists.{In, in_both, from_mapped, from_chosen, from_flat}
use Rattle.smi_protocol.proofs.Ranges.{child_there, domain_party, due_in, holder_there, is_within, kept_there}
use Rattle.smi_protocol.proofs.Ranges.{operator_there, request_at, tell_in}
use Rattle.smi_protocol.proofs.SoundSteps.{body_here, found, sender_here, listening_parent, stays_sound}
use Rattle.smi_protocol.proofs.SoundTables.{standing_facts}
use Rattle.smi_protocol.proofs.Tables.{number_self, operator_ours, parent_is, put_here, put_link_here}

-- the refusal of what is not here
abbrev missing : Option ℕ
missing = Some 26

pub none_in : AllInRange []
none_in m a = absurd a

pub one_in : (k : Message) → is_message k ≡ true → AllInRange (k ∷ [])
one_in k fits m (inl is) = ap is_message is ∙ fits
one_in k fits m (inr a) = absurd a

pub more_in : (k : Message) (ms : List Message) → is_message k ≡ true → AllInRange ms → AllInRange (k ∷ ms)
more_in k ms fits rest m (inl is) = ap is_message is ∙ fits
more_in k ms fits rest m (inr a) = rest m a

pub both_in : (ms ns : List Message) → AllInRange ms → AllInRange ns → AllInRange (ms ++ ns)
both_in ms ns a b m i = elim (in_both m ms ns i) [ inl c ↦ a m c | inr c ↦ b m c ]

-- the link to a child after a command
commanded_link : (h : Hierarchy) (g : Grants) (d : ℕ) (c : Command) (x : ℕ) (l : Link) → is_parent h x d ≡ true
    → change_of h g d c x ≡ Relinked l → (commanded h g d c).links (Domain d) x ≡ l
commanded_link h g d c x l parent is = rw parent (rw (number_self d) (ap (λ k. link_after k (g.links (Domain d) x)) is))

-- an operator who listens is the station's
listening_operator : (h : Hierarchy) (number d o : ℕ) → In (Operator o) (listeners h number d)
    → is_number (operator_station_of h o) number ≡ true
listening_operator h number d o a =
    elim (in_both (Operator o) (map Operator (operators_of h number)) (parent_here h number (parent_of h d)) a) [
      | inl b ↦
          let c = from_mapped Operator (Operator o) (operators_of h number) b in
          let same : o ≡ c.0 = (let e : Operator o ≡ Operator c.0 = c.2 in cc) in
          ap (λ z. is_number (operator_station_of h z) number) same
          ∙ ap (λ z. is_number z number) (operator_ours h number c.0 c.1) ∙ number_self number
      | inr b ↦ absurd (above (parent_of h d) b)
    ]
  where
    above : (q : Option ℕ) → In (Operator o) (parent_here h number q) → ⊥
    above None b = b
    above (Some q) b = kept (is_keeper h number q) b
      where
        kept : (k : Bool) → In (Operator o) (if k then Domain q ∷ [] else []) → ⊥
        kept true (inl i) = cc
        kept true (inr i) = i
        kept false i = i

-- the end of a command changes no link
ended_links : (b : Bool) (on : Grants) (p : ℕ) (who : Holder) (x : ℕ) → (ended b on p).links who x ≡ on.links who x
ended_links true on p who x = refl
ended_links false on p who x = refl

-- a domain at work is held
pub working_held : (r : Standing) → IsRecord r → is_settled r.phase ≡ false → is_free r.holder ≡ false
working_held r lawful working = by (is_free r.holder) refl
  where
    by : (b : Bool) → is_free r.holder ≡ b → is_free r.holder ≡ false
    by false is = is
    by true is =
        absurd (let rests : is_settled r.phase ≡ true = ap is_settled
        (none_settled r lawful (free_last r lawful is)) in let wrong : true ≡ false = sym rests ∙ working in cc)

module _ (h : Hierarchy) (tree : IsTree h) (number : ℕ) (here : IsBetween 1 (station_count h) number) where
  -- all that a link is due
  link_in : (who : Holder) (d most : ℕ) (l : Link) → IsBetween 1 (domain_count h) d → is_party who ≡ true
      → IsLink h most l → AllInRange (requests_due h number who d l)
  link_in who d most l within party sound m a =
      let b = from_mapped (requests h number who d) m (all_due l) a in
      let c = from_chosen (due_of l) b.0 (range_with_len 0 most_pending) b.1 in
      ap is_message b.2 ∙ request_at h tree number here who d b.0 within party (due_in h most l c.0 b.0 sound c.2)

  -- the newest of it
  newest_in : (who : Holder) (d most : ℕ) (l : Link) → IsBetween 1 (domain_count h) d → is_party who ≡ true
      → IsLink h most l → AllInRange (request_newest h number who d l)
  newest_in who d most l within party sound = by (newest_due l) refl
    where
      by : (o : Option Due) → newest_due l ≡ o → AllInRange (if_any (option_map (requests h number who d) o))
      by None is = none_in
      by (Some due) is = one_in (requests h number who d due)
          (request_at h tree number here who d due within party (due_in h most l _ due sound is))

  -- a keeper's verdict is told
  decided_in : (g : Grants) (from d : ℕ) (note : Entry) (v : Verdict) → IsBetween 1 (station_count h) from
      → IsBetween 1 (domain_count h) d → IsSound h g → IsSound h (decided h number g from d note v).grants
      → AllInRange (decided h number g from d note v).sends
  decided_in g from d note (New r) there within sound new =
      one_in (tells h number from d r) (tell_in h tree number here from d r there within
      (subst (λ z. is_standing z ≡ true) (put_here g.records d r) (new.standing d)))
  decided_in g from d note Same there within sound new =
      one_in (tells h number from d (g.records d))
      (tell_in h tree number here from d (g.records d) there within (sound.standing d))

  -- a command runs: its children are asked
  run_in : (g : Grants) (from d : ℕ) (who : Holder) (e n : ℕ) (c : Command) → IsBetween 1 (station_count h) from
      → IsBetween 1 (domain_count h) d → IsSound h g → IsSound h (run_comes h number g from d who e n c).grants
      → AllInRange (run_comes h number g from d who e n c).sends
  run_in g from d who e n c there within sound new = by (admits (g.records d) who e n) refl new
    where
      busy : Bool
      busy = waits_for_children h (commanded h g d c) d

      after : Grants
      after = (ran h number g from d e n c busy (own_code h g d c)).grants

      child_in_range : (x : ℕ) → In x (children_of h d) → IsSound h after
          → AllInRange (child_request h number d x (change_of h g d c x))
      child_in_range x a sound' = change (change_of h g d c x) refl
        where
          parent : is_parent h x d ≡ true
          parent = parent_is h d x a

          change : (k : ChildChange) → change_of h g d c x ≡ k → AllInRange (child_request h number d x k)
          change (Stays code) is = none_in
          change (ComesInto m) is = none_in
          change (Relinked l) is =
              link_in (Domain d) x most_handed_on l (child_there h tree x d parent).0 (domain_party h tree d within)
              (subst (IsLink h most_handed_on) (commanded_link h g d c x l parent is) (sound'.child d x))

      by : (b : Bool) → admits (g.records d) who e n ≡ b → IsSound h (run_comes h number g from d who e n c).grants
          → AllInRange (run_comes h number g from d who e n c).sends
      by true is new' =
          let sound' : IsSound h after = rw is at new' in
          rw is
          (more_in (tells h number from d (started (g.records d) busy (own_code h g d c)))
          (child_requests h number g d c)
          (tell_in h tree number here from d (started (g.records d) busy (own_code h g d c)) there within
          (subst (λ z. is_standing z ≡ true) (put_here g.records d (started (g.records d) busy (own_code h g d c)))
          (sound'.standing d)))
          (λ m a. let b = from_flat (λ x. child_request h number d x (change_of h g d c x)) m (children_of h d) a in
          child_in_range b.0 b.1 sound' m b.2))
      by false is new' =
          rw is (one_in (tells h number from d (g.records d))
          (tell_in h tree number here from d (g.records d) there within (sound.standing d)))

  -- a record is told to a link
  told_in : (g : Grants) (d : ℕ) (r : Standing) → IsBetween 1 (domain_count h) d → IsSound h g → (o : Option Holder)
      → ((who : Holder) → o ≡ Some who → In who (listeners h number d) × (hears (g.links who d) who r ≡ true))
      → IsSound h (told_to h number g d r o).grants → AllInRange (told_to h number g d r o).sends
  told_in g d r within sound None heard new = none_in
  told_in g d r within sound (Some Free) heard new = none_in
  told_in g d r within sound (Some (Operator o)) heard new =
      link_in (Operator o) d most_pending (told_link (g.links (Operator o) d) (Operator o) r) within
      (operator_there h tree number o (listening_operator h number d o (heard (Operator o) refl).0))
      (subst (IsLink h most_pending) (put_link_here g.links (Operator o) d _) (new.own o d))
  told_in g d r within sound (Some (Domain p)) heard new =
      both_in (ended_sends h number (ends h on p) on p) (requests_due h number (Domain p) d (on.links (Domain p) d))
      (end (ends h on p) refl) due
    where
      on : Grants
      on = parent_heard g p d r

      child : is_parent h d p ≡ true
      child = listening_parent h number d p (heard (Domain p) refl).0

      due : AllInRange (requests_due h number (Domain p) d (on.links (Domain p) d))
      due = link_in (Domain p) d most_handed_on (on.links (Domain p) d) within
          (domain_party h tree p (child_there h tree d p child).1)
          (subst (IsLink h most_handed_on) (ended_links (ends h on p) on p (Domain p) d) (new.child p d))

      end : (b : Bool) → ends h on p ≡ b → AllInRange (ended_sends h number b on p)
      end false is = none_in
      end true is =
          let standing : is_standing (ended_record on p) ≡ true =
          subst (λ z. is_standing z ≡ true) (put_here g.records p (ended_record on p))
          (subst (λ b. is_standing ((ended b on p).records p) ≡ true) is (new.standing p)) in
          let facts = standing_facts (g.records p) (sound.standing p) in
          let working = not_true (is_settled (g.records p).phase)
          (and_parts (not (is_settled (g.records p).phase)) _ is).0 in
          let to = holder_there h tree p (g.records p).holder (working_held (g.records p) facts.lawful working)
          facts.holder (sound.holder p) in
          one_in (tells_holder h number p (ended_record on p))
          (tell_in h tree number here _ p (ended_record on p) to (child_there h tree d p child).1 standing)

  -- an order is obeyed
  obeyed_in : (g : Grants) (o d : ℕ) (c : Option Command) (res : Result Link ℕ) → IsBetween 1 (domain_count h) d
      → is_party (Operator o) ≡ true → IsSound h (obeyed h number g o d c res).grants
      → AllInRange (obeyed h number g o d c res).sends
  obeyed_in g o d c (Ok l) within party new =
      newest_in (Operator o) d most_pending l within party
      (subst (IsLink h most_pending) (put_link_here g.links (Operator o) d l) (new.own o d))
  obeyed_in g o d c (Err code) within party new = none_in

  order_in : (g : Grants) (o : ℕ) (what : Order) → is_party (Operator o) ≡ true → is_order_of h what ≡ true
      → IsSound h (order_comes h number g o what).grants → AllInRange (order_comes h number g o what).sends
  order_in g o (order.Take d) party there new =
      obeyed_in g o d None (take_begun (g.links (Operator o) d)) (is_within 1 (domain_count h) d there) party new
  order_in g o (order.Drop d) party there new =
      obeyed_in g o d None (drop_begun (g.links (Operator o) d)) (is_within 1 (domain_count h) d there) party new
  order_in g o (order.Do d a) party there new =
      obeyed_in g o d (Some (Do a)) (command_issued (g.links (Operator o) d) (Do a))
      (is_within 1 (domain_count h) d (and_parts (has_domain h d) _ there).0) party new
  order_in g o (order.Include d t) party there new =
      obeyed_in g o d (Some (Include t)) (command_issued (g.links (Operator o) d) (Include t))
      (is_within 1 (domain_count h) d (and_parts (has_domain h d) _ there).0) party new
  order_in g o (order.Exclude d t) party there new =
      obeyed_in g o d (Some (Exclude t)) (command_issued (g.links (Operator o) d) (Exclude t))
      (is_within 1 (domain_count h) d (and_parts (has_domain h d) _ there).0) party new
  order_in g o (order.Manual d t) party there new =
      obeyed_in g o d (Some (Manual t)) (command_issued (g.links (Operator o) d) (Manual t))
      (is_within 1 (domain_count h) d (and_parts (has_domain h d) _ there).0) party new
  order_in g o (order.Ignore d t) party there new =
      obeyed_in g o d (Some (Ignore t)) (command_issued (g.links (Operator o) d) (Ignore t))
      (is_within 1 (domain_count h) d (and_parts (has_domain h d) _ there).0) party new
  order_in g o (order.Ask d) party there new = none_in
  order_in g o (order.Watch x) party there new = none_in
  order_in g o (order.Unwatch x) party there new = none_in
  order_in g o (order.Report device s) party there new = none_in

  -- a datagram
  body_in : (g : Grants) (from : ℕ) (b : Body) → IsBetween 1 (station_count h) from
      → is_body_of h from number b ≡ true → IsSound h g → IsSound h (datagram_comes h number g from b).grants
      → AllInRange (datagram_comes h number g from b).sends
  body_in g from (body.Ask d) there kept sound new =
      one_in (tells h number from d (g.records d))
      (tell_in h tree number here from d (g.records d) there (kept_there h tree number d kept).0 (sound.standing d))
  body_in g from (body.Take d who seen) there kept sound new =
      decided_in g from d _ (take_after (g.records d) who seen) there
      (kept_there h tree number d (and_parts (is_keeper h number d) _ kept).0).0 sound new
  body_in g from (body.Drop d who e) there kept sound new =
      decided_in g from d _ (drop_after (g.records d) who e) there
      (kept_there h tree number d (and_parts (is_keeper h number d) _ kept).0).0 sound new
  body_in g from (body.Run d who e n c) there kept sound new =
      run_in g from d who e n c there (kept_there h tree number d
      (and_parts (is_keeper h number d) _ kept).0).0 sound new
  body_in g from (body.Tell d r) there kept sound new =
      told_in g d r (kept_there h tree from d (and_parts (is_keeper h from d) _ kept).0).0 sound
      (listener h number g d r)
      (λ who is. found (λ who. hears (g.links who d) who r) (listeners h number d) who is) new
  body_in g from (body.Watch x echo) there kept sound new = none_in
  body_in g from (body.State x echo v s) there kept sound new = none_in
  body_in g from (body.Unwatch x echo) there kept sound new = none_in

  -- whatever comes and is not refused
  pub sends_in : (g : Grants) (what : Happening) → IsSound h g → IsSayable what → refusal_of h number g what ≡ None
      → AllInRange (grant_step h number g what).sends
  sends_in g (Comes m) sound fits none =
      body_in g m.from m.body (sender_here h number m none) (body_here h number m none) sound
      (stays_sound h number g (Comes m) tree sound fits none)
  sends_in g (Orders o what) sound fits none = by (is_order_here h number o what) refl none
    where
      new : IsSound h (order_comes h number g o what).grants
      new = stays_sound h number g (Orders o what) tree sound fits none

      by : (b : Bool) → is_order_here h number o what ≡ b
          → (if b then refusal_by_link h g o what else missing) ≡ None
          → AllInRange (order_comes h number g o what).sends
      by true is i =
          let a = and_parts (is_number (operator_station_of h o) number) _ is in
          order_in g o what (operator_there h tree number o a.0) a.1 new
      by false is i = absurd cc
  sends_in g (Reports device s) sound fits none = none_in
  sends_in g Ticks sound fits none = none_in
