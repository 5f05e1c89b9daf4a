-- Whatever comes, all that a station then sends is in the ranges of its kind.
use Rattle.std.proofs.Common.{ℕ, zero, suc, ◌≡◌, ◌<◌, ◌+◌, ◌-◌, Bool, true, false, List, [], ◌∷◌, ◌++◌, inl, inr}
use Rattle.std.proofs.Common.{Option, Some, None, refl, sym, ap, ◌∙◌, subst, arith}
use Rattle.std.specs.Prelude.{◌==◌, nat_le, nat_lt, not, map, filter, take, option_and_then, option_map, unwrap_or}
use Rattle.std.specs.Prelude.{IfSome, if◌then◌else◌}
use Rattle.std.specs.List.{AllByRecursion, flat_map, range_with_len}
use Rattle.std.proofs.lemmas.Bool.{and_from, and_parts, leb-true}
use Rattle.std.proofs.lemmas.Bool.Decides.{nat_tests}
use Rattle.smi_base.specs.declared.trees.TheConstants.{MOST_OBJECTS, MOST_STATES}
use Rattle.smi_grant.specs.declared.Holder.{Holder}
use Rattle.smi_grant.specs.declared.Holder.TheVariants.{Operator, Domain}
use Rattle.smi_grant.specs.declared.Shown.{Shown}
use Rattle.smi_message.specs.declared.Body.{Body}
use Rattle.smi_message.specs.declared.Body.TheVariants as body
use Rattle.smi_message.specs.Message.{Message, is_body, is_boot, is_message, is_object, is_party}
use Rattle.smi_tree.specs.declared.row.Device.{Device as DeviceRow}
use Rattle.smi_tree.specs.Hierarchy.{Hierarchy, entry}
use Rattle.smi_tree.specs.Lawful.{IsBetween, IsTree}
use Rattle.smi_tree.specs.Lookups.{domain_count, device_count, operators_of, operator_station_of, parent_of}
use Rattle.smi_tree.specs.Lookups.{station_count, station_of}
use Rattle.smi_command.specs.declared.Due.{Due}
use Rattle.smi_command.specs.declared.Link.{Link}
use Rattle.smi_command.specs.Link.{due_of}
use Rattle.smi_command.specs.Pending.{most_pending}
use Rattle.smi_command.proofs.Heard.{choose}
use Rattle.smi_publish.specs.declared.condition.Condition.{Condition}
use Rattle.smi_publish.specs.Published.{shown_at}
use Rattle.smi_publish.specs.Publishing.{device_objects}
use Rattle.smi_tree.specs.Roles.{is_number, is_keeper, is_child_unit}
use Rattle.smi_view.specs.declared.Acceptance.{Acceptance}
use Rattle.smi_view.specs.declared.Acceptance.TheVariants.{Accepted, OtherBoot, NotNewer}
use Rattle.smi_view.specs.Accepting.{acceptance}
use Rattle.smi_watchers.specs.declared.Watcher.{Watcher}
use Rattle.smi_watchers.specs.Watching.{listed}
use Rattle.smi_protocol.specs.Display.{Display, Station}
use Rattle.smi_protocol.specs.Grants.{Grants, put}
use Rattle.smi_protocol.specs.GrantsOf.{grant_step}
use Rattle.smi_protocol.specs.Happening.{Happening, Comes, Orders, Reports, Ticks, answer}
use Rattle.smi_protocol.specs.Messages.{all_due, asks_about, home, if_any, object_home, requests, shows, unwatches}
use Rattle.smi_protocol.specs.Messages.{watches}
use Rattle.smi_protocol.specs.Opening.{object_count}
use Rattle.smi_protocol.specs.Refusals.{is_order_here, is_order_of, refusal_by_link, refusal_of}
use Rattle.smi_protocol.specs.Showing.{domain_of_happening, passed_in, shown_to_all}
use Rattle.smi_protocol.specs.Sound.{AllInRange, IsLink, IsSayable, IsSound, most_handed_on}
use Rattle.smi_protocol.specs.SoundDisplay.{IsDisplay, IsShown, IsWatcher, MayChange}
use Rattle.smi_protocol.specs.Step.{after, answered_or, body_noticed, conditions_after, notice}
use Rattle.smi_protocol.specs.Ticking.{Owed, all_owed, domains_of, is_before, most_sent, number_of_due, owed, owed_from}
use Rattle.smi_protocol.specs.Ticking.{owed_question, owed_to_child, owed_to_domain, owed_watch, tick_noticed}
use Rattle.smi_protocol.specs.Watching.{Notice, is_full, is_watched, lists_after, lists_before, noticed}
use Rattle.smi_protocol.specs.Watching.{order_noticed, showed_if, state_comes, told_state, unnoticed, watch_answer}
use Rattle.smi_protocol.specs.Watching.{watch_comes}
use Rattle.smi_protocol.specs.declared.order.Order.{Order}
use Rattle.smi_protocol.specs.declared.order.Order.TheVariants as order
use Rattle.smi_protocol.specs.declared.resend_cursor.ResendCursor.TheVariants as place
use Rattle.smi_protocol.proofs.DisplayStays.{conditions_stay, notice_sound}
use Rattle.smi_protocol.proofs.Lists.{In, in_both, from_chosen, from_flat, from_mapped, from_range}
use Rattle.smi_protocol.proofs.Ranges.{between, domain_in, domain_party, due_in, home_there, is_within, kept_there}
use Rattle.smi_protocol.proofs.Ranges.{message_in, operator_there, request_at, row_there}
use Rattle.smi_protocol.proofs.SendsInRange.{both_in, more_in, none_in, one_in, sends_in}
use Rattle.smi_protocol.proofs.SoundDisplay.{Conditions, display_shown, passed_all}
use Rattle.smi_protocol.proofs.SoundSteps.{sender_here}
use Rattle.smi_protocol.proofs.Tables.{number_self, operator_ours}

-- the refusal of what is not here
abbrev missing : Option ℕ
missing = Some 26

-- Lists.

from_taken : {X : Type 0} (n : ℕ) (y : X) (xs : List X) → In y (take n xs) → In y xs
from_taken zero y xs a = absurd a
from_taken (suc n) y [] a = absurd a
from_taken (suc n) y (x ∷ xs) (inl is) = inl is
from_taken (suc n) y (x ∷ xs) (inr a) = inr (from_taken n y xs a)

from_filtered : {X : Type 0} (test : X → Bool) (y : X) (xs : List X) → In y (filter test xs) → In y xs
from_filtered test y [] a = absurd a
from_filtered {X = X} test y (x ∷ xs) a = by (test x) a (λ b. from_filtered test y xs b)
  where
    by : (b : Bool) → In y (if b then x ∷ filter test xs else filter test xs)
        → (In y (filter test xs) → In y xs) → In y (x ∷ xs)
    by true (inl is) rest = inl is
    by true (inr b) rest = inr (rest b)
    by false b rest = inr (rest b)

all_at : {X : Type 0} (P : X → Type 0) (xs : List X) (x : X) → AllByRecursion P xs → In x xs → P x
all_at P [] x all a = absurd a
all_at P (y ∷ ys) x all (inl is) = subst P (sym is) all.0
all_at P (y ∷ ys) x all (inr a) = all_at P ys x all.1 a

mapped_in : {X : Type 0} (P : X → Type 0) (f : X → Message) (xs : List X) → ((x : X) → P x → is_message (f x) ≡ true)
    → AllByRecursion P xs → AllInRange (map f xs)
mapped_in P f [] each all = none_in
mapped_in P f (x ∷ xs) each all = more_in (f x) (map f xs) (each x all.0) (mapped_in P f xs each all.1)

-- each that is owed can be said
abbrev AllOwed : List Owed → Type 0
AllOwed xs = (x : Owed) → In x xs → is_message x.message ≡ true

owed_flat : {X : Type 0} (f : X → List Owed) (xs : List X) → ((x : X) → In x xs → AllOwed (f x))
    → AllOwed (flat_map f xs)
owed_flat f xs each y a = let b = from_flat f y xs a in each b.0 b.1 y b.2

owed_both : (xs ys : List Owed) → AllOwed xs → AllOwed ys → AllOwed (xs ++ ys)
owed_both xs ys a b y i = elim (in_both y xs ys i) [ inl c ↦ a y c | inr c ↦ b y c ]

module _ (h : Hierarchy) (tree : IsTree h) where
  object_in : (x : ℕ) → IsBetween 1 (object_count h) x → is_object x ≡ true
  object_in x within = between 1 MOST_OBJECTS x within.least
      (omega (arith, within.most, tree.lawful.domains.most, tree.lawful.devices.most))

  -- the station of an object
  object_home_there : (x : ℕ) → IsBetween 1 (object_count h) x → IsBetween 1 (station_count h) (object_home h x)
  object_home_there x within = by (nat_le x (domain_count h)) refl
    where
      above : (m n : ℕ) → nat_le m n ≡ false → n < m
      above m n f = grind (arith, nat_tests)

      by : (b : Bool) → nat_le x (domain_count h) ≡ b
          → IsBetween 1 (station_count h) (unwrap_or (option_and_then (station_of h) (if b then Some x
          else option_map (λ (row : DeviceRow). row.domain) (entry h.devices (x - domain_count h)))) 0)
      by true is = home_there h tree x (record { least = within.least; most = leb-true x (domain_count h) is })
      by false is =
          let less = above x (domain_count h) is in
          let r = row_there h.devices (x - domain_count h) (record {
            least = omega (arith, less);
            most = omega (arith, within.most, tree.lawful.devices.rows);
          }) in
          subst (IsBetween 1 (station_count h))
          (sym (ap (λ (o : Option DeviceRow). unwrap_or (option_and_then (station_of h)
          (option_map (λ (row : DeviceRow). row.domain) o)) 0) r.1))
          (home_there h tree r.0.domain (tree.lawful.devices.each (x - domain_count h) r.0 r.1).domain)

module _ (h : Hierarchy) (tree : IsTree h) (number : ℕ) (here : IsBetween 1 (station_count h) number) where
  -- What is said of states and of watching.

  shows_in : (to echo : ℕ) (s : Shown) → IsBetween 1 (station_count h) to → is_boot echo ≡ true → IsShown h s
      → is_message (shows h number to echo s) ≡ true
  shows_in to echo s there begun sound =
      message_in h tree number here to (body.State s.object echo s.version s.state) there
      (and_from _ _ (object_in h tree s.object sound.object)
      (and_from _ _ begun
      (and_from _ _ sound.version
      (between 1 MOST_STATES s.state sound.state.least (omega (arith, sound.state.most, tree.lawful.states))))))

  watches_in : (boot x : ℕ) → is_boot boot ≡ true → IsBetween 1 (object_count h) x
      → is_message (watches h number boot x) ≡ true
  watches_in boot x begun within =
      message_in h tree number here (object_home h x) (body.Watch x boot) (object_home_there h tree x within)
      (and_from _ _ (object_in h tree x within) begun)

  unwatches_in : (boot to x : ℕ) → is_boot boot ≡ true → IsBetween 1 (station_count h) to → is_object x ≡ true
      → is_message (unwatches h number boot to x) ≡ true
  unwatches_in boot to x begun there fits = message_in h tree number here to (body.Unwatch x boot) there
      (and_from _ _ fits begun)

  asks_in : (d : ℕ) → IsBetween 1 (domain_count h) d → is_message (asks_about h number d) ≡ true
  asks_in d within = message_in h tree number here (home h d) (body.Ask d) (home_there h tree d within)
      (domain_in h tree d within)

  -- A datagram comes.

  any_shown : (from echo : ℕ) → IsBetween 1 (station_count h) from → is_boot echo ≡ true → (o : Option Shown)
      → IfSome o (IsShown h) → AllInRange (map (shows h number from echo) (if_any o))
  any_shown from echo there begun None sound = none_in
  any_shown from echo there begun (Some s) sound = one_in (shows h number from echo s)
      (shows_in from echo s there begun sound)

  watched_in : (boot : ℕ) (s : Display) (from x echo : ℕ) → IsDisplay h number s → is_boot boot ≡ true
      → IsBetween 1 (station_count h) from → is_boot echo ≡ true
      → AllInRange (watch_comes h number boot s from x echo).sends
  watched_in boot s from x echo sound begun there since =
      choose (λ (n : Notice). AllInRange n.sends) (nat_lt echo (s.echoes from)) (unnoticed s)
      (noticed (record s {
        echoes = put s.echoes from echo;
        watchers = lists_after (lists_before s from echo) x from echo;
      }) (watch_answer h number boot s from x echo) [])
      (λ t. none_in) (λ f. answered)
    where
      answered : AllInRange (watch_answer h number boot s from x echo)
      answered = choose AllInRange (is_full (lists_before s from echo) x from) []
          (map (shows h number from echo) (if_any (shown_at boot s.conditions x))) (λ t. none_in)
          (λ f. any_shown from echo there since (shown_at boot s.conditions x)
          (display_shown h tree number boot s sound begun x))

  showed_in : (s : Display) (t : Shown) (a : Acceptance) → AllInRange (showed_if s t a).sends
  showed_in s t Accepted = none_in
  showed_in s t OtherBoot = none_in
  showed_in s t NotNewer = none_in

  state_in : (boot : ℕ) (s : Display) (from echo : ℕ) (t : Shown) → is_boot boot ≡ true
      → IsBetween 1 (station_count h) from → is_object t.object ≡ true
      → AllInRange (state_comes h number boot s from echo t).sends
  state_in boot s from echo t begun there fits =
      choose (λ (n : Notice). AllInRange n.sends) (not (echo == boot)) (unnoticed s)
      (if is_watched h number s t.object
      then showed_if s t (acceptance boot (s.shown t.object) echo t.version)
      else noticed s (unwatches h number boot from t.object ∷ []) [])
      (λ b. none_in)
      (λ f. choose (λ (n : Notice). AllInRange n.sends) (is_watched h number s t.object)
      (showed_if s t (acceptance boot (s.shown t.object) echo t.version))
      (noticed s (unwatches h number boot from t.object ∷ []) [])
      (λ b. showed_in s t (acceptance boot (s.shown t.object) echo t.version))
      (λ b. one_in (unwatches h number boot from t.object) (unwatches_in boot from t.object begun there fits)))

  body_noticed_in : (boot : ℕ) (s : Display) (from : ℕ) (b : Body) → IsDisplay h number s → is_boot boot ≡ true
      → IsBetween 1 (station_count h) from → is_body b ≡ true
      → AllInRange (body_noticed h number boot s from b).sends
  body_noticed_in boot s from (body.Ask d) sound begun there fits = none_in
  body_noticed_in boot s from (body.Take d who seen) sound begun there fits = none_in
  body_noticed_in boot s from (body.Drop d who e) sound begun there fits = none_in
  body_noticed_in boot s from (body.Run d who e n c) sound begun there fits = none_in
  body_noticed_in boot s from (body.Tell d r) sound begun there fits = none_in
  body_noticed_in boot s from (body.Watch x echo) sound begun there fits = watched_in boot s from x echo sound begun
      there (and_parts (is_object x) (is_boot echo) fits).1
  body_noticed_in boot s from (body.State x echo v state) sound begun there fits =
      state_in boot s from echo (told_state x v state) begun there (and_parts (is_object x) _ fits).0
  body_noticed_in boot s from (body.Unwatch x echo) sound begun there fits = none_in

  -- An operator orders.

  order_noticed_in : (boot : ℕ) (s : Display) (o : ℕ) (what : Order) → is_boot boot ≡ true → is_order_of h what ≡ true
      → AllInRange (order_noticed h number boot s o what).sends
  order_noticed_in boot s o (order.Take d) begun there = none_in
  order_noticed_in boot s o (order.Drop d) begun there = none_in
  order_noticed_in boot s o (order.Do d a) begun there = none_in
  order_noticed_in boot s o (order.Include d t) begun there = none_in
  order_noticed_in boot s o (order.Exclude d t) begun there = none_in
  order_noticed_in boot s o (order.Manual d t) begun there = none_in
  order_noticed_in boot s o (order.Ignore d t) begun there = none_in
  order_noticed_in boot s o (order.Ask d) begun there = one_in (asks_about h number d)
      (asks_in d (is_within 1 (domain_count h) d there))
  order_noticed_in boot s o (order.Watch x) begun there = one_in (watches h number boot x)
      (watches_in boot x begun (is_within 1 (domain_count h + device_count h) x there))
  order_noticed_in boot s o (order.Unwatch x) begun there =
      choose (λ (n : Notice). AllInRange n.sends) (is_child_unit h number x)
      (noticed s [] (answer o (order.Unwatch x) 0 ∷ []))
      (noticed (record s { named = put s.named x false }) (unwatches h number boot (object_home h x) x ∷ [])
      (answer o (order.Unwatch x) 0 ∷ []))
      (λ b. none_in)
      (λ b. let within = is_within 1 (domain_count h + device_count h) x there in
      one_in (unwatches h number boot (object_home h x) x)
      (unwatches_in boot (object_home h x) x begun (object_home_there h tree x within) (object_in h tree x within)))
  order_noticed_in boot s o (order.Report device state) begun there = none_in

  -- Time passes.

  due_told : (who : Holder) (d most : ℕ) (l : Link) → IsBetween 1 (domain_count h) d → is_party who ≡ true
      → IsLink h most l → (due : Due) → In due (all_due l) → is_message (requests h number who d due) ≡ true
  due_told who d most l within party sound due a =
      let c = from_chosen (due_of l) due (range_with_len 0 most_pending) a in
      request_at h tree number here who d due within party (due_in h most l c.0 due sound c.2)

  child_owed : (g : Grants) (x : ℕ) → IsSound h g → IsBetween 1 (domain_count h) x → (above : Option ℕ)
      → AllOwed (owed_to_child h number g x above)
  child_owed g x sound within None = λ y a. absurd a
  child_owed g x sound within (Some p) =
      choose AllOwed (is_keeper h number p)
      (map (λ due. owed (place.Child x) (requests h number (Domain p) x due)) (all_due (g.links (Domain p) x))) []
      (λ kept y a.
      let b = from_mapped (λ due. owed (place.Child x) (requests h number (Domain p) x due)) y
      (all_due (g.links (Domain p) x)) a in
      ap (λ (z : Owed). is_message z.message) b.2
      ∙ due_told (Domain p) x most_handed_on (g.links (Domain p) x) within
      (domain_party h tree p (kept_there h tree number p kept).0) (sound.child p x) b.0 b.1)
      (λ f y a. absurd a)

  domain_owed : (g : Grants) (o d : ℕ) → IsSound h g → In o (operators_of h number) → IsBetween 1 (domain_count h) d
      → AllOwed (owed_to_domain h number g o d)
  domain_owed g o d sound ours within y a =
      let b = from_mapped (λ due. owed (place.Link o d (number_of_due due)) (requests h number (Operator o) d due)) y
      (all_due (g.links (Operator o) d)) a in
      ap (λ (z : Owed). is_message z.message) b.2
      ∙ due_told (Operator o) d most_pending (g.links (Operator o) d) within
      (operator_there h tree number o
      (ap (λ z. is_number z number) (operator_ours h number o ours) ∙ number_self number)) (sound.own o d) b.0 b.1

  question_owed : (o : ℕ) (q : Option ℕ) → IfSome q (IsBetween 1 (domain_count h))
      → AllOwed (owed_question h number o q)
  question_owed o None within y a = absurd a
  question_owed o (Some d) within y (inl is) = ap (λ (z : Owed). is_message z.message) is ∙ asks_in d within
  question_owed o (Some d) within y (inr a) = absurd a

  watch_owed : (boot : ℕ) (s : Display) (x : ℕ) → is_boot boot ≡ true → IsBetween 1 (object_count h) x
      → AllOwed (owed_watch h number boot s x)
  watch_owed boot s x begun within =
      choose AllOwed (is_watched h number s x) (owed (place.Watch x) (watches h number boot x) ∷ []) []
      (λ t y a. elim a [
        | inl is ↦ ap (λ (z : Owed). is_message z.message) is ∙ watches_in boot x begun within
        | inr b ↦ absurd b
      ])
      (λ f y a. absurd a)

  number_in : (n count : ℕ) → In n (range_with_len 1 count) → IsBetween 1 count n
  number_in n count a = let b = from_range n 1 count a in let least = b.0 in let most = b.1 in
      record { least = least; most = omega (arith, most) }

  all_in : (g : Grants) (s : Display) → IsSound h g → IsDisplay h number s → is_boot g.boot ≡ true
      → AllOwed (all_owed h number g s)
  all_in g s grants sound begun =
      owed_both _ (flat_map (owed_watch h number g.boot s) (range_with_len 1 (domain_count h + device_count h)))
      (owed_both _ (flat_map (λ o. owed_question h number o (s.asks o)) (operators_of h number))
      (owed_both (flat_map (λ x. owed_to_child h number g x (parent_of h x)) (domains_of h))
      (flat_map (λ o. flat_map (owed_to_domain h number g o) (domains_of h)) (operators_of h number))
      (owed_flat (λ x. owed_to_child h number g x (parent_of h x)) (domains_of h)
      (λ x a. child_owed g x grants (number_in x (domain_count h) a) (parent_of h x)))
      (owed_flat (λ o. flat_map (owed_to_domain h number g o) (domains_of h)) (operators_of h number)
      (λ o ours. owed_flat (owed_to_domain h number g o) (domains_of h)
      (λ d a. domain_owed g o d grants ours (number_in d (domain_count h) a)))))
      (owed_flat (λ o. owed_question h number o (s.asks o)) (operators_of h number)
      (λ o ours. question_owed o (s.asks o) (sound.asks o))))
      (owed_flat (owed_watch h number g.boot s) (range_with_len 1 (domain_count h + device_count h))
      (λ x a. watch_owed g.boot s x begun (number_in x (domain_count h + device_count h) a)))

  tick_in : (g : Grants) (s : Display) → IsSound h g → IsDisplay h number s → is_boot g.boot ≡ true
      → AllInRange (tick_noticed h number g s).sends
  tick_in g s grants sound begun m a =
      let b = from_mapped (λ (x : Owed). x.message) m (owed_from s.place (all_owed h number g s)) a in
      ap is_message b.2
      ∙ all_in g s grants sound begun b.0
      (from_filtered (λ (x : Owed). not (is_before x.place s.place)) b.0 (all_owed h number g s)
      (from_taken most_sent b.0
      (filter (λ (x : Owed). not (is_before x.place s.place)) (all_owed h number g s)) b.1))

  -- Whatever comes and is not refused.

  notice_in : (g : Grants) (s : Display) (what : Happening) → IsSound h g → IsDisplay h number s → is_boot g.boot ≡ true
      → IsSayable what → refusal_of h number g what ≡ None → AllInRange (notice h number g s what).sends
  notice_in g s (Comes m) grants sound begun fits none =
      body_noticed_in g.boot s m.from m.body sound begun (sender_here h number m none) fits
  notice_in g s (Orders o what) grants sound begun fits none = by (is_order_here h number o what) refl none
    where
      by : (b : Bool) → is_order_here h number o what ≡ b
          → (if b then refusal_by_link h g o what else missing) ≡ None
          → AllInRange (order_noticed h number g.boot s o what).sends
      by true is i = order_noticed_in g.boot s o what begun
          (and_parts (is_number (operator_station_of h o) number) _ is).1
      by false is i = absurd cc
  notice_in g s (Reports device state) grants sound begun fits none = none_in
  notice_in g s Ticks grants sound begun fits none = tick_in g s grants sound begun

  -- what objects newly show is told to all their watchers
  shown_in_range : (watchers : List (List Watcher)) → ((x : ℕ) → AllByRecursion (IsWatcher h) (listed watchers x))
      → (passed : List Shown) → AllByRecursion (IsShown h) passed
      → AllInRange (flat_map (shown_to_all h number watchers) passed)
  shown_in_range watchers each passed all m a =
      let b = from_flat (shown_to_all h number watchers) m passed a in
      let sound = all_at (IsShown h) passed b.0 all b.1 in
      mapped_in (IsWatcher h) (λ (w : Watcher). shows h number w.station w.echo b.0) (listed watchers b.0.object)
      (λ w is. shows_in w.station w.echo b.0 is.station is.echo sound) (each b.0.object) m b.2

  passed_sound : (boot : ℕ) (old cs : ℕ → Option Condition) → Conditions h number cs → is_boot boot ≡ true
      → (o : Option ℕ) → AllByRecursion (IsShown h) (passed_in h boot old cs o)
  passed_sound boot old cs sound begun None = tt
  passed_sound boot old cs sound begun (Some d) =
      passed_all h tree number boot old cs sound begun (device_objects h d ++ d ∷ [])

  pub all_sends_in : (s : Station) (what : Happening) → IsSound h s.grants → IsDisplay h number s.display
      → MayChange s.display → is_boot s.grants.boot ≡ true → IsSayable what
      → AllInRange (after h number s what).out.datagrams
  all_sends_in s what grants sound room begun fits = by (refusal_of h number s.grants what) refl
    where
      next : Display
      next = (notice h number s.grants s.display what).display

      now : ℕ → Option Condition
      now = conditions_after h s (grant_step h number s.grants what).grants next what

      passed : List Shown
      passed = passed_in h s.grants.boot s.display.conditions now (domain_of_happening h what)

      by : (o : Option ℕ) → refusal_of h number s.grants what ≡ o
          → AllInRange (answered_or h number s what o).out.datagrams
      by (Some code) is = none_in
      by None is = λ m a.
          both_in _ (flat_map (shown_to_all h number next.watchers) passed)
          (both_in (grant_step h number s.grants what).sends (notice h number s.grants s.display what).sends
          (sends_in h tree number here s.grants what grants fits is)
          (notice_in s.grants s.display what grants sound begun fits is))
          (shown_in_range next.watchers (notice_sound h number s.display sound s.grants what fits is).watchers passed
          (passed_sound s.grants.boot s.display.conditions now
          (conditions_stay h tree number s (grant_step h number s.grants what).grants next what sound room is) begun
          (domain_of_happening h what))) m
          (from_taken most_sent m _ a)
