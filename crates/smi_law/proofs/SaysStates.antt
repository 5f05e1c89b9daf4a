-- What a step sends of states, watches and questions it may send.
use Rattle.std.proofs.Common.{ℕ, zero, suc, ◌≡◌, ◌≤◌, ◌<◌, ◌+◌, ◌-◌, Bool, true, false, List, [], ◌∷◌, inl, inr, refl}
use Rattle.std.proofs.Common.{sym, ap, ◌∙◌, subst, arith}
use Rattle.std.specs.Prelude.{◌==◌, ◌||◌, ◌++◌, nat_lt, max, not, Option, Some, None, option_map, length, map}
use Rattle.std.specs.Prelude.{slice_get, slice_set, unwrap_or, if◌then◌else◌}
use Rattle.std.specs.List.{flat_map, range_with_len}
use Rattle.std.proofs.lemmas.Bool.{eqb-true}
use Rattle.std.proofs.lemmas.Bool.Decides.{nat_tests}
use Rattle.smi_grant.specs.declared.Holder.TheVariants.{Operator, Domain}
use Rattle.smi_grant.specs.declared.Shown.{Shown}
use Rattle.smi_message.specs.Message.{Message}
use Rattle.smi_tree.specs.Hierarchy.{Hierarchy}
use Rattle.smi_tree.specs.Lawful.{IsTree}
use Rattle.smi_tree.specs.Lookups.{domain_count, device_count, operators_of, operator_station_of, parent_of}
use Rattle.smi_tree.specs.Lookups.{station_of}
use Rattle.smi_publish.specs.declared.condition.Condition.{Condition}
use Rattle.smi_publish.specs.Published.{shown, shown_at, change_at, differs}
use Rattle.smi_tree.specs.Roles.{is_kept_by, is_keeper, is_child_unit}
use Rattle.smi_grant.proofs.Holders.{either}
use Rattle.smi_view.specs.declared.Acceptance.{Acceptance}
use Rattle.smi_view.specs.declared.Acceptance.TheVariants.{Accepted, OtherBoot, NotNewer}
use Rattle.smi_view.specs.Accepting.{acceptance}
use Rattle.smi_watchers.specs.declared.Watcher.{Watcher}
use Rattle.smi_watchers.specs.Watching.{watcher, is_of, watch_in, listed, with_list, watched, left_by}
use Rattle.smi_protocol.specs.Display.{Display, Station}
use Rattle.smi_protocol.specs.Grants.{Grants, put}
use Rattle.smi_protocol.specs.Happening.{answer}
use Rattle.smi_protocol.specs.Messages.{asks_about, if_any, object_home, requests, all_due, shows, unwatches, watches}
use Rattle.smi_protocol.specs.Opening.{object_count}
use Rattle.smi_protocol.specs.Sending.{MaySend}
use Rattle.smi_protocol.specs.Showing.{passed_in, shown_to_all}
use Rattle.smi_protocol.specs.Ticking.{Owed, owed, number_of_due, most_sent, is_before, domains_of, owed_to_child}
use Rattle.smi_protocol.specs.Ticking.{owed_to_domain, owed_question, owed_watch, all_owed, owed_from}
use Rattle.smi_protocol.specs.Watching.{unnoticed, noticed, is_watched, lists_before, is_full}
use Rattle.smi_protocol.specs.Watching.{lists_after, watch_answer, watch_comes, showed_if, state_comes, order_noticed}
use Rattle.smi_protocol.specs.declared.Order.{Order}
use Rattle.smi_protocol.specs.declared.Order.TheVariants as order
use Rattle.smi_protocol.specs.declared.ResendCursor.TheVariants as place
use Rattle.smi_law.proofs.Conditions.{objects_of}
use Rattle.smi_law.proofs.GrantKinds.{put_here}
use Rattle.smi_law.proofs.Lists.{In, in_both, from_mapped, from_chosen, from_flat, from_taken, from_kept, place_of}
use Rattle.smi_law.proofs.SaysGrants.{due_says, operator_ours, number_some}
use Rattle.smi_protocol.proofs.KeptObjects.{kept_within}
use Rattle.smi_protocol.specs.Tidy.{IsTidy}
use Rattle.smi_law.proofs.Tidy.{length_before}
use Rattle.smi_law.proofs.Versions.{Somewhere, from_left}

-- A watch reaches its list.

max_is : (m n : ℕ) → m ≤ n → max m n ≡ n
max_is m n l = grind (arith, l)

in_watch : (ws : List Watcher) (from echo : ℕ) → ((w : Watcher) → In w ws → w.station ≡ from → w.echo ≤ echo)
    → In (watcher from echo) (watch_in ws from echo)
in_watch [] from echo below = inl refl
in_watch (w ∷ ws) from echo below = elim (either (is_of from w)) [
  | inl t ↦
      let i : w.station ≡ from = eqb-true w.station from t in
      let j : max w.echo echo ≡ echo = max_is w.echo echo (below w (inl refl) i) in
      rw t (inl (ap (λ z. watcher z echo) (sym i) ∙ ap (watcher w.station) (sym j)))
  | inr f ↦ rw f (inr (in_watch ws from echo (λ v a. below v (inr a))))
]

set_here : (lists : List (List Watcher)) (i : ℕ) (ws : List Watcher) → i < length lists
    → slice_get (slice_set lists i ws) i ≡ Some ws
set_here [] i ws less = absurd (omega (arith, less))
set_here (l ∷ lists) zero ws less = refl
set_here (l ∷ lists) (suc i) ws less = set_here lists i ws (omega (arith, less))

-- with that list in its place the watcher is listed
listed_here : (lists : List (List Watcher)) (x : ℕ) (ws : List Watcher) → 1 ≤ x → x < 1 + length lists
    → listed (with_list lists x ws) x ≡ ws
listed_here lists x ws least most = ap (λ o. unwrap_or o []) (set_here lists (x - 1) ws (omega (arith, least, most)))

-- the new station: its boot, what it watches, and who watches it, are those of the notice
pub record Heir (s : Station) (boot : ℕ) (d : Display) : Type 0 where
  pub boot_ : s.grants.boot ≡ boot
  pub named : s.display.named ≡ d.named
  pub watchers : s.display.watchers ≡ d.watchers

module _ (h : Hierarchy) (number boot : ℕ) (old : Display) (s : Station) where
  abbrev AllMay : List Message → Type 0
  AllMay ms = (m : Message) → In m ms → MaySend h number s m

  one_may : (k : Message) → MaySend h number s k → AllMay (k ∷ [])
  one_may k may m (inl is) = subst (MaySend h number s) (sym is) may
  one_may k may m (inr a) = absurd a

  none_may : AllMay []
  none_may m a = absurd a

  watched_same : (d : Display) → Heir s boot d → (x : ℕ) → is_watched h number s.display x ≡ is_watched h number d x
  watched_same d heir x = ap (λ (z : ℕ → Bool). z x || is_child_unit h number x) heir.named

  watch_may : (d : Display) → Heir s boot d → (x : ℕ) → is_watched h number d x ≡ true
      → MaySend h number s (watches h number boot x)
  watch_may d heir x is = (refl, refl, (refl, watched_same d heir x ∙ is, sym heir.boot_))

  unwatch_may : (d : Display) → Heir s boot d → (to x : ℕ) → is_watched h number d x ≡ false
      → MaySend h number s (unwatches h number boot to x)
  unwatch_may d heir to x is = (refl, refl, (watched_same d heir x ∙ is, sym heir.boot_))

  state_may : (to echo : ℕ) (v : Shown) → shown_at s.grants.boot s.display.conditions v.object ≡ Some v
      → In (watcher to echo) (listed s.display.watchers v.object) → MaySend h number s (shows h number to echo v)
  state_may to echo v is a = (refl, refl, (is, place_of (watcher to echo) (listed s.display.watchers v.object) a))

  -- A watch is answered.

  named_at : (conditions : ℕ → Option Condition) (x : ℕ) (v : Shown) → shown_at boot conditions x ≡ Some v
      → v.object ≡ x
  named_at conditions x v is = by (conditions x) is
    where
      by : (o : Option Condition) → option_map (shown boot x) o ≡ Some v → v.object ≡ x
      by None i = absurd cc
      by (Some c) i = let j : shown boot x c ≡ v = cc in ap (λ (z : Shown). z.object) (sym j)

  module _ (tree : IsTree h) (tidy : IsTidy h old) where
    abbrev Lists : ℕ → ℕ → ℕ → List (List Watcher)
    Lists from x echo = lists_after (lists_before old from echo) x from echo

    below : (from echo x : ℕ) → nat_lt echo (old.echoes from) ≡ false → (w : Watcher)
        → In w (listed (lists_before old from echo) x) → w.station ≡ from → w.echo ≤ echo
    below from echo x f w a i = by (nat_lt (old.echoes from) echo) a
      where
        not_less : (m n : ℕ) → nat_lt m n ≡ false → n ≤ m
        not_less m n g = grind (arith, nat_tests)

        greatest : Somewhere w old.watchers → w.echo ≤ echo
        greatest b =
            let c = tidy.greatest b.0 w.station w.echo b.1 in
            let d = not_less echo (old.echoes from) f in
            let e : old.echoes w.station ≡ old.echoes from = ap old.echoes i in
            omega (arith, c, d, e)

        by : (b : Bool) → In w (listed (if b then left_by from old.watchers else old.watchers) x) → w.echo ≤ echo
        by true c = greatest (x, from_left from old.watchers (x - 1) w c)
        by false c = greatest (x, c)

    answer_may : (from x echo : ℕ) → is_kept_by h number x ≡ true → nat_lt echo (old.echoes from) ≡ false
        → s.grants.boot ≡ boot → s.display.watchers ≡ Lists from x echo → s.display.conditions ≡ old.conditions
        → AllMay (watch_answer h number boot old from x echo)
    answer_may from x echo kept newer boots lists conditions = by (is_full (lists_before old from echo) x from) refl
      where
        within : (1 ≤ x) × (x < 1 + object_count h)
        within = kept_within h tree number x kept

        in_list : is_full (lists_before old from echo) x from ≡ false
            → In (watcher from echo) (listed s.display.watchers x)
        in_list f =
            let least = within.0 in
            let most = within.1 in
            let all = length_before old from echo ∙ tidy.lists in
            subst (λ z. In (watcher from echo) (listed z x))
            (sym (lists ∙ ap (λ b. if b then lists_before old from echo
            else watched (lists_before old from echo) x from echo) f))
            (subst (In (watcher from echo))
            (sym (listed_here (lists_before old from echo) x
            (watch_in (listed (lists_before old from echo) x) from echo) least (omega (arith, most, all))))
            (in_watch (listed (lists_before old from echo) x) from echo (below from echo x newer)))

        told : In (watcher from echo) (listed s.display.watchers x) → (o : Option Shown)
            → shown_at boot old.conditions x ≡ o → AllMay (map (shows h number from echo) (if_any o))
        told a None is = none_may
        told a (Some v) is =
            let named = named_at old.conditions x v is in
            one_may (shows h number from echo v)
            (state_may from echo v (ap (λ b. shown_at b s.display.conditions v.object) boots
            ∙ ap (λ (z : ℕ → Option Condition). shown_at boot z v.object) conditions
            ∙ ap (shown_at boot old.conditions) named ∙ is)
            (subst (λ z. In (watcher from echo) (listed s.display.watchers z)) (sym named) a))

        by : (b : Bool) → is_full (lists_before old from echo) x from ≡ b
            → AllMay (if b then [] else map (shows h number from echo) (if_any (shown_at boot old.conditions x)))
        by true f = none_may
        by false f = told (in_list f) (shown_at boot old.conditions x) refl

    pub watch_says : (from x echo : ℕ) → is_kept_by h number x ≡ true
        → Heir s boot (watch_comes h number boot old from x echo).display → s.display.conditions ≡ old.conditions
        → AllMay (watch_comes h number boot old from x echo).sends
    watch_says from x echo kept heir conditions = by (nat_lt echo (old.echoes from)) refl heir
      where
        by : (b : Bool) → nat_lt echo (old.echoes from) ≡ b
            → Heir s boot (if b then unnoticed old else noticed
            (record old { echoes = put old.echoes from echo; watchers = Lists from x echo })
            (watch_answer h number boot old from x echo) []).display
            → AllMay (if b then unnoticed old else noticed
            (record old { echoes = put old.echoes from echo; watchers = Lists from x echo })
            (watch_answer h number boot old from x echo) []).sends
        by true f heir' = none_may
        by false f heir' = answer_may from x echo kept f heir'.boot_ heir'.watchers conditions

  -- A state comes, and orders.

  showed_says : (v : Shown) (a : Acceptance) → AllMay (showed_if old v a).sends
  showed_says v Accepted = none_may
  showed_says v OtherBoot = none_may
  showed_says v NotNewer = none_may

  pub state_says : (from echo : ℕ) (v : Shown) → Heir s boot (state_comes h number boot old from echo v).display
      → AllMay (state_comes h number boot old from echo v).sends
  state_says from echo v heir = by (not (echo == boot)) heir
    where
      inner : (b : Bool) → is_watched h number old v.object ≡ b
          → Heir s boot (if b then showed_if old v (acceptance boot (old.shown v.object) echo v.version)
          else noticed old (unwatches h number boot from v.object ∷ []) []).display
          → AllMay (if b then showed_if old v (acceptance boot (old.shown v.object) echo v.version)
          else noticed old (unwatches h number boot from v.object ∷ []) []).sends
      inner true is heir' = showed_says v (acceptance boot (old.shown v.object) echo v.version)
      inner false is heir' = one_may (unwatches h number boot from v.object) (unwatch_may old heir' from v.object is)

      by : (b : Bool)
          → Heir s boot (if b then unnoticed old else
          (if is_watched h number old v.object then showed_if old v
          (acceptance boot (old.shown v.object) echo v.version)
          else noticed old (unwatches h number boot from v.object ∷ []) [])).display
          → AllMay (if b then unnoticed old else (if is_watched h number old v.object
          then showed_if old v (acceptance boot (old.shown v.object) echo v.version)
          else noticed old (unwatches h number boot from v.object ∷ []) [])).sends
      by true heir' = none_may
      by false heir' = inner (is_watched h number old v.object) refl heir'

  unwatched_now : (x : ℕ) → is_child_unit h number x ≡ false
      → is_watched h number (record old { named = put old.named x false }) x ≡ false
  unwatched_now x none = ap (λ z. z || is_child_unit h number x) (put_here old.named x false) ∙ none

  watched_now : (x : ℕ) → is_watched h number (record old { named = put old.named x true }) x ≡ true
  watched_now x = ap (λ z. z || is_child_unit h number x) (put_here old.named x true)

  pub order_says : (o : ℕ) (what : Order) → Heir s boot (order_noticed h number boot old o what).display
      → AllMay (order_noticed h number boot old o what).sends
  order_says o (order.Ask d) heir = one_may (asks_about h number d) (refl, refl, refl)
  order_says o (order.Watch x) heir = one_may (watches h number boot x)
      (watch_may (record old { named = put old.named x true }) heir x (watched_now x))
  order_says o (order.Unwatch x) heir = by (is_child_unit h number x) refl heir
    where
      by : (b : Bool) → is_child_unit h number x ≡ b
          → Heir s boot (if b then noticed old [] (answer o (order.Unwatch x) 0 ∷ [])
          else noticed (record old { named = put old.named x false })
          (unwatches h number boot (object_home h x) x ∷ []) (answer o (order.Unwatch x) 0 ∷ [])).display
          → AllMay (if b then noticed old [] (answer o (order.Unwatch x) 0 ∷ [])
          else noticed (record old { named = put old.named x false })
          (unwatches h number boot (object_home h x) x ∷ []) (answer o (order.Unwatch x) 0 ∷ [])).sends
      by true is heir' = none_may
      by false is heir' = one_may (unwatches h number boot (object_home h x) x)
          (unwatch_may (record old { named = put old.named x false }) heir' (object_home h x) x (unwatched_now x is))
  order_says o (order.Take d) heir = none_may
  order_says o (order.Drop d) heir = none_may
  order_says o (order.Do d a) heir = none_may
  order_says o (order.Include d t) heir = none_may
  order_says o (order.Exclude d t) heir = none_may
  order_says o (order.Manual d t) heir = none_may
  order_says o (order.Ignore d t) heir = none_may
  order_says o (order.Report device state) heir = none_may

  -- Time passes.

  module _ (g : Grants) (same : s.grants ≡ g) (heir : Heir s boot old) where
    abbrev Due : List Owed → Type 0
    Due xs = (x : Owed) → In x xs → MaySend h number s x.message

    child_due : (x : ℕ) (o : Option ℕ) → Due (owed_to_child h number g x o)
    child_due x None y a = absurd a
    child_due x (Some p) y a = by (is_keeper h number p) refl a
      where
        by : (b : Bool) → is_keeper h number p ≡ b
            → In y (if b then map (λ due. owed (place.Child x) (requests h number (Domain p) x due))
            (all_due (g.links (Domain p) x)) else []) → MaySend h number s y.message
        by true is b =
            let c = from_mapped (λ due. owed (place.Child x) (requests h number (Domain p) x due)) y
            (all_due (g.links (Domain p) x)) b in
            subst (λ (z : Owed). MaySend h number s z.message) (sym c.2)
            (due_says h number g (Domain p) x (g.links (Domain p) x) (number_some (station_of h p) number is) refl
            c.0 c.1 s same)
        by false is b = absurd b

    domain_due : (o d : ℕ) → operator_station_of h o ≡ Some number → Due (owed_to_domain h number g o d)
    domain_due o d ours y a =
        let c = from_mapped (λ due. owed (place.Link o d (number_of_due due)) (requests h number (Operator o) d due))
        y (all_due (g.links (Operator o) d)) a in
        subst (λ (z : Owed). MaySend h number s z.message) (sym c.2)
        (due_says h number g (Operator o) d (g.links (Operator o) d) ours refl c.0 c.1 s same)

    question_due : (o : ℕ) (asked : Option ℕ) → Due (owed_question h number o asked)
    question_due o None y a = absurd a
    question_due o (Some d) y (inl is) = subst (λ (z : Owed). MaySend h number s z.message) (sym is) (refl, refl, refl)
    question_due o (Some d) y (inr a) = absurd a

    watch_due : (x : ℕ) → Due (owed_watch h number boot old x)
    watch_due x y a = by (is_watched h number old x) refl a
      where
        by : (b : Bool) → is_watched h number old x ≡ b
            → In y (if b then owed (place.Watch x) (watches h number boot x) ∷ [] else [])
            → MaySend h number s y.message
        by true is (inl it) = subst (λ (z : Owed). MaySend h number s z.message) (sym it) (watch_may old heir x is)
        by true is (inr b) = absurd b
        by false is b = absurd b

    both_due : (xs ys : List Owed) → Due xs → Due ys → Due (xs ++ ys)
    both_due xs ys a b y c = elim (in_both y xs ys c) [ inl d ↦ a y d | inr d ↦ b y d ]

    flat_due : (f : ℕ → List Owed) (xs : List ℕ) → ((x : ℕ) → In x xs → Due (f x)) → Due (flat_map f xs)
    flat_due f xs each y a = let b = from_flat f y xs a in each b.0 b.1 y b.2

    all_may : Due (all_owed h number (record g { boot = boot }) old)
    all_may =
        both_due _ _
        (both_due _ _
        (both_due _ _
        (flat_due (λ x. owed_to_child h number g x (parent_of h x)) (domains_of h) (λ x a. child_due x (parent_of h x)))
        (flat_due (λ o. flat_map (owed_to_domain h number g o) (domains_of h)) (operators_of h number)
        (λ o a. flat_due (owed_to_domain h number g o) (domains_of h)
        (λ d b. domain_due o d (operator_ours h number o a)))))
        (flat_due (λ o. owed_question h number o (old.asks o)) (operators_of h number)
        (λ o a. question_due o (old.asks o))))
        (flat_due (owed_watch h number boot old) (range_with_len 1 (domain_count h + device_count h))
        (λ x a. watch_due x))

    pub tick_says
        : AllMay (map (λ (x : Owed). x.message) (owed_from old.place
        (all_owed h number (record g { boot = boot }) old)))
    tick_says m a =
        let b = from_mapped (λ (x : Owed). x.message) m
        (owed_from old.place (all_owed h number (record g { boot = boot }) old)) a in
        let c = from_kept (λ x. not (is_before x.place old.place)) b.0
        (all_owed h number (record g { boot = boot }) old) (from_taken b.0 most_sent _ b.1) in
        subst (MaySend h number s) (sym b.2) (all_may b.0 c)

  -- What is passed on is shown.

  passed_shown : (before now : ℕ → Option Condition) (domain : Option ℕ) (v : Shown)
      → In v (passed_in h boot before now domain) → shown_at boot now v.object ≡ Some v
  passed_shown before now None v a = absurd a
  passed_shown before now (Some d) v a =
      let b = from_chosen (change_at boot before now) v (objects_of h d) a in
      by b.0 (differs (before b.0) (now b.0)) b.2
    where
      by : (x : ℕ) (t : Bool) → (if t then shown_at boot now x else None) ≡ Some v → shown_at boot now v.object ≡ Some v
      by x true is = ap (shown_at boot now) (named_at now x v is) ∙ is
      by x false is = absurd cc

  pub shown_says : (d : Display) → Heir s boot d → (before : ℕ → Option Condition) (domain : Option ℕ)
      → AllMay (flat_map (shown_to_all h number d.watchers) (passed_in h boot before s.display.conditions domain))
  shown_says d heir before domain m a =
      let b = from_flat (shown_to_all h number d.watchers) m (passed_in h boot before s.display.conditions domain) a in
      let c = from_mapped (λ (w : Watcher). shows h number w.station w.echo b.0) m (listed d.watchers b.0.object) b.2 in
      subst (MaySend h number s) (sym c.2)
      (state_may c.0.station c.0.echo b.0 (ap (λ z. shown_at z s.display.conditions b.0.object) heir.boot_
      ∙ passed_shown before s.display.conditions domain b.0 b.1)
      (subst (λ z. In (watcher c.0.station c.0.echo) (listed z b.0.object)) (sym heir.watchers) c.1))
