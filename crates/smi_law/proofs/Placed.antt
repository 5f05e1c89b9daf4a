-- A link that is not as at the beginning is that of a holder of the tree, to a domain of the tree, at the holder's
-- station.
use Rattle.std.proofs.Common.{ℕ, ◌≡◌, Bool, true, false, List, [], ◌∷◌, inl, inr, refl, sym, ap, ◌∙◌, subst, arith}
use Rattle.std.specs.Prelude.{◌&&◌, if◌then◌else◌, map, Option, Some, None, Result, Ok, Err}
use Rattle.std.proofs.lemmas.Bool.{and_from, and_parts, le-leb}
use Rattle.smi_grant.specs.declared.Command.{Command}
use Rattle.smi_grant.specs.declared.Command.TheVariants.{Do, Include, Exclude, Manual, Ignore}
use Rattle.smi_grant.specs.declared.Holder.{Holder}
use Rattle.smi_grant.specs.declared.Holder.TheVariants.{Free, Operator, Domain}
use Rattle.smi_grant.specs.declared.Verdict.{Verdict}
use Rattle.smi_grant.specs.declared.Verdict.TheVariants.{New, Same}
use Rattle.smi_grant.specs.Holder.{same_holder}
use Rattle.smi_grant.specs.Keeper.{admits, take_after, drop_after}
use Rattle.smi_grant.specs.Record.{Standing}
use Rattle.smi_message.specs.declared.Body.{Body}
use Rattle.smi_message.specs.declared.Body.TheVariants as body
use Rattle.smi_tree.specs.Hierarchy.{Hierarchy}
use Rattle.smi_tree.specs.Lawful.{IsTree}
use Rattle.smi_tree.specs.Lookups.{domain_count, operator_count, operator_station_of, operators_of, parent_of}
use Rattle.smi_command.specs.declared.Link.{Link}
use Rattle.smi_command.specs.declared.Link.TheVariants.{Out}
use Rattle.smi_command.specs.Hearing.{told_link}
use Rattle.smi_command.specs.Link.{is_unsettled}
use Rattle.smi_command.specs.Order.{take_begun, drop_begun, command_issued}
use Rattle.smi_command.proofs.Heard.{choose}
use Rattle.smi_grant.proofs.Holders.{either, same_is}
use Rattle.smi_tree.specs.Roles.{has_domain, holder_station, is_holder_of, is_keeper, is_number, is_parent}
use Rattle.smi_protocol.specs.Children.{change_of, link_after}
use Rattle.smi_protocol.specs.Display.{Station}
use Rattle.smi_protocol.specs.Grants.{Grants, put_link}
use Rattle.smi_protocol.specs.GrantsOf.{datagram_comes, grant_step}
use Rattle.smi_protocol.specs.Happening.{Happening, Comes, Orders, Reports, Ticks}
use Rattle.smi_protocol.specs.Hearing.{ended, ends, hears, listener, listeners, parent_heard, parent_here, told_to}
use Rattle.smi_protocol.specs.Keeping.{decided, run_comes}
use Rattle.smi_protocol.specs.Opening.{opened, saved_only}
use Rattle.smi_protocol.specs.Ordering.{obeyed, order_comes}
use Rattle.smi_protocol.specs.Refusals.{is_body_of, is_order_here, is_order_of, refusal_by_link, refusal_of}
use Rattle.smi_protocol.specs.Sound.{In}
use Rattle.smi_protocol.specs.Step.{answered_or, after as after_happening}
use Rattle.smi_protocol.specs.declared.Entry.{Entry}
use Rattle.smi_protocol.specs.declared.Order.{Order}
use Rattle.smi_protocol.specs.declared.Order.TheVariants as order
use Rattle.smi_protocol.proofs.Lists.{in_both, from_mapped}
use Rattle.smi_protocol.proofs.Ranges.{between, child_there, kept_there, number_within}
use Rattle.smi_protocol.proofs.SoundSteps.{body_here, found, listening_parent}
use Rattle.smi_protocol.proofs.Tables.{at_put, at_put_link, number_is, number_self, operator_ours}
use Rattle.smi_protocol.specs.Schedule.{World}
use Rattle.smi_law.specs.World.{with_station, Step, sends, steps, stops, tells, halts, starts, Reaches, opens}
use Rattle.smi_law.specs.World.{goes_on}

-- the tree has the domain, the holder may hold it, and the holder's station is this one
abbrev pub has_place : Hierarchy → ℕ → ℕ → Holder → Bool
has_place h number d who = has_domain h d && (is_holder_of h d who && is_number (holder_station h who) number)

-- a holder at the station has a place
operator_placed : (h : Hierarchy) → IsTree h → (number o d : ℕ) → is_number (operator_station_of h o) number ≡ true
    → has_domain h d ≡ true → has_place h number d (Operator o) ≡ true
operator_placed h tree number o d here there =
    let within = number_within h.homes o number (number_is (operator_station_of h o) number here) in
    and_from _ _ there (and_from _ _
    (le-leb o (operator_count h) (omega (arith, within.most, tree.lawful.operators.rows))) here)

child_placed : (h : Hierarchy) → IsTree h → (number p d : ℕ) → is_keeper h number p ≡ true → is_parent h d p ≡ true
    → has_place h number d (Domain p) ≡ true
child_placed h tree number p d here child =
    let within = (child_there h tree d p child).0 in
    and_from _ _ (between 1 (domain_count h) d within.least within.most) (and_from _ _ child here)

-- each holder that listens at a station is there
pub listening_operator : (h : Hierarchy) (number d o : ℕ) → In (Operator o) (listeners h number d)
    → is_number (operator_station_of h o) number ≡ true
listening_operator h number d o a =
    elim (in_both (Operator o) (map Operator (operators_of h number)) (parent_here h number (parent_of h d)) a) [
      | inl b ↦
          let c = from_mapped Operator (Operator o) (operators_of h number) b in
          let same : o ≡ c.0 = (let e : Operator o ≡ Operator c.0 = c.2 in cc) in
          ap (λ z. is_number (operator_station_of h z) number) same
          ∙ ap (λ z. is_number z number) (operator_ours h number c.0 c.1) ∙ number_self number
      | inr b ↦ absurd (above (parent_of h d) b)
    ]
  where
    above : (q : Option ℕ) → In (Operator o) (parent_here h number q) → ⊥
    above None b = b
    above (Some q) b = kept (is_keeper h number q) b
      where
        kept : (k : Bool) → In (Operator o) (if k then Domain q ∷ [] else []) → ⊥
        kept true (inl i) = cc
        kept true (inr i) = i
        kept false i = i

pub listening_domain : (h : Hierarchy) (number d p : ℕ) → In (Domain p) (listeners h number d)
    → is_keeper h number p ≡ true
listening_domain h number d p a =
    elim (in_both (Domain p) (map Operator (operators_of h number)) (parent_here h number (parent_of h d)) a) [
      | inl b ↦ let c = from_mapped Operator (Domain p) (operators_of h number) b in
          absurd (let wrong : Domain p ≡ Operator c.0 = c.2 in cc)
      | inr b ↦ above (parent_of h d) b
    ]
  where
    above : (o : Option ℕ) → In (Domain p) (parent_here h number o) → is_keeper h number p ≡ true
    above None b = absurd b
    above (Some q) b = kept (is_keeper h number q) refl b
      where
        kept : (k : Bool) → is_keeper h number q ≡ k → In (Domain p) (if k then Domain q ∷ [] else [])
            → is_keeper h number p ≡ true
        kept true is (inl i) = let same : p ≡ q = cc in ap (is_keeper h number) same ∙ is
        kept true is (inr i) = absurd i
        kept false is i = absurd i

module _ (h : Hierarchy) (tree : IsTree h) (number : ℕ) (g : Grants) (me : Holder) (d : ℕ)
    (never : has_place h number d me ≡ false) where
  -- another link, of one who has a place, is not this one
  other_link : (who : Holder) (x : ℕ) (l : Link) → has_place h number x who ≡ true
      → put_link g.links who x l me d ≡ g.links me d
  other_link who x l may =
      at_put_link (λ z. z ≡ g.links me d) g.links who x l me d
      (λ i j. absurd (let wrong : true ≡ false = sym may ∙ ap (λ z. has_place h number z who) (sym i)
      ∙ ap (has_place h number d) (sym j) ∙ never in cc))
      refl

  ended_same : (b : Bool) (on : Grants) (p : ℕ) → (ended b on p).links me d ≡ on.links me d
  ended_same true on p = refl
  ended_same false on p = refl

  decided_same : (from x : ℕ) (note : Entry) (v : Verdict)
      → (decided h number g from x note v).grants.links me d ≡ g.links me d
  decided_same from x note (New r) = refl
  decided_same from x note Same = refl

  run_same : (from x : ℕ) (who : Holder) (e n : ℕ) (c : Command) → is_keeper h number x ≡ true
      → (run_comes h number g from x who e n c).grants.links me d ≡ g.links me d
  run_same from x who e n c here = elim (either (admits (g.records x) who e n)) [
    | inl t ↦ rw t (choose (λ z. z ≡ g.links me d) (is_parent h d x && same_holder me (Domain x))
        (link_after (change_of h g x c d) (g.links (Domain x) d)) (g.links me d)
        (λ u.
        let a = and_parts (is_parent h d x) _ u in
        absurd (let wrong : true ≡ false = sym (child_placed h tree number x d here a.0)
        ∙ ap (has_place h number d) (sym (same_is me (Domain x) a.1)) ∙ never in cc))
        (λ f. refl))
    | inr f ↦ rw f refl
  ]

  told_same : (x : ℕ) (r : Standing) → has_domain h x ≡ true → (o : Option Holder)
      → ((who : Holder) → o ≡ Some who → In who (listeners h number x) × (hears (g.links who x) who r ≡ true))
      → (told_to h number g x r o).grants.links me d ≡ g.links me d
  told_same x r there None heard = refl
  told_same x r there (Some Free) heard = refl
  told_same x r there (Some (Operator o)) heard =
      other_link (Operator o) x (told_link (g.links (Operator o) x) (Operator o) r)
      (operator_placed h tree number o x (listening_operator h number x o (heard (Operator o) refl).0) there)
  told_same x r there (Some (Domain p)) heard =
      let on = parent_heard g p x r in
      let at = (heard (Domain p) refl).0 in
      ended_same (ends h on p) on p ∙ other_link (Domain p) x (told_link (g.links (Domain p) x) (Domain p) r)
      (child_placed h tree number p x (listening_domain h number x p at) (listening_parent h number x p at))

  body_same : (from : ℕ) (b : Body) → is_body_of h from number b ≡ true
      → (datagram_comes h number g from b).grants.links me d ≡ g.links me d
  body_same from (body.Ask x) here = refl
  body_same from (body.Take x who s) here = decided_same from x _ (take_after (g.records x) who s)
  body_same from (body.Drop x who e) here = decided_same from x _ (drop_after (g.records x) who e)
  body_same from (body.Run x who e n c) here =
      run_same from x who e n c (and_parts (is_keeper h number x) _ here).0
  body_same from (body.Tell x r) here =
      let within = (kept_there h tree from x (and_parts (is_keeper h from x) _ here).0).0 in
      told_same x r (between 1 (domain_count h) x within.least within.most) (listener h number g x r)
      (λ who is. found (λ who. hears (g.links who x) who r) (listeners h number x) who is)
  body_same from (body.Watch x echo) here = refl
  body_same from (body.State x echo v s) here = refl
  body_same from (body.Unwatch x echo) here = refl

  obeyed_same : (o x : ℕ) (c : Option Command) (res : Result Link ℕ)
      → is_number (operator_station_of h o) number ≡ true → has_domain h x ≡ true
      → (obeyed h number g o x c res).grants.links me d ≡ g.links me d
  obeyed_same o x c (Ok l) here there = other_link (Operator o) x l (operator_placed h tree number o x here there)
  obeyed_same o x c (Err code) here there = refl

  order_same : (o : ℕ) (what : Order) → is_number (operator_station_of h o) number ≡ true → is_order_of h what ≡ true
      → (order_comes h number g o what).grants.links me d ≡ g.links me d
  order_same o (order.Take x) here there = obeyed_same o x None (take_begun (g.links (Operator o) x)) here there
  order_same o (order.Drop x) here there = obeyed_same o x None (drop_begun (g.links (Operator o) x)) here there
  order_same o (order.Do x a) here there =
      obeyed_same o x (Some (Do a)) (command_issued (g.links (Operator o) x) (Do a)) here
      (and_parts (has_domain h x) _ there).0
  order_same o (order.Include x t) here there =
      obeyed_same o x (Some (Include t)) (command_issued (g.links (Operator o) x) (Include t)) here
      (and_parts (has_domain h x) _ there).0
  order_same o (order.Exclude x t) here there =
      obeyed_same o x (Some (Exclude t)) (command_issued (g.links (Operator o) x) (Exclude t)) here
      (and_parts (has_domain h x) _ there).0
  order_same o (order.Manual x t) here there =
      obeyed_same o x (Some (Manual t)) (command_issued (g.links (Operator o) x) (Manual t)) here
      (and_parts (has_domain h x) _ there).0
  order_same o (order.Ignore x t) here there =
      obeyed_same o x (Some (Ignore t)) (command_issued (g.links (Operator o) x) (Ignore t)) here
      (and_parts (has_domain h x) _ there).0
  order_same o (order.Ask x) here there = refl
  order_same o (order.Watch x) here there = refl
  order_same o (order.Unwatch x) here there = refl
  order_same o (order.Report device s) here there = refl

  grants_same : (what : Happening) → refusal_of h number g what ≡ None
      → (grant_step h number g what).grants.links me d ≡ g.links me d
  grants_same (Comes m) none = body_same m.from m.body (body_here h number m none)
  grants_same (Orders o what) none = by (is_order_here h number o what) refl none
    where
      by : (b : Bool) → is_order_here h number o what ≡ b
          → (if b then refusal_by_link h g o what else Some 26) ≡ None
          → (order_comes h number g o what).grants.links me d ≡ g.links me d
      by true is i = let a = and_parts (is_number (operator_station_of h o) number) _ is in order_same o what a.0 a.1
      by false is i = absurd cc
  grants_same (Reports device s) none = refl
  grants_same Ticks none = refl

-- In the world.

abbrev pub Placed : Hierarchy → World → Type 0
Placed h w = (number : ℕ) (me : Holder) (d : ℕ) → has_place h number d me ≡ false
    → (w.stations number).grants.links me d ≡ Out 0

step_same : (h : Hierarchy) → IsTree h → (w : World) (number : ℕ) (what : Happening) (o : Option ℕ)
    → refusal_of h number (w.stations number).grants what ≡ o → (me : Holder) (d : ℕ)
    → has_place h number d me ≡ false → (answered_or h number (w.stations number) what o).station.grants.links me d
    ≡ (w.stations number).grants.links me d
step_same h tree w number what (Some code) is me d never = refl
step_same h tree w number what None is me d never = grants_same h tree number
    (w.stations number).grants me d never what is

station_placed : (h : Hierarchy) (w : World) (number : ℕ) (s : Station) → Placed h w
    → ((me : Holder) (d : ℕ) → has_place h number d me ≡ false
    → s.grants.links me d ≡ (w.stations number).grants.links me d)
    → Placed h (with_station w number s)
station_placed h w number s u same n me d never =
    at_put (λ (z : Station). z.grants.links me d ≡ Out 0) w.stations number s n
    (λ is. let here = subst (λ z. has_place h z d me ≡ false) is never in same me d here ∙ u number me d here)
    (u n me d never)

step_placed : (h : Hierarchy) → IsTree h → (w : World) (new : List Entry) (next : World) → Step h w new next
    → Placed h w → Placed h next
step_placed h tree w new next (sends number m may) u = u
step_placed h tree w new next (steps number what runs may) u =
    station_placed h w number (after_happening h number (w.stations number) what).station u
    (λ me d never. step_same h tree w number what (refusal_of h number
    (w.stations number).grants what) refl me d never)
step_placed h tree w new next (stops number what runs may) u =
    station_placed h w number (saved_only h number (w.stations number) what) u
    (λ me d never. step_same h tree w number what (refusal_of h number
    (w.stations number).grants what) refl me d never)
step_placed h tree w new next (tells o what) u = u
step_placed h tree w new next (halts number) u =
    station_placed h w number (record (w.stations number) { is_stopped = true }) u (λ me d never. refl)
step_placed h tree w new next (starts number boots) u =
    station_placed h w number (opened h number (w.stations number).grants) u (λ me d never. refl)

pub placed : (h : Hierarchy) → IsTree h → (past : List Entry) (w : World) → Reaches h past w → Placed h w
placed h tree past w opens = λ number me d never. refl
placed h tree past w (goes_on {past = before} {new = new} {w = old} {next = next} run step) =
    step_placed h tree old new next step (placed h tree before old run)

-- a link under way has its place
pub unsettled_place : (h : Hierarchy) → IsTree h → (past : List Entry) (w : World) → Reaches h past w → (number : ℕ)
    (me : Holder) (d : ℕ) → is_unsettled ((w.stations number).grants.links me d) ≡ true
    → has_place h number d me ≡ true
unsettled_place h tree past w run number me d waits = elim (either (has_place h number d me)) [
  | inl t ↦ t
  | inr f ↦ absurd (let wrong : false ≡ true = ap is_unsettled (sym (placed h tree past w run number me d f))
      ∙ waits in cc)
]
