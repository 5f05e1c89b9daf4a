-- In every run what an operator has issued by the trace is what the operator's link says.
use Rattle.std.proofs.Common.{ℕ, ◌≡◌, ◌≤◌, ◌+◌, true, false, List, [], ◌∷◌, ◌⊎◌, inl, inr, refl, sym, ap, ◌∙◌, subst}
use Rattle.std.specs.Prelude.{◌==◌, ◌&&◌, ◌++◌, length, Option, Some, None, if◌then◌else◌}
use Rattle.std.specs.List.{range_with_len}
use Rattle.std.proofs.lemmas.Bool.{and_parts, eqb-true}
use Rattle.smi_grant.specs.declared.Holder.TheVariants.{Operator}
use Rattle.smi_tree.specs.Hierarchy.{Hierarchy}
use Rattle.smi_tree.specs.Lookups.{station_count}
use Rattle.smi_command.specs.declared.Link.TheVariants.{Out, Held}
use Rattle.smi_command.specs.OneLink.{job}
use Rattle.smi_grant.proofs.Holders.{either}
use Rattle.smi_command.proofs.Logs.{Logged, logged_first, logged_quiet, logged_issue}
use Rattle.smi_protocol.specs.Display.{Station}
use Rattle.smi_protocol.specs.Grants.{put}
use Rattle.smi_protocol.specs.Happening.{Happening}
use Rattle.smi_protocol.specs.Opening.{opened, opening_entries, saved_only}
use Rattle.smi_protocol.specs.Refusals.{refusal_of}
use Rattle.smi_protocol.specs.Step.{answered_or, after as after_happening}
use Rattle.smi_protocol.specs.declared.Entry.{Entry}
use Rattle.smi_protocol.specs.declared.Entry.TheVariants as entry
use Rattle.smi_law.specs.Known.{holder_home, link_in}
use Rattle.smi_protocol.specs.Schedule.{World, first_world, opening_of}
use Rattle.smi_law.specs.World.{with_station, noted, Step, sends, steps, stops, tells, halts, starts, Reaches, opens}
use Rattle.smi_law.specs.World.{goes_on}
use Rattle.smi_law.proofs.Displayed.{orders_display, after_display, opening_display, openings_display}
use Rattle.smi_law.proofs.GrantKinds.{put_here}
use Rattle.smi_law.proofs.KnownFacts.{known_in_step}
use Rattle.smi_law.proofs.Moves.{apart, at_put, number_self}
use Rattle.smi_law.proofs.OrderSteps.{issued_at, issued_same, issued_more, issued_none, NoOrders, Calm, calm_same}
use Rattle.smi_law.proofs.OrderSteps.{AllCalm, OrderStep, no_order, ordering, step_order}
use Rattle.smi_law.proofs.Quiet.{noted_both}
use Rattle.smi_law.proofs.Viewed.{Viewed, viewed}

-- Every link of every operator.

abbrev pub AllLogged : Hierarchy → List Entry → World → Type 0
AllLogged h past w = (o d : ℕ) → Logged (link_in h w (Operator o) d) (issued_at o d past)

noted_no : (o d : ℕ) (new past : List Entry) → NoOrders new → issued_at o d (noted new past) ≡ issued_at o d past
noted_no o d [] past q = refl
noted_no o d (y ∷ new) past q = noted_no o d new (y ∷ past) q.1 ∙ issued_same o d y past q.0

logged_no : (h : Hierarchy) (w : World) (new past : List Entry) → NoOrders new → AllLogged h past w
    → AllLogged h (noted new past) w
logged_no h w new past q l o d = subst (Logged (link_in h w (Operator o) d)) (sym (noted_no o d new past q)) (l o d)

module _ (h : Hierarchy) (w : World) (number : ℕ) (s : Station) where
  world_calm : AllCalm (w.stations number).grants s.grants → (o d : ℕ)
      → Calm (link_in h w (Operator o) d) (link_in h (with_station w number s) (Operator o) d)
  world_calm calm o d =
      at_put (λ z. Calm (link_in h w (Operator o) d) (z.grants.links (Operator o) d)) w.stations number s
      (holder_home h (Operator o))
      (λ e. subst (λ z. Calm ((w.stations z).grants.links (Operator o) d) (s.grants.links (Operator o) d)) (sym e)
      (calm o d))
      (calm_same (link_in h w (Operator o) d))

  world_other : (b d : ℕ) → Calm ((w.stations number).grants.links (Operator b) d) (s.grants.links (Operator b) d)
      → Calm (link_in h w (Operator b) d) (link_in h (with_station w number s) (Operator b) d)
  world_other b d calm =
      at_put (λ z. Calm (link_in h w (Operator b) d) (z.grants.links (Operator b) d)) w.stations number s
      (holder_home h (Operator b))
      (λ e. subst (λ z. Calm ((w.stations z).grants.links (Operator b) d) (s.grants.links (Operator b) d)) (sym e) calm)
      (calm_same (link_in h w (Operator b) d))

  link_here : (o x : ℕ) → holder_home h (Operator o) ≡ number
      → link_in h (with_station w number s) (Operator o) x ≡ s.grants.links (Operator o) x
  link_here o x e = ap (λ z. (put w.stations number s z).grants.links (Operator o) x) e
      ∙ ap (λ z. z.grants.links (Operator o) x) (put_here w.stations number s)

  link_before : (o x : ℕ) → holder_home h (Operator o) ≡ number
      → (w.stations number).grants.links (Operator o) x ≡ link_in h w (Operator o) x
  link_before o x e = ap (λ z. (w.stations z).grants.links (Operator o) x) (sym e)

logged_calm : (h : Hierarchy) (w next : World) (past : List Entry) (o d : ℕ)
    → Calm (link_in h w (Operator o) d) (link_in h next (Operator o) d)
    → Logged (link_in h w (Operator o) d) (issued_at o d past)
    → Logged (link_in h next (Operator o) d) (issued_at o d past)
logged_calm h w next past o d calm l = logged_quiet (link_in h w (Operator o) d) (link_in h next (Operator o) d)
    (issued_at o d past) calm.known calm.quiet l

record IsIt (b o d x : ℕ) : Type 0 where
  operator : b ≡ o
  domain : d ≡ x

it_or : (b o d x : ℕ) → IsIt b o d x ⊎ (b ≡ o → d ≡ x → ⊥)
it_or b o d x = elim (apart b o) [
  | inl i ↦ elim (apart d x) [ inl j ↦ inl (record { operator = i; domain = j }) | inr f ↦ inr (λ a c. f c) ]
  | inr f ↦ inr (λ a c. f a)
]

logged_step : (h : Hierarchy) (w : World) (number : ℕ) (s : Station) (new past : List Entry)
    → OrderStep h number (w.stations number).grants s.grants new → Viewed h w → AllLogged h past w
    → AllLogged h (noted new past) (with_station w number s)
logged_step h w number s new past (no_order all none calm) v l b d =
    logged_no h (with_station w number s) all past none
    (λ o x. logged_calm h w (with_station w number s) past o x (world_calm h w number s calm o x) (l o x)) b d
logged_step h w number s new past (ordering o x e n p c here was becomes others) v l b d = elim (it_or b o d x) [
  | inl i ↦
      subst (λ z. Logged (link_in h next (Operator z) d) (issued_at z d (entry.Ordered o x e (n + 1) c ∷ past)))
      (sym i.operator)
      (subst (λ z. Logged (link_in h next (Operator o) z) (issued_at o z (entry.Ordered o x e (n + 1) c ∷ past)))
      (sym i.domain) it)
  | inr f ↦
      subst (Logged (link_in h next (Operator b) d))
      (sym (issued_more b d o x e (n + 1) c past
      ∙ ap (λ z. if z then job (Operator b) e (n + 1) c ∷ issued_at b d past else issued_at b d past) (not_it f)))
      (logged_calm h w next past b d (world_other h w number s b d (others b d f)) (l b d))
]
  where
    next : World
    next = with_station w number s

    held : link_in h w (Operator o) x ≡ Held e n p
    held = sym (link_before h w number s o x here) ∙ was

    counted : length p ≤ n
    counted = (known_in_step h w x (Operator o) e n p refl v held).counted

    it : Logged (link_in h next (Operator o) x) (issued_at o x (entry.Ordered o x e (n + 1) c ∷ past))
    it =
        subst (λ z. Logged z (issued_at o x (entry.Ordered o x e (n + 1) c ∷ past)))
        (sym (link_here h w number s o x here ∙ becomes))
        (subst (Logged (Held e (n + 1) (p ++ c ∷ [])))
        (sym (issued_more o x o x e (n + 1) c past ∙ rw (number_self o) (rw (number_self x) refl)))
        (logged_issue (Operator o) e n p c (issued_at o x past) counted
        (subst (λ z. Logged z (issued_at o x past)) held (l o x))))

    not_it : (b ≡ o → d ≡ x → ⊥) → (o == b && x == d) ≡ false
    not_it f = elim (either (o == b && x == d)) [
      | inl t ↦ let a = and_parts (o == b) _ t in absurd (f (sym (eqb-true o b a.0)) (sym (eqb-true x d a.1)))
      | inr i ↦ i
    ]

kept_order : (h : Hierarchy) (w : World) (number : ℕ) (what : Happening) → Viewed h w → (o : Option ℕ)
    → refusal_of h number (w.stations number).grants what ≡ o
    → OrderStep h number (w.stations number).grants (answered_or h number (w.stations number) what o).station.grants
    (answered_or h number (w.stations number) what o).kept
kept_order h w number what v (Some code) is =
    no_order [] tt (λ o d. calm_same ((w.stations number).grants.links (Operator o) d))
kept_order h w number what v None is = step_order h w number what v is

step_logged : (h : Hierarchy) (past : List Entry) (w : World) (new : List Entry) (next : World) → Step h w new next
    → Viewed h w → AllLogged h past w → AllLogged h (noted new past) next
step_logged h past w new next (sends number m may) v l = l
step_logged h past w new next (steps number what runs may) v l =
    let o = refusal_of h number (w.stations number).grants what in
    let out = after_happening h number (w.stations number) what in
    subst (λ z. AllLogged h z (with_station w number out.station)) (sym (noted_both out.kept out.after past))
    (logged_no h (with_station w number out.station) out.after (noted out.kept past)
    (orders_display out.after (after_display h number (w.stations number) what o))
    (logged_step h w number out.station out.kept past (kept_order h w number what v o refl) v l))
step_logged h past w new next (stops number what runs may) v l =
    let o = refusal_of h number (w.stations number).grants what in
    logged_step h w number (saved_only h number (w.stations number) what)
    (after_happening h number (w.stations number) what).kept past (kept_order h w number what v o refl) v l
step_logged h past w new next (tells o what) v l = logged_no h w new past (tt, tt) l
step_logged h past w new next (halts number) v l =
    logged_step h w number (record (w.stations number) { is_stopped = true }) [] past
    (no_order [] tt (λ o d. calm_same ((w.stations number).grants.links (Operator o) d))) v l
step_logged h past w new next (starts number boots) v l =
    let started = opened h number (w.stations number).grants in
    logged_step h w number started (opening_entries h number started) past
    (no_order (opening_entries h number started)
    (orders_display (opening_entries h number started) (opening_display h number started))
    (λ o d. calm_same ((w.stations number).grants.links (Operator o) d))) v l

pub logged : (h : Hierarchy) (past : List Entry) (w : World) → Reaches h past w → AllLogged h past w
logged h past w opens =
    logged_no h (first_world h) (opening_of h) []
    (orders_display (opening_of h) (openings_display h (range_with_len 1 (station_count h))))
    (λ o d. subst (Logged (Out 0)) (sym (issued_none o d)) logged_first)
logged h past w (goes_on {past = before} {new = new} {w = old} {next = next} run step) =
    step_logged h before old new next step (viewed h before old run) (logged h before old run)
