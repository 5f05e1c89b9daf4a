-- In every run the lists of who watches are as many as there are objects, and no echo in them is above the greatest.
use Rattle.std.proofs.Common.{ℕ, zero, suc, ◌≡◌, ◌≤◌, Bool, true, false, List, [], ◌∷◌, inl, inr, refl, sym, ap, ◌∙◌}
use Rattle.std.proofs.Common.{subst, arith}
use Rattle.std.specs.Prelude.{◌==◌, nat_lt, not, Option, Some, None, length, replicate, slice_set, if◌then◌else◌}
use Rattle.std.proofs.lemmas.Bool.Decides.{nat_tests}
use Rattle.smi_grant.specs.declared.Shown.{Shown}
use Rattle.smi_message.specs.declared.Body.{Body}
use Rattle.smi_message.specs.declared.Body.TheVariants as body
use Rattle.smi_tree.specs.Hierarchy.{Hierarchy}
use Rattle.smi_grant.proofs.Holders.{either}
use Rattle.smi_view.specs.declared.Acceptance.{Acceptance}
use Rattle.smi_view.specs.declared.Acceptance.TheVariants.{Accepted, OtherBoot, NotNewer}
use Rattle.smi_view.specs.Accepting.{acceptance}
use Rattle.smi_watchers.specs.declared.Watcher.{Watcher}
use Rattle.smi_watchers.specs.Watching.{watcher, listed, watched, left_by}
use Rattle.smi_protocol.specs.Display.{Display, Station}
use Rattle.smi_protocol.specs.Grants.{Grants, put}
use Rattle.smi_protocol.specs.Happening.{Happening, Comes, Orders, Reports, Ticks}
use Rattle.smi_protocol.specs.Opening.{object_count, opened, first_display, saved_only}
use Rattle.smi_protocol.specs.Refusals.{refusal_of}
use Rattle.smi_protocol.specs.Tidy.{IsTidy}
use Rattle.smi_protocol.specs.Step.{body_noticed, notice, answered_or, after as after_happening}
use Rattle.smi_protocol.specs.Watching.{is_watched, lists_before, is_full, lists_after, watch_comes}
use Rattle.smi_tree.specs.Roles.{is_child_unit}
use Rattle.smi_protocol.specs.Watching.{unwatch_comes, told_state, showed_if, state_comes, order_noticed}
use Rattle.smi_protocol.specs.declared.Entry.{Entry}
use Rattle.smi_protocol.specs.declared.Order.{Order}
use Rattle.smi_protocol.specs.declared.Order.TheVariants as order
use Rattle.smi_protocol.specs.Schedule.{World}
use Rattle.smi_law.specs.World.{with_station, Step, sends, steps, stops, tells, halts, starts, Reaches, opens}
use Rattle.smi_law.specs.World.{goes_on}
use Rattle.smi_law.proofs.GrantKinds.{put_here}
use Rattle.smi_law.proofs.Lists.{In}
use Rattle.smi_law.proofs.Moves.{at_put}
use Rattle.smi_law.proofs.ShownStart.{none_listed}
use Rattle.smi_law.proofs.Versions.{from_watched, from_unwatched}

-- as many lists as before
length_set : (lists : List (List Watcher)) (i : ℕ) (ws : List Watcher) → length (slice_set lists i ws) ≡ length lists
length_set [] i ws = refl
length_set (l ∷ lists) zero ws = refl
length_set (l ∷ lists) (suc i) ws = ap suc (length_set lists i ws)

length_left : (station : ℕ) (lists : List (List Watcher)) → length (left_by station lists) ≡ length lists
length_left station [] = refl
length_left station (l ∷ lists) = ap suc (length_left station lists)

abbrev first_lists : ℕ → List (List Watcher)
first_lists n = replicate n []

length_first : (n : ℕ) → length (first_lists n) ≡ n
length_first zero = refl
length_first (suc n) = ap suc (length_first n)

-- nothing of it changes
kept_tidy : (h : Hierarchy) (s t : Display) → t.watchers ≡ s.watchers → t.echoes ≡ s.echoes → IsTidy h s → IsTidy h t
kept_tidy h s t lists echoes tidy = record {
  lists = ap length lists ∙ tidy.lists;
  greatest = λ x station echo a. subst (λ (z : ℕ → ℕ). echo ≤ z station) (sym echoes)
      (tidy.greatest x station echo (subst (λ z. In (watcher station echo) (listed z x)) lists a));
}

pub length_before : (s : Display) (from echo : ℕ) → length (lists_before s from echo) ≡ length s.watchers
length_before s from echo = by (nat_lt (s.echoes from) echo)
  where
    by : (b : Bool) → length (if b then left_by from s.watchers else s.watchers) ≡ length s.watchers
    by true = length_left from s.watchers
    by false = refl

length_after : (lists : List (List Watcher)) (x from echo : ℕ) → length (lists_after lists x from echo) ≡ length lists
length_after lists x from echo = by (is_full lists x from)
  where
    by : (b : Bool) → length (if b then lists else watched lists x from echo) ≡ length lists
    by true = refl
    by false = length_set lists _ _

module _ (h : Hierarchy) (number boot : ℕ) (s : Display) (tidy : IsTidy h s) where
  watch_tidy : (from x echo : ℕ) → IsTidy h (watch_comes h number boot s from x echo).display
  watch_tidy from x echo = elim (either (nat_lt echo (s.echoes from))) [
    | inl t ↦ rw t tidy
    | inr f ↦ rw f (record {
      lists = length_after (lists_before s from echo) x from echo ∙ length_before s from echo ∙ tidy.lists;
      greatest = greatest f;
    })
  ]
    where
      not_less : (m n : ℕ) → nat_lt m n ≡ false → n ≤ m
      not_less m n f = grind (arith, nat_tests)

      no_less : nat_lt echo (s.echoes from) ≡ false → (station : ℕ) → s.echoes station ≤ put s.echoes from echo station
      no_less f station = at_put (λ z. s.echoes station ≤ z) s.echoes from echo station
          (λ i. subst (λ z. s.echoes z ≤ echo) (sym i) (not_less echo (s.echoes from) f)) (omega arith)

      greatest : nat_lt echo (s.echoes from) ≡ false → (y station e : ℕ)
          → In (watcher station e) (listed (lists_after (lists_before s from echo) x from echo) y)
          → e ≤ put s.echoes from echo station
      greatest f y station e a = elim (from_watched s from x echo y (watcher station e) a) [
        | inl old ↦ let b = tidy.greatest old.0 station e old.1 in let c = no_less f station in omega (arith, b, c)
        | inr new ↦ this station e new
      ]
        where
          this : (station e : ℕ) → watcher station e ≡ watcher from echo → e ≤ put s.echoes from echo station
          this st ec new =
              let i : st ≡ from = ap (λ (z : Watcher). z.station) new in
              let j : ec ≡ echo = ap (λ (z : Watcher). z.echo) new in
              let k : put s.echoes from echo st ≡ echo = ap (put s.echoes from echo) i ∙ put_here s.echoes from echo in
              omega (arith, j, k)

  unwatch_tidy : (from x echo : ℕ) → IsTidy h (unwatch_comes s from x echo).display
  unwatch_tidy from x echo = record {
    lists = length_set s.watchers _ _ ∙ tidy.lists;
    greatest = λ y station e a. let b = from_unwatched s.watchers from x echo y (watcher station e) a in
        tidy.greatest b.0 station e b.1;
  }

  showed_tidy : (state : Shown) (a : Acceptance) → IsTidy h (showed_if s state a).display
  showed_tidy state Accepted = kept_tidy h s (showed_if s state Accepted).display refl refl tidy
  showed_tidy state OtherBoot = tidy
  showed_tidy state NotNewer = tidy

  state_tidy : (from echo : ℕ) (state : Shown) → IsTidy h (state_comes h number boot s from echo state).display
  state_tidy from echo state = elim (either (not (echo == boot))) [
    | inl t ↦ rw t tidy
    | inr f ↦ rw f (elim (either (is_watched h number s state.object)) [
      | inl t ↦ rw t (showed_tidy state (acceptance boot (s.shown state.object) echo state.version))
      | inr g ↦ rw g tidy
    ])
  ]

  order_tidy : (o : ℕ) (what : Order) → IsTidy h (order_noticed h number boot s o what).display
  order_tidy o (order.Ask d) = kept_tidy h s (order_noticed h number boot s o (order.Ask d)).display refl refl tidy
  order_tidy o (order.Watch x) = kept_tidy h s (order_noticed h number boot s o (order.Watch x)).display refl refl tidy
  order_tidy o (order.Unwatch x) = elim (either (is_child_unit h number x))
      [ inl t ↦ rw t tidy | inr f ↦ rw f (kept_tidy h s (record s { named = put s.named x false }) refl refl tidy) ]
  order_tidy o (order.Take d) = tidy
  order_tidy o (order.Drop d) = tidy
  order_tidy o (order.Do d a) = tidy
  order_tidy o (order.Include d t) = tidy
  order_tidy o (order.Exclude d t) = tidy
  order_tidy o (order.Manual d t) = tidy
  order_tidy o (order.Ignore d t) = tidy
  order_tidy o (order.Report device state) = tidy

  body_tidy : (from : ℕ) (b : Body) → IsTidy h (body_noticed h number boot s from b).display
  body_tidy from (body.Tell d r) = kept_tidy h s (body_noticed h number boot s from (body.Tell d r)).display refl
      refl tidy
  body_tidy from (body.Watch x echo) = watch_tidy from x echo
  body_tidy from (body.State x echo v q) = state_tidy from echo (told_state x v q)
  body_tidy from (body.Unwatch x echo) = unwatch_tidy from x echo
  body_tidy from (body.Ask d) = tidy
  body_tidy from (body.Take d who seen) = tidy
  body_tidy from (body.Drop d who e) = tidy
  body_tidy from (body.Run d who e n c) = tidy

notice_tidy : (h : Hierarchy) (number : ℕ) (g : Grants) (s : Display) (what : Happening) → IsTidy h s
    → IsTidy h (notice h number g s what).display
notice_tidy h number g s (Comes m) tidy = body_tidy h number g.boot s tidy m.from m.body
notice_tidy h number g s (Orders o what) tidy = order_tidy h number g.boot s tidy o what
notice_tidy h number g s (Reports device state) tidy = tidy
notice_tidy h number g s Ticks tidy = kept_tidy h s (notice h number g s Ticks).display refl refl tidy

pub after_tidy : (h : Hierarchy) (number : ℕ) (s : Station) (what : Happening) (o : Option ℕ) → IsTidy h s.display
    → IsTidy h (answered_or h number s what o).station.display
after_tidy h number s what (Some code) tidy = tidy
after_tidy h number s what None tidy =
    kept_tidy h (notice h number s.grants s.display what).display (answered_or h number s what None).station.display
    refl refl (notice_tidy h number s.grants s.display what tidy)

pub first_tidy : (h : Hierarchy) (number : ℕ) → IsTidy h (first_display h number)
first_tidy h number = record {
  lists = length_first (object_count h);
  greatest = λ x station echo a. absurd (none_listed (object_count h) x (watcher station echo) a);
}

put_tidy : (h : Hierarchy) (w : World) (number : ℕ) (s : Station) → IsTidy h s.display
    → ((n : ℕ) → IsTidy h (w.stations n).display) → (n : ℕ) → IsTidy h ((with_station w number s).stations n).display
put_tidy h w number s here each n = at_put (λ (z : Station). IsTidy h z.display) w.stations number s n (λ i. here)
    (each n)

step_tidy : (h : Hierarchy) (w : World) (new : List Entry) (next : World) → Step h w new next
    → ((n : ℕ) → IsTidy h (w.stations n).display) → (n : ℕ) → IsTidy h (next.stations n).display
step_tidy h w new next (sends number m may) each n = each n
step_tidy h w new next (steps number what runs may) each n =
    put_tidy h w number (after_happening h number (w.stations number) what).station
    (after_tidy h number (w.stations number) what (refusal_of h number (w.stations number).grants what)
    (each number)) each n
step_tidy h w new next (stops number what runs may) each n =
    put_tidy h w number (saved_only h number (w.stations number) what) (each number) each n
step_tidy h w new next (tells o what) each n = each n
step_tidy h w new next (halts number) each n =
    put_tidy h w number (record (w.stations number) { is_stopped = true }) (each number) each n
step_tidy h w new next (starts number boots) each n =
    put_tidy h w number (opened h number (w.stations number).grants) (first_tidy h number) each n

pub all_tidy : (h : Hierarchy) (past : List Entry) (w : World) → Reaches h past w → (n : ℕ)
    → IsTidy h (w.stations n).display
all_tidy h past w opens n = first_tidy h n
all_tidy h past w (goes_on {past = before} {new = new} {w = old} {next = next} run step) n =
    step_tidy h old new next step (all_tidy h before old run) n
