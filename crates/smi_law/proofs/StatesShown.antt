-- In every run of a tree what stations are shown was passed through, and never goes back.
use Rattle.std.proofs.Common.{ℕ, ◌≡◌, ◌≤◌, Bool, true, false, List, [], ◌∷◌, inl, inr, refl, sym, ap, ◌∙◌, subst}
use Rattle.std.proofs.Common.{arith}
use Rattle.std.specs.Prelude.{◌==◌, ◌++◌, Option, Some, None, option_map, option_and_then, map, if◌then◌else◌}
use Rattle.std.specs.Option.{option_map_or}
use Rattle.std.specs.List.{flat_map, range_with_len}
use Rattle.std.proofs.lemmas.Bool.{eqb-true}
use Rattle.smi_grant.specs.declared.Shown.{Shown}
use Rattle.smi_grant.specs.declared.Version.{Version}
use Rattle.smi_message.specs.declared.Body.TheVariants as body
use Rattle.smi_message.specs.Message.{Message}
use Rattle.smi_tree.specs.declared.row.Domain.{Domain as DomainRow}
use Rattle.smi_tree.specs.Hierarchy.{Hierarchy, entry}
use Rattle.smi_tree.specs.Lawful.{IsTree}
use Rattle.smi_tree.specs.Lookups.{station_count, station_of}
use Rattle.smi_publish.specs.declared.condition.Condition.{Condition}
use Rattle.smi_publish.specs.Published.{shown}
use Rattle.smi_tree.specs.Roles.{domain_of, is_kept_by}
use Rattle.smi_grant.proofs.Holders.{either}
use Rattle.smi_view.specs.Accepting.{is_newer_than_last}
use Rattle.smi_watchers.specs.Watching.{watcher, listed}
use Rattle.smi_protocol.specs.Display.{Station}
use Rattle.smi_protocol.specs.Grants.{Grants, no_grants, put}
use Rattle.smi_protocol.specs.GrantsOf.{grant_step}
use Rattle.smi_protocol.specs.Happening.{Happening, told_entries}
use Rattle.smi_protocol.specs.Opening.{object_count, opened, opening_entries, first_opened, saved_only}
use Rattle.smi_protocol.specs.Refusals.{refusal_of}
use Rattle.smi_protocol.specs.Sending.{MaySay}
use Rattle.smi_protocol.specs.Showing.{domain_of_happening, passed_in}
use Rattle.smi_protocol.specs.Watching.{Notice}
use Rattle.smi_protocol.specs.Step.{Outcome, refusal_answers, notice, conditions_after, answered_or, showed_entries}
use Rattle.smi_protocol.specs.Step.{after as after_happening}
use Rattle.smi_protocol.specs.Ticking.{first_place}
use Rattle.smi_protocol.specs.declared.Answer.{Answer}
use Rattle.smi_protocol.specs.declared.Entry.{Entry}
use Rattle.smi_protocol.specs.declared.Entry.TheVariants as entry_
use Rattle.smi_protocol.specs.declared.Entry.TheVariants.{Showed, Passed}
use Rattle.smi_law.specs.Safe.{IsNotOlder}
use Rattle.smi_protocol.specs.Schedule.{World, first_world, opening_of}
use Rattle.smi_law.specs.Trace.{Stands}
use Rattle.smi_law.specs.World.{MayCome, with_station, with_sent, noted, Step, sends, steps, stops, tells, halts}
use Rattle.smi_law.specs.World.{starts, Reaches, opens, goes_on}
use Rattle.smi_law.proofs.GrantKinds.{put_here}
use Rattle.smi_law.proofs.Lists.{In, in_range, Apart, same, apart_range}
use Rattle.smi_law.proofs.Quiet.{noted_both}
use Rattle.smi_law.proofs.Shows.{state_of, ToldWell, IsNewest, Shows, shows_silent, stands_before, showed_passed}
use Rattle.smi_law.proofs.ShownNotice.{acts, rests}
use Rattle.smi_protocol.proofs.KeptObjects.{first_kept}
use Rattle.smi_law.proofs.ShownStart.{none_listed, shows_started}
use Rattle.smi_law.proofs.ShownStep.{acted}
use Rattle.smi_law.proofs.Silent.{AllSilent, kept_silent}
use Rattle.smi_law.proofs.Versions.{in_place}
use Rattle.smi_law.proofs.Viewed.{sent_or}

-- A datagram is sent.

module _ (h : Hierarchy) (past : List Entry) (w : World) (number : ℕ) (m : Message) (from : m.from ≡ number)
    (may : MaySay h number (w.stations number) m.to m.body) (known : Shows h past w) where
  new_watch : (x echo : ℕ) → m.body ≡ body.Watch x echo → echo ≤ (w.stations m.from).grants.boot
  new_watch x echo is = said (subst (MaySay h number (w.stations number) m.to) is may)
    where
      said : MaySay h number (w.stations number) m.to (body.Watch x echo) → echo ≤ (w.stations m.from).grants.boot
      said s = let i : echo ≡ (w.stations m.from).grants.boot = s.2
          ∙ ap (λ z. (w.stations z).grants.boot) (sym from) in omega (arith, i)

  new_state : (x echo : ℕ) (v : Version) (q : ℕ) → m.body ≡ body.State x echo v q
      → ToldWell past m.to x echo v q (w.stations m.to).grants.boot
  new_state x echo v q is = said (subst (MaySay h number (w.stations number) m.to) is may)
    where
      shows : (o : Option Condition) → (w.stations number).display.conditions x ≡ o
          → option_map (shown (w.stations number).grants.boot x) o ≡ Some (state_of x v q)
          → (c : Condition) × ((w.stations number).display.conditions x ≡ Some c)
          × (shown (w.stations number).grants.boot x c ≡ state_of x v q)
      shows None at i = absurd cc
      shows (Some c) at i = (c, at, cc)

      said : MaySay h number (w.stations number) m.to (body.State x echo v q)
          → ToldWell past m.to x echo v q (w.stations m.to).grants.boot
      said s =
          let b = shows ((w.stations number).display.conditions x) refl s.0 in
          record {
            passed = subst (λ z. Stands (Passed z) past) b.2 (known.passed number x b.0 b.1);
            within = known.watchers number x m.to echo
                (in_place (listed (w.stations number).display.watchers x) s.1.0 (watcher m.to echo) s.1.1);
            since = λ i u k at.
                subst (λ (z : Shown). IsNotOlder z.version u) b.2
                (known.newest number x b.0 b.1 u k (showed_passed m.to (state_of x u k) past known.well
                (stands_before (Showed m.to (state_of x u k)) m.to past at)));
          }

  shows_sent : Shows h past (with_sent w m)
  shows_sent = record {
    kept = known.kept;
    passed = known.passed;
    newest = known.newest;
    bound = known.bound;
    watch = λ k x echo sent is. elim (sent_or k m w.sent sent) [
      | inl old ↦ known.watch k x echo old is
      | inr it ↦ subst (λ (z : Message). echo ≤ (w.stations z.from).grants.boot) (sym it)
          (new_watch x echo (ap (λ (z : Message). z.body) (sym it) ∙ is))
    ];
    watchers = known.watchers;
    states = λ k x echo v q sent is. elim (sent_or k m w.sent sent) [
      | inl old ↦ known.states k x echo v q old is
      | inr it ↦ subst (λ (z : Message). ToldWell past z.to x echo v q (w.stations z.to).grants.boot) (sym it)
          (new_state x echo v q (ap (λ (z : Message). z.body) (sym it) ∙ is))
    ];
    last = known.last;
    well = known.well;
  }

-- Something comes.

told_silent : (answers : List Answer) → AllSilent (told_entries answers)
told_silent [] = tt
told_silent (a ∷ answers) = (tt, told_silent answers)

-- nothing of what is shown changes
shows_rests : (h : Hierarchy) (past : List Entry) (w : World) (number : ℕ) (s : Station)
    → s.grants.boot ≡ (w.stations number).grants.boot → s.display ≡ (w.stations number).display → Shows h past w
    → Shows h past (with_station w number s)
shows_rests h past w number s boot same known =
    acted h past w number s None [] known (rests h past w number known s boot same)

module _ (h : Hierarchy) (tree : IsTree h) (past : List Entry) (w : World) (number : ℕ) (what : Happening)
    (may : MayCome w what) (known : Shows h past w) where
  shows_after : (o : Option ℕ) → refusal_of h number (w.stations number).grants what ≡ o
      → Shows h (noted (answered_or h number (w.stations number) what o).after
      (noted (answered_or h number (w.stations number) what o).kept past))
      (with_station w number (answered_or h number (w.stations number) what o).station)
  shows_after (Some code) is =
      shows_silent h (with_station w number (w.stations number)) (told_entries (refusal_answers what code)) past
      (told_silent (refusal_answers what code))
      (shows_rests h past w number (w.stations number) refl refl known)
  shows_after None is =
      subst (λ z. Shows h z (with_station w number out.station))
      (sym (noted_both (showed_entries number n.showed ++ map entry_.Passed passed) (told_entries answers) middle
      ∙ ap (noted (told_entries answers)) (noted_both (showed_entries number n.showed) (map entry_.Passed passed)
      middle)))
      (shows_silent h (with_station w number out.station) (told_entries answers)
      (noted (map entry_.Passed passed) (noted (showed_entries number n.showed) middle)) (told_silent answers)
      (acted h middle w number out.station n.showed passed before (acts h middle w number before tree what may is)))
    where
      out : Outcome
      out = answered_or h number (w.stations number) what None

      n : Notice
      n = notice h number (w.stations number).grants (w.stations number).display what

      middle : List Entry
      middle = noted out.kept past

      answers : List Answer
      answers = (grant_step h number (w.stations number).grants what).answers ++ n.answers

      passed : List Shown
      passed = passed_in h (w.stations number).grants.boot (w.stations number).display.conditions
          (conditions_after h (w.stations number) (grant_step h number (w.stations number).grants what).grants
          n.display what) (domain_of_happening h what)

      before : Shows h middle w
      before = shows_silent h w out.kept past (kept_silent h number (w.stations number) what None).entries known

  shows_stopped : (o : Option ℕ) → (s : Station)
      → s.grants.boot ≡ (answered_or h number (w.stations number) what o).station.grants.boot
      → s.display ≡ (w.stations number).display
      → Shows h (noted (answered_or h number (w.stations number) what o).kept past) (with_station w number s)
  shows_stopped o s boot same =
      let silent = kept_silent h number (w.stations number) what o in
      shows_rests h (noted (answered_or h number (w.stations number) what o).kept past) w number s
      (boot ∙ silent.boot) same
      (shows_silent h w (answered_or h number (w.stations number) what o).kept past silent.entries known)

-- The opening: stations that were never started start one after the other.

-- a station that shows nothing
abbrev blank : Station
blank = record {
  grants = no_grants;
  display = record {
    conditions = λ x. None;
    shown = λ x. None;
    named = λ x. false;
    echoes = λ s. 0;
    watchers = [];
    place = first_place;
    asks = λ o. None;
  };
  is_stopped = false;
}

abbrev blank_world : World
blank_world = record { stations = λ n. blank; sent = [] }

none_known : (h : Hierarchy) → Shows h [] blank_world
none_known h = record {
  kept = λ number x c is. absurd cc;
  passed = λ number x c is. absurd cc;
  newest = λ number x c is. absurd cc;
  bound = λ x u q at. absurd at;
  watch = λ m x echo sent is. absurd sent;
  watchers = λ number x station echo at. absurd (none_listed 0 x (watcher station echo) at);
  states = λ m x echo v q sent is. absurd sent;
  last = λ number x v is. tt;
  well = tt;
}

-- the world after these stations have started
abbrev starting : Hierarchy → World → List ℕ → World
starting h w [] = w
starting h w (n ∷ more) = starting h (with_station w n (opened h n (w.stations n).grants)) more

module _ (h : Hierarchy) (tree : IsTree h) where
  started_known : (numbers : List ℕ) (past : List Entry) (w : World)
      → ((n : ℕ) → In n numbers → (w.stations n).grants ≡ no_grants) → Apart same numbers → Shows h past w
      → Shows h (noted (flat_map (λ n. opening_entries h n (first_opened h n)) numbers) past) (starting h w numbers)
  started_known [] past w blank_ apart known = known
  started_known (n ∷ more) past w blank_ apart known =
      subst (λ z. Shows h z (starting h w (n ∷ more)))
      (sym (noted_both (opening_entries h n (first_opened h n))
      (flat_map (λ k. opening_entries h k (first_opened h k)) more) past))
      (subst (λ (g : Grants). Shows h (noted (flat_map (λ k. opening_entries h k (first_opened h k)) more)
      (noted (opening_entries h n (opened h n g)) past)) (starting h w (n ∷ more))) (blank_ n (inl refl))
      (started_known more (noted (opening_entries h n (opened h n (w.stations n).grants)) past)
      (with_station w n (opened h n (w.stations n).grants)) later apart.1 (shows_started h tree past w n known)))
    where
      later : (k : ℕ) → In k more → (put w.stations n (opened h n (w.stations n).grants) k).grants ≡ no_grants
      later k a = elim (either (k == n)) [
        | inl t ↦ absurd (apart.0 k a (eqb-true k n t))
        | inr f ↦ rw f (blank_ k (inr a))
      ]

  -- the station of a kept object is one of the tree's
  kept_station : (d k : ℕ) → option_map_or (λ keeper. keeper == k) (station_of h d) false ≡ true
      → (1 ≤ k) × (k ≤ station_count h)
  kept_station d k = by (entry h.domains d) refl
    where
      by : (o : Option DomainRow) → entry h.domains d ≡ o
          → option_map_or (λ keeper. keeper == k) (option_map (λ (row : DomainRow). row.station) o) false ≡ true
          → (1 ≤ k) × (k ≤ station_count h)
      by None at i = absurd cc
      by (Some row) at i =
          let a = (tree.lawful.domains.each d row at).station in
          let b = eqb-true row.station k i in
          let least = a.least in
          let most = a.most in
          (omega (arith, least, b), omega (arith, most, b))

  kept_inside : (k x : ℕ) → is_kept_by h k x ≡ true → In k (range_with_len 1 (station_count h))
  kept_inside k x kept = by (domain_of h x) kept
    where
      by : (o : Option ℕ) → option_map_or (λ keeper. keeper == k) (option_and_then (station_of h) o) false ≡ true
          → In k (range_with_len 1 (station_count h))
      by None i = absurd cc
      by (Some d) i = let a = kept_station d k i in let most = a.1 in
          in_range k 1 (station_count h) a.0 (omega (arith, most))

  -- which stations have started
  has_started : (numbers : List ℕ) (w : World) (k : ℕ) → Apart same numbers → In k numbers
      → (starting h w numbers).stations k ≡ opened h k (w.stations k).grants
  has_started [] w k apart a = absurd a
  has_started (n ∷ more) w k apart (inl is) =
      not_started more (with_station w n (opened h n (w.stations n).grants)) k (λ a. apart.0 k a is)
      ∙ ap (λ z. put w.stations n (opened h n (w.stations n).grants) z) is
      ∙ put_here w.stations n (opened h n (w.stations n).grants)
      ∙ ap (λ z. opened h z (w.stations z).grants) (sym is)
    where
      not_started : (numbers : List ℕ) (v : World) (j : ℕ) → (In j numbers → ⊥)
          → (starting h v numbers).stations j ≡ v.stations j
      not_started [] v j out = refl
      not_started (m ∷ rest) v j out =
          not_started rest (with_station v m (opened h m (v.stations m).grants)) j (λ a. out (inr a))
          ∙ other (j == m) refl
        where
          other : (b : Bool) → (j == m) ≡ b → (if b then opened h m (v.stations m).grants else v.stations j)
              ≡ v.stations j
          other true t = absurd (out (inl (eqb-true j m t)))
          other false t = refl
  has_started (n ∷ more) w k apart (inr a) =
      has_started more (with_station w n (opened h n (w.stations n).grants)) k apart.1 a
      ∙ ap (λ (z : Station). opened h k z.grants) (other (k == n) refl)
    where
      other : (b : Bool) → (k == n) ≡ b → (if b then opened h n (w.stations n).grants else w.stations k) ≡ w.stations k
      other true t = absurd (apart.0 k a (eqb-true k n t))
      other false t = refl

  -- what was shown last of anything: nothing
  none_shown : (numbers : List ℕ) (w : World) → ((k x : ℕ) → (w.stations k).display.shown x ≡ None) → (k x : ℕ)
      → ((starting h w numbers).stations k).display.shown x ≡ None
  none_shown [] w none k x = none k x
  none_shown (n ∷ more) w none k x = none_shown more (with_station w n (opened h n (w.stations n).grants))
      (λ j y. by j y (j == n)) k x
    where
      by : (j y : ℕ) (b : Bool) → (if b then opened h n (w.stations n).grants else w.stations j).display.shown y ≡ None
      by j y true = refl
      by j y false = none j y

  abbrev numbers_ : List ℕ
  numbers_ = range_with_len 1 (station_count h)

  abbrev begun : World
  begun = starting h blank_world numbers_

  at_opening : Shows h (noted (opening_of h) []) begun
  at_opening = started_known numbers_ [] blank_world (λ n a. refl) (apart_range 1 (station_count h)) (none_known h)

  first_is : (k x : ℕ) → is_kept_by h k x ≡ true → begun.stations k ≡ first_opened h k
  first_is k x kept = has_started numbers_ blank_world k (apart_range 1 (station_count h)) (kept_inside k x kept)

  shows_first : Shows h (noted (opening_of h) []) (first_world h)
  shows_first = record {
    kept = first_kept h;
    passed = λ k x c is.
        let same_ = first_is k x (first_kept h k x c is) in
        subst (λ (s : Station). Stands (Passed (shown s.grants.boot x c)) (noted (opening_of h) [])) same_
        (at_opening.passed k x c (ap (λ (s : Station). s.display.conditions x) same_ ∙ is));
    newest = λ k x c is.
        let same_ = first_is k x (first_kept h k x c is) in
        subst (λ (s : Station). IsNewest (shown s.grants.boot x c).version x (noted (opening_of h) [])) same_
        (at_opening.newest k x c (ap (λ (s : Station). s.display.conditions x) same_ ∙ is));
    bound = λ x u q at k kept. subst (λ (s : Station). u.boot ≤ s.grants.boot) (first_is k x kept)
        (at_opening.bound x u q at k kept);
    watch = λ m x echo sent is. absurd sent;
    watchers = λ k x station echo at. absurd (none_listed (object_count h) x (watcher station echo) at);
    states = λ m x echo v q sent is. absurd sent;
    last = λ k x v is. at_opening.last k x v (ap (λ z. is_newer_than_last z v)
        (none_shown numbers_ blank_world (λ j y. refl) k x));
    well = at_opening.well;
  }

  -- Every step, and every run.

  step_shows : (past : List Entry) (w : World) (new : List Entry) (next : World) → Step h w new next → Shows h past w
      → Shows h (noted new past) next
  step_shows past w new next (sends number m may) known = shows_sent h past w number m may.0 may.2 known
  step_shows past w new next (steps number what runs may) known =
      let out = after_happening h number (w.stations number) what in
      subst (λ z. Shows h z (with_station w number out.station)) (sym (noted_both out.kept out.after past))
      (shows_after h tree past w number what may known (refusal_of h number (w.stations number).grants what) refl)
  step_shows past w new next (stops number what runs may) known =
      shows_stopped h tree past w number what may known (refusal_of h number (w.stations number).grants what)
      (saved_only h number (w.stations number) what) refl refl
  step_shows past w new next (tells o what) known = shows_silent h w new past (tt, tt) known
  step_shows past w new next (halts number) known =
      shows_rests h past w number (record (w.stations number) { is_stopped = true }) refl refl known
  step_shows past w new next (starts number boots) known = shows_started h tree past w number known

  pub shows : (past : List Entry) (w : World) → Reaches h past w → Shows h past w
  shows past w opens = shows_first
  shows past w (goes_on {past = before} {new = new} {w = old} {next = next} run step) =
      step_shows before old new next step (shows before old run)
