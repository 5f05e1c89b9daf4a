-- What a schedule makes of the world is a run, item by item.
use Rattle.std.proofs.Common.{ℕ, zero, suc, ◌≡◌, ◌+◌, ◌-◌, Bool, true, false, List, [], ◌∷◌, inl, inr, refl, sym, ap}
use Rattle.std.proofs.Common.{◌∙◌, subst, append_assoc, append-nil, arith}
use Rattle.std.specs.Prelude.{◌==◌, ◌≢◌, ◌++◌, not, Option, Some, None, option_map, is_some, length, slice_get, map}
use Rattle.std.specs.Prelude.{if◌then◌else◌}
use Rattle.std.proofs.lemmas.Bool.{and_parts, eqb-true}
use Rattle.std.proofs.lemmas.Bool.Decides.{nat_tests}
use Rattle.smi_message.specs.Message.{Message, last_boot}
use Rattle.smi_base.specs.Between.{is_between}
use Rattle.smi_tree.specs.Hierarchy.{Hierarchy}
use Rattle.smi_tree.specs.Lawful.{IsTree}
use Rattle.smi_tree.specs.Lookups.{domain_count, operator_station_of, station_count}
use Rattle.smi_tree.specs.Roles.{keeper_of}
use Rattle.smi_rows.specs.declared.Plan.{Plan}
use Rattle.smi_rows.specs.declared.Plan.TheVariants as plan
use Rattle.smi_protocol.specs.Display.{Station}
use Rattle.smi_protocol.specs.Grants.{put}
use Rattle.smi_protocol.specs.Happening.{Happening, Comes, Orders, Reports, Ticks, answer}
use Rattle.smi_protocol.specs.Opening.{opened, opening_entries, saved_only}
use Rattle.smi_protocol.specs.Sending.{MaySend}
use Rattle.smi_protocol.specs.Step.{after, ordered_or_reported}
use Rattle.smi_protocol.specs.declared.Entry.{Entry}
use Rattle.smi_protocol.specs.declared.item.Deed.{Deed}
use Rattle.smi_protocol.specs.declared.item.Deed.TheVariants as deed
use Rattle.smi_protocol.specs.declared.item.Moment.TheVariants as moment
use Rattle.smi_protocol.specs.declared.item.Item.{Item}
use Rattle.smi_protocol.specs.declared.item.Item.TheVariants as item
use Rattle.smi_protocol.specs.declared.item.Line.{Line}
use Rattle.smi_protocol.specs.declared.item.Line.TheVariants as line
use Rattle.smi_protocol.specs.Schedule.{World, Turn, nothing, changed, stepped, Arrival, arrival, delivery, sent_before}
use Rattle.smi_protocol.specs.Schedule.{arrival_at, arrival_of, done_by, restarted, is_at, stopped_behind, not_stored}
use Rattle.smi_protocol.specs.Schedule.{failed, failing, turn, sent_lines, lines_of, trace_from, trace_of, opening_of}
use Rattle.smi_protocol.specs.Schedule.{first_world, entries_of}
use Rattle.smi_law.specs.World.{Among, MayCome, with_station, noted, sends, steps, stops, tells, halts, starts}
use Rattle.smi_law.specs.World.{Reaches, opens, goes_on}
use Rattle.smi_law.proofs.GrantKinds.{put_here}
use Rattle.smi_law.proofs.Quiet.{noted_both}
use Rattle.smi_law.proofs.Speaking.{speaks}

-- Worlds that are one.

-- a world with these datagrams more
abbrev with_all : World → List Message → World
with_all w ms = record { stations = w.stations; sent = w.sent ++ ms }

same_table : {X Y : Type 0} (f g : X → Y) → ((x : X) → f x ≡ g x) → f ≡ g
same_table f g each = λ i x. each x i

put_again : (table : ℕ → Station) (n : ℕ) (s t : Station) → put (put table n s) n t ≡ put table n t
put_again table n s t = same_table (put (put table n s) n t) (put table n t) (λ m. by m (m == n))
  where
    by : (m : ℕ) (b : Bool) → (if b then t else (if b then s else table m)) ≡ (if b then t else table m)
    by m true = refl
    by m false = refl

pub put_same : (table : ℕ → Station) (n : ℕ) → put table n (table n) ≡ table
put_same table n = same_table (put table n (table n)) table (λ m. by m (m == n) refl)
  where
    by : (m : ℕ) (b : Bool) → (m == n) ≡ b → (if b then table n else table m) ≡ table m
    by m true i = ap table (sym (eqb-true m n i))
    by m false i = refl

-- the same stations, and nothing more is sent
quietly : (h : Hierarchy) (past : List Entry) (w : World) (stations : ℕ → Station) → w.stations ≡ stations
    → Reaches h past w → Reaches h past (record { stations = stations; sent = w.sent ++ [] })
quietly h past w stations same run =
    subst (λ z. Reaches h past (record { stations = z; sent = w.sent ++ [] })) same
    (subst (λ z. Reaches h past (record { stations = w.stations; sent = z })) (sym (append-nil w.sent)) run)

-- Datagrams are sent one after the other.
sends_all : (h : Hierarchy) (past : List Entry) (ms : List Message) (w : World) (number : ℕ) → Reaches h past w
    → ((m : Message) → Among m ms → MaySend h number (w.stations number) m) → Reaches h past (with_all w ms)
sends_all h past [] w number run may = quietly h past w w.stations refl run
sends_all h past (m ∷ ms) w number run may =
    subst (λ z. Reaches h past (record { stations = w.stations; sent = z })) (append_assoc w.sent (m ∷ []) ms)
    (sends_all h past ms (with_all w (m ∷ [])) number (goes_on run (sends number m (may m (inl refl))))
    (λ k a. may k (inr a)))

-- What comes.

among_at : (ms : List Message) (i : ℕ) (m : Message) → slice_get ms i ≡ Some m → Among m ms
among_at [] i m is = absurd (nothing i is)
  where
    nothing : (j : ℕ) → slice_get [] j ≡ Some m → ⊥
    nothing j at = cc
among_at (k ∷ ms) zero m is = let same : k ≡ m = cc in inl (sym same)
among_at (k ∷ ms) (suc i) m is = inr (among_at ms i m is)

-- whatever arrives may come
abbrev pub Arrives : World → Option Arrival → Type 0
Arrives w None = Unit {0}
Arrives w (Some x) = MayCome w x.what

delivered : (h : Hierarchy) (w : World) (o : Option Message) → ((m : Message) → o ≡ Some m → Among m w.sent)
    → Arrives w (delivery h o)
delivered h w None sent = tt
delivered h w (Some m) sent = by (is_between 1 (station_count h) m.to)
  where
    by : (b : Bool) → Arrives w (if b then Some (arrival (Comes m) m.to) else None)
    by true = sent m refl
    by false = tt

given : (w : World) (what : Happening) → MayCome w what → (o : Option ℕ) → Arrives w (option_map (arrival what) o)
given w what may None = tt
given w what may (Some number) = may

at_one : (h : Hierarchy) (w : World) (what : Happening) → Arrives w (arrival_at h what)
at_one h w (Orders o what) = given w (Orders o what) tt (operator_station_of h o)
at_one h w (Reports device s) = by (device == 0)
  where
    by : (b : Bool)
        → Arrives w (if b then None else option_map (arrival (Reports device s))
        (keeper_of h (domain_count h + device)))
    by true = tt
    by false = given w (Reports device s) tt (keeper_of h (domain_count h + device))
at_one h w (Comes m) = tt
at_one h w Ticks = tt

pub arrives : (h : Hierarchy) (w : World) (what : Deed) → Arrives w (arrival_of h w what)
arrives h w (deed.Deliver k) = by (k == 0)
  where
    by : (b : Bool) → Arrives w (if b then None else delivery h (slice_get w.sent (k - 1)))
    by true = tt
    by false = delivered h w (slice_get w.sent (k - 1)) (λ m is. among_at w.sent (k - 1) m is)
arrives h w (deed.Recent j) = delivered h w (sent_before j w.sent) (by (is_some (slice_get w.sent j)))
  where
    by : (b : Bool) (m : Message) → (if b then slice_get w.sent (length w.sent - 1 - j) else None) ≡ Some m
        → Among m w.sent
    by true m is = among_at w.sent (length w.sent - 1 - j) m is
    by false m is = absurd cc
arrives h w (deed.Order o what) = at_one h w (ordered_or_reported o what)
arrives h w (deed.Report device s) = at_one h w (Reports device s)
arrives h w (deed.Tick number) = tt

-- Each item.

not_stopped : (b : Bool) → not b ≡ true → b ≡ false
not_stopped true i = absurd cc
not_stopped false i = refl

module _ (h : Hierarchy) (tree : IsTree h) (past : List Entry) (w : World) (run : Reaches h past w) where
  -- the world goes on to where the turn leads
  abbrev pub Turned : Turn → Type 0
  Turned t = Reaches h (noted t.entries past) t.world

  steps_on : (number : ℕ) (what : Happening) → (w.stations number).is_stopped ≡ false → MayCome w what
      → Turned (stepped w number (after h number (w.stations number) what))
  steps_on number what runs may =
      let out = after h number (w.stations number) what in
      sends_all h (noted (out.kept ++ out.after) past) out.out.datagrams (with_station w number out.station) number
      (goes_on run (steps number what runs may))
      (λ m a. subst (λ s. MaySend h number s m) (sym (put_here w.stations number out.station))
      (speaks h tree past w run number what may m a))

  does : (o : Option Arrival) → Arrives w o → Turned (done_by h w o)
  does None may = run
  does (Some x) may = by (w.stations x.station).is_stopped refl
    where
      by : (b : Bool) → (w.stations x.station).is_stopped ≡ b
          → Turned (if b then nothing w else stepped w x.station (after h x.station (w.stations x.station) x.what))
      by true is = run
      by false is = steps_on x.station x.what is may

  halted : (number : ℕ) (s : Station) → s ≡ record (w.stations number) { is_stopped = true }
      → Reaches h past (record { stations = put w.stations number s; sent = w.sent ++ [] })
  halted number s is =
      quietly h past (with_station w number (record (w.stations number) { is_stopped = true }))
      (put w.stations number s) (ap (put w.stations number) (sym is)) (goes_on run (halts number))

  not_last : (n : ℕ) → (n == last_boot) ≡ false → n ≢ last_boot
  not_last n f i = let j : (n == last_boot) ≡ true = same_number n last_boot i in let k : true ≡ false = sym j ∙ f in cc
    where
      same_number : (a b : ℕ) → a ≡ b → (a == b) ≡ true
      same_number a b e = grind (arith, nat_tests)

  restarts : (number : ℕ) → Turned (restarted h w number [] (w.stations number))
  restarts number = by ((w.stations number).grants.boot == last_boot) refl
    where
      by : (b : Bool) → ((w.stations number).grants.boot == last_boot) ≡ b
          → Turned (if b then changed w number (record (w.stations number) { is_stopped = true }) [] []
          else changed w number (opened h number (w.stations number).grants)
          ([] ++ opening_entries h number (opened h number (w.stations number).grants)) [])
      by true is = halted number (record (w.stations number) { is_stopped = true }) refl
      by false is =
          quietly h (noted (opening_entries h number (opened h number (w.stations number).grants)) past)
          (with_station w number (opened h number (w.stations number).grants))
          (put w.stations number (opened h number (w.stations number).grants)) refl
          (goes_on run (starts number (not_last (w.stations number).grants.boot is)))

  module _ (number : ℕ) (what : Happening) (runs : (w.stations number).is_stopped ≡ false) (may : MayCome w what) where
    abbrev saved : Station
    saved = saved_only h number (w.stations number) what

    abbrev kept : List Entry
    kept = (after h number (w.stations number) what).kept

    stopped_run : Reaches h (noted kept past) (with_station w number saved)
    stopped_run = goes_on run (stops number what runs may)

    stops_on : Turned (changed w number saved kept [])
    stops_on = quietly h (noted kept past) (with_station w number saved) (put w.stations number saved) refl stopped_run

    started_run : (saved.grants.boot == last_boot) ≡ false
        → Reaches h (noted (kept ++ opening_entries h number (opened h number saved.grants)) past)
        (with_station w number (opened h number saved.grants))
    started_run is =
        subst (λ z. Reaches h z (with_station w number (opened h number saved.grants)))
        (sym (noted_both kept (opening_entries h number (opened h number saved.grants)) past))
        (subst (λ z. Reaches h (noted (opening_entries h number (opened h number saved.grants)) (noted kept past))
        (record { stations = z; sent = w.sent })) (put_again w.stations number saved (opened h number saved.grants))
        (subst (λ (s : Station). Reaches h (noted (opening_entries h number (opened h number s.grants))
        (noted kept past)) (with_station (with_station w number saved) number (opened h number s.grants)))
        (put_here w.stations number saved)
        (goes_on stopped_run
        (starts number (subst (λ (s : Station). s.grants.boot ≢ last_boot) (sym (put_here w.stations number saved))
        (not_last saved.grants.boot is))))))

    restarts_behind : Turned (restarted h w number kept saved)
    restarts_behind = by (saved.grants.boot == last_boot) refl
      where
        by : (b : Bool) → (saved.grants.boot == last_boot) ≡ b
            → Turned (if b then changed w number (record saved { is_stopped = true }) kept []
            else changed w number (opened h number saved.grants)
            (kept ++ opening_entries h number (opened h number saved.grants)) [])
        by true is = stops_on
        by false is =
            quietly h (noted (kept ++ opening_entries h number (opened h number saved.grants)) past)
            (with_station w number (opened h number saved.grants))
            (put w.stations number (opened h number saved.grants)) refl (started_run is)

    not_saved : Turned (changed w number (w.stations number) (not_stored what) [])
    not_saved = quietly h (noted (not_stored what) past) w (put w.stations number (w.stations number))
        (sym (put_same w.stations number)) (told what)
      where
        told : (it : Happening) → Reaches h (noted (not_stored it) past) w
        told (Orders o order) = goes_on run (tells o (answer o order 31).told)
        told (Comes m) = run
        told (Reports device s) = run
        told Ticks = run

    fails : (how : Plan) → Turned (failed h w number what how)
    fails plan.Device = not_saved
    fails plan.Before = halted number (record (w.stations number) { is_stopped = true }) refl
    fails plan.After = stops_on

  -- a station that makes a step runs
  at_runs : (number : ℕ) (x : Arrival) → is_at w number (Some x) ≡ true → (w.stations number).is_stopped ≡ false
  at_runs number x is = not_stopped (w.stations number).is_stopped (and_parts (x.station == number) _ is).1

  stops_behind : (number : ℕ) (o : Option Arrival) → Arrives w o → Turned (stopped_behind h w number o)
  stops_behind number None may = restarts number
  stops_behind number (Some x) may = by (is_at w number (Some x)) refl
    where
      by : (b : Bool) → is_at w number (Some x) ≡ b
          → Turned (if b then restarted h w number (after h number (w.stations number) x.what).kept
          (saved_only h number (w.stations number) x.what) else restarted h w number [] (w.stations number))
      by true is = restarts_behind number x.what (at_runs number x is) may
      by false is = restarts number

  fails_at : (number : ℕ) (o : Option Arrival) (how : Plan) → Arrives w o → Turned (failing h w number o how)
  fails_at number None how may = run
  fails_at number (Some x) how may = by (is_at w number (Some x)) refl
    where
      saves : (b : Bool) → (w.stations number).is_stopped ≡ false
          → Turned (if b then failed h w number x.what how else done_by h w (Some x))
      saves true runs = fails number x.what runs may how
      saves false runs = does (Some x) may

      by : (b : Bool) → is_at w number (Some x) ≡ b
          → Turned (if b then (if is_some (after h number (w.stations number) x.what).saved
          then failed h w number x.what how else done_by h w (Some x)) else nothing w)
      by true is = saves (is_some (after h number (w.stations number) x.what).saved) (at_runs number x is)
      by false is = run

  pub turned : (x : Item) → Turned (turn h w x)
  turned (item.Do what) = does (arrival_of h w what) (arrives h w what)
  turned (item.Restart number) = restarts number
  turned (item.Stop number moment.Before what) = restarts number
  turned (item.Stop number moment.After what) = stops_behind number (arrival_of h w what) (arrives h w what)
  turned (item.Fail number how what) = fails_at number (arrival_of h w what) how (arrives h w what)

-- The trace.

entries_both : (xs ys : List Line) → entries_of (xs ++ ys) ≡ entries_of xs ++ entries_of ys
entries_both [] ys = refl
entries_both (line.Entry x ∷ xs) ys = ap (λ z. x ∷ z) (entries_both xs ys)
entries_both (line.Sent n m ∷ xs) ys = entries_both xs ys

entries_mapped : (xs : List Entry) → entries_of (map line.Entry xs) ≡ xs
entries_mapped [] = refl
entries_mapped (x ∷ xs) = ap (λ z. x ∷ z) (entries_mapped xs)

entries_sent : (number : ℕ) (ms : List Message) → entries_of (sent_lines number ms) ≡ []
entries_sent number [] = refl
entries_sent number (m ∷ ms) = entries_sent (number + 1) ms

entries_lines : (w : World) (t : Turn) → entries_of (lines_of w t) ≡ t.entries
entries_lines w t =
    entries_both (map line.Entry t.entries) (sent_lines (length w.sent + 1) t.sends)
    ∙ ap (λ z. z ++ entries_of (sent_lines (length w.sent + 1) t.sends)) (entries_mapped t.entries)
    ∙ ap (λ z. t.entries ++ z) (entries_sent (length w.sent + 1) t.sends)
    ∙ append-nil t.entries

-- the run that a schedule makes
pub record Ends (h : Hierarchy) (past : List Entry) : Type 0 where
  pub world : World
  pub run : Reaches h past world

from_world : (h : Hierarchy) → IsTree h → (items : List Item) (past : List Entry) (w : World) → Reaches h past w
    → Ends h (noted (entries_of (trace_from h w items)) past)
from_world h tree [] past w run = record { world = w; run = run }
from_world h tree (x ∷ items) past w run =
    subst (Ends h) (sym (
    ap (λ z. noted z past) (entries_both (lines_of w (turn h w x)) (trace_from h (turn h w x).world items)
    ∙ ap (λ z. z ++ entries_of (trace_from h (turn h w x).world items)) (entries_lines w (turn h w x)))
    ∙ noted_both (turn h w x).entries (entries_of (trace_from h (turn h w x).world items)) past
    ))
    (from_world h tree items (noted (turn h w x).entries past) (turn h w x).world (turned h tree past w run x))

pub schedule_runs : (h : Hierarchy) → IsTree h → (items : List Item) → Ends h (noted (entries_of (trace_of h items)) [])
schedule_runs h tree items =
    subst (Ends h) (sym (
    ap (λ z. noted z []) (entries_both (map line.Entry (opening_of h)) (trace_from h (first_world h) items)
    ∙ ap (λ z. z ++ entries_of (trace_from h (first_world h) items)) (entries_mapped (opening_of h)))
    ∙ noted_both (opening_of h) (entries_of (trace_from h (first_world h) items)) []
    ))
    (from_world h tree items (noted (opening_of h) []) (first_world h) opens)
