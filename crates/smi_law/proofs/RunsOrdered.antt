-- Every step of the world keeps runs in order.
use Rattle.std.proofs.Common.{ℕ, ◌≡◌, ◌+◌, true, List, [], ◌∷◌, refl, sym, ap, ◌∙◌, subst}
use Rattle.std.specs.Prelude.{Option, Some, None}
use Rattle.std.specs.List.{range_with_len}
use Rattle.smi_grant.specs.declared.Holder.{Holder}
use Rattle.smi_grant.specs.Keeper.{handed}
use Rattle.smi_grant.specs.Record.{Standing}
use Rattle.smi_message.specs.declared.Body.{Body}
use Rattle.smi_tree.specs.Hierarchy.{Hierarchy}
use Rattle.smi_tree.specs.Lookups.{station_count}
use Rattle.smi_protocol.specs.Display.{Station}
use Rattle.smi_protocol.specs.Grants.{put}
use Rattle.smi_protocol.specs.Happening.{Happening}
use Rattle.smi_protocol.specs.Messages.{home}
use Rattle.smi_protocol.specs.Opening.{opened, opening_entries, saved_only}
use Rattle.smi_protocol.specs.Refusals.{refusal_of}
use Rattle.smi_protocol.specs.Step.{answered_or, after as after_happening}
use Rattle.smi_protocol.specs.declared.Entry.{Entry}
use Rattle.smi_protocol.specs.declared.Entry.TheVariants as entry
use Rattle.smi_law.specs.Known.{record_in}
use Rattle.smi_law.specs.Safe.{RunsInOrder}
use Rattle.smi_protocol.specs.Schedule.{World, first_world, opening_of}
use Rattle.smi_law.specs.World.{with_station, noted, Step, sends, steps, stops, tells, halts, starts, Reaches, opens}
use Rattle.smi_law.specs.World.{goes_on}
use Rattle.smi_law.proofs.Displayed.{none_display, after_display, opening_display, openings_display}
use Rattle.smi_law.proofs.GrantKinds.{put_here}
use Rattle.smi_law.proofs.Moves.{at_put}
use Rattle.smi_law.proofs.Quiet.{noted_both}
use Rattle.smi_law.proofs.RunOrder.{Counted, OneRecord, nothing_under, counted_none, counted_same, counted_handed}
use Rattle.smi_law.proofs.RunOrder.{counted_run}
use Rattle.smi_law.proofs.RunSteps.{HasCome, SameLast, same_last, OthersLast, RunStep, no_run, hands, next_run}
use Rattle.smi_law.proofs.RunSteps.{step_run}

-- What a station does, said of the world.

module _ (h : Hierarchy) (w : World) (number : ℕ) (s : Station) where
  world_last : ((d : ℕ) → SameLast ((w.stations number).grants.records d) (s.grants.records d)) → (d : ℕ)
      → SameLast (record_in h w d) (record_in h (with_station w number s) d)
  world_last same d =
      at_put (λ z. SameLast (record_in h w d) (z.grants.records d)) w.stations number s (home h d)
      (λ e. subst (λ z. SameLast ((w.stations z).grants.records d) (s.grants.records d)) (sym e) (same d))
      (same_last (record_in h w d))

  world_others : (x : ℕ) → OthersLast (w.stations number).grants s.grants x → (d : ℕ) → (d ≡ x → ⊥)
      → SameLast (record_in h w d) (record_in h (with_station w number s) d)
  world_others x others d o =
      at_put (λ z. SameLast (record_in h w d) (z.grants.records d)) w.stations number s (home h d)
      (λ e. subst (λ z. SameLast ((w.stations z).grants.records d) (s.grants.records d)) (sym e) (others d o))
      (same_last (record_in h w d))

  record_here : (x : ℕ) → home h x ≡ number → record_in h (with_station w number s) x ≡ s.grants.records x
  record_here x e = ap (λ z. (put w.stations number s z).grants.records x) e
      ∙ ap (λ z. z.grants.records x) (put_here w.stations number s)

  record_before : (x : ℕ) → home h x ≡ number → (w.stations number).grants.records x ≡ record_in h w x
  record_before x e = ap (λ z. (w.stations z).grants.records x) (sym e)

  one_handed : (x : ℕ) (who : Holder) → home h x ≡ number
      → s.grants.records x ≡ handed ((w.stations number).grants.records x) who
      → OthersLast (w.stations number).grants s.grants x
      → OneRecord h w (with_station w number s) x ((record_in h w x).epoch + 1) 0
  one_handed x who e is others = record {
    epoch_ = ap (λ (r : Standing). r.epoch) (record_here x e ∙ is)
        ∙ ap (λ (r : Standing). r.epoch + 1) (record_before x e);
    last_ = ap (λ (r : Standing). r.last) (record_here x e ∙ is);
    others = world_others x others;
  }

  one_run : (x n : ℕ) → home h x ≡ number → (s.grants.records x).epoch ≡ ((w.stations number).grants.records x).epoch
      → (s.grants.records x).last ≡ n → OthersLast (w.stations number).grants s.grants x
      → OneRecord h w (with_station w number s) x (record_in h w x).epoch n
  one_run x n e epoch last others = record {
    epoch_ = ap (λ (r : Standing). r.epoch) (record_here x e) ∙ epoch
        ∙ ap (λ (r : Standing). r.epoch) (record_before x e);
    last_ = ap (λ (r : Standing). r.last) (record_here x e) ∙ last;
    others = world_others x others;
  }

counted_step : (h : Hierarchy) (w : World) (number : ℕ) (s : Station) (came : Body → Type 0) (new past : List Entry)
    → RunStep h number came (w.stations number).grants s.grants new → Counted h past w
    → Counted h (noted new past) (with_station w number s)
counted_step h w number s came new past (no_run all none same) c =
    counted_none h (with_station w number s) all past none
    (counted_same h w (with_station w number s) past (world_last h w number s same) c)
counted_step h w number s came new past (hands all none x who e is others) c =
    counted_none h (with_station w number s) all past none
    (counted_handed h w (with_station w number s) past x (one_handed h w number s x who e is others) c)
counted_step h w number s came new past (next_run x n k more cause none e epoch last numbered others) c =
    let same = record_before h w number s x e in
    subst (λ (r : Standing). Counted h (noted more (entry.Ran x r.epoch n k ∷ past)) (with_station w number s))
    (sym same)
    (counted_none h (with_station w number s) more (entry.Ran x (record_in h w x).epoch n k ∷ past) none
    (counted_run h w (with_station w number s) past x n k (numbered ∙ ap (λ (r : Standing). r.last + 1) same)
    (one_run h w number s x n e epoch last others) c))

pub kept_run : (h : Hierarchy) (w : World) (number : ℕ) (what : Happening) (o : Option ℕ)
    → refusal_of h number (w.stations number).grants what ≡ o
    → RunStep h number (HasCome what) (w.stations number).grants
    (answered_or h number (w.stations number) what o).station.grants
    (answered_or h number (w.stations number) what o).kept
kept_run h w number what (Some code) is = no_run [] tt (λ d. same_last ((w.stations number).grants.records d))
kept_run h w number what None is = step_run h number (w.stations number).grants what is

-- Every step, and every run.

step_counted : (h : Hierarchy) (past : List Entry) (w : World) (new : List Entry) (next : World) → Step h w new next
    → Counted h past w → Counted h (noted new past) next
step_counted h past w new next (sends number m may) c = record { count = c.count; bound = c.bound; order = c.order }
step_counted h past w new next (steps number what runs may) c =
    let o = refusal_of h number (w.stations number).grants what in
    let out = after_happening h number (w.stations number) what in
    subst (λ z. Counted h z (with_station w number out.station)) (sym (noted_both out.kept out.after past))
    (counted_none h (with_station w number out.station) out.after (noted out.kept past)
    (none_display out.after (after_display h number (w.stations number) what o))
    (counted_step h w number out.station (HasCome what) out.kept past (kept_run h w number what o refl) c))
step_counted h past w new next (stops number what runs may) c =
    let o = refusal_of h number (w.stations number).grants what in
    counted_step h w number (saved_only h number (w.stations number) what) (HasCome what)
    (after_happening h number (w.stations number) what).kept past (kept_run h w number what o refl) c
step_counted h past w new next (tells o what) c = counted_none h w new past (tt, tt) c
step_counted h past w new next (halts number) c =
    counted_step h w number (record (w.stations number) { is_stopped = true }) (λ b. ⊥) [] past
    (no_run [] tt (λ d. same_last ((w.stations number).grants.records d))) c
step_counted h past w new next (starts number boots) c =
    let started = opened h number (w.stations number).grants in
    counted_step h w number started (λ b. ⊥) (opening_entries h number started) past
    (no_run (opening_entries h number started)
    (none_display (opening_entries h number started) (opening_display h number started))
    (λ d. same_last ((w.stations number).grants.records d))) c

pub counted : (h : Hierarchy) (past : List Entry) (w : World) → Reaches h past w → Counted h past w
counted h past w opens =
    counted_none h (first_world h) (opening_of h) []
    (none_display (opening_of h) (openings_display h (range_with_len 1 (station_count h))))
    (record { count = λ d. nothing_under d 0; bound = λ d f m k a. absurd a; order = tt })
counted h past w (goes_on {past = before} {new = new} {w = old} {next = next} run step) =
    step_counted h before old new next step (counted h before old run)

pub runs_in_order : (h : Hierarchy) (past : List Entry) (w : World) → Reaches h past w → RunsInOrder past
runs_in_order h past w run = (counted h past w run).order
