-- In every run every domain relates to the trace as it should.
use Rattle.std.proofs.Common.{ℕ, ◌≡◌, true, false, List, [], inl, inr, refl, sym, subst, arith}
use Rattle.std.specs.Prelude.{◌==◌, Option, Some, None}
use Rattle.std.specs.List.{range_with_len}
use Rattle.std.proofs.lemmas.Bool.{eqb-true}
use Rattle.std.proofs.lemmas.Bool.Decides.{nat_tests}
use Rattle.smi_grant.specs.declared.Command.{Command}
use Rattle.smi_grant.specs.declared.Command.TheVariants.{Do}
use Rattle.smi_tree.specs.Hierarchy.{Hierarchy}
use Rattle.smi_tree.specs.Lookups.{station_count}
use Rattle.smi_grant.proofs.Holders.{either}
use Rattle.smi_protocol.specs.Display.{Station}
use Rattle.smi_protocol.specs.Happening.{Happening}
use Rattle.smi_protocol.specs.Messages.{home}
use Rattle.smi_protocol.specs.Opening.{opened, opening_entries, saved_only}
use Rattle.smi_protocol.specs.Refusals.{refusal_of}
use Rattle.smi_protocol.specs.Step.{answered_or, after as after_happening}
use Rattle.smi_protocol.specs.declared.Entry.{Entry}
use Rattle.smi_law.specs.Known.{record_in}
use Rattle.smi_protocol.specs.Schedule.{World, first_world, opening_of}
use Rattle.smi_law.specs.World.{MayCome, with_station, noted, Step, sends, steps, stops, tells, halts, starts}
use Rattle.smi_law.specs.World.{Reaches, opens, goes_on}
use Rattle.smi_law.proofs.Displayed.{AllDisplay, aside_display, after_display, opening_display, openings_display}
use Rattle.smi_law.proofs.GrantsSafe.{safely}
use Rattle.smi_law.proofs.OrdersLogged.{AllLogged, logged}
use Rattle.smi_law.proofs.Quiet.{noted_both}
use Rattle.smi_law.proofs.Traces.{Safely}
use Rattle.smi_law.proofs.Viewed.{Viewed, viewed}
use Rattle.smi_law.proofs.Working.{At, all_aside, SameAt, same_at, moved_at}
use Rattle.smi_law.proofs.WorkSteps.{Working, step_local}

working_display : (h : Hierarchy) (w : World) (new past : List Entry) → AllDisplay new → Working h past w
    → Working h (noted new past) w
working_display h w new past d k = record {
  now = k.now;
  at = λ p. all_aside h k.now new past (w.stations (home h p)).grants p (aside_display h p (record_in h w p) new d)
      (k.at p);
}

-- what one station does, said of the world
working_with : (h : Hierarchy) (w : World) (number : ℕ) (s : Station) (trace : List Entry) (next : ℕ → Command)
    → ((p : ℕ) → home h p ≡ number → At h next trace s.grants p)
    → ((p : ℕ) → (home h p ≡ number → ⊥) → At h next trace (w.stations (home h p)).grants p)
    → Working h trace (with_station w number s)
working_with h w number s trace next here there = record {
  now = next;
  at = λ p. elim (either (home h p == number)) [
    | inl t ↦ rw t (here p (eqb-true (home h p) number t))
    | inr f ↦ rw f (there p (other (home h p) number f))
  ];
}
  where
    other : (m n : ℕ) → (m == n) ≡ false → m ≡ n → ⊥
    other m n f i = grind (arith, nat_tests)

-- grants that are the same for every domain
same_grants : (h : Hierarchy) (w : World) (number : ℕ) (s : Station) (past : List Entry)
    → ((p : ℕ) → SameAt h (w.stations number).grants s.grants p) → Working h past w
    → Working h past (with_station w number s)
same_grants h w number s past same k =
    working_with h w number s past k.now
    (λ p e. moved_at h k.now past (w.stations number).grants s.grants p (same p)
    (subst (λ z. At h k.now past (w.stations z).grants p) e (k.at p)))
    (λ p o. k.at p)

kept_works : (h : Hierarchy) (w : World) (number : ℕ) (what : Happening) (past : List Entry) → MayCome w what
    → Viewed h w → Safely h past w → AllLogged h past w → Working h past w → (o : Option ℕ)
    → refusal_of h number (w.stations number).grants what ≡ o
    → (s : Station) → s.grants ≡ (answered_or h number (w.stations number) what o).station.grants
    → Working h (noted (answered_or h number (w.stations number) what o).kept past) (with_station w number s)
kept_works h w number what past may v safe l k (Some code) is s same =
    same_grants h w number s past (λ p. subst (λ z. SameAt h (w.stations number).grants z p) (sym same)
    (same_at h (w.stations number).grants p)) k
kept_works h w number what past may v safe l k None is s same =
    let on = step_local h w number past v safe l k what may is in
    let trace = noted (answered_or h number (w.stations number) what None).kept past in
    working_with h w number s trace on.next (λ p e. subst (λ z. At h on.next trace z p) (sym same) (on.here p e))
    on.there

step_works : (h : Hierarchy) (past : List Entry) (w : World) (new : List Entry) (next : World) → Step h w new next
    → Viewed h w → Safely h past w → AllLogged h past w → Working h past w → Working h (noted new past) next
step_works h past w new next (sends number m may) v safe l k = record { now = k.now; at = k.at }
step_works h past w new next (steps number what runs may) v safe l k =
    let o = refusal_of h number (w.stations number).grants what in
    let out = after_happening h number (w.stations number) what in
    subst (λ z. Working h z (with_station w number out.station)) (sym (noted_both out.kept out.after past))
    (working_display h (with_station w number out.station) out.after (noted out.kept past)
    (after_display h number (w.stations number) what o)
    (kept_works h w number what past may v safe l k o refl out.station refl))
step_works h past w new next (stops number what runs may) v safe l k =
    let o = refusal_of h number (w.stations number).grants what in
    kept_works h w number what past may v safe l k o refl (saved_only h number (w.stations number) what) refl
step_works h past w new next (tells o what) v safe l k = working_display h w new past (tt, tt) k
step_works h past w new next (halts number) v safe l k =
    same_grants h w number (record (w.stations number) { is_stopped = true }) past
    (λ p. same_at h (w.stations number).grants p) k
step_works h past w new next (starts number boots) v safe l k =
    let started = opened h number (w.stations number).grants in
    working_display h (with_station w number started) (opening_entries h number started) past
    (opening_display h number started)
    (same_grants h w number started past (λ p. record { record_ = refl; links = λ x. refl; modes = λ x child. refl }) k)

-- nothing is at work at the opening
first_works : (h : Hierarchy) → Working h [] (first_world h)
first_works h = record {
  now = λ p. Do 0;
  at = λ p. record {
    work = λ busy. absurd cc;
    rest = λ quiet x child. refl;
    handed = λ x e n c more child is. absurd cc;
    ordered = λ o busy mine. absurd cc;
    same = λ q busy mine. absurd cc;
    modes = λ x e n pending child is. absurd cc;
    included = λ x child is. refl;
  };
}

pub works : (h : Hierarchy) (past : List Entry) (w : World) → Reaches h past w → Working h past w
works h past w opens = working_display h (first_world h) (opening_of h) []
    (openings_display h (range_with_len 1 (station_count h))) (first_works h)
works h past w (goes_on {past = before} {new = new} {w = old} {next = next} run step) =
    step_works h before old new next step (viewed h before old run) (safely h before old run)
    (logged h before old run) (works h before old run)
