-- In every run the trace of grants is safe.
use Rattle.std.proofs.Common.{ℕ, ◌≡◌, true, false, List, [], inl, inr, refl, sym, ap, ◌∙◌, subst}
use Rattle.std.specs.Prelude.{Option, Some, None, unwrap_or}
use Rattle.std.specs.List.{range_with_len}
use Rattle.smi_grant.specs.declared.Holder.{Holder}
use Rattle.smi_grant.specs.declared.Holder.TheVariants.{Free}
use Rattle.smi_message.specs.declared.Body.{Body}
use Rattle.smi_message.specs.declared.Body.TheVariants as body
use Rattle.smi_message.specs.Message.{Message}
use Rattle.smi_tree.specs.Hierarchy.{Hierarchy}
use Rattle.smi_tree.specs.Lookups.{station_count}
use Rattle.smi_command.proofs.Waiting.{due_drop}
use Rattle.smi_protocol.specs.Happening.{Happening}
use Rattle.smi_protocol.specs.Opening.{opened, opening_entries, saved_only}
use Rattle.smi_protocol.specs.Refusals.{refusal_of}
use Rattle.smi_protocol.specs.Sending.{MaySay}
use Rattle.smi_protocol.specs.Step.{answered_or, after as after_happening}
use Rattle.smi_protocol.specs.declared.Entry.{Entry}
use Rattle.smi_protocol.specs.declared.Entry.TheVariants as entry
use Rattle.smi_law.specs.Known.{holder_home}
use Rattle.smi_law.specs.Safe.{SafeGrants}
use Rattle.smi_protocol.specs.Schedule.{World, first_world, opening_of}
use Rattle.smi_law.specs.Trace.{Stands, epoch_at, holder_at, has_learned}
use Rattle.smi_law.specs.World.{MayCome, with_station, with_sent, noted, Step, sends, steps, stops, tells, halts}
use Rattle.smi_law.specs.World.{starts, Reaches, opens, goes_on}
use Rattle.smi_law.proofs.Changes.{same_grant, same_link}
use Rattle.smi_law.proofs.Displayed.{quiet_display, after_display, opening_display, openings_display}
use Rattle.smi_law.proofs.GrantKinds.{GrantKind, silently, kind_safely}
use Rattle.smi_law.proofs.Quiet.{noted_both}
use Rattle.smi_law.proofs.StepKinds.{step_kind}
use Rattle.smi_law.proofs.Traces.{Traces, Safely, safely_quiet, one_commander}
use Rattle.smi_law.proofs.Viewed.{Viewed, step_viewed, viewed, sent_or}

-- An event of a station.

kept_kind : (h : Hierarchy) (w : World) (number : ℕ) (what : Happening) → MayCome w what → Viewed h w
    → (o : Option ℕ) → refusal_of h number (w.stations number).grants what ≡ o
    → GrantKind h number w.sent (w.stations number).grants
    (answered_or h number (w.stations number) what o).station.grants
    (answered_or h number (w.stations number) what o).kept
kept_kind h w number what may v (Some code) is =
    silently [] tt (λ d. same_grant ((w.stations number).grants.records d))
    (λ me d. same_link ((w.stations number).grants.links me d))
kept_kind h w number what may v None is = step_kind h w number what may v is

-- The opening.

no_epoch : (d : ℕ) → epoch_at d [] ≡ 0
unfolding epoch_at
no_epoch d = refl

no_holder : (h : Hierarchy) (d : ℕ) → holder_at d [] ≡ Free
unfolding holder_at
no_holder h d = refl

no_learned : (me : Holder) (d e : ℕ) → has_learned me d e [] ≡ false
unfolding has_learned
no_learned me d e = refl

first_traces : (h : Hierarchy) → Traces h [] (first_world h)
first_traces h = record {
  epoch = no_epoch;
  holder = no_holder h;
  learned = no_learned;
  once = λ me d e a. absurd a;
  let_go = λ me d e i. absurd cc;
  dropped = λ m me d e a b. absurd a;
}

-- A datagram is sent.

module _ (h : Hierarchy) (past : List Entry) (w : World) (number : ℕ) (m : Message)
    (may : MaySay h number (w.stations number) m.to m.body) (t : Traces h past w) where
  drop_left : (me : Holder) (d e : ℕ) (b : Body) → b ≡ body.Drop d me e → MaySay h number (w.stations number) m.to b
      → Stands (entry.LetGo me d e) past
  drop_left me d e b is may' = gone (subst (λ z. MaySay h number (w.stations number) m.to z) is may')
    where
      gone : MaySay h number (w.stations number) m.to (body.Drop d me e) → Stands (entry.LetGo me d e) past
      gone may'' =
          let at : holder_home h me ≡ number = ap (λ o. unwrap_or o 0) may''.1.0 in
          t.let_go me d e (ap (λ z. (w.stations z).grants.links me d) at
          ∙ due_drop ((w.stations number).grants.links me d) may''.1.1.0 e may''.1.1.1)

  sent_traces : Traces h past (with_sent w m)
  sent_traces = record {
    epoch = t.epoch;
    holder = t.holder;
    learned = t.learned;
    once = t.once;
    let_go = t.let_go;
    dropped = λ k me d e a b. elim (sent_or k m w.sent a) [
      | inl old ↦ t.dropped k me d e old b
      | inr same ↦ drop_left me d e m.body (ap (λ (z : Message). z.body) (sym same) ∙ b) may
    ];
  }

-- Every step, and every run.

step_safely : (h : Hierarchy) (past : List Entry) (w : World) (new : List Entry) (next : World) → Step h w new next
    → Viewed h w → Viewed h next → Safely h past w → Safely h (noted new past) next
step_safely h past w new next (sends number m may) v n s =
    record { traces = sent_traces h past w number m may.2 s.traces; safe = s.safe }
step_safely h past w new next (steps number what runs may) v n s =
    let o = refusal_of h number (w.stations number).grants what in
    let out = after_happening h number (w.stations number) what in
    subst (λ z. Safely h z (with_station w number out.station)) (sym (noted_both out.kept out.after past))
    (safely_quiet h (with_station w number out.station) n out.after (noted out.kept past)
    (quiet_display out.after (after_display h number (w.stations number) what o))
    (kind_safely h past w number out.station out.kept (kept_kind h w number what may v o refl) v n s))
step_safely h past w new next (stops number what runs may) v n s =
    let o = refusal_of h number (w.stations number).grants what in
    kind_safely h past w number (saved_only h number (w.stations number) what)
    (after_happening h number (w.stations number) what).kept (kept_kind h w number what may v o refl) v n s
step_safely h past w new next (tells o what) v n s = safely_quiet h w v new past (tt, tt) s
step_safely h past w new next (halts number) v n s =
    kind_safely h past w number (record (w.stations number) { is_stopped = true }) []
    (silently [] tt (λ d. same_grant ((w.stations number).grants.records d))
    (λ me d. same_link ((w.stations number).grants.links me d))) v n s
step_safely h past w new next (starts number boots) v n s =
    let started = opened h number (w.stations number).grants in
    kind_safely h past w number started (opening_entries h number started)
    (silently (opening_entries h number started)
    (quiet_display (opening_entries h number started) (opening_display h number started))
    (λ d. same_grant ((w.stations number).grants.records d))
    (λ me d. same_link ((w.stations number).grants.links me d))) v n s

pub safely : (h : Hierarchy) (past : List Entry) (w : World) → Reaches h past w → Safely h past w
safely h past w opens =
    let v = viewed h past w opens in
    safely_quiet h (first_world h) v (opening_of h) []
    (quiet_display (opening_of h) (openings_display h (range_with_len 1 (station_count h))))
    (record { traces = first_traces h; safe = one_commander h [] (first_world h) v (first_traces h) })
safely h past w (goes_on {past = before} {new = new} {w = old} {next = next} run step) =
    let v = viewed h before old run in
    step_safely h before old new next step v (step_viewed h old new next step v) (safely h before old run)

pub safe_grants : (h : Hierarchy) (past : List Entry) (w : World) → Reaches h past w → SafeGrants h past
safe_grants h past w run = (safely h past w run).safe
