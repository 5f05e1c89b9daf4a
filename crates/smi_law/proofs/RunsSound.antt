-- In every trace each command that runs is backed up to the operator who ordered it.
use Rattle.std.proofs.Common.{ℕ, zero, suc, ◌≡◌, ◌<◌, ◌+◌, true, false, List, [], ◌∷◌, inl, inr, refl, sym, ap, ◌∙◌}
use Rattle.std.proofs.Common.{subst, arith}
use Rattle.std.specs.Prelude.{◌==◌, Some}
use Rattle.std.specs.List.{range_with_len}
use Rattle.smi_grant.specs.declared.Command.{Command}
use Rattle.smi_grant.specs.declared.Holder.{Holder}
use Rattle.smi_grant.specs.declared.Holder.TheVariants.{Free, Operator, Domain}
use Rattle.smi_grant.specs.Holder.{is_free}
use Rattle.smi_grant.specs.Record.{Standing, is_settled}
use Rattle.smi_message.specs.declared.Body.{Body}
use Rattle.smi_message.specs.declared.Body.TheVariants as body
use Rattle.smi_message.specs.Message.{Message}
use Rattle.smi_tree.specs.Hierarchy.{Hierarchy}
use Rattle.smi_tree.specs.Lookups.{station_count, parent_of}
use Rattle.smi_command.specs.declared.Due.TheVariants as due
use Rattle.smi_command.specs.declared.Link.TheVariants.{Held}
use Rattle.smi_command.specs.KnownGrant.{Waits}
use Rattle.smi_grant.proofs.Holders.{either}
use Rattle.smi_command.specs.Link.{is_unsettled}
use Rattle.smi_protocol.specs.Children.{is_commanded}
use Rattle.smi_protocol.specs.Display.{Station}
use Rattle.smi_protocol.specs.Happening.{Happening, Comes, Orders, Reports, Ticks}
use Rattle.smi_protocol.specs.Opening.{opened, opening_entries, saved_only}
use Rattle.smi_protocol.specs.Refusals.{refusal_of}
use Rattle.smi_protocol.specs.Step.{after as after_happening}
use Rattle.smi_protocol.specs.declared.Entry.{Entry}
use Rattle.smi_protocol.specs.declared.Entry.TheVariants.{Booted, Granted, Freed, Ordered, Ran, Learned, LetGo}
use Rattle.smi_protocol.specs.declared.Entry.TheVariants.{InMode, Settled, Showed, Passed, Told}
use Rattle.smi_law.specs.Known.{record_in, link_in}
use Rattle.smi_law.specs.Safe.{IsGrantNow, Backed, by_operator, by_parent, SoundRuns}
use Rattle.smi_protocol.specs.Schedule.{World, opening_of}
use Rattle.smi_law.specs.Trace.{epoch_at, has_learned, orders_of, mode_at, InWork}
use Rattle.smi_law.specs.World.{Among as IsSent, MayCome, noted, Step, sends, steps, stops, tells, halts, starts}
use Rattle.smi_law.specs.World.{Reaches, opens, goes_on}
use Rattle.smi_law.proofs.Displayed.{none_display, after_display, opening_display, openings_display}
use Rattle.smi_law.proofs.GrantsSafe.{safely}
use Rattle.smi_law.proofs.KnownFacts.{known_sent}
use Rattle.smi_law.proofs.OrdersLogged.{AllLogged, logged}
use Rattle.smi_law.proofs.OrderSteps.{orders_issued}
use Rattle.smi_law.proofs.Parents.{held_by_parent}
use Rattle.smi_law.proofs.Quiet.{noted_both, epoch_quiet, holder_quiet, learned_quiet}
use Rattle.smi_law.proofs.RunsOrdered.{kept_run}
use Rattle.smi_law.proofs.RunSteps.{IsNoRun, NoRuns, HasCome, RunStep, no_run, hands, next_run}
use Rattle.smi_law.proofs.Traces.{Safely, holds_at}
use Rattle.smi_law.proofs.Viewed.{Viewed, viewed, view_fits}
use Rattle.smi_law.proofs.Views.{Fair, fair_request}
use Rattle.smi_law.proofs.Works.{works}
use Rattle.smi_law.proofs.WorkSteps.{Working, Pending, busy_pending, free_settled, waiting_pending, waiting_one}
use Rattle.smi_law.proofs.Moves.{number_self}

-- A run entry leaves what is backed so.

orders_ran : (o d e n x f m : ℕ) (c : Command) (past : List Entry)
    → orders_of o d e n (Ran x f m c ∷ past) ≡ orders_of o d e n past
unfolding orders_of
orders_ran o d e n x f m c past = refl

mode_ran : (who : Holder) (d e x f m : ℕ) (c : Command) (past : List Entry)
    → mode_at who d e (Ran x f m c ∷ past) ≡ mode_at who d e past
unfolding mode_at
mode_ran who d e x f m c past = refl

work_ran : (d e n : ℕ) (c : Command) (x f m : ℕ) (k : Command) (past : List Entry) → InWork d e n c past
    → InWork d e n c (Ran x f m k ∷ past)
unfolding InWork
work_ran d e n c x f m k past i = inr i

grant_ran : (d e : ℕ) (who : Holder) (x f m : ℕ) (k : Command) (past : List Entry) → IsGrantNow d e who past
    → IsGrantNow d e who (Ran x f m k ∷ past)
grant_ran d e who x f m k past g =
    let now : Entry = Ran x f m k in (
      g.0 ∙ sym (epoch_quiet d now past tt),
      holder_quiet d now past tt ∙ g.1,
      ap (λ z. has_learned who d z (now ∷ past)) (epoch_quiet d now past tt)
          ∙ learned_quiet who d (epoch_at d past) now past tt ∙ g.2,
    )

backed_ran : (h : Hierarchy) (past : List Entry) (x f m : ℕ) (k : Command) (d e n : ℕ) (c : Command)
    → Backed h past d e n c → Backed h (Ran x f m k ∷ past) d e n c
backed_ran h past x f m k d e n c (by_operator o grant ordered) =
    by_operator o (grant_ran d e (Operator o) x f m k past grant) (orders_ran o d e n x f m k past ∙ ordered)
backed_ran h past x f m k d e n c (by_parent p g i grant parent commanded work forwards backed) =
    by_parent p g i (grant_ran d e (Domain p) x f m k past grant) parent
    (ap is_commanded (mode_ran (Domain p) d e x f m k past) ∙ commanded)
    (work_ran p g i c x f m k past work) forwards (backed_ran h past x f m k p g i c backed)

-- What is pending on a holder's link is backed, all the way up.

module _ (h : Hierarchy) (parents : (d p : ℕ) → parent_of h d ≡ Some p → p < d) (past : List Entry) (w : World)
    (v : Viewed h w) (s : Safely h past w) (k : Working h past w) where
  -- a link that is held is of the current grant
  grant_now : (d e n : ℕ) (p : List Command) (who : Holder) → (record_in h w d).holder ≡ who
      → e ≡ (record_in h w d).epoch → link_in h w who d ≡ Held e n p → IsGrantNow d e who past
  grant_now d e n p who holder epoch is = (
    epoch ∙ sym (s.traces.epoch d),
    s.traces.holder d ∙ holder,
    s.traces.learned who d (epoch_at d past) ∙ ap (λ z. holds_at z (epoch_at d past)) is
        ∙ ap (λ z. e == z) (s.traces.epoch d ∙ sym epoch) ∙ number_self e,
  )

  -- a domain that has handed something on is busy
  is_busy : (d q e n : ℕ) (c : Command) (more : List Command) → parent_of h d ≡ Some q
      → link_in h w (Domain q) d ≡ Held e n (c ∷ more) → is_settled (record_in h w q).phase ≡ false
  is_busy d q e n c more parent is = elim (either (is_settled (record_in h w q).phase)) [
    | inl t ↦ let i : true ≡ false = ap is_unsettled (sym is) ∙ (k.at q).rest t d parent in absurd cc
    | inr f ↦ f
  ]

  -- a domain is backed in what its parent handed to it, if the parent is in what it does
  from_parent : (d q e n m : ℕ) (c : Command) (more : List Command) → (record_in h w d).holder ≡ Domain q
      → e ≡ (record_in h w d).epoch → link_in h w (Domain q) d ≡ Held e n (c ∷ more)
      → (is_settled (record_in h w q).phase ≡ false
      → Backed h past q (record_in h w q).epoch (record_in h w q).last (k.now q)) → Backed h past d e m c
  from_parent d q e n m c more holder epoch is above =
      let parent = held_by_parent h past w s d q holder in
      let on = (k.at q).handed d e n c more parent is in
      let busy = is_busy d q e n c more parent is in
      by_parent q (record_in h w q).epoch (record_in h w q).last
      (grant_now d e n (c ∷ more) (Domain q) holder epoch is)
      parent
      (ap is_commanded ((k.at q).modes d e n (c ∷ more) parent is) ∙ on.commanded)
      (subst (λ z. InWork q (record_in h w q).epoch (record_in h w q).last z past) (sym on.command)
      ((k.at q).work busy))
      on.forwards
      (subst (λ z. Backed h past q (record_in h w q).epoch (record_in h w q).last z) (sym on.command) (above busy))

  pending_of_busy : (d : ℕ) (who : Holder) → is_free who ≡ false → (record_in h w d).holder ≡ who
      → is_settled (record_in h w d).phase ≡ false → Pending (link_in h w who d) (record_in h w d).epoch
  pending_of_busy d who party holder busy =
      let f = view_fits h w d who party (v.each d who) in
      busy_pending (record_in h w d) who (link_in h w who d) f.lawful f.link holder busy

  abbrev Above : ℕ → Type 0
  Above d = (q : ℕ) → parent_of h d ≡ Some q → is_settled (record_in h w q).phase ≡ false
      → Backed h past q (record_in h w q).epoch (record_in h w q).last (k.now q)

  -- the command at work in a busy domain is backed
  pub at_work : (fuel d : ℕ) → d < fuel → is_settled (record_in h w d).phase ≡ false
      → Backed h past d (record_in h w d).epoch (record_in h w d).last (k.now d)
  at_work zero d less busy = absurd (omega (arith, less))
  at_work (suc fuel) d less busy = by (record_in h w d).holder refl
      (λ q parent. let below = parents d q parent in at_work fuel q (omega (arith, less, below)))
    where
      by : (who : Holder) → (record_in h w d).holder ≡ who → Above d
          → Backed h past d (record_in h w d).epoch (record_in h w d).last (k.now d)
      by Free holder above =
          let f = view_fits h w d (Operator 1) refl (v.each d (Operator 1)) in
          let i : true ≡ false = sym (free_settled (record_in h w d) f.lawful (ap is_free holder)) ∙ busy in
          absurd cc
      by (Operator o) holder above =
          let p = pending_of_busy d (Operator o) refl holder busy in
          by_operator o (grant_now d (record_in h w d).epoch p.number (p.command ∷ p.more) (Operator o) holder refl
          p.is) ((k.at d).ordered o busy holder)
      by (Domain q) holder above =
          let p = pending_of_busy d (Domain q) refl holder busy in
          let parent = held_by_parent h past w s d q holder in
          let on = (k.at q).handed d (record_in h w d).epoch p.number p.command p.more parent p.is in
          subst (λ z. Backed h past d (record_in h w d).epoch (record_in h w d).last z)
          (on.command ∙ sym ((k.at d).same q busy holder))
          (from_parent d q (record_in h w d).epoch p.number (record_in h w d).last p.command p.more holder refl p.is
          (above q parent))

  -- a command that was sent and is next is backed
  module _ (l : AllLogged h past w) (d n : ℕ) (c : Command) (m : Message) (sent : IsSent m w.sent)
      (next : n ≡ (record_in h w d).last + 1) where
    waits : (who : Holder) → is_free who ≡ false → m.body ≡ body.Run d who (record_in h w d).epoch n c
        → Waits (link_in h w who d) (record_in h w d).epoch n c
    waits who party is = elim (known_sent h w d who m (record_in h w d).epoch n c party v sent is) [
      | inl spent ↦
          absurd (elim spent [ inl over ↦ omega (arith, over) | inr ran ↦ let a = ran.1 in omega (arith, a, next) ])
      | inr w' ↦ w'
    ]

    next_backed : (who : Holder) → is_free who ≡ false → (record_in h w d).holder ≡ who
        → m.body ≡ body.Run d who (record_in h w d).epoch n c → Backed h past d (record_in h w d).epoch n c
    next_backed Free party holder is = absurd cc
    next_backed (Operator o) party holder is =
        let wait = waits (Operator o) party is in
        by_operator o (grant_now d (record_in h w d).epoch wait.newest wait.pending (Operator o) holder refl wait.is)
        (orders_issued o d (record_in h w d).epoch n past ∙ (l o d).now (record_in h w d).epoch n c wait)
    next_backed (Domain q) party holder is =
        let wait = waits (Domain q) party is in
        let p = waiting_pending (link_in h w (Domain q) d) (record_in h w d).epoch n c wait in
        let on = (k.at q).handed d (record_in h w d).epoch p.number p.command p.more
        (held_by_parent h past w s d q holder) p.is in
        let one = waiting_one (link_in h w (Domain q) d) (record_in h w d).epoch n p.number c p.command wait
        (p.is ∙ ap (λ z. Held (record_in h w d).epoch p.number (p.command ∷ z)) on.alone) in
        subst (λ z. Backed h past d (record_in h w d).epoch n z) (sym one)
        (from_parent d q (record_in h w d).epoch p.number n p.command p.more holder refl p.is
        (at_work (suc q) q (omega arith)))

-- Every step, and every run.

sound_none : (h : Hierarchy) (y : Entry) (past : List Entry) → IsNoRun y → SoundRuns h past → SoundRuns h (y ∷ past)
sound_none h (Ran x e n c) past calm safe = absurd calm
sound_none h (Booted s b) past calm safe = safe
sound_none h (Granted x e who) past calm safe = safe
sound_none h (Freed x e) past calm safe = safe
sound_none h (Ordered o x e n c) past calm safe = safe
sound_none h (Learned who x e) past calm safe = safe
sound_none h (LetGo who x e) past calm safe = safe
sound_none h (InMode x m) past calm safe = safe
sound_none h (Settled x e n q) past calm safe = safe
sound_none h (Showed s v) past calm safe = safe
sound_none h (Passed v) past calm safe = safe
sound_none h (Told o t) past calm safe = safe

sound_noted : (h : Hierarchy) (new past : List Entry) → NoRuns new → SoundRuns h past → SoundRuns h (noted new past)
sound_noted h [] past none safe = safe
sound_noted h (y ∷ new) past none safe = sound_noted h new (y ∷ past) none.1 (sound_none h y past none.0 safe)

-- what has come was sent, in range
came_sent : (w : World) (what : Happening) (b : Body) → MayCome w what → HasCome what b
    → (m : Message) × IsSent m w.sent × (m.body ≡ b)
came_sent w (Comes m) b may is = (m, may, is)
came_sent w (Orders o what) b may is = absurd is
came_sent w (Reports device s) b may is = absurd is
came_sent w Ticks b may is = absurd is

module _ (h : Hierarchy) (parents : (d p : ℕ) → parent_of h d ≡ Some p → p < d) where
  sound_step : (w : World) (number : ℕ) (s : Station) (what : Happening) (new past : List Entry) → MayCome w what
      → RunStep h number (HasCome what) (w.stations number).grants s.grants new → Viewed h w → Safely h past w
      → AllLogged h past w → Working h past w → SoundRuns h past → SoundRuns h (noted new past)
  sound_step w number s what new past may (no_run all none same) v t l k safe = sound_noted h all past none safe
  sound_step w number s what new past may (hands all none x who e is others) v t l k safe =
      sound_noted h all past none safe
  sound_step w number s what new past may (next_run x n c more cause none e epoch last numbered others) v t l k safe =
      sound_noted h more (Ran x ((w.stations number).grants.records x).epoch n c ∷ past) none (
        backed_ran h past x ((w.stations number).grants.records x).epoch n c x
            ((w.stations number).grants.records x).epoch n c run_is_backed,
        safe,
      )
    where
      same : (w.stations number).grants.records x ≡ record_in h w x
      same = ap (λ z. (w.stations z).grants.records x) (sym e)

      run_is_backed : Backed h past x ((w.stations number).grants.records x).epoch n c
      run_is_backed =
          let from = came_sent w what (body.Run x ((w.stations number).grants.records x).holder
          ((w.stations number).grants.records x).epoch n c) may cause in
          let says : from.0.body ≡ body.Run x (record_in h w x).holder (record_in h w x).epoch n c = from.2
          ∙ ap (λ (r : Standing). body.Run x r.holder r.epoch n c) same in
          let party = (fair_request x (record_in h w x).holder (due.Run (record_in h w x).epoch n c)
          (subst Fair says (v.range from.0 from.1))).held in
          subst (λ (r : Standing). Backed h past x r.epoch n c) (sym same)
          (next_backed h parents past w v t k l x n c from.0 from.1
          (numbered ∙ ap (λ (r : Standing). r.last + 1) same) (record_in h w x).holder party refl says)

  step_sound : (past : List Entry) (w : World) (new : List Entry) (next : World) → Step h w new next → Viewed h w
      → Safely h past w → AllLogged h past w → Working h past w → SoundRuns h past → SoundRuns h (noted new past)
  step_sound past w new next (sends number m may) v t l k safe = safe
  step_sound past w new next (steps number what runs may) v t l k safe =
      let o = refusal_of h number (w.stations number).grants what in
      let out = after_happening h number (w.stations number) what in
      subst (SoundRuns h) (sym (noted_both out.kept out.after past))
      (sound_noted h out.after (noted out.kept past)
      (none_display out.after (after_display h number (w.stations number) what o))
      (sound_step w number out.station what out.kept past may (kept_run h w number what o refl) v t l k safe))
  step_sound past w new next (stops number what runs may) v t l k safe =
      let o = refusal_of h number (w.stations number).grants what in
      sound_step w number (saved_only h number (w.stations number) what) what
      (after_happening h number (w.stations number) what).kept past may (kept_run h w number what o refl) v t l k safe
  step_sound past w new next (tells o what) v t l k safe = safe
  step_sound past w new next (halts number) v t l k safe = safe
  step_sound past w new next (starts number boots) v t l k safe =
      let started = opened h number (w.stations number).grants in
      sound_noted h (opening_entries h number started) past
      (none_display (opening_entries h number started) (opening_display h number started)) safe

  pub sound_runs : (past : List Entry) (w : World) → Reaches h past w → SoundRuns h past
  sound_runs past w opens = sound_noted h (opening_of h) []
      (none_display (opening_of h) (openings_display h (range_with_len 1 (station_count h)))) tt
  sound_runs past w (goes_on {past = before} {new = new} {w = old} {next = next} run step) =
      step_sound before old new next step (viewed h before old run) (safely h before old run)
      (logged h before old run) (works h before old run) (sound_runs before old run)
