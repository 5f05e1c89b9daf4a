-- The command at work in a busy domain is pending above it, and is what it has handed on.
use Rattle.std.proofs.Common.{ℕ, zero, suc, ◌≡◌, ◌≤◌, ◌<◌, ◌+◌, ◌-◌, true, false, List, [], ◌∷◌, inl, inr, refl, sym}
use Rattle.std.proofs.Common.{ap, ◌∙◌, subst, arith}
use Rattle.std.specs.Prelude.{Some, length, slice_get}
use Rattle.smi_grant.specs.declared.Command.{Command}
use Rattle.smi_grant.specs.declared.Holder.{Holder}
use Rattle.smi_grant.specs.declared.Holder.TheVariants.{Free, Operator, Domain}
use Rattle.smi_grant.specs.Holder.{is_free}
use Rattle.smi_grant.specs.Record.{Standing, is_settled}
use Rattle.smi_tree.specs.Hierarchy.{Hierarchy}
use Rattle.smi_tree.specs.Lookups.{parent_of}
use Rattle.smi_command.specs.declared.Link.{Link}
use Rattle.smi_command.specs.declared.Link.TheVariants.{Held}
use Rattle.smi_command.specs.KnownGrant.{InStep, Waits}
use Rattle.smi_command.specs.Pending.{base_of}
use Rattle.smi_grant.proofs.Holders.{either}
use Rattle.smi_command.specs.Link.{is_unsettled}
use Rattle.smi_protocol.specs.Children.{is_commanded}
use Rattle.smi_protocol.specs.declared.Entry.{Entry}
use Rattle.smi_law.specs.Known.{record_in, link_in}
use Rattle.smi_law.specs.Safe.{Forwards}
use Rattle.smi_protocol.specs.Schedule.{World}
use Rattle.smi_law.specs.Trace.{mode_at, InWork}
use Rattle.smi_law.specs.World.{Reaches}
use Rattle.smi_law.proofs.GrantsSafe.{safely}
use Rattle.smi_law.proofs.KnownFacts.{known_in_step}
use Rattle.smi_law.proofs.OrdersLogged.{logged}
use Rattle.smi_law.proofs.OrderSteps.{orders_issued}
use Rattle.smi_law.proofs.Parents.{held_by_parent}
use Rattle.smi_law.proofs.Viewed.{viewed, view_fits}
use Rattle.smi_law.proofs.Works.{works}
use Rattle.smi_law.proofs.WorkSteps.{busy_pending, waiting_one}

-- the command in its place
at_place : (pending : List Command) (i : ℕ) → i < length pending → (c : Command) × (slice_get pending i ≡ Some c)
at_place [] i less = absurd (omega (arith, less))
at_place (c ∷ pending) zero less = (c, refl)
at_place (c ∷ pending) (suc i) less = at_place pending i (omega (arith, less))

-- the last command that ran waits if it has not settled
last_waits : (r : Standing) (e n : ℕ) (p : List Command) (l : Link) → InStep r n p → is_settled r.phase ≡ false
    → r.epoch ≡ e → l ≡ Held e n p → (c : Command) × Waits l r.epoch r.last c
last_waits r e n p l step busy epoch is =
    let past_base : base_of n p < r.last = beyond in
    let a = step.not_beyond in
    let b = step.counted in
    let at = at_place p (r.last - (base_of n p + 1)) (omega (arith, past_base, a, b)) in (
      at.0,
      record {
        newest = n;
        pending = p;
        at = r.last - (base_of n p + 1);
        is = is ∙ ap (λ z. Held z n p) (sym epoch);
        command = at.1;
        counts = omega (arith, past_base);
      },
    )
  where
    apart_or : (i j : ℕ) → j ≤ i → (i ≡ j → ⊥) → j < i
    apart_or i j l o = grind (arith, l, o)

    beyond : base_of n p < r.last
    beyond = apart_or r.last (base_of n p) step.not_before
        (λ i. let k : true ≡ false = ap is_settled (sym (step.all_settled i)) ∙ busy in cc)

pub busy_waits : (h : Hierarchy) (past : List Entry) (w : World) (d : ℕ) (me : Holder) → is_free me ≡ false
    → Reaches h past w → is_settled (record_in h w d).phase ≡ false → (record_in h w d).holder ≡ me
    → (c : Command) × InWork d (record_in h w d).epoch (record_in h w d).last c past
    × Waits (link_in h w me d) (record_in h w d).epoch (record_in h w d).last c
busy_waits h past w d me party run busy holder = by me party holder waits
  where
    waits : (c : Command) × Waits (link_in h w me d) (record_in h w d).epoch (record_in h w d).last c
    waits =
        let v = viewed h past w run in
        let f = view_fits h w d me party (v.each d me) in
        let p = busy_pending (record_in h w d) me (link_in h w me d) f.lawful f.link holder busy in
        last_waits (record_in h w d) (record_in h w d).epoch p.number (p.command ∷ p.more) (link_in h w me d)
        (known_in_step h w d me (record_in h w d).epoch p.number (p.command ∷ p.more) party v p.is) busy refl p.is

    by : (who : Holder) → is_free who ≡ false → (record_in h w d).holder ≡ who
        → ((c : Command) × Waits (link_in h w who d) (record_in h w d).epoch (record_in h w d).last c)
        → (c : Command) × InWork d (record_in h w d).epoch (record_in h w d).last c past
        × Waits (link_in h w who d) (record_in h w d).epoch (record_in h w d).last c
    by Free party' mine wait = absurd cc
    by (Operator o) party' mine wait =
        let k = works h past w run in
        let once = sym (orders_issued o d (record_in h w d).epoch (record_in h w d).last past
        ∙ (logged h past w run o d).now (record_in h w d).epoch (record_in h w d).last wait.0 wait.1)
        ∙ (k.at d).ordered o busy mine in
        let same : wait.0 ≡ k.now d = cc in (
          wait.0,
          subst (λ z. InWork d (record_in h w d).epoch (record_in h w d).last z past) (sym same)
              ((k.at d).work busy),
          wait.1,
        )
    by (Domain q) party' mine wait =
        let k = works h past w run in
        let v = viewed h past w run in
        let f = view_fits h w d (Domain q) refl (v.each d (Domain q)) in
        let p = busy_pending (record_in h w d) (Domain q) (link_in h w (Domain q) d) f.lawful f.link mine busy in
        let on = (k.at q).handed d (record_in h w d).epoch p.number p.command p.more
        (held_by_parent h past w (safely h past w run) d q mine) p.is in
        let one = waiting_one (link_in h w (Domain q) d) (record_in h w d).epoch (record_in h w d).last p.number
        wait.0 p.command wait.1 (p.is ∙ ap (λ z. Held (record_in h w d).epoch p.number (p.command ∷ z)) on.alone) in
        let same : wait.0 ≡ k.now d = one ∙ on.command ∙ sym ((k.at d).same q busy mine) in (
          wait.0,
          subst (λ z. InWork d (record_in h w d).epoch (record_in h w d).last z past) (sym same)
              ((k.at d).work busy),
          wait.1,
        )

pub handed_down : (h : Hierarchy) (past : List Entry) (w : World) (d p e n : ℕ) (c : Command) (more : List Command)
    → Reaches h past w → parent_of h d ≡ Some p → link_in h w (Domain p) d ≡ Held e n (c ∷ more)
    → (more ≡ []) × (is_settled (record_in h w p).phase ≡ false)
    × InWork p (record_in h w p).epoch (record_in h w p).last c past × Forwards h p c d
    × (is_commanded (mode_at (Domain p) d e past) ≡ true)
handed_down h past w d p e n c more run parent is =
    let k = works h past w run in
    let on = (k.at p).handed d e n c more parent is in (
      on.alone,
      busy,
      subst (λ z. InWork p (record_in h w p).epoch (record_in h w p).last z past) (sym on.command)
          ((k.at p).work busy),
      on.forwards,
      ap is_commanded ((k.at p).modes d e n (c ∷ more) parent is) ∙ on.commanded,
    )
  where
    busy : is_settled (record_in h w p).phase ≡ false
    busy = elim (either (is_settled (record_in h w p).phase)) [
      | inl t ↦ let i : true ≡ false = ap is_unsettled (sym is) ∙ ((works h past w run).at p).rest t d parent in
          absurd cc
      | inr f ↦ f
    ]
