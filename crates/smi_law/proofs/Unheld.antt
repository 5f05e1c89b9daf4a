-- A holder that may not hold a domain has a link to it as at the beginning.
use Rattle.std.proofs.Common.{ℕ, ◌≡◌, Bool, true, false, List, inl, inr, refl, sym, ap, ◌∙◌}
use Rattle.std.specs.Prelude.{◌&&◌, Option, Some, None, Result, Ok, Err}
use Rattle.std.proofs.lemmas.Bool.{and_parts}
use Rattle.smi_grant.specs.declared.Command.{Command}
use Rattle.smi_grant.specs.declared.Command.TheVariants.{Do, Include, Exclude, Manual, Ignore}
use Rattle.smi_grant.specs.declared.Holder.{Holder}
use Rattle.smi_grant.specs.declared.Holder.TheVariants.{Free, Operator, Domain}
use Rattle.smi_grant.specs.declared.Verdict.{Verdict}
use Rattle.smi_grant.specs.declared.Verdict.TheVariants.{New, Same}
use Rattle.smi_grant.specs.Holder.{is_free, same_holder}
use Rattle.smi_grant.specs.Keeper.{admits, take_after, drop_after}
use Rattle.smi_grant.specs.Record.{Standing}
use Rattle.smi_message.specs.declared.Body.{Body}
use Rattle.smi_message.specs.declared.Body.TheVariants as body
use Rattle.smi_tree.specs.Hierarchy.{Hierarchy}
use Rattle.smi_tree.specs.Lookups.{parent_of}
use Rattle.smi_command.specs.declared.Link.{Link}
use Rattle.smi_command.specs.declared.Link.TheVariants.{Out, Held}
use Rattle.smi_command.specs.Hearing.{told_link}
use Rattle.smi_command.specs.Order.{take_begun, drop_begun, command_issued}
use Rattle.smi_command.proofs.Heard.{choose}
use Rattle.smi_grant.proofs.Holders.{either, same_is}
use Rattle.smi_tree.specs.Roles.{is_parent}
use Rattle.smi_protocol.specs.Children.{change_of, link_after}
use Rattle.smi_protocol.specs.Display.{Station}
use Rattle.smi_protocol.specs.Grants.{Grants, put_link}
use Rattle.smi_protocol.specs.GrantsOf.{datagram_comes, grant_step}
use Rattle.smi_protocol.specs.Happening.{Happening, Comes, Orders, Reports, Ticks}
use Rattle.smi_protocol.specs.Hearing.{ended, ends, hears, listener, listeners, parent_heard, told_to}
use Rattle.smi_protocol.specs.Keeping.{decided, run_comes}
use Rattle.smi_protocol.specs.Opening.{opened, saved_only}
use Rattle.smi_protocol.specs.Ordering.{obeyed, order_comes}
use Rattle.smi_protocol.specs.Refusals.{refusal_of}
use Rattle.smi_protocol.specs.Sound.{In}
use Rattle.smi_protocol.specs.Step.{answered_or, after as after_happening}
use Rattle.smi_protocol.specs.declared.Entry.{Entry}
use Rattle.smi_protocol.specs.declared.Order.{Order}
use Rattle.smi_protocol.specs.declared.Order.TheVariants as order
use Rattle.smi_protocol.proofs.SoundSteps.{found, listening_parent}
use Rattle.smi_protocol.proofs.Tables.{at_put, at_put_link, number_is}
use Rattle.smi_law.specs.Known.{link_in}
use Rattle.smi_protocol.specs.Schedule.{World}
use Rattle.smi_law.specs.World.{with_station, Step, sends, steps, stops, tells, halts, starts, Reaches, opens}
use Rattle.smi_law.specs.World.{goes_on}

-- an operator may have a link to every domain, and a domain to its children
abbrev pub may_have : Hierarchy → ℕ → Holder → Bool
may_have h d Free = false
may_have h d (Operator o) = true
may_have h d (Domain p) = is_parent h d p

module _ (h : Hierarchy) (g : Grants) (me : Holder) (d : ℕ) (never : may_have h d me ≡ false) where
  -- another link, of one who may have one, is not this one
  other_link : (who : Holder) (x : ℕ) (l : Link) → may_have h x who ≡ true
      → put_link g.links who x l me d ≡ g.links me d
  other_link who x l may =
      at_put_link (λ z. z ≡ g.links me d) g.links who x l me d
      (λ i j. absurd (let wrong : true ≡ false = sym may ∙ ap (λ z. may_have h z who) (sym i)
      ∙ ap (may_have h d) (sym j) ∙ never in cc))
      refl

  ended_same : (b : Bool) (on : Grants) (p : ℕ) → (ended b on p).links me d ≡ on.links me d
  ended_same true on p = refl
  ended_same false on p = refl

  decided_same : (number from x : ℕ) (note : Entry) (v : Verdict)
      → (decided h number g from x note v).grants.links me d ≡ g.links me d
  decided_same number from x note (New r) = refl
  decided_same number from x note Same = refl

  run_same : (number from x : ℕ) (who : Holder) (e n : ℕ) (c : Command)
      → (run_comes h number g from x who e n c).grants.links me d ≡ g.links me d
  run_same number from x who e n c = elim (either (admits (g.records x) who e n)) [
    | inl t ↦ rw t (choose (λ z. z ≡ g.links me d) (is_parent h d x && same_holder me (Domain x))
        (link_after (change_of h g x c d) (g.links (Domain x) d)) (g.links me d)
        (λ u.
        let a = and_parts (is_parent h d x) _ u in
        absurd (let wrong : true ≡ false = sym a.0 ∙ ap (may_have h d) (sym (same_is me (Domain x) a.1)) ∙ never in cc))
        (λ f. refl))
    | inr f ↦ rw f refl
  ]

  told_same : (number x : ℕ) (r : Standing) (o : Option Holder)
      → ((who : Holder) → o ≡ Some who → In who (listeners h number x) × (hears (g.links who x) who r ≡ true))
      → (told_to h number g x r o).grants.links me d ≡ g.links me d
  told_same number x r None heard = refl
  told_same number x r (Some Free) heard = refl
  told_same number x r (Some (Operator o)) heard =
      other_link (Operator o) x (told_link (g.links (Operator o) x) (Operator o) r) refl
  told_same number x r (Some (Domain p)) heard =
      let on = parent_heard g p x r in
      ended_same (ends h on p) on p ∙ other_link (Domain p) x (told_link (g.links (Domain p) x) (Domain p) r)
      (listening_parent h number x p (heard (Domain p) refl).0)

  body_same : (number from : ℕ) (b : Body) → (datagram_comes h number g from b).grants.links me d ≡ g.links me d
  body_same number from (body.Ask x) = refl
  body_same number from (body.Take x who s) = decided_same number from x _ (take_after (g.records x) who s)
  body_same number from (body.Drop x who e) = decided_same number from x _ (drop_after (g.records x) who e)
  body_same number from (body.Run x who e n c) = run_same number from x who e n c
  body_same number from (body.Tell x r) = told_same number x r (listener h number g x r)
      (λ who is. found (λ who. hears (g.links who x) who r) (listeners h number x) who is)
  body_same number from (body.Watch x echo) = refl
  body_same number from (body.State x echo v s) = refl
  body_same number from (body.Unwatch x echo) = refl

  obeyed_same : (number o x : ℕ) (c : Option Command) (res : Result Link ℕ)
      → (obeyed h number g o x c res).grants.links me d ≡ g.links me d
  obeyed_same number o x c (Ok l) = other_link (Operator o) x l refl
  obeyed_same number o x c (Err code) = refl

  order_same : (number o : ℕ) (what : Order) → (order_comes h number g o what).grants.links me d ≡ g.links me d
  order_same number o (order.Take x) = obeyed_same number o x None (take_begun (g.links (Operator o) x))
  order_same number o (order.Drop x) = obeyed_same number o x None (drop_begun (g.links (Operator o) x))
  order_same number o (order.Do x a) = obeyed_same number o x (Some (Do a))
      (command_issued (g.links (Operator o) x) (Do a))
  order_same number o (order.Include x t) = obeyed_same number o x (Some (Include t))
      (command_issued (g.links (Operator o) x) (Include t))
  order_same number o (order.Exclude x t) = obeyed_same number o x (Some (Exclude t))
      (command_issued (g.links (Operator o) x) (Exclude t))
  order_same number o (order.Manual x t) = obeyed_same number o x (Some (Manual t))
      (command_issued (g.links (Operator o) x) (Manual t))
  order_same number o (order.Ignore x t) = obeyed_same number o x (Some (Ignore t))
      (command_issued (g.links (Operator o) x) (Ignore t))
  order_same number o (order.Ask x) = refl
  order_same number o (order.Watch x) = refl
  order_same number o (order.Unwatch x) = refl
  order_same number o (order.Report device s) = refl

  grants_same : (number : ℕ) (what : Happening) → (grant_step h number g what).grants.links me d ≡ g.links me d
  grants_same number (Comes m) = body_same number m.from m.body
  grants_same number (Orders o what) = order_same number o what
  grants_same number (Reports device s) = refl
  grants_same number Ticks = refl

-- In the world.

abbrev pub Unheld : Hierarchy → World → Type 0
Unheld h w = (number : ℕ) (me : Holder) (d : ℕ) → may_have h d me ≡ false
    → (w.stations number).grants.links me d ≡ Out 0

step_same : (h : Hierarchy) (w : World) (number : ℕ) (what : Happening) (o : Option ℕ) (me : Holder) (d : ℕ)
    → may_have h d me ≡ false → (answered_or h number (w.stations number) what o).station.grants.links me d
    ≡ (w.stations number).grants.links me d
step_same h w number what (Some code) me d never = refl
step_same h w number what None me d never = grants_same h (w.stations number).grants me d never number what

station_unheld : (h : Hierarchy) (w : World) (number : ℕ) (s : Station) → Unheld h w
    → ((me : Holder) (d : ℕ) → may_have h d me ≡ false → s.grants.links me d ≡ (w.stations number).grants.links me d)
    → Unheld h (with_station w number s)
station_unheld h w number s u same n me d never =
    at_put (λ (z : Station). z.grants.links me d ≡ Out 0) w.stations number s n
    (λ is. same me d never ∙ u number me d never) (u n me d never)

step_unheld : (h : Hierarchy) (w : World) (new : List Entry) (next : World) → Step h w new next → Unheld h w
    → Unheld h next
step_unheld h w new next (sends number m may) u = u
step_unheld h w new next (steps number what runs may) u =
    station_unheld h w number (after_happening h number (w.stations number) what).station u
    (λ me d never. step_same h w number what (refusal_of h number (w.stations number).grants what) me d never)
step_unheld h w new next (stops number what runs may) u =
    station_unheld h w number (saved_only h number (w.stations number) what) u
    (λ me d never. step_same h w number what (refusal_of h number (w.stations number).grants what) me d never)
step_unheld h w new next (tells o what) u = u
step_unheld h w new next (halts number) u =
    station_unheld h w number (record (w.stations number) { is_stopped = true }) u (λ me d never. refl)
step_unheld h w new next (starts number boots) u =
    station_unheld h w number (opened h number (w.stations number).grants) u (λ me d never. refl)

pub unheld : (h : Hierarchy) (past : List Entry) (w : World) → Reaches h past w → Unheld h w
unheld h past w opens = λ number me d never. refl
unheld h past w (goes_on {past = before} {new = new} {w = old} {next = next} run step) =
    step_unheld h old new next step (unheld h before old run)

-- a link that is held is somebody's, and a domain's is to its child
pub held_by_somebody : (h : Hierarchy) (past : List Entry) (w : World) (me : Holder) (d e n : ℕ) (p : List Command)
    → Reaches h past w → link_in h w me d ≡ Held e n p → is_free me ≡ false
held_by_somebody h past w Free d e n p run is =
    absurd (let wrong : Out 0 ≡ Held e n p = sym (unheld h past w run _ Free d refl) ∙ is in cc)
held_by_somebody h past w (Operator o) d e n p run is = refl
held_by_somebody h past w (Domain q) d e n p run is = refl

pub held_by_its_parent : (h : Hierarchy) (past : List Entry) (w : World) (p d e n : ℕ) (k : List Command)
    → Reaches h past w → link_in h w (Domain p) d ≡ Held e n k → parent_of h d ≡ Some p
held_by_its_parent h past w p d e n k run is = elim (either (is_parent h d p)) [
  | inl t ↦ number_is (parent_of h d) p t
  | inr f ↦ absurd (let wrong : Out 0 ≡ Held e n k = sym (unheld h past w run _ (Domain p) d f) ∙ is in cc)
]
