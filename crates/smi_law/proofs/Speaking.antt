-- Whatever a step of a station sends it may send.
use Rattle.std.proofs.Common.{ℕ, ◌≡◌, true, List, [], ◌∷◌, inl, inr, refl, ap}
use Rattle.std.specs.Prelude.{◌++◌, Option, Some, None}
use Rattle.std.specs.List.{flat_map}
use Rattle.smi_message.specs.declared.Body.{Body}
use Rattle.smi_message.specs.declared.Body.TheVariants as body
use Rattle.smi_message.specs.Message.{Message}
use Rattle.smi_tree.specs.Hierarchy.{Hierarchy}
use Rattle.smi_tree.specs.Lawful.{IsTree}
use Rattle.smi_protocol.specs.Display.{Display, Station}
use Rattle.smi_protocol.specs.GrantsOf.{grant_step}
use Rattle.smi_protocol.specs.Happening.{Happening, Comes, Orders, Reports, Ticks}
use Rattle.smi_protocol.specs.Refusals.{is_body_of, refusal_of}
use Rattle.smi_protocol.specs.Sending.{MaySend}
use Rattle.smi_protocol.specs.Showing.{domain_of_body, domain_of_happening, moved_by_body, passed_in, shown_to_all}
use Rattle.smi_protocol.specs.Step.{body_noticed, notice, conditions_by, answered_or, after}
use Rattle.smi_protocol.specs.Ticking.{most_sent}
use Rattle.smi_protocol.specs.Watching.{told_state}
use Rattle.smi_protocol.specs.declared.Entry.{Entry}
use Rattle.smi_protocol.specs.Schedule.{World}
use Rattle.smi_law.specs.World.{Among, MayCome, Reaches}
use Rattle.smi_law.proofs.Lists.{In, in_both, from_taken}
use Rattle.smi_law.proofs.SaysGrants.{grants_say}
use Rattle.smi_law.proofs.SaysStates.{Heir, watch_says, state_says, order_says, tick_says, shown_says}
use Rattle.smi_law.proofs.Silent.{kept_silent}
use Rattle.smi_law.proofs.StepKinds.{understood}
use Rattle.smi_protocol.specs.Tidy.{IsTidy}
use Rattle.smi_law.proofs.Tidy.{all_tidy}

among_in : (m : Message) (ms : List Message) → Among m ms → In m ms
among_in m [] a = absurd a
among_in m (k ∷ ms) (inl is) = inl is
among_in m (k ∷ ms) (inr a) = inr (among_in m ms a)

module _ (h : Hierarchy) (tree : IsTree h) (number boot : ℕ) (old : Display) (tidy : IsTidy h old) (s : Station) where
  abbrev AllMay : List Message → Type 0
  AllMay ms = (m : Message) → In m ms → MaySend h number s m

  none_may : AllMay []
  none_may m a = absurd a

  -- a watch leaves the states unchanged
  abbrev Calm : Body → Type 0
  Calm b = (x echo : ℕ) → b ≡ body.Watch x echo → s.display.conditions ≡ old.conditions

  body_says : (from : ℕ) (b : Body) → is_body_of h from number b ≡ true → Calm b
      → Heir s boot (body_noticed h number boot old from b).display
      → AllMay (body_noticed h number boot old from b).sends
  body_says from (body.Watch x echo) ok calm heir =
      watch_says h number boot old s tree tidy from x echo ok heir (calm x echo refl)
  body_says from (body.State x echo v q) ok calm heir = state_says h number boot old s from echo (told_state x v q) heir
  body_says from (body.Tell d r) ok calm heir = none_may
  body_says from (body.Unwatch x echo) ok calm heir = none_may
  body_says from (body.Ask d) ok calm heir = none_may
  body_says from (body.Take d who seen) ok calm heir = none_may
  body_says from (body.Drop d who e) ok calm heir = none_may
  body_says from (body.Run d who e n c) ok calm heir = none_may

module _ (h : Hierarchy) (tree : IsTree h) (number : ℕ) (s : Station) (tidy : IsTidy h s.display) where
  abbrev Out : Happening → Station
  Out what = (answered_or h number s what None).station

  heir_of : (what : Happening) → Heir (Out what) s.grants.boot (notice h number s.grants s.display what).display
  heir_of what = record { boot_ = (kept_silent h number s what None).boot; named = refl; watchers = refl }

  notice_says : (what : Happening) → refusal_of h number s.grants what ≡ None → (m : Message)
      → In m (notice h number s.grants s.display what).sends → MaySend h number (Out what) m
  notice_says (Comes m) none =
      body_says h tree number s.grants.boot s.display tidy (Out (Comes m)) m.from m.body (understood h number m none)
      (λ x echo is. ap (λ b. conditions_by h s (grant_step h number s.grants (Comes m)).grants
      (notice h number s.grants s.display (Comes m)).display (moved_by_body h s.grants s.display.conditions b)
      (domain_of_body h b)) is)
      (heir_of (Comes m))
  notice_says (Orders o what) none = order_says h number s.grants.boot s.display (Out (Orders o what)) o what
      (heir_of (Orders o what))
  notice_says (Reports device state) none = λ m a. absurd a
  notice_says Ticks none = tick_says h number s.grants.boot s.display (Out Ticks) s.grants refl
      (record { boot_ = refl; named = refl; watchers = refl })

  step_says : (what : Happening) (o : Option ℕ) → refusal_of h number s.grants what ≡ o → (m : Message)
      → In m (answered_or h number s what o).out.datagrams → MaySend h number (answered_or h number s what o).station m
  step_says what (Some code) is m a = absurd a
  step_says what None is m a =
      let g = grant_step h number s.grants what in
      let n = notice h number s.grants s.display what in
      let shown_ = flat_map (shown_to_all h number n.display.watchers)
      (passed_in h s.grants.boot s.display.conditions (Out what).display.conditions (domain_of_happening h what)) in
      elim (in_both m (g.sends ++ n.sends) shown_ (from_taken m most_sent (g.sends ++ n.sends ++ shown_) a)) [
        | inl first ↦ elim (in_both m g.sends n.sends first) [
          | inl b ↦ grants_say h number s.grants what is m b (Out what) refl
          | inr b ↦ notice_says what is m b
        ]
        | inr b ↦ shown_says h number s.grants.boot s.display (Out what) n.display (heir_of what)
            s.display.conditions (domain_of_happening h what) m b
      ]

-- any event of a station whose lists are tidy
pub one_speaks : (h : Hierarchy) → IsTree h → (number : ℕ) (s : Station) → IsTidy h s.display
    → (what : Happening) (m : Message) → Among m (after h number s what).out.datagrams
    → MaySend h number (after h number s what).station m
one_speaks h tree number s tidy what m a =
    step_says h tree number s tidy what (refusal_of h number s.grants what) refl m
    (among_in m (after h number s what).out.datagrams a)

pub speaks : (h : Hierarchy) → IsTree h → (past : List Entry) (w : World) → Reaches h past w
    → (number : ℕ) (what : Happening) → MayCome w what → (m : Message)
    → Among m (after h number (w.stations number) what).out.datagrams
    → MaySend h number (after h number (w.stations number) what).station m
speaks h tree past w run number what may m a =
    one_speaks h tree number (w.stations number) (all_tidy h past w run number) what m a
