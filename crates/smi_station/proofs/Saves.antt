-- Whether a step saves a row.
use Rattle.std.proofs.Common.{ℕ, ◌≡◌, false, true, Option, Some, None, refl, sym, ap, ◌∙◌, subst}
use Rattle.std.specs.Prelude.{is_some, option_map}
use Rattle.smi_tree.specs.Hierarchy.{Hierarchy}
use Rattle.smi_station_grants.specs.Change.{touched}
use Rattle.smi_station_decide.specs.Plans.{Plans}
use Rattle.smi_station_grants.specs.declared.change.Change.{Change}
use Rattle.smi_protocol.specs.Display.{Station}
use Rattle.smi_protocol.specs.Grants.{Grants}
use Rattle.smi_protocol.specs.GrantsOf.{grant_step}
use Rattle.smi_protocol.specs.Happening.{Happening}
use Rattle.smi_protocol.specs.Refusals.{refusal_of}
use Rattle.smi_protocol.specs.SavedRows.{saved_row}
use Rattle.smi_protocol.specs.Step.{after, answered_or}

module _ (h : Hierarchy) (number : ℕ) (s : Station) (what : Happening) where
  -- one that is refused saves none
  pub refused_saves_nothing : (code : ℕ) → refusal_of h number s.grants what ≡ Some code
      → false ≡ is_some (after h number s what).saved
  refused_saves_nothing code is = subst (λ o. false ≡ is_some (answered_or h number s what o).saved) (sym is) refl

  -- one that is taken saves one where its plan has one
  pub taken_saves : (g : Grants) (c : Change) → s.grants ≡ g → refusal_of h number g what ≡ None
      → Plans h number g (grant_step h number g what) c → is_some (touched c) ≡ is_some (after h number s what).saved
  taken_saves g c same is plans =
      subst (λ o. is_some (touched c) ≡ is_some (answered_or h number s what o).saved)
      (sym (ap (λ z. refusal_of h number z what) same ∙ is))
      (by (grant_step h number s.grants what).row (touched c)
      (ap (λ z. (grant_step h number z what).row) same ∙ plans.row))
    where
      by : (o p : Option _) → o ≡ p → is_some p ≡ is_some
          (option_map (saved_row h number (grant_step h number s.grants what).grants) o)
      by o p same =
          subst (λ q. is_some q
          ≡ is_some (option_map (saved_row h number (grant_step h number s.grants what).grants) o)) same (each o)
        where
          each : (o : Option _) → is_some o ≡ is_some
              (option_map (saved_row h number (grant_step h number s.grants what).grants) o)
          each None = refl
          each (Some x) = refl

  -- one that is taken saves one where its step has one
  pub step_saves : (g : Grants) → s.grants ≡ g → refusal_of h number g what ≡ None
      → is_some (grant_step h number g what).row ≡ is_some (after h number s what).saved
  step_saves g same is =
      subst (λ o. is_some (grant_step h number g what).row ≡ is_some (answered_or h number s what o).saved)
      (sym (ap (λ z. refusal_of h number z what) same ∙ is))
      (ap (λ (z : Grants). is_some (grant_step h number z what).row) (sym same)
      ∙ each (grant_step h number s.grants what).row)
    where
      each : (o : Option _) → is_some o ≡ is_some
          (option_map (saved_row h number (grant_step h number s.grants what).grants) o)
      each None = refl
      each (Some x) = refl

  -- and so if it asks for a row that memory was refused for
  pub wanted_saves : (g : Grants) → s.grants ≡ g → refusal_of h number g what ≡ None
      → is_some (grant_step h number g what).row ≡ true → true ≡ is_some (after h number s what).saved
  wanted_saves g same is wanted =
      subst (λ o. true ≡ is_some (answered_or h number s what o).saved)
      (sym (ap (λ z. refusal_of h number z what) same ∙ is))
      (sym (subst (λ z. is_some (grant_step h number z what).row ≡ true) (sym same) wanted)
      ∙ each (grant_step h number s.grants what).row)
    where
      each : (o : Option _) → is_some o ≡ is_some
          (option_map (saved_row h number (grant_step h number s.grants what).grants) o)
      each None = refl
      each (Some x) = refl
