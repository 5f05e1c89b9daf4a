-- What a keeper hands out is the domain's record after it.
use Rattle.std.proofs.Common.{ℕ, ◌≡◌, Bool, true, List, [], ◌∷◌, refl, sym, ap, ◌∙◌, subst}
use Rattle.std.specs.Prelude.{◌==◌, if◌then◌else◌}
use Rattle.std.proofs.lemmas.Bool.{and_parts}
use Rattle.smi_grant.specs.Holder.{same_holder}
use Rattle.smi_grant.specs.declared.Command.{Command}
use Rattle.smi_grant.specs.declared.Holder.{Holder}
use Rattle.smi_grant.specs.declared.Verdict.{Verdict}
use Rattle.smi_grant.specs.declared.Verdict.TheVariants.{New, Same}
use Rattle.smi_grant.specs.Keeper.{admits, started}
use Rattle.smi_grant.specs.Record.{Standing, is_settled}
use Rattle.smi_message.specs.Message.{Message}
use Rattle.smi_tree.specs.Hierarchy.{Hierarchy}
use Rattle.smi_rows.specs.Ranges.{is_standing}
use Rattle.smi_station_grants.specs.Change.{changed}
use Rattle.smi_station_decide.specs.Plans.{Plans}
use Rattle.smi_station_grants.specs.declared.Change.{Change}
use Rattle.smi_station_output.specs.Out.{kept_after, sent_after}
use Rattle.smi_protocol.specs.declared.Entry.{Entry}
use Rattle.smi_protocol.specs.Children.{own_code}
use Rattle.smi_protocol.specs.Grants.{Grants}
use Rattle.smi_protocol.specs.GrantStep.{GrantStep, waits_for_children}
use Rattle.smi_protocol.specs.Keeping.{answered, child_requests, commanded, decided, ran, run_comes}
use Rattle.smi_protocol.specs.Messages.{tells}
use Rattle.smi_protocol.specs.Sound.{IsSound}
use Rattle.smi_protocol.specs.Step.{Out}
use Rattle.smi_protocol.proofs.Tables.{put_here}
use Rattle.smi_station_decide.specs.Handing.{with_step}

-- the record after a change that makes a sound step
pub told_after : (h : Hierarchy) (number : ℕ) (g : Grants) (step : GrantStep) (c : Change) (d : ℕ) (r : Standing)
    → Plans h number g step c → IsSound h step.grants → r ≡ (changed h g c).records d → is_standing r ≡ true
told_after h number g step c d r plans sound is =
    subst (λ z. is_standing z ≡ true) (sym (is ∙ ap (λ (a : Grants). a.records d) (sym plans.grants)))
    (sound.standing d)

-- the record is told as it is after the step
abbrev pub telling : Out → Message → Out
telling out m = record out { datagrams = sent_after out.datagrams (m ∷ []) }

module _ (h : Hierarchy) (number : ℕ) (g : Grants) (from d : ℕ) (out : Out) where
  -- and so much is left by the save
  abbrev pub leaving : Message → List Entry → Out
  leaving m es = record (telling out m) { kept = kept_after es out.kept }

  decided_tells : (note : Entry) (v : Verdict)
      → leaving (tells h number from d ((decided h number g from d note v).grants.records d))
      (decided h number g from d note v).entries ≡ with_step out (decided h number g from d note v)
  decided_tells note (New r) = ap (λ (z : Standing). leaving (tells h number from d z) (note ∷ []))
      (put_here g.records d r)
  decided_tells note Same = refl

  pub decided_told : (note : Entry) (v : Verdict) (c : Change) (r : Standing) (es : List Entry)
      → Plans h number g (decided h number g from d note v) c → r ≡ (changed h g c).records d
      → es ≡ (decided h number g from d note v).entries
      → leaving (tells h number from d r) es ≡ with_step out (decided h number g from d note v)
  decided_told note v c r es plans is left =
      ap (λ (xs : List Entry). leaving (tells h number from d r) xs) left
      ∙ ap (λ (z : Standing). leaving (tells h number from d z) (decided h number g from d note v).entries)
      (is ∙ ap (λ (a : Grants). a.records d) (sym plans.grants)) ∙ decided_tells note v

  module _ (who : Holder) (e n : ℕ) (c : Command) where
    abbrev busy : Bool
    busy = waits_for_children h (commanded h g d c) d

    abbrev own : ℕ
    own = own_code h g d c

    -- a command that runs
    pub run_told : (change : Change) (r : Standing) (es : List Entry)
        → Plans h number g (run_comes h number g from d who e n c) change
        → r ≡ (changed h g change).records d → es ≡ (run_comes h number g from d who e n c).entries
        → admits (g.records d) who e n ≡ true
        → record out {
          datagrams = sent_after (telling out (tells h number from d r)).datagrams
              (child_requests h number g d c);
          kept = kept_after es out.kept;
        } ≡ with_step out (run_comes h number g from d who e n c)
    run_told change r es plans is left runs =
        let here : (run_comes h number g from d who e n c).grants.records d ≡ started (g.records d) busy own =
        ap (λ b. (if b then ran h number g from d e n c busy own else answered h number g from d).grants.records d)
        runs ∙ put_here g.records d (started (g.records d) busy own) in
        ap (λ (xs : List Entry). record out {
          datagrams = sent_after (telling out (tells h number from d r)).datagrams
              (child_requests h number g d c);
          kept = kept_after xs out.kept;
        }) (left ∙ ap (λ b. (if b then ran h number g from d e n c busy own
        else answered h number g from d).entries) runs)
        ∙ ap (λ (z : Standing). record out {
          datagrams = sent_after (telling out (tells h number from d z)).datagrams
              (child_requests h number g d c);
          kept = kept_after (ran h number g from d e n c busy own).entries out.kept;
        }) (is ∙ ap (λ (a : Grants). a.records d) (sym plans.grants) ∙ here)
        ∙ sym (ap (λ b. with_step out (if b then ran h number g from d e n c busy own
        else answered h number g from d)) runs)

-- a command runs if nothing is at work
pub settled_there : (g : Grants) (d : ℕ) (who : Holder) (e n : ℕ) → admits (g.records d) who e n ≡ true
    → is_settled (g.records d).phase ≡ true
settled_there g d who e n t =
    let a = and_parts (same_holder (g.records d).holder who) _ t in
    let b = and_parts ((g.records d).epoch == e) _ a.1 in
    (and_parts (is_settled (g.records d).phase) _ b.1).0
