-- What the keeper makes of a request, said of the world.
use Rattle.std.proofs.Common.{ℕ, ◌≡◌, Bool, true, false, List, [], ◌∷◌, inl, inr, refl, sym, ap, ◌∙◌, subst}
use Rattle.std.specs.Prelude.{◌&&◌, if◌then◌else◌}
use Rattle.std.proofs.lemmas.Bool.{and_parts}
use Rattle.smi_grant.specs.declared.Command.{Command}
use Rattle.smi_grant.specs.declared.Holder.{Holder}
use Rattle.smi_grant.specs.declared.Holder.TheVariants.{Domain}
use Rattle.smi_grant.specs.declared.Verdict.{Verdict}
use Rattle.smi_grant.specs.declared.Verdict.TheVariants.{New, Same}
use Rattle.smi_grant.specs.Holder.{same_holder}
use Rattle.smi_grant.specs.Keeper.{admits, drop_after, started, take_after}
use Rattle.smi_grant.specs.Record.{Standing}
use Rattle.smi_message.specs.Message.{Message}
use Rattle.smi_tree.specs.Hierarchy.{Hierarchy}
use Rattle.smi_command.specs.declared.Due.{Due}
use Rattle.smi_command.specs.declared.Due.TheVariants.{Take, Drop, Run}
use Rattle.smi_command.specs.OneLink.{asked_record, kept_after}
use Rattle.smi_command.proofs.Heard.{choose}
use Rattle.smi_grant.proofs.Holders.{same_is}
use Rattle.smi_tree.specs.Roles.{is_parent}
use Rattle.smi_protocol.proofs.Tables.{apart, put_here, put_there}
use Rattle.smi_protocol.specs.Children.{change_of, link_after, own_code}
use Rattle.smi_protocol.specs.Grants.{Grants}
use Rattle.smi_protocol.specs.GrantsOf.{grant_step}
use Rattle.smi_protocol.specs.GrantStep.{GrantStep, waits_for_children}
use Rattle.smi_protocol.specs.Happening.{Comes}
use Rattle.smi_protocol.specs.Keeping.{answered, child_requests, commanded, decided, drop_comes, ran, run_comes}
use Rattle.smi_protocol.specs.Keeping.{take_comes}
use Rattle.smi_protocol.specs.Messages.{home, requests, tells}
use Rattle.smi_protocol.specs.Schedule.{World}
use Rattle.smi_protocol.specs.declared.Entry.{Entry}
use Rattle.smi_law.specs.Known.{holder_home, link_in, record_in}
use Rattle.smi_law.specs.World.{Among as IsSent}
use Rattle.smi_law.proofs.Deliveries.{Delivered}

-- a request lets nothing run
abbrev pub RunsNothing : Standing → Holder → Due → Type 0
RunsNothing r who (Take s) = Unit {0}
RunsNothing r who (Drop e) = Unit {0}
RunsNothing r who (Run e n c) = admits r who e n ≡ false

-- At the keeper's station.

pub record Decides (h : Hierarchy) (number : ℕ) (g : Grants) (from d : ℕ) (who : Holder) (due : Due)
    (s : GrantStep) : Type 0 where
  pub busy : Bool
  pub outcome : ℕ
  pub kept : s.grants.records d ≡ asked_record (g.records d) who due busy outcome
  pub records : (y : ℕ) → (y ≡ d → ⊥) → s.grants.records y ≡ g.records y
  pub links : (me : Holder) (x : ℕ) → (me ≡ Domain d → ⊥) → s.grants.links me x ≡ g.links me x
  pub still : RunsNothing (g.records d) who due → (x : ℕ) → s.grants.links (Domain d) x ≡ g.links (Domain d) x
  pub more : List Message
  pub sends : s.sends ≡ tells h number from d (s.grants.records d) ∷ more

module _ (h : Hierarchy) (number : ℕ) (g : Grants) (from d : ℕ) (who : Holder) where
  decided_kept : (note : Entry) (v : Verdict) → (decided h number g from d note v).grants.records d ≡ kept_after
      (g.records d) v
  decided_kept note (New r) = put_here g.records d r
  decided_kept note Same = refl

  decided_records : (note : Entry) (v : Verdict) (y : ℕ) → (y ≡ d → ⊥)
      → (decided h number g from d note v).grants.records y ≡ g.records y
  decided_records note (New r) y other = put_there g.records d r y other
  decided_records note Same y other = refl

  decided_links : (note : Entry) (v : Verdict) (me : Holder) (x : ℕ)
      → (decided h number g from d note v).grants.links me x ≡ g.links me x
  decided_links note (New r) me x = refl
  decided_links note Same me x = refl

  decided_sends : (note : Entry) (v : Verdict)
      → (decided h number g from d note v).sends ≡ tells h number from d
      ((decided h number g from d note v).grants.records d) ∷ []
  decided_sends note (New r) = ap (λ q. tells h number from d q ∷ []) (sym (put_here g.records d r))
  decided_sends note Same = refl

  take_decides : (s : ℕ) → Decides h number g from d who (Take s) (take_comes h number g from d who s)
  take_decides s = record {
    busy = false;
    outcome = 0;
    kept = decided_kept _ (take_after (g.records d) who s);
    records = decided_records _ (take_after (g.records d) who s);
    links = λ me x other. decided_links _ (take_after (g.records d) who s) me x;
    still = λ nothing x. decided_links _ (take_after (g.records d) who s) (Domain d) x;
    more = [];
    sends = decided_sends _ (take_after (g.records d) who s);
  }

  drop_decides : (e : ℕ) → Decides h number g from d who (Drop e) (drop_comes h number g from d who e)
  drop_decides e = record {
    busy = false;
    outcome = 0;
    kept = decided_kept _ (drop_after (g.records d) who e);
    records = decided_records _ (drop_after (g.records d) who e);
    links = λ me x other. decided_links _ (drop_after (g.records d) who e) me x;
    still = λ nothing x. decided_links _ (drop_after (g.records d) who e) (Domain d) x;
    more = [];
    sends = decided_sends _ (drop_after (g.records d) who e);
  }

  run_decides : (e n : ℕ) (c : Command) → Decides h number g from d who (Run e n c)
      (run_comes h number g from d who e n c)
  run_decides e n c = by (admits (g.records d) who e n) refl
    where
      busy : Bool
      busy = waits_for_children h (commanded h g d c) d

      own : ℕ
      own = own_code h g d c

      now : Standing
      now = started (g.records d) busy own

      not_mine : (me : Holder) (x : ℕ) → (me ≡ Domain d → ⊥)
          → (ran h number g from d e n c busy own).grants.links me x ≡ g.links me x
      not_mine me x other =
          choose (λ z. z ≡ g.links me x) (is_parent h x d && same_holder me (Domain d))
          (link_after (change_of h g d c x) (g.links (Domain d) x)) (g.links me x)
          (λ t. absurd (other (same_is me (Domain d) (and_parts (is_parent h x d) _ t).1)))
          (λ f. refl)

      by : (b : Bool) → admits (g.records d) who e n ≡ b
          → Decides h number g from d who (Run e n c) (run_comes h number g from d who e n c)
      by true is =
          subst (λ b. Decides h number g from d who (Run e n c) (if b then ran h number g from d e n c busy own
          else answered h number g from d)) (sym is)
          (record {
            busy = busy;
            outcome = own;
            kept = put_here g.records d now ∙ sym (ap (λ b. if b then now else g.records d) is);
            records = λ y other. put_there g.records d now y other;
            links = not_mine;
            still = λ nothing x. absurd (let wrong : true ≡ false = sym is ∙ nothing in cc);
            more = child_requests h number g d c;
            sends = ap (λ q. tells h number from d q ∷ child_requests h number g d c) (sym (put_here g.records d now));
          })
      by false is =
          subst (λ b. Decides h number g from d who (Run e n c) (if b then ran h number g from d e n c busy own
          else answered h number g from d)) (sym is)
          (record {
            busy = busy;
            outcome = own;
            kept = sym (ap (λ b. if b then now else g.records d) is);
            records = λ y other. refl;
            links = λ me x other. refl;
            still = λ nothing x. refl;
            more = [];
            sends = refl;
          })

  pub decides : (due : Due) → Decides h number g from d who due (grant_step h number g (Comes
      (requests h from who d due)))
  decides (Take s) = take_decides s
  decides (Drop e) = drop_decides e
  decides (Run e n c) = run_decides e n c

-- In the world.

-- a request has reached the keeper, who answers its sender with the record
pub record Asked (h : Hierarchy) (w : World) (number d : ℕ) (who : Holder) (due : Due) (v : World) : Type 0 where
  pub busy : Bool
  pub outcome : ℕ
  pub kept : record_in h v d ≡ asked_record (record_in h w d) who due busy outcome
  pub records : (y : ℕ) → (y ≡ d → ⊥) → record_in h v y ≡ record_in h w y
  pub links : (me : Holder) (x : ℕ) → (me ≡ Domain d → ⊥) → link_in h v me x ≡ link_in h w me x
  pub still : RunsNothing (record_in h w d) who due → (x : ℕ) → link_in h v (Domain d) x ≡ link_in h w (Domain d) x
  pub sent : (m : Message) → IsSent m w.sent → IsSent m v.sent
  pub reply : IsSent (tells h (home h d) number d (record_in h v d)) v.sent

-- a record, and a link, where a datagram has come
pub record_there : (h : Hierarchy) (w : World) (m : Message) (v : World) → Delivered h w m v → (y : ℕ)
    → (grant_step h m.to (w.stations m.to).grants (Comes m)).grants.records y ≡ (w.stations m.to).grants.records y
    → record_in h v y ≡ record_in h w y
record_there h w m v d y same = elim (apart (home h y) m.to) [
  | inl here ↦ subst (λ z. (v.stations z).grants.records y ≡ (w.stations z).grants.records y) (sym here)
      (ap (λ z. z y) d.records ∙ same)
  | inr other ↦ ap (λ (g : Grants). g.records y) (d.others (home h y) other)
]

pub link_there : (h : Hierarchy) (w : World) (m : Message) (v : World) → Delivered h w m v → (me : Holder) (x : ℕ)
    → (grant_step h m.to (w.stations m.to).grants (Comes m)).grants.links me x ≡ (w.stations m.to).grants.links me x
    → link_in h v me x ≡ link_in h w me x
link_there h w m v d me x same = elim (apart (holder_home h me) m.to) [
  | inl here ↦ subst (λ z. (v.stations z).grants.links me x ≡ (w.stations z).grants.links me x) (sym here)
      (ap (λ z. z me x) d.links ∙ same)
  | inr other ↦ ap (λ (g : Grants). g.links me x) (d.others (holder_home h me) other)
]

pub asked : (h : Hierarchy) (w : World) (number d : ℕ) (who : Holder) (due : Due) (v : World)
    → Delivered h w (requests h number who d due) v → Asked h w number d who due v
asked h w number d who due v at =
    let g : Grants = (w.stations (home h d)).grants in
    let s : GrantStep = grant_step h (home h d) g (Comes (requests h number who d due)) in
    let e = decides h (home h d) g number d who due in
    let here : record_in h v d ≡ s.grants.records d = ap (λ z. z d) at.records in
    record {
      busy = e.busy;
      outcome = e.outcome;
      kept = here ∙ e.kept;
      records = λ y other. record_there h w (requests h number who d due) v at y (e.records y other);
      links = λ me x other. link_there h w (requests h number who d due) v at me x (e.links me x other);
      still = λ nothing x. link_there h w (requests h number who d due) v at (Domain d) x (e.still nothing x);
      sent = at.sent;
      reply = subst (λ q. IsSent (tells h (home h d) number d q) v.sent) (sym here)
          (at.reply (tells h (home h d) number d (s.grants.records d)) e.more e.sends);
    }
