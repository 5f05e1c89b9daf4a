-- What a datagram that a station takes can name.
use Rattle.std.proofs.Common.{ℕ, ◌≡◌, ◌≤◌, true, false, Option, Some, None, refl, ap, ◌∙◌, subst}
use Rattle.std.proofs.Common.{arith}
use Rattle.std.specs.Prelude.{nat_le, IfSome}
use Rattle.std.proofs.lemmas.Bool.{and_parts, leb-true}
use Rattle.smi_grant.specs.declared.Command.{Command}
use Rattle.smi_grant.specs.declared.Holder.{Holder}
use Rattle.smi_grant.specs.declared.Holder.TheVariants.{Free, Operator, Domain}
use Rattle.smi_grant.specs.declared.Version.{Version}
use Rattle.smi_grant.specs.Holder.{is_free, is_in_range}
use Rattle.smi_grant.specs.Record.{Standing, is_outcome, is_record, last_number}
use Rattle.smi_message.specs.Message.{Message, is_boot, is_body, is_domain, is_grant_epoch, is_party}
use Rattle.smi_base.specs.Between.{is_between}
use Rattle.smi_message.specs.declared.Body.{Body}
use Rattle.smi_message.specs.declared.Body.TheVariants as body
use Rattle.smi_tree.specs.Roles.{is_holder_of, is_number, is_kept_by, is_keeper}
use Rattle.smi_tree.specs.Hierarchy.{Hierarchy}
use Rattle.smi_tree.specs.Lawful.{IsBetween, IsTree}
use Rattle.smi_tree.specs.Lookups.{domain_count, parent_of, station_count}
use Rattle.smi_protocol.specs.Opening.{object_count}
use Rattle.smi_protocol.specs.Refusals.{is_body_of, refusal_of_message, speaks_for}
use Rattle.smi_protocol.specs.Showing.{domain_of_body}
use Rattle.smi_protocol.specs.Sound.{IsCommand}
use Rattle.smi_protocol.proofs.KeptObjects.{kept_within}
use Rattle.smi_protocol.proofs.Ranges.{child_there, kept_there}
use Rattle.smi_protocol.proofs.SoundSteps.{body_here, sender_here}
use Rattle.smi_protocol.proofs.Tables.{number_self}

-- who holds something is somebody
party_holds : (who : Holder) → is_party who ≡ true → (is_free who ≡ false) × (is_in_range who ≡ true)
party_holds Free p = absurd cc
party_holds (Operator n) p = (refl, p)
party_holds (Domain n) p = (refl, p)

-- a holder that asks for a domain
pub record Hands (h : Hierarchy) (d : ℕ) (who : Holder) : Type 0 where
  pub domain : IsBetween 1 (domain_count h) d
  pub party : is_free who ≡ false
  pub range : is_in_range who ≡ true
  pub holder : is_holder_of h d who ≡ true

module _ (h : Hierarchy) (tree : IsTree h) (number : ℕ) (m : Message) (fits : is_body m.body ≡ true)
    (none : refusal_of_message h number m ≡ None) where
  there : (b : Body) → m.body ≡ b → (is_body b ≡ true) × (is_body_of h m.from number b ≡ true)
  there b is = (
    subst (λ z. is_body z ≡ true) is fits,
    subst (λ z. is_body_of h m.from number z ≡ true) is (body_here h number m none),
  )

  pub from_there : IsBetween 1 (station_count h) m.from
  from_there = sender_here h number m none

  pub asked_there : (d : ℕ) → m.body ≡ body.Ask d → IsBetween 1 (domain_count h) d
  asked_there d is = (kept_there h tree number d (there (body.Ask d) is).1).0

  pub taken_there : (d : ℕ) (who : Holder) (seen : ℕ) → m.body ≡ body.Take d who seen → Hands h d who
  taken_there d who seen is =
      let a = there (body.Take d who seen) is in
      let b = and_parts (is_domain d) _ a.0 in
      let p = party_holds who (and_parts (is_party who) _ b.1).0 in
      let k = and_parts (is_keeper h number d) _ a.1 in
      record {
        domain = (kept_there h tree number d k.0).0;
        party = p.0;
        range = p.1;
        holder = (and_parts (is_holder_of h d who) _ k.1).0;
      }

  pub dropped_there : (d : ℕ) (who : Holder) (e : ℕ) → m.body ≡ body.Drop d who e → Hands h d who
  dropped_there d who e is =
      let a = there (body.Drop d who e) is in
      let b = and_parts (is_domain d) _ a.0 in
      let p = party_holds who (and_parts (is_party who) _ b.1).0 in
      let k = and_parts (is_keeper h number d) _ a.1 in
      record {
        domain = (kept_there h tree number d k.0).0;
        party = p.0;
        range = p.1;
        holder = (and_parts (is_holder_of h d who) _ k.1).0;
      }

  pub run_there : (d : ℕ) (who : Holder) (e n : ℕ) (c : Command) → m.body ≡ body.Run d who e n c
      → Hands h d who × (n ≤ last_number) × IsCommand h c
  run_there d who e n c is =
      let a = there (body.Run d who e n c) is in
      let b = and_parts (is_domain d) _ a.0 in
      let o = and_parts (is_party who) _ b.1 in
      let p = party_holds who o.0 in
      let f = and_parts (is_grant_epoch e) _ o.1 in
      let r = and_parts (is_between 1 last_number n) _ f.1 in
      let i = and_parts (nat_le 1 n) (nat_le n last_number) r.0 in
      let k = and_parts (is_keeper h number d) _ a.1 in
      let s = and_parts (speaks_for h m.from d who) _ k.1 in (
        record {
          domain = (kept_there h tree number d k.0).0;
          party = p.0;
          range = p.1;
          holder = (and_parts (is_holder_of h d who) _ s.0).0;
        },
        leb-true n last_number i.1,
        record { range = r.1; known = s.1 },
      )

  pub told_there : (d : ℕ) (r : Standing) → m.body ≡ body.Tell d r
      → IsBetween 1 (domain_count h) d × (is_record r ≡ true) × (is_outcome r.outcome ≡ true)
  told_there d r is =
      let a = there (body.Tell d r) is in
      let b = and_parts (is_domain d) _ a.0 in
      let f = and_parts (is_in_range r.holder) _ b.1 in
      let o = and_parts (is_outcome r.outcome) _ f.1 in
      ((kept_there h tree m.from d (and_parts (is_keeper h m.from d) _ a.1).0).0, o.1, o.0)

  pub watched_there : (x echo : ℕ) → m.body ≡ body.Watch x echo → (is_kept_by h number x ≡ true) × (is_boot echo ≡ true)
  watched_there x echo is = let a = there (body.Watch x echo) is in (a.1, (and_parts _ (is_boot echo) a.0).1)

  pub unwatched_there : (x echo : ℕ) → m.body ≡ body.Unwatch x echo → is_kept_by h number x ≡ true
  unwatched_there x echo is = (there (body.Unwatch x echo) is).1

  pub state_there : (x echo : ℕ) (v : Version) (state : ℕ) → m.body ≡ body.State x echo v state
      → IsBetween 1 (object_count h) x
  state_there x echo v state is =
      let a = there (body.State x echo v state) is in
      let w = kept_within h tree m.from x (and_parts (is_kept_by h m.from x) _ a.1).0 in
      let least = w.0 in
      let most = w.1 in
      record { least = least; most = omega (arith, most) }

  -- the domain whose members it may change
  pub stirs_there : IfSome (domain_of_body h m.body) (IsBetween 1 (domain_count h))
  stirs_there = by m.body refl
    where
      above : (x : ℕ) (o : Option ℕ) → parent_of h x ≡ o → IfSome o (IsBetween 1 (domain_count h))
      above x None is = tt
      above x (Some p) is = (child_there h tree x p (ap (λ (o : Option ℕ). is_number o p) is ∙ number_self p)).1

      by : (b : Body) → m.body ≡ b → IfSome (domain_of_body h b) (IsBetween 1 (domain_count h))
      by (body.Ask d) is = tt
      by (body.Take d who seen) is = tt
      by (body.Drop d who e) is = tt
      by (body.Run d who e n c) is = (run_there d who e n c is).0.domain
      by (body.Tell d r) is = above d (parent_of h d) refl
      by (body.Watch x echo) is = tt
      by (body.State x echo v state) is = above x (parent_of h x) refl
      by (body.Unwatch x echo) is = tt
