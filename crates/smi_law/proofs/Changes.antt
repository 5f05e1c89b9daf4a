-- How a world changes when nothing, or one thing, happens to grants; and what its entry asks of the trace.
use Rattle.std.proofs.Common.{ℕ, ◌≡◌, ◌≤◌, ◌+◌, ◌%◌, false, List, ◌∷◌, inl, inr, refl, sym, ap, ◌∙◌, subst, arith}
use Rattle.std.specs.Prelude.{◌==◌, if◌then◌else◌}
use Rattle.std.proofs.lemmas.Bool.{eqb-true}
use Rattle.std.proofs.lemmas.Bool.Decides.{nat_tests}
use Rattle.smi_grant.specs.declared.Holder.{Holder}
use Rattle.smi_grant.specs.declared.Holder.TheVariants.{Free, Operator, Domain}
use Rattle.smi_grant.specs.Holder.{is_free, odd_of}
use Rattle.smi_grant.specs.Keeper.{handed}
use Rattle.smi_grant.specs.Record.{Standing}
use Rattle.smi_tree.specs.Hierarchy.{Hierarchy}
use Rattle.smi_command.specs.declared.Link.{Link}
use Rattle.smi_command.specs.declared.Link.TheVariants.{Dropping}
use Rattle.smi_command.specs.Link.{known}
use Rattle.smi_grant.proofs.Holders.{either, held_odd}
use Rattle.smi_protocol.specs.declared.Entry.{Entry}
use Rattle.smi_protocol.specs.declared.Entry.TheVariants.{Granted, Freed, Learned, LetGo}
use Rattle.smi_law.specs.Known.{record_in, link_in}
use Rattle.smi_law.specs.Safe.{GrantFits, MayHold}
use Rattle.smi_protocol.specs.Schedule.{World}
use Rattle.smi_law.specs.Trace.{Stands, epoch_at, holder_at, has_learned}
use Rattle.smi_law.specs.World.{Among as IsSent}
use Rattle.smi_law.proofs.KnownFacts.{known_lawful}
use Rattle.smi_law.proofs.Traces.{Traces, Safely, holds_at, one_commander}
use Rattle.smi_law.proofs.Viewed.{Viewed}

-- the domain has not changed hands
pub record SameGrant (r q : Standing) : Type 0 where
  pub epoch : q.epoch ≡ r.epoch
  pub holder : q.holder ≡ r.holder

pub same_grant : (r : Standing) → SameGrant r r
same_grant r = record { epoch = refl; holder = refl }

-- the link holds what it held, knows no less, and is dropping only if it was
pub record SameLink (l k : Link) : Type 0 where
  pub held : (e : ℕ) → holds_at k e ≡ holds_at l e
  pub known : known l ≤ known k
  pub dropping : (e : ℕ) → k ≡ Dropping e → l ≡ Dropping e

pub same_link : (l : Link) → SameLink l l
same_link l = record { held = λ e. refl; known = omega arith; dropping = λ e i. i }

-- Nothing happens to grants.

pub record Silent (h : Hierarchy) (w next : World) : Type 0 where
  pub records : (d : ℕ) → SameGrant (record_in h w d) (record_in h next d)
  pub links : (me : Holder) (d : ℕ) → SameLink (link_in h w me d) (link_in h next me d)
  pub sent : next.sent ≡ w.sent

pub silent : (h : Hierarchy) (past : List Entry) (w next : World) → Silent h w next → Safely h past w
    → Safely h past next
silent h past w next c s =
    let t = s.traces in
    record {
      traces = record {
        epoch = λ d. t.epoch d ∙ sym (c.records d).epoch;
        holder = λ d. t.holder d ∙ sym (c.records d).holder;
        learned = λ me d e. t.learned me d e ∙ sym ((c.links me d).held e);
        once = λ me d e a. let b = t.once me d e a in let k = (c.links me d).known in omega (arith, b, k);
        let_go = λ me d e i. t.let_go me d e ((c.links me d).dropping e i);
        dropped = λ m me d e a b. t.dropped m me d e (subst (λ z. IsSent m z) c.sent a) b;
      };
      safe = s.safe;
    }

-- One domain changes hands.

pub record Handed (h : Hierarchy) (w next : World) (x : ℕ) (who : Holder) : Type 0 where
  pub record_ : record_in h next x ≡ handed (record_in h w x) who
  pub others : (d : ℕ) → (d ≡ x → ⊥) → SameGrant (record_in h w d) (record_in h next d)
  pub links : (me : Holder) (d : ℕ) → SameLink (link_in h w me d) (link_in h next me d)
  pub sent : next.sent ≡ w.sent

-- the two entries of a change of hands, by its holder
abbrev pub handed_entry : ℕ → ℕ → Holder → Entry
handed_entry x e Free = Freed x e
handed_entry x e (Operator o) = Granted x e (Operator o)
handed_entry x e (Domain p) = Granted x e (Domain p)

epoch_handed : (d x e : ℕ) (who : Holder) (past : List Entry)
    → epoch_at d (handed_entry x e who ∷ past) ≡ (if x == d then e else epoch_at d past)
unfolding epoch_at
epoch_handed d x e Free past = refl
epoch_handed d x e (Operator o) past = refl
epoch_handed d x e (Domain p) past = refl

holder_handed : (d x e : ℕ) (who : Holder) (past : List Entry)
    → holder_at d (handed_entry x e who ∷ past) ≡ (if x == d then who else holder_at d past)
unfolding holder_at
holder_handed d x e Free past = refl
holder_handed d x e (Operator o) past = refl
holder_handed d x e (Domain p) past = refl

learned_handed : (me : Holder) (d f x e : ℕ) (who : Holder) (past : List Entry)
    → has_learned me d f (handed_entry x e who ∷ past) ≡ has_learned me d f past
unfolding has_learned
learned_handed me d f x e Free past = refl
learned_handed me d f x e (Operator o) past = refl
learned_handed me d f x e (Domain p) past = refl

stood_handed : (y : Entry) (x e : ℕ) (who : Holder) (past : List Entry) → (handed_entry x e who ≡ y → ⊥)
    → Stands y (handed_entry x e who ∷ past) → Stands y past
stood_handed y x e who past apart_ (inl same) = absurd (apart_ (sym same))
stood_handed y x e who past apart_ (inr a) = a

not_learned : (x e : ℕ) (who me : Holder) (d f : ℕ) → handed_entry x e who ≡ Learned me d f → ⊥
not_learned x e Free me d f i = absurd cc
not_learned x e (Operator o) me d f i = absurd cc
not_learned x e (Domain p) me d f i = absurd cc

pub test_other : (x d : ℕ) → (x == d) ≡ false → d ≡ x → ⊥
test_other x d f i = grind (arith, nat_tests)

pub handed_traces : (h : Hierarchy) (past : List Entry) (w next : World) (x : ℕ) (who : Holder)
    → Handed h w next x who → Traces h past w → Traces h (handed_entry x ((record_in h w x).epoch + 1) who ∷ past) next
handed_traces h past w next x who c t = record {
  epoch = λ d. epoch_handed d x e who past ∙ elim (either (x == d)) [
    | inl i ↦ rw i (ap (λ (r : Standing). r.epoch) (sym c.record_)
        ∙ ap (λ z. (record_in h next z).epoch) (eqb-true x d i))
    | inr f ↦ rw f (t.epoch d ∙ sym (c.others d (test_other x d f)).epoch)
  ];
  holder = λ d. holder_handed d x e who past ∙ elim (either (x == d)) [
    | inl i ↦ rw i (ap (λ (r : Standing). r.holder) (sym c.record_)
        ∙ ap (λ z. (record_in h next z).holder) (eqb-true x d i))
    | inr f ↦ rw f (t.holder d ∙ sym (c.others d (test_other x d f)).holder)
  ];
  learned = λ me d f. learned_handed me d f x e who past ∙ (t.learned me d f ∙ sym ((c.links me d).held f));
  once = λ me d f a. let b = t.once me d f (stood_handed (Learned me d f) x e who past (not_learned x e who me d f)
      a) in let k = (c.links me d).known in omega (arith, b, k);
  let_go = λ me d f i. inr (t.let_go me d f ((c.links me d).dropping f i));
  dropped = λ m me d f a b. inr (t.dropped m me d f (subst (λ z. IsSent m z) c.sent a) b);
}
  where
    e : ℕ
    e = (record_in h w x).epoch + 1

-- What the entry asks of the trace.

granted_odd : (h : Hierarchy) (w next : World) (x : ℕ) (who : Holder) → is_free who ≡ false → Handed h w next x who
    → Viewed h next → ((record_in h w x).epoch + 1) % 2 ≡ 1
granted_odd h w next x who party c v =
    ap (λ (r : Standing). r.epoch % 2) (sym c.record_) ∙ (known_lawful h next x v).parity
    ∙ ap (λ (r : Standing). odd_of r.holder) c.record_ ∙ held_odd who party

freed_even : (h : Hierarchy) (w next : World) (x : ℕ) → Handed h w next x Free → Viewed h next
    → ((record_in h w x).epoch + 1) % 2 ≡ 0
freed_even h w next x c v =
    ap (λ (r : Standing). r.epoch % 2) (sym c.record_) ∙ (known_lawful h next x v).parity
    ∙ ap (λ (r : Standing). odd_of r.holder) c.record_

pub granted_fits : (h : Hierarchy) (past : List Entry) (w next : World) (x : ℕ) (who : Holder) → is_free who ≡ false
    → MayHold h x who → Handed h w next x who → Viewed h next → Traces h past w
    → GrantFits h (handed_entry x ((record_in h w x).epoch + 1) who) past
granted_fits h past w next x Free party may c v t = absurd may
granted_fits h past w next x (Operator o) party may c v t =
    (ap (λ z. z + 1) (sym (t.epoch x)), granted_odd h w next x (Operator o) party c v, may)
granted_fits h past w next x (Domain p) party may c v t =
    (ap (λ z. z + 1) (sym (t.epoch x)), granted_odd h w next x (Domain p) party c v, may)

pub freed_fits : (h : Hierarchy) (past : List Entry) (w next : World) (x : ℕ)
    → Stands (LetGo (record_in h w x).holder x (record_in h w x).epoch) past → Handed h w next x Free → Viewed h next
    → Traces h past w → GrantFits h (Freed x ((record_in h w x).epoch + 1)) past
freed_fits h past w next x gone c v t = (
  ap (λ z. z + 1) (sym (t.epoch x)),
  freed_even h w next x c v,
  subst (λ g. Stands (LetGo g x (epoch_at x past)) past) (sym (t.holder x))
      (subst (λ e. Stands (LetGo (record_in h w x).holder x e) past) (sym (t.epoch x)) gone),
)

pub handed_safely : (h : Hierarchy) (past : List Entry) (w next : World) (x : ℕ) (who : Holder)
    → Handed h w next x who → Viewed h next → GrantFits h (handed_entry x ((record_in h w x).epoch + 1) who) past
    → Safely h past w → Safely h (handed_entry x ((record_in h w x).epoch + 1) who ∷ past) next
handed_safely h past w next x who c v fits s =
    let t = handed_traces h past w next x who c s.traces in
    record {
      traces = t;
      safe = (fits, one_commander h (handed_entry x ((record_in h w x).epoch + 1) who ∷ past) next v t, s.safe);
    }
