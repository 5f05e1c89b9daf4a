-- How a world changes when one link becomes held or dropping, and what its entry asks of the trace.
use Rattle.std.proofs.Common.{ℕ, ◌≡◌, ◌≤◌, ◌+◌, Bool, true, false, List, [], ◌∷◌, ◌⊎◌, inl, inr, refl, sym, ap, ◌∙◌}
use Rattle.std.proofs.Common.{subst, arith}
use Rattle.std.specs.Prelude.{◌==◌, ◌&&◌, if◌then◌else◌}
use Rattle.std.proofs.lemmas.Bool.{and_parts, eqb-true}
use Rattle.std.proofs.lemmas.Bool.Decides.{nat_tests}
use Rattle.smi_grant.specs.declared.Command.{Command}
use Rattle.smi_grant.specs.declared.Holder.{Holder}
use Rattle.smi_grant.specs.declared.Holder.TheVariants.{Free}
use Rattle.smi_grant.specs.Holder.{is_free}
use Rattle.smi_tree.specs.Hierarchy.{Hierarchy}
use Rattle.smi_command.specs.declared.Link.{Link}
use Rattle.smi_command.specs.declared.Link.TheVariants.{Taking, Held, Dropping}
use Rattle.smi_command.specs.Link.{known}
use Rattle.smi_grant.proofs.Holders.{either, told_apart, same_is, same_self}
use Rattle.smi_protocol.specs.declared.Entry.{Entry}
use Rattle.smi_protocol.specs.declared.Entry.TheVariants.{Booted, Granted, Freed, Ordered, Ran, Learned, LetGo}
use Rattle.smi_protocol.specs.declared.Entry.TheVariants.{InMode, Settled, Showed, Passed, Told}
use Rattle.smi_law.specs.Known.{record_in, link_in}
use Rattle.smi_law.specs.Safe.{GrantFits}
use Rattle.smi_protocol.specs.Schedule.{World}
use Rattle.smi_law.specs.Trace.{Stands, epoch_at, holder_at, has_learned, is_grant_of}
use Rattle.smi_law.specs.World.{Among as IsSent}
use Rattle.smi_law.proofs.Changes.{SameGrant, SameLink}
use Rattle.smi_law.proofs.KnownFacts.{known_grant}
use Rattle.smi_law.proofs.Moves.{apart, number_self}
use Rattle.smi_law.proofs.Quiet.{epoch_quiet, holder_quiet}
use Rattle.smi_law.proofs.Traces.{Traces, Safely, holds_at, one_commander}
use Rattle.smi_law.proofs.Viewed.{Viewed}

-- one link changes from this to that
pub record LinkChange (h : Hierarchy) (w next : World) (who : Holder) (x : ℕ) (old new : Link) : Type 0 where
  pub was : link_in h w who x ≡ old
  pub is : link_in h next who x ≡ new
  pub others : (me : Holder) (d : ℕ) → (me ≡ who → d ≡ x → ⊥) → SameLink (link_in h w me d) (link_in h next me d)
  pub records : (d : ℕ) → SameGrant (record_in h w d) (record_in h next d)
  pub sent : next.sent ≡ w.sent

record IsIt (me who : Holder) (d x : ℕ) : Type 0 where
  holder : me ≡ who
  domain : d ≡ x

it_or : (me who : Holder) (d x : ℕ) → IsIt me who d x ⊎ (me ≡ who → d ≡ x → ⊥)
it_or me who d x = elim (apart d x) [
  | inl i ↦ elim (told_apart me who) [ inl j ↦ inl (record { holder = j.1; domain = i }) | inr o ↦ inr (λ a b. o.1 a) ]
  | inr o ↦ inr (λ a b. o b)
]

turned_about : (m n : ℕ) → (m == n) ≡ (n == m)
turned_about m n = grind (arith, nat_tests)

and_true : (b : Bool) → (b && true) ≡ b
and_true true = refl
and_true false = refl

-- an entry on a grant is about this one exactly where the epochs are one
about_it : (who : Holder) (x e f : ℕ) → is_grant_of who x e who x f ≡ (e == f)
about_it who x e f = rw (number_self x) (rw (same_self who) (and_true (e == f)))

about_others : (me who : Holder) (d x e f : ℕ) → (me ≡ who → d ≡ x → ⊥) → is_grant_of me d e who x f ≡ false
about_others me who d x e f o = elim (either (is_grant_of me d e who x f)) [
  | inl t ↦
      let a = and_parts (x == d) _ t in let b = and_parts (e == f) _ a.1 in
      absurd (o (same_is me who b.1) (sym (eqb-true x d a.0)))
  | inr i ↦ i
]

-- the trace says nothing new of epochs and holders, nor of other links

epoch_learned : (d x e : ℕ) (who : Holder) (past : List Entry) → epoch_at d (Learned who x e ∷ past) ≡ epoch_at d past
unfolding epoch_at
epoch_learned d x e who past = refl

epoch_let_go : (d x e : ℕ) (who : Holder) (past : List Entry) → epoch_at d (LetGo who x e ∷ past) ≡ epoch_at d past
unfolding epoch_at
epoch_let_go d x e who past = refl

holder_learned : (d x e : ℕ) (who : Holder) (past : List Entry)
    → holder_at d (Learned who x e ∷ past) ≡ holder_at d past
unfolding holder_at
holder_learned d x e who past = refl

holder_let_go : (d x e : ℕ) (who : Holder) (past : List Entry) → holder_at d (LetGo who x e ∷ past) ≡ holder_at d past
unfolding holder_at
holder_let_go d x e who past = refl

learned_learned : (me : Holder) (d e : ℕ) (who : Holder) (x f : ℕ) (past : List Entry)
    → has_learned me d e (Learned who x f ∷ past)
    ≡ (if is_grant_of me d e who x f then true else has_learned me d e past)
unfolding has_learned
learned_learned me d e who x f past = refl

learned_let_go : (me : Holder) (d e : ℕ) (who : Holder) (x f : ℕ) (past : List Entry)
    → has_learned me d e (LetGo who x f ∷ past)
    ≡ (if is_grant_of me d e who x f then false else has_learned me d e past)
unfolding has_learned
learned_let_go me d e who x f past = refl

epoch_granted : (d x e : ℕ) (who : Holder) (past : List Entry)
    → epoch_at d (Granted x e who ∷ past) ≡ (if x == d then e else epoch_at d past)
unfolding epoch_at
epoch_granted d x e who past = refl

epoch_freed : (d x e : ℕ) (past : List Entry) → epoch_at d (Freed x e ∷ past) ≡ (if x == d then e else epoch_at d past)
unfolding epoch_at
epoch_freed d x e past = refl

holder_granted : (d x e : ℕ) (who : Holder) (past : List Entry)
    → holder_at d (Granted x e who ∷ past) ≡ (if x == d then who else holder_at d past)
unfolding holder_at
holder_granted d x e who past = refl

holder_freed : (d x e : ℕ) (past : List Entry)
    → holder_at d (Freed x e ∷ past) ≡ (if x == d then Free else holder_at d past)
unfolding holder_at
holder_freed d x e past = refl

holder_none : (d : ℕ) → holder_at d [] ≡ Free
unfolding holder_at
holder_none d = refl

-- after an entry that leaves the epoch, the grant is as before
still_stands : (d : ℕ) (who : Holder) (x : Entry) (past : List Entry) → epoch_at d (x ∷ past) ≡ epoch_at d past
    → Stands (Granted d (epoch_at d past) who) past → Stands (Granted d (epoch_at d (x ∷ past)) who) (x ∷ past)
still_stands d who x past same a = subst (λ n. Stands (Granted d n who) (x ∷ past)) (sym same) (inr a)

-- the holder of the present grant was granted it
pub granted_stands : (d : ℕ) (who : Holder) → is_free who ≡ false → (past : List Entry) → holder_at d past ≡ who
    → Stands (Granted d (epoch_at d past) who) past
granted_stands d who p [] i = let t : is_free Free ≡ false = ap is_free (sym (holder_none d) ∙ i) ∙ p in absurd cc
granted_stands d who p (Granted x e g ∷ past) i = elim (either (x == d)) [
  | inl t ↦
      let a : epoch_at d (Granted x e g ∷ past) ≡ e = epoch_granted d x e g past
      ∙ ap (λ b. if b then e else epoch_at d past) t in
      let b : g ≡ who = sym (holder_granted d x e g past ∙ ap (λ z. if z then g else holder_at d past) t) ∙ i in
      subst (λ n. Stands (Granted d n who) (Granted x e g ∷ past)) (sym a)
      (inl (ap (λ z. Granted z e who) (sym (eqb-true x d t)) ∙ ap (Granted x e) (sym b)))
  | inr f ↦
      still_stands d who (Granted x e g) past (epoch_granted d x e g past
      ∙ ap (λ b. if b then e else epoch_at d past) f)
      (granted_stands d who p past (sym (holder_granted d x e g past ∙ ap (λ z. if z then g else holder_at d past) f)
      ∙ i))
]
granted_stands d who p (Freed x e ∷ past) i = elim (either (x == d)) [
  | inl t ↦
      let b : Free ≡ who = sym (holder_freed d x e past ∙ ap (λ z. if z then Free else holder_at d past) t) ∙ i in
      let k : is_free Free ≡ false = ap is_free b ∙ p in absurd cc
  | inr f ↦
      still_stands d who (Freed x e) past (epoch_freed d x e past ∙ ap (λ b. if b then e else epoch_at d past) f)
      (granted_stands d who p past (sym (holder_freed d x e past ∙ ap (λ z. if z then Free else holder_at d past) f)
      ∙ i))
]
granted_stands d who p (Learned g x e ∷ past) i =
    still_stands d who (Learned g x e) past (epoch_learned d x e g past)
    (granted_stands d who p past (sym (holder_learned d x e g past) ∙ i))
granted_stands d who p (LetGo g x e ∷ past) i =
    still_stands d who (LetGo g x e) past (epoch_let_go d x e g past)
    (granted_stands d who p past (sym (holder_let_go d x e g past) ∙ i))
granted_stands d who p (Booted s b ∷ past) i =
    still_stands d who (Booted s b) past (epoch_quiet d (Booted s b) past tt)
    (granted_stands d who p past (sym (holder_quiet d (Booted s b) past tt) ∙ i))
granted_stands d who p (Ordered o x e n c ∷ past) i =
    still_stands d who (Ordered o x e n c) past (epoch_quiet d (Ordered o x e n c) past tt)
    (granted_stands d who p past (sym (holder_quiet d (Ordered o x e n c) past tt) ∙ i))
granted_stands d who p (Ran x e n c ∷ past) i =
    still_stands d who (Ran x e n c) past (epoch_quiet d (Ran x e n c) past tt)
    (granted_stands d who p past (sym (holder_quiet d (Ran x e n c) past tt) ∙ i))
granted_stands d who p (InMode x m ∷ past) i =
    still_stands d who (InMode x m) past (epoch_quiet d (InMode x m) past tt)
    (granted_stands d who p past (sym (holder_quiet d (InMode x m) past tt) ∙ i))
granted_stands d who p (Settled x e n q ∷ past) i =
    still_stands d who (Settled x e n q) past (epoch_quiet d (Settled x e n q) past tt)
    (granted_stands d who p past (sym (holder_quiet d (Settled x e n q) past tt) ∙ i))
granted_stands d who p (Showed s q ∷ past) i =
    still_stands d who (Showed s q) past (epoch_quiet d (Showed s q) past tt)
    (granted_stands d who p past (sym (holder_quiet d (Showed s q) past tt) ∙ i))
granted_stands d who p (Passed q ∷ past) i =
    still_stands d who (Passed q) past (epoch_quiet d (Passed q) past tt)
    (granted_stands d who p past (sym (holder_quiet d (Passed q) past tt) ∙ i))
granted_stands d who p (Told o q ∷ past) i =
    still_stands d who (Told o q) past (epoch_quiet d (Told o q) past tt)
    (granted_stands d who p past (sym (holder_quiet d (Told o q) past tt) ∙ i))

-- A take is granted.

module _ (h : Hierarchy) (past : List Entry) (w next : World) (who : Holder) (x s : ℕ)
    (c : LinkChange h w next who x (Taking s) (Held (s + 1) 0 [])) (t : Traces h past w) where
  learns_known : (me : Holder) (d : ℕ) → known (link_in h w me d) ≤ known (link_in h next me d)
  learns_known me d = elim (it_or me who d x) [
    | inl i ↦
        let a : known (link_in h w me d) ≡ s = ap (λ z. known (link_in h w z d)) i.holder
        ∙ ap (λ z. known (link_in h w who z)) i.domain ∙ ap known c.was in
        let b : known (link_in h next me d) ≡ s + 1 = ap (λ z. known (link_in h next z d)) i.holder
        ∙ ap (λ z. known (link_in h next who z)) i.domain ∙ ap known c.is in
        omega (arith, a, b)
    | inr o ↦ (c.others me d o).known
  ]

  learns_it : (e : ℕ) → has_learned who x e (Learned who x (s + 1) ∷ past) ≡ holds_at (link_in h next who x) e
  learns_it e =
      learned_learned who x e who x (s + 1) past
      ∙ ap (λ b. if b then true else has_learned who x e past) (about_it who x e (s + 1))
      ∙ ap (λ b. if e == s + 1 then true else b) (t.learned who x e ∙ ap (λ l. holds_at l e) c.was)
      ∙ chosen (e == s + 1)
      ∙ turned_about e (s + 1)
      ∙ sym (ap (λ l. holds_at l e) c.is)
    where
      chosen : (b : Bool) → (if b then true else false) ≡ b
      chosen true = refl
      chosen false = refl

  learns_others : (me : Holder) (d e : ℕ) → (me ≡ who → d ≡ x → ⊥)
      → has_learned me d e (Learned who x (s + 1) ∷ past) ≡ holds_at (link_in h next me d) e
  learns_others me d e o =
      learned_learned me d e who x (s + 1) past
      ∙ ap (λ b. if b then true else has_learned me d e past) (about_others me who d x e (s + 1) o)
      ∙ t.learned me d e
      ∙ sym ((c.others me d o).held e)

  learns_once : (me : Holder) (d e : ℕ) → Stands (Learned me d e) (Learned who x (s + 1) ∷ past)
      → e ≤ known (link_in h next me d)
  learns_once me d e (inl same) =
      let i : e ≡ s + 1 = cc in
      let j : me ≡ who = cc in
      let l : d ≡ x = cc in
      let k : known (link_in h next me d) ≡ s + 1 = ap (λ z. known (link_in h next z d)) j
      ∙ ap (λ z. known (link_in h next who z)) l ∙ ap known c.is in
      omega (arith, i, k)
  learns_once me d e (inr a) = let b = t.once me d e a in let k = learns_known me d in omega (arith, b, k)

  learns_let_go : (me : Holder) (d e : ℕ) → link_in h next me d ≡ Dropping e → link_in h w me d ≡ Dropping e
  learns_let_go me d e i = elim (it_or me who d x) [
    | inl j ↦
        let a : Held (s + 1) 0 [] ≡ Dropping e = sym c.is ∙ ap (λ z. link_in h next z x) (sym j.holder)
        ∙ ap (λ z. link_in h next me z) (sym j.domain) ∙ i in absurd cc
    | inr o ↦ (c.others me d o).dropping e i
  ]

  pub learned_traces : Traces h (Learned who x (s + 1) ∷ past) next
  learned_traces = record {
    epoch = λ d. epoch_learned d x (s + 1) who past ∙ t.epoch d ∙ sym (c.records d).epoch;
    holder = λ d. holder_learned d x (s + 1) who past ∙ t.holder d ∙ sym (c.records d).holder;
    learned = λ me d e. elim (it_or me who d x) [
      | inl i ↦ subst (λ z. has_learned z d e (Learned who x (s + 1) ∷ past) ≡ holds_at (link_in h next z d) e)
          (sym i.holder)
          (subst (λ z. has_learned who z e (Learned who x (s + 1) ∷ past) ≡ holds_at (link_in h next who z) e)
          (sym i.domain) (learns_it e))
      | inr o ↦ learns_others me d e o
    ];
    once = learns_once;
    let_go = λ me d e i. inr (t.let_go me d e (learns_let_go me d e i));
    dropped = λ m me d e a b. inr (t.dropped m me d e (subst (λ z. IsSent m z) c.sent a) b);
  }

  pub learned_fits : is_free who ≡ false → Viewed h next → GrantFits h (Learned who x (s + 1)) past
  learned_fits party v =
      let k = (known_grant h next x who party v).is_held (s + 1) 0 [] c.is in
      let e : epoch_at x past ≡ s + 1 = t.epoch x ∙ sym (c.records x).epoch ∙ k.0 in (
        sym e,
        subst (λ z. Stands (Granted x z who) past) e
            (granted_stands x who party past (t.holder x ∙ sym (c.records x).holder ∙ k.1)),
        λ a.
            let b = t.once who x (s + 1) a in
            let l : known (link_in h w who x) ≡ s = ap known c.was in
            omega (arith, b, l),
      )

pub learned_safely : (h : Hierarchy) (past : List Entry) (w next : World) (who : Holder) (x s : ℕ)
    → is_free who ≡ false → LinkChange h w next who x (Taking s) (Held (s + 1) 0 []) → Viewed h next → Safely h past w
    → Safely h (Learned who x (s + 1) ∷ past) next
learned_safely h past w next who x s party c v safely =
    let t = learned_traces h past w next who x s c safely.traces in
    record {
      traces = t;
      safe = (
        learned_fits h past w next who x s c safely.traces party v,
        one_commander h (Learned who x (s + 1) ∷ past) next v t,
        safely.safe,
      );
    }

-- A grant is given up.

module _ (h : Hierarchy) (past : List Entry) (w next : World) (who : Holder) (x f n : ℕ) (p : List Command)
    (c : LinkChange h w next who x (Held f n p) (Dropping f)) (t : Traces h past w) where
  leaves_known : (me : Holder) (d : ℕ) → known (link_in h w me d) ≤ known (link_in h next me d)
  leaves_known me d = elim (it_or me who d x) [
    | inl i ↦
        let a : known (link_in h w me d) ≡ f = ap (λ z. known (link_in h w z d)) i.holder
        ∙ ap (λ z. known (link_in h w who z)) i.domain ∙ ap known c.was in
        let b : known (link_in h next me d) ≡ f = ap (λ z. known (link_in h next z d)) i.holder
        ∙ ap (λ z. known (link_in h next who z)) i.domain ∙ ap known c.is in
        omega (arith, a, b)
    | inr o ↦ (c.others me d o).known
  ]

  leaves_it : (e : ℕ) → has_learned who x e (LetGo who x f ∷ past) ≡ holds_at (link_in h next who x) e
  leaves_it e =
      learned_let_go who x e who x f past
      ∙ ap (λ b. if b then false else has_learned who x e past) (about_it who x e f)
      ∙ ap (λ b. if e == f then false else b) (t.learned who x e ∙ ap (λ l. holds_at l e) c.was ∙ turned_about f e)
      ∙ chosen (e == f)
      ∙ sym (ap (λ l. holds_at l e) c.is)
    where
      chosen : (b : Bool) → (if b then false else b) ≡ false
      chosen true = refl
      chosen false = refl

  leaves_others : (me : Holder) (d e : ℕ) → (me ≡ who → d ≡ x → ⊥)
      → has_learned me d e (LetGo who x f ∷ past) ≡ holds_at (link_in h next me d) e
  leaves_others me d e o =
      learned_let_go me d e who x f past
      ∙ ap (λ b. if b then false else has_learned me d e past) (about_others me who d x e f o)
      ∙ t.learned me d e
      ∙ sym ((c.others me d o).held e)

  left_before : (me : Holder) (d e : ℕ) → Stands (Learned me d e) (LetGo who x f ∷ past) → Stands (Learned me d e) past
  left_before me d e (inl same) = absurd cc
  left_before me d e (inr a) = a

  leaves_let_go : (me : Holder) (d e : ℕ) → link_in h next me d ≡ Dropping e
      → Stands (LetGo me d e) (LetGo who x f ∷ past)
  leaves_let_go me d e i = elim (it_or me who d x) [
    | inl j ↦
        let a : Dropping f ≡ Dropping e = sym c.is ∙ ap (λ z. link_in h next z x) (sym j.holder)
        ∙ ap (λ z. link_in h next me z) (sym j.domain) ∙ i in
        let k : f ≡ e = cc in
        inl (ap (λ z. LetGo z d e) j.holder ∙ ap (λ z. LetGo who z e) j.domain ∙ ap (LetGo who x) (sym k))
    | inr o ↦ inr (t.let_go me d e ((c.others me d o).dropping e i))
  ]

  pub left_traces : Traces h (LetGo who x f ∷ past) next
  left_traces = record {
    epoch = λ d. epoch_let_go d x f who past ∙ t.epoch d ∙ sym (c.records d).epoch;
    holder = λ d. holder_let_go d x f who past ∙ t.holder d ∙ sym (c.records d).holder;
    learned = λ me d e. elim (it_or me who d x) [
      | inl i ↦ subst (λ z. has_learned z d e (LetGo who x f ∷ past) ≡ holds_at (link_in h next z d) e) (sym i.holder)
          (subst (λ z. has_learned who z e (LetGo who x f ∷ past) ≡ holds_at (link_in h next who z) e) (sym i.domain)
          (leaves_it e))
      | inr o ↦ leaves_others me d e o
    ];
    once = λ me d e a. let b = t.once me d e (left_before me d e a) in let k = leaves_known me d in omega (arith, b, k);
    let_go = leaves_let_go;
    dropped = λ m me d e a b. inr (t.dropped m me d e (subst (λ z. IsSent m z) c.sent a) b);
  }

  pub left_fits : is_free who ≡ false → Viewed h w → GrantFits h (LetGo who x f) past
  left_fits party v =
      let k = (known_grant h w x who party v).is_held f n p c.was in
      let e : f ≡ epoch_at x past = sym k.0 ∙ sym (t.epoch x) in (
        e,
        t.learned who x (epoch_at x past) ∙ ap (λ l. holds_at l (epoch_at x past)) c.was
            ∙ ap (λ z. z == epoch_at x past) e ∙ number_self (epoch_at x past),
      )

pub left_safely : (h : Hierarchy) (past : List Entry) (w next : World) (who : Holder) (x f n : ℕ) (p : List Command)
    → is_free who ≡ false → LinkChange h w next who x (Held f n p) (Dropping f) → Viewed h w → Viewed h next
    → Safely h past w → Safely h (LetGo who x f ∷ past) next
left_safely h past w next who x f n p party c before v safely =
    let t = left_traces h past w next who x f n p c safely.traces in
    record {
      traces = t;
      safe = (
        left_fits h past w next who x f n p c safely.traces party before,
        one_commander h (LetGo who x f ∷ past) next v t,
        safely.safe,
      );
    }
