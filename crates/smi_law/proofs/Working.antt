-- What a trace says of the command at work in each domain, of what its children were handed, and of their modes.
use Rattle.std.proofs.Common.{ℕ, ◌≡◌, Bool, true, false, List, [], ◌∷◌, inl, inr, refl, sym, ap, ◌∙◌, subst}
use Rattle.std.specs.Prelude.{◌==◌, ◌&&◌, ◌++◌, Some, if◌then◌else◌}
use Rattle.std.proofs.lemmas.Bool.{and_parts, eqb-true}
use Rattle.smi_grant.specs.declared.Command.{Command}
use Rattle.smi_grant.specs.declared.Holder.{Holder}
use Rattle.smi_grant.specs.declared.Holder.TheVariants.{Operator, Domain}
use Rattle.smi_grant.specs.Record.{Standing, is_settled}
use Rattle.smi_tree.specs.Hierarchy.{Hierarchy}
use Rattle.smi_tree.specs.Lookups.{parent_of}
use Rattle.smi_command.specs.declared.Link.{Link}
use Rattle.smi_command.specs.declared.Link.TheVariants.{Held}
use Rattle.smi_grant.proofs.Holders.{either, same_is}
use Rattle.smi_rows.specs.declared.Mode.{Mode}
use Rattle.smi_rows.specs.declared.Mode.TheVariants.{Included}
use Rattle.smi_command.specs.Link.{is_held, is_unsettled}
use Rattle.smi_protocol.specs.Children.{is_commanded}
use Rattle.smi_protocol.specs.Grants.{Grants, put}
use Rattle.smi_protocol.specs.declared.Entry.{Entry}
use Rattle.smi_protocol.specs.declared.Entry.TheVariants.{Booted, Granted, Freed, Ordered, Ran, Learned, LetGo}
use Rattle.smi_protocol.specs.declared.Entry.TheVariants.{InMode, Settled, Showed, Passed, Told}
use Rattle.smi_law.specs.Safe.{Forwards}
use Rattle.smi_law.specs.Trace.{mode_at, is_grant_of, orders_of, InWork}
use Rattle.smi_law.specs.World.{noted}

-- what a child was handed is the command at work, and no other
pub record HandedOn (h : Hierarchy) (now : ℕ → Command) (g : Grants) (p x : ℕ) (c : Command) (more : List Command)
    : Type 0 where
  pub alone : more ≡ []
  pub command : c ≡ now p
  pub forwards : Forwards h p c x
  pub commanded : is_commanded (g.modes x) ≡ true

-- how a domain relates to the trace: `now` has the command at work in each busy domain
pub record At (h : Hierarchy) (now : ℕ → Command) (past : List Entry) (g : Grants) (p : ℕ) : Type 0 where
  pub work : is_settled (g.records p).phase ≡ false → InWork p (g.records p).epoch (g.records p).last (now p) past
  pub rest : is_settled (g.records p).phase ≡ true → (x : ℕ) → parent_of h x ≡ Some p
      → is_unsettled (g.links (Domain p) x) ≡ false
  pub handed : (x e n : ℕ) (c : Command) (more : List Command) → parent_of h x ≡ Some p
      → g.links (Domain p) x ≡ Held e n (c ∷ more) → HandedOn h now g p x c more
  pub ordered : (o : ℕ) → is_settled (g.records p).phase ≡ false → (g.records p).holder ≡ Operator o
      → orders_of o p (g.records p).epoch (g.records p).last past ≡ now p ∷ []
  pub same : (q : ℕ) → is_settled (g.records p).phase ≡ false → (g.records p).holder ≡ Domain q → now p ≡ now q
  pub modes : (x e n : ℕ) (pending : List Command) → parent_of h x ≡ Some p → g.links (Domain p) x ≡ Held e n pending
      → mode_at (Domain p) x e past ≡ g.modes x
  pub included : (x : ℕ) → parent_of h x ≡ Some p → is_held (g.links (Domain p) x) ≡ false → g.modes x ≡ Included

-- Entries that say nothing of this.

-- an entry that says nothing of the domain's command, nor of its children's modes
abbrev pub Aside : Hierarchy → ℕ → Standing → Entry → Type 0
Aside h p r (Settled x e n code) = x ≡ p → ⊥
Aside h p r (InMode x m) = parent_of h x ≡ Some p → ⊥
Aside h p r (Learned who x e) = who ≡ Domain p → ⊥
Aside h p r (Ordered o x e n c) = x ≡ p → e ≡ r.epoch → n ≡ r.last → ⊥
Aside h p r (Booted s b) = Unit {0}
Aside h p r (Granted x e who) = Unit {0}
Aside h p r (Freed x e) = Unit {0}
Aside h p r (Ran x e n c) = Unit {0}
Aside h p r (LetGo who x e) = Unit {0}
Aside h p r (Showed s v) = Unit {0}
Aside h p r (Passed v) = Unit {0}
Aside h p r (Told o t) = Unit {0}

abbrev pub AllAside : Hierarchy → ℕ → Standing → List Entry → Type 0
AllAside h p r [] = Unit {0}
AllAside h p r (y ∷ more) = Aside h p r y × AllAside h p r more

pub aside_both : (h : Hierarchy) (p : ℕ) (r : Standing) (xs ys : List Entry) → AllAside h p r xs → AllAside h p r ys
    → AllAside h p r (xs ++ ys)
aside_both h p r [] ys a b = b
aside_both h p r (x ∷ xs) ys a b = (a.0, aside_both h p r xs ys a.1 b)

work_aside : (h : Hierarchy) (p : ℕ) (r : Standing) (c : Command) (y : Entry) (past : List Entry) → Aside h p r y
    → InWork p r.epoch r.last c past → InWork p r.epoch r.last c (y ∷ past)
unfolding InWork
work_aside h p r c (Settled x e n code) past aside i = (λ is. aside is.0, i)
work_aside h p r c (Ran x e n k) past aside i = inr i
work_aside h p r c (InMode x m) past aside i = i
work_aside h p r c (Learned who x e) past aside i = i
work_aside h p r c (Ordered o x e n k) past aside i = i
work_aside h p r c (Booted s b) past aside i = i
work_aside h p r c (Granted x e who) past aside i = i
work_aside h p r c (Freed x e) past aside i = i
work_aside h p r c (LetGo who x e) past aside i = i
work_aside h p r c (Showed s v) past aside i = i
work_aside h p r c (Passed v) past aside i = i
work_aside h p r c (Told o t) past aside i = i

-- a test that fails leaves what there was
orders_of_another : (o p q x e f n m : ℕ) (c : Command) (found : List Command) → (x ≡ p → f ≡ e → m ≡ n → ⊥)
    → (if q == o && (x == p && (f == e && m == n)) then c ∷ found else found) ≡ found
orders_of_another o p q x e f n m c found aside = elim (either (q == o && (x == p && (f == e && m == n)))) [
  | inl t ↦
      let a = and_parts (q == o) _ t in let b = and_parts (x == p) _ a.1 in let d = and_parts (f == e) _ b.1 in
      absurd (aside (eqb-true x p b.0) (eqb-true f e d.0) (eqb-true m n d.1))
  | inr i ↦ ap (λ z. if z then c ∷ found else found) i
]

orders_aside : (h : Hierarchy) (p o : ℕ) (r : Standing) (y : Entry) (past : List Entry) → Aside h p r y
    → orders_of o p r.epoch r.last (y ∷ past) ≡ orders_of o p r.epoch r.last past
unfolding orders_of
orders_aside h p o r (Settled x e n code) past aside = refl
orders_aside h p o r (Ran x e n k) past aside = refl
orders_aside h p o r (InMode x m) past aside = refl
orders_aside h p o r (Learned who x e) past aside = refl
orders_aside h p o r (Ordered q x f m c) past aside =
    orders_of_another o p q x r.epoch f r.last m c (orders_of o p r.epoch r.last past) aside
orders_aside h p o r (Booted s b) past aside = refl
orders_aside h p o r (Granted x e who) past aside = refl
orders_aside h p o r (Freed x e) past aside = refl
orders_aside h p o r (LetGo who x e) past aside = refl
orders_aside h p o r (Showed s v) past aside = refl
orders_aside h p o r (Passed v) past aside = refl
orders_aside h p o r (Told b t) past aside = refl

-- the mode of a child after an entry
pub mode_in : (p x e y : ℕ) (m : Mode) (past : List Entry)
    → mode_at (Domain p) x e (InMode y m ∷ past) ≡ (if y == x then m else mode_at (Domain p) x e past)
unfolding mode_at
mode_in p x e y m past = refl

pub mode_learned : (p x e : ℕ) (who : Holder) (y f : ℕ) (past : List Entry)
    → mode_at (Domain p) x e (Learned who y f ∷ past)
    ≡ (if is_grant_of (Domain p) x e who y f then Included else mode_at (Domain p) x e past)
unfolding mode_at
mode_learned p x e who y f past = refl

mode_of_another : (p x y e : ℕ) (m : Mode) (past : List Entry) → (y ≡ x → ⊥)
    → mode_at (Domain p) x e (InMode y m ∷ past) ≡ mode_at (Domain p) x e past
mode_of_another p x y e m past o = mode_in p x e y m past ∙ elim (either (y == x)) [
  | inl t ↦ absurd (o (eqb-true y x t))
  | inr f ↦ ap (λ b. if b then m else mode_at (Domain p) x e past) f
]

mode_of_another_grant : (p x y e f : ℕ) (who : Holder) (past : List Entry) → (who ≡ Domain p → ⊥)
    → mode_at (Domain p) x e (Learned who y f ∷ past) ≡ mode_at (Domain p) x e past
mode_of_another_grant p x y e f who past o =
    mode_learned p x e who y f past ∙ elim (either (is_grant_of (Domain p) x e who y f)) [
      | inl t ↦
          let a = and_parts (y == x) _ t in let b = and_parts (e == f) _ a.1 in
          absurd (o (sym (same_is (Domain p) who b.1)))
      | inr i ↦ ap (λ b. if b then Included else mode_at (Domain p) x e past) i
    ]

modes_aside : (h : Hierarchy) (p x e : ℕ) (r : Standing) (y : Entry) (past : List Entry) → parent_of h x ≡ Some p
    → Aside h p r y → mode_at (Domain p) x e (y ∷ past) ≡ mode_at (Domain p) x e past
unfolding mode_at
modes_aside h p x e r (Settled d f n code) past child aside = refl
modes_aside h p x e r (Ran d f n k) past child aside = refl
modes_aside h p x e r (InMode d m) past child aside =
    mode_of_another p x d e m past (λ i. aside (ap (parent_of h) i ∙ child))
modes_aside h p x e r (Learned who d f) past child aside = mode_of_another_grant p x d e f who past aside
modes_aside h p x e r (Ordered q d f m c) past child aside = refl
modes_aside h p x e r (Booted s b) past child aside = refl
modes_aside h p x e r (Granted d f who) past child aside = refl
modes_aside h p x e r (Freed d f) past child aside = refl
modes_aside h p x e r (LetGo who d f) past child aside = refl
modes_aside h p x e r (Showed s v) past child aside = refl
modes_aside h p x e r (Passed v) past child aside = refl
modes_aside h p x e r (Told b t) past child aside = refl

at_aside : (h : Hierarchy) (now : ℕ → Command) (past : List Entry) (g : Grants) (p : ℕ) (y : Entry)
    → Aside h p (g.records p) y → At h now past g p → At h now (y ∷ past) g p
at_aside h now past g p y aside a = record {
  work = λ busy. work_aside h p (g.records p) (now p) y past aside (a.work busy);
  rest = a.rest;
  handed = a.handed;
  ordered = λ o busy mine. orders_aside h p o (g.records p) y past aside ∙ a.ordered o busy mine;
  same = a.same;
  modes = λ x e n pending child is. modes_aside h p x e (g.records p) y past child aside
      ∙ a.modes x e n pending child is;
  included = a.included;
}

pub all_aside : (h : Hierarchy) (now : ℕ → Command) (new past : List Entry) (g : Grants) (p : ℕ)
    → AllAside h p (g.records p) new → At h now past g p → At h now (noted new past) g p
all_aside h now [] past g p aside a = a
all_aside h now (y ∷ new) past g p aside a =
    all_aside h now new (y ∷ past) g p aside.1 (at_aside h now past g p y aside.0 a)

-- Grants that are the same, as far as a domain goes.

pub record SameAt (h : Hierarchy) (g k : Grants) (p : ℕ) : Type 0 where
  pub record_ : k.records p ≡ g.records p
  pub links : (x : ℕ) → k.links (Domain p) x ≡ g.links (Domain p) x
  pub modes : (x : ℕ) → parent_of h x ≡ Some p → k.modes x ≡ g.modes x

pub same_at : (h : Hierarchy) (g : Grants) (p : ℕ) → SameAt h g g p
same_at h g p = record { record_ = refl; links = λ x. refl; modes = λ x child. refl }

pub moved_at : (h : Hierarchy) (now : ℕ → Command) (past : List Entry) (g k : Grants) (p : ℕ) → SameAt h g k p
    → At h now past g p → At h now past k p
moved_at h now past g k p s a = record {
  work = λ busy. subst (λ (r : Standing). InWork p r.epoch r.last (now p) past) (sym s.record_) (a.work (settled busy));
  rest = λ quiet x child. ap is_unsettled (s.links x) ∙ a.rest (settled quiet) x child;
  handed = λ x e n c more child is.
      let b = a.handed x e n c more child (sym (s.links x) ∙ is) in
      record {
        alone = b.alone;
        command = b.command;
        forwards = b.forwards;
        commanded = ap is_commanded (s.modes x child) ∙ b.commanded;
      };
  ordered = λ o busy mine. subst (λ (r : Standing). orders_of o p r.epoch r.last past ≡ now p ∷ []) (sym s.record_)
      (a.ordered o (settled busy) (holder mine));
  same = λ q busy mine. a.same q (settled busy) (holder mine);
  modes = λ x e n pending child is. a.modes x e n pending child (sym (s.links x) ∙ is) ∙ sym (s.modes x child);
  included = λ x child is. s.modes x child ∙ a.included x child (ap is_held (sym (s.links x)) ∙ is);
}
  where
    settled : {b : Bool} → is_settled (k.records p).phase ≡ b → is_settled (g.records p).phase ≡ b
    settled i = ap (λ (r : Standing). is_settled r.phase) (sym s.record_) ∙ i

    holder : {who : Holder} → (k.records p).holder ≡ who → (g.records p).holder ≡ who
    holder i = ap (λ (r : Standing). r.holder) (sym s.record_) ∙ i

-- a domain becomes, or stays, settled
pub settles_at : (h : Hierarchy) (now : ℕ → Command) (past : List Entry) (g k : Grants) (p : ℕ) → k.links ≡ g.links
    → k.modes ≡ g.modes → is_settled (k.records p).phase ≡ true
    → ((x : ℕ) → parent_of h x ≡ Some p → is_unsettled (g.links (Domain p) x) ≡ false) → At h now past g p
    → At h now past k p
settles_at h now past g k p links modes settled rest a = record {
  work = λ busy. absurd (not_both busy);
  rest = λ quiet x child. ap is_unsettled (link x) ∙ rest x child;
  handed = λ x e n c more child is.
      let b = a.handed x e n c more child (sym (link x) ∙ is) in
      record {
        alone = b.alone;
        command = b.command;
        forwards = b.forwards;
        commanded = ap is_commanded (mode x) ∙ b.commanded;
      };
  ordered = λ o busy mine. absurd (not_both busy);
  same = λ q busy mine. absurd (not_both busy);
  modes = λ x e n pending child is. a.modes x e n pending child (sym (link x) ∙ is) ∙ sym (mode x);
  included = λ x child is. mode x ∙ a.included x child (ap is_held (sym (link x)) ∙ is);
}
  where
    not_both : is_settled (k.records p).phase ≡ false → ⊥
    not_both busy = let i : true ≡ false = sym settled ∙ busy in cc

    link : (x : ℕ) → k.links (Domain p) x ≡ g.links (Domain p) x
    link x = ap (λ (z : Holder → ℕ → Link). z (Domain p) x) links

    mode : (x : ℕ) → k.modes x ≡ g.modes x
    mode x = ap (λ (z : ℕ → Mode). z x) modes

-- Another command is at work in one domain.

put_other : (table : ℕ → Command) (x : ℕ) (c : Command) (p : ℕ) → (p ≡ x → ⊥) → put table x c p ≡ table p
put_other table x c p o = elim (either (p == x))
    [ inl t ↦ absurd (o (eqb-true p x t)) | inr f ↦ ap (λ b. if b then c else table p) f ]

pub renewed : (h : Hierarchy) (now : ℕ → Command) (past : List Entry) (g : Grants) (x : ℕ) (c : Command) (p : ℕ)
    → (p ≡ x → ⊥) → (is_settled (g.records p).phase ≡ false → (g.records p).holder ≡ Domain x → ⊥) → At h now past g p
    → At h (put now x c) past g p
renewed h now past g x c p o not_child a = record {
  work = λ busy. subst (λ z. InWork p (g.records p).epoch (g.records p).last z past) (sym mine) (a.work busy);
  rest = a.rest;
  handed = λ y e n k more child is.
      let b = a.handed y e n k more child is in
      record { alone = b.alone; command = b.command ∙ sym mine; forwards = b.forwards; commanded = b.commanded };
  ordered = λ q busy held. a.ordered q busy held ∙ ap (λ z. z ∷ []) (sym mine);
  same = λ q busy held. mine ∙ a.same q busy held
      ∙ sym (put_other now x c q (λ i. not_child busy (held ∙ ap Domain i)));
  modes = a.modes;
  included = a.included;
}
  where
    mine : put now x c p ≡ now p
    mine = put_other now x c p o
