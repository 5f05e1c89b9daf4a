-- What a command that runs does to the children of its domain, and what the trace says of it.
use Rattle.std.proofs.Common.{ℕ, ◌≡◌, ◌+◌, Bool, true, false, List, [], ◌∷◌, inl, inr, refl, sym, ap, ◌∙◌, subst}
use Rattle.std.specs.Prelude.{◌==◌, ◌&&◌, ◌++◌, Some, Result, Ok, Err, if◌then◌else◌}
use Rattle.std.proofs.lemmas.Bool.{and_parts, eqb-true}
use Rattle.smi_grant.specs.declared.Command.{Command}
use Rattle.smi_grant.specs.declared.Command.TheVariants.{Do, Include, Exclude, Manual, Ignore}
use Rattle.smi_grant.specs.declared.Holder.{Holder}
use Rattle.smi_grant.specs.declared.Holder.TheVariants.{Domain}
use Rattle.smi_grant.specs.Record.{Standing}
use Rattle.smi_tree.specs.Hierarchy.{Hierarchy}
use Rattle.smi_tree.specs.Lookups.{accepts, is_below, parent_of}
use Rattle.smi_command.specs.declared.Link.{Link}
use Rattle.smi_command.specs.declared.Link.TheVariants.{Out, Taking, Held, Dropping}
use Rattle.smi_command.specs.Order.{take_begun, drop_begun, command_issued}
use Rattle.smi_grant.proofs.Holders.{either, same_self}
use Rattle.smi_command.proofs.Orders.{take_begins, drop_begins, command_issues}
use Rattle.smi_rows.specs.declared.Mode.{Mode}
use Rattle.smi_rows.specs.declared.Mode.TheVariants as mode
use Rattle.smi_tree.specs.Roles.{is_number, is_parent}
use Rattle.smi_command.specs.Link.{is_held, is_unsettled}
use Rattle.smi_protocol.specs.Children.{ChildChange, Stays, Relinked, ComesInto, relinked_or, is_commanded, same_mode}
use Rattle.smi_protocol.specs.Children.{comes_into, handed_on, aimed_at, targeted, child_change, change_of}
use Rattle.smi_protocol.specs.Children.{link_after, mode_after, links_after, modes_after}
use Rattle.smi_protocol.specs.Grants.{Grants}
use Rattle.smi_protocol.specs.Keeping.{let_go_of, mode_changed, entries_at, child_entries}
use Rattle.smi_protocol.specs.declared.Entry.{Entry}
use Rattle.smi_protocol.specs.declared.Entry.TheVariants.{Booted, Granted, Freed, Ordered, Ran, Learned, LetGo}
use Rattle.smi_protocol.specs.declared.Entry.TheVariants.{InMode, Settled, Showed, Passed, Told}
use Rattle.smi_law.specs.Safe.{Forwards}
use Rattle.smi_law.specs.Trace.{mode_at, orders_of, InWork}
use Rattle.smi_law.specs.World.{noted}
use Rattle.smi_law.proofs.Working.{AllAside, aside_both, mode_in}
use Rattle.smi_law.proofs.Moves.{number_self}

-- What a command does to one child.

pub data ChildKind (h : Hierarchy) (d : ℕ) (c : Command) (x : ℕ) (l : Link) (m : Mode) : ChildChange → Type 0 where
  stays : (code : ℕ) → ChildKind h d c x l m (Stays code)
  takes : (s : ℕ) → ChildKind h d c x l m (Relinked (Taking s))
  drops : (e : ℕ) → ChildKind h d c x l m (Relinked (Dropping e))
  hands : (e n : ℕ) (p : List Command) → l ≡ Held e n p → Forwards h d c x → is_commanded m ≡ true
      → ChildKind h d c x l m (Relinked (Held e (n + 1) (p ++ c ∷ [])))
  comes : (new : Mode) → is_held l ≡ true → ChildKind h d c x l m (ComesInto new)

module _ (h : Hierarchy) (d x : ℕ) (l : Link) (m : Mode) where
  issued : (c : Command) → Forwards h d c x → is_commanded m ≡ true → (res : Result Link ℕ)
      → command_issued l c ≡ res → ChildKind h d c x l m (relinked_or 7 res)
  issued c on may (Ok new) is =
      let b = command_issues l c new is in
      subst (λ z. ChildKind h d c x l m (Relinked z)) (sym b.becomes) (hands b.epoch b.number b.pending b.was on may)
  issued c on may (Err why) is = stays 7

  handed_kind : (code : ℕ) (c : Command) → Forwards h d c x → ChildKind h d c x l m (handed_on code c l m)
  handed_kind code c on = elim (either (is_held l && is_commanded m)) [
    | inl t ↦ rw t (issued c on (and_parts (is_held l) _ t).1 (command_issued l c) refl)
    | inr f ↦ rw f (stays code)
  ]

  begun : (c : Command) (res : Result Link ℕ) → take_begun l ≡ res → ChildKind h d c x l m (relinked_or 0 res)
  begun c (Ok new) is = let b = take_begins l new is in
      subst (λ z. ChildKind h d c x l m (Relinked z)) (sym b.2) (takes b.0)
  begun c (Err why) is = stays 0

  let_go : (c : Command) (res : Result Link ℕ) → drop_begun l ≡ res → ChildKind h d c x l m (relinked_or 4 res)
  let_go c (Ok new) is = let b = drop_begins l new is in
      subst (λ z. ChildKind h d c x l m (Relinked z)) (sym b.3) (drops b.0)
  let_go c (Err why) is = stays 4

  moded : (c : Command) (new : Mode) → is_held l ≡ true → ChildKind h d c x l m (comes_into new m)
  moded c new held = elim (either (same_mode new m)) [ inl t ↦ rw t (stays 3) | inr f ↦ rw f (comes new held) ]

  passed : (t : ℕ) (c : Command) → (is_below h t x ≡ true → Forwards h d c x)
      → ChildKind h d c x l m (aimed_at c l m) → ChildKind h d c x l m (targeted h t c x l m)
  passed t c on aimed = elim (either (t == x)) [
    | inl i ↦ rw i aimed
    | inr o ↦ rw o (elim (either (is_below h t x)) [ inl b ↦ rw b (handed_kind 6 c (on b)) | inr f ↦ rw f (stays 0) ])
  ]

  pub child_kind : (c : Command) → ChildKind h d c x l m (child_change h d c x l m)
  child_kind (Do a) = elim (either (accepts h d a)) [ inl t ↦ rw t (handed_kind 0 (Do a) t) | inr f ↦ rw f (stays 0) ]
  child_kind (Include t) = passed t (Include t) (λ b. b) (elim (either (is_held l)) [
    | inl i ↦ rw i (moded (Include t) mode.Included i)
    | inr f ↦ rw f (begun (Include t) (take_begun l) refl)
  ])
  child_kind (Exclude t) = passed t (Exclude t) (λ b. b) (let_go (Exclude t) (drop_begun l) refl)
  child_kind (Manual t) = passed t (Manual t) (λ b. b)
      (elim (either (is_held l)) [ inl i ↦ rw i (moded (Manual t) mode.Manual i) | inr f ↦ rw f (stays 4) ])
  child_kind (Ignore t) = passed t (Ignore t) (λ b. b)
      (elim (either (is_held l)) [ inl i ↦ rw i (moded (Ignore t) mode.Ignored i) | inr f ↦ rw f (stays 4) ])

-- the mode that the trace says after the change
abbrev pub mode_by : ChildChange → Mode → Mode
mode_by (Stays code) m = m
mode_by (Relinked l) m = m
mode_by (ComesInto new) m = new

-- what holds of a child whose link was settled
pub record Kid (h : Hierarchy) (d : ℕ) (c : Command) (x : ℕ) (l : Link) (m : Mode) (change : ChildChange) : Type 0 where
  pub alone : (e n : ℕ) (k : Command) (more : List Command) → link_after change l ≡ Held e n (k ∷ more) → more ≡ []
  pub command : (e n : ℕ) (k : Command) (more : List Command) → link_after change l ≡ Held e n (k ∷ more) → k ≡ c
  pub forwards : (e n : ℕ) (k : Command) (more : List Command) → link_after change l ≡ Held e n (k ∷ more)
      → Forwards h d c x
  pub commanded : (e n : ℕ) (k : Command) (more : List Command) → link_after change l ≡ Held e n (k ∷ more)
      → is_commanded (mode_after change m) ≡ true
  pub was_held : (e n : ℕ) (p : List Command) → link_after change l ≡ Held e n p
      → (i : ℕ) × (q : List Command) × (l ≡ Held e i q)
  pub mode_ : (e n : ℕ) (p : List Command) → link_after change l ≡ Held e n p → mode_by change m ≡ mode_after change m
  pub included : (is_held l ≡ false → m ≡ mode.Included) → is_held (link_after change l) ≡ false
      → mode_after change m ≡ mode.Included

not_unsettled : (l : Link) (e n : ℕ) (k : Command) (more : List Command) → is_unsettled l ≡ false
    → l ≡ Held e n (k ∷ more) → ⊥
not_unsettled l e n k more settled is = let i : true ≡ false = ap is_unsettled (sym is) ∙ settled in cc

none_pending : (l : Link) (e n : ℕ) (p : List Command) → is_unsettled l ≡ false → l ≡ Held e n p → p ≡ []
none_pending l e n [] settled is = refl
none_pending l e n (k ∷ p) settled is = absurd (not_unsettled l e n k p settled is)

not_held : (l : Link) (b : Bool) → is_held l ≡ true → is_held l ≡ false → ⊥
not_held l b t f = let i : true ≡ false = sym t ∙ f in cc

module _ (h : Hierarchy) (d : ℕ) (c : Command) (x : ℕ) (l : Link) (m : Mode) (settled : is_unsettled l ≡ false) where
  handed_kid : (e n : ℕ) (p : List Command) → l ≡ Held e n p → p ≡ [] → Forwards h d c x → is_commanded m ≡ true
      → Kid h d c x l m (Relinked (Held e (n + 1) (p ++ c ∷ [])))
  handed_kid e n p is none on may = record {
    alone = λ f i k more j. let a = pending f i k more j in cc;
    command = λ f i k more j. let a = pending f i k more j in cc;
    forwards = λ f i k more j. on;
    commanded = λ f i k more j. may;
    was_held = λ f i q j. let a : e ≡ f = cc in (n, p, is ∙ ap (λ z. Held z n p) a);
    mode_ = λ f i q j. refl;
    included = λ was j. absurd cc;
  }
    where
      pending : (f i : ℕ) (k : Command) (more : List Command) → Held e (n + 1) (p ++ c ∷ []) ≡ Held f i (k ∷ more)
          → c ∷ [] ≡ k ∷ more
      pending f i k more j = let a : p ++ c ∷ [] ≡ k ∷ more = cc in sym (ap (λ z. z ++ c ∷ []) none) ∙ a

  pub kid : (change : ChildChange) → ChildKind h d c x l m change → Kid h d c x l m change
  kid change (stays code) = record {
    alone = λ e n k more is. absurd (not_unsettled l e n k more settled is);
    command = λ e n k more is. absurd (not_unsettled l e n k more settled is);
    forwards = λ e n k more is. absurd (not_unsettled l e n k more settled is);
    commanded = λ e n k more is. absurd (not_unsettled l e n k more settled is);
    was_held = λ e n p is. (n, p, is);
    mode_ = λ e n p is. refl;
    included = λ was is. was is;
  }
  kid change (takes s) = record {
    alone = λ e n k more is. absurd cc;
    command = λ e n k more is. absurd cc;
    forwards = λ e n k more is. absurd cc;
    commanded = λ e n k more is. absurd cc;
    was_held = λ e n p is. absurd cc;
    mode_ = λ e n p is. absurd cc;
    included = λ was is. refl;
  }
  kid change (drops f) = record {
    alone = λ e n k more is. absurd cc;
    command = λ e n k more is. absurd cc;
    forwards = λ e n k more is. absurd cc;
    commanded = λ e n k more is. absurd cc;
    was_held = λ e n p is. absurd cc;
    mode_ = λ e n p is. absurd cc;
    included = λ was is. refl;
  }
  kid change (hands e n p is on may) = handed_kid e n p is (none_pending l e n p settled is) on may
  kid change (comes new held) = record {
    alone = λ e n k more is. absurd (not_unsettled l e n k more settled is);
    command = λ e n k more is. absurd (not_unsettled l e n k more settled is);
    forwards = λ e n k more is. absurd (not_unsettled l e n k more settled is);
    commanded = λ e n k more is. absurd (not_unsettled l e n k more settled is);
    was_held = λ e n p is. (n, p, is);
    mode_ = λ e n p is. refl;
    included = λ was is. absurd (not_held l true held is);
  }

-- The links and modes of children after a command.

pub parent_is : (h : Hierarchy) (x d : ℕ) → parent_of h x ≡ Some d → is_parent h x d ≡ true
parent_is h x d is = ap (λ o. is_number o d) is ∙ number_self d

pub link_child : (h : Hierarchy) (g : Grants) (d : ℕ) (c : Command) (x : ℕ) → parent_of h x ≡ Some d
    → links_after h g d c (Domain d) x ≡ link_after (change_of h g d c x) (g.links (Domain d) x)
link_child h g d c x is = rw (parent_is h x d is) (rw (same_self (Domain d)) refl)

pub mode_child : (h : Hierarchy) (g : Grants) (d : ℕ) (c : Command) (x : ℕ) → parent_of h x ≡ Some d
    → modes_after h g d c x ≡ mode_after (change_of h g d c x) (g.modes x)
mode_child h g d c x is = rw (parent_is h x d is) refl

-- What the trace says of the children.

-- a grant given up, or a mode
abbrev pub Mild : Entry → Type 0
Mild (LetGo who x e) = Unit {0}
Mild (InMode x m) = Unit {0}
Mild (Settled x e n code) = ⊥
Mild (Learned who x e) = ⊥
Mild (Ordered o x e n c) = ⊥
Mild (Booted s b) = ⊥
Mild (Granted x e who) = ⊥
Mild (Freed x e) = ⊥
Mild (Ran x e n c) = ⊥
Mild (Showed s v) = ⊥
Mild (Passed v) = ⊥
Mild (Told o t) = ⊥

abbrev pub AllMild : List Entry → Type 0
AllMild [] = Unit {0}
AllMild (y ∷ more) = Mild y × AllMild more

mild_both : (xs ys : List Entry) → AllMild xs → AllMild ys → AllMild (xs ++ ys)
mild_both [] ys a b = b
mild_both (x ∷ xs) ys a b = (a.0, mild_both xs ys a.1 b)

let_go_mild : (d x : ℕ) (change : ChildChange) → AllMild (let_go_of d x change)
let_go_mild d x (Stays code) = tt
let_go_mild d x (Relinked (Out k)) = tt
let_go_mild d x (Relinked (Taking s)) = tt
let_go_mild d x (Relinked (Held e n p)) = tt
let_go_mild d x (Relinked (Dropping e)) = (tt, tt)
let_go_mild d x (ComesInto m) = tt

mode_mild : (x : ℕ) (change : ChildChange) → AllMild (mode_changed x change)
mode_mild x (Stays code) = tt
mode_mild x (Relinked l) = tt
mode_mild x (ComesInto m) = (tt, tt)

at_mild : (h : Hierarchy) (g : Grants) (d : ℕ) (c : Command) (t : ℕ) → AllMild (entries_at h g d c t)
at_mild h g d c t = elim (either (is_parent h t d)) [
  | inl i ↦ rw i (mild_both (let_go_of d t (change_of h g d c t)) (mode_changed t (change_of h g d c t))
      (let_go_mild d t (change_of h g d c t)) (mode_mild t (change_of h g d c t)))
  | inr f ↦ rw f tt
]

pub child_mild : (h : Hierarchy) (g : Grants) (d : ℕ) (c : Command) → AllMild (child_entries h g d c)
child_mild h g d (Do a) = tt
child_mild h g d (Include t) = at_mild h g d (Include t) t
child_mild h g d (Exclude t) = at_mild h g d (Exclude t) t
child_mild h g d (Manual t) = at_mild h g d (Manual t) t
child_mild h g d (Ignore t) = at_mild h g d (Ignore t) t

pub work_mild : (p e n : ℕ) (c : Command) (new past : List Entry) → AllMild new → InWork p e n c past
    → InWork p e n c (noted new past)
unfolding InWork
work_mild p e n c [] past mild i = i
work_mild p e n c (LetGo who x f ∷ new) past mild i = work_mild p e n c new (LetGo who x f ∷ past) mild.1 i
work_mild p e n c (InMode x m ∷ new) past mild i = work_mild p e n c new (InMode x m ∷ past) mild.1 i
work_mild p e n c (Settled x f m code ∷ new) past mild i = absurd mild.0
work_mild p e n c (Learned who x f ∷ new) past mild i = absurd mild.0
work_mild p e n c (Ordered o x f m k ∷ new) past mild i = absurd mild.0
work_mild p e n c (Booted s b ∷ new) past mild i = absurd mild.0
work_mild p e n c (Granted x f who ∷ new) past mild i = absurd mild.0
work_mild p e n c (Freed x f ∷ new) past mild i = absurd mild.0
work_mild p e n c (Ran x f m k ∷ new) past mild i = absurd mild.0
work_mild p e n c (Showed s v ∷ new) past mild i = absurd mild.0
work_mild p e n c (Passed v ∷ new) past mild i = absurd mild.0
work_mild p e n c (Told o t ∷ new) past mild i = absurd mild.0

pub orders_mild : (o d e n : ℕ) (new past : List Entry) → AllMild new
    → orders_of o d e n (noted new past) ≡ orders_of o d e n past
unfolding orders_of
orders_mild o d e n [] past mild = refl
orders_mild o d e n (LetGo who x f ∷ new) past mild = orders_mild o d e n new (LetGo who x f ∷ past) mild.1
orders_mild o d e n (InMode x m ∷ new) past mild = orders_mild o d e n new (InMode x m ∷ past) mild.1
orders_mild o d e n (Settled x f m code ∷ new) past mild = absurd mild.0
orders_mild o d e n (Learned who x f ∷ new) past mild = absurd mild.0
orders_mild o d e n (Ordered b x f m k ∷ new) past mild = absurd mild.0
orders_mild o d e n (Booted s b ∷ new) past mild = absurd mild.0
orders_mild o d e n (Granted x f who ∷ new) past mild = absurd mild.0
orders_mild o d e n (Freed x f ∷ new) past mild = absurd mild.0
orders_mild o d e n (Ran x f m k ∷ new) past mild = absurd mild.0
orders_mild o d e n (Showed s v ∷ new) past mild = absurd mild.0
orders_mild o d e n (Passed v ∷ new) past mild = absurd mild.0
orders_mild o d e n (Told b t ∷ new) past mild = absurd mild.0

-- The modes of children after a command.

mode_let_go : (p x e : ℕ) (who : Holder) (y f : ℕ) (past : List Entry)
    → mode_at (Domain p) x e (LetGo who y f ∷ past) ≡ mode_at (Domain p) x e past
unfolding mode_at
mode_let_go p x e who y f past = refl

-- after the entries of one child's change
mode_behind : (p x e t : ℕ) (change : ChildChange) (past : List Entry)
    → mode_at (Domain p) x e (noted (let_go_of p t change ++ mode_changed t change) past)
    ≡ (if t == x then mode_by change (mode_at (Domain p) x e past) else mode_at (Domain p) x e past)
mode_behind p x e t (Stays code) past = elim (either (t == x)) [ inl i ↦ rw i refl | inr f ↦ rw f refl ]
mode_behind p x e t (Relinked (Out k)) past = elim (either (t == x)) [ inl i ↦ rw i refl | inr f ↦ rw f refl ]
mode_behind p x e t (Relinked (Taking s)) past = elim (either (t == x)) [ inl i ↦ rw i refl | inr f ↦ rw f refl ]
mode_behind p x e t (Relinked (Held f n q)) past = elim (either (t == x)) [ inl i ↦ rw i refl | inr o ↦ rw o refl ]
mode_behind p x e t (Relinked (Dropping f)) past =
    mode_let_go p x e (Domain p) t f past ∙ elim (either (t == x)) [ inl i ↦ rw i refl | inr o ↦ rw o refl ]
mode_behind p x e t (ComesInto m) past = mode_in p x e t m past

-- a change by which no mode changes
abbrev is_moded : ChildChange → Bool
is_moded (Stays code) = false
is_moded (Relinked l) = false
is_moded (ComesInto m) = true

mode_by_same : (change : ChildChange) (m : Mode) → is_moded change ≡ false → mode_by change m ≡ m
mode_by_same (Stays code) m i = refl
mode_by_same (Relinked l) m i = refl
mode_by_same (ComesInto new) m i = absurd cc

relinked_not : (code : ℕ) (res : Result Link ℕ) → is_moded (relinked_or code res) ≡ false
relinked_not code (Ok new) = refl
relinked_not code (Err why) = refl

handed_not : (code : ℕ) (c : Command) (l : Link) (m : Mode) → is_moded (handed_on code c l m) ≡ false
handed_not code c l m = elim (either (is_held l && is_commanded m))
    [ inl t ↦ rw t (relinked_not 7 (command_issued l c)) | inr f ↦ rw f refl ]

-- a command with a target changes the mode of the target alone
module _ (h : Hierarchy) (g : Grants) (d x e : ℕ) (past : List Entry) (child : parent_of h x ≡ Some d) where
  at_target : (t : ℕ) (c : Command) → change_of h g d c x ≡ targeted h t c x (g.links (Domain d) x) (g.modes x)
      → mode_at (Domain d) x e (noted (entries_at h g d c t) past)
      ≡ mode_by (change_of h g d c x) (mode_at (Domain d) x e past)
  at_target t c is = elim (either (t == x)) [
    | inl i ↦
        let same : t ≡ x = eqb-true t x i in
        rw (ap (λ z. is_parent h z d) same ∙ parent_is h x d child)
        (mode_behind d x e t (change_of h g d c t) past
        ∙ ap (λ b. if b then mode_by (change_of h g d c t) (mode_at (Domain d) x e past)
        else mode_at (Domain d) x e past) i ∙ ap (λ z. mode_by (change_of h g d c z) (mode_at (Domain d) x e past))
        same)
    | inr o ↦
        another (is_parent h t d) o
        ∙ sym (mode_by_same (change_of h g d c x) (mode_at (Domain d) x e past) (ap is_moded is ∙ not_aimed o))
  ]
    where
      another : (b : Bool) → (t == x) ≡ false → mode_at (Domain d) x e
          (noted (if b then let_go_of d t (change_of h g d c t) ++ mode_changed t (change_of h g d c t) else []) past)
          ≡ mode_at (Domain d) x e past
      another true o = mode_behind d x e t (change_of h g d c t) past
          ∙ ap (λ b. if b then mode_by (change_of h g d c t) (mode_at (Domain d) x e past)
          else mode_at (Domain d) x e past) o
      another false o = refl

      not_aimed : (t == x) ≡ false → is_moded (targeted h t c x (g.links (Domain d) x) (g.modes x)) ≡ false
      not_aimed o =
          rw o (elim (either (is_below h t x)) [
            | inl b ↦
                rw b (handed_not 6 c (g.links (Domain d) x) (g.modes x))
            | inr f ↦ rw f refl
          ])

  pub child_modes : (c : Command) → mode_at (Domain d) x e (noted (child_entries h g d c) past)
      ≡ mode_by (change_of h g d c x) (mode_at (Domain d) x e past)
  child_modes (Do a) =
      sym (mode_by_same (change_of h g d (Do a) x) (mode_at (Domain d) x e past) (elim (either (accepts h d a)) [
        | inl t ↦ rw t (handed_not 0 (Do a) (g.links (Domain d) x) (g.modes x))
        | inr f ↦ rw f refl
      ]))
  child_modes (Include t) = at_target t (Include t) refl
  child_modes (Exclude t) = at_target t (Exclude t) refl
  child_modes (Manual t) = at_target t (Manual t) refl
  child_modes (Ignore t) = at_target t (Ignore t) refl

-- The entries of one domain's children say nothing of another domain.

module _ (h : Hierarchy) (g : Grants) (d p : ℕ) (r : Standing) (o : p ≡ d → ⊥) where
  let_go_aside : (x : ℕ) (change : ChildChange) → AllAside h p r (let_go_of d x change)
  let_go_aside x (Stays code) = tt
  let_go_aside x (Relinked (Out k)) = tt
  let_go_aside x (Relinked (Taking s)) = tt
  let_go_aside x (Relinked (Held e n q)) = tt
  let_go_aside x (Relinked (Dropping e)) = (tt, tt)
  let_go_aside x (ComesInto m) = tt

  mode_aside : (x : ℕ) (change : ChildChange) → (parent_of h x ≡ Some p → ⊥) → AllAside h p r (mode_changed x change)
  mode_aside x (Stays code) other = tt
  mode_aside x (Relinked l) other = tt
  mode_aside x (ComesInto m) other = (other, tt)

  parent_one : (t : ℕ) → is_parent h t d ≡ true → parent_of h t ≡ Some p → ⊥
  parent_one t is other =
      let a : p ≡ d = eqb-true p d (sym (ap (λ z. is_number z d) other) ∙ is) in
      o a

  entries_aside : (c : Command) (t : ℕ) → AllAside h p r (entries_at h g d c t)
  entries_aside c t = elim (either (is_parent h t d)) [
    | inl i ↦ rw i (aside_both h p r (let_go_of d t (change_of h g d c t)) (mode_changed t (change_of h g d c t))
        (let_go_aside t (change_of h g d c t)) (mode_aside t (change_of h g d c t) (parent_one t i)))
    | inr f ↦ rw f tt
  ]

  pub child_aside : (c : Command) → AllAside h p r (child_entries h g d c)
  child_aside (Do a) = tt
  child_aside (Include t) = entries_aside (Include t) t
  child_aside (Exclude t) = entries_aside (Exclude t) t
  child_aside (Manual t) = entries_aside (Manual t) t
  child_aside (Ignore t) = entries_aside (Ignore t) t
