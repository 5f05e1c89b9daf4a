-- How a domain relates to the trace after a command has begun in it.
use Rattle.std.proofs.Common.{ℕ, suc, zero, ◌≡◌, ◌+◌, ◌-◌, Bool, true, false, List, [], ◌∷◌, inl, inr, refl, sym, ap}
use Rattle.std.proofs.Common.{◌∙◌, subst, arith}
use Rattle.std.specs.Prelude.{◌==◌, ◌||◌, ◌++◌, Option, Some, None, if◌then◌else◌, slice_get, option_and_then}
use Rattle.std.specs.Option.{option_map_or}
use Rattle.std.specs.List.{list_any}
use Rattle.std.proofs.lemmas.Bool.Decides.{nat_tests}
use Rattle.smi_grant.specs.declared.Command.{Command}
use Rattle.smi_grant.specs.declared.Holder.TheVariants.{Operator, Domain}
use Rattle.smi_grant.specs.Keeper.{started}
use Rattle.smi_grant.specs.Record.{Standing, is_settled}
use Rattle.smi_tree.specs.declared.row.Domain.{Domain as DomainRow}
use Rattle.smi_tree.specs.Hierarchy.{Hierarchy, is_child_of}
use Rattle.smi_tree.specs.Lookups.{numbers_from, parent_of}
use Rattle.smi_command.specs.declared.Link.TheVariants.{Held}
use Rattle.smi_grant.proofs.Holders.{either}
use Rattle.smi_rows.specs.declared.Mode.TheVariants as mode
use Rattle.smi_command.specs.Link.{is_held, is_unsettled}
use Rattle.smi_protocol.specs.Children.{is_commanded, change_of}
use Rattle.smi_protocol.specs.Grants.{Grants, put}
use Rattle.smi_protocol.specs.GrantStep.{waits_for_children}
use Rattle.smi_protocol.specs.Keeping.{commanded, begun, child_entries, settled_at_once}
use Rattle.smi_protocol.specs.declared.Entry.{Entry}
use Rattle.smi_protocol.specs.declared.Entry.TheVariants.{Ran, Settled}
use Rattle.smi_law.specs.Safe.{Forwards}
use Rattle.smi_law.specs.Trace.{mode_at, orders_of, InWork}
use Rattle.smi_law.specs.World.{noted}
use Rattle.smi_law.proofs.GrantKinds.{put_here}
use Rattle.smi_law.proofs.Quiet.{noted_both}
use Rattle.smi_law.proofs.WorkRuns.{Kid, kid, child_kind, mode_by, link_child, mode_child, child_mild, work_mild}
use Rattle.smi_law.proofs.WorkRuns.{orders_mild, child_modes}
use Rattle.smi_law.proofs.Working.{HandedOn, At}
use Rattle.smi_law.proofs.Moves.{number_self}

-- If no child is waited for, no link to a child waits.

or_false : (a b : Bool) → (a || b) ≡ false → (a ≡ false) × (b ≡ false)
or_false true b i = absurd cc
or_false false b i = (refl, i)

nothing_at : {X : Type 0} (i : ℕ) (row : X) → slice_get [] i ≡ Some row → ⊥
nothing_at i row is = cc

none_among : {X : Type 0} (test : ℕ → Bool) (counts : X → Bool) (rows : List X) (k i : ℕ) (row : X)
    → list_any test (numbers_from counts k rows) ≡ false → slice_get rows i ≡ Some row → counts row ≡ true
    → test (i + k) ≡ false
none_among test counts [] k i row none is yes_ = absurd (nothing_at i row is)
none_among {X = X} test counts (other ∷ rows) k zero row none is yes_ =
    let same : other ≡ row = cc in
    let a : counts other ≡ true = ap counts same ∙ yes_ in
    let b : list_any test (k ∷ numbers_from counts (k + 1) rows)
    ≡ false = sym
    (ap (λ z. list_any test (if z then k ∷ numbers_from counts (k + 1) rows else numbers_from counts (k + 1) rows))
    a) ∙ none in
    subst (λ z. test z ≡ false) (begins k) (or_false (test k) _ b).0
  where
    begins : (m : ℕ) → m ≡ 0 + m
    begins m = omega arith
none_among {X = X} test counts (other ∷ rows) k (suc i) row none is yes_ =
    subst (λ z. test z ≡ false) (moved i k) (none_among test counts rows (k + 1) i row (later (counts other) none) is
    yes_)
  where
    moved : (j m : ℕ) → j + (m + 1) ≡ suc j + m
    moved j m = omega arith

    later : (b : Bool)
        → list_any test (if b then k ∷ numbers_from counts (k + 1) rows else numbers_from counts (k + 1) rows) ≡ false
        → list_any test (numbers_from counts (k + 1) rows) ≡ false
    later true n = (or_false (test k) _ n).1
    later false n = n

-- the row of a domain with a parent
record IsRow (h : Hierarchy) (x d : ℕ) : Type 0 where
  row : DomainRow
  read : slice_get h.domains (x - 1) ≡ Some row
  child : is_child_of d row ≡ true
  number : x - 1 + 1 ≡ x

row_of : (h : Hierarchy) (x d : ℕ) → parent_of h x ≡ Some d → IsRow h x d
row_of h x d is = elim (either (x == 0)) [
  | inl t ↦ absurd
      (not_none (sym
      (ap (λ b. option_and_then (λ (row : DomainRow). row.parent) (if b then None else slice_get h.domains (x - 1))) t)
      ∙ is))
  | inr f ↦ read (slice_get h.domains (x - 1)) refl f
      (sym (ap (λ b. option_and_then (λ (row : DomainRow). row.parent)
      (if b then None else slice_get h.domains (x - 1))) f) ∙ is)
]
  where
    not_none : None ≡ Some d → ⊥
    not_none i = cc

    positive : (n : ℕ) → (n == 0) ≡ false → n - 1 + 1 ≡ n
    positive n f = grind (arith, nat_tests)

    read : (o : Option DomainRow) → slice_get h.domains (x - 1) ≡ o → (x == 0) ≡ false
        → option_and_then (λ (row : DomainRow). row.parent) o ≡ Some d → IsRow h x d
    read None at f i = absurd (not_none i)
    read (Some row) at f i = record {
      row = row;
      read = at;
      child = above row.parent i;
      number = positive x f;
    }
      where
        above : (o : Option ℕ) → o ≡ Some d → option_map_or (λ p. p == d) o false ≡ true
        above None j = absurd cc
        above (Some p) j = let same : p ≡ d = cc in ap (λ z. z == d) same ∙ number_self d

pub settled_children : (h : Hierarchy) (g : Grants) (d x : ℕ) → waits_for_children h g d ≡ false
    → parent_of h x ≡ Some d → is_unsettled (g.links (Domain d) x) ≡ false
settled_children h g d x none child =
    let r = row_of h x d child in
    subst (λ z. is_unsettled (g.links (Domain d) z) ≡ false) r.number
    (none_among (λ z. is_unsettled (g.links (Domain d) z)) (is_child_of d) h.domains 1 (x - 1) r.row none r.read
    r.child)

-- The domain itself.

work_ran : (x e n : ℕ) (c : Command) (past : List Entry) → InWork x e n c (Ran x e n c ∷ past)
unfolding InWork
work_ran x e n c past = inl (refl, refl, refl, refl)

orders_ran : (o d e n x f m : ℕ) (c : Command) (past : List Entry)
    → orders_of o d e n (Ran x f m c ∷ past) ≡ orders_of o d e n past
unfolding orders_of
orders_ran o d e n x f m c past = refl

mode_ran : (p y f x e n : ℕ) (c : Command) (past : List Entry)
    → mode_at (Domain p) y f (Ran x e n c ∷ past) ≡ mode_at (Domain p) y f past
unfolding mode_at
mode_ran p y f x e n c past = refl

pub mode_settled : (p y f x e n code : ℕ) (past : List Entry)
    → mode_at (Domain p) y f (Settled x e n code ∷ past) ≡ mode_at (Domain p) y f past
unfolding mode_at
mode_settled p y f x e n code past = refl

module _ (h : Hierarchy) (now : ℕ → Command) (past : List Entry) (g : Grants) (x e n : ℕ) (c : Command) (own : ℕ)
    (a : At h now past g x) (settled : is_settled (g.records x).phase ≡ true) (epoch : (g.records x).epoch ≡ e)
    (next : n ≡ (g.records x).last + 1)
    (ordered : (o : ℕ) → (g.records x).holder ≡ Operator o → orders_of o x e n past ≡ c ∷ [])
    (same : (q : ℕ) → (g.records x).holder ≡ Domain q → c ≡ now q) where
  abbrev behind : List Entry
  behind = noted (child_entries h g x c) (Ran x e n c ∷ past)

  kid_of : (y : ℕ) → parent_of h y ≡ Some x → Kid h x c y (g.links (Domain x) y) (g.modes y) (change_of h g x c y)
  kid_of y child = kid h x c y (g.links (Domain x) y) (g.modes y) (a.rest settled y child) (change_of h g x c y)
      (child_kind h x y (g.links (Domain x) y) (g.modes y) c)

  abbrev K : Bool → Grants
  K busy = begun (commanded h g x c) x busy own

  now_c : put now x c x ≡ c
  now_c = put_here now x c

  handed : (busy : Bool) (y f m : ℕ) (k : Command) (more : List Command) → parent_of h y ≡ Some x
      → (K busy).links (Domain x) y ≡ Held f m (k ∷ more) → HandedOn h (put now x c) (K busy) x y k more
  handed busy y f m k more child is =
      let d = kid_of y child in
      let j = sym (link_child h g x c y child) ∙ is in
      record {
        alone = d.alone f m k more j;
        command = d.command f m k more j ∙ sym now_c;
        forwards = subst (λ z. Forwards h x z y) (sym (d.command f m k more j)) (d.forwards f m k more j);
        commanded = ap is_commanded (mode_child h g x c y child) ∙ d.commanded f m k more j;
      }

  modes : (busy : Bool) (y f m : ℕ) (p : List Command) → parent_of h y ≡ Some x
      → (K busy).links (Domain x) y ≡ Held f m p → mode_at (Domain x) y f behind ≡ (K busy).modes y
  modes busy y f m p child is =
      let d = kid_of y child in
      let j = sym (link_child h g x c y child) ∙ is in
      let was = d.was_held f m p j in
      child_modes h g x y f (Ran x e n c ∷ past) child c
      ∙ ap (mode_by (change_of h g x c y)) (mode_ran x y f x e n c past ∙ a.modes y f was.0 was.1 child was.2)
      ∙ d.mode_ f m p j
      ∙ sym (mode_child h g x c y child)

  included : (busy : Bool) (y : ℕ) → parent_of h y ≡ Some x → is_held ((K busy).links (Domain x) y) ≡ false
      → (K busy).modes y ≡ mode.Included
  included busy y child is =
      let d = kid_of y child in
      mode_child h g x c y child ∙ d.included (a.included y child) (ap is_held (sym (link_child h g x c y child)) ∙ is)

  record_is : (busy : Bool) → (K busy).records x ≡ started (g.records x) busy own
  record_is busy = put_here g.records x (started (g.records x) busy own)

  not_busy : is_settled ((K true).records x).phase ≡ true → ⊥
  not_busy i = let j : false ≡ true = ap (λ (r : Standing). is_settled r.phase) (sym (record_is true)) ∙ i in cc

  not_settled : is_settled ((K false).records x).phase ≡ false → ⊥
  not_settled i = let j : true ≡ false = ap (λ (r : Standing). is_settled r.phase) (sym (record_is false)) ∙ i in cc

  work_here : InWork x (g.records x).epoch ((g.records x).last + 1) c behind
  work_here =
      subst (λ z. InWork x z ((g.records x).last + 1) c behind) (sym epoch)
      (subst (λ z. InWork x e z c behind) next
      (work_mild x e n c (child_entries h g x c) (Ran x e n c ∷ past) (child_mild h g x c) (work_ran x e n c past)))

  orders_here : (o : ℕ) → (g.records x).holder ≡ Operator o
      → orders_of o x (g.records x).epoch ((g.records x).last + 1) behind ≡ c ∷ []
  orders_here o mine =
      ap (λ z. orders_of o x z ((g.records x).last + 1) behind) epoch
      ∙ ap (λ z. orders_of o x e z behind) (sym next)
      ∙ orders_mild o x e n (child_entries h g x c) (Ran x e n c ∷ past) (child_mild h g x c)
      ∙ orders_ran o x e n x e n c past
      ∙ ordered o mine

  at_busy : At h (put now x c) behind (K true) x
  at_busy = record {
    work = λ busy. subst (λ z. InWork x ((K true).records x).epoch ((K true).records x).last z behind) (sym now_c)
        (subst (λ (r : Standing). InWork x r.epoch r.last c behind) (sym (record_is true)) work_here);
    rest = λ quiet y child. absurd (not_busy quiet);
    handed = handed true;
    ordered = λ o busy mine. ap (λ (r : Standing). orders_of o x r.epoch r.last behind) (record_is true)
        ∙ orders_here o (ap (λ (r : Standing). r.holder) (sym (record_is true)) ∙ mine) ∙ ap (λ z. z ∷ []) (sym now_c);
    same = λ q busy mine. now_c ∙ same q (holder mine) ∙ sym (above q (holder mine));
    modes = modes true;
    included = included true;
  }
    where
      holder : {q : ℕ} → ((K true).records x).holder ≡ Domain q → (g.records x).holder ≡ Domain q
      holder mine = ap (λ (r : Standing). r.holder) (sym (record_is true)) ∙ mine

      above : (q : ℕ) → (g.records x).holder ≡ Domain q → put now x c q ≡ now q
      above q mine = elim (either (q == x)) [
        | inl t ↦ ap (λ b. if b then c else now q) t ∙ same q mine
        | inr f ↦ ap (λ b. if b then c else now q) f
      ]

  at_once : waits_for_children h (commanded h g x c) x ≡ false
      → At h (put now x c) (Settled x e n own ∷ behind) (K false) x
  at_once none = record {
    work = λ busy. absurd (not_settled busy);
    rest = λ quiet y child. settled_children h (commanded h g x c) x y none child;
    handed = handed false;
    ordered = λ o busy mine. absurd (not_settled busy);
    same = λ q busy mine. absurd (not_settled busy);
    modes = λ y f m p child is. mode_settled x y f x e n own behind ∙ modes false y f m p child is;
    included = included false;
  }

  pub at_started : (busy : Bool) → waits_for_children h (commanded h g x c) x ≡ busy
      → At h (put now x c) (noted (Ran x e n c ∷ child_entries h g x c ++ settled_at_once x e n busy own)
      past) (K busy) x
  at_started true is = subst (λ z. At h (put now x c) z (K true) x)
      (sym (noted_both (child_entries h g x c) [] (Ran x e n c ∷ past))) at_busy
  at_started false is = subst (λ z. At h (put now x c) z (K false) x)
      (sym (noted_both (child_entries h g x c) (Settled x e n own ∷ []) (Ran x e n c ∷ past))) (at_once is)
