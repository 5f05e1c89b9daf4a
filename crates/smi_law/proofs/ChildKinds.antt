-- What a command does to the links of a domain's children: one is given up at most, and all others hold what they held.
use Rattle.std.proofs.Common.{ℕ, ◌≡◌, ◌+◌, true, false, List, [], ◌∷◌, inl, inr, refl, sym, ap, ◌∙◌, subst, arith}
use Rattle.std.specs.Prelude.{◌==◌, ◌&&◌, ◌++◌, Result, Ok, Err}
use Rattle.std.proofs.lemmas.Bool.{and_parts, eqb-true}
use Rattle.smi_grant.specs.declared.Command.{Command}
use Rattle.smi_grant.specs.declared.Command.TheVariants.{Do, Include, Exclude, Manual, Ignore}
use Rattle.smi_grant.specs.declared.Holder.{Holder}
use Rattle.smi_grant.specs.declared.Holder.TheVariants.{Domain}
use Rattle.smi_grant.specs.Holder.{same_holder}
use Rattle.smi_tree.specs.Hierarchy.{Hierarchy}
use Rattle.smi_tree.specs.Lookups.{accepts, is_below}
use Rattle.smi_command.specs.declared.Link.{Link}
use Rattle.smi_command.specs.declared.Link.TheVariants.{Out, Taking, Held, Dropping}
use Rattle.smi_command.specs.Order.{take_begun, drop_begun, command_issued}
use Rattle.smi_grant.proofs.Holders.{either, same_is, same_self}
use Rattle.smi_command.proofs.Orders.{take_begins, drop_begins, command_issues}
use Rattle.smi_rows.specs.declared.Mode.{Mode}
use Rattle.smi_rows.specs.declared.Mode.TheVariants as mode
use Rattle.smi_tree.specs.Roles.{is_parent}
use Rattle.smi_command.specs.Link.{is_held}
use Rattle.smi_protocol.specs.Children.{ChildChange, Stays, Relinked, ComesInto, relinked_or, is_commanded, same_mode}
use Rattle.smi_protocol.specs.Children.{comes_into, handed_on, aimed_at, targeted, child_change, change_of}
use Rattle.smi_protocol.specs.Children.{link_after, links_after}
use Rattle.smi_protocol.specs.Grants.{Grants}
use Rattle.smi_protocol.specs.Keeping.{let_go_of, mode_changed, entries_at, child_entries}
use Rattle.smi_protocol.specs.declared.Entry.TheVariants.{LetGo}
use Rattle.smi_law.proofs.Changes.{SameLink, same_link}
use Rattle.smi_law.proofs.Moves.{apart, number_self, choice}
use Rattle.smi_law.proofs.Quiet.{AllQuiet, quiet_both}

-- a link that holds the same grant, or none before and after
pub same_held : (e n m : ℕ) (p q : List Command) → SameLink (Held e n p) (Held e m q)
same_held e n m p q = record { held = λ f. refl; known = omega arith; dropping = λ f i. absurd cc }

pub same_taking : (k : ℕ) → SameLink (Out k) (Taking k)
same_taking k = record { held = λ f. refl; known = omega arith; dropping = λ f i. absurd cc }

pub take_same : (l new : Link) → take_begun l ≡ Ok new → SameLink l new
take_same l new is =
    let b = take_begins l new is in
    subst (λ z. SameLink z new) (sym b.1) (subst (SameLink (Out b.0)) (sym b.2) (same_taking b.0))

pub command_same : (l : Link) (c : Command) (new : Link) → command_issued l c ≡ Ok new → SameLink l new
command_same l c new is =
    let b = command_issues l c new is in
    subst (λ z. SameLink z new) (sym b.was) (subst (SameLink (Held b.epoch b.number b.pending)) (sym b.becomes)
    (same_held b.epoch b.number (b.number + 1) b.pending _))

-- the child's link holds what it held, and nothing is let go of
record Same (l : Link) (change : ChildChange) : Type 0 where
  link : SameLink l (link_after change l)
  quiet : (d x : ℕ) → AllQuiet (let_go_of d x change)

stays : (l : Link) (code : ℕ) → Same l (Stays code)
stays l code = record { link = same_link l; quiet = λ d x. tt }

into : (l : Link) (m : Mode) → Same l (ComesInto m)
into l m = record { link = same_link l; quiet = λ d x. tt }

module _ (l : Link) where
  issued : (code : ℕ) (c : Command) (res : Result Link ℕ) → command_issued l c ≡ res → Same l (relinked_or code res)
  issued code c (Ok new) is = record {
    link = command_same l c new is;
    quiet = λ d x. subst (λ z. AllQuiet (let_go_of d x (Relinked z))) (sym (command_issues l c new is).becomes) tt;
  }
  issued code c (Err why) is = stays l code

  begun : (code : ℕ) (res : Result Link ℕ) → take_begun l ≡ res → Same l (relinked_or code res)
  begun code (Ok new) is = record {
    link = take_same l new is;
    quiet = λ d x. subst (λ z. AllQuiet (let_go_of d x (Relinked z))) (sym (take_begins l new is).2) tt;
  }
  begun code (Err why) is = stays l code

  handed : (code : ℕ) (c : Command) (m : Mode) → Same l (handed_on code c l m)
  handed code c m = choice (Same l) (is_held l && is_commanded m) (relinked_or 7 (command_issued l c)) (Stays code)
      (issued 7 c (command_issued l c) refl) (stays l code)

  moded : (new old : Mode) → Same l (comes_into new old)
  moded new old = choice (Same l) (same_mode new old) (Stays 3) (ComesInto new) (stays l 3) (into l new)

  passed : (h : Hierarchy) (t : ℕ) (c : Command) (x : ℕ) (m : Mode) → ((t ≡ x) → Same l (aimed_at c l m))
      → Same l (targeted h t c x l m)
  passed h t c x m aimed = elim (either (t == x)) [
    | inl i ↦ rw i (aimed (eqb-true t x i))
    | inr f ↦ rw f (choice (Same l) (is_below h t x) (handed_on 6 c l m) (Stays 0) (handed 6 c m) (stays l 0))
  ]

  included : (t : ℕ) (m : Mode) → Same l (aimed_at (Include t) l m)
  included t m = choice (Same l) (is_held l) (comes_into mode.Included m) (relinked_or 0 (take_begun l))
      (moded mode.Included m) (begun 0 (take_begun l) refl)

  -- every command but one that excludes the child itself
  all_same : (h : Hierarchy) (d : ℕ) (c : Command) (x : ℕ) (m : Mode) → (c ≡ Exclude x → ⊥)
      → Same l (child_change h d c x l m)
  all_same h d (Do a) x m o = choice (Same l) (accepts h d a) (handed_on 0 (Do a) l m) (Stays 0) (handed 0 (Do a) m)
      (stays l 0)
  all_same h d (Include t) x m o = passed h t (Include t) x m (λ i. included t m)
  all_same h d (Exclude t) x m o = passed h t (Exclude t) x m (λ i. absurd (o (ap Exclude i)))
  all_same h d (Manual t) x m o = passed h t (Manual t) x m
      (λ i. choice (Same l) (is_held l) (comes_into mode.Manual m) (Stays 4) (moded mode.Manual m) (stays l 4))
  all_same h d (Ignore t) x m o = passed h t (Ignore t) x m
      (λ i. choice (Same l) (is_held l) (comes_into mode.Ignored m) (Stays 4) (moded mode.Ignored m) (stays l 4))

modes_quiet : (x : ℕ) (change : ChildChange) → AllQuiet (mode_changed x change)
modes_quiet x (Stays code) = tt
modes_quiet x (Relinked l) = tt
modes_quiet x (ComesInto m) = (tt, tt)

-- All links of the station.

module _ (h : Hierarchy) (g : Grants) (d : ℕ) (c : Command) where
  -- the link to a child, where the command does not exclude it, and every other link
  pub links_same : (me : Holder) (x : ℕ) → (is_parent h x d ≡ true → me ≡ Domain d → c ≡ Exclude x → ⊥)
      → SameLink (g.links me x) (links_after h g d c me x)
  links_same me x o = elim (either (is_parent h x d && same_holder me (Domain d))) [
    | inl t ↦
        let a = and_parts (is_parent h x d) _ t in
        let i = same_is me (Domain d) a.1 in
        rw t (subst (λ z. SameLink (g.links z x) (link_after (change_of h g d c x) (g.links (Domain d) x))) (sym i)
        (all_same (g.links (Domain d) x) h d c x (g.modes x) (o a.0 i)).link)
    | inr f ↦ rw f (same_link (g.links me x))
  ]

  at_quiet : (t : ℕ) → (c ≡ Exclude t → ⊥) → AllQuiet (entries_at h g d c t)
  at_quiet t o = choice AllQuiet (is_parent h t d)
      (let_go_of d t (change_of h g d c t) ++ mode_changed t (change_of h g d c t)) []
      (quiet_both (let_go_of d t (change_of h g d c t)) _
      ((all_same (g.links (Domain d) t) h d c t (g.modes t) o).quiet d t) (modes_quiet t (change_of h g d c t)))
      tt

-- what there is of a command: it excludes a child of which the domain lets go, or leaves all links unchanged
pub data RunKind (h : Hierarchy) (g : Grants) (d : ℕ) (c : Command) : Type 0 where
  quietly : AllQuiet (child_entries h g d c)
      → ((me : Holder) (x : ℕ) → SameLink (g.links me x) (links_after h g d c me x)) → RunKind h g d c
  excludes : (t e n : ℕ) → g.links (Domain d) t ≡ Held e n [] → links_after h g d c (Domain d) t ≡ Dropping e
      → child_entries h g d c ≡ LetGo (Domain d) t e ∷ []
      → ((me : Holder) (x : ℕ) → (me ≡ Domain d → x ≡ t → ⊥) → SameLink (g.links me x) (links_after h g d c me x))
      → RunKind h g d c

excluded : (h : Hierarchy) (g : Grants) (d t : ℕ) (res : Result Link ℕ) → drop_begun (g.links (Domain d) t) ≡ res
    → is_parent h t d ≡ true → RunKind h g d (Exclude t)
excluded h g d t (Ok new) is parent =
    let b = drop_begins (g.links (Domain d) t) new is in
    let change : change_of h g d (Exclude t) t
    ≡ Relinked (Dropping b.0) = rw (number_self t) (ap (relinked_or 4) is ∙ ap Relinked b.3) in
    excludes t b.0 b.1 b.2
    (rw parent (rw (same_self (Domain d)) (ap (λ z. link_after z (g.links (Domain d) t)) change)))
    (rw parent (ap (λ z. let_go_of d t z ++ mode_changed t z) change))
    (λ me x o. links_same h g d (Exclude t) me x (λ p i e. let same : t ≡ x = cc in o i (sym same)))
excluded h g d t (Err why) is parent =
    let change : change_of h g d (Exclude t) t ≡ Stays 4 = rw (number_self t) (ap (relinked_or 4) is) in
    quietly
    (rw parent (subst (λ z. AllQuiet (let_go_of d t z ++ mode_changed t z)) (sym change) tt))
    (λ me x. elim (either (is_parent h x d && same_holder me (Domain d))) [
      | inl u ↦ rw u (elim (apart x t) [
        | inl i ↦
            let a = and_parts (is_parent h x d) _ u in
            let j = same_is me (Domain d) a.1 in
            subst (λ z. SameLink (g.links z x) (link_after (change_of h g d (Exclude t) x) (g.links (Domain d) x)))
            (sym j)
            (subst (λ z. SameLink (g.links (Domain d) z)
            (link_after (change_of h g d (Exclude t) z) (g.links (Domain d) z))) (sym i)
            (subst (λ z. SameLink (g.links (Domain d) t) (link_after z (g.links (Domain d) t))) (sym change)
            (same_link (g.links (Domain d) t))))
        | inr o ↦
            let a = and_parts (is_parent h x d) _ u in
            let j = same_is me (Domain d) a.1 in
            subst (λ z. SameLink (g.links z x) (link_after (change_of h g d (Exclude t) x) (g.links (Domain d) x)))
            (sym j)
            (all_same (g.links (Domain d) x) h d (Exclude t) x (g.modes x)
            (λ e. let same : t ≡ x = cc in o (sym same))).link
      ])
      | inr f ↦ rw f (same_link (g.links me x))
    ])

pub run_kind : (h : Hierarchy) (g : Grants) (d : ℕ) (c : Command) → RunKind h g d c
run_kind h g d (Do a) = quietly tt (λ me x. links_same h g d (Do a) me x (λ p i e. absurd cc))
run_kind h g d (Include t) = quietly (at_quiet h g d (Include t) t (λ e. absurd cc))
    (λ me x. links_same h g d (Include t) me x (λ p i e. absurd cc))
run_kind h g d (Manual t) = quietly (at_quiet h g d (Manual t) t (λ e. absurd cc))
    (λ me x. links_same h g d (Manual t) me x (λ p i e. absurd cc))
run_kind h g d (Ignore t) = quietly (at_quiet h g d (Ignore t) t (λ e. absurd cc))
    (λ me x. links_same h g d (Ignore t) me x (λ p i e. absurd cc))
run_kind h g d (Exclude t) = elim (either (is_parent h t d)) [
  | inl parent ↦ excluded h g d t (drop_begun (g.links (Domain d) t)) refl parent
  | inr f ↦ quietly (rw f tt) (λ me x. links_same h g d (Exclude t) me x
      (λ p i e. let same : t ≡ x = cc in let wrong : true ≡ false = sym p ∙ ap (λ z. is_parent h z d) (sym same) ∙ f in
      absurd cc))
]
