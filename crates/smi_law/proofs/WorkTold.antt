-- How a domain relates to the trace after one of its children's records was told to it.
use Rattle.std.proofs.Common.{ℕ, suc, zero, ◌≡◌, ◌≤◌, ◌+◌, Bool, true, false, List, [], ◌∷◌, drop, inl, inr, refl}
use Rattle.std.proofs.Common.{sym, ap, ◌∙◌, subst, arith}
use Rattle.std.specs.Prelude.{◌==◌, ◌++◌, not, Some, if◌then◌else◌}
use Rattle.std.proofs.lemmas.Bool.{and_parts, eqb-true}
use Rattle.std.proofs.lemmas.Bool.Decides.{nat_tests}
use Rattle.smi_grant.specs.declared.Command.{Command}
use Rattle.smi_grant.specs.declared.Holder.{Holder}
use Rattle.smi_grant.specs.declared.Holder.TheVariants.{Domain}
use Rattle.smi_grant.specs.Record.{Standing, is_settled, last_epoch}
use Rattle.smi_tree.specs.Hierarchy.{Hierarchy}
use Rattle.smi_tree.specs.Lookups.{parent_of}
use Rattle.smi_command.specs.declared.Link.{Link}
use Rattle.smi_command.specs.declared.Link.TheVariants.{Out, Taking, Held, Dropping}
use Rattle.smi_command.specs.Hearing.{told_link, settled_count}
use Rattle.smi_command.specs.Link.{known, is_held, is_unsettled}
use Rattle.smi_command.proofs.Heard.{by_row_taking, by_row_held, by_row_dropping}
use Rattle.smi_grant.proofs.Holders.{either, same_self}
use Rattle.smi_rows.specs.declared.Mode.TheVariants as mode
use Rattle.smi_protocol.specs.Grants.{Grants, put_link}
use Rattle.smi_protocol.specs.GrantStep.{waits_for_children}
use Rattle.smi_protocol.specs.Hearing.{learned, parent_heard, ends, ended, ended_record, ended_entries}
use Rattle.smi_protocol.specs.declared.Entry.{Entry}
use Rattle.smi_protocol.specs.declared.Entry.TheVariants.{Learned, Settled}
use Rattle.smi_law.specs.Trace.{mode_at, orders_of, InWork, is_grant_of}
use Rattle.smi_law.specs.World.{noted}
use Rattle.smi_law.proofs.GrantKinds.{put_here}
use Rattle.smi_law.proofs.HearingKinds.{ToldKind, learns, remains, told_kind}
use Rattle.smi_law.proofs.Moves.{at_put, at_put_link, number_self}
use Rattle.smi_law.proofs.Quiet.{AllQuiet, noted_both}
use Rattle.smi_law.proofs.Started.{settled_children, mode_settled}
use Rattle.smi_law.proofs.Traces.{holds_at}
use Rattle.smi_law.proofs.Working.{HandedOn, At, AllAside, aside_both, SameAt, mode_learned, settles_at}

-- One link.

-- at most one command is pending
abbrev pub OnlyOne : Link → Type 0
OnlyOne l = (e n : ℕ) (c : Command) (more : List Command) → l ≡ Held e n (c ∷ more) → more ≡ []

fewer : (k : ℕ) (pending : List Command) (c : Command) (more : List Command)
    → ((d : Command) (rest : List Command) → pending ≡ d ∷ rest → rest ≡ []) → drop k pending ≡ c ∷ more
    → pending ≡ c ∷ more
fewer zero pending c more one is = is
fewer (suc k) [] c more one is = absurd cc
fewer (suc k) (d ∷ rest) c more one is =
    let a : drop k [] ≡ c ∷ more = ap (drop k) (sym (one d rest refl)) ∙ is in
    absurd (none k a)
  where
    none : (j : ℕ) → drop j [] ≡ c ∷ more → ⊥
    none zero i = cc
    none (suc j) i = cc

module _ (me : Holder) (r : Standing) where
  -- what is still pending was pending
  pub told_pending : (l : Link) → OnlyOne l → (e n : ℕ) (c : Command) (more : List Command)
      → told_link l me r ≡ Held e n (c ∷ more) → l ≡ Held e n (c ∷ more)
  told_pending (Out k) one e n c more = λ is. is
  told_pending (Taking s) one e n c more = by_row_taking (λ l m. m ≡ Held e n (c ∷ more) → l ≡ Held e n (c ∷ more))
      me r s
      (λ at mine is. absurd cc) (λ free at is. absurd cc) (λ free less is. absurd cc)
      (λ held other less is. absurd cc) (λ is. is)
  told_pending (Held f m p) one e n c more =
      by_row_held (λ l k. k ≡ Held e n (c ∷ more) → l ≡ Held e n (c ∷ more)) me r f m p
      (λ at is.
      let a : f ≡ e = cc in
      let b : m ≡ n = cc in
      let d : drop (settled_count m p r) p ≡ c ∷ more = cc in
      ap (λ z. Held z m p) a ∙ ap (λ z. Held e z p) b
      ∙ ap (Held e n) (fewer (settled_count m p r) p c more (λ k rest i. one f m k rest (ap (Held f m) i)) d))
      (λ is. is)
  told_pending (Dropping f) one e n c more =
      by_row_dropping (λ l m. m ≡ Held e n (c ∷ more) → l ≡ Held e n (c ∷ more)) me r f
      (λ less is. absurd cc) (λ is. is)

  abbrev none : List Command
  none = []

  none_left : (k : ℕ) → drop k none ≡ none
  none_left zero = refl
  none_left (suc k) = refl

  -- a settled link stays settled
  pub told_settled : (l : Link) → is_unsettled l ≡ false → is_unsettled (told_link l me r) ≡ false
  told_settled (Out k) is = refl
  told_settled (Taking s) is = absurd cc
  told_settled (Held f m []) is = by_row_held (λ l k. is_unsettled k ≡ false) me r f m []
      (λ at. ap (λ z. is_unsettled (Held f m z)) (none_left (settled_count m [] r))) refl
  told_settled (Held f m (c ∷ p)) is = absurd cc
  told_settled (Dropping f) is = absurd cc

  -- what is not held was not held
  pub told_unheld : (l : Link) → is_held (told_link l me r) ≡ false → is_held l ≡ false
  told_unheld (Out k) = λ is. refl
  told_unheld (Taking s) = λ is. refl
  told_unheld (Held f m p) = by_row_held (λ l k. is_held k ≡ false → is_held l ≡ false) me r f m p
      (λ at is. absurd cc) (λ is. absurd cc)
  told_unheld (Dropping f) = λ is. refl

-- if no grant is learned there is no entry
learned_none : (who : Holder) (d : ℕ) (l new : Link) → AllQuiet (learned who d l new) → learned who d l new ≡ []
learned_none who d (Out k) new q = refl
learned_none who d (Held e n p) new q = refl
learned_none who d (Dropping e) new q = refl
learned_none who d (Taking s) (Out k) q = refl
learned_none who d (Taking s) (Taking u) q = refl
learned_none who d (Taking s) (Held e n p) q = absurd q.0
learned_none who d (Taking s) (Dropping e) q = refl

record WasHeld (l : Link) (e : ℕ) : Type 0 where
  number : ℕ
  pending : List Command
  is : l ≡ Held e number pending

was_held : (l : Link) (e : ℕ) → holds_at l e ≡ true → WasHeld l e
was_held (Out k) e i = absurd cc
was_held (Taking s) e i = absurd cc
was_held (Held f n p) e i = record { number = n; pending = p; is = ap (λ z. Held z n p) (eqb-true f e i) }
was_held (Dropping f) e i = absurd cc

-- The trace after a grant that was learned.

work_learned : (p e n : ℕ) (c : Command) (who : Holder) (x f : ℕ) (past : List Entry) → InWork p e n c past
    → InWork p e n c (Learned who x f ∷ past)
unfolding InWork
work_learned p e n c who x f past i = i

orders_learned : (o p e n : ℕ) (who : Holder) (x f : ℕ) (past : List Entry)
    → orders_of o p e n (Learned who x f ∷ past) ≡ orders_of o p e n past
unfolding orders_of
orders_learned o p e n who x f past = refl

module _ (h : Hierarchy) (now : ℕ → Command) (past : List Entry) (g : Grants) (p d : ℕ) (r : Standing)
    (within : known (g.links (Domain p) d) ≤ last_epoch) (a : At h now past g p) where
  abbrev pub old : Link
  old = g.links (Domain p) d

  abbrev pub new : Link
  new = told_link old (Domain p) r

  abbrev On : Grants
  On = parent_heard g p d r

  -- what holds of the told link and of each other one holds of the table
  on_link : (P : ℕ → Link → Type 0) → P d new → ((x : ℕ) → (x ≡ d → ⊥) → P x (g.links (Domain p) x)) → (x : ℕ)
      → P x (On.links (Domain p) x)
  on_link P here other x = elim (either (x == d)) [
    | inl t ↦ rw t (rw (same_self (Domain p)) (subst (λ z. P z new) (sym (eqb-true x d t)) here))
    | inr f ↦ rw f (other x (apart_ x f))
  ]
    where
      apart_ : (y : ℕ) → (y == d) ≡ false → y ≡ d → ⊥
      apart_ y f i = grind (arith, nat_tests)

  only_one : parent_of h d ≡ Some p → OnlyOne old
  only_one child e n c more is = (a.handed d e n c more child is).alone

  rest : is_settled (g.records p).phase ≡ true → (x : ℕ) → parent_of h x ≡ Some p
      → is_unsettled (On.links (Domain p) x) ≡ false
  rest quiet = on_link (λ x l. parent_of h x ≡ Some p → is_unsettled l ≡ false)
      (λ child. told_settled (Domain p) r old (a.rest quiet d child)) (λ x o child. a.rest quiet x child)

  handed : (x e n : ℕ) (c : Command) (more : List Command) → parent_of h x ≡ Some p
      → On.links (Domain p) x ≡ Held e n (c ∷ more) → HandedOn h now On p x c more
  handed x e n c more = on_link (λ x l. parent_of h x ≡ Some p → l ≡ Held e n (c ∷ more) → HandedOn h now On p x c more)
      (λ child is. kept d (a.handed d e n c more child (told_pending (Domain p) r old (only_one child) e n c more is)))
      (λ y o child is. kept y (a.handed y e n c more child is)) x
    where
      kept : (y : ℕ) → HandedOn h now g p y c more → HandedOn h now On p y c more
      kept y b = record { alone = b.alone; command = b.command; forwards = b.forwards; commanded = b.commanded }

  included : (x : ℕ) → parent_of h x ≡ Some p → is_held (On.links (Domain p) x) ≡ false → On.modes x ≡ mode.Included
  included = on_link (λ x l. parent_of h x ≡ Some p → is_held l ≡ false → g.modes x ≡ mode.Included)
      (λ child is. a.included d child (told_unheld (Domain p) r old is))
      (λ x o child is. a.included x child is)

  at_learned : (s : ℕ) → old ≡ Taking s → new ≡ Held (s + 1) 0 [] → At h now (Learned (Domain p) d (s + 1) ∷ past) On p
  at_learned s was becomes = record {
    work = λ busy. work_learned p (g.records p).epoch (g.records p).last (now p) (Domain p) d (s + 1) past
        (a.work busy);
    rest = rest;
    handed = handed;
    ordered = λ o busy mine. orders_learned o p (g.records p).epoch (g.records p).last (Domain p) d (s + 1) past
        ∙ a.ordered o busy mine;
    same = a.same;
    modes = λ x e n q child is. on_link (λ x l. parent_of h x ≡ Some p → l ≡ Held e n q
        → mode_at (Domain p) x e (Learned (Domain p) d (s + 1) ∷ past) ≡ g.modes x) (it e n q)
        (others e n q) x child is;
    included = included;
  }
    where
      it : (e n : ℕ) (q : List Command) → parent_of h d ≡ Some p → new ≡ Held e n q
          → mode_at (Domain p) d e (Learned (Domain p) d (s + 1) ∷ past) ≡ g.modes d
      it e n q child is =
          let j : Held (s + 1) 0 [] ≡ Held e n q = sym becomes ∙ is in
          let i : s + 1 ≡ e = cc in
          ap (λ z. mode_at (Domain p) d z (Learned (Domain p) d (s + 1) ∷ past)) (sym i)
          ∙ mode_learned p d (s + 1) (Domain p) d (s + 1) past
          ∙ rw (number_self d) (rw (number_self (s + 1))
          (rw (same_self (Domain p)) (sym (a.included d child (ap is_held was)))))

      others : (e n : ℕ) (q : List Command) (x : ℕ) → (x ≡ d → ⊥) → parent_of h x ≡ Some p
          → g.links (Domain p) x ≡ Held e n q → mode_at (Domain p) x e (Learned (Domain p) d (s + 1) ∷ past) ≡ g.modes x
      others e n q x o child is = mode_learned p x e (Domain p) d (s + 1) past
          ∙ elim (either (is_grant_of (Domain p) x e (Domain p) d (s + 1))) [
            | inl t ↦ absurd (o (sym (eqb-true d x (and_parts (d == x) _ t).0)))
            | inr f ↦ ap (λ b. if b then mode.Included else mode_at (Domain p) x e past) f ∙ a.modes x e n q child is
          ]

  at_same : ((e n : ℕ) (q : List Command) → new ≡ Held e n q → WasHeld old e) → At h now past On p
  at_same was = record {
    work = a.work;
    rest = rest;
    handed = handed;
    ordered = a.ordered;
    same = a.same;
    modes = λ x e n q child is. on_link (λ x l. parent_of h x ≡ Some p → l ≡ Held e n q
        → mode_at (Domain p) x e past ≡ g.modes x)
        (λ c i. let b = was e n q i in a.modes d e b.number b.pending c b.is) (λ y o c i. a.modes y e n q c i) x
        child is;
    included = included;
  }

  at_heard_by : ToldKind (Domain p) d old new → At h now (noted (learned (Domain p) d old new) past) On p
  at_heard_by (learns s was becomes) =
      subst (λ z. At h now (noted (learned (Domain p) d z new) past) On p) (sym was)
      (subst (λ z. At h now (noted (learned (Domain p) d (Taking s) z) past) On p) (sym becomes)
      (at_learned s was becomes))
  at_heard_by (remains same quiet) =
      subst (λ z. At h now (noted z past) On p) (sym (learned_none (Domain p) d old new quiet))
      (at_same (λ e n q is. was_held old e (sym (same.held e) ∙ ap (λ z. holds_at z e) is ∙ number_self e)))

  pub at_heard : At h now (noted (learned (Domain p) d old new) past) On p
  at_heard = at_heard_by (told_kind (Domain p) d r old within)

-- The command ends, or goes on.

settled_behind : (h : Hierarchy) (now : ℕ → Command) (past : List Entry) (k : Grants) (p e n code : ℕ)
    → is_settled (k.records p).phase ≡ true → At h now past k p → At h now (Settled p e n code ∷ past) k p
settled_behind h now past k p e n code settled a = record {
  work = λ busy. absurd (both busy);
  rest = a.rest;
  handed = a.handed;
  ordered = λ o busy mine. absurd (both busy);
  same = a.same;
  modes = λ x f m q child is. mode_settled p x f p e n code past ∙ a.modes x f m q child is;
  included = a.included;
}
  where
    both : is_settled (k.records p).phase ≡ false → ⊥
    both busy = let i : true ≡ false = sym settled ∙ busy in cc

pub at_ended : (h : Hierarchy) (now : ℕ → Command) (past : List Entry) (on : Grants) (p : ℕ) (b : Bool)
    → ends h on p ≡ b → At h now past on p → At h now (noted (ended_entries b on p) past) (ended b on p) p
at_ended h now past on p true is a =
    let settled : is_settled ((ended true on p).records p).phase
    ≡ true = ap (λ (r : Standing). is_settled r.phase) (put_here on.records p (ended_record on p)) in
    let none : waits_for_children h on p ≡ false = not_true (waits_for_children h on p)
    (and_parts (not (is_settled (on.records p).phase)) _ is).1 in
    settled_behind h now past (ended true on p) p (on.records p).epoch (on.records p).last (on.gathered p) settled
    (settles_at h now past on (ended true on p) p refl refl settled (λ x child. settled_children h on p x none child) a)
  where
    not_true : (b : Bool) → not b ≡ true → b ≡ false
    not_true true i = absurd cc
    not_true false i = refl
at_ended h now past on p false is a = a

pub at_told : (h : Hierarchy) (now : ℕ → Command) (past : List Entry) (g : Grants) (p d : ℕ) (r : Standing)
    → known (g.links (Domain p) d) ≤ last_epoch → At h now past g p
    → At h now (noted (learned (Domain p) d (g.links (Domain p) d) (told_link (g.links (Domain p) d) (Domain p) r)
    ++ ended_entries (ends h (parent_heard g p d r) p) (parent_heard g p d r) p) past)
    (ended (ends h (parent_heard g p d r) p) (parent_heard g p d r) p) p
at_told h now past g p d r within a =
    let on = parent_heard g p d r in
    let learns_ = learned (Domain p) d (g.links (Domain p) d) (told_link (g.links (Domain p) d) (Domain p) r) in
    subst (λ z. At h now z (ended (ends h on p) on p) p)
    (sym (noted_both learns_ (ended_entries (ends h on p) on p) past))
    (at_ended h now (noted learns_ past) on p (ends h on p) refl (at_heard h now past g p d r within a))

-- Other domains of the station.

pub learned_aside : (h : Hierarchy) (q : ℕ) (s : Standing) (who : Holder) (d : ℕ) (l k : Link) → (who ≡ Domain q → ⊥)
    → AllAside h q s (learned who d l k)
learned_aside h q s who d (Out n) k o = tt
learned_aside h q s who d (Held e n p) k o = tt
learned_aside h q s who d (Dropping e) k o = tt
learned_aside h q s who d (Taking u) (Out n) o = tt
learned_aside h q s who d (Taking u) (Taking v) o = tt
learned_aside h q s who d (Taking u) (Held e n p) o = (o, tt)
learned_aside h q s who d (Taking u) (Dropping e) o = tt

ended_aside : (h : Hierarchy) (q : ℕ) (s : Standing) (b : Bool) (on : Grants) (p : ℕ) → (q ≡ p → ⊥)
    → AllAside h q s (ended_entries b on p)
ended_aside h q s true on p o = (λ i. o (sym i), tt)
ended_aside h q s false on p o = tt

pub told_aside : (h : Hierarchy) (q : ℕ) (s : Standing) (p d : ℕ) (l new : Link) (b : Bool) (on : Grants)
    → (q ≡ p → ⊥) → AllAside h q s (learned (Domain p) d l new ++ ended_entries b on p)
told_aside h q s p d l new b on o =
    aside_both h q s (learned (Domain p) d l new) (ended_entries b on p)
    (learned_aside h q s (Domain p) d l new (λ i. let same : p ≡ q = cc in o (sym same))) (ended_aside h q s b on p o)

pub told_same : (h : Hierarchy) (g : Grants) (p d : ℕ) (r : Standing) (b : Bool) (q : ℕ) → (q ≡ p → ⊥)
    → SameAt h g (ended b (parent_heard g p d r) p) q
told_same h g p d r b q o = ended_same b
  where
    link : (x : ℕ) → put_link g.links (Domain p) d (told_link (g.links (Domain p) d) (Domain p) r) (Domain q) x
        ≡ g.links (Domain q) x
    link x = at_put_link (λ z. z ≡ g.links (Domain q) x) g.links (Domain p) d
        (told_link (g.links (Domain p) d) (Domain p) r) (Domain q) x (λ i j. let same : q ≡ p = cc in absurd (o same))
        refl

    ended_same : (b : Bool) → SameAt h g (ended b (parent_heard g p d r) p) q
    ended_same true = record {
      record_ = at_put (λ z. z ≡ g.records q) g.records p (ended_record (parent_heard g p d r) p) q
          (λ i. absurd (o i)) refl;
      links = link;
      modes = λ x child. refl;
    }
    ended_same false = record { record_ = refl; links = link; modes = λ x child. refl }
