-- What a step changes is what the row that it saves says.
use Rattle.std.proofs.Common.{ℕ, ◌≡◌, Bool, true, false, [], ◌∷◌, inl, inr, Option, Some, None, Result, Ok, Err, refl}
use Rattle.std.proofs.Common.{sym, ap, ◌∙◌}
use Rattle.std.specs.Prelude.{◌==◌, ◌&&◌, map, if◌then◌else◌}
use Rattle.std.proofs.lemmas.Bool.{and_from, and_parts}
use Rattle.smi_grant.specs.declared.Command.{Command}
use Rattle.smi_grant.specs.declared.Command.TheVariants.{Do, Include, Exclude, Manual, Ignore}
use Rattle.smi_grant.specs.declared.Holder.{Holder}
use Rattle.smi_grant.specs.declared.Holder.TheVariants.{Free, Operator, Domain}
use Rattle.smi_grant.specs.declared.Verdict.{Verdict}
use Rattle.smi_grant.specs.declared.Verdict.TheVariants.{New, Same}
use Rattle.smi_grant.specs.Holder.{same_holder}
use Rattle.smi_grant.specs.Keeper.{admits, drop_after, take_after}
use Rattle.smi_grant.specs.Record.{Standing}
use Rattle.smi_message.specs.declared.Body.{Body}
use Rattle.smi_message.specs.declared.Body.TheVariants as body
use Rattle.smi_base.specs.Between.{is_between}
use Rattle.smi_tree.specs.Hierarchy.{Hierarchy}
use Rattle.smi_tree.specs.Lawful.{IsTree}
use Rattle.smi_tree.specs.Lookups.{domain_count, operator_station_of, operators_of, parent_of}
use Rattle.smi_command.specs.declared.Link.{Link}
use Rattle.smi_command.specs.Order.{command_issued, drop_begun, take_begun}
use Rattle.smi_grant.proofs.Holders.{same_self}
use Rattle.smi_tree.specs.Roles.{is_number, is_parent, has_domain, is_keeper}
use Rattle.smi_protocol.specs.Children.{own_code}
use Rattle.smi_protocol.specs.Grants.{Grants, put_link, with_link}
use Rattle.smi_protocol.specs.GrantsOf.{datagram_comes, grant_step}
use Rattle.smi_protocol.specs.GrantStep.{GrantStep, OfDomain, OfOperator, Touched, waits_for_children}
use Rattle.smi_protocol.specs.Happening.{Comes, Happening, Orders, Reports, Ticks}
use Rattle.smi_protocol.specs.Hearing.{ended, ends, hears, listener, listeners, parent_heard, parent_here, told_to}
use Rattle.smi_protocol.specs.Keeping.{answered, commanded, decided, ran}
use Rattle.smi_protocol.specs.Ordering.{obeyed, order_comes}
use Rattle.smi_protocol.specs.Refusals.{is_body_of, is_order_here, is_order_of}
use Rattle.smi_protocol.specs.Refusals.{refusal_by_link, refusal_of}
use Rattle.smi_protocol.specs.declared.entry.Entry.{Entry}
use Rattle.smi_protocol.specs.declared.order.Order.{Order}
use Rattle.smi_protocol.specs.declared.order.Order.TheVariants as order
use Rattle.smi_protocol.proofs.Lists.{In, from_mapped, in_both}
use Rattle.smi_protocol.proofs.Ranges.{between, kept_there}
use Rattle.smi_protocol.proofs.SoundSteps.{body_here, found, listening_parent}
use Rattle.smi_protocol.proofs.Tables.{at_put_link, choice, number_self, operator_ours}

clash : {X : Type 0} → true ≡ false → X
clash e = absurd cc

-- the grants are the same but for what the row of a domain says
pub record OfOneDomain (h : Hierarchy) (number d : ℕ) (g k : Grants) : Type 0 where
  pub kept : is_keeper h number d ≡ true
  pub boot : g.boot ≡ k.boot
  pub records : (x : ℕ) → (x == d) ≡ false → g.records x ≡ k.records x
  pub gathered : (x : ℕ) → (x == d) ≡ false → g.gathered x ≡ k.gathered x
  pub links : (who : Holder) (x : ℕ) → (is_parent h x d && same_holder who (Domain d)) ≡ false
      → g.links who x ≡ k.links who x
  pub modes : (x : ℕ) → is_parent h x d ≡ false → g.modes x ≡ k.modes x

-- the grants are the same but for what the row of an operator says
pub record OfOneOperator (h : Hierarchy) (number o : ℕ) (g k : Grants) : Type 0 where
  pub served : is_number (operator_station_of h o) number ≡ true
  pub boot : g.boot ≡ k.boot
  pub records : (x : ℕ) → g.records x ≡ k.records x
  pub gathered : (x : ℕ) → g.gathered x ≡ k.gathered x
  pub links : (who : Holder) (x : ℕ) → (is_between 1 (domain_count h) x && same_holder who (Operator o)) ≡ false
      → g.links who x ≡ k.links who x
  pub modes : (x : ℕ) → g.modes x ≡ k.modes x

-- the grants change in what is saved, and the station has that row
abbrev pub Changes : Hierarchy → ℕ → Grants → Grants → Option Touched → Type 0
Changes h number g k None = g ≡ k
Changes h number g k (Some (OfDomain d)) = OfOneDomain h number d g k
Changes h number g k (Some (OfOperator o)) = OfOneOperator h number o g k

abbrev pub ChangesIn : Hierarchy → ℕ → Grants → GrantStep → Type 0
ChangesIn h number g s = Changes h number g s.grants s.row

-- the one that a failing test leaves
other_one : {X : Type 0} (b : Bool) (one other : X) → b ≡ false → other ≡ (if b then one else other)
other_one true one other is = clash is
other_one false one other is = refl

-- a domain that listens is kept here
listening_kept : (h : Hierarchy) (number d p : ℕ) → In (Domain p) (listeners h number d) → is_keeper h number p ≡ true
listening_kept h number d p a =
    elim (in_both (Domain p) (map Operator (operators_of h number)) (parent_here h number (parent_of h d)) a) [
      | inl b ↦ let c = from_mapped Operator (Domain p) (operators_of h number) b in
          absurd (let wrong : Domain p ≡ Operator c.0 = c.2 in cc)
      | inr b ↦ above (parent_of h d) b
    ]
  where
    above : (o : Option ℕ) → In (Domain p) (parent_here h number o) → is_keeper h number p ≡ true
    above None b = absurd b
    above (Some q) b = by (is_keeper h number q) refl b
      where
        by : (k : Bool) → is_keeper h number q ≡ k → In (Domain p) (if k then Domain q ∷ [] else [])
            → is_keeper h number p ≡ true
        by true is (inl i) = let same : p ≡ q = cc in ap (is_keeper h number) same ∙ is
        by true is (inr i) = absurd i
        by false is i = absurd i

-- an operator that listens is the station's
listening_operator : (h : Hierarchy) (number d o : ℕ) → In (Operator o) (listeners h number d)
    → is_number (operator_station_of h o) number ≡ true
listening_operator h number d o a =
    elim (in_both (Operator o) (map Operator (operators_of h number)) (parent_here h number (parent_of h d)) a) [
      | inl b ↦
          let c = from_mapped Operator (Operator o) (operators_of h number) b in
          let same : o ≡ c.0 = (let both : Operator o ≡ Operator c.0 = c.2 in cc) in
          ap (λ z. is_number (operator_station_of h z) number) same
          ∙ ap (λ z. is_number z number) (operator_ours h number c.0 c.1) ∙ number_self number
      | inr b ↦ above (parent_of h d) b
    ]
  where
    above : (z : Option ℕ) → In (Operator o) (parent_here h number z)
        → is_number (operator_station_of h o) number ≡ true
    above None b = absurd b
    above (Some q) b = by (is_keeper h number q) b
      where
        by : (k : Bool) → In (Operator o) (if k then Domain q ∷ [] else [])
            → is_number (operator_station_of h o) number ≡ true
        by true (inl i) = absurd (let wrong : Operator o ≡ Domain q = i in cc)
        by true (inr i) = absurd i
        by false i = absurd i

module _ (h : Hierarchy) (number : ℕ) (g : Grants) where
  -- Domains.

  decided_changes : (from d : ℕ) (note : Entry) (v : Verdict) → is_keeper h number d ≡ true
      → ChangesIn h number g (decided h number g from d note v)
  decided_changes from d note (New r) kept = record {
    kept = kept;
    boot = refl;
    records = λ x is. other_one (x == d) r (g.records x) is;
    gathered = λ x is. refl;
    links = λ who x is. refl;
    modes = λ x is. refl;
  }
  decided_changes from d note Same kept = refl

  ran_changes : (from d e n : ℕ) (c : Command) (busy : Bool) (own : ℕ) → is_keeper h number d ≡ true
      → ChangesIn h number g (ran h number g from d e n c busy own)
  ran_changes from d e n c busy own kept = record {
    kept = kept;
    boot = refl;
    records = λ x is. other_one (x == d) _ (g.records x) is;
    gathered = λ x is. other_one (x == d) _ (g.gathered x) is;
    links = λ who x is. other_one (is_parent h x d && same_holder who (Domain d)) _ (g.links who x) is;
    modes = λ x is. other_one (is_parent h x d) _ (g.modes x) is;
  }

  ended_changes : (p d : ℕ) (r : Standing) (b : Bool) → is_keeper h number p ≡ true → is_parent h d p ≡ true
      → OfOneDomain h number p g (ended b (parent_heard g p d r) p)
  ended_changes p d r b kept parent = by b
    where
      apart : (who : Holder) (x : ℕ) → (is_parent h x p && same_holder who (Domain p)) ≡ false → x ≡ d
          → who ≡ Domain p → ⊥
      apart who x is there here =
          clash (sym (and_from _ _ (ap (λ z. is_parent h z p) there ∙ parent)
          (ap (λ z. same_holder z (Domain p)) here ∙ same_self (Domain p))) ∙ is)

      link : (l : Link) (who : Holder) (x : ℕ) → (is_parent h x p && same_holder who (Domain p)) ≡ false
          → g.links who x ≡ put_link g.links (Domain p) d l who x
      link l who x is = at_put_link (λ z. g.links who x ≡ z) g.links (Domain p) d l who x
          (λ i j. absurd (apart who x is i j)) refl

      by : (b : Bool) → OfOneDomain h number p g (ended b (parent_heard g p d r) p)
      by true = record {
        kept = kept;
        boot = refl;
        records = λ x is. other_one (x == p) _ (g.records x) is;
        gathered = λ x is. other_one (x == p) _ (g.gathered x) is ∙ other_one (x == p) _ _ is;
        links = λ who x is. link _ who x is;
        modes = λ x is. refl;
      }
      by false = record {
        kept = kept;
        boot = refl;
        records = λ x is. refl;
        gathered = λ x is. other_one (x == p) _ (g.gathered x) is;
        links = λ who x is. link _ who x is;
        modes = λ x is. refl;
      }

  -- Operators.

  relinked_changes : (o d : ℕ) (l : Link) → is_number (operator_station_of h o) number ≡ true
      → is_between 1 (domain_count h) d ≡ true → OfOneOperator h number o g (with_link g (Operator o) d l)
  relinked_changes o d l served within = record {
    served = served;
    boot = refl;
    records = λ x. refl;
    gathered = λ x. refl;
    links = λ who x is. at_put_link (λ z. g.links who x ≡ z) g.links (Operator o) d l who x
        (λ i j. absurd (apart who x is i j)) refl;
    modes = λ x. refl;
  }
    where
      apart : (who : Holder) (x : ℕ) → (is_between 1 (domain_count h) x && same_holder who (Operator o)) ≡ false
          → x ≡ d → who ≡ Operator o → ⊥
      apart who x is there here =
          clash (sym (and_from _ _ (ap (is_between 1 (domain_count h)) there ∙ within)
          (ap (λ z. same_holder z (Operator o)) here ∙ same_self (Operator o))) ∙ is)

  obeyed_changes : (o d : ℕ) (c : Option Command) (r : Result Link ℕ)
      → is_number (operator_station_of h o) number ≡ true → is_between 1 (domain_count h) d ≡ true
      → ChangesIn h number g (obeyed h number g o d c r)
  obeyed_changes o d c (Ok l) served within = relinked_changes o d l served within
  obeyed_changes o d c (Err code) served within = refl

  order_changes : (o : ℕ) (what : Order) → is_number (operator_station_of h o) number ≡ true
      → is_order_of h what ≡ true → ChangesIn h number g (order_comes h number g o what)
  order_changes o (order.Take d) served here = obeyed_changes o d None (take_begun (g.links (Operator o) d)) served here
  order_changes o (order.Drop d) served here = obeyed_changes o d None (drop_begun (g.links (Operator o) d)) served here
  order_changes o (order.Do d a) served here =
      obeyed_changes o d (Some (Do a)) (command_issued (g.links (Operator o) d) (Do a)) served
      (and_parts (has_domain h d) _ here).0
  order_changes o (order.Include d t) served here =
      obeyed_changes o d (Some (Include t)) (command_issued (g.links (Operator o) d) (Include t)) served
      (and_parts (has_domain h d) _ here).0
  order_changes o (order.Exclude d t) served here =
      obeyed_changes o d (Some (Exclude t)) (command_issued (g.links (Operator o) d) (Exclude t)) served
      (and_parts (has_domain h d) _ here).0
  order_changes o (order.Manual d t) served here =
      obeyed_changes o d (Some (Manual t)) (command_issued (g.links (Operator o) d) (Manual t)) served
      (and_parts (has_domain h d) _ here).0
  order_changes o (order.Ignore d t) served here =
      obeyed_changes o d (Some (Ignore t)) (command_issued (g.links (Operator o) d) (Ignore t)) served
      (and_parts (has_domain h d) _ here).0
  order_changes o (order.Ask d) served here = refl
  order_changes o (order.Watch x) served here = refl
  order_changes o (order.Unwatch x) served here = refl
  order_changes o (order.Report device s) served here = refl

  -- Datagrams.

  told_changes : (d : ℕ) (r : Standing) (o : Option Holder) → is_between 1 (domain_count h) d ≡ true
      → ((who : Holder) → o ≡ Some who → In who (listeners h number d))
      → ChangesIn h number g (told_to h number g d r o)
  told_changes d r None within heard = refl
  told_changes d r (Some Free) within heard = refl
  told_changes d r (Some (Operator o)) within heard =
      relinked_changes o d _ (listening_operator h number d o (heard (Operator o) refl)) within
  told_changes d r (Some (Domain p)) within heard =
      let a = heard (Domain p) refl in
      ended_changes p d r (ends h (parent_heard g p d r) p) (listening_kept h number d p a)
      (listening_parent h number d p a)

  body_changes : IsTree h → (from : ℕ) (b : Body) → is_body_of h from number b ≡ true
      → ChangesIn h number g (datagram_comes h number g from b)
  body_changes tree from (body.Ask d) here = refl
  body_changes tree from (body.Take d who seen) here =
      decided_changes from d _ (take_after (g.records d) who seen) (and_parts (is_keeper h number d) _ here).0
  body_changes tree from (body.Drop d who e) here =
      decided_changes from d _ (drop_after (g.records d) who e) (and_parts (is_keeper h number d) _ here).0
  body_changes tree from (body.Run d who e n c) here =
      choice (ChangesIn h number g) (admits (g.records d) who e n)
      (ran h number g from d e n c (waits_for_children h (commanded h g d c) d) (own_code h g d c))
      (answered h number g from d)
      (ran_changes from d e n c (waits_for_children h (commanded h g d c) d) (own_code h g d c)
      (and_parts (is_keeper h number d) _ here).0)
      refl
  body_changes tree from (body.Tell d r) here =
      let there = (kept_there h tree from d (and_parts (is_keeper h from d) _ here).0).0 in
      told_changes d r (listener h number g d r) (between 1 (domain_count h) d there.least there.most)
      (λ who is. (found (λ who. hears (g.links who d) who r) (listeners h number d) who is).0)
  body_changes tree from (body.Watch x echo) here = refl
  body_changes tree from (body.State x echo v s) here = refl
  body_changes tree from (body.Unwatch x echo) here = refl

  -- whatever comes and is not refused
  pub step_changes : IsTree h → (what : Happening) → refusal_of h number g what ≡ None
      → ChangesIn h number g (grant_step h number g what)
  step_changes tree (Comes m) none = body_changes tree m.from m.body (body_here h number m none)
  step_changes tree (Orders o what) none = by (is_order_here h number o what) refl none
    where
      by : (b : Bool) → is_order_here h number o what ≡ b
          → (if b then refusal_by_link h g o what else Some 26) ≡ None
          → ChangesIn h number g (order_comes h number g o what)
      by true is i = let a = and_parts (is_number (operator_station_of h o) number) _ is in order_changes o what a.0 a.1
      by false is i = absurd cc
  step_changes tree (Reports device s) none = refl
  step_changes tree Ticks none = refl
