-- What a station keeps stays sound, whatever comes.
use Rattle.std.proofs.Common.{ℕ, ◌≡◌, ◌≤◌, ◌+◌, Bool, true, false, List, [], ◌∷◌, inl, inr, refl, sym, ap, ◌∙◌, subst}
use Rattle.std.proofs.Common.{arith}
use Rattle.std.specs.Prelude.{◌==◌, ◌&&◌, nat_le, not, map, find, Option, Some, None, if◌then◌else◌}
use Rattle.std.proofs.lemmas.Bool.{and_parts, eqb-true, leb-true}
use Rattle.smi_grant.specs.declared.Command.{Command}
use Rattle.smi_grant.specs.declared.Holder.{Holder}
use Rattle.smi_grant.specs.declared.Holder.TheVariants.{Free, Operator, Domain}
use Rattle.smi_grant.specs.Command as command
use Rattle.smi_grant.specs.Holder as holder
use Rattle.smi_grant.specs.Holder.{is_free, same_holder}
use Rattle.smi_grant.specs.Keeper.{admits}
use Rattle.smi_grant.specs.Record.{Standing, is_outcome, is_record, is_settled, last_number}
use Rattle.smi_grant.proofs.Records.{is_record-facts}
use Rattle.smi_message.specs.declared.Body.{Body}
use Rattle.smi_message.specs.declared.Body.TheVariants as body
use Rattle.smi_message.specs.Message.{Message, is_body, is_domain, is_grant_epoch, is_party}
use Rattle.smi_base.specs.Between.{is_between}
use Rattle.smi_tree.specs.Hierarchy.{Hierarchy}
use Rattle.smi_tree.specs.Lawful.{IsBetween, IsTree}
use Rattle.smi_tree.specs.Lookups.{operators_of, parent_of, station_count}
use Rattle.smi_command.specs.Hearing.{told_heard}
use Rattle.smi_command.proofs.Heard.{choose, not_true}
use Rattle.smi_tree.specs.Roles.{is_command_of, is_holder_of, is_number, is_parent, is_keeper}
use Rattle.smi_protocol.specs.Grants.{Grants}
use Rattle.smi_protocol.specs.GrantsOf.{datagram_comes, grant_step}
use Rattle.smi_protocol.specs.GrantStep.{GrantStep, waits_for_children}
use Rattle.smi_protocol.specs.Happening.{Happening, Comes, Orders, Reports, Ticks}
use Rattle.smi_protocol.specs.Hearing.{hears, is_ahead, is_heard, listener, listeners, parent_here, told_to}
use Rattle.smi_protocol.specs.Keeping.{answered, commanded, ran, run_comes}
use Rattle.smi_protocol.specs.Children.{own_code}
use Rattle.smi_protocol.specs.Refusals.{is_body_of, refusal_of, refusal_of_message, speaks_for}
use Rattle.smi_protocol.specs.Sound.{IsSayable, IsSound}
use Rattle.smi_protocol.proofs.Lists.{In, in_both, from_mapped}
use Rattle.smi_protocol.proofs.Tables.{number_self}
use Rattle.smi_protocol.proofs.SoundOrders.{operator_sound, orders_sound}
use Rattle.smi_protocol.proofs.SoundRecords.{take_sound, drop_sound}
use Rattle.smi_protocol.proofs.SoundRuns.{run_sound}
use Rattle.smi_protocol.proofs.SoundTells.{parent_sound}

-- a party is somebody
party_held : (who : Holder) → is_party who ≡ true → (is_free who ≡ false) × (holder.is_in_range who ≡ true)
party_held Free p = absurd cc
party_held (Operator n) p = (refl, p)
party_held (Domain n) p = (refl, p)

-- what is found is in the list and passes
pub found : {X : Type 0} (test : X → Bool) (xs : List X) (x : X) → find test xs ≡ Some x → In x xs × (test x ≡ true)
found test [] x is = absurd cc
found test (y ∷ xs) x is = by (test y) refl is (λ i. found test xs x i)
  where
    by : (b : Bool) → test y ≡ b → (if b then Some y else find test xs) ≡ Some x
        → (find test xs ≡ Some x → In x xs × (test x ≡ true)) → In x (y ∷ xs) × (test x ≡ true)
    by true t i rest = let same : y ≡ x = cc in (inl (sym same), ap test (sym same) ∙ t)
    by false t i rest = let r = rest i in (inr r.0, r.1)

-- a domain that listens is the parent
pub listening_parent : (h : Hierarchy) (number d p : ℕ) → In (Domain p) (listeners h number d) → is_parent h d p ≡ true
listening_parent h number d p a =
    elim (in_both (Domain p) (map Operator (operators_of h number)) (parent_here h number (parent_of h d)) a) [
      | inl b ↦ let c = from_mapped Operator (Domain p) (operators_of h number) b in
          absurd (let wrong : Domain p ≡ Operator c.0 = c.2 in cc)
      | inr b ↦ above (parent_of h d) refl b
    ]
  where
    above : (o : Option ℕ) → parent_of h d ≡ o → In (Domain p) (parent_here h number o) → is_parent h d p ≡ true
    above None is b = absurd b
    above (Some q) is b = kept (is_keeper h number q) b
      where
        kept : (k : Bool) → In (Domain p) (if k then Domain q ∷ [] else []) → is_parent h d p ≡ true
        kept true (inl i) = let same : p ≡ q = cc in
            ap (λ o. is_number o p) is ∙ ap (λ z. z == p) (sym same) ∙ number_self p
        kept true (inr i) = absurd i
        kept false i = absurd i

module _ (h : Hierarchy) (number : ℕ) (g : Grants) (sound : IsSound h g) where
  pub run_comes_sound : (from d : ℕ) (who : Holder) (e n : ℕ) (c : Command) → is_free who ≡ false → n ≤ last_number
      → command.is_in_range c ≡ true → is_command_of h c ≡ true
      → IsSound h (run_comes h number g from d who e n c).grants
  run_comes_sound from d who e n c party few range known =
      choose (λ (s : GrantStep). IsSound h s.grants) (admits (g.records d) who e n)
      (ran h number g from d e n c (waits_for_children h (commanded h g d c) d) (own_code h g d c))
      (answered h number g from d)
      (λ t.
      let a = and_parts (same_holder (g.records d).holder who) _ t in
      let b = and_parts ((g.records d).epoch == e) _ a.1 in
      let s = and_parts (is_settled (g.records d).phase) _ b.1 in
      let next : n ≡ (g.records d).last + 1 = eqb-true n _ s.1 in
      run_sound h g d c sound s.0 (record { range = range; known = known }) who party a.0 (omega (arith, next, few))
      (waits_for_children h (commanded h g d c) d) refl)
      (λ f. sound)

  told_to_sound : (d : ℕ) (r : Standing) → is_record r ≡ true → is_outcome r.outcome ≡ true → (o : Option Holder)
      → ((who : Holder) → o ≡ Some who → In who (listeners h number d) × (hears (g.links who d) who r ≡ true))
      → IsSound h (told_to h number g d r o).grants
  told_to_sound d r lawful outcome None heard = sound
  told_to_sound d r lawful outcome (Some Free) heard = sound
  told_to_sound d r lawful outcome (Some (Operator o)) heard = operator_sound h g sound o d r (is_record-facts r lawful)
  told_to_sound d r lawful outcome (Some (Domain p)) heard =
      let a = heard (Domain p) refl in
      let b = and_parts (is_heard (told_heard (g.links (Domain p) d) (Domain p) r))
      (not (is_ahead (g.links (Domain p) d) r)) a.1 in
      parent_sound h g sound p d r (is_record-facts r lawful) outcome (listening_parent h number d p a.0) b.0
      (not_true _ b.1)

  body_sound : (from : ℕ) (b : Body) → is_body b ≡ true → is_body_of h from number b ≡ true
      → IsSound h (datagram_comes h number g from b).grants
  body_sound from (body.Ask d) fits here = sound
  body_sound from (body.Take d who seen) fits here =
      let a = and_parts (is_domain d) _ fits in
      let b = and_parts (is_party who) _ a.1 in
      let p = party_held who b.0 in
      let k = and_parts (is_keeper h number d) _ here in
      let s = and_parts (is_holder_of h d who) _ k.1 in
      take_sound h g d sound number from _ who seen p.0 p.1 s.0
  body_sound from (body.Drop d who e) fits here =
      let a = and_parts (is_domain d) _ fits in
      let b = and_parts (is_party who) _ a.1 in
      drop_sound h g d sound number from _ who e (party_held who b.0).0
  body_sound from (body.Run d who e n c) fits here =
      let a = and_parts (is_domain d) _ fits in
      let b = and_parts (is_party who) _ a.1 in
      let f = and_parts (is_grant_epoch e) _ b.1 in
      let m = and_parts (is_between 1 last_number n) _ f.1 in
      let i = and_parts (nat_le 1 n) (nat_le n last_number) m.0 in
      let k = and_parts (is_keeper h number d) _ here in
      let s = and_parts (speaks_for h from d who) _ k.1 in
      run_comes_sound from d who e n c (party_held who b.0).0 (leb-true n last_number i.1) m.1 s.1
  body_sound from (body.Tell d r) fits here =
      let a = and_parts (is_domain d) _ fits in
      let b = and_parts (holder.is_in_range r.holder) _ a.1 in
      let f = and_parts (is_outcome r.outcome) _ b.1 in
      told_to_sound d r f.1 f.0 (listener h number g d r)
      (λ who is. found (λ who. hears (g.links who d) who r) (listeners h number d) who is)
  body_sound from (body.Watch x echo) fits here = sound
  body_sound from (body.State x echo v s) fits here = sound
  body_sound from (body.Unwatch x echo) fits here = sound

-- what a datagram that is not refused names is here, and it is from a station of the tree
datagram_here : (h : Hierarchy) (number : ℕ) (m : Message) → refusal_of_message h number m ≡ None
    → (is_between 1 (station_count h) m.from ≡ true) × (is_body_of h m.from number m.body ≡ true)
datagram_here h number m none = by (m.tree == h.number) (m.to == number) refl none
  where
    last : Bool → Option ℕ
    last b = if b then None else Some 9

    passed : (b : Bool) → last b ≡ None → b ≡ true
    passed true i = refl
    passed false i = absurd cc

    by : (t s : Bool) → (m.to == number) ≡ s
        → (if not t then Some 7 else (if not s then Some 8
        else last (is_between 1 (station_count h) m.from && is_body_of h m.from m.to m.body))) ≡ None
        → (is_between 1 (station_count h) m.from ≡ true) × (is_body_of h m.from number m.body ≡ true)
    by false s is n = absurd cc
    by true false is n = absurd cc
    by true true is n =
        let a = and_parts (is_between 1 (station_count h) m.from) _
        (passed (is_between 1 (station_count h) m.from && is_body_of h m.from m.to m.body) n) in
        (a.0, subst (λ z. is_body_of h m.from z m.body ≡ true) (eqb-true m.to number is) a.1)

pub body_here : (h : Hierarchy) (number : ℕ) (m : Message) → refusal_of_message h number m ≡ None
    → is_body_of h m.from number m.body ≡ true
body_here h number m none = (datagram_here h number m none).1

pub sender_here : (h : Hierarchy) (number : ℕ) (m : Message) → refusal_of_message h number m ≡ None
    → IsBetween 1 (station_count h) m.from
sender_here h number m none =
    let p = and_parts (nat_le 1 m.from) (nat_le m.from (station_count h)) (datagram_here h number m none).0 in
    record { least = leb-true 1 m.from p.0; most = leb-true m.from (station_count h) p.1 }

-- whatever comes and is not refused
pub stays_sound : (h : Hierarchy) (number : ℕ) (g : Grants) (what : Happening) → IsTree h → IsSound h g
    → IsSayable what → refusal_of h number g what ≡ None → IsSound h (grant_step h number g what).grants
stays_sound h number g (Comes m) tree sound fits none =
    body_sound h number g sound m.from m.body fits (body_here h number m none)
stays_sound h number g (Orders o what) tree sound fits none = orders_sound h tree number g sound o what none
stays_sound h number g (Reports device s) tree sound fits none = sound
stays_sound h number g Ticks tree sound fits none = sound
