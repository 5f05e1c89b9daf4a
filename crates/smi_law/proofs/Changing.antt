-- A take and a drop end.
use Rattle.std.proofs.Common.{ℕ, ◌≡◌, ◌<◌, ◌≤◌, ◌+◌, Bool, true, false, [], ◌∷◌, ◌⊎◌, inl, inr, refl, sym, ap}
use Rattle.std.proofs.Common.{◌∙◌, subst, arith}
use Rattle.std.specs.Prelude.{◌==◌, ◌&&◌, if◌then◌else◌, length, nat_lt}
use Rattle.std.proofs.lemmas.Bool.{and_from, and_parts, eq-eqb}
use Rattle.std.proofs.lemmas.Bool.Decides.{nat_tests}
use Rattle.std.proofs.lemmas.List.{length-drop}
use Rattle.smi_grant.specs.declared.Holder.{Holder}
use Rattle.smi_grant.specs.declared.Holder.TheVariants.{Free, Operator, Domain}
use Rattle.smi_grant.specs.declared.Verdict.TheVariants.{New, Same}
use Rattle.smi_grant.specs.Holder.{is_free, same_holder}
use Rattle.smi_grant.specs.Keeper.{handed}
use Rattle.smi_grant.specs.Record.{Standing, is_settled, last_epoch}
use Rattle.smi_tree.specs.Hierarchy.{Hierarchy}
use Rattle.smi_tree.specs.Lawful.{IsTree}
use Rattle.smi_command.specs.declared.Due.TheVariants.{Take, Drop}
use Rattle.smi_command.specs.declared.Link.{Link}
use Rattle.smi_command.specs.declared.Link.TheVariants.{Out, Taking, Held, Dropping}
use Rattle.smi_command.specs.Hearing.{settled_count, told_link}
use Rattle.smi_command.specs.Link.{due_of, is_unsettled}
use Rattle.smi_command.specs.OneLink.{asked_record, kept_after}
use Rattle.smi_command.proofs.Facts.{LinkOk}
use Rattle.smi_command.proofs.Heard.{by_row_dropping, by_row_held, by_row_taking, choose}
use Rattle.smi_grant.proofs.Holders.{either, same_self}
use Rattle.smi_tree.specs.Lookups.{parent_of}
use Rattle.smi_tree.specs.Roles.{has_domain, is_holder_of, is_parent}
use Rattle.smi_protocol.proofs.Tables.{number_is}
use Rattle.smi_protocol.specs.Schedule.{World}
use Rattle.smi_law.specs.Known.{holder_home, link_in, record_in}
use Rattle.smi_law.proofs.Parents.{parents_are_lower}
use Rattle.smi_law.specs.Bound.{changing, passing}
use Rattle.smi_law.specs.Waiting.{waiting}
use Rattle.smi_law.proofs.Drops.{DropsOwn, drops_own}
use Rattle.smi_law.proofs.Hears.{Told, told_keeps}
use Rattle.smi_law.proofs.Passes.{Eases, Passed, eases_on, facts, pass_way, passed_left, quiet_eases}
use Rattle.smi_law.proofs.Placed.{has_place, unsettled_place}
use Rattle.smi_law.proofs.Unheard.{Left}
use Rattle.smi_law.proofs.Ways.{Fine, Way, go_on, less_fine, no_longer, stay}

-- one link waits for less, and nothing else for more
pub record Settles (starts : Bool) (h : Hierarchy) (n d : ℕ) (who : Holder) (w v : World) : Type 0 where
  pub fine : Fine starts h n v
  pub eases : Eases h d w v
  pub less : waiting (link_in h v who d) < waiting (link_in h w who d)

-- what is settled waits for nothing
pub none_waits : (l : Link) → is_unsettled l ≡ false → waiting l ≡ 0
none_waits (Out k) f = refl
none_waits (Taking s) f = absurd cc
none_waits (Held e n []) f = refl
none_waits (Held e n (c ∷ p)) f = absurd cc
none_waits (Dropping e) f = absurd cc

-- and what is not waits for something
pub some_waits : (l : Link) → is_unsettled l ≡ true → 1 ≤ waiting l
some_waits (Out k) f = absurd cc
some_waits (Taking s) f = omega arith
some_waits (Held e n []) f = absurd cc
some_waits (Held e n (c ∷ p)) f = omega arith
some_waits (Dropping e) f = omega arith

-- somebody has a place
pub has_party : (h : Hierarchy) (number d : ℕ) (who : Holder) → has_place h number d who ≡ true → is_free who ≡ false
has_party h number d Free here =
    absurd (let wrong : false ≡ true = (and_parts (is_holder_of h d Free) _ (and_parts
    (has_domain h d) _ here).1).1 in cc)
has_party h number d (Operator o) here = refl
has_party h number d (Domain p) here = refl

-- and it is not the domain itself
pub not_own : (h : Hierarchy) → IsTree h → (number d : ℕ) (who : Holder) → has_place h number d who ≡ true
    → who ≡ Domain d → ⊥
not_own h tree number d who here same =
    let a = and_parts (has_domain h d) _ here in
    let b = and_parts (is_holder_of h d who) _ a.1 in
    let child : is_parent h d d ≡ true = subst (λ z. is_holder_of h d z ≡ true) same b.0 in
    let less = parents_are_lower h tree d d (number_is (parent_of h d) d child) in
    omega (arith, less)

-- A take.

-- a link that was taken has nothing pending
abbrev Begins : Link → Type 0
Begins (Out k) = Unit {0}
Begins (Taking s) = Unit {0}
Begins (Held e n p) = length p ≡ 0
Begins (Dropping e) = ⊥

told_begins : (me : Holder) (r : Standing) (l : Link) → Begins l → Begins (told_link l me r)
told_begins me r (Out k) b = tt
told_begins me r (Taking s) b = by_row_taking (λ l k. Begins k) me r s (λ e mine. refl) (λ free e. tt)
    (λ free less. tt) (λ held other less. tt) tt
told_begins me r (Held e n p) b = by_row_held (λ l k. Begins k) me r e n p
    (λ at. let less = length-drop (settled_count n p r) p in omega (arith, less, b)) b
told_begins me r (Dropping e) b = absurd b

still_taking : (l : Link) → Begins l → is_unsettled l ≡ true → (s : ℕ) × (l ≡ Taking s)
still_taking (Out k) b waits = absurd cc
still_taking (Taking s) b waits = (s, refl)
still_taking (Held e n []) b waits = absurd cc
still_taking (Held e n (c ∷ p)) b waits = absurd (omega (arith, b))
still_taking (Dropping e) b waits = absurd b

-- a free domain is granted at its epoch
granted : (r : Standing) (who : Holder) (s : ℕ) → s ≡ r.epoch → is_free r.holder ≡ true → s < last_epoch
    → (busy : Bool) (x : ℕ) → (asked_record r who (Take s) busy x).holder ≡ who
granted r who s at free less busy x =
    ap (λ b. (kept_after r (if b then New (handed r who) else Same)).holder)
    (and_from _ _ free (and_from _ _ (eq-eqb r.epoch s (sym at)) (below s less)))
  where
    below : (a : ℕ) → a < last_epoch → nat_lt a last_epoch ≡ true
    below a l = grind (arith, nat_tests)

-- A drop.

abbrev Leaves : ℕ → Link → Type 0
Leaves e (Out k) = Unit {0}
Leaves e (Taking s) = ⊥
Leaves e (Held f n p) = ⊥
Leaves e (Dropping f) = f ≡ e

told_leaves : (e : ℕ) (me : Holder) (r : Standing) (l : Link) → Leaves e l → Leaves e (told_link l me r)
told_leaves e me r (Out k) b = tt
told_leaves e me r (Taking s) b = absurd b
told_leaves e me r (Held f n p) b = absurd b
told_leaves e me r (Dropping f) b = by_row_dropping (λ l k. Leaves e k) me r f (λ less. tt) b

still_dropping : (e : ℕ) (l : Link) → Leaves e l → is_unsettled l ≡ true → l ≡ Dropping e
still_dropping e (Out k) b waits = absurd cc
still_dropping e (Taking s) b waits = absurd b
still_dropping e (Held f n p) b waits = absurd b
still_dropping e (Dropping f) b waits = ap Dropping b

-- a grant that its holder gives up is over
freed : (r : Standing) (who : Holder) (e : ℕ) → LinkOk r who (Dropping e) → DropsOwn r who (Dropping e) → (busy : Bool)
    (x : ℕ) → e < (asked_record r who (Drop e) busy x).epoch
freed r who e ok own busy x =
    choose (λ v. e < (kept_after r v).epoch) (same_holder r.holder who && (r.epoch == e && is_settled r.phase))
    (New (handed r Free)) Same
    (λ t. let le = ok.0 in omega (arith, le))
    (λ f. later (apart_or r.epoch ok.0) f)
  where
    apart_or : (a : ℕ) → e ≤ a → (a ≡ e) ⊎ (e < a)
    apart_or a l = grind (arith, l)

    later : (r.epoch ≡ e) ⊎ (e < r.epoch) → (same_holder r.holder who && (r.epoch == e && is_settled r.phase)) ≡ false
        → e < r.epoch
    later (inr less) f = less
    later (inl at) f =
        let mine = own e refl at in
        absurd (let wrong : true ≡ false = sym (and_from _ _ (ap (λ z. same_holder z who) mine ∙ same_self who)
        (and_from _ _ (eq-eqb r.epoch e at) (ap is_settled (ok.1 mine).1))) ∙ f in cc)

module _ (starts : Bool) (h : Hierarchy) (tree : IsTree h) (d : ℕ) (who : Holder) where
  abbrev number : ℕ
  number = holder_home h who

  -- if it is settled
  settles : (n : ℕ) (w v : World) → Fine starts h n v → Eases h d w v → is_unsettled (link_in h w who d) ≡ true
      → is_unsettled (link_in h v who d) ≡ false → Settles starts h n d who w v
  settles n w v on eases waits settled =
      let none = none_waits (link_in h v who d) settled in
      let some = some_waits (link_in h w who d) waits in
      record { fine = on; eases = eases; less = omega (arith, none, some) }

  pub drop_way : (n : ℕ) (w : World) (e : ℕ) → link_in h w who d ≡ Dropping e → Fine starts h (n + changing) w
      → Way starts h w (passing h) (Settles starts h n d who w)
  drop_way n w e is fine =
      no_longer starts h w (passing h) (passing h) (λ v. Fine starts h n v × Passed h w number d who (Drop e) v)
      (Settles starts h n d who w) (omega arith) (λ v there. ends v there.0 there.1)
      (pass_way starts h tree n w fine number d who (Drop e) place (ap (λ l. due_of l 0) is))
    where
      place : has_place h number d who ≡ true
      place = unsettled_place h tree fine.past w fine.run number who d (ap is_unsettled is)

      party : is_free who ≡ false
      party = has_party h number d who place

      ends : (v : World) → Fine starts h n v → Passed h w number d who (Drop e) v → Settles starts h n d who w v
      ends v on p =
          settles n w v on (quiet_eases h tree w number d who (Drop e) fine.past on.past v fine.run on.run p tt)
          (ap is_unsettled is)
          (elim (either (is_unsettled (link_in h v who d))) [
            | inl waits ↦
                let told : Told who (record_in h v d) (Dropping e) (link_in h v who d) =
                subst (λ z. Told who (record_in h v d) z (link_in h v who d)) is (p.told who
                (not_own h tree number d who place)) in
                let leaves = told_keeps (Leaves e) who (record_in h v d) (told_leaves e who (record_in h v d))
                (Dropping e)
                (link_in h v who d) told refl in
                let left : Left (record_in h v d) (Dropping e) = subst (Left (record_in h v d))
                (still_dropping e (link_in h v who d) leaves waits)
                (passed_left h w number d who (Drop e) v p (facts h on.past v on.run d who party) waits) in
                let ok : LinkOk (record_in h w d) who (Dropping e) = subst (LinkOk (record_in h w d) who) is
                (facts h fine.past w fine.run d who party).link in
                let own : DropsOwn (record_in h w d) who (Dropping e) = subst (DropsOwn (record_in h w d) who) is
                (drops_own h fine.past w fine.run who d party) in
                let over = freed (record_in h w d) who e ok own p.busy p.outcome in
                let now : (record_in h v d).epoch ≡ (asked_record (record_in h w d) who
                (Drop e) p.busy p.outcome).epoch =
                ap (λ (z : Standing). z.epoch) p.kept in
                absurd (omega (arith, left, over, now))
            | inr settled ↦ settled
          ])

  -- a take after its first pass is at its end, or asks at the present epoch
  record Asks (n : ℕ) (w v : World) : Type 0 where
    fine : Fine starts h n v
    eases : Eases h d w v
    begins : Begins (link_in h v who d)
    left : is_unsettled (link_in h v who d) ≡ true → Left (record_in h v d) (link_in h v who d)

  asks_way : (n : ℕ) (w : World) (s : ℕ) → link_in h w who d ≡ Taking s → (fine : Fine starts h (n + changing) w)
      → Way starts h w (passing h) (λ v. Asks n w v × Passed h w number d who (Take s) v)
  asks_way n w s is fine =
      no_longer starts h w (passing h) (passing h) (λ v. Fine starts h n v × Passed h w number d who (Take s) v)
      (λ v. Asks n w v × Passed h w number d who (Take s) v) (omega arith)
      (λ v there. (asks v there.0 there.1, there.1))
      (pass_way starts h tree n w fine number d who (Take s) place (ap (λ l. due_of l 0) is))
    where
      place : has_place h number d who ≡ true
      place = unsettled_place h tree fine.past w fine.run number who d (ap is_unsettled is)

      asks : (v : World) → Fine starts h n v → Passed h w number d who (Take s) v → Asks n w v
      asks v on p =
          let told : Told who (record_in h v d) (Taking s) (link_in h v who d) =
          subst (λ z. Told who (record_in h v d) z (link_in h v who d)) is (p.told who
          (not_own h tree number d who place)) in
          record {
            fine = on;
            eases = quiet_eases h tree w number d who (Take s) fine.past on.past v fine.run on.run p tt;
            begins = told_keeps Begins who (record_in h v d) (told_begins who (record_in h v d)) (Taking s)
                (link_in h v who d) told tt;
            left = λ waits. passed_left h w number d who (Take s) v p
                (facts h on.past v on.run d who (has_party h number d who place)) waits;
          }

  -- a domain that is granted is not free
  not_free : (r : Standing) → is_free who ≡ false → r.holder ≡ who → is_free r.holder ≡ true → ⊥
  not_free r party mine free = let wrong : true ≡ false = sym free ∙ ap is_free mine ∙ party in cc

  pub take_way : (n : ℕ) (w : World) (s : ℕ) → link_in h w who d ≡ Taking s
      → Fine starts h (n + changing + changing) w
      → Way starts h w (passing h + passing h) (Settles starts h n d who w)
  take_way n w s is fine =
      go_on starts h w (passing h) (passing h) (λ v. Asks (n + changing) w v × Passed h w number d who (Take s) v)
      (Settles starts h n d who w) (asks_way (n + changing) w s is fine) (λ v there. again v there.0)
    where
      party : is_free who ≡ false
      party = has_party h number d who
          (unsettled_place h tree fine.past w fine.run number who d (ap is_unsettled is))

      second : (v : World) (a : Asks (n + changing) w v) (u : ℕ) → link_in h v who d ≡ Taking u
          → Way starts h v (passing h) (Settles starts h n d who w)
      second v a u at =
          no_longer starts h v (passing h) (passing h) (λ z. Asks n v z × Passed h v number d who (Take u) z)
          (Settles starts h n d who w) (omega arith) (λ z there. ends z there.0 there.1) (asks_way n v u at a.fine)
        where
          left : Left (record_in h v d) (Taking u)
          left = subst (Left (record_in h v d)) at (a.left (ap is_unsettled at))

          ends : (z : World) → Asks n v z → Passed h v number d who (Take u) z → Settles starts h n d who w z
          ends z b p =
              settles n w z b.fine (eases_on h d w v z a.eases b.eases) (ap is_unsettled is)
              (elim (either (is_unsettled (link_in h z who d))) [
                | inl waits ↦
                    let t = still_taking (link_in h z who d) b.begins waits in
                    let open_ : Left (record_in h z d) (Taking t.0) = subst (Left (record_in h z d)) t.1
                    (b.left waits) in
                    let mine = ap (λ (r : Standing). r.holder) p.kept
                    ∙ granted (record_in h v d) who u left.0 left.1 left.2 p.busy p.outcome in
                    absurd (not_free (record_in h z d) party mine open_.1)
                | inr settled ↦ settled
              ])

      again : (v : World) → Asks (n + changing) w v → Way starts h v (passing h) (Settles starts h n d who w)
      again v a = elim (either (is_unsettled (link_in h v who d))) [
        | inl waits ↦ let t = still_taking (link_in h v who d) a.begins waits in second v a t.0 t.1
        | inr settled ↦ stay starts h v (passing h) (Settles starts h n d who w)
            (settles n w v (less_fine starts h n (n + changing) v (omega arith) a.fine) a.eases
            (ap is_unsettled is) settled)
      ]
