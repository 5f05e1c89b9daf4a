-- A request reaches its keeper, and the answer to the holder.
use Rattle.std.proofs.Common.{ℕ, ◌≡◌, ◌<◌, ◌≤◌, ◌+◌, Bool, true, false, List, [], ◌∷◌, inl, inr, refl, sym, ap}
use Rattle.std.proofs.Common.{◌∙◌, subst, arith}
use Rattle.std.specs.Prelude.{◌==◌, ◌&&◌, filter, length, map, nat_lt, not, Option, Some, None, if◌then◌else◌}
use Rattle.std.proofs.lemmas.Bool.{and_parts}
use Rattle.std.proofs.lemmas.Bool.Decides.{nat_tests}
use Rattle.smi_grant.specs.declared.Holder.{Holder}
use Rattle.smi_grant.specs.declared.Holder.TheVariants.{Free, Operator, Domain}
use Rattle.smi_grant.specs.Holder.{is_free}
use Rattle.smi_grant.specs.Record.{Standing, IsRecord}
use Rattle.smi_tree.specs.Hierarchy.{Hierarchy}
use Rattle.smi_tree.specs.Lawful.{IsTree}
use Rattle.smi_tree.specs.Lookups.{operator_station_of, operators_of, parent_of}
use Rattle.smi_command.specs.declared.Due.{Due}
use Rattle.smi_command.specs.declared.Link.{Link}
use Rattle.smi_command.specs.declared.Link.TheVariants.{Out, Taking, Held, Dropping}
use Rattle.smi_command.specs.Hearing.{told_heard}
use Rattle.smi_command.specs.Link.{due_of, is_unsettled}
use Rattle.smi_command.specs.OneLink.{asked_record}
use Rattle.smi_command.proofs.Facts.{LinkOk}
use Rattle.smi_grant.proofs.Holders.{either, told_apart}
use Rattle.smi_tree.specs.Roles.{has_domain, is_holder_of, is_keeper}
use Rattle.smi_protocol.proofs.Lists.{In, in_first, in_mapped, in_second}
use Rattle.smi_protocol.proofs.Tables.{apart, number_is}
use Rattle.smi_protocol.specs.Hearing.{hears, is_ahead, is_heard, listeners, parent_here}
use Rattle.smi_protocol.specs.Messages.{requests}
use Rattle.smi_protocol.specs.Schedule.{World}
use Rattle.smi_protocol.specs.declared.Entry.{Entry}
use Rattle.smi_law.specs.Known.{holder_home, link_in, record_in}
use Rattle.smi_law.specs.World.{Reaches}
use Rattle.smi_law.proofs.Parents.{parents_are_lower}
use Rattle.smi_law.proofs.Viewed.{view_fits, viewed}
use Rattle.smi_law.specs.Bound.{changing, most_hearing, passing, round}
use Rattle.smi_law.specs.Waiting.{waiting}
use Rattle.smi_law.proofs.Asked.{Asked, RunsNothing, asked}
use Rattle.smi_law.proofs.Asking.{ask_way, is_placed}
use Rattle.smi_law.proofs.Deliveries.{Delivered}
use Rattle.smi_law.proofs.Hears.{Heard, SameGrant, Told, grant_on, hear_way, same_grant, told_keeps}
use Rattle.smi_law.proofs.RestLists.{both_lengths, kept_most, mapped_most, numbers_counted}
use Rattle.smi_law.proofs.Owing.{among_operators}
use Rattle.smi_law.proofs.Placed.{has_place, placed}
use Rattle.smi_law.proofs.Unheard.{Left, told_less, unheard_left}
use Rattle.smi_law.proofs.Ways.{Fine, Way, go_on, less_fine, no_longer}

-- Who listens.

-- a holder that has a place listens there
pub listens : (h : Hierarchy) (number d : ℕ) (who : Holder) → has_place h number d who ≡ true
    → In who (listeners h number d)
listens h number d Free here =
    absurd (let wrong : false ≡ true = (and_parts (is_holder_of h d Free) _ (and_parts
    (has_domain h d) _ here).1).1 in cc)
listens h number d (Operator o) here =
    let a = and_parts (has_domain h d) _ here in
    let b = and_parts (is_holder_of h d (Operator o)) _ a.1 in
    in_first (Operator o) (map Operator (operators_of h number)) (parent_here h number (parent_of h d))
    (in_mapped Operator o (operators_of h number)
    (among_operators h number o (number_is (operator_station_of h o) number b.1)))
listens h number d (Domain p) here =
    let a = and_parts (has_domain h d) _ here in
    let b = and_parts (is_holder_of h d (Domain p)) _ a.1 in
    in_second (Domain p) (map Operator (operators_of h number)) (parent_here h number (parent_of h d))
    (subst (λ o. In (Domain p) (parent_here h number o)) (sym (number_is (parent_of h d) p b.0)) (kept b.1))
  where
    kept : is_keeper h number p ≡ true → In (Domain p) (parent_here h number (Some p))
    kept k = rw k (inl refl)

listeners_most : (h : Hierarchy) → IsTree h → (number d : ℕ) → length (listeners h number d) ≤ most_hearing
listeners_most h tree number d =
    let a = both_lengths (map Operator (operators_of h number)) (parent_here h number (parent_of h d)) in
    let b = mapped_most Operator (operators_of h number) in
    let c = numbers_counted (λ home. home == number) h.homes 1 in
    let e = above (parent_of h d) in
    let f = tree.lawful.operators.of_station number in
    omega (arith, a, b, c, e, f)
  where
    kept : (p : ℕ) (b : Bool) → length (if b then Domain p ∷ [] else []) ≤ 1
    kept p true = omega arith
    kept p false = omega arith

    above : (o : Option ℕ) → length (parent_here h number o) ≤ 1
    above None = omega arith
    above (Some p) = kept p (is_keeper h number p)

-- What a pass leaves.

-- a request has come, and its answer is no news any more
pub record Passed (h : Hierarchy) (w : World) (number d : ℕ) (who : Holder) (due : Due) (v : World) : Type 0 where
  pub busy : Bool
  pub outcome : ℕ
  pub kept : record_in h v d ≡ asked_record (record_in h w d) who due busy outcome
  pub records : (y : ℕ) → (y ≡ d → ⊥) → SameGrant (record_in h w y) (record_in h v y)
  pub others : (me : Holder) (x : ℕ) → (x ≡ d → ⊥) → (me ≡ Domain d → ⊥) → link_in h v me x ≡ link_in h w me x
  pub still : RunsNothing (record_in h w d) who due → (x : ℕ) → (x ≡ d → ⊥)
      → link_in h v (Domain d) x ≡ link_in h w (Domain d) x
  pub told : (me : Holder) → (me ≡ Domain d → ⊥) → Told me (record_in h v d) (link_in h w me d) (link_in h v me d)
  pub quiet : hears (link_in h v who d) who (record_in h v d) ≡ false

passed : (h : Hierarchy) (w u v : World) (number d : ℕ) (who : Holder) (due : Due) → In who (listeners h number d)
    → Asked h w number d who due u → Heard h u number d (record_in h u d) v → Passed h w number d who due v
passed h w u v number d who due at a b = record {
  busy = a.busy;
  outcome = a.outcome;
  kept = b.record_ ∙ a.kept;
  records = λ y other. subst (λ z. SameGrant z (record_in h v y)) (a.records y other) (b.records y);
  others = λ me x other mine. b.others me x other ∙ a.links me x mine;
  still = λ nothing x other. b.others (Domain d) x other ∙ a.still nothing x;
  told = λ me mine. subst (λ z. Told me z (link_in h w me d) (link_in h v me d)) (sym b.record_)
      (subst (λ z. Told me (record_in h u d) z (link_in h v me d)) (a.links me d mine) (b.told me));
  quiet = subst (λ z. hears (link_in h v who d) who z ≡ false) (sym b.record_) (b.quiet who at);
}

module _ (starts : Bool) (h : Hierarchy) (tree : IsTree h) (n : ℕ) (w : World) (fine : Fine starts h
    (n + changing) w)
    (number d : ℕ) (who : Holder) (due : Due) (place : has_place h number d who ≡ true)
    (is : due_of (link_in h w who d) 0 ≡ Some due) where
  pub pass_way : Way starts h w (passing h) (λ v. Fine starts h n v × Passed h w number d who due v)
  pass_way =
      let p = is_placed h tree number d who place in
      let due_here : due_of ((w.stations number).grants.links who d) 0 ≡ Some due =
      subst (λ z. due_of ((w.stations z).grants.links who d) 0 ≡ Some due) p.at is in
      let k = most_hearing in
      go_on starts h w (round h) (k + k)
      (λ u. Fine starts h (n + (k + k)) u × Delivered h w (requests h number who d due) u)
      (λ v. Fine starts h n v × Passed h w number d who due v)
      (ask_way starts h tree (n + (k + k)) w (less_fine starts h (n + (k + k) + 2) (n + changing) w
      (omega arith) fine)
      number d who due place due_here)
      (λ u came.
      let a = asked h w number d who due u came.1 in
      let most : length (filter (λ me. hears ((u.stations number).grants.links me d) me (record_in h u d))
      (listeners h number d)) ≤ k =
      (let i = kept_most (λ me. hears ((u.stations number).grants.links me d) me (record_in h u d))
      (listeners h number d) in
      let j = listeners_most h tree number d in omega (arith, i, j)) in
      no_longer starts h u (k + k) (k + k) (λ v. Fine starts h n v × Heard h u number d (record_in h u d) v)
      (λ v. Fine starts h n v × Passed h w number d who due v) (omega arith)
      (λ v there. (there.0, passed h w u v number d who due (listens h number d who place) a there.1))
      (hear_way starts h tree number d p.there p.within (record_in h u d) k n u came.0 refl a.reply most))

-- What is left of it.

-- no record is ahead of a link
never_ahead : (l : Link) (who : Holder) (r : Standing) → LinkOk r who l → is_ahead l r ≡ false
never_ahead (Out k) who r o = refl
never_ahead (Taking s) who r o = refl
never_ahead (Held e n p) who r o = ahead (r.epoch == e) (not_less n r.last o.2.not_beyond)
  where
    not_less : (a b : ℕ) → b ≤ a → nat_lt a b ≡ false
    not_less a b l = grind (arith, nat_tests)

    ahead : (b : Bool) → nat_lt n r.last ≡ false → (b && nat_lt n r.last) ≡ false
    ahead true f = f
    ahead false f = refl
never_ahead (Dropping e) who r o = refl

no_news : (l : Link) (who : Holder) (r : Standing) → LinkOk r who l → hears l who r ≡ false
    → is_heard (told_heard l who r) ≡ false
no_news l Free r o f = f
no_news l (Operator a) r o f = f
no_news l (Domain p) r o f = by (is_heard (told_heard l (Domain p) r))
    (subst (λ b. (is_heard (told_heard l (Domain p) r) && not b) ≡ false) (never_ahead l (Domain p) r o) f)
  where
    by : (b : Bool) → (b && true) ≡ false → b ≡ false
    by true i = i
    by false i = refl

-- what is known of a record and a link of somebody
pub record Facts (h : Hierarchy) (w : World) (d : ℕ) (who : Holder) : Type 0 where
  pub lawful : IsRecord (record_in h w d)
  pub link : LinkOk (record_in h w d) who (link_in h w who d)

pub facts : (h : Hierarchy) (past : List Entry) (w : World) → Reaches h past w → (d : ℕ) (who : Holder)
    → is_free who ≡ false → Facts h w d who
facts h past w run d who party =
    let f = view_fits h w d who party ((viewed h past w run).each d who) in
    record { lawful = f.lawful; link = f.link }

-- a link under way waits for what a pass can't bring
pub passed_left : (h : Hierarchy) (w : World) (number d : ℕ) (who : Holder) (due : Due) (v : World)
    → Passed h w number d who due v → Facts h v d who → is_unsettled (link_in h v who d) ≡ true
    → Left (record_in h v d) (link_in h v who d)
passed_left h w number d who due v p f waits =
    unheard_left (link_in h v who d) who (record_in h v d) f.lawful f.link waits
    (no_news (link_in h v who d) who (record_in h v d) f.link p.quiet)

-- Nothing waits for more.

-- below a domain the world may change, nowhere is there more to wait for, and elsewhere commands may have ended
pub record Eases (h : Hierarchy) (d : ℕ) (w v : World) : Type 0 where
  pub records : (y : ℕ) → y < d → SameGrant (record_in h w y) (record_in h v y)
  pub links : (me : Holder) (y : ℕ) → y < d → link_in h v me y ≡ link_in h w me y
  pub less : (me : Holder) (y : ℕ) → waiting (link_in h v me y) ≤ waiting (link_in h w me y)

-- a domain has no link to itself
own_link : (h : Hierarchy) → IsTree h → (past : List Entry) (w : World) → Reaches h past w → (d : ℕ)
    → link_in h w (Domain d) d ≡ Out 0
own_link h tree past w run d = placed h tree past w run (holder_home h (Domain d)) (Domain d) d
    (elim (either (has_place h (holder_home h (Domain d)) d (Domain d))) [
      | inl t ↦
          let a = and_parts (has_domain h d) _ t in
          let b = and_parts (is_holder_of h d (Domain d)) _ a.1 in
          let less = parents_are_lower h tree d d (number_is (parent_of h d) d b.0) in
          absurd (omega (arith, less))
      | inr f ↦ f
    ])

-- nor to one above it
far_link : (h : Hierarchy) → IsTree h → (past : List Entry) (w : World) → Reaches h past w → (d x : ℕ) → x < d
    → link_in h w (Domain d) x ≡ Out 0
far_link h tree past w run d x less = placed h tree past w run (holder_home h (Domain d)) (Domain d) x
    (elim (either (has_place h (holder_home h (Domain d)) x (Domain d))) [
      | inl t ↦
          let a = and_parts (has_domain h x) _ t in
          let b = and_parts (is_holder_of h x (Domain d)) _ a.1 in
          let more = parents_are_lower h tree x d (number_is (parent_of h x) d b.0) in
          absurd (omega (arith, less, more))
      | inr f ↦ f
    ])

pub far_same : (h : Hierarchy) → IsTree h → (a b : List Entry) (w v : World) → Reaches h a w → Reaches h b v
    → (d x : ℕ) → x < d → link_in h v (Domain d) x ≡ link_in h w (Domain d) x
far_same h tree a b w v run run' d x less = far_link h tree b v run' d x less ∙ sym (far_link h tree a w run d x less)

pub told_waits : (me : Holder) (r : Standing) (l k : Link) → Told me r l k → waiting k ≤ waiting l
told_waits me r l k t = told_keeps (λ z. waiting z ≤ waiting l) me r
    (λ z a. let b = told_less z me r in omega (arith, a, b)) l k t (omega arith)

-- if no child of the domain has more to wait for
pub passed_eases : (h : Hierarchy) → IsTree h → (w : World) (number d : ℕ) (who : Holder) (due : Due)
    (a b : List Entry) (v : World) → Reaches h a w → Reaches h b v → Passed h w number d who due v
    → ((x : ℕ) → (x ≡ d → ⊥) → waiting (link_in h v (Domain d) x) ≤ waiting (link_in h w (Domain d) x)) → Eases h d w v
passed_eases h tree w number d who due a b v run run' p children = record {
  records = λ y less. p.records y (λ i. omega (arith, i, less));
  links = λ me y less. elim (told_apart me (Domain d)) [
    | inl same ↦ subst (λ z. link_in h v z y ≡ link_in h w z y) (sym same.1)
        (far_same h tree a b w v run run' d y less)
    | inr other ↦ p.others me y (λ i. omega (arith, i, less)) other.1
  ];
  less = λ me y. elim (told_apart me (Domain d)) [
    | inl same ↦ subst (λ z. waiting (link_in h v z y) ≤ waiting (link_in h w z y)) (sym same.1)
        (elim (apart y d) [
          | inl here ↦ subst (λ z. waiting (link_in h v (Domain d) z) ≤ waiting (link_in h w (Domain d) z)) (sym here)
              (let none : waiting (link_in h v (Domain d) d) ≡ 0 = ap waiting (own_link h tree b v run' d) in
              omega (arith, none))
          | inr away ↦ children y away
        ])
    | inr other ↦ elim (apart y d) [
      | inl here ↦ subst (λ z. waiting (link_in h v me z) ≤ waiting (link_in h w me z)) (sym here)
          (told_waits me (record_in h v d) (link_in h w me d) (link_in h v me d) (p.told me other.1))
      | inr away ↦ let same = ap waiting (p.others me y away other.1) in omega (arith, same)
    ]
  ];
}

-- if nothing runs
pub quiet_eases : (h : Hierarchy) → IsTree h → (w : World) (number d : ℕ) (who : Holder) (due : Due)
    (a b : List Entry) (v : World) → Reaches h a w → Reaches h b v → Passed h w number d who due v
    → RunsNothing (record_in h w d) who due → Eases h d w v
quiet_eases h tree w number d who due a b v run run' p nothing =
    passed_eases h tree w number d who due a b v run run' p
    (λ x other. let same = ap waiting (p.still nothing x other) in omega (arith, same))

pub eases_not : (h : Hierarchy) (d : ℕ) (w : World) → Eases h d w w
eases_not h d w = record {
  records = λ y less. same_grant (record_in h w y) (record_in h w y) refl;
  links = λ me y less. refl;
  less = λ me y. omega arith;
}

pub eases_on : (h : Hierarchy) (d : ℕ) (w v u : World) → Eases h d w v → Eases h d v u → Eases h d w u
eases_on h d w v u a b = record {
  records = λ y less. grant_on (record_in h w y) (record_in h v y) (record_in h u y) (a.records y less)
      (b.records y less);
  links = λ me y less. b.links me y less ∙ a.links me y less;
  less = λ me y. let x = a.less me y in let z = b.less me y in omega (arith, x, z);
}

-- what happens below a later domain happens below an earlier one
pub eases_above : (h : Hierarchy) (c d : ℕ) (w v : World) → c ≤ d → Eases h d w v → Eases h c w v
eases_above h c d w v le a = record {
  records = λ y less. a.records y (omega (arith, le, less));
  links = λ me y less. a.links me y (omega (arith, le, less));
  less = a.less;
}
