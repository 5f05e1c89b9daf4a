-- The oldest command that a link waits for runs and ends, if what it hands on ends.
use Rattle.std.proofs.Common.{ℕ, ◌≡◌, ◌<◌, ◌≤◌, ◌+◌, Bool, true, false, List, [], ◌∷◌, ◌⊎◌, inl, inr, refl, sym, ap}
use Rattle.std.proofs.Common.{◌∙◌, drop, subst, arith}
use Rattle.std.specs.Prelude.{◌==◌, ◌-◌, if◌then◌else◌, length}
use Rattle.std.proofs.lemmas.Bool.{and_from, and_parts, eq-eqb, eqb-true}
use Rattle.smi_grant.specs.declared.Command.{Command}
use Rattle.smi_grant.specs.declared.Holder.{Holder}
use Rattle.smi_grant.specs.declared.Holder.TheVariants.{Domain}
use Rattle.smi_grant.specs.Holder.{is_free, same_holder}
use Rattle.smi_grant.specs.Keeper.{admits, started}
use Rattle.smi_grant.specs.Record.{Standing, is_settled}
use Rattle.smi_tree.specs.Hierarchy.{Hierarchy}
use Rattle.smi_tree.specs.Lawful.{IsTree}
use Rattle.smi_tree.specs.Lookups.{children_of}
use Rattle.smi_command.specs.declared.Due.{Due}
use Rattle.smi_command.specs.declared.Due.TheVariants.{Run}
use Rattle.smi_command.specs.declared.Link.{Link}
use Rattle.smi_command.specs.declared.Link.TheVariants.{Out, Taking, Held, Dropping}
use Rattle.smi_command.specs.declared.LinkHeard.{LinkHeard}
use Rattle.smi_command.specs.Hearing.{newest_settled, settled_count, told_held, told_link}
use Rattle.smi_command.specs.Link.{due_of, is_unsettled}
use Rattle.smi_command.specs.OneLink.{asked_record}
use Rattle.smi_command.specs.Pending.{base_of}
use Rattle.smi_command.proofs.Facts.{LinkOk}
use Rattle.smi_command.proofs.Heard.{choose}
use Rattle.smi_grant.proofs.Holders.{either, same_self, told_apart}
use Rattle.smi_protocol.proofs.Tables.{apart}
use Rattle.smi_protocol.specs.Messages.{home}
use Rattle.smi_protocol.specs.Schedule.{World}
use Rattle.smi_protocol.specs.declared.Entry.{Entry}
use Rattle.smi_law.specs.Known.{holder_home, link_in, record_in}
use Rattle.smi_law.specs.World.{Reaches}
use Rattle.smi_law.specs.Bound.{changing, passing}
use Rattle.smi_law.specs.Waiting.{waiting}
use Rattle.smi_law.proofs.Asked.{RunsNothing}
use Rattle.smi_law.proofs.Changing.{Settles, has_party, none_waits, not_own}
use Rattle.smi_law.proofs.Hears.{Told, grant_on, told_keeps}
use Rattle.smi_law.proofs.Passes.{Eases, Passed, eases_on, facts, far_same, pass_way, passed_left}
use Rattle.smi_law.proofs.Passes.{quiet_eases, told_waits}
use Rattle.smi_law.proofs.Placed.{has_place, unsettled_place}
use Rattle.smi_law.proofs.RestLists.{none_any}
use Rattle.smi_law.proofs.Sounds.{all_sound}
use Rattle.smi_law.proofs.Unheard.{Left}
use Rattle.smi_law.proofs.Ways.{Fine, Way, go_on, less_fine, no_longer, stay}

-- The record.

-- after the request of the oldest command, the record is past it
ran_past : (r : Standing) (who : Holder) (e k : ℕ) (c : Command) (p : List Command) → LinkOk r who (Held e k (c ∷ p))
    → (busy : Bool) (x : ℕ)
    → base_of k (c ∷ p) + 1 ≤ (asked_record r who (Run e (base_of k (c ∷ p) + 1 + 0) c) busy x).last
ran_past r who e k c p ok busy x =
    choose (λ (s : Standing). base_of k (c ∷ p) + 1 ≤ s.last) (admits r who e (base_of k (c ∷ p) + 1 + 0))
    (started r busy x) r (λ t. on busy) (λ f. behind (last_or (base_of k (c ∷ p)) r.last ok.2.not_before) f)
  where
    last_or : (b l : ℕ) → b ≤ l → (l ≡ b) ⊎ (b + 1 ≤ l)
    last_or b l le = grind (arith, le)

    on : (b : Bool) → base_of k (c ∷ p) + 1 ≤ (started r b x).last
    on true = let le = ok.2.not_before in omega (arith, le)
    on false = let le = ok.2.not_before in omega (arith, le)

    next : (b l : ℕ) → l ≡ b → b + 1 + 0 ≡ l + 1
    next b l is = omega (arith, is)

    behind : (r.last ≡ base_of k (c ∷ p)) ⊎ (base_of k (c ∷ p) + 1 ≤ r.last)
        → admits r who e (base_of k (c ∷ p) + 1 + 0) ≡ false → base_of k (c ∷ p) + 1 ≤ r.last
    behind (inr less) f = less
    behind (inl at) f =
        absurd (let wrong : true ≡ false =
        sym (and_from _ _ (ap (λ z. same_holder z who) ok.1 ∙ same_self who)
        (and_from _ _ (eq-eqb r.epoch e ok.0)
        (and_from _ _ (ap is_settled (ok.2.all_settled at))
        (eq-eqb (base_of k (c ∷ p) + 1 + 0) (r.last + 1) (next (base_of k (c ∷ p)) r.last at))))) ∙ f in cc)

-- what is past does not run again
not_again : (r : Standing) (who : Holder) (e b : ℕ) → b + 1 ≤ r.last → admits r who e (b + 1 + 0) ≡ false
not_again r who e b less = elim (either (admits r who e (b + 1 + 0))) [
  | inl t ↦
      let x = and_parts (same_holder r.holder who) _ t in
      let y = and_parts (r.epoch == e) _ x.1 in
      let z = and_parts (is_settled r.phase) _ y.1 in
      let same = eqb-true (b + 1 + 0) (r.last + 1) z.1 in
      absurd (omega (arith, same, less))
  | inr f ↦ f
]

-- The link.

-- the grant is held, and the newest number is the same
abbrev Holds : ℕ → ℕ → Link → Type 0
Holds e k l = (q : List Command) × (l ≡ Held e k q)

told_holds : (e k : ℕ) (me : Holder) (r : Standing) (l : Link) → Holds e k l → Holds e k (told_link l me r)
told_holds e k me r l b =
    subst (λ z. Holds e k (told_link z me r)) (sym b.1)
    (choose {A = Link × LinkHeard} (λ z. Holds e k z.0) (r.epoch == e) (told_held e k b.0 r) _
    (λ t. (drop (settled_count k b.0 r) b.0, refl)) (λ f. (b.0, refl)))

pub nothing_left : (l : Link) → waiting l ≡ 0 → is_unsettled l ≡ false
nothing_left (Out k) w = refl
nothing_left (Taking s) w = absurd (omega (arith, w))
nothing_left (Held e n []) w = refl
nothing_left (Held e n (c ∷ p)) w = absurd (omega (arith, w))
nothing_left (Dropping e) w = absurd (omega (arith, w))

-- a domain that waits for no child is settled
pub idle : (h : Hierarchy) → IsTree h → (past : List Entry) (w : World) → Reaches h past w → (d : ℕ)
    → ((x : ℕ) → waiting (link_in h w (Domain d) x) ≡ 0) → is_settled (record_in h w d).phase ≡ true
idle h tree past w run d none = elim (either (is_settled (record_in h w d).phase)) [
  | inl t ↦ t
  | inr f ↦
      let works = ((all_sound h tree past w run).sound (home h d)).at_work d f in
      let still = none_any (λ x. is_unsettled (link_in h w (Domain d) x)) (children_of h d)
      (λ x i. nothing_left (link_in h w (Domain d) x) (none x)) in
      absurd (let wrong : true ≡ false = sym works ∙ still in cc)
]

-- what is settled and past a command has ended it
ended_less : (r : Standing) (k : ℕ) (q p : List Command) → is_settled r.phase ≡ true → Left r (Held 0 k q)
    → length p ≤ k → base_of k p + 1 ≤ r.last → length q < length p
ended_less r k q p settled left counted past =
    let newest : newest_settled r ≡ r.last = ap (λ b. if b then r.last else r.last - 1) settled in
    omega (arith, newest, left, counted, past)

module _ (starts : Bool) (h : Hierarchy) (tree : IsTree h) (d : ℕ) (who : Holder) (room items : ℕ)
    (below : (m : ℕ) (u : World) → Fine starts h (m + room) u → Way starts h u items
    (λ v. Fine starts h m v × Eases h (d + 1) u v × ((x : ℕ) → waiting (link_in h v (Domain d) x) ≡ 0))) where
  abbrev number : ℕ
  number = holder_home h who

  -- a world after the first request and all that it handed on
  record Ran (n : ℕ) (w : World) (e k : ℕ) (c : Command) (p : List Command) (v : World) : Type 0 where
    fine : Fine starts h n v
    eases : Eases h d w v
    none : (x : ℕ) → waiting (link_in h v (Domain d) x) ≡ 0
    holds : Holds e k (link_in h v who d)
    past_it : base_of k (c ∷ p) + 1 ≤ (record_in h v d).last

  module _ (n : ℕ) (w : World) (e k : ℕ) (c : Command) (p : List Command) (is : link_in h w who d ≡ Held e k (c ∷ p))
      (fine : Fine starts h (n + changing + room + changing) w) where
    place : has_place h number d who ≡ true
    place = unsettled_place h tree fine.past w fine.run number who d (ap is_unsettled is)

    party : is_free who ≡ false
    party = has_party h number d who place

    other : who ≡ Domain d → ⊥
    other = not_own h tree number d who place

    ok : LinkOk (record_in h w d) who (Held e k (c ∷ p))
    ok = subst (LinkOk (record_in h w d) who) is (facts h fine.past w fine.run d who party).link

    abbrev oldest : Due
    oldest = Run e (base_of k (c ∷ p) + 1 + 0) c

    -- what was handed on is settled
    ran : (u : World) → Fine starts h (n + changing + room) u → Passed h w number d who oldest u → (v : World)
        → Fine starts h (n + changing) v → Eases h (d + 1) u v
        → ((x : ℕ) → waiting (link_in h v (Domain d) x) ≡ 0) → Ran (n + changing) w e k c p v
    ran u on pass v later eases none = record {
      fine = later;
      eases = record {
        records = λ y less. grant_on (record_in h w y) (record_in h u y) (record_in h v y)
            (pass.records y (λ i. omega (arith, i, less))) (eases.records y (omega (arith, less)));
        links = λ me y less. eases.links me y (omega (arith, less)) ∙ elim (told_apart me (Domain d)) [
          | inl same ↦ subst (λ z. link_in h u z y ≡ link_in h w z y) (sym same.1)
              (far_same h tree fine.past on.past w u fine.run on.run d y less)
          | inr away ↦ pass.others me y (λ i. omega (arith, i, less)) away.1
        ];
        less = λ me y. elim (told_apart me (Domain d)) [
          | inl same ↦ subst (λ z. waiting (link_in h v z y) ≤ waiting (link_in h w z y)) (sym same.1)
              (let a = none y in omega (arith, a))
          | inr away ↦ let a = eases.less me y in elim (apart y d) [
            | inl here ↦ let b = subst (λ z. waiting (link_in h u me z) ≤ waiting (link_in h w me z)) (sym here)
                (told_waits me (record_in h u d) (link_in h w me d) (link_in h u me d) (pass.told me away.1)) in
                omega (arith, a, b)
            | inr far ↦ let b = ap waiting (pass.others me y far away.1) in omega (arith, a, b)
          ]
        ];
      };
      none = none;
      holds = subst (Holds e k) (sym (eases.links who d (omega arith)))
          (told_keeps (Holds e k) who (record_in h u d) (told_holds e k who (record_in h u d)) (Held e k (c ∷ p))
          (link_in h u who d)
          (subst (λ z. Told who (record_in h u d) z (link_in h u who d)) is (pass.told who other)) (c ∷ p, refl));
      past_it =
          let a = ran_past (record_in h w d) who e k c p ok pass.busy pass.outcome in
          let b : (record_in h u d).last ≡ (asked_record (record_in h w d) who oldest pass.busy pass.outcome).last =
          ap (λ (z : Standing). z.last) pass.kept in
          let same = (eases.records d (omega arith)).last in
          omega (arith, a, b, same);
    }

    run_way : Way starts h w (passing h + items) (Ran (n + changing) w e k c p)
    run_way =
        go_on starts h w (passing h) items (λ u. Fine starts h (n + changing + room) u
        × Passed h w number d who oldest u)
        (Ran (n + changing) w e k c p)
        (pass_way starts h tree (n + changing + room) w fine number d who oldest place (ap (λ l. due_of l 0) is))
        (λ u there. no_longer starts h u items items
        (λ v. Fine starts h (n + changing) v × Eases h (d + 1) u v
        × ((x : ℕ) → waiting (link_in h v (Domain d) x) ≡ 0)) (Ran (n + changing) w e k c p) (omega arith)
        (λ v on. ran u there.0 there.1 v on.0 on.1 on.2) (below (n + changing) u there.0))

    -- the answer that it has ended comes
    answered : (v : World) → (a : Ran (n + changing) w e k c p v) → (f : Command) (q : List Command)
        → link_in h v who d ≡ Held e k (f ∷ q) → length (f ∷ q) ≡ length (c ∷ p)
        → Way starts h v (passing h) (Settles starts h n d who w)
    answered v a f q at same =
        no_longer starts h v (passing h) (passing h) (λ z. Fine starts h n z × Passed h v number d who again z)
        (Settles starts h n d who w) (omega arith) (λ z there. ends z there.0 there.1)
        (pass_way starts h tree n v a.fine number d who again place (ap (λ l. due_of l 0) at))
      where
        again : Due
        again = Run e (base_of k (f ∷ q) + 1 + 0) f

        over : base_of k (f ∷ q) + 1 ≤ (record_in h v d).last
        over = let b = a.past_it in omega (arith, b, same)

        nothing : RunsNothing (record_in h v d) who again
        nothing = not_again (record_in h v d) who e (base_of k (f ∷ q)) over

        ends : (z : World) → Fine starts h n z → Passed h v number d who again z → Settles starts h n d who w z
        ends z on pass = record {
          fine = on;
          eases = eases_on h d w v z a.eases
              (quiet_eases h tree v number d who again a.fine.past on.past z a.fine.run on.run pass nothing);
          less = elim (either (is_unsettled (link_in h z who d))) [
            | inl waits ↦
                let left : Left (record_in h z d) (Held e k held.0) = subst (Left (record_in h z d)) held.1
                (passed_left h v number d who again z pass (facts h on.past z on.run d who party) waits) in
                let counted = ok.2.counted in
                let past : base_of k (c ∷ p) + 1 ≤ (record_in h z d).last =
                subst (λ (r : Standing). base_of k (c ∷ p) + 1 ≤ r.last) (sym same_record) a.past_it in
                let fewer = ended_less (record_in h z d) k held.0 (c ∷ p)
                (ap (λ (r : Standing). is_settled r.phase) same_record ∙ idle h tree a.fine.past v a.fine.run d a.none)
                left counted past in
                let one = ap waiting held.1 in
                let two = ap waiting is in
                omega (arith, fewer, one, two)
            | inr settled ↦ let one = none_waits (link_in h z who d) settled in let two = ap waiting is in
                omega (arith, one, two)
          ];
        }
          where
            held : Holds e k (link_in h z who d)
            held = told_keeps (Holds e k) who (record_in h z d) (told_holds e k who (record_in h z d)) (Held e k
                (f ∷ q))
                (link_in h z who d)
                (subst (λ l. Told who (record_in h z d) l (link_in h z who d)) at (pass.told who other)) (f ∷ q, refl)

            same_record : record_in h z d ≡ record_in h v d
            same_record = pass.kept ∙ ap (λ b. if b then started (record_in h v d) pass.busy pass.outcome
                else record_in h v d) nothing

    -- what the link has pending after the first request
    on_with : (v : World) (a : Ran (n + changing) w e k c p v) (q : List Command) → link_in h v who d ≡ Held e k q
        → Way starts h v (passing h) (Settles starts h n d who w)
    on_with v a q at = elim (less_or (length q) (length (c ∷ p)) most) [
      | inl less ↦ stay starts h v (passing h) (Settles starts h n d who w) (record {
        fine = less_fine starts h n (n + changing) v (omega arith) a.fine;
        eases = a.eases;
        less = let one = ap waiting at in let two = ap waiting is in omega (arith, less, one, two);
      })
      | inr same ↦ go q at same
    ]
      where
        less_or : (x y : ℕ) → x ≤ y → (x < y) ⊎ (x ≡ y)
        less_or x y le = grind (arith, le)

        most : length q ≤ length (c ∷ p)
        most = let le = a.eases.less who d in let one = ap waiting at in let two = ap waiting is in omega
            (arith, le, one, two)

        go : (q : List Command) → link_in h v who d ≡ Held e k q → length q ≡ length (c ∷ p)
            → Way starts h v (passing h) (Settles starts h n d who w)
        go [] at' same = absurd (omega (arith, same))
        go (f ∷ q') at' same = answered v a f q' at' same

    pub hold_way : Way starts h w (passing h + items + passing h) (Settles starts h n d who w)
    hold_way =
        go_on starts h w (passing h + items) (passing h) (Ran (n + changing) w e k c p) (Settles starts h n d who w)
        run_way (λ v a. on_with v a a.holds.0 a.holds.1)
