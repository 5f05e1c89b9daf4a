-- All that is under way ends.
use Rattle.std.proofs.Common.{ℕ, zero, suc, ◌≡◌, ◌<◌, ◌≤◌, ◌+◌, Bool, true, false, List, [], ◌∷◌, ◌⊎◌, inl, inr, refl}
use Rattle.std.proofs.Common.{sym, ap}
use Rattle.std.proofs.Common.{◌∙◌, subst, arith}
use Rattle.std.specs.Prelude.{◌*◌, map}
use Rattle.std.specs.List.{range_with_len}
use Rattle.std.proofs.lemmas.Bool.{and_parts, leb-true}
use Rattle.std.proofs.Math.Nat.{mul-le-mul_right}
use Rattle.smi_grant.specs.declared.Holder.{Holder}
use Rattle.smi_grant.specs.declared.Holder.TheVariants.{Free, Operator, Domain}
use Rattle.smi_tree.specs.Hierarchy.{Hierarchy}
use Rattle.smi_tree.specs.Lawful.{IsTree}
use Rattle.smi_tree.specs.Lookups.{domain_count, operator_count, operator_station_of, parent_of}
use Rattle.smi_command.specs.declared.Link.{Link}
use Rattle.smi_command.specs.declared.Link.TheVariants.{Out, Taking, Held, Dropping}
use Rattle.smi_command.specs.Link.{is_unsettled}
use Rattle.smi_grant.proofs.Holders.{either}
use Rattle.smi_tree.specs.Roles.{has_domain, holder_station, is_holder_of, is_number}
use Rattle.smi_protocol.proofs.Lists.{In, in_first, in_mapped, in_range, in_second}
use Rattle.smi_protocol.proofs.Ranges.{is_within, number_within}
use Rattle.smi_protocol.proofs.Tables.{number_is}
use Rattle.smi_protocol.specs.Schedule.{World}
use Rattle.smi_protocol.specs.Ticking.{domains_of}
use Rattle.smi_law.specs.Known.{holder_home, link_in}
use Rattle.smi_law.specs.Bound.{changing, passing, total}
use Rattle.smi_law.specs.Rest.{IsAtRest}
use Rattle.smi_law.specs.UnderWay.{Party, above, holders_of, parties, party, under_way}
use Rattle.smi_law.specs.Waiting.{waiting}
use Rattle.smi_law.proofs.RestLists.{in_flat}
use Rattle.smi_law.proofs.Changing.{Settles, none_waits}
use Rattle.smi_law.proofs.Placed.{has_place, placed}
use Rattle.smi_law.proofs.Running.{idle, nothing_left}
use Rattle.smi_law.proofs.Settling.{passes, settle_way}
use Rattle.smi_law.proofs.Ways.{Fine, Way, go_on, less_fine, no_longer, stay}

-- Sums.

-- each is nothing, or one is something
none_or_one : {X : Type 0} (f : X → ℕ) (xs : List X) → ((x : X) → In x xs → f x ≡ 0) ⊎ ((x : X) × In x xs × (1 ≤ f x))
none_or_one f [] = inl (λ x at. absurd at)
none_or_one {X = X} f (x ∷ xs) = by (zero_or (f x)) (none_or_one f xs)
  where
    zero_or : (n : ℕ) → (n ≡ 0) ⊎ (1 ≤ n)
    zero_or n = grind arith

    by : (f x ≡ 0) ⊎ (1 ≤ f x) → ((y : X) → In y xs → f y ≡ 0) ⊎ ((y : X) × In y xs × (1 ≤ f y))
        → ((y : X) → In y (x ∷ xs) → f y ≡ 0) ⊎ ((y : X) × In y (x ∷ xs) × (1 ≤ f y))
    by (inr some) rest = inr (x, inl refl, some)
    by (inl none) (inl rest) = inl (λ y at. elim at [ inl same ↦ ap f same ∙ none | inr more ↦ rest y more ])
    by (inl none) (inr rest) = inr (rest.0, inr rest.1, rest.2)

pub total_most : {X : Type 0} (f g : X → ℕ) (xs : List X) → ((x : X) → In x xs → g x ≤ f x)
    → total (map g xs) ≤ total (map f xs)
total_most f g [] each = omega arith
total_most f g (x ∷ xs) each =
    let a = each x (inl refl) in
    let b = total_most f g xs (λ y at. each y (inr at)) in
    omega (arith, a, b)

total_less : {X : Type 0} (f g : X → ℕ) (z : X) (xs : List X) → ((x : X) → In x xs → g x ≤ f x) → In z xs → g z < f z
    → total (map g xs) < total (map f xs)
total_less f g z [] each at less = absurd at
total_less f g z (x ∷ xs) each (inl same) less =
    let a : g x < f x = subst (λ y. g y < f y) same less in
    let b = total_most f g xs (λ y at. each y (inr at)) in
    omega (arith, a, b)
total_less f g z (x ∷ xs) each (inr at) less =
    let a = each x (inl refl) in
    let b = total_less f g z xs (λ y i. each y (inr i)) at less in
    omega (arith, a, b)

-- Who may hold something.

-- a holder that has a place is among them
among_parties : (h : Hierarchy) (number d : ℕ) (who : Holder) → has_place h number d who ≡ true
    → In (party d who) (parties h)
among_parties h number d who here =
    let a = and_parts (has_domain h d) _ here in
    let b = and_parts (is_holder_of h d who) _ a.1 in
    let within = is_within 1 (domain_count h) d a.0 in
    in_flat (λ x. map (party x) (holders_of h x)) d (party d who) (domains_of h)
    (in_range d 1 (domain_count h) within.least (omega (arith, within.most)))
    (in_mapped (party d) who (holders_of h d) (there who b.0 b.1))
  where
    there : (k : Holder) → is_holder_of h d k ≡ true → is_number (holder_station h k) number ≡ true
        → In k (holders_of h d)
    there Free holder station = absurd (let wrong : false ≡ true = station in cc)
    there (Operator o) holder station =
        let within = number_within h.homes o number (number_is (operator_station_of h o) number station) in
        in_first (Operator o) (map Operator (range_with_len 1 (operator_count h))) (above (parent_of h d))
        (in_mapped Operator o (range_with_len 1 (operator_count h))
        (in_range o 1 (operator_count h) within.least (let most = leb-true o (operator_count h) holder in omega
        (arith, most))))
    there (Domain p) holder station =
        in_second (Domain p) (map Operator (range_with_len 1 (operator_count h))) (above (parent_of h d))
        (subst (λ o. In (Domain p) (above o)) (sym (number_is (parent_of h d) p holder)) (inl refl))

unsettled_or : (l : Link) → 1 ≤ waiting l → is_unsettled l ≡ true
unsettled_or (Out k) some = absurd (omega (arith, some))
unsettled_or (Taking s) some = refl
unsettled_or (Held e n []) some = absurd (omega (arith, some))
unsettled_or (Held e n (c ∷ p)) some = refl
unsettled_or (Dropping e) some = refl

-- The world comes to rest.
module _ (starts : Bool) (h : Hierarchy) (tree : IsTree h) (levels most : ℕ)
    (enough : (d : ℕ) → domain_count h < d + levels) (few : (d : ℕ) → passes h levels d ≤ most) where
  abbrev waits : World → Party → ℕ
  waits w x = waiting (link_in h w x.holder x.domain)

  -- nobody waits for anything
  record Quiet (n : ℕ) (w : World) : Type 0 where
    fine : Fine starts h n w
    none : (x : Party) → In x (parties h) → waits w x ≡ 0

  quiet_way : (k n : ℕ) (w : World) → under_way h w ≤ k → Fine starts h (n + k * (most * changing)) w
      → Way starts h w (k * (most * passing h)) (Quiet n)
  quiet_way zero n w little fine = stay starts h w (0 * (most * passing h)) (Quiet n) (record {
    fine = less_fine starts h n (n + 0 * (most * changing)) w (omega arith) fine;
    none = λ x at. elim (none_or_one (waits w) (parties h)) [
      | inl none ↦ none x at
      | inr one ↦ let less = total_less (waits w) (λ y. 0) one.0 (parties h) (λ y i. omega arith) one.1 one.2 in
          absurd (omega (arith, little, less))
    ];
  })
  quiet_way (suc k) n w little fine = elim (none_or_one (waits w) (parties h)) [
    | inl none ↦ stay starts h w (suc k * (most * passing h)) (Quiet n) (record {
      fine = less_fine starts h n (n + suc k * (most * changing)) w (omega arith) fine;
      none = none;
    })
    | inr one ↦ on one.0 one.1 one.2 (λ v less fine'. quiet_way k n v less fine')
  ]
    where
      one_more : (k c : ℕ) → suc k * c ≡ k * c + c
      one_more k c = grind arith

      room : (m k a c : ℕ) → a ≤ most → m + k * (most * c) + a * c ≤ m + suc k * (most * c)
      room m k a c le = let g = mul-le-mul_right c le in let t = one_more k (most * c) in omega (arith, g, t)

      items : (k a c : ℕ) → a ≤ most → a * c + k * (most * c) ≤ suc k * (most * c)
      items k a c le = let g = mul-le-mul_right c le in let t = one_more k (most * c) in omega (arith, g, t)

      on : (x : Party) → In x (parties h) → 1 ≤ waits w x
          → ((v : World) → under_way h v ≤ k → Fine starts h (n + k * (most * changing)) v
          → Way starts h v (k * (most * passing h)) (Quiet n))
          → Way starts h w (suc k * (most * passing h)) (Quiet n)
      on x at some rest =
          no_longer starts h w (passes h levels x.domain * passing h + k * (most * passing h))
          (suc k * (most * passing h)) (Quiet n) (Quiet n) (items k (passes h levels x.domain) (passing h)
          (few x.domain))
          (λ v q. q)
          (go_on starts h w (passes h levels x.domain * passing h) (k * (most * passing h))
          (Settles starts h (n + k * (most * changing)) x.domain x.holder w) (Quiet n)
          (settle_way starts h tree levels x.domain x.holder (n + k * (most * changing)) w (enough x.domain)
          (unsettled_or (link_in h w x.holder x.domain) some)
          (less_fine starts h (n + k * (most * changing) + passes h levels x.domain * changing)
          (n + suc k * (most * changing)) w (room n k (passes h levels x.domain) (changing) (few x.domain)) fine))
          (λ v s. rest v
          (let less = total_less (waits w) (waits v) x (parties h) (λ y i. s.eases.less y.holder y.domain) at s.less in
          omega (arith, less, little))
          s.fine))

  -- if nobody waits, all is at rest
  at_rest : (n : ℕ) (w : World) → Quiet n w → IsAtRest h w
  at_rest n w q = record {
    links = settled;
    records = λ d. idle h tree q.fine.past w q.fine.run d (λ x. none_waits (link_in h w (Domain d) x) (settled
        (Domain d) x));
    running = λ number there. (q.fine.ready number there).runs;
  }
    where
      settled : (who : Holder) (d : ℕ) → is_unsettled (link_in h w who d) ≡ false
      settled who d = elim (either (has_place h (holder_home h who) d who)) [
        | inl t ↦ nothing_left (link_in h w who d) (q.none (party d who) (among_parties h (holder_home h who) d who t))
        | inr f ↦ ap is_unsettled (placed h tree q.fine.past w q.fine.run (holder_home h who) who d f)
      ]

  pub rest_way : (k : ℕ) (w : World) → under_way h w ≤ k → Fine starts h (k * (most * changing)) w
      → Way starts h w (k * (most * passing h)) (IsAtRest h)
  rest_way k w little fine =
      no_longer starts h w (k * (most * passing h)) (k * (most * passing h)) (Quiet 0) (IsAtRest h) (omega arith)
      (at_rest 0) (quiet_way k 0 w little (less_fine starts h (0 + k * (most * changing)) (k * (most * changing)) w
      (omega arith) fine))
