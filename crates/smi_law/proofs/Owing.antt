-- What a station owes is ordered by place, and what its links are due is among it.
use Rattle.std.proofs.Common.{ℕ, zero, suc, ◌≡◌, ◌<◌, ◌≤◌, ◌+◌, ◌-◌, Bool, true, false, List, [], ◌∷◌, inl, inr, refl}
use Rattle.std.proofs.Common.{sym, ap}
use Rattle.std.proofs.Common.{◌∙◌, subst, arith}
use Rattle.std.specs.Prelude.{◌==◌, ◌++◌, map, length, slice_get, Option, Some, None, option_map, if◌then◌else◌}
use Rattle.std.specs.List.{flat_map, range_with_len}
use Rattle.std.proofs.lemmas.Bool.{and_parts, eqb-true}
use Rattle.std.proofs.lemmas.Bool.Decides.{nat_tests}
use Rattle.smi_grant.specs.declared.Command.{Command}
use Rattle.smi_grant.specs.declared.Holder.{Holder}
use Rattle.smi_grant.specs.declared.Holder.TheVariants.{Free, Operator, Domain}
use Rattle.smi_tree.specs.Hierarchy.{Hierarchy}
use Rattle.smi_tree.specs.Lookups.{device_count, domain_count, operator_station_of, operators_of, parent_of}
use Rattle.smi_command.specs.declared.Due.{Due}
use Rattle.smi_command.specs.declared.Due.TheVariants.{Take, Drop, Run}
use Rattle.smi_command.specs.declared.Link.{Link}
use Rattle.smi_command.specs.declared.Link.TheVariants.{Out, Taking, Held, Dropping}
use Rattle.smi_command.specs.Link.{due_of}
use Rattle.smi_command.specs.Pending.{base_of, most_pending}
use Rattle.smi_tree.specs.Roles.{has_domain, is_holder_of, is_keeper}
use Rattle.smi_protocol.proofs.Lists.{In, in_both, from_flat, from_mapped, from_range, in_chosen, in_first, in_mapped}
use Rattle.smi_protocol.proofs.Lists.{in_numbers, in_range, in_second}
use Rattle.smi_protocol.proofs.Ranges.{is_within}
use Rattle.smi_protocol.proofs.Tables.{number_is, number_self}
use Rattle.smi_protocol.specs.Display.{Display}
use Rattle.smi_protocol.specs.Grants.{Grants}
use Rattle.smi_protocol.specs.Messages.{all_due, requests, watches}
use Rattle.smi_protocol.specs.Sound.{IsLink, IsSound, most_handed_on}
use Rattle.smi_protocol.specs.Ticking.{Owed, all_owed, domains_of, first_place, number_of_due, owed, owed_question}
use Rattle.smi_protocol.specs.Ticking.{owed_to_child, owed_to_domain, owed_watch}
use Rattle.smi_protocol.specs.Watching.{is_watched}
use Rattle.smi_protocol.specs.declared.ResendCursor.{ResendCursor}
use Rattle.smi_protocol.specs.declared.ResendCursor.TheVariants as place
use Rattle.smi_law.specs.Waiting.{waiting}
use Rattle.smi_law.proofs.Ascending.{Ascends, Less, ascends_both, ascends_chosen, ascends_flat, ascends_mapped}
use Rattle.smi_law.proofs.Ascending.{ascends_numbers, ascends_range}
use Rattle.smi_law.proofs.RestLists.{in_flat}
use Rattle.smi_law.proofs.Placed.{has_place}
use Rattle.smi_law.proofs.Places.{Before, NotBefore, kind}
use Rattle.smi_law.proofs.TickPlaces.{Earlier}

-- What a link is due.

there_within : (p : List Command) (i : ℕ) (c : Command) → slice_get p i ≡ Some c → i < length p
there_within [] i c is = absurd (nothing i is)
  where
    nothing : (j : ℕ) → slice_get [] j ≡ Some c → ⊥
    nothing j at = cc
there_within (x ∷ p) zero c is = omega arith
there_within (x ∷ p) (suc i) c is = let less = there_within p i c is in omega (arith, less)

-- this many things are due
pub due_within : (l : Link) (i : ℕ) (due : Due) → due_of l i ≡ Some due → i < waiting l
due_within (Out k) i due is = absurd cc
due_within (Taking s) i due is = by (i == 0) refl is
  where
    by : (b : Bool) → (i == 0) ≡ b → (if b then Some (Take s) else None) ≡ Some due → i < 1
    by true at j = let zero' = eqb-true i 0 at in omega (arith, zero')
    by false at j = absurd cc
due_within (Held e n p) i due is = by (slice_get p i) refl is
  where
    by : (o : Option Command) → slice_get p i ≡ o
        → option_map (λ c. Run e (base_of n p + 1 + i) c) o ≡ Some due → i < length p
    by None at j = absurd cc
    by (Some c) at j = there_within p i c at
due_within (Dropping e) i due is = by (i == 0) refl is
  where
    by : (b : Bool) → (i == 0) ≡ b → (if b then Some (Drop e) else None) ≡ Some due → i < 1
    by true at j = let zero' = eqb-true i 0 at in omega (arith, zero')
    by false at j = absurd cc

-- later ones have greater numbers
due_rises : (l : Link) (i j : ℕ) (u v : Due) → i < j → due_of l i ≡ Some u → due_of l j ≡ Some v
    → number_of_due u < number_of_due v
due_rises (Out k) i j u v less a b = absurd cc
due_rises (Taking s) i j u v less a b = let one = due_within (Taking s) j v b in absurd (omega (arith, less, one))
due_rises (Held e n p) i j u v less a b = by (slice_get p i) (slice_get p j) a b
  where
    by : (o q : Option Command) → option_map (λ c. Run e (base_of n p + 1 + i) c) o ≡ Some u
        → option_map (λ c. Run e (base_of n p + 1 + j) c) q ≡ Some v → number_of_due u < number_of_due v
    by None q x y = absurd cc
    by (Some c) None x y = absurd cc
    by (Some c) (Some d) x y =
        let same : Run e (base_of n p + 1 + i) c ≡ u = cc in
        let same' : Run e (base_of n p + 1 + j) d ≡ v = cc in
        let one : base_of n p + 1 + i ≡ number_of_due u = ap number_of_due same in
        let two : base_of n p + 1 + j ≡ number_of_due v = ap number_of_due same' in
        omega (arith, less, one, two)
due_rises (Dropping e) i j u v less a b = let one = due_within (Dropping e) j v b in absurd (omega (arith, less, one))

-- By place.

abbrev ByNumber : Due → Due → Type 0
ByNumber u v = number_of_due u < number_of_due v

dues_ascend : (l : Link) → Ascends ByNumber (all_due l)
dues_ascend l = ascends_chosen Less ByNumber (due_of l) (range_with_len 0 most_pending) (ascends_range 0 most_pending)
    (λ i j u v less a b. due_rises l i j u v less a b)

-- one thing alone is due
one_ascends : (R : Due → Due → Type 0) (l : Link) → waiting l ≤ 1 → Ascends R (all_due l)
one_ascends R l one = ascends_chosen Less R (due_of l) (range_with_len 0 most_pending) (ascends_range 0 most_pending)
    (λ i j u v less a b. let k = due_within l j v b in absurd (omega (arith, one, less, k)))

pub one_waits : (h : Hierarchy) (l : Link) → IsLink h most_handed_on l → waiting l ≤ 1
one_waits h (Out k) i = omega arith
one_waits h (Taking s) i = omega arith
one_waits h (Held e n p) i = i.1.few
one_waits h (Dropping e) i = omega arith

at_places : (u v : Owed) (p q : ResendCursor) → u.place ≡ p → v.place ≡ q → Before p q → Earlier u v
at_places u v p q i j before = subst (λ z. Before z v.place) (sym i) (subst (Before p) (sym j) before)

-- no thing precedes another
abbrev Never : Due → Due → Type 0
Never u v = ⊥

module _ (h : Hierarchy) (number : ℕ) (g : Grants) (s : Display) where
  child_place : (x : ℕ) (o : Option ℕ) (u : Owed) → In u (owed_to_child h number g x o) → u.place ≡ place.Child x
  child_place x None u i = absurd i
  child_place x (Some p) u i = by (is_keeper h number p) i
    where
      by : (b : Bool) → In u (if b then map (λ due. owed (place.Child x) (requests h number (Domain p) x due))
          (all_due (g.links (Domain p) x)) else []) → u.place ≡ place.Child x
      by true j =
          let m = from_mapped (λ due. owed (place.Child x) (requests h number (Domain p) x due)) u
          (all_due (g.links (Domain p) x)) j in
          ap (λ (z : Owed). z.place) m.2
      by false j = absurd j

  domain_place : (o d : ℕ) (u : Owed) → In u (owed_to_domain h number g o d) → (n : ℕ) × (u.place ≡ place.Link o d n)
  domain_place o d u i =
      let m = from_mapped (λ due. owed (place.Link o d (number_of_due due)) (requests h number (Operator o) d due)) u
      (all_due (g.links (Operator o) d)) i in
      (number_of_due m.0, ap (λ (z : Owed). z.place) m.2)

  question_place : (o : ℕ) (a : Option ℕ) (u : Owed) → In u (owed_question h number o a) → u.place ≡ place.Ask o
  question_place o None u i = absurd i
  question_place o (Some d) u (inl same) = ap (λ (z : Owed). z.place) same
  question_place o (Some d) u (inr i) = absurd i

  watch_place : (x : ℕ) (u : Owed) → In u (owed_watch h number g.boot s x) → u.place ≡ place.Watch x
  watch_place x u = by (is_watched h number s x)
    where
      by : (b : Bool) → In u (if b then owed (place.Watch x) (watches h number g.boot x) ∷ [] else [])
          → u.place ≡ place.Watch x
      by true (inl same) = ap (λ (z : Owed). z.place) same
      by true (inr i) = absurd i
      by false i = absurd i

  abbrev children : List Owed
  children = flat_map (λ x. owed_to_child h number g x (parent_of h x)) (domains_of h)

  abbrev operators : List Owed
  operators = flat_map (λ o. flat_map (owed_to_domain h number g o) (domains_of h)) (operators_of h number)

  abbrev questions : List Owed
  questions = flat_map (λ o. owed_question h number o (s.asks o)) (operators_of h number)

  abbrev watches' : List Owed
  watches' = flat_map (owed_watch h number g.boot s) (range_with_len 1 (domain_count h + device_count h))

  -- the kinds of places in each part
  child_at : (u : Owed) → In u children → (x : ℕ) × (1 ≤ x) × (u.place ≡ place.Child x)
  child_at u i =
      let b = from_flat (λ x. owed_to_child h number g x (parent_of h x)) u (domains_of h) i in
      (b.0, (from_range b.0 1 (domain_count h) b.1).0, child_place b.0 (parent_of h b.0) u b.2)

  operator_at : (u : Owed) → In u operators → (o : ℕ) × (d : ℕ) × (n : ℕ) × (u.place ≡ place.Link o d n)
  operator_at u i =
      let b = from_flat (λ o. flat_map (owed_to_domain h number g o) (domains_of h)) u (operators_of h number) i in
      let c = from_flat (owed_to_domain h number g b.0) u (domains_of h) b.2 in
      let p = domain_place b.0 c.0 u c.2 in
      (b.0, c.0, p.0, p.1)

  question_at : (u : Owed) → In u questions → (o : ℕ) × (u.place ≡ place.Ask o)
  question_at u i =
      let b = from_flat (λ o. owed_question h number o (s.asks o)) u (operators_of h number) i in
      (b.0, question_place b.0 (s.asks b.0) u b.2)

  watch_at : (u : Owed) → In u watches' → (x : ℕ) × (u.place ≡ place.Watch x)
  watch_at u i =
      let b = from_flat (owed_watch h number g.boot s) u (range_with_len 1 (domain_count h + device_count h)) i in
      (b.0, watch_place b.0 u b.2)

  module _ (sound : IsSound h g) where
    child_ascends : (x : ℕ) (o : Option ℕ) → Ascends Earlier (owed_to_child h number g x o)
    child_ascends x None = tt
    child_ascends x (Some p) = by (is_keeper h number p)
      where
        by : (b : Bool) → Ascends Earlier (if b then map (λ due. owed (place.Child x) (requests h number
            (Domain p) x due))
            (all_due (g.links (Domain p) x)) else [])
        by true = ascends_mapped Never Earlier (λ due. owed (place.Child x) (requests h number (Domain p) x due))
            (all_due (g.links (Domain p) x))
            (one_ascends Never (g.links (Domain p) x) (one_waits h (g.links (Domain p) x) (sound.child p x)))
            (λ u v wrong. absurd wrong)
        by false = tt

    domain_ascends : (o d : ℕ) → Ascends Earlier (owed_to_domain h number g o d)
    domain_ascends o d =
        ascends_mapped ByNumber Earlier
        (λ due. owed (place.Link o d (number_of_due due)) (requests h number (Operator o) d due))
        (all_due (g.links (Operator o) d)) (dues_ascend (g.links (Operator o) d))
        (λ u v less. inr (refl, inr (refl, inr (refl, less))))

    question_ascends : (o : ℕ) (a : Option ℕ) → Ascends Earlier (owed_question h number o a)
    question_ascends o None = tt
    question_ascends o (Some d) = (λ y i. absurd i, tt)

    watch_ascends : (x : ℕ) → Ascends Earlier (owed_watch h number g.boot s x)
    watch_ascends x = by (is_watched h number s x)
      where
        by : (b : Bool) → Ascends Earlier (if b then owed (place.Watch x) (watches h number g.boot x) ∷ [] else [])
        by true = (λ y i. absurd i, tt)
        by false = tt

    children_ascend : Ascends Earlier children
    children_ascend =
        ascends_flat Less Earlier (λ x. owed_to_child h number g x (parent_of h x)) (domains_of h)
        (ascends_range 1 (domain_count h)) (λ x i. child_ascends x (parent_of h x))
        (λ x y u v less i j. at_places u v (place.Child x) (place.Child y) (child_place x (parent_of h x) u i)
        (child_place y (parent_of h y) v j) (inr (refl, inl less)))

    operators_ascend : Ascends Earlier operators
    operators_ascend =
        ascends_flat Less Earlier (λ o. flat_map (owed_to_domain h number g o) (domains_of h)) (operators_of h number)
        (ascends_numbers (λ home. home == number) h.homes 1)
        (λ o i. ascends_flat Less Earlier (owed_to_domain h number g o) (domains_of h)
        (ascends_range 1 (domain_count h)) (λ d j. domain_ascends o d)
        (λ c d u v less k l. let a = domain_place o c u k in let b = domain_place o d v l in
        at_places u v (place.Link o c a.0) (place.Link o d b.0) a.1 b.1 (inr (refl, inr (refl, inl less)))))
        (λ o q u v less k l.
        let a = from_flat (owed_to_domain h number g o) u (domains_of h) k in
        let b = from_flat (owed_to_domain h number g q) v (domains_of h) l in
        let c = domain_place o a.0 u a.2 in
        let d = domain_place q b.0 v b.2 in
        at_places u v (place.Link o a.0 c.0) (place.Link q b.0 d.0) c.1 d.1 (inr (refl, inl less)))

    questions_ascend : Ascends Earlier questions
    questions_ascend =
        ascends_flat Less Earlier (λ o. owed_question h number o (s.asks o)) (operators_of h number)
        (ascends_numbers (λ home. home == number) h.homes 1) (λ o i. question_ascends o (s.asks o))
        (λ o q u v less i j. at_places u v (place.Ask o) (place.Ask q) (question_place o (s.asks o) u i)
        (question_place q (s.asks q) v j) (inr (refl, inl less)))

    watches_ascend : Ascends Earlier watches'
    watches_ascend =
        ascends_flat Less Earlier (owed_watch h number g.boot s) (range_with_len 1 (domain_count h + device_count h))
        (ascends_range 1 (domain_count h + device_count h)) (λ x i. watch_ascends x)
        (λ x y u v less i j. at_places u v (place.Watch x) (place.Watch y) (watch_place x u i) (watch_place y v j)
        (inr (refl, inl less)))

    -- all that is owed is ordered by place
    pub owed_ascends : Ascends Earlier (all_owed h number g s)
    owed_ascends =
        ascends_both Earlier (children ++ operators ++ questions) watches'
        (ascends_both Earlier (children ++ operators) questions
        (ascends_both Earlier children operators children_ascend operators_ascend
        (λ u v i j. let a = child_at u i in let b = operator_at v j in
        at_places u v (place.Child a.0) (place.Link b.0 b.1 b.2) a.2 b.3 (inl (omega arith))))
        questions_ascend
        (λ u v i j. let b = question_at v j in elim (in_both u children operators i) [
          | inl k ↦ let a = child_at u k in
              at_places u v (place.Child a.0) (place.Ask b.0) a.2 b.1 (inl (omega arith))
          | inr k ↦ let a = operator_at u k in
              at_places u v (place.Link a.0 a.1 a.2) (place.Ask b.0) a.3 b.1 (inl (omega arith))
        ]))
        watches_ascend
        (λ u v i j. let b = watch_at v j in elim (in_both u (children ++ operators) questions i) [
          | inl k ↦ elim (in_both u children operators k) [
            | inl l ↦ let a = child_at u l in
                at_places u v (place.Child a.0) (place.Watch b.0) a.2 b.1 (inl (omega arith))
            | inr l ↦ let a = operator_at u l in
                at_places u v (place.Link a.0 a.1 a.2) (place.Watch b.0) a.3 b.1 (inl (omega arith))
          ]
          | inr k ↦ let a = question_at u k in
              at_places u v (place.Ask a.0) (place.Watch b.0) a.1 b.1 (inl (omega arith))
        ])

  not_first : (u : Owed) (p : ResendCursor) → u.place ≡ p → NotBefore p first_place → NotBefore u.place first_place
  not_first u p is n = subst (λ z. NotBefore z first_place) (sym is) n

  -- and nothing before the first place
  pub owed_begins : (u : Owed) → In u (all_owed h number g s) → NotBefore u.place first_place
  owed_begins u i = elim (in_both u (children ++ operators ++ questions) watches' i) [
    | inl j ↦ elim (in_both u (children ++ operators) questions j) [
      | inl k ↦ elim (in_both u children operators k) [
        | inl l ↦ let a = child_at u l in not_first u (place.Child a.0) a.2 (child a.0 a.1)
        | inr l ↦ let a = operator_at u l in not_first u (place.Link a.0 a.1 a.2) a.3 (λ b. grind (arith, b))
      ]
      | inr k ↦ let a = question_at u k in not_first u (place.Ask a.0) a.1 (λ b. grind (arith, b))
    ]
    | inr j ↦ let a = watch_at u j in not_first u (place.Watch a.0) a.1 (λ b. grind (arith, b))
  ]
    where
      child : (x : ℕ) → 1 ≤ x → NotBefore (place.Child x) first_place
      child x least b = grind (arith, least, b)

-- What a link is due is owed.

-- an operator of the station is among them
pub among_operators : (h : Hierarchy) (number o : ℕ) → operator_station_of h o ≡ Some number
    → In o (operators_of h number)
among_operators h number zero is = absurd cc
among_operators h number (suc i) is =
    subst (λ z. In z (operators_of h number)) (next i)
    (in_numbers (λ home. home == number) h.homes 1 i number (ap (slice_get h.homes) (back i) ∙ rw (positive i) at is)
    (number_self number))
  where
    positive : (n : ℕ) → (suc n == 0) ≡ false
    positive n = grind (arith, nat_tests)

    back : (n : ℕ) → n ≡ suc n - 1
    back n = omega arith

    next : (n : ℕ) → n + 1 ≡ suc n
    next n = omega arith

-- it is owed at a place for links
pub record IsOwed (h : Hierarchy) (number : ℕ) (g : Grants) (s : Display) (who : Holder) (d : ℕ)
    (due : Due) : Type 0 where
  pub owing : Owed
  pub among : In owing (all_owed h number g s)
  pub message : owing.message ≡ requests h number who d due
  pub low : kind owing.place ≤ 1

-- what is owed for links comes first
first_parts : (h : Hierarchy) (number : ℕ) (g : Grants) (s : Display) (it : Owed)
    → In it (children h number g s ++ operators h number g s) → In it (all_owed h number g s)
first_parts h number g s it i =
    in_first it (children h number g s ++ operators h number g s ++ questions h number g s) (watches' h number g s)
    (in_first it (children h number g s ++ operators h number g s) (questions h number g s) i)

pub due_owed : (h : Hierarchy) (number : ℕ) (g : Grants) (s : Display) (who : Holder) (d : ℕ) (due : Due)
    → has_place h number d who ≡ true → due_of (g.links who d) 0 ≡ Some due → IsOwed h number g s who d due
due_owed h number g s Free d due here is =
    absurd (let wrong : false ≡ true = (and_parts (is_holder_of h d Free) _ (and_parts
    (has_domain h d) _ here).1).1 in cc)
due_owed h number g s (Operator o) d due here is =
    let a = and_parts (has_domain h d) _ here in
    let b = and_parts (is_holder_of h d (Operator o)) _ a.1 in
    let within = is_within 1 (domain_count h) d a.0 in
    let due_at : In due (all_due (g.links (Operator o) d)) = in_chosen (due_of (g.links (Operator o) d)) 0 due
    (range_with_len 0 most_pending) (in_range 0 0 most_pending (omega arith) (omega arith)) is in
    let mine = among_operators h number o (number_is (operator_station_of h o) number b.1) in
    let it = owed (place.Link o d (number_of_due due)) (requests h number (Operator o) d due) in
    record {
      owing = it;
      among = first_parts h number g s it (in_second it (children h number g s) (operators h number g s)
          (in_flat (λ o. flat_map (owed_to_domain h number g o) (domains_of h)) o it (operators_of h number) mine
          (in_flat (owed_to_domain h number g o) d it (domains_of h)
          (in_range d 1 (domain_count h) within.least (omega (arith, within.most)))
          (in_mapped (λ due. owed (place.Link o d (number_of_due due)) (requests h number (Operator o) d due)) due
          (all_due (g.links (Operator o) d)) due_at))));
      message = refl;
      low = omega arith;
    }
due_owed h number g s (Domain p) d due here is =
    let a = and_parts (has_domain h d) _ here in
    let b = and_parts (is_holder_of h d (Domain p)) _ a.1 in
    let within = is_within 1 (domain_count h) d a.0 in
    let due_at : In due (all_due (g.links (Domain p) d)) = in_chosen (due_of (g.links (Domain p) d)) 0 due
    (range_with_len 0 most_pending) (in_range 0 0 most_pending (omega arith) (omega arith)) is in
    let it = owed (place.Child d) (requests h number (Domain p) d due) in
    let parent : parent_of h d ≡ Some p = number_is (parent_of h d) p b.0 in
    record {
      owing = it;
      among = first_parts h number g s it (in_first it (children h number g s) (operators h number g s)
          (in_flat (λ x. owed_to_child h number g x (parent_of h x)) d it (domains_of h)
          (in_range d 1 (domain_count h) within.least (omega (arith, within.most)))
          (subst (λ o. In it (owed_to_child h number g d o)) (sym parent) (kept it b.1
          (in_mapped (λ due. owed (place.Child d) (requests h number (Domain p) d due)) due
          (all_due (g.links (Domain p) d)) due_at)))));
      message = refl;
      low = omega arith;
    }
  where
    kept : (it : Owed) → is_keeper h number p ≡ true
        → In it (map (λ due. owed (place.Child d) (requests h number (Domain p) d due)) (all_due (g.links
        (Domain p) d)))
        → In it (owed_to_child h number g d (Some p))
    kept it k i = rw k i
