-- Whatever a link is due is sent within a bounded number of ticks, wherever they begin.
use Rattle.std.proofs.Common.{ℕ, zero, suc, ◌≡◌, ◌<◌, ◌≤◌, ◌+◌, ◌-◌, Bool, true, false, List, [], ◌∷◌, ◌⊎◌, inl, inr}
use Rattle.std.proofs.Common.{refl}
use Rattle.std.proofs.Common.{sym, ap, ◌∙◌, subst, arith}
use Rattle.std.proofs.lemmas.Bool.{ltb-false, ltb-true}
use Rattle.std.proofs.lemmas.Bool.Decides.{nat_tests}
use Rattle.std.specs.Prelude.{◌*◌, drop, nat_lt, ◌==◌, not, filter, take, length, if◌then◌else◌}
use Rattle.smi_command.proofs.Heard.{not_true}
use Rattle.smi_grant.proofs.Holders.{either}
use Rattle.smi_tree.specs.Hierarchy.{Hierarchy}
use Rattle.smi_protocol.proofs.Lists.{In, from_kept, from_taken}
use Rattle.smi_protocol.specs.Ticking.{Owed, first_place, is_before, most_sent, next_place, owed_from, place_behind}
use Rattle.smi_protocol.specs.declared.ResendCursor.{ResendCursor}
use Rattle.smi_law.proofs.Ascending.{Ascends}
use Rattle.smi_law.proofs.RestLists.{in_kept, in_parts, kept_behind, kept_most, kept_twice, others_there, some_there}
use Rattle.smi_law.proofs.Places.{kind, Before, NotBefore, Follows, before_around, before_is_before, before_on}
use Rattle.smi_law.proofs.Places.{is_before_is, next_or_first}

abbrev pub Earlier : Owed → Owed → Type 0
Earlier x y = Before x.place y.place

-- what is kept of a list that ascends ascends
kept_ascends : (test : Owed → Bool) (xs : List Owed) → Ascends Earlier xs → Ascends Earlier (filter test xs)
kept_ascends test [] a = tt
kept_ascends test (x ∷ xs) a = by (test x) (kept_ascends test xs a.1)
  where
    by : (b : Bool) → Ascends Earlier (filter test xs) → Ascends Earlier
        (if b then x ∷ filter test xs else filter test xs)
    by true rest = (λ y i. a.0 y (from_kept test y xs i), rest)
    by false rest = rest

-- a test of a filter
passes : {X : Type 0} (test : X → Bool) (y : X) (xs : List X) → In y (filter test xs) → test y ≡ true
passes test y [] a = absurd a
passes {X = X} test y (x ∷ xs) a = by (test x) refl a (λ b. passes test y xs b)
  where
    by : (b : Bool) → test x ≡ b → In y (if b then x ∷ filter test xs else filter test xs)
        → (In y (filter test xs) → test y ≡ true) → test y ≡ true
    by true is (inl same) rest = ap test same ∙ is
    by true is (inr i) rest = rest i
    by false is i rest = rest i

module _ (h : Hierarchy) where
  -- a tick that sends as much as it may: the last of it, which is after the others and before all that is left
  record IsFull (x : Owed) (n : ℕ) (xs : List Owed) : Type 0 where
    last : Owed
    among : In last (x ∷ take n xs)
    place : place_behind h x.place n (take n xs) ≡ next_place h last.place
    others : (u : Owed) → In u (x ∷ take n xs) → (u ≡ last) ⊎ Before u.place last.place
    left : (y : Owed) → In y (drop n xs) → Before last.place y.place

  full : (x : Owed) (n : ℕ) (xs : List Owed) → Ascends Earlier (x ∷ xs) → n ≤ length xs → IsFull x n xs
  full x zero xs a most = record {
    last = x;
    among = inl refl;
    place = refl;
    others = λ u i. elim i [ inl same ↦ inl same | inr none ↦ absurd none ];
    left = λ y i. a.0 y i;
  }
  full x (suc n) [] a most = absurd (omega (arith, most))
  full x (suc n) (u ∷ us) a most =
      let f = full u n us a.1 (omega (arith, most)) in
      record {
        last = f.last;
        among = inr f.among;
        place = ap (λ m. place_behind h u.place m (take n us)) (back n) ∙ f.place;
        others = λ z i. elim i [
          | inl same ↦ inr (subst (λ w. Before w.place f.last.place) (sym same) (a.0 f.last (elim f.among [
            | inl here ↦ inl here
            | inr there ↦ inr (from_taken f.last n us there)
          ])))
          | inr more ↦ f.others z more
        ];
        left = f.left;
      }
    where
      back : (m : ℕ) → suc m - 1 ≡ m
      back m = omega arith

  -- one that sends less ends at the first place
  short : (x : Owed) (n : ℕ) (xs : List Owed) → length xs < n → place_behind h x.place n (take n xs) ≡ first_place
  short x zero xs less = absurd (omega (arith, less))
  short x (suc n) [] less = ap (λ b. if b then next_place h x.place else first_place) (positive n)
    where
      positive : (m : ℕ) → (suc m == 0) ≡ false
      positive m = grind (arith, nat_tests)
  short x (suc n) (u ∷ us) less =
      ap (λ m. place_behind h u.place m (take n us)) (back n) ∙ short u n us (omega (arith, less))
    where
      back : (m : ℕ) → suc m - 1 ≡ m
      back m = omega arith

  module _ (all : List Owed) (ascends : Ascends Earlier all)
      (begun : (x : Owed) → In x all → NotBefore x.place first_place) where
    abbrev behind : ResendCursor → Owed → Bool
    behind p x = not (is_before x.place p)

    abbrev rest : ResendCursor → List Owed
    rest p = filter (behind p) all

    abbrev pub next : ResendCursor → ResendCursor
    next p = place_behind h first_place most_sent (owed_from p all)

    -- this many ticks send it, the first from this place
    abbrev pub SentWithin : Owed → ℕ → ResendCursor → Type 0
    SentWithin y zero p = ⊥
    SentWithin y (suc n) p = In y (owed_from p all) ⊎ SentWithin y n (next p)

    not_behind : (p : ResendCursor) (x : Owed) → behind p x ≡ true → NotBefore x.place p
    not_behind p x t b = let wrong : true ≡ false = sym (before_is_before x.place p b)
        ∙ not_true (is_before x.place p) t in cc

    is_behind : (p : ResendCursor) (x : Owed) → NotBefore x.place p → behind p x ≡ true
    is_behind p x n = elim (either (is_before x.place p)) [
      | inl t ↦ absurd (n (is_before_is x.place p t))
      | inr f ↦ ap not f
    ]

    -- what is left after a later place is less by all that was sent
    fewer : (p q : ResendCursor) (z : Owed) → In z (rest p) → Before z.place q
        → ((u : Owed) → In u (take most_sent (rest p)) → (u ≡ z) ⊎ Before u.place z.place)
        → most_sent ≤ length (rest p)
        → length (rest q) + most_sent ≤ length (rest p)
    fewer p q z i before front most =
        let a = kept_twice (behind q) (behind p) all
        (λ x j t. is_behind p x (λ b. not_behind q x t
        (before_on x.place z.place q (before_around x.place p z.place b
        (not_behind p z (passes (behind p) z all i))) before))) in
        let b = kept_behind (behind q) most_sent (rest p)
        (λ u j. elim (front u j) [
          | inl same ↦ ap not (before_is_before u.place q (subst (λ w. Before w.place q) (sym same) before))
          | inr lower ↦ ap not (before_is_before u.place q (before_on u.place z.place q lower before))
        ])
        most in
        omega (arith, a, b)

    -- A tick ends at the first place, or right after the last of all that it may send.
    record Goes (p : ResendCursor) (x : Owed) (xs : List Owed) : Type 0 where
      last : Owed
      place : next p ≡ next_place h last.place
      less : Before last.place (next p) → length (rest (next p)) + most_sent ≤ length (rest p)
      left : (y : Owed) → In y (drop 63 xs) → Before last.place y.place

    goes : (p : ResendCursor) (x : Owed) (xs : List Owed) → rest p ≡ x ∷ xs
        → ((next p ≡ first_place) × (length xs < 63)) ⊎ Goes p x xs
    goes p x xs is = elim (either (nat_lt (length xs) 63)) [
      | inl t ↦ inl (
        subst (λ zs. place_behind h first_place most_sent (take most_sent zs) ≡ first_place) (sym is)
            (short x 63 xs (ltb-true (length xs) 63 t)),
        ltb-true (length xs) 63 t,
      )
      | inr f ↦ inr (on (full x 63 xs (subst (Ascends Earlier) is (kept_ascends (behind p) all ascends))
          (ltb-false (length xs) 63 f)) (ltb-false (length xs) 63 f))
    ]
      where
        on : IsFull x 63 xs → 63 ≤ length xs → Goes p x xs
        on f most = record {
          last = f.last;
          place = subst (λ zs. place_behind h first_place most_sent (take most_sent zs)
              ≡ next_place h f.last.place) (sym is) f.place;
          less = λ before. fewer p (next p) f.last
              (subst (λ zs. In f.last zs) (sym is) (elim f.among [
                | inl here ↦ inl here
                | inr there ↦ inr (from_taken f.last 63 xs there)
              ]))
              before
              (λ u i. f.others u (subst (λ zs. In u (take most_sent zs)) is i))
              (let l : length (rest p) ≡ length (x ∷ xs) = ap length is in omega (arith, l, most));
          left = f.left;
        }

    -- A link's due after the place is sent, or the next tick begins after the place and before it.
    record Nears (p : ResendCursor) (y : Owed) : Type 0 where
      less : length (rest (next p)) + most_sent ≤ length (rest p)
      still : In y (rest (next p))

    nears : (p : ResendCursor) (y : Owed) → In y all → kind y.place ≤ 1 → (xs : List Owed) → rest p ≡ xs → In y xs
        → In y (owed_from p all) ⊎ Nears p y
    nears p y there low [] is i = absurd i
    nears p y there low (x ∷ xs) is (inl same) = inl (subst (λ zs. In y (take most_sent zs)) (sym is) (inl same))
    nears p y there low (x ∷ xs) is (inr i) = elim (in_parts y 63 xs i) [
      | inl sent ↦ inl (subst (λ zs. In y (take most_sent zs)) (sym is) (inr sent))
      | inr left ↦ elim (goes p x xs is) [
        | inl first ↦ let more = others_there y 63 xs left in let less = first.1 in absurd (omega (arith, more, less))
        | inr g ↦ inr (on g left (next_or_first h g.last.place))
      ]
    ]
      where
        lower : (a b : ResendCursor) → Before a b → kind a ≤ kind b
        lower a b l = grind (arith, l)

        kinds : (a b : ℕ) → a ≡ 3 → b ≤ 1 → a ≤ b → ⊥
        kinds a b e j k = omega arith

        on : (g : Goes p x xs) → In y (drop 63 xs) → Follows g.last.place (next_place h g.last.place)
            ⊎ ((kind g.last.place ≡ 3) × (next_place h g.last.place ≡ first_place)) → Nears p y
        on g left (inl f) = record {
          less = g.less (subst (Before g.last.place) (sym g.place) f.behind);
          still = in_kept (behind (next p)) y all there
              (is_behind (next p) y (subst (NotBefore y.place) (sym g.place) (f.next y.place (g.left y left))));
        }
        on g left (inr e) = absurd (kinds (kind g.last.place) (kind y.place) e.0 low
            (lower g.last.place y.place (g.left y left)))

    module _ (y : Owed) (there : In y all) (low : kind y.place ≤ 1) where
      near_sent : (n : ℕ) (p : ResendCursor) → length (rest p) ≤ most_sent * n → In y (rest p) → SentWithin y n p
      near_sent zero p most i = let l = some_there y (rest p) i in absurd (omega (arith, l, most))
      near_sent (suc n) p most i = elim (nears p y there low (rest p) refl i) [
        | inl sent ↦ inl sent
        | inr k ↦ inr (near_sent n (next p) (let l = k.less in omega (arith, l, most)) k.still)
      ]

      at_first : (n : ℕ) → length all ≤ most_sent * n → SentWithin y n first_place
      at_first n most =
          near_sent n first_place (let l = kept_most (behind first_place) all in omega (arith, l, most))
          (in_kept (behind first_place) y all there (is_behind first_place y (begun y there)))

      from_first : (n m : ℕ) (p : ResendCursor) → length all ≤ most_sent * m → next p ≡ first_place
          → SentWithin y (suc (n + m)) p
      from_first n m p most is =
          inr (subst (SentWithin y (n + m)) (sym is) (at_first (n + m) (omega (arith, most))))

      -- a tick that finds nothing, or that ends at the last place, is followed by one from the first
      ended : (n m : ℕ) (p : ResendCursor) → length all ≤ most_sent * m → (xs : List Owed) → rest p ≡ xs
          → ((q : ResendCursor) → length (rest q) + most_sent ≤ length (rest p) → next p ≡ q → SentWithin y (n
          + m) (next p))
          → SentWithin y (suc (n + m)) p
      ended n m p most [] is on = from_first n m p most
          (subst (λ zs. place_behind h first_place most_sent (take most_sent zs) ≡ first_place) (sym is) refl)
      ended n m p most (x ∷ xs) is on = elim (goes p x xs is) [
        | inl first ↦ from_first n m p most first.0
        | inr g ↦ by g (next_or_first h g.last.place)
      ]
        where
          by : (g : Goes p x xs) → Follows g.last.place (next_place h g.last.place)
              ⊎ ((kind g.last.place ≡ 3) × (next_place h g.last.place ≡ first_place)) → SentWithin y (suc (n + m)) p
          by g (inr wraps) = from_first n m p most (g.place ∙ wraps.1)
          by g (inl f) = inr (on (next p) (g.less (subst (Before g.last.place) (sym g.place) f.behind)) refl)

      far_sent : (n m : ℕ) (p : ResendCursor) → length (rest p) ≤ most_sent * n → length all ≤ most_sent * m
          → SentWithin y (suc (n + m)) p
      far_sent zero m p within most = elim (either (behind p y)) [
        | inl t ↦ near_sent (suc (zero + m)) p (omega (arith, within)) (in_kept (behind p) y all there t)
        | inr f ↦ ended zero m p most (rest p) refl (λ q less is. absurd (omega (arith, less, within)))
      ]
      far_sent (suc n) m p within most = elim (either (behind p y)) [
        | inl t ↦ near_sent (suc (suc n + m)) p (omega (arith, within)) (in_kept (behind p) y all there t)
        | inr f ↦ ended (suc n) m p most (rest p) refl (λ q less is.
            subst (λ z. SentWithin y z (next p)) (later n m)
            (subst (SentWithin y (suc (n + m))) (sym is) (far_sent n m q (omega (arith, less, within)) most)))
      ]
        where
          later : (a b : ℕ) → suc (a + b) ≡ suc a + b
          later a b = omega arith

      -- it is sent within this many ticks
      pub sent_within : (m : ℕ) → length all ≤ most_sent * m → (p : ResendCursor) → SentWithin y (suc (m + m)) p
      sent_within m most p = far_sent m m p (let l = kept_most (behind p) all in omega (arith, l, most)) most
