-- How the places of a tick are ordered.
use Rattle.std.proofs.Common.{ℕ, ◌≡◌, ◌<◌, ◌+◌, Bool, true, false, ◌⊎◌, inl, inr, refl, arith}
use Rattle.std.specs.Prelude.{◌==◌, ◌&&◌, ◌||◌, nat_lt, nat_le, if◌then◌else◌}
use Rattle.std.proofs.lemmas.Bool.Decides.{nat_tests}
use Rattle.smi_tree.specs.Hierarchy.{Hierarchy}
use Rattle.smi_tree.specs.Lookups.{domain_count, device_count}
use Rattle.smi_protocol.specs.Ticking.{first_place, is_before, next_place}
use Rattle.smi_protocol.specs.declared.ResendCursor.{ResendCursor}
use Rattle.smi_protocol.specs.declared.ResendCursor.TheVariants as place

-- the kind of a place, and its numbers
abbrev pub kind : ResendCursor → ℕ
kind (place.Child x) = 0
kind (place.Link o d n) = 1
kind (place.Ask o) = 2
kind (place.Watch x) = 3

abbrev pub major : ResendCursor → ℕ
major (place.Child x) = x
major (place.Link o d n) = o
major (place.Ask o) = o
major (place.Watch x) = x

abbrev pub middle : ResendCursor → ℕ
middle (place.Child x) = 0
middle (place.Link o d n) = d
middle (place.Ask o) = 0
middle (place.Watch x) = 0

abbrev pub minor : ResendCursor → ℕ
minor (place.Child x) = 0
minor (place.Link o d n) = n
minor (place.Ask o) = 0
minor (place.Watch x) = 0

abbrev pub Lower : ℕ → ℕ → ℕ → ℕ → ℕ → ℕ → ℕ → ℕ → Type 0
Lower k a b c l d e f = (k < l) ⊎ ((k ≡ l) × ((a < d) ⊎ ((a ≡ d) × ((b < e) ⊎ ((b ≡ e) × (c < f))))))

-- one place precedes another
abbrev pub Before : ResendCursor → ResendCursor → Type 0
Before p q = Lower (kind p) (major p) (middle p) (minor p) (kind q) (major q) (middle q) (minor q)

one_before : (x y : ℕ) → (nat_lt x y || (x == y && false)) ≡ true → x < y
one_before x y t = grind (arith, nat_tests)

one_true : (x y : ℕ) → x < y → (nat_lt x y || (x == y && false)) ≡ true
one_true x y l = grind (arith, nat_tests)

three_before : (a b c d e f : ℕ)
    → (nat_lt a d || (a == d && (nat_lt b e || (b == e && (nat_lt c f || (c == f && false)))))) ≡ true
    → (a < d) ⊎ ((a ≡ d) × ((b < e) ⊎ ((b ≡ e) × (c < f))))
three_before a b c d e f t = grind (arith, nat_tests)

three_true : (a b c d e f : ℕ) → (a < d) ⊎ ((a ≡ d) × ((b < e) ⊎ ((b ≡ e) × (c < f))))
    → (nat_lt a d || (a == d && (nat_lt b e || (b == e && (nat_lt c f || (c == f && false)))))) ≡ true
three_true a b c d e f l = grind (arith, nat_tests)

pub is_before_is : (p q : ResendCursor) → is_before p q ≡ true → Before p q
is_before_is (place.Child x) (place.Child y) t = inr (refl, inl (one_before x y t))
is_before_is (place.Child x) (place.Link o d n) t = inl (omega arith)
is_before_is (place.Child x) (place.Ask o) t = inl (omega arith)
is_before_is (place.Child x) (place.Watch y) t = inl (omega arith)
is_before_is (place.Link o d n) (place.Child y) t = absurd cc
is_before_is (place.Link o d n) (place.Link p e m) t = inr (refl, three_before o d n p e m t)
is_before_is (place.Link o d n) (place.Ask p) t = inl (omega arith)
is_before_is (place.Link o d n) (place.Watch y) t = inl (omega arith)
is_before_is (place.Ask o) (place.Child y) t = absurd cc
is_before_is (place.Ask o) (place.Link p e m) t = absurd cc
is_before_is (place.Ask o) (place.Ask p) t = inr (refl, inl (one_before o p t))
is_before_is (place.Ask o) (place.Watch y) t = inl (omega arith)
is_before_is (place.Watch x) (place.Child y) t = absurd cc
is_before_is (place.Watch x) (place.Link p e m) t = absurd cc
is_before_is (place.Watch x) (place.Ask p) t = absurd cc
is_before_is (place.Watch x) (place.Watch y) t = inr (refl, inl (one_before x y t))

only_major : (x y : ℕ) → Lower 0 x 0 0 0 y 0 0 → x < y
only_major x y l = grind (arith, l)

pub before_is_before : (p q : ResendCursor) → Before p q → is_before p q ≡ true
before_is_before (place.Child x) (place.Child y) l = one_true x y (grind (arith, l))
before_is_before (place.Child x) (place.Link o d n) l = refl
before_is_before (place.Child x) (place.Ask o) l = refl
before_is_before (place.Child x) (place.Watch y) l = refl
before_is_before (place.Link o d n) (place.Child y) l = absurd (grind (arith, l))
before_is_before (place.Link o d n) (place.Link p e m) l = three_true o d n p e m (elim l [
  | inl less ↦ absurd (omega (arith, less))
  | inr same ↦ same.1
])
before_is_before (place.Link o d n) (place.Ask p) l = refl
before_is_before (place.Link o d n) (place.Watch y) l = refl
before_is_before (place.Ask o) (place.Child y) l = absurd (grind (arith, l))
before_is_before (place.Ask o) (place.Link p e m) l = absurd (grind (arith, l))
before_is_before (place.Ask o) (place.Ask p) l = one_true o p (grind (arith, l))
before_is_before (place.Ask o) (place.Watch y) l = refl
before_is_before (place.Watch x) (place.Child y) l = absurd (grind (arith, l))
before_is_before (place.Watch x) (place.Link p e m) l = absurd (grind (arith, l))
before_is_before (place.Watch x) (place.Ask p) l = absurd (grind (arith, l))
before_is_before (place.Watch x) (place.Watch y) l = one_true x y (grind (arith, l))

-- the numbers of one are before those of the other, or the same, or after them
abbrev pub NotBefore : ResendCursor → ResendCursor → Type 0
NotBefore p q = Before p q → ⊥

lower_on : (k a b c l d e f m g i j : ℕ) → Lower k a b c l d e f → Lower l d e f m g i j → Lower k a b c m g i j
lower_on k a b c l d e f m g i j x y = grind arith

pub before_on : (p q s : ResendCursor) → Before p q → Before q s → Before p s
before_on p q s x y = lower_on (kind p) (major p) (middle p) (minor p) (kind q) (major q) (middle q) (minor q) (kind s)
    (major s) (middle s) (minor s) x y

lower_around : (k a b c l d e f m g i j : ℕ) → Lower k a b c l d e f → (Lower m g i j l d e f → ⊥)
    → Lower k a b c m g i j
lower_around k a b c l d e f m g i j x y = grind arith

-- what is before a place is before all that is not before it
pub before_around : (p q s : ResendCursor) → Before p q → NotBefore s q → Before p s
before_around p q s x y = lower_around (kind p) (major p) (middle p) (minor p) (kind q) (major q) (middle q) (minor q)
    (kind s) (major s) (middle s) (minor s) x y

-- The place after a place.

-- it is the first one, or the next one
pub record Follows (p q : ResendCursor) : Type 0 where
  pub behind : Before p q
  pub next : (s : ResendCursor) → Before p s → NotBefore s q

next_child : (x : ℕ) (s : ResendCursor) → Before (place.Child x) s → NotBefore s (place.Child (x + 1))
next_child x (place.Child y) a b = grind (arith, a, b)
next_child x (place.Link o d n) a b = grind (arith, b)
next_child x (place.Ask o) a b = grind (arith, b)
next_child x (place.Watch y) a b = grind (arith, b)

next_link : (o d n : ℕ) (s : ResendCursor) → Before (place.Link o d n) s → NotBefore s (place.Link o d (n + 1))
next_link o d n (place.Child y) a b = grind (arith, a)
next_link o d n (place.Link p e m) a b = grind (arith, a, b)
next_link o d n (place.Ask p) a b = grind (arith, b)
next_link o d n (place.Watch y) a b = grind (arith, b)

next_ask : (o : ℕ) (s : ResendCursor) → Before (place.Ask o) s → NotBefore s (place.Ask (o + 1))
next_ask o (place.Child y) a b = grind (arith, a)
next_ask o (place.Link p e m) a b = grind (arith, a)
next_ask o (place.Ask p) a b = grind (arith, a, b)
next_ask o (place.Watch y) a b = grind (arith, b)

next_watch : (x : ℕ) (s : ResendCursor) → Before (place.Watch x) s → NotBefore s (place.Watch (x + 1))
next_watch x (place.Child y) a b = grind (arith, a)
next_watch x (place.Link o d n) a b = grind (arith, a)
next_watch x (place.Ask o) a b = grind (arith, a)
next_watch x (place.Watch y) a b = grind (arith, a, b)

-- the place after a place is the next one, but after a watch it may be the first
pub next_or_first : (h : Hierarchy) (p : ResendCursor)
    → Follows p (next_place h p) ⊎ ((kind p ≡ 3) × (next_place h p ≡ first_place))
next_or_first h (place.Child x) = inl (record { behind = inr (refl, inl (omega arith)); next = next_child x })
next_or_first h (place.Link o d n) =
    inl (record { behind = inr (refl, inr (refl, inr (refl, omega arith))); next = next_link o d n })
next_or_first h (place.Ask o) = inl (record { behind = inr (refl, inl (omega arith)); next = next_ask o })
next_or_first h (place.Watch x) = by (nat_le (domain_count h + device_count h) x)
  where
    by : (b : Bool) → Follows (place.Watch x) (if b then first_place else place.Watch (x + 1))
        ⊎ ((kind (place.Watch x) ≡ 3) × ((if b then first_place else place.Watch (x + 1)) ≡ first_place))
    by true = inr (refl, refl)
    by false = inl (record { behind = inr (refl, inl (omega arith)); next = next_watch x })
