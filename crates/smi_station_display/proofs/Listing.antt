-- Lists that are gone through one by one, and how long they are.
use Rattle.std.proofs.Common.{ℕ, zero, suc, ◌≡◌, ◌≤◌, ◌<◌, ◌+◌, Bool, true, false, List, [], ◌∷◌, inl, inr, ◌++◌}
use Rattle.std.proofs.Common.{length, map, take, drop, drop-cons, drop_of_length-le, append_assoc, append-nil, get_or}
use Rattle.std.proofs.Common.{refl, sym, ap, ◌∙◌, subst, arith}
use Rattle.std.specs.Prelude.{count_by, if◌then◌else◌}
use Rattle.std.specs.List.{AllByRecursion}
use Rattle.std.proofs.Math.ListN.{set}
use Rattle.std.proofs.lemmas.List.Recursion.{is_count_by}
use Rattle.std.proofs.lemmas.List.{take_all}
use Rattle.std.proofs.lemmas.Option.{slice_get_within}
use Rattle.smi_base.specs.declared.trees.TheConstants.{MOST_CHILDREN, MOST_DEVICES_OF_A_DOMAIN}
use Rattle.smi_tree.specs.Hierarchy.{Hierarchy, is_child_of, is_device_of}
use Rattle.smi_tree.specs.Lawful.{IsTree}
use Rattle.smi_tree.specs.Lookups.{children_of, device_count, devices_of, numbers_from, operators_of}
use Rattle.smi_protocol.specs.Showing.{Member}
use Rattle.smi_protocol.proofs.Lists.{In, from_numbers}
use Rattle.smi_station_display.specs.Members.{Listed, added, listed_of, nobody, one_more}

-- a list of which this many at the front have changed
pub so_far : {X : Type 0} → (X → X) → List X → ℕ → List X
so_far f [] i = []
so_far f (x ∷ xs) zero = x ∷ xs
so_far f (x ∷ xs) (suc i) = f x ∷ so_far f xs i

pub none_yet : {X : Type 0} (f : X → X) (xs : List X) → xs ≡ so_far f xs 0
unfolding so_far
none_yet f [] = refl
none_yet f (x ∷ xs) = refl

pub all_now : {X : Type 0} (f : X → X) (xs : List X) (i : ℕ) → length xs ≤ i → so_far f xs i ≡ map f xs
unfolding so_far
all_now f [] i past = refl
all_now f (x ∷ xs) zero past = absurd (omega (arith, past))
all_now f (x ∷ xs) (suc i) past = ap (λ ys. f x ∷ ys) (all_now f xs i (omega (arith, past)))

-- the next one changes
next : {X : Type 0} (f : X → X) (xs : List X) (i : ℕ) (v d : X) → i < length xs → f (get_or (so_far f xs i) i d) ≡ v
    → set (so_far f xs i) i v ≡ so_far f xs (suc i)
unfolding so_far
next f [] i v d within is = absurd (omega (arith, within))
next f (x ∷ xs) zero v d within is = ap (λ y. y ∷ xs) (sym is) ∙ ap (λ ys. f x ∷ ys) (none_yet f xs)
next f (x ∷ xs) (suc i) v d within is = ap (λ ys. f x ∷ ys) (next f xs i v d (omega (arith, within)) is)

pub changed_next : {X : Type 0} (f : X → X) (xs : List X) (i : ℕ) (v d : X) → i < length xs
    → f (get_or (so_far f xs i) i d) ≡ v → set (so_far f xs i) i v ≡ so_far f xs (i + 1)
changed_next f xs i v d within is = next f xs i v d within is ∙ ap (so_far f xs) (later i)
  where
    later : (i : ℕ) → suc i ≡ i + 1
    later i = omega arith

-- or stays
stays : {X : Type 0} (f : X → X) (xs : List X) (i : ℕ) (d : X) → i < length xs
    → f (get_or (so_far f xs i) i d) ≡ get_or (so_far f xs i) i d → so_far f xs i ≡ so_far f xs (suc i)
unfolding so_far
stays f [] i d within is = absurd (omega (arith, within))
stays f (x ∷ xs) zero d within is = ap (λ y. y ∷ xs) (sym is) ∙ ap (λ ys. f x ∷ ys) (none_yet f xs)
stays f (x ∷ xs) (suc i) d within is = ap (λ ys. f x ∷ ys) (stays f xs i d (omega (arith, within)) is)

pub unchanged_next : {X : Type 0} (f : X → X) (xs : List X) (i : ℕ) (d : X) → i < length xs
    → f (get_or (so_far f xs i) i d) ≡ get_or (so_far f xs i) i d → so_far f xs i ≡ so_far f xs (i + 1)
unchanged_next f xs i d within is = stays f xs i d within is ∙ ap (so_far f xs) (later i)
  where
    later : (i : ℕ) → suc i ≡ i + 1
    later i = omega arith

-- How many there are.

passing : {X : Type 0} → (X → Bool) → List X → ℕ
passing test [] = 0
passing test (x ∷ xs) = if test x then 1 + passing test xs else passing test xs

counted : {X : Type 0} (test : X → Bool) (k : ℕ) (rows : List X) → length (numbers_from test k rows) ≡ passing test rows
unfolding passing
counted test k [] = refl
counted test k (row ∷ rows) = by (test row) (counted test (k + 1) rows)
  where
    by : (b : Bool) → length (numbers_from test (k + 1) rows) ≡ passing test rows
        → length (if b then k ∷ numbers_from test (k + 1) rows else numbers_from test (k + 1) rows)
        ≡ (if b then 1 + passing test rows else passing test rows)
    by true rest = omega (arith, rest)
    by false rest = rest

numbers_counted : {X : Type 0} (test : X → Bool) (rows : List X)
    → length (numbers_from test 1 rows) ≡ count_by test rows
unfolding passing
numbers_counted test rows = counted test 1 rows ∙ is_count_by (passing test) test refl (λ x xs. refl) rows

-- what remains of a list, and the next of it
pub drop_next : {X : Type 0} (xs : List X) (i : ℕ) (d : X) → i < length xs → drop i xs ≡ get_or xs i d ∷ drop (i + 1) xs
drop_next xs i d within = drop-cons xs i d within ∙ ap (λ n. get_or xs i d ∷ drop n xs) (later i)
  where
    later : (i : ℕ) → suc i ≡ i + 1
    later i = omega arith

-- how many devices, children and operators at most
pub few_devices : (h : Hierarchy) → IsTree h → (d : ℕ) → length (devices_of h d) ≤ MOST_DEVICES_OF_A_DOMAIN
few_devices h tree d = subst (λ n. n ≤ MOST_DEVICES_OF_A_DOMAIN) (sym (numbers_counted (is_device_of d) h.devices))
    (tree.lawful.devices.of_domain d)

pub few_children : (h : Hierarchy) → IsTree h → (d : ℕ) → length (children_of h d) ≤ MOST_CHILDREN
few_children h tree d = subst (λ n. n ≤ MOST_CHILDREN) (sym (numbers_counted (is_child_of d) h.domains))
    (tree.lawful.domains.children d)

pub few_operators : (h : Hierarchy) → IsTree h → (number : ℕ) → length (operators_of h number) ≤ 8
few_operators h tree number = subst (λ n. n ≤ 8) (sym (numbers_counted _ h.homes))
    (tree.lawful.operators.of_station number)

-- what is at a place of a list is in it
pub in_at : {X : Type 0} (xs : List X) (i : ℕ) (d : X) → i < length xs → In (get_or xs i d) xs
in_at [] i d within = absurd (omega (arith, within))
in_at (x ∷ xs) zero d within = inl refl
in_at (x ∷ xs) (suc i) d within = inr (in_at xs i d (omega (arith, within)))

-- a device of a domain is one of the tree
pub device_within : (h : Hierarchy) → IsTree h → (d i e : ℕ) → i < length (devices_of h d)
    → get_or (devices_of h d) i e ≤ device_count h
device_within h tree d i e within =
    let b = from_numbers (is_device_of d) h.devices 1 (get_or (devices_of h d) i e)
    (in_at (devices_of h d) i e within) in
    let less = slice_get_within h.devices b.0 b.1 b.2 in
    let is = b.4 in
    omega (arith, less, is, tree.lawful.devices.rows)

-- a list in place of another of the same length
pub in_place_of : {X : Type 0} (xs ys : List X) (n : ℕ) → length ys ≡ length xs → length xs ≡ n
    → take n (ys ++ drop (length ys) xs) ≡ ys
in_place_of xs ys n same long =
    ap (λ zs. take n (ys ++ zs)) (drop_of_length-le xs (omega (arith, same)))
    ∙ ap (take n) (append-nil ys)
    ∙ take_all n ys (omega (arith, same, long))

-- Members are listed one after the other.

pub added_twice : (m : Listed) (xs ys : List Member) → added (added m xs) ys ≡ added m (xs ++ ys)
added_twice m [] ys = refl
added_twice m (x ∷ xs) ys = added_twice (one_more m x) xs ys

all_added : (m : Listed) (xs : List Member)
    → added m xs ≡ record {
      objects = m.objects ++ map (λ (x : Member). x.object) xs;
      states = m.states ++ map (λ (x : Member). x.state) xs;
    }
all_added m [] = rw (append-nil m.objects, append-nil m.states) refl
all_added m (x ∷ xs) =
    all_added (one_more m x) xs
    ∙ rw (
      append_assoc m.objects (x.object ∷ []) (map (λ (x : Member). x.object) xs),
      append_assoc m.states (x.state ∷ []) (map (λ (x : Member). x.state) xs),
    ) refl

pub added_first : (xs : List Member) → added nobody xs ≡ listed_of xs
added_first xs = all_added nobody xs

-- one more of which it holds
pub one_more_shown : {X : Type 0} (P : X → Type 0) (xs : List X) (x : X) → AllByRecursion P xs → P x
    → AllByRecursion P (xs ++ x ∷ [])
one_more_shown P [] x all is = (is, tt)
one_more_shown P (y ∷ xs) x all is = (all.0, one_more_shown P xs x all.1 is)
