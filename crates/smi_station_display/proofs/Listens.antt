-- What a watch finds of the lists.
use Rattle.std.proofs.Common.{ℕ, ◌≡◌, ◌<◌, ◌≤◌, ◌-◌, Bool, true, false, List, [], ◌∷◌, length, Option, Some, None}
use Rattle.std.proofs.Common.{refl, ap, ◌∙◌, arith}
use Rattle.std.specs.Prelude.{◌==◌, not, if◌then◌else◌, find, option_map, slice_get, unwrap_or}
use Rattle.std.proofs.lemmas.Bool.{eq-eqb}
use Rattle.std.proofs.lemmas.Bool.Decides.{nat_tests}
use Rattle.std.proofs.lemmas.Option.{slice_get-map}
use Rattle.std.specs.Prelude.{nat_eq, nat_lt}
use Rattle.std.specs.Option.{option_eq}
use Rattle.smi_tree.specs.Hierarchy.{Hierarchy}
use Rattle.smi_tree.specs.Lawful.{IsBetween, IsTree}
use Rattle.smi_tree.specs.Lookups.{operator_count, operator_station_of}
use Rattle.smi_tree.specs.Roles.{is_number}
use Rattle.smi_protocol.proofs.Ranges.{number_within}
use Rattle.smi_protocol.proofs.Tables.{number_is}
use Rattle.smi_station_display.specs.Listening.{forgotten}
use Rattle.smi_watchers.specs.declared.Watcher.{Watcher}
use Rattle.smi_watchers.specs.declared.answer.WatchAnswer.TheVariants.{Added}
use Rattle.smi_watchers.specs.Watching.{answer_at, answer_in, is_of, left_by, listed, most_watchers, others_of}
use Rattle.smi_protocol.specs.Watching.{is_full}

-- who has left once has left
others_twice : (from : ℕ) (ws : List Watcher) → others_of from (others_of from ws) ≡ others_of from ws
others_twice from [] = refl
others_twice from (w ∷ ws) = by (is_of from w) refl (others_twice from ws)
  where
    by : (b : Bool) → is_of from w ≡ b → others_of from (others_of from ws) ≡ others_of from ws
        → others_of from (if not b then w ∷ others_of from ws else others_of from ws)
        ≡ (if not b then w ∷ others_of from ws else others_of from ws)
    by true is rest = rest
    by false is rest = rw is (ap (λ zs. w ∷ zs) rest)

listed_left : (from : ℕ) (lists : List (List Watcher)) (x : ℕ)
    → listed (left_by from lists) x ≡ others_of from (listed lists x)
listed_left from lists x = rw (slice_get-map (others_of from) lists (x - 1)) (by (slice_get lists (x - 1)))
  where
    by : (o : Option (List Watcher)) → unwrap_or (option_map (others_of from) o) [] ≡ others_of from (unwrap_or o [])
    by None = refl
    by (Some ws) = refl

-- the list is as full for a station before and after it has left
pub full_left : (from : ℕ) (lists : List (List Watcher)) (x : ℕ)
    → is_full (left_by from lists) x from ≡ is_full lists x from
full_left from lists x = ap (λ ws. length ws == most_watchers)
    (ap (others_of from) (listed_left from lists x) ∙ others_twice from (listed lists x))

-- who has left is not found
nobody_left : (from : ℕ) (ws : List Watcher) → find (is_of from) (others_of from ws) ≡ None
nobody_left from [] = refl
nobody_left from (w ∷ ws) = by (is_of from w) refl (nobody_left from ws)
  where
    by : (b : Bool) → is_of from w ≡ b → find (is_of from) (others_of from ws) ≡ None
        → find (is_of from) (if not b then w ∷ others_of from ws else others_of from ws) ≡ None
    by true is rest = rest
    by false is rest = rw is rest

-- and is added again
pub left_adds : (from : ℕ) (lists : List (List Watcher)) (x echo : ℕ)
    → answer_in (listed (left_by from lists) x) from echo ≡ Added
left_adds from lists x echo =
    ap (λ ws. answer_in ws from echo) (listed_left from lists x)
    ∙ ap (λ o. answer_at o echo) (nobody_left from (listed lists x))

pub is_full_at : (lists : List (List Watcher)) (x from : ℕ)
    → length (others_of from (listed lists x)) ≡ most_watchers → is_full lists x from ≡ true
is_full_at lists x from full = eq-eqb (length (others_of from (listed lists x))) most_watchers full

pub has_room_at : (lists : List (List Watcher)) (x from : ℕ)
    → length (others_of from (listed lists x)) < most_watchers → is_full lists x from ≡ false
has_room_at lists x from room = below (length (others_of from (listed lists x))) room
  where
    below : (n : ℕ) → n < most_watchers → (n == most_watchers) ≡ false
    below n r = grind (arith, nat_tests)

-- an operator of a station is one of the tree
pub operator_within : (h : Hierarchy) → IsTree h → (o number : ℕ) → is_number (operator_station_of h o) number ≡ true
    → IsBetween 1 (operator_count h) o
operator_within h tree o number is =
    let there = number_within h.homes o number (number_is (operator_station_of h o) number is) in
    record { least = there.least; most = omega (arith, there.most, tree.lawful.operators.rows) }

-- a question that is about the domain, or not
pub forgets : (o : Option ℕ) (d : ℕ) → option_eq nat_eq o (Some d) ≡ true → forgotten d o ≡ None
forgets None d is = absurd cc
forgets (Some m) d is = rw is refl

pub keeps : (o : Option ℕ) (d : ℕ) → option_eq nat_eq o (Some d) ≡ false → forgotten d o ≡ o
keeps None d is = refl
keeps (Some m) d is = rw is refl

pub not_less : (n m : ℕ) → n ≤ m → nat_lt m n ≡ false
not_less n m less = grind (arith, nat_tests)
