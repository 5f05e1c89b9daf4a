-- Versions are ordered, and who watches an object came by a watch.
use Rattle.std.proofs.Common.{ℕ, zero, suc, ◌≡◌, ◌<◌, ◌-◌, Bool, true, false, List, [], ◌∷◌, ◌⊎◌, inl, inr, refl, sym}
use Rattle.std.proofs.Common.{ap, ◌∙◌, subst, arith}
use Rattle.std.specs.Prelude.{◌==◌, ◌&&◌, ◌||◌, nat_lt, max, not, Option, Some, None, map, filter, slice_get}
use Rattle.std.specs.Prelude.{slice_set, unwrap_or, if◌then◌else◌}
use Rattle.std.proofs.lemmas.Bool.{and_parts, eqb-true, ltb-true}
use Rattle.std.proofs.lemmas.Bool.Decides.{nat_tests}
use Rattle.smi_grant.specs.declared.Version.{Version}
use Rattle.smi_grant.proofs.Holders.{either}
use Rattle.smi_watchers.specs.declared.Watcher.{Watcher}
use Rattle.smi_watchers.specs.Watching.{watcher, is_of, others_of, renewed_by, watch_in, is_ended_by, unwatch_in}
use Rattle.smi_watchers.specs.Watching.{listed, with_list, watched, unwatched, left_by}
use Rattle.smi_protocol.specs.Display.{Display}
use Rattle.smi_protocol.specs.Watching.{lists_before, is_full, lists_after}
use Rattle.smi_law.specs.Safe.{IsNewer, IsNotOlder}
use Rattle.smi_law.proofs.Lists.{In}

-- Versions.

-- a version is newer by its boot, or by its sequence in the same boot
abbrev pub Later : Version → Version → Type 0
Later a b = (b.boot < a.boot) ⊎ ((a.boot ≡ b.boot) × (b.sequence < a.sequence))

pub newer_is : (a b : Version) → IsNewer a b → Later a b
newer_is a b t = elim (either (nat_lt b.boot a.boot)) [
  | inl less ↦ inl (ltb-true b.boot a.boot less)
  | inr f ↦
      let rest : (a.boot == b.boot && nat_lt b.sequence a.sequence)
      ≡ true = sym (ap (λ z. z || (a.boot == b.boot && nat_lt b.sequence a.sequence)) f) ∙ t in
      let parts = and_parts (a.boot == b.boot) _ rest in
      inr (eqb-true a.boot b.boot parts.0, ltb-true b.sequence a.sequence parts.1)
]

less_test : (m n : ℕ) → m < n → nat_lt m n ≡ true
less_test m n l = grind (arith, nat_tests)

same_test : (m n : ℕ) → m ≡ n → (m == n) ≡ true
same_test m n i = grind (arith, nat_tests)

or_true : (b : Bool) → (b || true) ≡ true
or_true true = refl
or_true false = refl

pub is_newer_by : (a b : Version) → Later a b → IsNewer a b
is_newer_by a b (inl less) = rw (less_test b.boot a.boot less) refl
is_newer_by a b (inr at) = rw (same_test a.boot b.boot at.0)
    (rw (less_test b.sequence a.sequence at.1) (or_true (nat_lt b.boot a.boot)))

later_than : (a b c : Version) → Later a b → Later b c → Later a c
later_than a b c (inl x) (inl y) = inl (omega (arith, x, y))
later_than a b c (inl x) (inr y) = let i = y.0 in inl (omega (arith, x, i))
later_than a b c (inr x) (inl y) = let i = x.0 in inl (omega (arith, i, y))
later_than a b c (inr x) (inr y) = let i = x.1 in let j = y.1 in inr (x.0 ∙ y.0, omega (arith, i, j))

pub newer_than : (a b c : Version) → IsNewer a b → IsNotOlder b c → IsNewer a c
newer_than a b c x (inl y) = is_newer_by a c (later_than a b c (newer_is a b x) (newer_is b c y))
newer_than a b c x (inr same) = subst (IsNewer a) same x

pub not_older_than : (a b c : Version) → IsNotOlder a b → IsNotOlder b c → IsNotOlder a c
not_older_than a b c (inl x) y = inl (newer_than a b c x y)
not_older_than a b c (inr same) y = subst (λ z. IsNotOlder z c) (sym same) y

-- Who watches.

from_filter : (test : Watcher → Bool) (w : Watcher) (ws : List Watcher) → In w (filter test ws) → In w ws
from_filter test w [] a = absurd a
from_filter test w (v ∷ ws) a = by (test v) a (λ b. from_filter test w ws b)
  where
    by : (b : Bool) → In w (if b then v ∷ filter test ws else filter test ws) → (In w (filter test ws) → In w ws)
        → In w (v ∷ ws)
    by true (inl is) rest = inl is
    by true (inr a') rest = inr (rest a')
    by false a' rest = inr (rest a')

max_either : (m n : ℕ) → (max m n ≡ m) ⊎ (max m n ≡ n)
max_either m n = grind arith

from_renewed : (w v : Watcher) (ws : List Watcher) (station echo : ℕ) → is_of station v ≡ true
    → In w (renewed_by echo v ∷ ws) → In w (v ∷ ws) ⊎ (w ≡ watcher station echo)
from_renewed w v ws station echo t (inr a) = inl (inr a)
from_renewed w v ws station echo t (inl is) = elim (max_either v.echo echo) [
  | inl old ↦ inl (inl (is ∙ ap (watcher v.station) old))
  | inr new ↦ inr (is ∙ ap (watcher v.station) new ∙ ap (λ z. watcher z echo) (eqb-true v.station station t))
]

from_watch : (w : Watcher) (ws : List Watcher) (station echo : ℕ) → In w (watch_in ws station echo)
    → In w ws ⊎ (w ≡ watcher station echo)
from_watch w [] station echo (inl is) = inr is
from_watch w [] station echo (inr a) = absurd a
from_watch w (v ∷ ws) station echo a = by (is_of station v) refl a (λ b. from_watch w ws station echo b)
  where
    by : (b : Bool) → is_of station v ≡ b → In w (if b then renewed_by echo v ∷ ws else v ∷ watch_in ws station echo)
        → (In w (watch_in ws station echo) → In w ws ⊎ (w ≡ watcher station echo))
        → In w (v ∷ ws) ⊎ (w ≡ watcher station echo)
    by true t a' rest = from_renewed w v ws station echo t a'
    by false t (inl is) rest = inl (inl is)
    by false t (inr a') rest = elim (rest a') [ inl b ↦ inl (inr b) | inr b ↦ inr b ]

in_entry : (w : Watcher) (o : Option (List Watcher)) → In w (unwrap_or o [])
    → (ws : List Watcher) × (o ≡ Some ws) × In w ws
in_entry w None a = absurd a
in_entry w (Some ws) a = (ws, refl, a)

set_get : (lists : List (List Watcher)) (i j : ℕ) (ws us : List Watcher)
    → slice_get (slice_set lists i ws) j ≡ Some us → (us ≡ ws) ⊎ (slice_get lists j ≡ Some us)
set_get [] i j ws us is = inr is
set_get (l ∷ lists) zero zero ws us is = let same : ws ≡ us = cc in inl (sym same)
set_get (l ∷ lists) zero (suc j) ws us is = inr is
set_get (l ∷ lists) (suc i) zero ws us is = inr is
set_get (l ∷ lists) (suc i) (suc j) ws us is = set_get lists i j ws us is

get_in : (lists : List (List Watcher)) (j : ℕ) (w : Watcher) (us : List Watcher) → slice_get lists j ≡ Some us
    → In w us → In w (unwrap_or (slice_get lists j) [])
get_in lists j w us is a = subst (λ z. In w (unwrap_or z [])) (sym is) a

from_list : (lists : List (List Watcher)) (x y : ℕ) (ws : List Watcher) (w : Watcher)
    → In w (listed (with_list lists x ws) y) → In w ws ⊎ In w (listed lists y)
from_list lists x y ws w a =
    let b = in_entry w (slice_get (slice_set lists (x - 1) ws) (y - 1)) a in
    elim (set_get lists (x - 1) (y - 1) ws b.0 b.1) [
      | inl same ↦ inl (subst (In w) same b.2)
      | inr old ↦ inr (get_in lists (y - 1) w b.0 old b.2)
    ]

pub from_left : (station : ℕ) (lists : List (List Watcher)) (j : ℕ) (w : Watcher)
    → In w (unwrap_or (slice_get (map (others_of station) lists) j) []) → In w (unwrap_or (slice_get lists j) [])
from_left station [] j w a = by j a
  where
    by : (k : ℕ) → In w (unwrap_or (slice_get [] k) []) → In w (unwrap_or (slice_get [] k) [])
    by k b = b
from_left station (l ∷ lists) zero w a = from_filter (λ v. not (is_of station v)) w l a
from_left station (l ∷ lists) (suc j) w a = from_left station lists j w a

-- the station watches some object
abbrev pub Somewhere : Watcher → List (List Watcher) → Type 0
Somewhere w lists = (y : ℕ) × In w (listed lists y)

-- a station that watches after a watch did so before, or by this watch
pub from_watched : (s : Display) (from x echo y : ℕ) (w : Watcher)
    → In w (listed (lists_after (lists_before s from echo) x from echo) y)
    → Somewhere w s.watchers ⊎ (w ≡ watcher from echo)
from_watched s from x echo y w a = full (is_full (lists_before s from echo) x from) a
  where
    before : (z : ℕ) → In w (listed (lists_before s from echo) z) → Somewhere w s.watchers
    before z i = choose (nat_lt (s.echoes from) echo) i
      where
        choose : (b : Bool) → In w (listed (if b then left_by from s.watchers else s.watchers) z)
            → Somewhere w s.watchers
        choose true j = (z, from_left from s.watchers (z - 1) w j)
        choose false j = (z, j)

    full : (b : Bool)
        → In w (listed (if b then lists_before s from echo else watched (lists_before s from echo) x from echo) y)
        → Somewhere w s.watchers ⊎ (w ≡ watcher from echo)
    full true i = inl (before y i)
    full false i =
        elim (from_list (lists_before s from echo) x y (watch_in (listed (lists_before s from echo) x) from echo) w i) [
          | inl new ↦ elim (from_watch w (listed (lists_before s from echo) x) from echo new) [
            | inl old ↦ inl (before x old)
            | inr it ↦ inr it
          ]
          | inr old ↦ inl (before y old)
        ]

-- a station that watches after an unwatch did so before
pub from_unwatched : (lists : List (List Watcher)) (from x echo y : ℕ) (w : Watcher)
    → In w (listed (unwatched lists x from echo) y) → Somewhere w lists
from_unwatched lists from x echo y w a = elim (from_list lists x y (unwatch_in (listed lists x) from echo) w a) [
  | inl kept ↦ (x, from_filter (λ v. not (is_ended_by from echo v)) w (listed lists x) kept)
  | inr old ↦ (y, old)
]

pub in_place : (ws : List Watcher) (i : ℕ) (w : Watcher) → slice_get ws i ≡ Some w → In w ws
in_place [] i w is = absurd (nothing i is)
  where
    nothing : (j : ℕ) → slice_get [] j ≡ Some w → ⊥
    nothing j at = cc
in_place (v ∷ ws) zero w is = let same : v ≡ w = cc in inl (sym same)
in_place (v ∷ ws) (suc i) w is = inr (in_place ws i w is)
