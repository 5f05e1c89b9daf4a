-- What a watch and the end of a watch make of the list of one object.
use Rattle.std.proofs.Common.{◌≡◌, ◌≢◌, ℕ, zero, suc, ◌+◌, ◌<◌, Bool, true, false, not, List, [], ◌∷◌, ◌++◌, length}
use Rattle.std.proofs.Common.{get_or, filter, find, map, cond, refl, sym, ap, ◌∙◌, subst, arith, length-append}
use Rattle.std.proofs.Common.{Option, Some, None, unwrap_or}
use Rattle.std.specs.Prelude.{position, AllPairs, count_by, nat_le, nat_eq, ◌&&◌}
use Rattle.std.specs.List.{position_from}
use Rattle.std.proofs.lemmas.Bool.Decides.{nat_tests}
use Rattle.std.proofs.lemmas.List.Quantifiers.{all_pairs_push}
use Rattle.std.proofs.lemmas.List.Kept.{AllPairs-filter}
use Rattle.std.proofs.lemmas.List.Elements.{filter-append}
use Rattle.std.proofs.lemmas.List.Sums.{length-filter, count_by-le-length, sum_by-cons}
use Rattle.std.proofs.lemmas.List.{get_or-map, length-map}
use Rattle.std.proofs.lemmas.Iterator.Adapters.{position_from-zero}
use Rattle.smi_watchers.specs.declared.watcher.Watcher.{Watcher}
use Rattle.smi_watchers.specs.declared.answer.WatchAnswer.TheVariants.{Added}
use Rattle.smi_watchers.specs.Watching.{is_of, watcher, renewed_by, watch_in, unwatch_in, others_of, answer_in}
use Rattle.smi_watchers.specs.Watching.{answer_at, most_watchers, AreApart, IsAudience}

-- no watcher of a list is the station's
abbrev pub NoneOf : ℕ → List Watcher → Type 0
NoneOf s [] = Unit {0}
NoneOf s (w ∷ ws) = (is_of s w ≡ false) × NoneOf s ws

pub others_none : (s : ℕ) (ws : List Watcher) → NoneOf s ws → others_of s ws ≡ ws
others_none s [] h = refl
others_none s (w ∷ ws) h = rw h.0 (ap (λ vs. w ∷ vs) (others_none s ws h.1))

pub find_none : (s : ℕ) (ws : List Watcher) → NoneOf s ws → find (is_of s) ws ≡ None
find_none s [] h = refl
find_none s (w ∷ ws) h = rw h.0 (find_none s ws h.1)

pub unwatch_none : (s e : ℕ) (ws : List Watcher) → NoneOf s ws → unwatch_in ws s e ≡ ws
unwatch_none s e [] h = refl
unwatch_none s e (w ∷ ws) h = rw h.0 (ap (λ vs. w ∷ vs) (unwatch_none s e ws h.1))

pub watch_behind : (s e : ℕ) (ws : List Watcher) → NoneOf s ws → watch_in ws s e ≡ ws ++ watcher s e ∷ []
watch_behind s e [] h = refl
watch_behind s e (w ∷ ws) h = rw h.0 (ap (λ vs. w ∷ vs) (watch_behind s e ws h.1))

pub count_none : (s : ℕ) (ws : List Watcher) → NoneOf s ws → count_by (is_of s) ws ≡ 0
count_none s [] h = refl
count_none s (w ∷ ws) h =
    let all = sum_by-cons (λ v. cond (is_of s v) 1 0) w ws in let own = ap (λ b. cond {A = ℕ} b 1 0) h.0 in
    let rest = count_none s ws h.1 in omega (arith, all, own, rest)

none_from : (s i : ℕ) (ws : List Watcher) → NoneOf s ws → position_from (is_of s) i ws ≡ None
none_from s i [] h = refl
none_from s i (w ∷ ws) h = rw h.0 (none_from s (i + 1) ws h.1)

pub position_none : (s : ℕ) (ws : List Watcher) → NoneOf s ws → position (is_of s) ws ≡ None
position_none s ws h = position_from-zero (is_of s) ws ∙ none_from s 0 ws h

none_head : (b : Bool) (i : ℕ) (r : Option ℕ) → cond b (Some i) r ≡ None → (b ≡ false) × (r ≡ None)
none_head true i r none = cc
none_head false i r none = (refl, none)

from_none : (s i : ℕ) (ws : List Watcher) → position_from (is_of s) i ws ≡ None → NoneOf s ws
from_none s i [] none = tt
from_none s i (w ∷ ws) none = let head = none_head (is_of s w) i _ none in (head.0, from_none s (i + 1) ws head.1)

-- what `position` does not find is not there
pub none_of : (s : ℕ) (ws : List Watcher) → position (is_of s) ws ≡ None → NoneOf s ws
none_of s ws none = from_none s 0 ws (sym (position_from-zero (is_of s) ws) ∙ none)

-- a station that has left is nowhere
pub left_none : (s : ℕ) (ws : List Watcher) → NoneOf s (others_of s ws)
left_none s [] = tt
left_none s (w ∷ ws) =
    (elim (is_of s w) as (λ b. is_of s w ≡ b → NoneOf s (cond (not b) (w ∷ others_of s ws) (others_of s ws))) [
      | true ↦ λ e. left_none s ws
      | false ↦ λ e. (e, left_none s ws)
    ]) refl

-- In an audience no station occurs twice.

none_at : (s : ℕ) (ws : List Watcher) → ((j : ℕ) (d : Watcher) → j < length ws → s ≢ (get_or ws j d).station)
    → NoneOf s ws
none_at s [] h = tt
none_at s (w ∷ ws) h =
    let first : s ≢ w.station = h 0 w (omega arith) in
    (grind (arith, nat_tests), none_at s ws (λ j d lt. h (suc j) d (omega (arith, lt))))

pub once_head : (w : Watcher) (ws : List Watcher) → AllPairs AreApart (w ∷ ws) → NoneOf w.station ws
once_head w ws a = none_at w.station ws (λ j d lt. a 0 (suc j) d (omega arith) (omega (arith, lt)))

pub once_tail : (w : Watcher) (ws : List Watcher) → AllPairs AreApart (w ∷ ws) → AllPairs AreApart ws
once_tail w ws a i j d less lt = a (suc i) (suc j) d (omega (arith, less)) (omega (arith, lt))

none_mid : (s : ℕ) (A B : List Watcher) (v : Watcher) → NoneOf s (A ++ v ∷ B) → is_of s v ≡ false
none_mid s [] B v h = h.0
none_mid s (a ∷ A) B v h = none_mid s A B v h.1

-- the others are before and after
pub before_none : (A B : List Watcher) (v : Watcher) → AllPairs AreApart (A ++ v ∷ B) → NoneOf v.station A
before_none [] B v a = tt
before_none (w ∷ A) B v a =
    let apart : is_of w.station v ≡ false = none_mid w.station A B v (once_head w (A ++ v ∷ B) a) in
    (grind (arith, nat_tests), before_none A B v (once_tail w (A ++ v ∷ B) a))

pub behind_none : (A B : List Watcher) (v : Watcher) → AllPairs AreApart (A ++ v ∷ B) → NoneOf v.station B
behind_none [] B v a = once_head v B a
behind_none (w ∷ A) B v a = behind_none A B v (once_tail w (A ++ v ∷ B) a)

is_own : (v : Watcher) → is_of v.station v ≡ true
is_own v = grind (arith, nat_tests)

pub others_split : (A B : List Watcher) (v : Watcher) → AllPairs AreApart (A ++ v ∷ B)
    → others_of v.station (A ++ v ∷ B) ≡ A ++ B
others_split A B v a =
    filter-append (λ w. not (is_of v.station w)) A (v ∷ B)
    ∙ ap (λ vs. vs ++ others_of v.station (v ∷ B)) (others_none v.station A (before_none A B v a))
    ∙ ap (λ b. A ++ cond (not b) (v ∷ others_of v.station B) (others_of v.station B)) (is_own v)
    ∙ ap (λ vs. A ++ vs) (others_none v.station B (behind_none A B v a))

watch_split_at : (e : ℕ) (A B : List Watcher) (v : Watcher) → NoneOf v.station A
    → watch_in (A ++ v ∷ B) v.station e ≡ A ++ renewed_by e v ∷ B
watch_split_at e [] B v h = rw (is_own v) refl
watch_split_at e (a ∷ A) B v h = rw h.0 (ap (λ vs. a ∷ vs) (watch_split_at e A B v h.1))

pub watch_split : (e : ℕ) (A B : List Watcher) (v : Watcher) → AllPairs AreApart (A ++ v ∷ B)
    → watch_in (A ++ v ∷ B) v.station e ≡ A ++ renewed_by e v ∷ B
watch_split e A B v a = watch_split_at e A B v (before_none A B v a)

-- the one watcher of a station is all that it has to leave
pub count_found : (s : ℕ) (ws : List Watcher) (v : Watcher) → AllPairs AreApart ws → find (is_of s) ws ≡ Some v
    → count_by (is_of s) ws ≡ 1
count_found s [] v a found = cc
count_found s (w ∷ ws) v a found =
    sum_by-cons (λ x. cond (is_of s x) 1 0) w ws ∙
    (elim (is_of s w) as (λ b. is_of s w ≡ b → cond b (Some w) (find (is_of s) ws) ≡ Some v
    → cond b 1 0 + count_by (is_of s) ws ≡ 1) [
      | true ↦ λ e f. let same : w.station ≡ s = grind (arith, nat_tests) in
          ap (λ k. 1 + k) (count_none s ws (subst (λ k. NoneOf k ws) same (once_head w ws a)))
      | false ↦ λ e f. let rest = count_found s ws v (once_tail w ws a) f in omega (arith, rest)
    ]) refl found

pub unwatch_found : (s e : ℕ) (ws : List Watcher) (v : Watcher) → AllPairs AreApart ws → find (is_of s) ws ≡ Some v
    → unwatch_in ws s e ≡ cond (nat_le v.echo e) (others_of s ws) ws
unwatch_found s e [] v a found = cc
unwatch_found s e (w ∷ ws) v a found =
    (elim (is_of s w) as (λ b. is_of s w ≡ b → cond b (Some w) (find (is_of s) ws) ≡ Some v
    → cond (not (b && nat_le w.echo e)) (w ∷ unwatch_in ws s e) (unwatch_in ws s e)
    ≡ cond (nat_le v.echo e) (cond (not b) (w ∷ others_of s ws) (others_of s ws)) (w ∷ ws)) [
      | true ↦ λ is f.
          let same : w.station ≡ s = grind (arith, nat_tests) in
          let none : NoneOf s ws = subst (λ k. NoneOf k ws) same (once_head w ws a) in
          let one : w ≡ v = ap (λ o. unwrap_or o w) f in
          rw (unwatch_none s e ws none, others_none s ws none)
          (subst (λ (x : Watcher). cond (not (nat_le w.echo e)) (w ∷ ws) ws ≡ cond (nat_le x.echo e) ws (w ∷ ws)) one
          (elim (nat_le w.echo e) as (λ b. cond (not b) (w ∷ ws) ws ≡ cond b ws (w ∷ ws))
          [ true ↦ refl | false ↦ refl ]))
      | false ↦ λ is f. rw (unwatch_found s e ws v (once_tail w ws a) f)
          (elim (nat_le v.echo e) as (λ b. w ∷ cond b (others_of s ws) ws ≡ cond b (w ∷ others_of s ws) (w ∷ ws))
          [ true ↦ refl | false ↦ refl ])
    ]) refl found

-- some watcher is of the station: there is room without it
pub others_fewer : (s : ℕ) (ws : List Watcher) (v : Watcher) → find (is_of s) ws ≡ Some v
    → length (others_of s ws) < length ws
others_fewer s [] v found = cc
others_fewer s (w ∷ ws) v found =
    (elim (is_of s w) as (λ b. cond b (Some w) (find (is_of s) ws) ≡ Some v
    → length (cond (not b) (w ∷ others_of s ws) (others_of s ws)) < suc (length ws)) [
      | true ↦ λ f. omega (arith, length-filter (λ x. not (is_of s x)) ws, count_by-le-length (λ x. not (is_of s x)) ws)
      | false ↦ λ f. omega (arith, others_fewer s ws v f)
    ]) found

pub answer_none : (s e : ℕ) (ws : List Watcher) → NoneOf s ws → answer_in ws s e ≡ Added
answer_none s e ws h = ap (λ o. answer_at o e) (find_none s ws h)

-- The list stays an audience.

pub IsAudience-filter : (p : Watcher → Bool) (ws : List Watcher) → IsAudience ws → IsAudience (filter p ws)
IsAudience-filter p ws a = record {
  few = omega (arith, a.few, length-filter p ws, count_by-le-length p ws);
  once = AllPairs-filter AreApart p ws a.once;
}

none_each : (s : ℕ) (ws : List Watcher) → NoneOf s ws → (k : ℕ) (d : Watcher) → k < length ws
    → (get_or ws k d).station ≢ s
none_each s [] h k d lt = λ _. omega (arith, lt)
none_each s (w ∷ ws) h zero d lt = let other = h.0 in grind (arith, nat_tests)
none_each s (w ∷ ws) h (suc k) d lt = none_each s ws h.1 k d (omega (arith, lt))

pub IsAudience-append : (ws : List Watcher) (v : Watcher) → IsAudience ws → NoneOf v.station ws
    → length ws < most_watchers → IsAudience (ws ++ v ∷ [])
IsAudience-append ws v a none room = record {
  few = omega (arith, room, length-append ws (v ∷ []));
  once = all_pairs_push AreApart ws v a.once (none_each v.station ws none);
}

-- the same stations in the same order are an audience too
station_at : (ws : List Watcher) (i : ℕ) (d : Watcher) → i < length ws
    → (get_or ws i d).station ≡ get_or (map (λ (w : Watcher). w.station) ws) i 0
station_at ws i d lt = sym (get_or-map (λ (w : Watcher). w.station) ws i d 0 lt)

pub IsAudience-same : (vs ws : List Watcher)
    → map (λ (w : Watcher). w.station) vs ≡ map (λ (w : Watcher). w.station) ws → IsAudience ws → IsAudience vs
IsAudience-same vs ws e a =
    let many : length vs ≡ length ws = sym (length-map vs (λ (w : Watcher). w.station)) ∙ ap length e
    ∙ length-map ws (λ (w : Watcher). w.station) in
    record {
      few = omega (arith, a.few, many);
      once = λ i j d less lt same.
          let ilt : i < length vs = omega (arith, less, lt) in
          let iwt : i < length ws = omega (arith, ilt, many) in
          let jwt : j < length ws = omega (arith, lt, many) in
          a.once i j d less jwt (station_at ws i d iwt ∙ ap (λ l. get_or l i 0) (sym e) ∙ sym (station_at vs i d ilt)
          ∙ same
          ∙ station_at vs j d lt ∙ ap (λ l. get_or l j 0) e ∙ sym (station_at ws j d jwt));
    }

find_split_at : (A B : List Watcher) (v : Watcher) → NoneOf v.station A → find (is_of v.station) (A ++ v ∷ B) ≡ Some v
find_split_at [] B v h = rw (is_own v) refl
find_split_at (a ∷ A) B v h = rw h.0 (find_split_at A B v h.1)

pub find_split : (A B : List Watcher) (v : Watcher) → AllPairs AreApart (A ++ v ∷ B)
    → find (is_of v.station) (A ++ v ∷ B) ≡ Some v
find_split A B v a = find_split_at A B v (before_none A B v a)

-- whether a number is this
pub so_many : (k m : ℕ) → true ≡ nat_eq k m → k ≡ m
so_many k m e = grind (arith, nat_tests)

pub other_many : (k m : ℕ) → false ≡ nat_eq k m → k ≢ m
other_many k m e same = grind (arith, nat_tests)
