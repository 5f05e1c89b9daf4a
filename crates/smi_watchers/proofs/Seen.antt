-- What a caller sees of a change of the cells.
use Rattle.std.proofs.Common.{◌≡◌, ℕ, ◌-◌, ◌<◌, ◌≤◌, true, false, arith, inl, inr, List, [], ◌∷◌, ◌++◌, length, map}
use Rattle.std.proofs.Common.{get_or, set, Some, None, IsSome, unwrap_or, refl, sym, ap, ◌∙◌, subst, find, cond}
use Rattle.std.specs.Prelude.{position, option_map, nat_le}
use Rattle.std.proofs.lemmas.Bool.Decides.{nat_tests}
use Rattle.std.proofs.lemmas.Option.{unwrap_or-slice_get}
use Rattle.std.proofs.lemmas.List.{set-get_or}
use Rattle.smi_watchers.specs.declared.cell.Cell.{Cell}
use Rattle.smi_watchers.specs.declared.cell.Spot.{Spot}
use Rattle.smi_watchers.specs.declared.watcher.Watcher.{Watcher}
use Rattle.smi_watchers.specs.declared.lists.Axis.TheVariants.{Object}
use Rattle.smi_watchers.specs.Held.{found}
use Rattle.smi_watchers.specs.Net.{Net, cell_at, taken_out, put_in, with_newer}
use Rattle.smi_watchers.specs.Mesh.{In}
use Rattle.smi_watchers.specs.Walked.{step_at, steps_of, is_step_of, place_in}
use Rattle.smi_watchers.specs.Watching.{is_of, watch_in, others_of, answer_at, answer_in, listed, watched, unwatched}
use Rattle.smi_watchers.specs.Watching.{most_watchers, IsAudience}
use Rattle.smi_watchers.specs.Kept.{watcher_of, lists_of, IsKept}
use Rattle.smi_watchers.proofs.Meshes.{cell_of, held_by}
use Rattle.smi_watchers.proofs.Walks.{row_walked}
use Rattle.smi_watchers.proofs.Frames.{watcher_at}
use Rattle.smi_watchers.proofs.ListLemmas.{NoneOf, none_of, watch_behind, unwatch_none, unwatch_found, others_fewer}
use Rattle.smi_watchers.proofs.Listings.{many, row_list, audience_at, in_lists, kept_in, newer_lists, out_lists}

pub seen : (n : Net) (lists : List (List Watcher)) (x : ℕ) → lists_of n ≡ lists
    → listed lists x ≡ get_or (lists_of n) (x - 1) []
seen n lists x view = unwrap_or-slice_get lists (x - 1) [] ∙ ap (λ ls. get_or ls (x - 1) []) (sym view)

pub row_below : (n : Net) (lists : List (List Watcher)) (x : ℕ) → lists_of n ≡ lists → 1 ≤ x → x ≤ length lists
    → x - 1 < length n.objects
row_below n lists x view least most = let all = many n in let same = ap length view in
    omega (arith, all, same, least, most)

-- a station that does not watch comes in after the others
pub joins : (n : Net) (K : IsKept n) (lists : List (List Watcher)) (view : lists_of n ≡ lists) (p : Spot) (c : Cell)
    → found p.at n.held ≡ None → (x : ℕ)
    → c.object ≡ x - 1 → 1 ≤ x → x ≤ length lists → c.station ≤ 128
    → position (is_of c.station) (listed lists x) ≡ None → length (listed lists x) < most_watchers
    → IsKept (put_in p c n) × (lists_of (put_in p c n) ≡ watched lists x c.station c.echo)
joins n K lists view p c none x row least most few absent room =
    let ilt : c.object < length n.objects = subst (λ k. k < length n.objects) (sym row)
    (row_below n lists x view least most) in
    let heads = K.stations in
    let jlt : c.station < length n.stations = omega (arith, few, heads) in
    let known : listed lists x ≡ get_or (lists_of n) c.object [] = seen n lists x view
    ∙ ap (λ k. get_or (lists_of n) k []) (sym row) in
    let nobody = none_of c.station (listed lists x) absent in (
      kept_in n K p c none ilt jlt (subst (NoneOf c.station) known nobody)
          (subst (λ ws. length ws < most_watchers) known room),
      in_lists n K p c none ilt jlt
          ∙ (λ t. set (view t) (row t) (sym known t ++ watcher_of c ∷ []))
          ∙ ap (set lists (x - 1)) (sym (watch_behind c.station c.echo (listed lists x) nobody)),
    )

-- What a look for a station in an object's list finds.

test_same : (s : ℕ) (n : Net) (p : Spot) → is_step_of s (step_at n p) ≡ is_of s (watcher_at n p)
test_same s n p = refl

found_in : (s : ℕ) (n : Net) (ps : List Spot) (p : Spot) → place_in s (map (step_at n) ps) ≡ Some p
    → In p ps × ((cell_at n p).station ≡ s) × (find (is_of s) (map (watcher_at n) ps) ≡ Some (watcher_at n p))
found_in s n [] p e = cc
found_in s n (q ∷ qs) p e =
    (elim (is_of s (watcher_at n q)) as (λ b. is_of s (watcher_at n q) ≡ b
    → option_map (λ (x : Spot × Cell). x.0) (cond b (Some (step_at n q)) (find (is_step_of s) (map (step_at n) qs)))
    ≡ Some p
    → In p (q ∷ qs) × ((cell_at n p).station ≡ s)
    × (cond b (Some (watcher_at n q)) (find (is_of s) (map (watcher_at n) qs)) ≡ Some (watcher_at n p))) [
      | true ↦ λ is f.
          let same : q ≡ p = ap (λ o. unwrap_or o q) f in
          let own : (cell_at n q).station ≡ s = grind (arith, nat_tests) in (
            inl (sym same),
            subst (λ (z : Spot). (cell_at n z).station ≡ s) same own,
            ap (λ (z : Spot). Some (watcher_at n z)) same,
          )
      | false ↦ λ is f. let rest = found_in s n qs p f in (inr rest.0, rest.1, rest.2)
    ]) refl e

missed : (s : ℕ) (n : Net) (ps : List Spot) → place_in s (map (step_at n) ps) ≡ None → NoneOf s (map (watcher_at n) ps)
missed s n [] e = tt
missed s n (q ∷ qs) e =
    (elim (is_of s (watcher_at n q)) as (λ b. is_of s (watcher_at n q) ≡ b
    → option_map (λ (x : Spot × Cell). x.0) (cond b (Some (step_at n q)) (find (is_step_of s) (map (step_at n) qs)))
    ≡ None
    → NoneOf s (map (watcher_at n) (q ∷ qs))) [
      | true ↦ λ is f. cc
      | false ↦ λ is f. (is, missed s n qs f)
    ]) refl e

module _ (n : Net) (K : IsKept n) (lists : List (List Watcher)) (view : lists_of n ≡ lists) (x : ℕ) (least : 1 ≤ x)
    (most : x ≤ length lists) (s : ℕ) where
  rlt : x - 1 < length n.objects
  rlt = row_below n lists x view least most

  along : steps_of n (x - 1) ≡ map (step_at n) (K.whole.0 (x - 1))
  along = ap (map (step_at n)) (row_walked K.whole.0 K.whole.1 n K.whole.2 (x - 1) rlt).0

  all : listed lists x ≡ map (watcher_at n) (K.whole.0 (x - 1))
  all = seen n lists x view ∙ row_list K.whole.0 K.whole.1 n K.whole.2 (x - 1) rlt

  -- nobody: the station does not watch the object
  pub nobody : place_in s (steps_of n (x - 1)) ≡ None → NoneOf s (listed lists x)
  nobody e = subst (NoneOf s) (sym all) (missed s n (K.whole.0 (x - 1)) (ap (place_in s) (sym along) ∙ e))

  module _ (p : Spot) (e : place_in s (steps_of n (x - 1)) ≡ Some p) where
    at : In p (K.whole.0 (x - 1)) × ((cell_at n p).station ≡ s)
        × (find (is_of s) (map (watcher_at n) (K.whole.0 (x - 1))) ≡ Some (watcher_at n p))
    at = found_in s n (K.whole.0 (x - 1)) p (ap (place_in s) (sym along) ∙ e)

    -- its cell is held
    pub there : IsSome (found p.at n.held)
    there = held_by Object K.whole.0 n K.whole.2.objects (x - 1) p at.0

    own_row : (cell_at n p).object ≡ x - 1
    own_row = let b = K.whole.2.objects.belongs (x - 1) p at.0 in
        ap (λ (c : Cell). c.object) (cell_of n p b.0 b.1) ∙ b.2

    pub known : find (is_of s) (listed lists x) ≡ Some (watcher_at n p)
    known = ap (find (is_of s)) all ∙ at.2

    audience : IsAudience (listed lists x)
    audience = subst IsAudience (sym (seen n lists x view)) (audience_at n K (x - 1))

    pub answered : (echo : ℕ) → answer_at (Some (watcher_at n p)) echo ≡ answer_in (listed lists x) s echo
    answered echo = ap (λ o. answer_at o echo) (sym known)

    list_is : get_or (lists_of n) (cell_at n p).object [] ≡ listed lists x
    list_is = ap (λ k. get_or (lists_of n) k []) own_row ∙ sym (seen n lists x view)

    pub renewed_seen : (echo : ℕ) → lists_of (with_newer p echo n) ≡ watched lists x s echo
    renewed_seen echo = newer_lists n K p there echo
        ∙ (λ t. set (view t) (own_row t) (watch_in (list_is t) (at.1 t) echo))

    pub room_there : length (others_of s (listed lists x)) < most_watchers
    room_there = let fewer = others_fewer s (listed lists x) (watcher_at n p) known in
        omega (arith, fewer, audience.few)

    others_seen : lists_of (taken_out p n) ≡ set lists (x - 1) (others_of s (listed lists x))
    others_seen = out_lists n K p there ∙ (λ t. set (view t) (own_row t) (others_of (at.1 t) (list_is t)))

    pub ended_seen : (echo : ℕ) → (cell_at n p).echo ≤ echo → lists_of (taken_out p n) ≡ unwatched lists x s echo
    ended_seen echo old = others_seen ∙ ap (set lists (x - 1)) (
        let is : nat_le (cell_at n p).echo echo ≡ true = grind (arith, nat_tests) in
        sym (unwatch_found s echo (listed lists x) (watcher_at n p) audience.once known
        ∙ ap (λ b. cond b (others_of s (listed lists x)) (listed lists x)) is)
        )

    -- a newer echo stays
    pub kept_seen : (echo : ℕ) → echo < (cell_at n p).echo → lists ≡ unwatched lists x s echo
    kept_seen echo old =
        let is : nat_le (cell_at n p).echo echo ≡ false = grind (arith, nat_tests) in
        sym (ap (set lists (x - 1)) (
        unwatch_found s echo (listed lists x) (watcher_at n p) audience.once known
        ∙ ap (λ b. cond b (others_of s (listed lists x)) (listed lists x)) is
        ∙ unwrap_or-slice_get lists (x - 1) []
        ) ∙ set-get_or lists (x - 1) [])

  pub unwatched_nobody : (echo : ℕ) → place_in s (steps_of n (x - 1)) ≡ None → lists ≡ unwatched lists x s echo
  unwatched_nobody echo e =
      sym (ap (set lists (x - 1)) (unwatch_none s echo (listed lists x) (nobody e)
      ∙ unwrap_or-slice_get lists (x - 1) []) ∙ set-get_or lists (x - 1) [])
