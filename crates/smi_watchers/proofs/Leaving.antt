-- A station leaves every list, one cell from the beginning of its own list after another.
use Rattle.std.proofs.Common.{◌≡◌, ◌≢◌, ℕ, suc, ◌+◌, ◌*◌, ◌-◌, ◌^◌, ◌<◌, ◌≤◌, true, false, not, arith, inl, inr, ◌⊎◌}
use Rattle.std.proofs.Common.{List, [], ◌∷◌, length, map, get_or, Some, None, IsSome, refl, sym, ap, ◌∙◌, subst, cond}
use Rattle.std.specs.Prelude.{count_by, nat_lt}
use denote.RawPtr.{Ptr}
use Rattle.std.proofs.lemmas.Bool.Decides.{nat_tests}
use Rattle.std.proofs.lemmas.List.{get_or_past}
use Rattle.std.proofs.lemmas.List.Sums.{sum_by-set, sum_by-cons, count_by-le-length, get_or-le-sum_by}
use Rattle.std.proofs.Math.Seq.{map-set_same}
use Rattle.std.proofs.Math.ListN.{get_or-map}
use Rattle.std.proofs.lemmas.Option.{unwrap_or-slice_get}
use Rattle.smi_watchers.specs.declared.cell.Cell.{Cell}
use Rattle.smi_watchers.specs.declared.cell.Spot.{Spot}
use Rattle.smi_watchers.specs.declared.watcher.Watcher.{Watcher}
use Rattle.smi_watchers.specs.declared.lists.Axis.TheVariants.{Object, Station}
use Rattle.smi_watchers.specs.Held.{found}
use Rattle.smi_watchers.specs.Net.{Net, cell_at, next, taken_out}
use Rattle.smi_watchers.specs.Mesh.{In}
use Rattle.smi_watchers.specs.Watching.{is_of, others_of, listed, left_by, entries_of, IsAudience}
use Rattle.smi_watchers.specs.Kept.{lists_of, IsKept}
use Rattle.smi_watchers.proofs.Rings.{same_refl}
use Rattle.smi_watchers.proofs.Meshes.{front_held, none_held, held_by, same_number, in_column}
use Rattle.smi_watchers.proofs.Frames.{watcher_at}
use Rattle.smi_watchers.proofs.ListLemmas.{NoneOf, others_none, left_none, count_none, count_found, find_split}
use Rattle.smi_watchers.proofs.Listings.{many, row_list, audience_at, out_lists, kept_out, row_there, split, apart}

-- while a station leaves: the lists without it are as at first, and what was looked at and what it still has are
-- all that it had
pub record IsLeaving (s : ℕ) (first n : Net) (visits : ℕ) : Type 0 where
  pub kept : IsKept n
  pub start : IsKept first
  pub lists : left_by s (lists_of n) ≡ left_by s (lists_of first)
  pub count : visits + entries_of s (lists_of n) ≡ entries_of s (lists_of first)

-- lists without the station

entries_cons : (s : ℕ) (ws : List Watcher) (lists : List (List Watcher))
    → entries_of s (ws ∷ lists) ≡ count_by (is_of s) ws + entries_of s lists
entries_cons s ws lists = sum_by-cons (count_by (is_of s)) ws lists

nowhere : (s : ℕ) (lists : List (List Watcher)) → ((i : ℕ) → NoneOf s (get_or lists i []))
    → (left_by s lists ≡ lists) × (entries_of s lists ≡ 0)
nowhere s [] h = (refl, refl)
nowhere s (ws ∷ lists) h =
    let rest = nowhere s lists (λ i. h (suc i)) in
    let none = count_none s ws (h 0) in let all = entries_cons s ws lists in let others = rest.1 in
    ((λ i. others_none s ws (h 0) i ∷ rest.0 i), omega (arith, none, all, others))

few_entries : (s : ℕ) (lists : List (List Watcher)) → ((i : ℕ) → IsAudience (get_or lists i []))
    → entries_of s lists ≤ length lists * 64
few_entries s [] h = omega arith
few_entries s (ws ∷ lists) h =
    let here = count_by-le-length (is_of s) ws in let few = (h 0).few in let all = entries_cons s ws lists in
    omega (arith, here, few, all, few_entries s lists (λ i. h (suc i)))

pub entries_fit : (s : ℕ) (n : Net) → IsKept n → entries_of s (lists_of n) < 2 ^ 32
entries_fit s n K = let few = few_entries s (lists_of n) (audience_at n K) in let all = many n in
    let objects = K.objects in omega (arith, few, all, objects)

pub below : (i k : ℕ) → (i < k) ⊎ (k ≤ i)
below i k = (elim (nat_lt i k) as (λ b. nat_lt i k ≡ b → (i < k) ⊎ (k ≤ i))
    [ true ↦ λ e. inl (grind (arith, nat_tests)) | false ↦ λ e. inr (grind (arith, nat_tests)) ]) refl

-- a cell that is held, in its station's count
own_count : (n : Net) (K : IsKept n) (p : Spot) (held : IsSome (found p.at n.held))
    → count_by (is_of (cell_at n p).station) (get_or (lists_of n) (cell_at n p).object []) ≡ 1
own_count n K p held =
    ap (count_by (is_of (cell_at n p).station)) (split n K p held)
    ∙ count_found (cell_at n p).station _ (watcher_at n p) (apart n K p held)
    (find_split _ _ (watcher_at n p) (apart n K p held))

module _ (n : Net) (K : IsKept n) (p : Spot) (held : IsSome (found p.at n.held)) where
  -- its station has one entry less without it
  fewer : entries_of (cell_at n p).station (lists_of (taken_out p n)) + 1
      ≡ entries_of (cell_at n p).station (lists_of n)
  fewer =
      let s = (cell_at n p).station in let ws = get_or (lists_of n) (cell_at n p).object [] in
      let gone = count_none s (others_of s ws) (left_none s ws) in
      let own = own_count n K p held in
      let sum = sum_by-set (count_by (is_of s)) (lists_of n) (cell_at n p).object (others_of s ws) []
      (row_there n K p held) in
      let new = ap (entries_of s) (out_lists n K p held) in
      omega (arith, gone, own, sum, new)

  -- and the others' lists are the same
  others_same : left_by (cell_at n p).station (lists_of (taken_out p n)) ≡ left_by (cell_at n p).station (lists_of n)
  others_same =
      let s = (cell_at n p).station in let ws = get_or (lists_of n) (cell_at n p).object [] in
      ap (left_by s) (out_lists n K p held) ∙ map-set_same (others_of s) (lists_of n) (cell_at n p).object
      (others_of s ws) [] (others_none s (others_of s ws) (left_none s ws))

module _ (s : ℕ) (slt : s < 129) (first n : Net) (visits : ℕ) (so : IsLeaving s first n visits) where
  there : s < length n.stations
  there = let heads = so.kept.stations in omega (arith, slt, heads)

  -- a look at a front cell
  module _ (p : Spot) (front : next Station s n None ≡ Some p) where
    held : IsSome (found p.at n.held) × ((cell_at n p).station ≡ s)
    held = front_held so.kept.whole.0 so.kept.whole.1 n so.kept.whole.2 s p there front

    pub front_there : IsSome (found p.at n.held)
    front_there = held.0

    pub less : entries_of s (lists_of (taken_out p n)) + 1 ≡ entries_of s (lists_of n)
    less = subst (λ k. entries_of k (lists_of (taken_out p n)) + 1 ≡ entries_of k (lists_of n)) held.1
        (fewer n so.kept p held.0)

    pub visits_fit : visits + 1 < 2 ^ 32
    visits_fit = let fit = entries_fit s first so.start in let count = so.count in omega (arith, fit, count, less)

    pub one_more : IsLeaving s first (taken_out p n) (visits + 1)
    one_more = record {
      kept = kept_out n so.kept p held.0;
      start = so.start;
      lists = subst (λ k. left_by k (lists_of (taken_out p n)) ≡ left_by k (lists_of n)) held.1
          (others_same n so.kept p held.0) ∙ so.lists;
      count = let count = so.count in omega (arith, count, less);
    }

  -- no cell is left
  module _ (empty : next Station s n None ≡ None) where
    absent : (ps : List Spot) → ((q : Spot) → In q ps → IsSome (found q.at n.held)) → NoneOf s (map (watcher_at n) ps)
    absent [] h = tt
    absent (q ∷ qs) h =
        let other : (cell_at n q).station ≢ s = none_held so.kept.whole.0 so.kept.whole.1 n so.kept.whole.2 s there
        empty q (h q (inl refl)) in
        (grind (arith, nat_tests), absent qs (λ z m. h z (inr m)))

    absent_at : (i : ℕ) → NoneOf s (get_or (lists_of n) i [])
    absent_at i = elim (below i (length n.objects)) as (λ _. NoneOf s (get_or (lists_of n) i [])) [
      | inl lt ↦ subst (NoneOf s) (sym (row_list so.kept.whole.0 so.kept.whole.1 n so.kept.whole.2 i lt))
          (absent (so.kept.whole.0 i) (λ q m. held_by Object so.kept.whole.0 n so.kept.whole.2.objects i q m))
      | inr ge ↦ subst (NoneOf s) (sym (get_or_past (lists_of n) i [] (let all = many n in omega (arith, ge, all)))) tt
    ]

    pub all_left : (lists_of n ≡ left_by s (lists_of first)) × (visits ≡ entries_of s (lists_of first))
    all_left = let none = nowhere s (lists_of n) absent_at in
        (sym none.0 ∙ so.lists, let count = so.count in let zero = none.1 in omega (arith, count, zero))

-- What is left after several stations.

pub gone_entries : (s : ℕ) (lists : List (List Watcher)) → entries_of s (left_by s lists) ≡ 0
gone_entries s [] = refl
gone_entries s (ws ∷ lists) =
    let here = count_none s (others_of s ws) (left_none s ws) in
    let all = entries_cons s (others_of s ws) (left_by s lists) in omega (arith, here, all, gone_entries s lists)

count_others : (s t : ℕ) (ws : List Watcher) → count_by (is_of t) (others_of s ws) ≤ count_by (is_of t) ws
count_others s t [] = omega arith
count_others s t (w ∷ ws) =
    let all = sum_by-cons (λ v. cond {A = ℕ} (is_of t v) 1 0) w ws in
    (elim (is_of s w) as (λ b. count_by (is_of t) (cond (not b) (w ∷ others_of s ws) (others_of s ws))
    ≤ count_by (is_of t) (w ∷ ws)) [
      | true ↦ omega (arith, all, count_others s t ws)
      | false ↦ let kept = sum_by-cons (λ v. cond {A = ℕ} (is_of t v) 1 0) w (others_of s ws) in
          omega (arith, all, kept, count_others s t ws)
    ])

pub fewer_entries : (s t : ℕ) (lists : List (List Watcher)) → entries_of t (left_by s lists) ≤ entries_of t lists
fewer_entries s t [] = omega arith
fewer_entries s t (ws ∷ lists) =
    let all = entries_cons t ws lists in let kept = entries_cons t (others_of s ws) (left_by s lists) in
    omega (arith, all, kept, count_others s t ws, fewer_entries s t lists)

-- the first stations have no entry
abbrev pub NoneBelow : ℕ → List (List Watcher) → Type 0
NoneBelow count lists = (s : ℕ) → s < count → entries_of s lists ≡ 0

pub one_station : (s : ℕ) (lists : List (List Watcher)) → NoneBelow s lists → NoneBelow (s + 1) (left_by s lists)
one_station s lists none t lt = elim (same_number t s) as (λ _. entries_of t (left_by s lists) ≡ 0) [
  | inl e ↦ subst (λ k. entries_of k (left_by s lists) ≡ 0) (sym e) (gone_entries s lists)
  | inr ne ↦ let was = none t (omega (arith, lt, ne)) in let less = fewer_entries s t lists in omega (arith, was, less)
]

-- then there is no cell
nothing : (n : Net) (K : IsKept n) (hs : List (Ptr × Cell)) → n.held ≡ hs → NoneBelow 129 (lists_of n) → hs ≡ []
nothing n K [] e none = refl
nothing n K (h ∷ hs) e none =
    let p : Spot = record { at = h.0 } in
    let held : IsSome (found p.at n.held) = subst (λ l. IsSome (found h.0 l)) (sym e)
    (subst (λ b. IsSome (cond b (Some h.1) (found h.0 hs))) (sym (same_refl h.0)) refl) in
    let own = own_count n K p held in
    let sum = get_or-le-sum_by (count_by (is_of (cell_at n p).station)) (lists_of n) (cell_at n p).object []
    (row_there n K p held) in
    let column = in_column K.whole.0 K.whole.1 n K.whole.2 p held in
    let heads = K.stations in let below = column.0 in
    let zero = none (cell_at n p).station (omega (arith, heads, below)) in
    absurd (omega (arith, own, sum, zero))

pub no_cell_left : (n : Net) → IsKept n → NoneBelow 129 (lists_of n) → n.held ≡ []
no_cell_left n K none = nothing n K n.held refl none

-- an object's list without the station
pub listed_left : (s x : ℕ) (lists : List (List Watcher)) → listed (left_by s lists) x ≡ others_of s (listed lists x)
listed_left s x lists =
    unwrap_or-slice_get (left_by s lists) (x - 1) []
    ∙ get_or-map (others_of s) lists (x - 1) []
    ∙ ap (others_of s) (sym (unwrap_or-slice_get lists (x - 1) []))
