-- The watcher lists that cells stand for, and what a change of the cells makes of them.
use Rattle.std.proofs.Common.{◌≡◌, ◌≢◌, ℕ, zero, suc, ◌<◌, ◌≤◌, ◌^◌, true, false, if◌then◌else◌, arith, inl, inr}
use Rattle.std.proofs.Common.{List, [], ◌∷◌, ◌++◌, length, map, get_or, set, None, IsSome, refl, sym, ap, ◌∙◌, subst}
use Rattle.std.proofs.Common.{nat_lt, length-set, get_or-set_same, get_or-set_other}
use Rattle.std.specs.Prelude.{AllPairs, max}
use Rattle.std.proofs.lemmas.Bool.Decides.{nat_tests}
use Rattle.std.proofs.lemmas.List.{ext_get_or, get_or-map, length-map, map-append, set-get_or}
use Rattle.std.proofs.lemmas.Option.{unwrap_or-slice_get}
use Rattle.smi_watchers.specs.declared.cell.Cell.{Cell}
use Rattle.smi_watchers.specs.declared.cell.Sides.{Sides}
use Rattle.smi_watchers.specs.declared.cell.Spot.{Spot}
use Rattle.smi_watchers.specs.declared.watcher.Watcher.{Watcher}
use Rattle.smi_watchers.specs.declared.lists.Axis.TheVariants.{Object, Station}
use Rattle.smi_watchers.specs.Held.{is_same, found}
use Rattle.smi_watchers.specs.Ring.{Apart}
use Rattle.smi_watchers.specs.Net.{Net, no_links, cell_at, with_cell, linked, taken_out, put_in, with_echo}
use Rattle.smi_watchers.specs.Net.{with_newer}
use Rattle.smi_watchers.specs.Mesh.{In, dropped, joined, IsMesh, IsWhole}
use Rattle.smi_watchers.specs.Walked.{step_at}
use Rattle.smi_watchers.specs.Watching.{watcher, renewed_by, watch_in, others_of, most_watchers, AreApart, IsAudience}
use Rattle.smi_watchers.specs.Kept.{watcher_of, watcher_in, watchers_from, lists_of, IsKept}
use Rattle.smi_watchers.proofs.Rings.{same_sym}
use Rattle.smi_watchers.proofs.Meshes.{parted, dropped_one, dropped_none, dropped_gone, fresh_at, strangers}
use Rattle.smi_watchers.proofs.Meshes.{same_number, in_row, out_mesh, heads_out}
use Rattle.smi_watchers.proofs.Adds.{added_mesh, outside, joined_here, joined_there, heads_linked, heads_new}
use Rattle.smi_watchers.proofs.Echoes.{echo_mesh}
use Rattle.smi_watchers.proofs.Walks.{row_walked}
use Rattle.smi_watchers.proofs.Frames.{watcher_at, watcher_taken, watcher_new, watcher_beside, echo_there}
use Rattle.smi_watchers.proofs.Frames.{echo_beside, map_same}
use Rattle.smi_watchers.proofs.ListLemmas.{NoneOf, others_split, watch_split, IsAudience-filter, IsAudience-append}
use Rattle.smi_watchers.proofs.ListLemmas.{IsAudience-same}

map_in : (n : Net) (ps : List Spot) → map watcher_in (map (step_at n) ps) ≡ map (watcher_at n) ps
map_in n [] = refl
map_in n (p ∷ ps) = ap (λ ws. watcher_at n p ∷ ws) (map_in n ps)

pub many : (n : Net) → length (lists_of n) ≡ length n.objects
many n = length-map n.objects (λ (head : Sides). watchers_from n head.after)

-- an object's list, by the places of its cells
pub row_list : (rows columns : ℕ → List Spot) (n : Net) → IsMesh rows columns n → (i : ℕ) → i < length n.objects
    → get_or (lists_of n) i [] ≡ map (watcher_at n) (rows i)
row_list rows columns n M i lt =
    get_or-map (λ (head : Sides). watchers_from n head.after) n.objects i no_links [] lt
    ∙ ap (λ ps. map watcher_in (map (step_at n) ps)) (row_walked rows columns n M i lt).0
    ∙ map_in n (rows i)

pub audience_at : (n : Net) → IsKept n → (i : ℕ) → IsAudience (get_or (lists_of n) i [])
audience_at n K i = subst IsAudience (unwrap_or-slice_get (lists_of n) i []) (K.audiences i)

-- one list is another
changed : (old new : List (List Watcher)) (r : ℕ) (l : List Watcher) → length new ≡ length old → r < length old
    → get_or new r [] ≡ l
    → ((i : ℕ) → i < length old → i ≢ r → get_or new i [] ≡ get_or old i []) → new ≡ set old r l
changed old new r l same rlt here there =
    ext_get_or [] new (set old r l) (same ∙ sym (length-set old r l))
    (λ i lt. elim (same_number i r) as (λ _. get_or new i [] ≡ get_or (set old r l) i []) [
      | inl e ↦ subst (λ k. get_or new k [] ≡ get_or (set old r l) k []) (sym e)
          (here ∙ sym (get_or-set_same old r l [] rlt))
      | inr ne ↦ there i (omega (arith, lt, same)) ne ∙ sym (get_or-set_other old r i l [] ne)
    ])

rows_changed : (n m : Net) (rows columns left right : ℕ → List Spot) → IsMesh rows columns n → IsMesh left right m
    → (r : ℕ) → length m.objects ≡ length n.objects → r < length n.objects
    → ((i : ℕ) → i ≢ r → left i ≡ rows i) → ((i : ℕ) (q : Spot) → i ≢ r → In q (rows i)
    → watcher_at m q ≡ watcher_at n q)
    → lists_of m ≡ set (lists_of n) r (map (watcher_at m) (left r))
rows_changed n m rows columns left right M L r same rlt others keeps =
    changed (lists_of n) (lists_of m) r (map (watcher_at m) (left r)) (many m ∙ same ∙ sym (many n))
    (subst (λ k. r < k) (sym (many n)) rlt)
    (row_list left right m L r (subst (λ k. r < k) (sym same) rlt))
    (λ i lt ne. let ilt : i < length n.objects = subst (λ k. i < k) (many n) lt in
    row_list left right m L i (subst (λ k. i < k) (sym same) ilt)
    ∙ ap (map (watcher_at m)) (others i ne)
    ∙ map_same (watcher_at m) (watcher_at n) (rows i) (λ q k. keeps i q ne k)
    ∙ sym (row_list rows columns n M i ilt))

each_set : (P : List Watcher → Type 0) (lists : List (List Watcher)) (r i : ℕ) (l : List Watcher) → P l
    → P (get_or lists i []) → P (get_or (set lists r l) i [])
each_set P [] r i l new old = old
each_set P (x ∷ xs) zero zero l new old = new
each_set P (x ∷ xs) zero (suc i) l new old = old
each_set P (x ∷ xs) (suc r) zero l new old = old
each_set P (x ∷ xs) (suc r) (suc i) l new old = each_set P xs r i l new old

-- one list is another audience
pub kept_by : (n m : Net) (r : ℕ) (l : List Watcher) → IsKept n → IsWhole m → length m.objects ≡ length n.objects
    → length m.stations ≡ length n.stations
    → lists_of m ≡ set (lists_of n) r l → IsAudience l → IsKept m
kept_by n m r l K whole objects stations lists audience = record {
  whole = whole;
  audiences = λ i. subst IsAudience (ap (λ ls. get_or ls i []) (sym lists)
      ∙ sym (unwrap_or-slice_get (lists_of m) i []))
      (each_set IsAudience (lists_of n) r i l audience (audience_at n K i));
  objects = subst (λ k. k < 2 ^ 16) (sym objects) K.objects;
  stations = stations ∙ K.stations;
}

in_front : (q : Spot) (xs ys : List Spot) → In q xs → In q (xs ++ ys)
in_front q [] ys m = absurd m
in_front q (x ∷ xs) ys (inl e) = inl e
in_front q (x ∷ xs) ys (inr m) = inr (in_front q xs ys m)

in_rear : (q : Spot) (xs ys : List Spot) → In q ys → In q (xs ++ ys)
in_rear q [] ys m = m
in_rear q (x ∷ xs) ys m = inr (in_rear q xs ys m)

max_newer : (a b : ℕ) → nat_lt a b ≡ true → max a b ≡ b
max_newer a b is = let less : a < b = grind (arith, nat_tests) in omega (arith, less)

max_older : (a b : ℕ) → nat_lt a b ≡ false → max a b ≡ a
max_older a b is = let most : b ≤ a = grind (arith, nat_tests) in omega (arith, most)

-- a cell that is held, in the list of its object
module _ (n : Net) (K : IsKept n) (p : Spot) (held : IsSome (found p.at n.held)) where
  abbrev pub rows : ℕ → List Spot
  rows = K.whole.0

  abbrev pub columns : ℕ → List Spot
  columns = K.whole.1

  abbrev pub M : IsMesh rows columns n
  M = K.whole.2

  abbrev pub r : ℕ
  r = (cell_at n p).object

  abbrev pub ws : List Watcher
  ws = get_or (lists_of n) r []

  abbrev pub here : (r < length n.objects) × In p (rows r)
  here = in_row rows columns n M p held

  abbrev pub cut : (xs : List Spot) × (ys : List Spot) × (rows r ≡ xs ++ p ∷ ys)
  cut = parted p (rows r) here.1

  abbrev pub before : List Watcher
  before = map (watcher_at n) cut.0

  abbrev pub behind : List Watcher
  behind = map (watcher_at n) cut.1

  pub row_there : r < length (lists_of n)
  row_there = subst (λ k. r < k) (sym (many n)) here.0

  pub split : ws ≡ before ++ watcher_at n p ∷ behind
  split = row_list rows columns n M r here.0 ∙ ap (map (watcher_at n)) cut.2
      ∙ map-append (watcher_at n) cut.0 (p ∷ cut.1)

  pub apart : AllPairs AreApart (before ++ watcher_at n p ∷ behind)
  apart = (subst IsAudience split (audience_at n K r)).once

  without : dropped p (rows r) ≡ cut.0 ++ cut.1
  without = ap (dropped p) cut.2 ∙ dropped_one None cut.0 p cut.1 (subst (Apart None) cut.2 (M.objects.apart r))

  aside : (q : Spot) → In q (cut.0 ++ cut.1) → is_same q.at p.at ≡ false
  aside q m = same_sym q.at p.at ∙ fresh_at p q (dropped p (rows r)) (dropped_gone p (rows r))
      (subst (In q) (sym without) m)

  elsewhere : (i : ℕ) (q : Spot) → i ≢ r → In q (rows i) → is_same q.at p.at ≡ false
  elsewhere i q ne m = same_sym q.at p.at ∙ fresh_at p q (rows i) (strangers Object rows n M.objects r i p here.1 ne) m

  pub others_is : others_of (cell_at n p).station ws ≡ before ++ behind
  others_is = ap (others_of (cell_at n p).station) split ∙ others_split before behind (watcher_at n p) apart

  -- it is taken out
  pub out_lists : lists_of (taken_out p n) ≡ set (lists_of n) r (others_of (cell_at n p).station ws)
  out_lists =
      rows_changed n (taken_out p n) rows columns (λ k. dropped p (rows k)) (λ k. dropped p (columns k)) M
      (out_mesh rows columns n M p held) r (heads_out Object r (cell_at n p).station p n) here.0
      (λ i ne. dropped_none p (rows i) (strangers Object rows n M.objects r i p here.1 ne))
      (λ i q ne m. watcher_taken r (cell_at n p).station p n q (elsewhere i q ne m))
      ∙ ap (set (lists_of n) r) (
      ap (map (watcher_at (taken_out p n))) without
      ∙ map_same (watcher_at (taken_out p n)) (watcher_at n) (cut.0 ++ cut.1)
      (λ q m. watcher_taken r (cell_at n p).station p n q (aside q m))
      ∙ map-append (watcher_at n) cut.0 cut.1
      ∙ sym others_is
      )

  pub kept_out : IsKept (taken_out p n)
  kept_out = kept_by n (taken_out p n) r (others_of (cell_at n p).station ws) K (_, _, out_mesh rows columns n M p held)
      (heads_out Object r (cell_at n p).station p n) (heads_out Station r (cell_at n p).station p n) out_lists
      (IsAudience-filter _ ws (audience_at n K r))

  -- it has another echo
  echo_lists : (e : ℕ) → lists_of (with_echo p e n)
      ≡ set (lists_of n) r (before ++ watcher (cell_at n p).station e ∷ behind)
  echo_lists e =
      rows_changed n (with_echo p e n) rows columns rows columns M (echo_mesh p e n rows columns held M) r refl
      here.0 (λ i ne. refl)
      (λ i q ne m. echo_beside p e n q (elsewhere i q ne m))
      ∙ ap (set (lists_of n) r) (
      ap (map (watcher_at (with_echo p e n))) cut.2
      ∙ map-append (watcher_at (with_echo p e n)) cut.0 (p ∷ cut.1)
      ∙ (λ t. map_same (watcher_at (with_echo p e n)) (watcher_at n) cut.0
      (λ q m. echo_beside p e n q (aside q (in_front q cut.0 cut.1 m))) t
      ++ echo_there p e n t ∷ map_same (watcher_at (with_echo p e n)) (watcher_at n) cut.1
      (λ q m. echo_beside p e n q (aside q (in_rear q cut.0 cut.1 m))) t)
      )

  watch_is : (e : ℕ) → watch_in ws (cell_at n p).station e ≡ before ++ renewed_by e (watcher_at n p) ∷ behind
  watch_is e = ap (λ vs. watch_in vs (cell_at n p).station e) split ∙ watch_split e before behind (watcher_at n p) apart

  -- it has a newer echo
  pub newer_lists : (e : ℕ) → lists_of (with_newer p e n) ≡ set (lists_of n) r (watch_in ws (cell_at n p).station e)
  newer_lists e =
      (elim (nat_lt (cell_at n p).echo e) as (λ b. nat_lt (cell_at n p).echo e ≡ b
      → lists_of (if b then with_echo p e n else n) ≡ set (lists_of n) r (watch_in ws (cell_at n p).station e)) [
        | true ↦ λ is. let most : max (cell_at n p).echo e ≡ e = max_newer (cell_at n p).echo e is in
            echo_lists e
            ∙ ap (set (lists_of n) r) (ap (λ k. before ++ watcher (cell_at n p).station k ∷ behind) (sym most)
            ∙ sym (watch_is e))
        | false ↦ λ is. let most : max (cell_at n p).echo e ≡ (cell_at n p).echo = max_older (cell_at n p).echo e is in
            sym (set-get_or (lists_of n) r []) ∙ ap (set (lists_of n) r)
            (split ∙ ap (λ k. before ++ watcher (cell_at n p).station k ∷ behind) (sym most) ∙ sym (watch_is e))
      ]) refl

  same_stations : (e : ℕ) → map (λ (w : Watcher). w.station) (watch_in ws (cell_at n p).station e)
      ≡ map (λ (w : Watcher). w.station) ws
  same_stations e =
      ap (map (λ (w : Watcher). w.station)) (watch_is e)
      ∙ map-append (λ (w : Watcher). w.station) before (renewed_by e (watcher_at n p) ∷ behind)
      ∙ sym (map-append (λ (w : Watcher). w.station) before (watcher_at n p ∷ behind))
      ∙ ap (map (λ (w : Watcher). w.station)) (sym split)

  newer_whole : (e : ℕ) → IsWhole (with_newer p e n)
  newer_whole e = elim (nat_lt (cell_at n p).echo e) as (λ b. IsWhole (if b then with_echo p e n else n))
      [ true ↦ (rows, columns, echo_mesh p e n rows columns held M) | false ↦ K.whole ]

  pub kept_newer : (e : ℕ) → IsKept (with_newer p e n)
  kept_newer e = kept_by n (with_newer p e n) r (watch_in ws (cell_at n p).station e) K (newer_whole e)
      (elim (nat_lt (cell_at n p).echo e) as (λ b. length (if b then with_echo p e n else n).objects
      ≡ length n.objects) [ true ↦ refl | false ↦ refl ])
      (elim (nat_lt (cell_at n p).echo e) as (λ b. length (if b then with_echo p e n else n).stations
      ≡ length n.stations) [ true ↦ refl | false ↦ refl ])
      (newer_lists e) (IsAudience-same (watch_in ws (cell_at n p).station e) ws (same_stations e) (audience_at n K r))

-- a new cell, in the list of its object
module _ (n : Net) (K : IsKept n) (p : Spot) (c : Cell) (none : found p.at n.held ≡ None)
    (ilt : c.object < length n.objects) (jlt : c.station < length n.stations) where
  abbrev pub known : List Watcher
  known = get_or (lists_of n) c.object []

  more : IsMesh (joined c.object p K.whole.0) (joined c.station p K.whole.1) (put_in p c n)
  more = added_mesh K.whole.0 K.whole.1 n K.whole.2 p c none c.object c.station refl refl ilt jlt

  stranger : (i : ℕ) (q : Spot) → In q (K.whole.0 i) → is_same q.at p.at ≡ false
  stranger i q m = same_sym q.at p.at ∙ fresh_at p q (K.whole.0 i)
      (outside Object K.whole.0 n p K.whole.2.objects none i) m

  objects_in : length (put_in p c n).objects ≡ length n.objects
  objects_in = heads_linked Object Station c.station p (linked Object c.object p (with_cell p c n))
      ∙ heads_linked Object Object c.object p (with_cell p c n) ∙ ap length (heads_new Object p c n)

  stations_in : length (put_in p c n).stations ≡ length n.stations
  stations_in = heads_linked Station Station c.station p (linked Object c.object p (with_cell p c n))
      ∙ heads_linked Station Object c.object p (with_cell p c n) ∙ ap length (heads_new Station p c n)

  pub in_lists : lists_of (put_in p c n) ≡ set (lists_of n) c.object (known ++ watcher_of c ∷ [])
  in_lists =
      rows_changed n (put_in p c n) K.whole.0 K.whole.1 (joined c.object p K.whole.0) (joined c.station p K.whole.1)
      K.whole.2 more c.object objects_in ilt
      (λ i ne. joined_there c.object i p K.whole.0 ne) (λ i q ne m. watcher_beside p c n q (stranger i q m))
      ∙ ap (set (lists_of n) c.object) (
      ap (map (watcher_at (put_in p c n))) (joined_here c.object p K.whole.0)
      ∙ map-append (watcher_at (put_in p c n)) (K.whole.0 c.object) (p ∷ [])
      ∙ (λ t. (map_same (watcher_at (put_in p c n)) (watcher_at n) (K.whole.0 c.object)
      (λ q m. watcher_beside p c n q (stranger c.object q m))
      ∙ sym (row_list K.whole.0 K.whole.1 n K.whole.2 c.object ilt)) t
      ++ watcher_new p c n t ∷ [])
      )

  pub kept_in : NoneOf c.station known → length known < most_watchers → IsKept (put_in p c n)
  kept_in absent few = kept_by n (put_in p c n) c.object (known ++ watcher_of c ∷ []) K (_, _, more) objects_in
      stations_in in_lists
      (IsAudience-append known (watcher_of c) (audience_at n K c.object) absent few)
