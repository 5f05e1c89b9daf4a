-- A new cell comes into both of its lists.
use Rattle.std.proofs.Common.{◌≡◌, ◌≢◌, ℕ, ◌<◌, true, false, rules, if◌then◌else◌, ◌⊎◌, inl, inr, List, [], ◌∷◌, ◌++◌}
use Rattle.std.proofs.Common.{length, Some, None, IsSome, unwrap_or, refl, sym, ap, ◌∙◌, subst, nat_eq}
use Rattle.smi_watchers.specs.declared.cell.Cell.{Cell}
use Rattle.smi_watchers.specs.declared.cell.Sides.{Sides}
use Rattle.smi_watchers.specs.declared.cell.Spot.{Spot}
use Rattle.smi_watchers.specs.declared.lists.Axis.{Axis}
use Rattle.smi_watchers.specs.declared.lists.Axis.TheVariants.{Object, Station}
use Rattle.smi_watchers.specs.Held.{is_same, found}
use Rattle.smi_watchers.specs.Ring.{Node, is_node, Path, Fresh, Apart}
use Rattle.smi_watchers.specs.Net.{Net, no_cell, heads, links_in, neighbours, with_links, next, prev, MayLink, linked}
use Rattle.smi_watchers.specs.Net.{with_cell}
use Rattle.smi_watchers.specs.Mesh.{list_of, In, Belongs, IsAxis, AllIn, IsMesh, joined}
use Rattle.smi_watchers.proofs.Rings.{same_sym, same_refl, node_sym}
use Rattle.smi_watchers.proofs.Nets.{node_put}
use Rattle.smi_watchers.proofs.Crossing.{aside, linked_ring, crossed_linked}
use Rattle.smi_watchers.proofs.Meshes.{belonged, station-object, object-station, place_is, path_same, same_number}
use Rattle.smi_watchers.proofs.Meshes.{belongs_put, heads_put, misses, node_there, NodeIn, fresh_by}

found_new : (q p : Spot) (c : Cell) (n : Net) → is_same q.at p.at ≡ false
    → found q.at (with_cell p c n).held ≡ found q.at n.held
found_new q p c n e = ap (λ y. if y then Some c else found q.at n.held) e

links_new : (axis : Axis) (i : ℕ) (p : Spot) (c : Cell) (n : Net) (m : Node) → is_node (Some p) m ≡ false
    → neighbours axis i (with_cell p c n) m ≡ neighbours axis i n m
links_new Object i p c n None e = refl
links_new Station i p c n None e = refl
links_new axis i p c n (Some q) e = ap (λ o. links_in axis (unwrap_or o no_cell))
    (found_new q p c n (same_sym q.at p.at ∙ e))

pub heads_new : (axis : Axis) (p : Spot) (c : Cell) (n : Net) → heads axis (with_cell p c n) ≡ heads axis n
heads_new Object p c n = refl
heads_new Station p c n = refl

-- a place with no cell is in no list
pub outside : (axis : Axis) (qs : ℕ → List Spot) (n : Net) (p : Spot) → IsAxis axis qs n → found p.at n.held ≡ None
    → (i : ℕ) → Fresh (Some p) (qs i)
outside axis qs n p A none i = fresh_by p (qs i) (λ q m.
    (elim (is_same p.at q.at) as (λ y. is_same p.at q.at ≡ y → y ≡ false) [
      | true ↦ λ s. let b = A.belongs i q m in let clash
          : None ≡ Some b.0 = sym none ∙ ap (λ (z : Spot). found z.at n.held) (place_is p q s) ∙ b.1 in cc
      | false ↦ λ s. refl
    ]) refl)

fresh_in : (p q : Spot) (ps : List Spot) → Fresh (Some p) ps → In q ps → is_same p.at q.at ≡ false
fresh_in p q [] f m = absurd m
fresh_in p q (r ∷ rs) f (inl e) = ap (λ (z : Spot). is_same p.at z.at) e ∙ f.0
fresh_in p q (r ∷ rs) f (inr m) = fresh_in p q rs f.1 m

pub new_axis : (axis : Axis) (qs : ℕ → List Spot) (n : Net) (p : Spot) (c : Cell)
    → ((i : ℕ) → Fresh (Some p) (qs i)) → IsAxis axis qs n → IsAxis axis qs (with_cell p c n)
new_axis axis qs n p c free A = record {
  path = λ i lt. path_same (next axis i n) (prev axis i n) (next axis i (with_cell p c n))
      (prev axis i (with_cell p c n)) p None (qs i)
      (λ m e. ap (λ (l : Sides). l.after) (links_new axis i p c n m e))
      (λ m e. ap (λ (l : Sides). l.before) (links_new axis i p c n m e)) refl (free i)
      (A.path i (subst (λ hs. i < length hs) (heads_new axis p c n) lt));
  apart = A.apart;
  belongs = λ i q m. let b = A.belongs i q m in
      (b.0, found_new q p c n (same_sym q.at p.at ∙ fresh_in p q (qs i) (free i) m) ∙ b.1, b.2);
}

in_joined : (p q : Spot) (ps : List Spot) → In q (ps ++ p ∷ []) → (q ≡ p) ⊎ In q ps
in_joined p q [] (inl e) = inl e
in_joined p q [] (inr m) = elim m [ ]
in_joined p q (r ∷ rs) (inl e) = inr (inl e)
in_joined p q (r ∷ rs) (inr m) = elim (in_joined p q rs m) as (λ _. (q ≡ p) ⊎ In q (r ∷ rs))
    [ inl e ↦ inl e | inr k ↦ inr (inr k) ]

joins : (p q : Spot) (ps : List Spot) → (q ≡ p) ⊎ In q ps → In q (ps ++ p ∷ [])
joins p q [] (inl e) = inl e
joins p q [] (inr m) = elim m [ ]
joins p q (r ∷ rs) (inl e) = inr (joins p q rs (inl e))
joins p q (r ∷ rs) (inr (inl e)) = inl e
joins p q (r ∷ rs) (inr (inr m)) = inr (joins p q rs (inr m))

more : (m : Node) (q : Spot) (qs : List Spot) → NodeIn m qs → NodeIn m (q ∷ qs)
more None q qs h = tt
more (Some r) q qs h = inr h

last_in : (f g : Node → Node) (a : Node) (ps : List Spot) → Path f g a ps → (g None ≡ a) ⊎ NodeIn (g None) ps
last_in f g a [] h = inl h.1
last_in f g a (p ∷ ps) h = elim (last_in f g (Some p) ps h.2) as (λ _. (g None ≡ a) ⊎ NodeIn (g None) (p ∷ ps)) [
  | inl e ↦ inr (subst (λ (k : Node). NodeIn k (p ∷ ps)) (sym e) (inl refl))
  | inr k ↦ inr (more (g None) p ps k)
]

fresh_join : (a : Node) (p : Spot) (ps : List Spot) → is_node a (Some p) ≡ false → Fresh a ps → Fresh a (ps ++ p ∷ [])
fresh_join a p [] e f = (e, tt)
fresh_join a p (q ∷ qs) e f = (f.0, fresh_join a p qs e f.1)

apart_join : (a : Node) (p : Spot) (ps : List Spot) → is_node a (Some p) ≡ false → Fresh (Some p) ps → Apart a ps
    → Apart a (ps ++ p ∷ [])
apart_join a p [] e f d = ((e, tt), tt)
apart_join a p (q ∷ qs) e f d = (
  (d.0.0, fresh_join a p qs e d.0.1),
  apart_join (Some q) p qs (node_sym (Some q) (Some p) ∙ f.0) f.1 d.1,
)

pub joined_here : (i : ℕ) (p : Spot) (qs : ℕ → List Spot) → joined i p qs i ≡ qs i ++ p ∷ []
joined_here i p qs = let e : nat_eq i i ≡ true = grind rules in ap (λ y. if y then qs i ++ p ∷ [] else qs i) e

pub joined_there : (i k : ℕ) (p : Spot) (qs : ℕ → List Spot) → k ≢ i → joined i p qs k ≡ qs k
joined_there i k p qs ne = let e : nat_eq k i ≡ false = grind rules in ap (λ y. if y then qs k ++ p ∷ [] else qs k) e

-- a cell comes into its list of one axis
pub linked_axis : (axis : Axis) (qs : ℕ → List Spot) (n : Net) (A : IsAxis axis qs n) (i : ℕ) (p : Spot)
    → i < length (heads axis n) → ((k : ℕ) → Fresh (Some p) (qs k)) → Belongs axis i p n
    → MayLink axis i p n × IsAxis axis (joined i p qs) (linked axis i p n)
linked_axis axis qs n A i p lt free own =
    let l = prev axis i n None in
    let here : IsSome (found p.at n.held) = subst IsSome (sym own.1) refl in
    let last : NodeIn l (qs i) = elim (last_in (next axis i n) (prev axis i n) None (qs i) (A.path i lt)) as
    (λ _. NodeIn l (qs i)) [ inl e ↦ subst (λ (k : Node). NodeIn k (qs i)) (sym e) tt | inr k ↦ k ] in
    let there = node_there axis qs n A i l lt last in
    let may : MayLink axis i p n = (lt, here, there) in
    let l0 : Sides = record { before = l; after = None } in let n0 = with_links axis i (Some p) l0 n in
    let l1 : Sides = record (neighbours axis i n0 l) { after = Some p } in let n1 = with_links axis i l l1 n0 in
    let l2 : Sides = record (neighbours axis i n1 None) { before = Some p } in
    let there0 = node_put axis i (Some p) l0 n l there in
    let lt1 = node_put axis i l l1 n0 None (node_put axis i (Some p) l0 n None lt) in
    let count : length (heads axis (linked axis i p n)) ≡ length (heads axis n) = heads_put axis axis i None l2 n1
    ∙ heads_put axis axis i l l1 n0 ∙ heads_put axis axis i (Some p) l0 n in
    let own_path : Path (next axis i (linked axis i p n)) (prev axis i (linked axis i p n)) None (joined i p qs i) =
    subst (Path (next axis i (linked axis i p n)) (prev axis i (linked axis i p n)) None) (sym (joined_here i p qs))
    (linked_ring axis i p n (qs i) may (A.apart i) (free i) (A.path i lt)) in (
      may,
      record {
        path = λ j jlt. elim (same_number j i) as (λ _. Path (next axis j (linked axis i p n))
            (prev axis j (linked axis i p n)) None (joined i p qs j)) [
              | inl e ↦ subst (λ k. Path (next axis k (linked axis i p n)) (prev axis k (linked axis i p n)) None
                  (joined i p qs k)) (sym e) own_path
              | inr ne ↦ subst (Path (next axis j (linked axis i p n)) (prev axis j (linked axis i p n)) None)
                  (sym (joined_there i j p qs ne))
                  (aside axis i j None l2 n1 (qs j) ne lt1 tt
                  (aside axis i j l l1 n0 (qs j) ne there0 (misses axis qs n A i j l last ne)
                  (aside axis i j (Some p) l0 n (qs j) ne here (free j) (A.path j (subst (λ k. j < k) count jlt)))))
            ];
        apart = λ j. elim (same_number j i) as (λ _. Apart None (joined i p qs j)) [
          | inl e ↦ subst (λ k. Apart None (joined i p qs k)) (sym e)
              (subst (Apart None) (sym (joined_here i p qs)) (apart_join None p (qs i) refl (free i) (A.apart i)))
          | inr ne ↦ subst (Apart None) (sym (joined_there i j p qs ne)) (A.apart j)
        ];
        belongs = λ j q m.
            let up : Belongs axis j q n → Belongs axis j q (linked axis i p n) = λ b. belongs_put axis axis i j None
            l2 n1 q (belongs_put axis axis i j l l1 n0 q (belongs_put axis axis i j (Some p) l0 n q b)) in
            elim (same_number j i) as (λ _. Belongs axis j q (linked axis i p n)) [
              | inl e ↦ elim (in_joined p q (qs i) (subst (In q) (ap (joined i p qs) e ∙ joined_here i p qs) m)) as
                  (λ _. Belongs axis j q (linked axis i p n)) [
                    | inl same ↦
                        up (subst (λ (z : Spot). Belongs axis j z n) (sym same)
                        (subst (λ k. Belongs axis k p n) (sym e) own))
                    | inr k ↦ up (subst (λ x. Belongs axis x q n) (sym e) (A.belongs i q k))
                  ]
              | inr ne ↦ up (A.belongs j q (subst (In q) (joined_there i j p qs ne) m))
            ];
      },
    )

-- the other axis keeps its lists
pub crossed_more : (axis other : Axis) (qs : ℕ → List Spot) (n : Net) (i : ℕ) (p : Spot) → axis ≢ other
    → IsAxis other qs n → IsAxis other qs (linked axis i p n)
crossed_more axis other qs n i p ne A =
    let l = prev axis i n None in
    let l0 : Sides = record { before = l; after = None } in let n0 = with_links axis i (Some p) l0 n in
    let l1 : Sides = record (neighbours axis i n0 l) { after = Some p } in let n1 = with_links axis i l l1 n0 in
    let l2 : Sides = record (neighbours axis i n1 None) { before = Some p } in
    record {
      path = λ j jlt. crossed_linked axis other i j p n (qs j) ne
          (A.path j (subst (λ k. j < k) (heads_put other axis i None l2 n1 ∙ heads_put other axis i l l1 n0
          ∙ heads_put other axis i (Some p) l0 n) jlt));
      apart = A.apart;
      belongs = λ j q k. belongs_put other axis i j None l2 n1 q
          (belongs_put other axis i j l l1 n0 q (belongs_put other axis i j (Some p) l0 n q (A.belongs j q k)));
    }

pub heads_linked : (axis a : Axis) (i : ℕ) (p : Spot) (n : Net)
    → length (heads axis (linked a i p n)) ≡ length (heads axis n)
heads_linked axis a i p n =
    let l = prev a i n None in
    let l0 : Sides = record { before = l; after = None } in let n0 = with_links a i (Some p) l0 n in
    let l1 : Sides = record (neighbours a i n0 l) { after = Some p } in let n1 = with_links a i l l1 n0 in
    let l2 : Sides = record (neighbours a i n1 None) { before = Some p } in
    heads_put axis a i None l2 n1 ∙ heads_put axis a i l l1 n0 ∙ heads_put axis a i (Some p) l0 n

belongs_linked : (axis a : Axis) (i j : ℕ) (p : Spot) (n : Net) (q : Spot) → Belongs axis j q n
    → Belongs axis j q (linked a i p n)
belongs_linked axis a i j p n q b =
    let l = prev a i n None in
    let l0 : Sides = record { before = l; after = None } in let n0 = with_links a i (Some p) l0 n in
    let l1 : Sides = record (neighbours a i n0 l) { after = Some p } in let n1 = with_links a i l l1 n0 in
    let l2 : Sides = record (neighbours a i n1 None) { before = Some p } in
    belongs_put axis a i j None l2 n1 q (belongs_put axis a i j l l1 n0 q (belongs_put axis a i j (Some p) l0 n q b))

belonged_linked : (axis a : Axis) (i j : ℕ) (p : Spot) (n : Net) (q : Spot) → MayLink a i p n
    → Belongs axis j q (linked a i p n) → Belongs axis j q n
belonged_linked axis a i j p n q may b =
    let l = prev a i n None in
    let l0 : Sides = record { before = l; after = None } in let n0 = with_links a i (Some p) l0 n in
    let l1 : Sides = record (neighbours a i n0 l) { after = Some p } in let n1 = with_links a i l l1 n0 in
    let l2 : Sides = record (neighbours a i n1 None) { before = Some p } in
    let t1 = node_put a i (Some p) l0 n l may.2 in
    let t2 = node_put a i l l1 n0 None (node_put a i (Some p) l0 n None may.0) in
    belonged axis a i j (Some p) l0 n q may.1 (belonged axis a i j l l1 n0 q t1 (belonged axis a i j None l2 n1 q t2 b))

in_some : (i k : ℕ) (p q : Spot) (qs : ℕ → List Spot) → In q (qs k) → In q (joined i p qs k)
in_some i k p q qs m = elim (nat_eq k i) as (λ y. In q (if y then qs k ++ p ∷ [] else qs k))
    [ true ↦ joins p q (qs k) (inr m) | false ↦ m ]

module _ (rows columns : ℕ → List Spot) (n : Net) (M : IsMesh rows columns n) (p : Spot) (c : Cell)
    (none : found p.at n.held ≡ None) (i j : ℕ) (row_is : c.object ≡ i) (column_is : c.station ≡ j)
    (ilt : i < length n.objects) (jlt : j < length n.stations) where
  n0 : Net
  n0 = with_cell p c n

  there : found p.at (with_cell p c n).held ≡ Some c
  there = ap (λ y. if y then Some c else found p.at n.held) (same_refl p.at)

  first : MayLink Object i p (with_cell p c n) × IsAxis Object (joined i p rows) (linked Object i p (with_cell p c n))
  first = let free = outside Object rows n p M.objects none in
      linked_axis Object rows (with_cell p c n) (new_axis Object rows n p c free M.objects) i p ilt free
      (c, there, row_is)

  second : MayLink Station j p (linked Object i p (with_cell p c n))
      × IsAxis Station (joined j p columns) (linked Station j p (linked Object i p (with_cell p c n)))
  second = let free = outside Station columns n p M.stations none in
      linked_axis Station columns (linked Object i p (with_cell p c n))
      (crossed_more Object Station columns (with_cell p c n) i p object-station
      (new_axis Station columns n p c free M.stations)) j p
      (subst (λ k. j < k) (sym (heads_linked Station Object i p (with_cell p c n))) jlt) free
      (belongs_linked Station Object i j p (with_cell p c n) p (c, there, column_is))

  pub add_first : MayLink Object i p (with_cell p c n)
  add_first = first.0

  pub add_second : MayLink Station j p (linked Object i p (with_cell p c n))
  add_second = second.0

  all_more : (axis : Axis) (qs : ℕ → List Spot) (k : ℕ) → list_of axis c ≡ k → k < length (heads axis n)
      → AllIn axis qs n → AllIn axis (joined k p qs) (linked Station j p (linked Object i p (with_cell p c n)))
  all_more axis qs k is klt every q x e =
      let b = belonged_linked axis Object i (list_of axis x) p (with_cell p c n) q first.0
      (belonged_linked axis Station j (list_of axis x) p (linked Object i p (with_cell p c n)) q second.0
      (x, e, refl)) in
      let count : length (heads axis (linked Station j p (linked Object i p (with_cell p c n))))
      ≡ length (heads axis n) = heads_linked axis Station j p (linked Object i p (with_cell p c n))
      ∙ heads_linked axis Object i p (with_cell p c n) ∙ ap length (heads_new axis p c n) in
      (elim (is_same q.at p.at) as (λ y. is_same q.at p.at ≡ y → (if y then Some c else found q.at n.held) ≡ Some b.0
      → (list_of axis x < length (heads axis (linked Station j p (linked Object i p (with_cell p c n)))))
      × In q (joined k p qs (list_of axis x))) [
        | true ↦ λ s f. let one : c ≡ b.0 = cc in let at
            : list_of axis x ≡ k = sym b.2 ∙ ap (list_of axis) (sym one) ∙ is in (
              subst (λ (z : ℕ × ℕ). z.0 < z.1) (λ t. (sym at t, sym count t)) klt,
              subst (λ z. In q (joined k p qs z)) (sym at)
                  (subst (In q) (sym (joined_here k p qs)) (joins p q (qs k) (inl (place_is q p s)))),
            )
        | false ↦ λ s f. let was = every q b.0 f in (
          subst (λ z. list_of axis x < z) (sym count) (subst (λ z. z < length (heads axis n)) b.2 was.0),
          in_some k (list_of axis x) p q qs (subst (λ z. In q (qs z)) b.2 was.1),
        )
      ]) refl b.1

  pub added_mesh : IsMesh (joined i p rows) (joined j p columns)
      (linked Station j p (linked Object i p (with_cell p c n)))
  added_mesh = record {
    objects = crossed_more Station Object (joined i p rows) (linked Object i p (with_cell p c n)) j p station-object
        first.1;
    stations = second.1;
    in_row = all_more Object rows i row_is ilt M.in_row;
    in_column = all_more Station columns j column_is jlt M.in_column;
  }
