-- Both lists of a cell together.
use Rattle.std.proofs.Common.{◌≡◌, ◌≢◌, ℕ, ◌<◌, true, false, rules, if◌then◌else◌, ◌⊎◌, inl, inr, List, [], ◌∷◌, ◌++◌}
use Rattle.std.proofs.Common.{length, Some, None, IsSome, unwrap_or, refl, sym, ap, ◌∙◌, subst, length-set, nat_eq}
use Rattle.std.proofs.Common.{arith, ◌≤◌}
use denote.RawPtr.{Ptr}
use Rattle.smi_watchers.specs.declared.cell.Cell.{Cell}
use Rattle.smi_watchers.specs.declared.cell.Sides.{Sides}
use Rattle.smi_watchers.specs.declared.cell.Spot.{Spot}
use Rattle.smi_watchers.specs.declared.lists.Axis.{Axis}
use Rattle.smi_watchers.specs.declared.lists.Axis.TheVariants.{Object, Station}
use Rattle.smi_watchers.specs.Held.{is_same, found, without}
use Rattle.smi_watchers.specs.Ring.{Node, is_node, Path, Fresh, Apart}
use Rattle.smi_watchers.specs.Net.{Net, no_cell, heads, links_in, relinked, cell_at, IsNode, neighbours, with_links}
use Rattle.smi_watchers.specs.Net.{next, prev, IsLinked, unlinked, without_cell, taken, taken_out}
use Rattle.smi_watchers.specs.Mesh.{list_of, In, dropped, Belongs, IsAxis, AllIn, IsMesh}
use Rattle.smi_watchers.proofs.Memory.{same_is, some_of}
use Rattle.smi_watchers.proofs.Rings.{same_sym, same_refl}
use Rattle.smi_watchers.proofs.Nets.{node_put, found_put, found_other}
use Rattle.smi_watchers.proofs.Crossing.{Misses, aside, unlinked_ring, crossed_unlinked}

pub place_is : (p q : Spot) → is_same p.at q.at ≡ true → p ≡ q
place_is p q e = λ i. record { at = same_is p.at q.at e i }

-- a write keeps what list each cell belongs to
list_relinked : (axis a : Axis) (l : Sides) (c : Cell) → list_of axis (relinked a l c) ≡ list_of axis c
list_relinked Object Object l c = refl
list_relinked Object Station l c = refl
list_relinked Station Object l c = refl
list_relinked Station Station l c = refl

pub cell_of : (n : Net) (p : Spot) (c : Cell) → found p.at n.held ≡ Some c → cell_at n p ≡ c
cell_of n p c e = ap (λ o. unwrap_or o no_cell) e

pub belongs_put : (axis a : Axis) (i j : ℕ) (k : Node) (l : Sides) (n : Net) (q : Spot) → Belongs axis j q n
    → Belongs axis j q (with_links a i k l n)
belongs_put axis Object i j None l n q b = b
belongs_put axis Station i j None l n q b = b
belongs_put axis a i j (Some p) l n q b =
    (elim (is_same p.at q.at) as (λ y. is_same p.at q.at ≡ y → Belongs axis j q (with_links a i (Some p) l n)) [
      | true ↦ λ s. (
        relinked a l (cell_at n p),
        found_put q.at p.at (relinked a l (cell_at n p)) n.held
            ∙ ap (λ y. if y then Some (relinked a l (cell_at n p)) else found q.at n.held) s,
        list_relinked axis a l (cell_at n p) ∙ ap (list_of axis)
            (cell_of n p b.0 (ap (λ (z : Spot). found z.at n.held) (place_is p q s) ∙ b.1)) ∙ b.2,
      )
      | false ↦ λ s. (
        b.0,
        found_put q.at p.at (relinked a l (cell_at n p)) n.held
            ∙ ap (λ y. if y then Some (relinked a l (cell_at n p)) else found q.at n.held) s ∙ b.1,
        b.2,
      )
    ]) refl

-- and back: a cell that is there after was there before, in the same list
pub belonged : (axis a : Axis) (i j : ℕ) (k : Node) (l : Sides) (n : Net) (q : Spot) → IsNode a i k n
    → Belongs axis j q (with_links a i k l n) → Belongs axis j q n
belonged axis Object i j None l n q t b = b
belonged axis Station i j None l n q t b = b
belonged axis a i j (Some p) l n q t b =
    let it = some_of (found p.at n.held) t in let put = sym (found_put q.at p.at (relinked a l (cell_at n p)) n.held)
    ∙ b.1 in
    (elim (is_same p.at q.at) as (λ y. is_same p.at q.at ≡ y
    → (if y then Some (relinked a l (cell_at n p)) else found q.at n.held) ≡ Some b.0 → Belongs axis j q n) [
      | true ↦ λ s e. let same : relinked a l (cell_at n p) ≡ b.0 = cc in (
        it.0,
        ap (λ (z : Spot). found z.at n.held) (sym (place_is p q s)) ∙ it.1,
        ap (list_of axis) (sym (cell_of n p it.0 it.1)) ∙ sym (list_relinked axis a l (cell_at n p))
            ∙ ap (list_of axis) same ∙ b.2,
      )
      | false ↦ λ s e. (b.0, e, b.2)
    ]) refl put

pub heads_put : (axis a : Axis) (i : ℕ) (k : Node) (l : Sides) (n : Net)
    → length (heads axis (with_links a i k l n)) ≡ length (heads axis n)
heads_put Object Object i None l n = length-set n.objects i l
heads_put Object Station i None l n = refl
heads_put Station Object i None l n = refl
heads_put Station Station i None l n = length-set n.stations i l
heads_put Object a i (Some p) l n = refl
heads_put Station a i (Some p) l n = refl

-- members
pub parted : (p : Spot) (ps : List Spot) → In p ps → (xs : List Spot) × (ys : List Spot) × (ps ≡ xs ++ p ∷ ys)
parted p [] h = absurd h
parted p (q ∷ qs) (inl e) = ([], qs, λ i. sym e i ∷ qs)
parted p (q ∷ qs) (inr h) = let r = parted p qs h in (q ∷ r.0, r.1, ap (λ l. q ∷ l) r.2)

pub fresh_by : (p : Spot) (ps : List Spot) → ((q : Spot) → In q ps → is_same p.at q.at ≡ false) → Fresh (Some p) ps
fresh_by p [] h = tt
fresh_by p (q ∷ qs) h = (h q (inl refl), fresh_by p qs (λ r m. h r (inr m)))

pub dropped_none : (p : Spot) (ps : List Spot) → Fresh (Some p) ps → dropped p ps ≡ ps
dropped_none p [] f = refl
dropped_none p (q ∷ qs) f = ap (λ y. if y then dropped p qs else q ∷ dropped p qs) f.0
    ∙ ap (λ l. q ∷ l) (dropped_none p qs f.1)

apart_fresh : (p : Spot) (ps : List Spot) → Apart (Some p) ps → Fresh (Some p) ps
apart_fresh p [] d = tt
apart_fresh p (q ∷ qs) d = d.0

met : (x : Spot) (xs : List Spot) (p : Spot) (ys : List Spot) → Fresh (Some x) (xs ++ p ∷ ys)
    → is_same x.at p.at ≡ false
met x [] p ys f = f.0
met x (z ∷ xs) p ys f = met x xs p ys f.1

pub dropped_one : (a : Node) (xs : List Spot) (p : Spot) (ys : List Spot) → Apart a (xs ++ p ∷ ys)
    → dropped p (xs ++ p ∷ ys) ≡ xs ++ ys
dropped_one a [] p ys d = ap (λ y. if y then dropped p ys else p ∷ dropped p ys) (same_refl p.at)
    ∙ dropped_none p ys (apart_fresh p ys d.1)
dropped_one a (x ∷ xs) p ys d =
    ap (λ y. if y then dropped p (xs ++ p ∷ ys) else x ∷ dropped p (xs ++ p ∷ ys))
    (same_sym p.at x.at ∙ met x xs p ys (apart_fresh x (xs ++ p ∷ ys) d.1))
    ∙ ap (λ l. x ∷ l) (dropped_one (Some x) xs p ys d.1)

pub dropped_sub : (p q : Spot) (ps : List Spot) → In q (dropped p ps) → In q ps
dropped_sub p q [] h = h
dropped_sub p q (r ∷ rs) h =
    (elim (is_same p.at r.at) as (λ y. In q (if y then dropped p rs else r ∷ dropped p rs) → In q (r ∷ rs)) [
      | true ↦ λ m. inr (dropped_sub p q rs m)
      | false ↦ λ m. elim m as (λ _. In q (r ∷ rs)) [ inl e ↦ inl e | inr k ↦ inr (dropped_sub p q rs k) ]
    ]) h

pub dropped_keeps : (p q : Spot) (ps : List Spot) → In q ps → is_same p.at q.at ≡ false → In q (dropped p ps)
dropped_keeps p q [] h e = h
dropped_keeps p q (r ∷ rs) (inl m) e = subst (λ y. In q (if y then dropped p rs else r ∷ dropped p rs))
    (sym (ap (λ (z : Spot). is_same p.at z.at) (sym m) ∙ e)) (inl m)
dropped_keeps p q (r ∷ rs) (inr m) e =
    elim (is_same p.at r.at) as (λ y. In q (if y then dropped p rs else r ∷ dropped p rs))
    [ true ↦ dropped_keeps p q rs m e | false ↦ inr (dropped_keeps p q rs m e) ]

pub dropped_fresh : (a : Node) (p : Spot) (ps : List Spot) → Fresh a ps → Fresh a (dropped p ps)
dropped_fresh a p [] f = tt
dropped_fresh a p (r ∷ rs) f = elim (is_same p.at r.at) as
    (λ y. Fresh a (if y then dropped p rs else r ∷ dropped p rs))
    [ true ↦ dropped_fresh a p rs f.1 | false ↦ (f.0, dropped_fresh a p rs f.1) ]

pub dropped_gone : (p : Spot) (ps : List Spot) → Fresh (Some p) (dropped p ps)
dropped_gone p [] = tt
dropped_gone p (r ∷ rs) =
    (elim (is_same p.at r.at) as (λ y. is_same p.at r.at ≡ y
    → Fresh (Some p) (if y then dropped p rs else r ∷ dropped p rs))
    [ true ↦ λ s. dropped_gone p rs | false ↦ λ s. (s, dropped_gone p rs) ]) refl

-- a ring from any node on
apart_from : (a b : Node) (ps : List Spot) → Fresh b ps → Apart a ps → Apart b ps
apart_from a b [] f d = tt
apart_from a b (p ∷ ps) f d = (f, d.1)

apart_tail : (a : Node) (r : Spot) (rs : List Spot) → Apart a (r ∷ rs) → Apart a rs
apart_tail a r [] d = tt
apart_tail a r (q ∷ qs) d = (d.0.1, d.1.1)

pub dropped_apart : (a : Node) (p : Spot) (ps : List Spot) → Apart a ps → Apart a (dropped p ps)
dropped_apart a p [] d = tt
dropped_apart a p (r ∷ rs) d =
    elim (is_same p.at r.at) as (λ y. Apart a (if y then dropped p rs else r ∷ dropped p rs)) [
      | true ↦ dropped_apart a p rs (apart_tail a r rs d)
      | false ↦ ((d.0.0, dropped_fresh a p rs d.0.1), dropped_apart (Some r) p rs d.1)
    ]

-- the nodes beside a member
abbrev pub NodeIn : Node → List Spot → Type 0
NodeIn None ps = Unit {0}
NodeIn (Some q) ps = In q ps

node_more : (m : Node) (q : Spot) (qs : List Spot) → NodeIn m qs → NodeIn m (q ∷ qs)
node_more None q qs h = tt
node_more (Some r) q qs h = inr h

prev_in : (f g : Node → Node) (a : Node) (ps : List Spot) (p : Spot) → Path f g a ps → In p ps
    → (g (Some p) ≡ a) ⊎ NodeIn (g (Some p)) ps
prev_in f g a [] p h m = absurd m
prev_in f g a (q ∷ qs) p h (inl e) = inl (ap (λ (z : Spot). g (Some z)) e ∙ h.1)
prev_in f g a (q ∷ qs) p h (inr m) =
    elim (prev_in f g (Some q) qs p h.2 m) as (λ _. (g (Some p) ≡ a) ⊎ NodeIn (g (Some p)) (q ∷ qs)) [
      | inl e ↦ inr (subst (λ (k : Node). NodeIn k (q ∷ qs)) (sym e) (inl refl))
      | inr k ↦ inr (node_more (g (Some p)) q qs k)
    ]

next_first : (f g : Node → Node) (a : Node) (ps : List Spot) → Path f g a ps → NodeIn (f a) ps
next_first f g a [] h = subst (λ (k : Node). NodeIn k []) (sym h.0) tt
next_first f g a (q ∷ qs) h = subst (λ (k : Node). NodeIn k (q ∷ qs)) (sym h.0) (inl refl)

next_in : (f g : Node → Node) (a : Node) (ps : List Spot) (p : Spot) → Path f g a ps → In p ps
    → NodeIn (f (Some p)) ps
next_in f g a [] p h m = absurd m
next_in f g a (q ∷ qs) p h (inl e) = node_more (f (Some p)) q qs
    (subst (λ (z : Spot). NodeIn (f (Some z)) qs) (sym e) (next_first f g (Some q) qs h.2))
next_in f g a (q ∷ qs) p h (inr m) = node_more (f (Some p)) q qs (next_in f g (Some q) qs p h.2 m)

module _ (axis : Axis) (qs : ℕ → List Spot) (n : Net) (A : IsAxis axis qs n) where
  pub held_by : (i : ℕ) (p : Spot) → In p (qs i) → IsSome (found p.at n.held)
  held_by i p m = subst IsSome (sym (A.belongs i p m).1) refl

  pub node_there : (i : ℕ) (m : Node) → i < length (heads axis n) → NodeIn m (qs i) → IsNode axis i m n
  node_there i None lt h = lt
  node_there i (Some q) lt h = held_by i q h

  pub strangers : (i j : ℕ) (x : Spot) → In x (qs i) → j ≢ i → Fresh (Some x) (qs j)
  strangers i j x m ne = fresh_by x (qs j) (λ q k.
      let b = A.belongs i x m in let d = A.belongs j q k in
      (elim (is_same x.at q.at) as (λ y. is_same x.at q.at ≡ y → y ≡ false) [
        | true ↦ λ s. let one : Some b.0 ≡ Some d.0 = sym b.1
            ∙ ap (λ (z : Spot). found z.at n.held) (place_is x q s) ∙ d.1 in
            let c : b.0 ≡ d.0 = cc in absurd (ne (sym d.2 ∙ ap (list_of axis) (sym c) ∙ b.2))
        | false ↦ λ s. refl
      ]) refl)

  pub misses : (i j : ℕ) (m : Node) → NodeIn m (qs i) → j ≢ i → Misses m (qs j)
  misses i j None h ne = tt
  misses i j (Some x) h ne = strangers i j x h ne

  before_in : (i : ℕ) (p : Spot) → i < length (heads axis n) → In p (qs i) → NodeIn (prev axis i n (Some p)) (qs i)
  before_in i p lt m = elim (prev_in (next axis i n) (prev axis i n) None (qs i) p (A.path i lt) m) as
      (λ _. NodeIn (prev axis i n (Some p)) (qs i)) [
        | inl e ↦ subst (λ (k : Node). NodeIn k (qs i)) (sym e) tt
        | inr k ↦ k
      ]

  pub may_unlink : (i : ℕ) (p : Spot) → i < length (heads axis n) → In p (qs i) → IsLinked axis i p n
  may_unlink i p lt m = (
    held_by i p m,
    node_there i (prev axis i n (Some p)) lt (before_in i p lt m),
    node_there i (next axis i n (Some p)) lt (next_in (next axis i n) (prev axis i n) None (qs i) p (A.path i lt) m),
  )

pub same_number : (j i : ℕ) → (j ≡ i) ⊎ (j ≢ i)
same_number j i =
    (elim (nat_eq j i) as (λ y. nat_eq j i ≡ y → (j ≡ i) ⊎ (j ≢ i))
    [ true ↦ λ e. inl (grind rules) | false ↦ λ e. inr (λ h. grind rules) ]) refl

-- a cell leaves its list of one axis
pub unlinked_axis : (axis : Axis) (qs : ℕ → List Spot) (n : Net) (A : IsAxis axis qs n) (i : ℕ) (p : Spot)
    → i < length (heads axis n) → In p (qs i)
    → IsAxis axis (λ j. dropped p (qs j)) (unlinked axis i p n)
unlinked_axis axis qs n A i p lt m =
    let may = may_unlink axis qs n A i p lt m in
    let b = prev axis i n (Some p) in let c = next axis i n (Some p) in
    let l1 : Sides = record (neighbours axis i n b) { after = c } in let n1 = with_links axis i b l1 n in
    let l2 : Sides = record (neighbours axis i n1 c) { before = b } in
    let there1 = node_put axis i b l1 n c may.2 in
    let count : length (heads axis (unlinked axis i p n)) ≡ length (heads axis n) = heads_put axis axis i c l2 n1
    ∙ heads_put axis axis i b l1 n in
    let cut = parted p (qs i) m in
    let own : Path (next axis i (unlinked axis i p n)) (prev axis i (unlinked axis i p n)) None (dropped p (qs i)) =
    let d : Apart None (cut.0 ++ p ∷ cut.1) = subst (Apart None) cut.2 (A.apart i) in
    subst (Path (next axis i (unlinked axis i p n)) (prev axis i (unlinked axis i p n)) None)
    (sym (ap (dropped p) cut.2 ∙ dropped_one None cut.0 p cut.1 d))
    (unlinked_ring axis i p n cut.0 cut.1 may d
    (subst (Path (next axis i n) (prev axis i n) None) cut.2 (A.path i lt))) in
    record {
      path = λ j jlt. elim (same_number j i) as (λ _. Path (next axis j (unlinked axis i p n))
          (prev axis j (unlinked axis i p n)) None (dropped p (qs j))) [
            | inl e ↦ subst (λ k. Path (next axis k (unlinked axis i p n)) (prev axis k (unlinked axis i p n)) None
                (dropped p (qs k))) (sym e) own
            | inr ne ↦ subst (Path (next axis j (unlinked axis i p n)) (prev axis j (unlinked axis i p n)) None)
                (sym (dropped_none p (qs j) (strangers axis qs n A i j p m ne)))
                (aside axis i j c l2 n1 (qs j) ne there1 (misses axis qs n A i j c
                (next_in (next axis i n) (prev axis i n) None (qs i) p (A.path i lt) m) ne)
                (aside axis i j b l1 n (qs j) ne may.1 (misses axis qs n A i j b (before_in axis qs n A i p lt m) ne)
                (A.path j (subst (λ k. j < k) count jlt))))
          ];
      apart = λ j. dropped_apart None p (qs j) (A.apart j);
      belongs = λ j q k. belongs_put axis axis i j c l2 n1 q
          (belongs_put axis axis i j b l1 n q (A.belongs j q (dropped_sub p q (qs j) k)));
    }

-- the other axis keeps its lists
pub crossed_axis : (axis other : Axis) (qs : ℕ → List Spot) (n : Net) (i : ℕ) (p : Spot) → axis ≢ other
    → IsAxis other qs n → IsAxis other qs (unlinked axis i p n)
crossed_axis axis other qs n i p ne A =
    let b = prev axis i n (Some p) in let c = next axis i n (Some p) in
    let l1 : Sides = record (neighbours axis i n b) { after = c } in let n1 = with_links axis i b l1 n in
    let l2 : Sides = record (neighbours axis i n1 c) { before = b } in
    record {
      path = λ j jlt. crossed_unlinked axis other i j p n (qs j) ne
          (A.path j (subst (λ k. j < k) (heads_put other axis i c l2 n1 ∙ heads_put other axis i b l1 n) jlt));
      apart = A.apart;
      belongs = λ j q k. belongs_put other axis i j c l2 n1 q (belongs_put other axis i j b l1 n q (A.belongs j q k));
    }

-- a path reads nothing of a place that it misses
pub path_same : (f g f' g' : Node → Node) (p : Spot) (a : Node) (ps : List Spot)
    → ((m : Node) → is_node (Some p) m ≡ false → f' m ≡ f m) → ((m : Node) → is_node (Some p) m ≡ false → g' m ≡ g m)
    → is_node (Some p) a ≡ false → Fresh (Some p) ps → Path f g a ps → Path f' g' a ps
path_same f g f' g' p a [] sf sg na fr h = (sf a na ∙ h.0, sg None refl ∙ h.1)
path_same f g f' g' p a (q ∷ qs) sf sg na fr h =
    (sf a na ∙ h.0, sg (Some q) fr.0 ∙ h.1, path_same f g f' g' p (Some q) qs sf sg fr.0 fr.1 h.2)

freed_links : (axis : Axis) (i : ℕ) (p : Spot) (n : Net) (m : Node) → is_node (Some p) m ≡ false
    → neighbours axis i (without_cell p n) m ≡ neighbours axis i n m
freed_links Object i p n None e = refl
freed_links Station i p n None e = refl
freed_links axis i p n (Some q) e = ap (λ o. links_in axis (unwrap_or o no_cell))
    (found_other q.at p.at n.held (same_sym q.at p.at ∙ e))

heads_freed : (axis : Axis) (p : Spot) (n : Net) → heads axis (without_cell p n) ≡ heads axis n
heads_freed Object p n = refl
heads_freed Station p n = refl

pub fresh_at : (p q : Spot) (ps : List Spot) → Fresh (Some p) ps → In q ps → is_same p.at q.at ≡ false
fresh_at p q [] f m = absurd m
fresh_at p q (r ∷ rs) f (inl e) = ap (λ (z : Spot). is_same p.at z.at) e ∙ f.0
fresh_at p q (r ∷ rs) f (inr m) = fresh_at p q rs f.1 m

-- a cell that is in no list is given back
pub freed_axis : (axis : Axis) (qs : ℕ → List Spot) (n : Net) (p : Spot) → ((i : ℕ) → Fresh (Some p) (qs i))
    → IsAxis axis qs n → IsAxis axis qs (without_cell p n)
freed_axis axis qs n p free A = record {
  path = λ i lt. path_same (next axis i n) (prev axis i n) (next axis i (without_cell p n))
      (prev axis i (without_cell p n)) p None (qs i)
      (λ m e. ap (λ (l : Sides). l.after) (freed_links axis i p n m e))
      (λ m e. ap (λ (l : Sides). l.before) (freed_links axis i p n m e)) refl (free i)
      (A.path i (subst (λ hs. i < length hs) (heads_freed axis p n) lt));
  apart = A.apart;
  belongs = λ i q m. let b = A.belongs i q m in
      (b.0, found_other q.at p.at n.held (same_sym q.at p.at ∙ fresh_at p q (qs i) (free i) m) ∙ b.1, b.2);
}

pub found_gone : (p : Ptr) (hs : List (Ptr × Cell)) → found p (without p hs) ≡ None
found_gone p [] = refl
found_gone p (h ∷ hs) =
    (elim (is_same p h.0) as (λ y. is_same p h.0 ≡ y → found p (if y then without p hs else h ∷ without p hs) ≡ None) [
      | true ↦ λ s. found_gone p hs
      | false ↦ λ s. ap (λ y. if y then Some h.1 else found p (without p hs)) s ∙ found_gone p hs
    ]) refl

back : (axis a : Axis) (i : ℕ) (p : Spot) (n : Net) → IsLinked a i p n → (j : ℕ) (q : Spot)
    → Belongs axis j q (unlinked a i p n) → Belongs axis j q n
back axis a i p n may j q b =
    let x = prev a i n (Some p) in let y = next a i n (Some p) in
    let l1 : Sides = record (neighbours a i n x) { after = y } in let n1 = with_links a i x l1 n in
    let l2 : Sides = record (neighbours a i n1 y) { before = x } in
    belonged axis a i j x l1 n q may.1 (belonged axis a i j y l2 n1 q (node_put a i x l1 n y may.2) b)

heads_unlinked : (axis a : Axis) (i : ℕ) (p : Spot) (n : Net)
    → length (heads axis (unlinked a i p n)) ≡ length (heads axis n)
heads_unlinked axis a i p n =
    let x = prev a i n (Some p) in let y = next a i n (Some p) in
    let l1 : Sides = record (neighbours a i n x) { after = y } in let n1 = with_links a i x l1 n in
    let l2 : Sides = record (neighbours a i n1 y) { before = x } in
    heads_put axis a i y l2 n1 ∙ heads_put axis a i x l1 n

pub station-object : Station ≢ Object
station-object e = cc

pub object-station : Object ≢ Station
object-station e = cc

module _ (rows columns : ℕ → List Spot) (n : Net) (M : IsMesh rows columns n) (i j : ℕ) (p : Spot)
    (ilt : i < length n.objects) (jlt : j < length n.stations) (im : In p (rows i)) (jm : In p (columns j)) where
  n1 : Net
  n1 = unlinked Object i p n

  first : IsAxis Object (λ k. dropped p (rows k)) (unlinked Object i p n)
  first = unlinked_axis Object rows n M.objects i p ilt im

  crossed : IsAxis Station columns (unlinked Object i p n)
  crossed = crossed_axis Object Station columns n i p object-station M.stations

  pub may_first : IsLinked Object i p n
  may_first = may_unlink Object rows n M.objects i p ilt im

  jlt1 : j < length (heads Station (unlinked Object i p n))
  jlt1 = subst (λ k. j < k) (sym (heads_unlinked Station Object i p n)) jlt

  pub may_second : IsLinked Station j p (unlinked Object i p n)
  may_second = may_unlink Station columns (unlinked Object i p n) crossed j p jlt1 jm

  all_in : (axis : Axis) (qs : ℕ → List Spot) → AllIn axis qs n → AllIn axis (λ k. dropped p (qs k)) (taken i j p n)
  all_in axis qs every q c e =
      let n2 = unlinked Station j p (unlinked Object i p n) in
      (elim (is_same p.at q.at) as (λ y. is_same p.at q.at ≡ y
      → (list_of axis c < length (heads axis (taken i j p n))) × In q (dropped p (qs (list_of axis c)))) [
        | true ↦ λ s. let none : found q.at (without p.at n2.held)
            ≡ None = ap (λ (z : Spot). found z.at (without p.at n2.held)) (sym (place_is p q s))
            ∙ found_gone p.at n2.held in
            let clash : None ≡ Some c = sym none ∙ e in cc
        | false ↦ λ s.
            let here : found q.at n2.held ≡ Some c = sym (found_other q.at p.at n2.held (same_sym q.at p.at ∙ s)) ∙ e in
            let b = back axis Object i p n may_first (list_of axis c) q
            (back axis Station j p (unlinked Object i p n) may_second (list_of axis c) q (c, here, refl)) in
            let was = every q b.0 b.1 in (
              subst (λ k. list_of axis c < k)
                  (sym (ap length (heads_freed axis p n2) ∙ heads_unlinked axis Station j p (unlinked Object i p n)
                  ∙ heads_unlinked axis Object i p n)) (subst (λ k. k < length (heads axis n)) b.2 was.0),
              dropped_keeps p q (qs (list_of axis c)) (subst (λ k. In q (qs k)) b.2 was.1) s,
            )
      ]) refl

  pub taken_mesh : IsMesh (λ k. dropped p (rows k)) (λ k. dropped p (columns k)) (taken i j p n)
  taken_mesh = record {
    objects = freed_axis Object (λ k. dropped p (rows k)) (unlinked Station j p (unlinked Object i p n)) p
        (λ k. dropped_gone p (rows k))
        (crossed_axis Station Object (λ k. dropped p (rows k)) (unlinked Object i p n) j p station-object first);
    stations = freed_axis Station (λ k. dropped p (columns k)) (unlinked Station j p (unlinked Object i p n)) p
        (λ k. dropped_gone p (columns k))
        (unlinked_axis Station columns (unlinked Object i p n) crossed j p jlt1 jm);
    in_row = all_in Object rows M.in_row;
    in_column = all_in Station columns M.in_column;
  }

-- fewer cells
pub without_fewer : (p : Ptr) (hs : List (Ptr × Cell)) → length (without p hs) ≤ length hs
without_fewer p [] = omega arith
without_fewer p (h ∷ hs) = elim (is_same p h.0) as
    (λ y. length (if y then without p hs else h ∷ without p hs) ≤ length (h ∷ hs))
    [ true ↦ omega (arith, without_fewer p hs) | false ↦ omega (arith, without_fewer p hs) ]

pub without_less : (p : Ptr) (hs : List (Ptr × Cell)) → IsSome (found p hs) → length (without p hs) < length hs
without_less p [] t = cc
without_less p (h ∷ hs) t =
    (elim (is_same p h.0) as (λ y. IsSome (if y then Some h.1 else found p hs)
    → length (if y then without p hs else h ∷ without p hs) < length (h ∷ hs)) [
      | true ↦ λ s. omega (arith, without_fewer p hs)
      | false ↦ λ s. omega (arith, without_less p hs s)
    ]) t

-- a list has no more places than there are cells
pub ring_fits : (hs : List (Ptr × Cell)) (a : Node) (ps : List Spot) → Apart a ps
    → ((q : Spot) → In q ps → IsSome (found q.at hs)) → length ps ≤ length hs
ring_fits hs a [] d h = omega arith
ring_fits hs a (p ∷ ps) d h =
    let less = without_less p.at hs (h p (inl refl)) in
    let rest = ring_fits (without p.at hs) (Some p) ps d.1
    (λ q m. subst IsSome
    (sym (found_other q.at p.at hs (same_sym q.at p.at ∙ fresh_at p q ps (apart_fresh p ps d.1) m))) (h q (inr m))) in
    omega (arith, less, rest)

-- the head leads to the first
pub front_is : (f g : Node → Node) (p : Spot) (ps : List Spot) → Path f g None ps → f None ≡ Some p
    → (qs : List Spot) × (ps ≡ p ∷ qs)
front_is f g p [] h e = let clash : None ≡ Some p = sym h.0 ∙ e in cc
front_is f g p (q ∷ qs) h e = (qs, ap (λ o. unwrap_or o p ∷ qs) (sym h.0 ∙ e))

pub front_none : (f g : Node → Node) (ps : List Spot) → Path f g None ps → f None ≡ None → ps ≡ []
front_none f g [] h e = refl
front_none f g (q ∷ qs) h e = let clash : None ≡ Some q = sym e ∙ h.0 in cc

put_held : (a : Axis) (i : ℕ) (k : Node) (l : Sides) (n : Net) (q : Spot) → IsSome (found q.at n.held)
    → IsSome (found q.at (with_links a i k l n).held)
put_held a i k l n q t = node_put a i k l n (Some q) t

stays_held : (a : Axis) (i : ℕ) (p : Spot) (n : Net) (q : Spot) → IsSome (found q.at n.held)
    → IsSome (found q.at (unlinked a i p n).held)
stays_held a i p n q t =
    let x = prev a i n (Some p) in let y = next a i n (Some p) in
    let l1 : Sides = record (neighbours a i n x) { after = y } in let n1 = with_links a i x l1 n in
    let l2 : Sides = record (neighbours a i n1 y) { before = x } in
    put_held a i y l2 n1 q (put_held a i x l1 n q t)

-- a cell that is held is in both of its lists, and may be taken out of them
module _ (rows columns : ℕ → List Spot) (n : Net) (M : IsMesh rows columns n) (p : Spot)
    (held : IsSome (found p.at n.held)) where
  it : (c : Cell) × (found p.at n.held ≡ Some c)
  it = some_of (found p.at n.held) held

  pub in_row : ((cell_at n p).object < length n.objects) × In p (rows (cell_at n p).object)
  in_row = subst (λ (c : Cell). (c.object < length n.objects) × In p (rows c.object)) (sym (cell_of n p it.0 it.1))
      (M.in_row p it.0 it.1)

  pub in_column : ((cell_at n p).station < length n.stations) × In p (columns (cell_at n p).station)
  in_column = subst (λ (c : Cell). (c.station < length n.stations) × In p (columns c.station))
      (sym (cell_of n p it.0 it.1)) (M.in_column p it.0 it.1)

  pub may_row : IsLinked Object (cell_at n p).object p n
  may_row = may_first rows columns n M (cell_at n p).object (cell_at n p).station p in_row.0 in_column.0 in_row.1
      in_column.1

  pub may_column : IsLinked Station (cell_at n p).station p (unlinked Object (cell_at n p).object p n)
  may_column = may_second rows columns n M (cell_at n p).object (cell_at n p).station p in_row.0 in_column.0 in_row.1
      in_column.1

  pub still_held
      : IsSome (found p.at (unlinked Station (cell_at n p).station p (unlinked Object (cell_at n p).object p n)).held)
  still_held = stays_held Station (cell_at n p).station p (unlinked Object (cell_at n p).object p n) p
      (stays_held Object (cell_at n p).object p n p held)

  pub out_mesh : IsMesh (λ k. dropped p (rows k)) (λ k. dropped p (columns k)) (taken_out p n)
  out_mesh = taken_mesh rows columns n M (cell_at n p).object (cell_at n p).station p in_row.0 in_column.0 in_row.1
      in_column.1

-- the heads are as many as before
pub heads_out : (axis : Axis) (i j : ℕ) (p : Spot) (n : Net)
    → length (heads axis (taken i j p n)) ≡ length (heads axis n)
heads_out axis i j p n =
    ap length (heads_freed axis p (unlinked Station j p (unlinked Object i p n)))
    ∙ heads_unlinked axis Station j p (unlinked Object i p n) ∙ heads_unlinked axis Object i p n

-- the first cell of a station's list is held, and the station's
pub front_held : (rows columns : ℕ → List Spot) (n : Net) → IsMesh rows columns n → (s : ℕ) (p : Spot)
    → s < length n.stations → next Station s n None ≡ Some p
    → IsSome (found p.at n.held) × ((cell_at n p).station ≡ s)
front_held rows columns n M s p slt front =
    let rest = front_is (next Station s n) (prev Station s n) p (columns s) (M.stations.path s slt) front in
    let b = M.stations.belongs s p (subst (In p) (sym rest.1) (inl refl)) in
    (subst IsSome (sym b.1) refl, ap (λ (c : Cell). c.station) (cell_of n p b.0 b.1) ∙ b.2)

-- where its list is empty, no cell is a station's
pub none_held : (rows columns : ℕ → List Spot) (n : Net) → IsMesh rows columns n → (s : ℕ) → s < length n.stations
    → next Station s n None ≡ None
    → (p : Spot) → IsSome (found p.at n.held) → (cell_at n p).station ≢ s
none_held rows columns n M s slt empty p held same =
    let none = front_none (next Station s n) (prev Station s n) (columns s) (M.stations.path s slt) empty in
    let m = in_column rows columns n M p held in
    absurd (subst (In p) (ap columns same ∙ none) m.1)
