-- What linking and unlinking do to the ring of a list, and to the rings of the others.
use Rattle.std.proofs.Common.{◌≡◌, ◌≢◌, ℕ, true, false, if◌then◌else◌, List, [], ◌∷◌, ◌++◌, Some, None, unwrap_or}
use Rattle.std.proofs.Common.{refl, sym, ap, ◌∙◌, subst, get_or-set_other}
use denote.RawPtr.{Ptr}
use Rattle.smi_watchers.specs.Held.{is_same, found}
use Rattle.smi_watchers.specs.declared.cell.Cell.{Cell}
use Rattle.smi_watchers.specs.declared.cell.Sides.{Sides}
use Rattle.smi_watchers.specs.declared.cell.Spot.{Spot}
use Rattle.smi_watchers.specs.declared.lists.Axis.{Axis}
use Rattle.smi_watchers.specs.declared.lists.Axis.TheVariants.{Object, Station}
use Rattle.smi_watchers.specs.Ring.{Node, is_node, but, Path, Fresh, Apart, last_of, first_of}
use Rattle.smi_watchers.specs.Net.{Net, no_links, no_cell, links_in, relinked, cell_at, IsNode, neighbours}
use Rattle.smi_watchers.specs.Net.{with_links, next, prev, with_next, with_prev, IsLinked, MayLink, unlinked, linked}
use Rattle.smi_watchers.proofs.Memory.{same_is}
use Rattle.smi_watchers.proofs.Rings.{beside, path_past, path_without, path_with}
use Rattle.smi_watchers.proofs.Nets.{links_put, node_put, found_put}

node_is : (k m : Node) → is_node k m ≡ true → k ≡ m
node_is None None e = refl
node_is None (Some q) e = cc
node_is (Some p) None e = cc
node_is (Some p) (Some q) e = λ i. Some (record { at = same_is p.at q.at e i })

-- a function of nodes that is set to what it is
but_own : (k : Node) (f : Node → Node) (m : Node) → (if is_node k m then f k else f m) ≡ f m
but_own k f m =
    (elim (is_node k m) as (λ y. is_node k m ≡ y → (if y then f k else f m) ≡ f m)
    [ true ↦ λ e. ap f (node_is k m e) | false ↦ λ e. refl ]) refl

module _ (axis : Axis) (list : ℕ) (k : Node) (n : Net) (there : IsNode axis list k n) where
  pub next_put : (l : Sides) → next axis list (with_links axis list k l n) ≡ but k l.after (next axis list n)
  next_put l = λ i m. (ap (λ (x : Sides). x.after) (links_put axis list k l n m there)
      ∙ elim (is_node k m) as (λ y. (if y then l else neighbours axis list n m).after
      ≡ (if y then l.after else next axis list n m)) [ true ↦ refl | false ↦ refl ]) i

  pub prev_put : (l : Sides) → prev axis list (with_links axis list k l n) ≡ but k l.before (prev axis list n)
  prev_put l = λ i m. (ap (λ (x : Sides). x.before) (links_put axis list k l n m there)
      ∙ elim (is_node k m) as (λ y. (if y then l else neighbours axis list n m).before
      ≡ (if y then l.before else prev axis list n m)) [ true ↦ refl | false ↦ refl ]) i

  pub next_next : (v : Node) → next axis list (with_next axis list k v n) ≡ but k v (next axis list n)
  next_next v = next_put (record (neighbours axis list n k) { after = v })

  pub prev_next : (v : Node) → prev axis list (with_next axis list k v n) ≡ prev axis list n
  prev_next v = prev_put (record (neighbours axis list n k) { after = v }) ∙ (λ i m. but_own k (prev axis list n) m i)

  pub next_prev : (v : Node) → next axis list (with_prev axis list k v n) ≡ next axis list n
  next_prev v = next_put (record (neighbours axis list n k) { before = v }) ∙ (λ i m. but_own k (next axis list n) m i)

  pub prev_prev : (v : Node) → prev axis list (with_prev axis list k v n) ≡ but k v (prev axis list n)
  prev_prev v = prev_put (record (neighbours axis list n k) { before = v })

last_is : (f g : Node → Node) (a : Node) (ps : List Spot) → Path f g a ps → g None ≡ last_of a ps
last_is f g a [] h = h.1
last_is f g a (p ∷ ps) h = last_is f g (Some p) ps h.2

-- the list's ring as it is after
pub unlinked_ring : (axis : Axis) (list : ℕ) (p : Spot) (n : Net) (xs ys : List Spot) → IsLinked axis list p n
    → Apart None (xs ++ p ∷ ys) → Path (next axis list n) (prev axis list n) None (xs ++ p ∷ ys)
    → Path (next axis list (unlinked axis list p n)) (prev axis list (unlinked axis list p n)) None (xs ++ ys)
unlinked_ring axis list p n xs ys may d h =
    let f = next axis list n in let g = prev axis list n in let b = g (Some p) in let c = f (Some p) in
    let n1 = with_next axis list b c n in
    let may1 = node_put axis list b (record (neighbours axis list n b) { after = c }) n c may.2 in
    let by = beside f g None xs p ys h in
    let f' : next axis list (unlinked axis list p n) ≡ but (last_of None xs) (first_of ys) f =
    next_prev axis list c n1 may1 b ∙ next_next axis list b n may.1 c ∙ (λ i. but (by.0 i) (by.1 i) f) in
    let g' : prev axis list (unlinked axis list p n) ≡ but (first_of ys) (last_of None xs) g =
    prev_prev axis list c n1 may1 b ∙ (λ i. but (by.1 i) (by.0 i) (prev_next axis list b n may.1 c i)) in
    subst (λ (u : (Node → Node) × (Node → Node)). Path u.0 u.1 None (xs ++ ys)) (λ i. (sym f' i, sym g' i))
    (path_without f g None xs p ys d h)

pub linked_ring : (axis : Axis) (list : ℕ) (p : Spot) (n : Net) (ps : List Spot) → MayLink axis list p n
    → Apart None ps → Fresh (Some p) ps → Path (next axis list n) (prev axis list n) None ps
    → Path (next axis list (linked axis list p n)) (prev axis list (linked axis list p n)) None (ps ++ p ∷ [])
linked_ring axis list p n ps may d fresh h =
    let f = next axis list n in let g = prev axis list n in let l = g None in
    let links : Sides = record { before = l; after = None } in
    let n1 = with_links axis list (Some p) links n in let n2 = with_next axis list l (Some p) n1 in
    let may1 = node_put axis list (Some p) links n l may.2 in
    let may2 = node_put axis list l (record (neighbours axis list n1 l) { after = Some p }) n1 None
    (node_put axis list (Some p) links n None may.0) in
    let last = last_is f g None ps h in
    let f' : next axis list (linked axis list p n) ≡ but (last_of None ps) (Some p) (but (Some p) None f) =
    next_prev axis list None n2 may2 (Some p) ∙ next_next axis list l n1 may1 (Some p)
    ∙ (λ i. but (last i) (Some p) (next_put axis list (Some p) n may.1 links i)) in
    let g' : prev axis list (linked axis list p n) ≡ but None (Some p) (but (Some p) (last_of None ps) g) =
    prev_prev axis list None n2 may2 (Some p)
    ∙ (λ i. but None (Some p)
    ((prev_next axis list l n1 may1 (Some p) ∙ prev_put axis list (Some p) n may.1 links
    ∙ (λ j. but (Some p) (last j) g)) i)) in
    subst (λ (u : (Node → Node) × (Node → Node)). Path u.0 u.1 None (ps ++ p ∷ [])) (λ i. (sym f' i, sym g' i))
    (path_with f g None ps p d fresh refl h)

-- along the other axis nothing changes
other_cell : (axis other : Axis) (l : Sides) (c : Cell) → axis ≢ other
    → links_in other (relinked axis l c) ≡ links_in other c
other_cell Object Object l c e = absurd (e refl)
other_cell Object Station l c e = refl
other_cell Station Object l c e = refl
other_cell Station Station l c e = absurd (e refl)

-- what a write along one axis leaves of the other
pub links_other : (axis other : Axis) (i j : ℕ) (k : Node) (l : Sides) (n : Net) (m : Node) → axis ≢ other
    → neighbours other j (with_links axis i k l n) m ≡ neighbours other j n m
links_other Object Object i j k l n m e = absurd (e refl)
links_other Station Station i j k l n m e = absurd (e refl)
links_other Object Station i j None l n None e = refl
links_other Station Object i j None l n None e = refl
links_other Object Station i j None l n (Some q) e = refl
links_other Station Object i j None l n (Some q) e = refl
links_other Object Station i j (Some p) l n None e = refl
links_other Station Object i j (Some p) l n None e = refl
links_other Object Station i j (Some p) l n (Some q) e =
    ap (λ o. links_in Station (unwrap_or o no_cell)) (found_put q.at p.at (relinked Object l (cell_at n p)) n.held)
    ∙ (elim (is_same p.at q.at) as (λ y. is_same p.at q.at ≡ y
    → links_in Station (unwrap_or (if y then Some (relinked Object l (cell_at n p)) else found q.at n.held)
    no_cell) ≡ links_in Station (cell_at n q)) [
      | true ↦ λ s. ap (λ (a : Ptr). links_in Station (unwrap_or (found a n.held) no_cell))
          (same_is p.at q.at s)
      | false ↦ λ s. refl
    ]) refl
links_other Station Object i j (Some p) l n (Some q) e =
    ap (λ o. links_in Object (unwrap_or o no_cell)) (found_put q.at p.at (relinked Station l (cell_at n p)) n.held)
    ∙ (elim (is_same p.at q.at) as (λ y. is_same p.at q.at ≡ y
    → links_in Object (unwrap_or (if y then Some (relinked Station l (cell_at n p)) else found q.at n.held)
    no_cell) ≡ links_in Object (cell_at n q)) [
      | true ↦ λ s. ap (λ (a : Ptr). links_in Object (unwrap_or (found a n.held) no_cell))
          (same_is p.at q.at s)
      | false ↦ λ s. refl
    ]) refl

-- the rings of the other axis are unchanged
pub crossed_unlinked : (axis other : Axis) (i j : ℕ) (p : Spot) (n : Net) (ps : List Spot) → axis ≢ other
    → Path (next other j n) (prev other j n) None ps
    → Path (next other j (unlinked axis i p n)) (prev other j (unlinked axis i p n)) None ps
crossed_unlinked axis other i j p n ps e h =
    let b = prev axis i n (Some p) in let c = next axis i n (Some p) in
    let l1 : Sides = record (neighbours axis i n b) { after = c } in let n1 = with_links axis i b l1 n in
    let l2 : Sides = record (neighbours axis i n1 c) { before = b } in
    let same : (m : Node) → neighbours other j (unlinked axis i p n) m
    ≡ neighbours other j n m = λ m. links_other axis other i j c l2 n1 m e ∙ links_other axis other i j b l1 n m e in
    subst (λ (u : Node → Sides). Path (λ m. (u m).after) (λ m. (u m).before) None ps) (λ k m. sym (same m) k) h

pub crossed_linked : (axis other : Axis) (i j : ℕ) (p : Spot) (n : Net) (ps : List Spot) → axis ≢ other
    → Path (next other j n) (prev other j n) None ps
    → Path (next other j (linked axis i p n)) (prev other j (linked axis i p n)) None ps
crossed_linked axis other i j p n ps e h =
    let b = prev axis i n None in
    let l0 : Sides = record { before = b; after = None } in let n0 = with_links axis i (Some p) l0 n in
    let l1 : Sides = record (neighbours axis i n0 b) { after = Some p } in let n1 = with_links axis i b l1 n0 in
    let l2 : Sides = record (neighbours axis i n1 None) { before = Some p } in
    let same : (m : Node) → neighbours other j (linked axis i p n) m ≡ neighbours other j n m =
    λ m. links_other axis other i j None l2 n1 m e ∙ links_other axis other i j b l1 n0 m e
    ∙ links_other axis other i j (Some p) l0 n m e in
    subst (λ (u : Node → Sides). Path (λ m. (u m).after) (λ m. (u m).before) None ps) (λ k m. sym (same m) k) h

-- a node that the ring of another list does not read
abbrev pub Misses : Node → List Spot → Type 0
Misses None ps = Unit {0}
Misses (Some p) ps = Fresh (Some p) ps

-- the ring of another list of the same axis is unchanged
pub aside : (axis : Axis) (i j : ℕ) (k : Node) (l : Sides) (n : Net) (ps : List Spot) → j ≢ i → IsNode axis i k n
    → Misses k ps → Path (next axis j n) (prev axis j n) None ps
    → Path (next axis j (with_links axis i k l n)) (prev axis j (with_links axis i k l n)) None ps
aside Object i j None l n ps e there f h =
    let same : (m : Node) → neighbours Object j (with_links Object i None l n) m
    ≡ neighbours Object j n m = λ m. elim m as
    (λ m. neighbours Object j (with_links Object i None l n) m ≡ neighbours Object j n m)
    [ None ↦ get_or-set_other n.objects i j l no_links e | Some q ↦ refl ] in
    subst (λ (u : Node → Sides). Path (λ m. (u m).after) (λ m. (u m).before) None ps) (λ k m. sym (same m) k) h
aside Station i j None l n ps e there f h =
    let same : (m : Node) → neighbours Station j (with_links Station i None l n) m
    ≡ neighbours Station j n m = λ m. elim m as
    (λ m. neighbours Station j (with_links Station i None l n) m ≡ neighbours Station j n m)
    [ None ↦ get_or-set_other n.stations i j l no_links e | Some q ↦ refl ] in
    subst (λ (u : Node → Sides). Path (λ m. (u m).after) (λ m. (u m).before) None ps) (λ k m. sym (same m) k) h
aside axis i j (Some p) l n ps e there f h =
    subst (λ (u : (Node → Node) × (Node → Node)). Path u.0 u.1 None ps)
    (λ k. (sym (next_put axis j (Some p) n there l) k, sym (prev_put axis j (Some p) n there l) k))
    (path_past (next axis j n) (prev axis j n) (Some p) l.after (Some p) l.before None ps refl f refl f h)
