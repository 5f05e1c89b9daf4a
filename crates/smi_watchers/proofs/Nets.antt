-- What a write to a node's links does to the rings.
use Rattle.std.proofs.Common.{◌≡◌, ℕ, ◌<◌, true, false, if◌then◌else◌, List, [], ◌∷◌, Some, None, IsSome, unwrap_or}
use Rattle.std.proofs.Common.{refl, sym, ap, ◌∙◌, subst, length-set, get_or-set_same}
use denote.RawPtr.{Ptr}
use Rattle.smi_watchers.specs.declared.cell.Cell.{Cell}
use Rattle.smi_watchers.specs.declared.cell.Sides.{Sides}
use Rattle.smi_watchers.specs.declared.lists.Axis.{Axis}
use Rattle.smi_watchers.specs.declared.lists.Axis.TheVariants.{Object, Station}
use Rattle.smi_watchers.specs.Held.{is_same, found, without}
use Rattle.smi_watchers.specs.Ring.{Node, is_node}
use Rattle.smi_watchers.specs.Net.{Net, no_links, no_cell, links_in, relinked, cell_at, IsNode, neighbours}
use Rattle.smi_watchers.specs.Net.{with_links}
use Rattle.smi_watchers.proofs.Rings.{same_sym}
use Rattle.smi_watchers.proofs.Memory.{same_is}

-- the map
pub found_other : (q p : Ptr) (hs : List (Ptr × Cell)) → is_same q p ≡ false → found q (without p hs) ≡ found q hs
found_other q p [] e = refl
found_other q p (h ∷ hs) e =
    (elim (is_same p h.0) as (λ y. is_same p h.0 ≡ y
    → found q (if y then without p hs else h ∷ without p hs) ≡ (if is_same q h.0 then Some h.1 else found q hs)) [
      | true ↦ λ s. found_other q p hs e
          ∙ sym (ap (λ y. if y then Some h.1 else found q hs) (ap (is_same q) (sym (same_is p h.0 s)) ∙ e))
      | false ↦ λ s. ap (λ r. if is_same q h.0 then Some h.1 else r) (found_other q p hs e)
    ]) refl

pub found_put : (q p : Ptr) (c : Cell) (hs : List (Ptr × Cell))
    → found q ((p, c) ∷ without p hs) ≡ (if is_same p q then Some c else found q hs)
found_put q p c hs =
    (elim (is_same p q) as (λ y. is_same p q ≡ y
    → (if is_same q p then Some c else found q (without p hs)) ≡ (if y then Some c else found q hs)) [
      | true ↦ λ s. ap (λ y. if y then Some c else found q (without p hs)) (same_sym q p ∙ s)
      | false ↦ λ s. ap (λ y. if y then Some c else found q (without p hs)) (same_sym q p ∙ s)
          ∙ found_other q p hs (same_sym q p ∙ s)
    ]) refl

-- what a node has beside it after a write
pub links_put : (axis : Axis) (list : ℕ) (k : Node) (l : Sides) (n : Net) (m : Node) → IsNode axis list k n
    → neighbours axis list (with_links axis list k l n) m ≡ (if is_node k m then l else neighbours axis list n m)
links_put Object list None l n None here = get_or-set_same n.objects list l no_links here
links_put Station list None l n None here = get_or-set_same n.stations list l no_links here
links_put Object list None l n (Some q) here = refl
links_put Station list None l n (Some q) here = refl
links_put Object list (Some p) l n None here = refl
links_put Station list (Some p) l n None here = refl
links_put Object list (Some p) l n (Some q) here =
    ap (λ o. links_in Object (unwrap_or o no_cell)) (found_put q.at p.at (relinked Object l (cell_at n p)) n.held)
    ∙ elim (is_same p.at q.at) as (λ y. links_in Object
    (unwrap_or (if y then Some (relinked Object l (cell_at n p)) else found q.at n.held) no_cell)
    ≡ (if y then l else links_in Object (cell_at n q))) [ true ↦ refl | false ↦ refl ]
links_put Station list (Some p) l n (Some q) here =
    ap (λ o. links_in Station (unwrap_or o no_cell)) (found_put q.at p.at (relinked Station l (cell_at n p)) n.held)
    ∙ elim (is_same p.at q.at) as (λ y. links_in Station
    (unwrap_or (if y then Some (relinked Station l (cell_at n p)) else found q.at n.held) no_cell)
    ≡ (if y then l else links_in Station (cell_at n q))) [ true ↦ refl | false ↦ refl ]

-- a node stays one
pub node_put : (axis : Axis) (list : ℕ) (k : Node) (l : Sides) (n : Net) (m : Node) → IsNode axis list m n
    → IsNode axis list m (with_links axis list k l n)
node_put Object list None l n None here = subst (λ k. list < k) (sym (length-set n.objects list l)) here
node_put Station list None l n None here = subst (λ k. list < k) (sym (length-set n.stations list l)) here
node_put Object list None l n (Some q) here = here
node_put Station list None l n (Some q) here = here
node_put Object list (Some p) l n None here = here
node_put Station list (Some p) l n None here = here
node_put axis list (Some p) l n (Some q) here =
    subst IsSome (sym (found_put q.at p.at (relinked axis l (cell_at n p)) n.held))
    (elim (is_same p.at q.at) as
    (λ y. IsSome (if y then Some (relinked axis l (cell_at n p)) else found q.at n.held))
    [ true ↦ refl | false ↦ here ])
