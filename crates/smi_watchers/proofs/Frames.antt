-- What linking leaves of the watchers that cells stand for.
use Rattle.std.proofs.Common.{◌≡◌, ℕ, true, false, if◌then◌else◌, inl, inr, List, [], ◌∷◌, map, Some, None, unwrap_or}
use Rattle.std.proofs.Common.{refl, ap, ◌∙◌}
use Rattle.smi_watchers.specs.declared.cell.Cell.{Cell}
use Rattle.smi_watchers.specs.declared.cell.Sides.{Sides}
use Rattle.smi_watchers.specs.declared.cell.Spot.{Spot}
use Rattle.smi_watchers.specs.declared.watcher.Watcher.{Watcher}
use Rattle.smi_watchers.specs.declared.lists.Axis.{Axis}
use Rattle.smi_watchers.specs.declared.lists.Axis.TheVariants.{Object, Station}
use Rattle.smi_watchers.specs.Held.{is_same, found}
use Rattle.smi_watchers.specs.Ring.{Node}
use Rattle.smi_watchers.specs.Net.{Net, no_cell, relinked, cell_at, neighbours, with_links, next, prev, unlinked}
use Rattle.smi_watchers.specs.Net.{linked, with_cell, taken, put_in, with_echo}
use Rattle.smi_watchers.specs.Mesh.{In}
use Rattle.smi_watchers.specs.Watching.{watcher}
use Rattle.smi_watchers.specs.Kept.{watcher_of}
use Rattle.smi_watchers.proofs.Rings.{same_refl, same_sym}
use Rattle.smi_watchers.proofs.Nets.{found_put, found_other}
use Rattle.smi_watchers.proofs.Meshes.{place_is}

abbrev pub watcher_at : Net → Spot → Watcher
watcher_at n p = watcher_of (cell_at n p)

watcher_relinked : (a : Axis) (l : Sides) (c : Cell) → watcher_of (relinked a l c) ≡ watcher_of c
watcher_relinked Object l c = refl
watcher_relinked Station l c = refl

watcher_put : (a : Axis) (i : ℕ) (k : Node) (l : Sides) (n : Net) (q : Spot)
    → watcher_at (with_links a i k l n) q ≡ watcher_at n q
watcher_put Object i None l n q = refl
watcher_put Station i None l n q = refl
watcher_put a i (Some p) l n q =
    ap (λ o. watcher_of (unwrap_or o no_cell)) (found_put q.at p.at (relinked a l (cell_at n p)) n.held)
    ∙ (elim (is_same p.at q.at) as (λ y. is_same p.at q.at ≡ y
    → watcher_of (unwrap_or (if y then Some (relinked a l (cell_at n p)) else found q.at n.held) no_cell)
    ≡ watcher_at n q) [
      | true ↦ λ s. watcher_relinked a l (cell_at n p) ∙ ap (watcher_at n) (place_is p q s)
      | false ↦ λ s. refl
    ]) refl

watcher_unlinked : (a : Axis) (i : ℕ) (p : Spot) (n : Net) (q : Spot)
    → watcher_at (unlinked a i p n) q ≡ watcher_at n q
watcher_unlinked a i p n q =
    let x = prev a i n (Some p) in let y = next a i n (Some p) in
    let l1 : Sides = record (neighbours a i n x) { after = y } in let n1 = with_links a i x l1 n in
    let l2 : Sides = record (neighbours a i n1 y) { before = x } in
    watcher_put a i y l2 n1 q ∙ watcher_put a i x l1 n q

watcher_linked : (a : Axis) (i : ℕ) (p : Spot) (n : Net) (q : Spot) → watcher_at (linked a i p n) q ≡ watcher_at n q
watcher_linked a i p n q =
    let last = prev a i n None in
    let l1 : Sides = record { before = last; after = None } in let n1 = with_links a i (Some p) l1 n in
    let l2 : Sides = record (neighbours a i n1 last) { after = Some p } in let n2 = with_links a i last l2 n1 in
    let l3 : Sides = record (neighbours a i n2 None) { before = Some p } in
    watcher_put a i None l3 n2 q ∙ watcher_put a i last l2 n1 q ∙ watcher_put a i (Some p) l1 n q

pub watcher_taken : (i j : ℕ) (p : Spot) (n : Net) (q : Spot) → is_same q.at p.at ≡ false
    → watcher_at (taken i j p n) q ≡ watcher_at n q
watcher_taken i j p n q other =
    let n1 = unlinked Object i p n in let n2 = unlinked Station j p n1 in
    ap (λ o. watcher_of (unwrap_or o no_cell)) (found_other q.at p.at n2.held other)
    ∙ watcher_unlinked Station j p n1 q ∙ watcher_unlinked Object i p n q

watcher_joined : (p : Spot) (c : Cell) (n : Net) (q : Spot)
    → watcher_at (put_in p c n) q ≡ watcher_at (with_cell p c n) q
watcher_joined p c n q = watcher_linked Station c.station p (linked Object c.object p (with_cell p c n)) q
    ∙ watcher_linked Object c.object p (with_cell p c n) q

pub watcher_new : (p : Spot) (c : Cell) (n : Net) → watcher_at (put_in p c n) p ≡ watcher_of c
watcher_new p c n = watcher_joined p c n p
    ∙ ap (λ y. watcher_of (unwrap_or (if y then Some c else found p.at n.held) no_cell)) (same_refl p.at)

pub watcher_beside : (p : Spot) (c : Cell) (n : Net) (q : Spot) → is_same q.at p.at ≡ false
    → watcher_at (put_in p c n) q ≡ watcher_at n q
watcher_beside p c n q other = watcher_joined p c n q
    ∙ ap (λ y. watcher_of (unwrap_or (if y then Some c else found q.at n.held) no_cell)) other

pub echo_there : (p : Spot) (e : ℕ) (n : Net) → watcher_at (with_echo p e n) p ≡ watcher (cell_at n p).station e
echo_there p e n = let c : Cell = record (cell_at n p) { echo = e } in
    ap (λ o. watcher_of (unwrap_or o no_cell)) (found_put p.at p.at c n.held)
    ∙ ap (λ y. watcher_of (unwrap_or (if y then Some c else found p.at n.held) no_cell)) (same_refl p.at)

pub echo_beside : (p : Spot) (e : ℕ) (n : Net) (q : Spot) → is_same q.at p.at ≡ false
    → watcher_at (with_echo p e n) q ≡ watcher_at n q
echo_beside p e n q other = let c : Cell = record (cell_at n p) { echo = e } in
    ap (λ o. watcher_of (unwrap_or o no_cell)) (found_put q.at p.at c n.held)
    ∙ ap (λ y. watcher_of (unwrap_or (if y then Some c else found q.at n.held) no_cell)) (same_sym p.at q.at ∙ other)

-- watchers that are the same one by one
pub map_same : (f g : Spot → Watcher) (ps : List Spot) → ((q : Spot) → In q ps → f q ≡ g q) → map f ps ≡ map g ps
map_same f g [] h = refl
map_same f g (p ∷ ps) h = (λ i. h p (inl refl) i ∷ map_same f g ps (λ q m. h q (inr m)) i)
