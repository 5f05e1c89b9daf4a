-- A newer echo in a cell changes no list.
use Rattle.std.proofs.Common.{◌≡◌, ℕ, ◌<◌, true, false, if◌then◌else◌, List, [], ◌∷◌, length, Some, None, IsSome}
use Rattle.std.proofs.Common.{unwrap_or, refl, sym, ap, ◌∙◌, subst}
use Rattle.smi_watchers.specs.declared.cell.Cell.{Cell}
use Rattle.smi_watchers.specs.declared.cell.Sides.{Sides}
use Rattle.smi_watchers.specs.declared.cell.Spot.{Spot}
use Rattle.smi_watchers.specs.declared.lists.Axis.{Axis}
use Rattle.smi_watchers.specs.declared.lists.Axis.TheVariants.{Object, Station}
use Rattle.smi_watchers.specs.Held.{is_same, found}
use Rattle.smi_watchers.specs.Ring.{Node, Path}
use Rattle.smi_watchers.specs.Net.{Net, no_cell, heads, links_in, cell_at, neighbours, next, prev, with_echo}
use Rattle.smi_watchers.specs.Mesh.{list_of, In, Belongs, IsAxis, AllIn, IsMesh}
use Rattle.smi_watchers.proofs.Memory.{some_of}
use Rattle.smi_watchers.proofs.Nets.{found_put}
use Rattle.smi_watchers.proofs.Meshes.{place_is, cell_of}

path_again : (f g f' g' : Node → Node) (a : Node) (ps : List Spot) → ((m : Node) → f' m ≡ f m)
    → ((m : Node) → g' m ≡ g m) → Path f g a ps → Path f' g' a ps
path_again f g f' g' a [] sf sg h = (sf a ∙ h.0, sg None ∙ h.1)
path_again f g f' g' a (q ∷ qs) sf sg h = (sf a ∙ h.0, sg (Some q) ∙ h.1, path_again f g f' g' (Some q) qs sf sg h.2)

module _ (p : Spot) (e : ℕ) (n : Net) where
  abbrev c : Cell
  c = record (cell_at n p) { echo = e }

  links_of : (axis : Axis) → links_in axis c ≡ links_in axis (cell_at n p)
  links_of Object = refl
  links_of Station = refl

  list_same : (axis : Axis) → list_of axis c ≡ list_of axis (cell_at n p)
  list_same Object = refl
  list_same Station = refl

  heads_same : (axis : Axis) → heads axis (with_echo p e n) ≡ heads axis n
  heads_same Object = refl
  heads_same Station = refl

  links_same : (axis : Axis) (i : ℕ) (m : Node) → neighbours axis i (with_echo p e n) m ≡ neighbours axis i n m
  links_same Object i None = refl
  links_same Station i None = refl
  links_same axis i (Some q) =
      ap (λ o. links_in axis (unwrap_or o no_cell)) (found_put q.at p.at c n.held)
      ∙ (elim (is_same p.at q.at) as (λ y. is_same p.at q.at ≡ y
      → links_in axis (unwrap_or (if y then Some c else found q.at n.held) no_cell) ≡ links_in axis (cell_at n q)) [
        | true ↦ λ s. links_of axis ∙ ap (λ (z : Spot). links_in axis (cell_at n z)) (place_is p q s)
        | false ↦ λ s. refl
      ]) refl

  belongs_after : (axis : Axis) (i : ℕ) (q : Spot) → Belongs axis i q n → Belongs axis i q (with_echo p e n)
  belongs_after axis i q b =
      (elim (is_same p.at q.at) as (λ y. is_same p.at q.at ≡ y → Belongs axis i q (with_echo p e n)) [
        | true ↦ λ s. (
          c,
          found_put q.at p.at c n.held ∙ ap (λ y. if y then Some c else found q.at n.held) s,
          list_same axis
              ∙ ap (list_of axis)
              (cell_of n p b.0 (ap (λ (z : Spot). found z.at n.held) (place_is p q s) ∙ b.1)) ∙ b.2,
        )
        | false ↦ λ s. (
          b.0,
          found_put q.at p.at c n.held ∙ ap (λ y. if y then Some c else found q.at n.held) s
              ∙ b.1,
          b.2,
        )
      ]) refl

  belongs_before : IsSome (found p.at n.held) → (axis : Axis) (i : ℕ) (q : Spot)
      → Belongs axis i q (with_echo p e n) → Belongs axis i q n
  belongs_before held axis i q b =
      let it = some_of (found p.at n.held) held in let put = sym (found_put q.at p.at c n.held) ∙ b.1 in
      (elim (is_same p.at q.at) as (λ y. is_same p.at q.at ≡ y → (if y then Some c else found q.at n.held) ≡ Some b.0
      → Belongs axis i q n) [
        | true ↦ λ s f. let same : c ≡ b.0 = cc in (
          it.0,
          ap (λ (z : Spot). found z.at n.held) (sym (place_is p q s)) ∙ it.1,
          ap (list_of axis) (sym (cell_of n p it.0 it.1)) ∙ sym (list_same axis) ∙ ap (list_of axis) same ∙ b.2,
        )
        | false ↦ λ s f. (b.0, f, b.2)
      ]) refl put

  axis_same : (axis : Axis) (qs : ℕ → List Spot) → IsAxis axis qs n → IsAxis axis qs (with_echo p e n)
  axis_same axis qs A = record {
    path = λ i lt. path_again (next axis i n) (prev axis i n) (next axis i (with_echo p e n))
        (prev axis i (with_echo p e n)) None (qs i)
        (λ m. ap (λ (l : Sides). l.after) (links_same axis i m))
        (λ m. ap (λ (l : Sides). l.before) (links_same axis i m))
        (A.path i (subst (λ hs. i < length hs) (heads_same axis) lt));
    apart = A.apart;
    belongs = λ i q m. belongs_after axis i q (A.belongs i q m);
  }

  all_in : IsSome (found p.at n.held) → (axis : Axis) (qs : ℕ → List Spot) → AllIn axis qs n
      → AllIn axis qs (with_echo p e n)
  all_in held axis qs every q x f =
      let b = belongs_before held axis (list_of axis x) q (x, f, refl) in let was = every q b.0 b.1 in (
        subst (λ (hs : List Sides). list_of axis x < length hs) (sym (heads_same axis))
            (subst (λ k. k < length (heads axis n)) b.2 was.0),
        subst (λ k. In q (qs k)) b.2 was.1,
      )

  pub echo_mesh : (rows columns : ℕ → List Spot) → IsSome (found p.at n.held) → IsMesh rows columns n
      → IsMesh rows columns (with_echo p e n)
  echo_mesh rows columns held M = record {
    objects = axis_same Object rows M.objects;
    stations = axis_same Station columns M.stations;
    in_row = all_in held Object rows M.in_row;
    in_column = all_in held Station columns M.in_column;
  }
