-- A walk along an object's list.
use Rattle.std.proofs.Common.{◌≡◌, ℕ, zero, suc, ◌<◌, ◌≤◌, arith, inl, inr, List, [], ◌∷◌, length, Some, None, IsSome}
use Rattle.std.proofs.Common.{unwrap_or, refl, sym, ap, ◌∙◌, subst}
use Rattle.smi_watchers.specs.declared.cell.Spot.{Spot}
use Rattle.smi_watchers.specs.declared.lists.Axis.TheVariants.{Object}
use Rattle.smi_watchers.specs.Held.{found}
use Rattle.smi_watchers.specs.Ring.{Node, Path}
use Rattle.smi_watchers.specs.Net.{Net, cell_at, next, prev}
use Rattle.smi_watchers.specs.Mesh.{In, IsMesh}
use Rattle.smi_watchers.specs.Walked.{trace, walked, Chain}
use Rattle.smi_watchers.proofs.Meshes.{ring_fits, held_by}

pub trace_none : (k : ℕ) (n : Net) → trace k n None ≡ []
trace_none zero n = refl
trace_none (suc k) n = refl

trace_chain : (k : ℕ) (n : Net) (m : Node) (ps : List Spot) → Chain n m ps → length ps ≤ k → trace k n m ≡ ps
trace_chain k n m [] h fits = ap (trace k n) h ∙ trace_none k n
trace_chain zero n m (p ∷ ps) h fits = absurd (omega arith)
trace_chain (suc k) n m (p ∷ ps) h fits = ap (trace (suc k) n) h.0
    ∙ ap (λ l. p ∷ l) (trace_chain k n (cell_at n p).by_object.after ps h.2 (omega arith))

trace_fits : (k : ℕ) (n : Net) (m : Node) → length (trace k n m) ≤ k
trace_fits zero n m = omega arith
trace_fits (suc k) n None = omega arith
trace_fits (suc k) n (Some p) = omega (arith, trace_fits k n (cell_at n p).by_object.after)

chain_first : (n : Net) (m : Node) (p : Spot) (ps : List Spot) → Chain n m ps → m ≡ Some p
    → (qs : List Spot) × (ps ≡ p ∷ qs) × IsSome (found p.at n.held) × Chain n (cell_at n p).by_object.after qs
chain_first n m p [] h e = let clash : None ≡ Some p = sym h ∙ e in cc
chain_first n m p (q ∷ qs) h e =
    let same : q ≡ p = ap (λ o. unwrap_or o p) (sym h.0 ∙ e) in (
      qs,
      ap (λ z. z ∷ qs) same,
      subst (λ (z : Spot). IsSome (found z.at n.held)) same h.1,
      subst (λ (z : Spot). Chain n (cell_at n z).by_object.after qs) same h.2,
    )

pub chain_there : (n : Net) (m : Node) (p : Spot) → Chain n m (walked n m) → m ≡ Some p → IsSome (found p.at n.held)
chain_there n m p h e = (chain_first n m p (walked n m) h e).2

pub chain_rest : (n : Net) (m : Node) (p : Spot) → Chain n m (walked n m) → m ≡ Some p
    → (walked n m ≡ p ∷ walked n (cell_at n p).by_object.after)
    × Chain n (cell_at n p).by_object.after (walked n (cell_at n p).by_object.after)
chain_rest n m p h e =
    let f = chain_first n m p (walked n m) h e in
    let all = trace_fits (length n.held) n m in
    let here = ap length f.1 in
    let rest : walked n (cell_at n p).by_object.after
    ≡ f.0 = trace_chain (length n.held) n (cell_at n p).by_object.after f.0 f.3 (omega (arith, all, here)) in
    (f.1 ∙ ap (λ l. p ∷ l) (sym rest), subst (Chain n (cell_at n p).by_object.after) (sym rest) f.3)

pub chain_over : (n : Net) (m : Node) → Chain n m (walked n m) → m ≡ None → walked n m ≡ []
chain_over n m h e = ap (walked n) e ∙ trace_none (length n.held) n

chain_of : (n : Net) (i : ℕ) (a : Node) (ps : List Spot) → Path (next Object i n) (prev Object i n) a ps
    → ((q : Spot) → In q ps → IsSome (found q.at n.held)) → Chain n (next Object i n a) ps
chain_of n i a [] h held = h.0
chain_of n i a (p ∷ ps) h held = (h.0, held p (inl refl), chain_of n i (Some p) ps h.2 (λ q m. held q (inr m)))

pub row_walked : (rows columns : ℕ → List Spot) (n : Net) (M : IsMesh rows columns n) (i : ℕ) → i < length n.objects
    → (walked n (next Object i n None) ≡ rows i) × Chain n (next Object i n None) (walked n (next Object i n None))
row_walked rows columns n M i lt =
    let held : (q : Spot) → In q (rows i) → IsSome (found q.at n.held) = λ q m. held_by Object rows n M.objects i q
    m in
    let c = chain_of n i None (rows i) (M.objects.path i lt) held in
    let e = trace_chain (length n.held) n (next Object i n None) (rows i) c
    (ring_fits n.held None (rows i) (M.objects.apart i) held) in
    (e, subst (Chain n (next Object i n None)) (sym e) c)
