-- A ring that a place leaves or comes into is a ring.
use Rattle.std.proofs.Common.{◌≡◌, true, false, rules, if◌then◌else◌, List, [], ◌∷◌, ◌++◌, Some, None, refl, ap, ◌∙◌}
use denote.RawPtr.{Ptr, block_ptr, null_ptr}
use Rattle.smi_watchers.specs.declared.cell.Spot.{Spot}
use Rattle.smi_watchers.specs.Held.{is_same}
use Rattle.smi_watchers.specs.Ring.{Node, is_node, but, Path, Fresh, Apart, last_of, first_of}

pub same_sym : (p q : Ptr) → is_same p q ≡ is_same q p
same_sym (block_ptr b o) (block_ptr c p) = grind rules
same_sym (block_ptr b o) null_ptr = refl
same_sym null_ptr (block_ptr c p) = refl
same_sym null_ptr null_ptr = refl

pub same_refl : (p : Ptr) → is_same p p ≡ true
same_refl (block_ptr b o) = grind rules
same_refl null_ptr = refl

pub node_sym : (m k : Node) → is_node m k ≡ is_node k m
node_sym None None = refl
node_sym None (Some q) = refl
node_sym (Some p) None = refl
node_sym (Some p) (Some q) = same_sym p.at q.at

pub node_refl : (m : Node) → is_node m m ≡ true
node_refl None = refl
node_refl (Some p) = same_refl p.at

pub but_same : (k v : Node) (f : Node → Node) → but k v f k ≡ v
but_same k v f = ap (λ y. if y then v else f k) (node_refl k)

pub but_other : (k v : Node) (f : Node → Node) (m : Node) → is_node k m ≡ false → but k v f m ≡ f m
but_other k v f m e = ap (λ y. if y then v else f m) e

module _ (next prev : Node → Node) where
  -- a change at nodes that the path does not read
  pub path_past : (k v l w a : Node) (ps : List Spot) → is_node k a ≡ false → Fresh k ps → is_node l None ≡ false
      → Fresh l ps
      → Path next prev a ps → Path (but k v next) (but l w prev) a ps
  path_past k v l w a [] ka fk ln fl h = (but_other k v next a ka ∙ h.0, but_other l w prev None ln ∙ h.1)
  path_past k v l w a (p ∷ ps) ka fk ln fl h = (
    but_other k v next a ka ∙ h.0,
    but_other l w prev (Some p) fl.0 ∙ h.1,
    path_past k v l w (Some p) ps fk.0 fk.1 ln fl.1 h.2,
  )

  -- the nodes beside a place
  pub beside : (a : Node) (xs : List Spot) (p : Spot) (ys : List Spot) → Path next prev a (xs ++ p ∷ ys)
      → (prev (Some p) ≡ last_of a xs) × (next (Some p) ≡ first_of ys)
  beside a [] p [] h = (h.1, h.2.0)
  beside a [] p (y ∷ ys) h = (h.1, h.2.0)
  beside a (x ∷ xs) p ys h = beside (Some x) xs p ys h.2

  fresh_last : (a : Node) (x : Spot) (xs : List Spot) (p : Spot) (ys : List Spot) → Fresh a (x ∷ (xs ++ p ∷ ys))
      → is_node (last_of (Some x) xs) a ≡ false
  fresh_last a x [] p ys f = node_sym (Some x) a ∙ f.0
  fresh_last a x (z ∷ xs) p ys f = fresh_last a z xs p ys f.1

  fresh_first : (x p : Spot) (xs ys : List Spot) → Fresh (Some x) (xs ++ p ∷ ys)
      → is_node (first_of ys) (Some x) ≡ false
  fresh_first x p [] [] f = refl
  fresh_first x p [] (y ∷ ys) f = node_sym (Some y) (Some x) ∙ f.1.0
  fresh_first x p (z ∷ xs) ys f = fresh_first x p xs ys f.1

  first_apart : (x : Spot) (ps : List Spot) → Apart (Some x) ps → Fresh (Some x) ps
  first_apart x [] d = tt
  first_apart x (p ∷ ps) d = d.0

  fresh_end : (a : Node) (x : Spot) (xs : List Spot) → Fresh a (x ∷ xs) → is_node (last_of (Some x) xs) a ≡ false
  fresh_end a x [] f = node_sym (Some x) a ∙ f.0
  fresh_end a x (z ∷ xs) f = fresh_end a z xs f.1

  -- without the place
  pub path_without : (a : Node) (xs : List Spot) (p : Spot) (ys : List Spot) → Apart a (xs ++ p ∷ ys)
      → Path next prev a (xs ++ p ∷ ys)
      → Path (but (last_of a xs) (first_of ys) next) (but (first_of ys) (last_of a xs) prev) a (xs ++ ys)
  path_without a [] p [] d h = (but_same a None next, but_same None a prev)
  path_without a [] p (y ∷ ys) d h = (
    but_same a (Some y) next,
    but_same (Some y) a prev,
    path_past a (Some y) (Some y) a (Some y) ys d.0.1.0 d.0.1.1 refl (first_apart y ys d.1.1) h.2.2,
  )
  path_without a (x ∷ xs) p ys d h =
      let b = last_of (Some x) xs in let c = first_of ys in (
        but_other b c next a (fresh_last a x xs p ys d.0) ∙ h.0,
        but_other c b prev (Some x) (fresh_first x p xs ys (first_apart x (xs ++ p ∷ ys) d.1)) ∙ h.1,
        path_without (Some x) xs p ys d.1 h.2,
      )

  -- with one more place at the end
  pub path_with : (a : Node) (ps : List Spot) (p : Spot) → Apart a ps → Fresh (Some p) ps
      → is_node a (Some p) ≡ false → Path next prev a ps
      → Path (but (last_of a ps) (Some p) (but (Some p) None next))
      (but None (Some p) (but (Some p) (last_of a ps) prev)) a (ps ++ p ∷ [])
  path_with a [] p d f e h =
      let next' = but (Some p) None next in let prev' = but (Some p) a prev in (
        but_same a (Some p) next',
        but_other None (Some p) prev' (Some p) refl ∙ but_same (Some p) a prev,
        (but_other a (Some p) next' (Some p) e ∙ but_same (Some p) None next, but_same None (Some p) prev'),
      )
  path_with a (x ∷ ps) p d f e h =
      let l = last_of (Some x) ps in let next' = but (Some p) None next in let prev' = but (Some p) l prev in (
        but_other l (Some p) next' a (fresh_end a x ps d.0)
            ∙ but_other (Some p) None next a (node_sym (Some p) a ∙ e) ∙ h.0,
        but_other None (Some p) prev' (Some x) refl ∙ but_other (Some p) l prev (Some x) f.0 ∙ h.1,
        path_with (Some x) ps p d.1 f.1 (node_sym (Some x) (Some p) ∙ f.0) h.2,
      )
