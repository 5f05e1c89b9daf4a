-- The cells' memory, taken apart and put together. Assumes `Logic`.
use Rattle.std.proofs.Common.{◌≡◌, ℕ, true, false, if◌then◌else◌, rules, arith, ◌+◌, ◌<◌, ◌≤◌, List, [], ◌∷◌, Option}
use Rattle.std.proofs.Common.{Some, None, IsSome, refl, sym, subst}
use seplogic.Ra.Ura.{Ura}
use base.Fraction.{full_share}
use base.Logic.{ent, sep, ex, id⊢, fst∗, snd∗, never, never_e, via}
use base.Fml.{Lft, fat, froom}
use mir.Val.{Val}
use mir.Syntax.{Ty}
use mir.Raw.{raw as bare}
use Rattle.smi_watchers.specs.Memory.{freeing}
use types.Logic.{Logic, sem}
use prog.Model.{Model}
use contract.Monad.{fact, fact_i, fact_use}
use types.Kit.{Item, Goal, Seq, mean, prop, ‵, raw, ◌⊛◌, some, ◌$◌, ◌∵◌, !, qed, by, move, keep, use1, use2, split}
use types.Kit.{fsplit, fjoin, pick, done, rewrite}
use denote.Memory.{part_at, lone}
use denote.RawPtr.{Ptr, block_ptr, null_ptr, room_for}
use borrow.Table.OneValue.{part_in, part_out}
use Rattle.smi_watchers.specs.declared.cell.Cell.{Cell}
use Rattle.smi_watchers.specs.contracts.cell.Cell.{the_row}
use Rattle.smi_watchers.specs.Held.{is_same, found, without}
use Rattle.smi_watchers.specs.Memory.{cell_owns, cells_own, cells_lent}
use denote.Struct.Lending.{lent_at}

abbrev pub cell_ty : Ty
cell_ty = lone the_row.mir

pub same_is : (p q : Ptr) → is_same p q ≡ true → p ≡ q
same_is (block_ptr b o) (block_ptr c p) e = let h : (b ≡ c) × (o ≡ p) = grind rules in λ i. block_ptr (h.0 i) (h.1 i)
same_is (block_ptr b o) null_ptr e = cc
same_is null_ptr (block_ptr c p) e = cc
same_is null_ptr null_ptr e = refl

pub some_of : (o : Option Cell) → IsSome o → (v : Cell) × (o ≡ Some v)
some_of (Some v) t = (v, refl)
some_of None t = cc

module _ {M : Type 1} {𝓤 : Ura M} (𝓛 : Logic 𝓤) where
  -- the others, where what lies at p is let go
  shed : (p : Ptr) (hs : List (Ptr × Cell)) → ent 𝓤 (sem 𝓛 (cells_own hs)) (sem 𝓛 (cells_own (without p hs)))
  shed p [] = id⊢ 𝓤 _
  shed p (h ∷ hs) =
      elim (is_same p h.0) as (λ y. ent 𝓤 (sem 𝓛 (cells_own (h ∷ hs)))
      (sem 𝓛 (cells_own (if y then without p hs else h ∷ without p hs)))) [
        | true ↦ qed 𝓛 (‵ (cells_own (h ∷ hs)) ∷ []) ∵ fsplit ! $ keep ! (1 ∷ []) $ by ! (shed p hs)
        | false ↦ qed 𝓛 (‵ (cells_own (h ∷ hs)) ∷ []) ∵ fsplit ! $ move ! (1 ∷ []) $ use1 𝓛
            (‵ (cells_own (without p hs))) (shed p hs) $ move ! (1 ∷ []) $ fjoin ! $ done !
      ]

  pub cell_null : (v : Cell) → ent 𝓤 (sem 𝓛 (cell_owns (null_ptr, v))) (never 𝓤)
  cell_null v = fst∗ 𝓤 (never 𝓤) (sem 𝓛 (freeing (bare cell_ty) null_ptr))

  -- the cell at p, and the others
  pub take_out : (p : Ptr) (hs : List (Ptr × Cell)) (v : Cell) → found p hs ≡ Some v
      → ent 𝓤 (sem 𝓛 (cells_own hs)) (sep 𝓤 (sem 𝓛 (cell_owns (p, v))) (sem 𝓛 (cells_own (without p hs))))
  take_out p [] v e = cc
  take_out p (h ∷ hs) v e =
      (elim (is_same p h.0) as (λ y. is_same p h.0 ≡ y → (if y then Some h.1 else found p hs) ≡ Some v
      → ent 𝓤 (sem 𝓛 (cells_own (h ∷ hs))) (sep 𝓤 (sem 𝓛 (cell_owns (p, v)))
      (sem 𝓛 (cells_own (if y then without p hs else h ∷ without p hs))))) [
        | true ↦ λ s f. let w : h.1 ≡ v = cc in
            qed 𝓛 (‵ (cells_own (h ∷ hs)) ∷ []) ∵ fsplit ! $ rewrite ! 0 (λ (k : Ptr × Cell). ‵ (cell_owns k))
            (λ i. (sym (same_is p h.0 s) i, w i)) refl $
            move ! (1 ∷ []) $ use1 𝓛 (‵ (cells_own (without p hs))) (shed p hs) $ move ! (1 ∷ []) $ done !
        | false ↦ λ s f.
            qed 𝓛 (‵ (cells_own (h ∷ hs)) ∷ []) ∵ fsplit ! $ move ! (1 ∷ []) $ use1 𝓛
            (‵ (cell_owns (p, v)) ⊛ ‵ (cells_own (without p hs))) (take_out p hs v f) $ split ! $ move !
            (2 ∷ 1 ∷ []) $ fjoin ! $ move ! (1 ∷ []) $ done !
      ]) refl e

  -- a cell in memory: the machine value, and what it owns
  pub cell_out : (x : Cell) (b o : ℕ) → ent 𝓤 (sem 𝓛 (part_at the_row full_share x b o))
      (ex 𝓤 (λ (v : Val). sep 𝓤 (sem 𝓛 (fat full_share cell_ty b o v)) (sem 𝓛 (the_row.own_val x (v ∷ [])))))
  cell_out x b o = part_out 𝓛 the_row refl full_share x b o

  pub cell_in : (x : Cell) (b o : ℕ) (v : Val)
      → ent 𝓤 (sep 𝓤 (sem 𝓛 (fat full_share cell_ty b o v)) (sem 𝓛 (the_row.own_val x (v ∷ []))))
      (sem 𝓛 (part_at the_row full_share x b o))
  cell_in x b o v = part_in 𝓛 the_row refl full_share x b o v

  -- the room that a cell leaves
  pub cell_room : (x : Cell) (b o : ℕ) → ent 𝓤 (sem 𝓛 (part_at the_row full_share x b o))
      (sem 𝓛 (froom (bare cell_ty) b o))
  cell_room x b o = qed 𝓛 (‵ (part_at the_row full_share x b o) ∷ []) ∵
      use1 𝓛 (some (λ (v : Val). ‵ (fat full_share cell_ty b o v) ⊛ ‵ (the_row.own_val x (v ∷ [])))) (cell_out x b o)
      $ pick ! (λ v. split ! $ keep ! (0 ∷ []) $
      use1 𝓛 (‵ (froom cell_ty b o)) (𝓛.laws.at_room cell_ty b o v) $ by ! (𝓛.laws.room-raw cell_ty b o))

  -- what a `&` has of the cell at p
  pub lent_out : (κ : Lft) (p : Ptr) (hs : List (Ptr × Cell)) (v : Cell) → found p hs ≡ Some v
      → ent 𝓤 (sem 𝓛 (cells_lent hs κ)) (sem 𝓛 (lent_at the_row p v κ))
  lent_out κ p [] v e = cc
  lent_out κ p (h ∷ hs) v e =
      (elim (is_same p h.0) as (λ y. is_same p h.0 ≡ y → (if y then Some h.1 else found p hs) ≡ Some v
      → ent 𝓤 (sem 𝓛 (cells_lent (h ∷ hs) κ)) (sem 𝓛 (lent_at the_row p v κ))) [
        | true ↦ λ s f. let w : h.1 ≡ v = cc in
            subst (λ (k : Ptr × Cell). ent 𝓤 (sem 𝓛 (cells_lent (h ∷ hs) κ)) (sem 𝓛 (lent_at the_row k.0 k.1 κ)))
            (λ i. (sym (same_is p h.0 s) i, w i)) (fst∗ 𝓤 (sem 𝓛 (lent_at the_row h.0 h.1 κ))
            (sem 𝓛 (cells_lent hs κ)))
        | false ↦ λ s f. via 𝓤 (sem 𝓛 (cells_lent hs κ))
            (snd∗ 𝓤 (sem 𝓛 (lent_at the_row h.0 h.1 κ)) (sem 𝓛 (cells_lent hs κ))) (lent_out κ p hs v f)
      ]) refl e

  -- a block that is empty
  pub room_typed : (b o : ℕ) → ent 𝓤 (sem 𝓛 (froom (bare cell_ty) b o)) (sem 𝓛 (froom cell_ty b o))
  room_typed b o = 𝓛.laws.raw-room cell_ty b o

module _ {M : Type 1} {𝓤 : Ura M} (𝓛 : Logic 𝓤) (𝓜 : Model 𝓤 𝓛.H) where
  -- a block that is empty has no cell in it
  clash : (p : Ptr) (v : Cell) → ent 𝓤 (sep 𝓤 (sem 𝓛 (room_for (bare cell_ty) p)) (sem 𝓛 (cell_owns (p, v)))) (never 𝓤)
  clash (block_ptr b o) v =
      let low : o ≤ o = omega arith in let high : o < o + 72 = omega arith in
      qed 𝓛 (‵ (froom (bare cell_ty) b o) ∷ ‵ (cell_owns (block_ptr b o, v)) ∷ []) ∵ move ! (1 ∷ []) $ fsplit ! $
      use1 𝓛 (some (λ (w : Val). ‵ (fat full_share cell_ty b o w) ⊛ ‵ (the_row.own_val v (w ∷ []))))
      (cell_out 𝓛 v b o) $ pick ! (λ w. split ! $ keep ! (3 ∷ 0 ∷ []) $
      by ! (𝓜.room_at (bare cell_ty) cell_ty b o o o full_share w (low, high) (low, high)))
  clash null_ptr v = fst∗ 𝓤 (never 𝓤) (sem 𝓛 (cell_owns (null_ptr, v)))

  pub fresh : (p : Ptr) (hs : List (Ptr × Cell))
      → ent 𝓤 (sep 𝓤 (sem 𝓛 (room_for (bare cell_ty) p)) (sem 𝓛 (cells_own hs))) (fact 𝓤 (found p hs ≡ None))
  fresh p [] = fact_i 𝓤 (found p [] ≡ None) _ refl
  fresh p (h ∷ hs) =
      (elim (is_same p h.0) as (λ y. is_same p h.0 ≡ y
      → ent 𝓤 (sep 𝓤 (sem 𝓛 (room_for (bare cell_ty) p)) (sem 𝓛 (cells_own (h ∷ hs))))
      (fact 𝓤 ((if y then Some h.1 else found p hs) ≡ None))) [
        | true ↦ λ s.
            qed 𝓛 (‵ (room_for (bare cell_ty) p) ∷ ‵ (cells_own (h ∷ hs)) ∷ []) ∵ move ! (1 ∷ []) $ fsplit ! $ keep !
            (2 ∷ 0 ∷ []) $
            rewrite ! 1 (λ (q : Ptr). ‵ (cell_owns (q, h.1))) (sym (same_is p h.0 s)) refl $ by !
            (via 𝓤 (never 𝓤) (clash p h.1) (never_e 𝓤 _))
        | false ↦ λ s.
            qed 𝓛 (‵ (room_for (bare cell_ty) p) ∷ ‵ (cells_own (h ∷ hs)) ∷ []) ∵ move ! (1 ∷ []) $ fsplit ! $ keep !
            (2 ∷ 1 ∷ []) $ by ! (fresh p hs)
      ]) refl

module _ {M : Type 1} {𝓤 : Ura M} {𝓛 : Logic 𝓤} {K : Type 0} {Γ : List (Item 𝓤)} {G : Goal 𝓤 𝓛.H} where
  -- a fact that two entries show is learned, and they stay
  pub knows : K → {i j : Item 𝓤} (φ : Type 0) → ent 𝓤 (sep 𝓤 (mean 𝓛 i) (mean 𝓛 j)) (fact 𝓤 φ)
      → (φ → Seq K 𝓛 (i ∷ j ∷ Γ) G) → Seq K 𝓛 (i ∷ j ∷ Γ) G
  knows t {i} {j} φ h k =
      let shown : Seq K 𝓛 (i ∷ j ∷ Γ) (prop (fact 𝓤 φ)) = use2 𝓛 (raw (fact 𝓤 φ)) h $ keep t (0 ∷ []) $ done t in
      record { prf = fact_use 𝓤 φ shown.prf (λ x. (k x).prf) }
