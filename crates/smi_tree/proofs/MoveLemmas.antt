-- The index of moves when one is added.
use Rattle.std.proofs.Common.{◌≡◌, ℕ, Bool, true, false, cond, List, [], ◌∷◌, ◌++◌, Option, Some, None, refl, ap, ◌∙◌}
use Rattle.std.proofs.Common.{sym}
use Rattle.std.specs.Prelude.{◌==◌, ◌&&◌}
use Rattle.std.specs.Option.{option_or}
use Rattle.std.proofs.lemmas.List.Folds.{find-append}
use Rattle.smi_tree.proofs.Kept.{both-left, both-right, eq-true}
use Rattle.smi_tree.specs.Hierarchy.{move_in, is_move_at}
use Rattle.smi_tree.specs.MoveIndex.{IsMoveIndex, IsPutAt}
use Rattle.smi_tree.specs.declared.row.Move.{Move}

pub or-none : {X : Type 0} (r : Option X) → option_or r None ≡ r
or-none (Some x) = refl
or-none None = refl

one-more : (rows : List Move) (row : Move) (class state action : ℕ)
    → move_in rows row.class row.from row.action ≡ None →
    cond (is_move_at class state action row) (Some row) (move_in rows class state action)
    ≡ move_in (rows ++ row ∷ []) class state action
one-more rows row class state action absent =
    go (is_move_at class state action row) refl ∙ sym (find-append (is_move_at class state action) rows (row ∷ []))
  where
    go : (b : Bool) → is_move_at class state action row ≡ b →
        cond b (Some row) (move_in rows class state action)
        ≡ option_or (move_in rows class state action) (cond b (Some row) None)
    go true is =
        let later = both-right (row.class == class) (row.from == state && row.action == action) is in
        let c = eq-true row.class class (both-left (row.class == class) (row.from == state && row.action == action)
        is) in
        let s = eq-true row.from state (both-left (row.from == state) (row.action == action) later) in
        let a = eq-true row.action action (both-right (row.from == state) (row.action == action) later) in
        let none : move_in rows class state action ≡ None =
        ap (λ (n : ℕ). move_in rows n state action) (sym c) ∙ ap (λ (n : ℕ). move_in rows row.class n action) (sym s)
        ∙ ap (λ (n : ℕ). move_in rows row.class row.from n) (sym a) ∙ absent in
        rw none refl
    go false is = sym (or-none (move_in rows class state action))

pub IsMoveIndex-push : (rows : List Move) (row : Move) (old new : List (List (List (Option Move)))) →
    IsMoveIndex rows old → move_in rows row.class row.from row.action ≡ None → IsPutAt old row new
    → IsMoveIndex (rows ++ row ∷ []) new
IsMoveIndex-push rows row old new h absent put = record {
  found = λ class state action.
      put class state action
      ∙ ap (cond (is_move_at class state action row) (Some row)) (h.found class state action)
      ∙ one-more rows row class state action absent;
}
