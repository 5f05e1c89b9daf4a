-- The moves by class, state and action.
use Rattle.std.specs.Prelude.{ℕ, ◌≡◌, ◌==◌, ◌&&◌, if◌then◌else◌, List, [], Option, Some, None}
use Rattle.std.specs.List.{slice_index_or}
use Rattle.smi_tree.specs.Hierarchy.{move_in, is_move_at}
use Rattle.smi_tree.specs.declared.row.Move.{Move}

-- what is under an action, under a state and an action, under all three
abbrev pub move_by : List (Option Move) → ℕ → Option Move
move_by moves action = slice_index_or moves action None

abbrev pub move_from : List (List (Option Move)) → ℕ → ℕ → Option Move
move_from moves state action = move_by (slice_index_or moves state []) action

abbrev pub move_at : List (List (List (Option Move))) → ℕ → ℕ → ℕ → Option Move
move_at moves class state action = move_from (slice_index_or moves class []) state action

-- a row has been put under its numbers, and all else is as before
abbrev pub IsPutBy : List (Option Move) → Move → List (Option Move) → Type 0
IsPutBy old row new = (action : ℕ) → move_by new action
    ≡ (if row.action == action then Some row else move_by old action)

abbrev pub IsPutFrom : List (List (Option Move)) → Move → List (List (Option Move)) → Type 0
IsPutFrom old row new =
    (state action : ℕ) →
    move_from new state action ≡ (if row.from == state && row.action == action then Some row
    else move_from old state action)

abbrev pub IsPutAt : List (List (List (Option Move))) → Move → List (List (List (Option Move))) → Type 0
IsPutAt old row new =
    (class state action : ℕ) →
    move_at new class state action ≡ (if is_move_at class state action row then Some row
    else move_at old class state action)

-- under each class, state and action is the row that the moves have for them
pub record IsMoveIndex (rows : List Move) (index : List (List (List (Option Move)))) : Type 0 where
  pub found : (class state action : ℕ) → move_at index class state action ≡ move_in rows class state action
