-- The places of pending commands, as one is added.
use Rattle.std.proofs.Common.{ℕ, suc, ◌≡◌, ◌<◌, ◌≤◌, ◌+◌, ◌-◌, List, ◌∷◌, ◌++◌, length, get_or, drop, set, ◌∙◌, sym}
use Rattle.std.proofs.Common.{ap, arith, length-append, length-drop, length-set}
use Rattle.std.proofs.lemmas.List.{drop-set-lt, drop_more}
use Rattle.smi_grant.specs.declared.command.Command.{Command}
use Rattle.smi_grant.specs.declared.command.Command.TheVariants.{Do}
use Rattle.smi_command.specs.Pending.{IsStored, most_pending, unused}

-- the places after the next one are unused too
unused_behind : (places : List Command) (count : ℕ) → IsStored places count → count < most_pending
    → drop (count + 1) places ≡ unused (most_pending - (count + 1))
unused_behind places count s room =
    let one_less : most_pending - count ≡ suc (most_pending - (count + 1)) = omega arith in
    let both : get_or places count (Do 0) ∷ drop (count + 1) places ≡ Do 0 ∷ unused (most_pending - (count + 1)) =
    sym (drop_more places count (Do 0) (omega (arith, s.all))) ∙ s.rest ∙ ap unused one_less in
    cc

pub stored-set : (places : List Command) (count : ℕ) (c : Command) → IsStored places count → count < most_pending
    → IsStored (set places count c) (count + 1)
stored-set places count c s room = record {
  all = length-set places count c ∙ s.all;
  within = omega arith;
  rest = drop-set-lt (count + 1) places count c (omega arith) ∙ unused_behind places count s room;
}

-- while a list is copied from some place on, the copy has room
pub room_left : (left xs : List Command) (i gone : ℕ) → length xs ≤ most_pending → i < length xs
    → left ++ drop i xs ≡ drop gone xs → length left < most_pending
room_left left xs i gone few within copied =
    omega (arith, simp (length-append, length-drop) at (ap length copied))
