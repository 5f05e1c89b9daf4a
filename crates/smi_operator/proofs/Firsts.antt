-- The first order that waits is the one that is given.
use Rattle.std.proofs.Common.{◌≡◌, ℕ, ◌<◌, List, [], ◌∷◌, length, get_or, true, false, sym, ap, ◌∙◌, arith}
use Rattle.std.specs.Prelude.{Some, None, IfSome, slice_get}
use mathlib.Core.List.{IsPrefix}
use Rattle.smi_protocol.specs.declared.order.Order.{Order}
use Rattle.smi_operator.specs.declared.work.WorkSlot.{WorkSlot}
use Rattle.smi_operator.specs.Working.{may_join}

same_first : (o x : Order) (more mid : List Order) → IsPrefix (o ∷ more) mid → IsPrefix (x ∷ []) mid → o ≡ x
same_first o x more mid p q = ap (λ l. get_or l 0 o) (p.1 ∙ sym q.1)

-- it may not join those in work
pub first_refused : (seen now : List Order) (x : Order) (work : List WorkSlot) (room : ℕ) → IsPrefix seen now
    → IsPrefix (x ∷ []) now
    → may_join work x ≡ false → IfSome (slice_get seen 0)
    (λ o. may_join work o ≡ true → length work < room → None ≡ Some o)
first_refused [] now x work room p q never = tt
first_refused (o ∷ more) now x work room p q never =
    λ may enough. grind (arith, ap (may_join work) (same_first o x more now p q), may, never)

pub first_given : (seen now left : List Order) (x : Order) (work : List WorkSlot) (room : ℕ) → IsPrefix seen now
    → now ≡ x ∷ left
    → IfSome (slice_get seen 0) (λ o. may_join work o ≡ true → length work < room → Some x ≡ Some o)
first_given [] now left x work room p q = tt
first_given (o ∷ more) now left x work room p q = λ may enough. ap Some (sym (same_first o x more now p (left, sym q)))
