use Rattle.std.proofs.Common.{◌≡◌, List, [], ◌∷◌, ◌++◌, length, subst, ap, arith}
use Rattle.std.specs.Prelude.{IfSome, slice_get}
use Rattle.std.proofs.lemmas.List.{length-append}
use Rattle.smi_operator.specs.declared.ends.Seat.{Seat}
use Rattle.smi_operator.specs.declared.ends.SeatEnd.{SeatEnd}
use Rattle.smi_operator.specs.Sides.{AreSeats, IsFresh, IsSeatOf}

-- one more seat is with its end
pub seats_push : (ss : List Seat) (ps : List SeatEnd) (s : Seat) (p : SeatEnd) → AreSeats ss ps → IsFresh s p
    → AreSeats (ss ++ s ∷ []) (ps ++ p ∷ [])
seats_push [] [] s p all new = (new, tt)
seats_push [] (q ∷ ps) s p all new = absurd all
seats_push (t ∷ ss) [] s p all new = absurd all
seats_push (t ∷ ss) (q ∷ ps) s p all new = (all.0, seats_push ss ps s p all.1 new)

-- two seats that are taken from the back are with the first two ends
pub two_seats : (ss r : List Seat) (a b : Seat) (ps : List SeatEnd) → AreSeats ss ps → ss ≡ (r ++ a ∷ []) ++ b ∷ []
    → length ss ≡ 2
    → IfSome (slice_get ps 0) (IsSeatOf a) × IfSome (slice_get ps 1) (IsSeatOf b)
two_seats ss [] a b ps all is two = both ps (subst (λ l. AreSeats l ps) is all)
  where
    both : (ps : List SeatEnd) → AreSeats (a ∷ b ∷ []) ps
        → IfSome (slice_get ps 0) (IsSeatOf a) × IfSome (slice_get ps 1) (IsSeatOf b)
    both [] all = absurd all
    both (p ∷ []) all = absurd all.1
    both (p ∷ q ∷ more) all = (all.0.0, all.1.0.0)
two_seats ss (s ∷ r) a b ps all is two =
    absurd (omega (
      arith,
      two,
      ap length is,
      length-append ((s ∷ r) ++ a ∷ []) (b ∷ []),
      length-append (s ∷ r) (a ∷ []),
    ))
