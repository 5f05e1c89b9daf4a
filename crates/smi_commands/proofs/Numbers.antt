-- The numbers up to a count, as a range gives them.
use Rattle.std.proofs.Common.{◌≡◌, ◌+◌, ℕ, refl, arith}
use Rattle.std.specs.List.{range_with_len}
use Rattle.std.proofs.iter.Yields.{nat_range_steps}
use Rattle.std.proofs.lemmas.Iterator.{YieldsList, YieldsList-from_range}

-- all numbers up to this one, which a call has answered as its result
pub up_to : (count result : ℕ) → result ≡ count
    → YieldsList nat_range_steps (λ x. x) (record { start = 0; end = result + 1 }) (range_with_len 0 (count + 1))
up_to count result same = YieldsList-from_range 0 (result + 1) (count + 1) refl (omega arith)
