-- A buffer that begins with a whole list.
use Rattle.std.proofs.Common.{◌≡◌, ◌++◌, List, ℕ, take, length, ◌∙◌, arith}
use Rattle.std.proofs.lemmas.List.{take-append-le, take_all}

pub whole : (n : ℕ) (xs ys datagram : List ℕ) → xs ≡ datagram → length xs ≡ n → take n (xs ++ ys) ≡ datagram
whole n xs ys datagram is long =
    take-append-le n xs ys (omega (arith, long)) ∙ take_all n xs (omega (arith, long)) ∙ is
