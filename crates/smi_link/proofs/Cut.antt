-- The bytes of a datagram as far as they are received.
use Rattle.std.proofs.Common.{◌≡◌, ◌<◌, ◌≤◌, ◌++◌, ◌⊎◌, inl, inr, List, ℕ, min, take, length, sym, ap, ◌∙◌, arith}
use Rattle.std.proofs.Common.{length-take-le}
use Rattle.std.proofs.lemmas.Bool.{cases_lt}
use Rattle.std.proofs.lemmas.List.{take-append-le, take_all}

pub cut : (xs ys datagram : List ℕ) (most count : ℕ) → xs ≡ take count datagram → count ≡ min (length datagram) most
    → take count (xs ++ ys) ≡ take most datagram
cut xs ys datagram most count is least =
    let long : length xs ≡ count = ap length is ∙ length-take-le count datagram (omega (arith, least)) in
    take-append-le count xs ys (omega (arith, long))
    ∙ take_all count xs (omega (arith, long))
    ∙ is
    ∙ by_length (cases_lt (length datagram) most)
  where
    by_length : (length datagram < most) ⊎ (most ≤ length datagram) → take count datagram ≡ take most datagram
    by_length (inl short) =
        take_all count datagram (omega (arith, least, short)) ∙ sym (take_all most datagram (omega (arith, short)))
    by_length (inr rest) = ap (λ n. take n datagram) (omega (arith, least, rest))
