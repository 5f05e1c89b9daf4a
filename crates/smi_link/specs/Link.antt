-- What any link shows of its datagrams.
use Rattle.std.specs.Prelude.{ℕ, ◌≡◌, ◌≢◌, ◌≤◌, min, ◌+◌, ◌++◌, ◌∷◌, [], List, take, Option, Some, IfSome}
use Rattle.std.specs.Prelude.{Result, Ok, Err}
use Rattle.smi_link.specs.declared.link.Reception.{Reception}
use Rattle.smi_link.specs.declared.link.Reception.TheVariants.{Received, Nothing, Fault}

-- the most bytes that a call of `receive` gives: one more than a datagram has
abbrev pub most_bytes : ℕ
most_bytes = 45

-- a list grows by one if it is told
abbrev pub Grows : {X : Type 0} → Option (List X) → Option (List X) → X → Type 0
Grows old new x = IfSome old (λ xs. new ≡ Some (xs ++ x ∷ []))

-- what was received grows by just what is given as received
abbrev pub Receives : Option (List (List ℕ)) → Option (List (List ℕ)) → List ℕ → Reception → Type 0
Receives old new buffer (Received n) = (n ≤ most_bytes) × Grows old new (take n buffer)
Receives old new buffer Nothing = new ≡ old
Receives old new buffer Fault = new ≡ old

-- a fault is counted once, and nothing else is
abbrev pub CountsReception : Reception → ℕ → ℕ → Type 0
CountsReception (Received n) old new = new ≡ old
CountsReception Nothing old new = new ≡ old
CountsReception Fault old new = new ≡ old + 1

abbrev pub CountsSend : {E : Type 0} → Result (Unit {0}) E → ℕ → ℕ → Type 0
CountsSend (Ok u) old new = new ≡ old
CountsSend (Err e) old new = new ≡ old + 1

-- one more foreign datagram, as far as a number of 64 bits counts
abbrev pub one_more : ℕ → ℕ
one_more n = min (n + 1) 18446744073709551615

-- only a datagram without bytes can be a foreign one
abbrev pub CountsForeign : Reception → ℕ → ℕ → Type 0
CountsForeign (Received n) old new = (n ≢ 0 → new ≡ old) × (new ≢ old → new ≡ one_more old)
CountsForeign Nothing old new = new ≡ old
CountsForeign Fault old new = new ≡ old

-- what was handed on grows by just what is taken
abbrev pub Sends : {E : Type 0} → Option (List (ℕ × List ℕ)) → Option (List (ℕ × List ℕ)) → ℕ → List ℕ
    → Result (Unit {0}) E → Type 0
Sends old new station datagram (Ok u) = Grows old new (station, datagram)
Sends old new station datagram (Err e) = new ≡ old
