-- What is written of a list, one after the other.
use Rattle.std.proofs.Common.{◌≡◌, ℕ, suc, ◌+◌, ◌<◌, List, [], ◌∷◌, ◌++◌, length, take, get_or, Option, ap, sym}
use Rattle.std.proofs.Common.{subst, ◌∙◌, arith}
use Rattle.std.specs.Io.KnownBytes.{Appends}
use Rattle.std.specs.List.{flat_map}
use Rattle.std.proofs.KnownBytes.{Appends-trans}
use Rattle.std.proofs.Math.Seq.{take-suc}
use Rattle.std.proofs.lemmas.List.{append-nil}
use Rattle.std.proofs.lemmas.Grind.{flat_map-append}

flat_map-next : {X : Type 0} (f : X → List ℕ) (xs : List X) (i : ℕ) (x d : X) → i < length xs → get_or xs i d ≡ x →
    flat_map f (take (i + 1) xs) ≡ flat_map f (take i xs) ++ f x
flat_map-next {X} f xs i x d within at =
    let one : i + 1 ≡ suc i = omega arith in
    ap (λ (n : ℕ). flat_map f (take n xs)) one
    ∙ ap (flat_map f) (take-suc xs i d within)
    ∙ flat_map-append f (take i xs) (get_or xs i d ∷ [])
    ∙ ap (λ (y : X). flat_map f (take i xs) ++ flat_map f (y ∷ [])) at
    ∙ ap (λ (bytes : List ℕ). flat_map f (take i xs) ++ bytes) (append-nil (f x))

pub written-next : {X : Type 0} (f : X → List ℕ) (xs : List X) (i : ℕ) (x d : X) (a b c : Option (List ℕ))
    → i < length xs → get_or xs i d ≡ x →
    Appends a b (flat_map f (take i xs)) → Appends b c (f x) → Appends a c (flat_map f (take (i + 1) xs))
written-next f xs i x d a b c within at before now =
    subst (Appends a c) (sym (flat_map-next f xs i x d within at))
    (Appends-trans a b c (flat_map f (take i xs)) (f x) before now)
