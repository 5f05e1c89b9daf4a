-- A prefix of a text, written in parts.
use Rattle.std.proofs.Common.{◌≡◌, ℕ, suc, ◌<◌, List, ◌++◌, length, take, drop, get_or, Option, refl, sym, ap, subst}
use Rattle.std.proofs.Common.{◌∙◌, append_assoc, take-append-drop, arith}
use Rattle.std.proofs.Math.Seq.{drop-cons}
use Rattle.std.proofs.lemmas.List.{take_at, take_all}
use Rattle.std.proofs.lemmas.Grind.{flat_map-append}
use Rattle.std.specs.List.{flat_map}
use Rattle.std.specs.Io.KnownBytes.{Appends}
use Rattle.std.proofs.KnownBytes.{Appends-trans}

-- a first part is written, and then a prefix of the next
pub prefix_more : (a b c : Option (List ℕ)) (first next rest all : List ℕ) (k : ℕ) → all ≡ first ++ (next ++ rest)
    → Appends a b first → Appends b c (take k next)
    → (n : ℕ) × Appends a c (take n all)
prefix_more a b c first next rest all k e p q =
    let done = first ++ take k next in
    let split : next ++ rest ≡ take k next ++ (drop k next ++ rest) = ap (λ (t : List ℕ). t ++ rest)
    (sym (take-append-drop k next)) ∙ append_assoc (take k next) (drop k next) rest in
    let whole : all ≡ done ++ (drop k next ++ rest) = e ∙ ap (λ (t : List ℕ). first ++ t) split
    ∙ sym (append_assoc first (take k next) (drop k next ++ rest)) in
    let same : take (length done) all ≡ done = ap (take (length done)) whole
    ∙ take_at done (drop k next ++ rest) (length done) refl in
    (length done, subst (Appends a c) (sym same) (Appends-trans a b c first (take k next) p q))

-- all of it is a prefix
pub prefix_all : (a b : Option (List ℕ)) (all : List ℕ) → Appends a b all → (n : ℕ) × Appends a b (take n all)
prefix_all a b all p = (length all, subst (Appends a b) (sym (take_all (length all) all (omega arith))) p)

-- the parts before a place, the part there, and the parts after it
pub flat_map_at : {X : Type 0} (f : X → List ℕ) (xs : List X) (i : ℕ) (d : X) → i < length xs
    → flat_map f xs ≡ flat_map f (take i xs) ++ (f (get_or xs i d) ++ flat_map f (drop (suc i) xs))
flat_map_at f xs i d below =
    ap (flat_map f) (sym (take-append-drop i xs)) ∙ flat_map-append f (take i xs) (drop i xs)
    ∙ ap (λ ys. flat_map f (take i xs) ++ flat_map f ys) (drop-cons xs i d below)
