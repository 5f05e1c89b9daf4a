-- What a turn adds to its look is nothing that the station or the picture knows of.
use Rattle.std.proofs.Common.{◌≡◌, ℕ, Bool, subst}
use Rattle.smi_screen.specs.Looking.{Looks, Stepping, View}

-- a look from what there was, in the same name, to what there is
pub same_look : {T : Type 0} (S : Stepping T) (operator operator' : ℕ) (a a' b b' : View T) (stopped stopped' : Bool)
    → operator ≡ operator' → a ≡ a' → b ≡ b' → stopped ≡ stopped' → Looks S operator a b stopped
    → Looks S operator' a' b' stopped'
same_look S operator operator' a a' b b' stopped stopped' same first last ended looks =
    subst (λ o. Looks S o a' b' stopped') same
    (subst (λ x. Looks S operator x b' stopped') first
    (subst (λ x. Looks S operator a x stopped') last
    (subst (λ x. Looks S operator a b x) ended looks)))
