-- The pieces of 44 bytes, one after the other.
use Rattle.std.proofs.Common.{◌≡◌, ℕ, zero, suc, ◌<◌, ◌≤◌, List, [], ◌∷◌, ◌++◌, length, drop, refl, sym, ap, ◌∙◌}
use Rattle.std.proofs.Common.{arith}
use Rattle.std.proofs.lemmas.List.{take_at, drop_at, take_all, drop_all, length-append, length-drop}
use Rattle.smi_commands.specs.Answer.{cut, pieces}

both : (a b : List ℕ) (s t : List (List ℕ)) → a ≡ b → s ≡ t → a ∷ s ≡ b ∷ t
both a b s t p q = cc

cut_nil : (n : ℕ) → cut n [] ≡ []
cut_nil zero = refl
cut_nil (suc n) = refl

-- as many turns as there are bytes are enough
cut_enough : (n m : ℕ) (b : List ℕ) → length b ≤ n → length b ≤ m → cut n b ≡ cut m b
cut_enough n m [] p q = cut_nil n ∙ sym (cut_nil m)
cut_enough zero m (x ∷ b) p q = absurd (omega arith)
cut_enough (suc n) zero (x ∷ b) p q = absurd (omega arith)
cut_enough (suc n) (suc m) (x ∷ b) p q =
    let short = length-drop 44 (x ∷ b) in
    both _ _ _ _ refl (cut_enough n m (drop 44 (x ∷ b)) (omega arith) (omega arith))

pub pieces_first : (p b : List ℕ) → length p ≡ 44 → pieces (p ++ b) ≡ p ∷ pieces b
unfolding pieces
pieces_first [] b h = absurd (omega arith)
pieces_first (x ∷ p) b h =
    let whole = length-append p b in
    both _ _ _ _ (take_at (x ∷ p) b 44 h)
    (ap (cut (length (p ++ b))) (drop_at (x ∷ p) b 44 h)
    ∙ cut_enough (length (p ++ b)) (length b) b (omega arith) (omega arith))

pub pieces_last : (p : List ℕ) → 0 < length p → length p ≤ 44 → pieces p ≡ p ∷ []
unfolding pieces
pieces_last [] h l = absurd (omega arith)
pieces_last (x ∷ p) h l = both _ _ _ _ (take_all 44 (x ∷ p) l)
    (ap (cut (length p)) (drop_all 44 (x ∷ p) l) ∙ cut_nil (length p))

pub pieces_nil : pieces [] ≡ []
unfolding pieces
pieces_nil = refl
