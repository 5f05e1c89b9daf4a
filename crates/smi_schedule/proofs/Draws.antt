-- Items that are drawn one after the other.
use Rattle.std.proofs.Common.{◌≡◌, ℕ, suc, ◌+◌, ◌-◌, ◌<◌, ◌≤◌, List, [], ◌∷◌, ◌++◌, refl, sym, ap, ◌∙◌, append_assoc}
use Rattle.std.proofs.Common.{append-nil, arith}
use Rattle.rand_pcg.specs.Lcg.{Lcg}
use Rattle.smi_tree.specs.Hierarchy.{Hierarchy}
use Rattle.smi_protocol.specs.declared.item.Item.{Item}
use Rattle.smi_schedule.specs.Drawn.{item_of, word_of, word_taken, items_drawn}

next : (h : Hierarchy) (n m : ℕ) (words : Lcg) → n ≡ suc m
    → items_drawn h n words ≡ item_of h (word_of words) ∷ items_drawn h m (word_taken words)
unfolding items_drawn
next h n m words e = rw e refl

none : (h : Hierarchy) (n : ℕ) (words : Lcg) → n ≡ 0 → items_drawn h n words ≡ []
unfolding items_drawn
none h n words e = rw e refl

-- one more item
pub drawn_on : (h : Hierarchy) (n k : ℕ) (words after : Lcg) (items new all : List Item) (item : Item) → k < n
    → item ≡ item_of h (word_of words) → after ≡ word_taken words
    → new ≡ items ++ item ∷ [] → items ++ items_drawn h (n - k) words ≡ all
    → new ++ items_drawn h (n - (k + 1)) after ≡ all
drawn_on h n k words after items new all item below drawn taken grown same =
    let e : n - k ≡ suc (n - (k + 1)) = omega arith in
    let rest = items_drawn h (n - (k + 1)) in
    let one : item ∷ rest after ≡ items_drawn h (n - k) words = ap (λ (x : Item). x ∷ rest after) drawn
    ∙ ap (λ (g : Lcg). item_of h (word_of words) ∷ rest g) taken ∙ sym (next h (n - k) (n - (k + 1)) words e) in
    ap (λ (xs : List Item). xs ++ rest after) grown ∙ append_assoc items (item ∷ []) (rest after)
    ∙ ap (λ (xs : List Item). items ++ xs) one ∙ same

-- no more items
pub drawn_all : (h : Hierarchy) (n k : ℕ) (words : Lcg) (items all : List Item) → n ≤ k
    → items ++ items_drawn h (n - k) words ≡ all → items ≡ all
drawn_all h n k words items all over same =
    let e : n - k ≡ 0 = omega arith in
    sym (append-nil items) ∙ ap (λ (xs : List Item). items ++ xs) (sym (none h (n - k) words e)) ∙ same
