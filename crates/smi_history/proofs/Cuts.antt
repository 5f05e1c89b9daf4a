-- A text is cut at its first mark.
use Rattle.std.proofs.Common.{◌≡◌, ◌+◌, ◌<◌, ◌≤◌, ◌⊎◌, inl, inr, ℕ, suc, Bool, true, false}
use Rattle.std.proofs.Common.{not, List, [], ◌∷◌, length, take, drop, refl, take_all, ◌∙◌, ap, arith}
use Rattle.std.proofs.lemmas.List.{at_drop_more, at_drop_all}
use Rattle.std.proofs.lemmas.List.Sums.{prefix_len-le-length}
use Rattle.std.specs.Prelude.{◌==◌}
use Rattle.std.specs.List.{position_or_len, slice_split}
use Rattle.smi_history.specs.History.{count_before, is_since}
use Rattle.smi_history.specs.Parts.{parts, length_before}
use Rattle.smi_history.specs.declared.history.HistoryEntry.{HistoryEntry}

either : (b : Bool) → (b ≡ true) ⊎ (b ≡ false)
either true = inl refl
either false = inr refl

-- what `slice_split` gives after the first part
abbrev pub later_parts : (ℕ → Bool) → List ℕ → List (List ℕ)
later_parts p [] = []
later_parts p (b ∷ bs) = slice_split p bs

take-one_more : (n b : ℕ) (bs : List ℕ) → take (1 + n) (b ∷ bs) ≡ b ∷ take n bs
take-one_more n b bs = let one_more : 1 + n ≡ suc n = omega arith in rw one_more refl

drop-one_more : (n b : ℕ) (bs : List ℕ) → drop (1 + n) (b ∷ bs) ≡ drop n bs
drop-one_more n b bs = let one_more : 1 + n ≡ suc n = omega arith in rw one_more refl

pub slice_split-front : (p : ℕ → Bool) (bs : List ℕ) →
    slice_split p bs ≡ take (position_or_len p bs) bs ∷ later_parts p (drop (position_or_len p bs) bs)
slice_split-front p [] = refl
slice_split-front p (b ∷ bs) = elim (either (p b)) [
  | inl cut ↦ rw cut refl
  | inr on ↦ rw on (rw (slice_split-front p bs, take-one_more, drop-one_more) refl)
]

-- the parts of a text that has the mark
pub parts_cut : (mark : ℕ) (text : List ℕ) → length_before mark text < length text
    → parts mark text ≡ take (length_before mark text) text ∷ parts mark (drop (length_before mark text + 1) text)
parts_cut mark text within =
    let end = length_before mark text in
    slice_split-front (λ byte. byte == mark) text
    ∙ ap (λ (later : List (List ℕ)). take end text ∷ later)
    (at_drop_more (later_parts (λ byte. byte == mark)) text end 0 within)

-- the one part of a text that has none
pub parts_whole : (mark : ℕ) (text : List ℕ) → length text ≤ length_before mark text → parts mark text ≡ text ∷ []
parts_whole mark text none =
    let end = length_before mark text in
    slice_split-front (λ byte. byte == mark) text
    ∙ ap (λ (later : List (List ℕ)). take end text ∷ later)
    (at_drop_all (later_parts (λ byte. byte == mark)) text end none)
    ∙ ap (λ (part : List ℕ). part ∷ []) (take_all end text none)

pub at_most_all : (mark : ℕ) (text : List ℕ) → length_before mark text ≤ length text
at_most_all mark text = prefix_len-le-length (λ byte. not (byte == mark)) text

pub at_most_kept : (second : ℕ) (entries : List HistoryEntry) → count_before second entries ≤ length entries
at_most_kept second entries = prefix_len-le-length (λ (e : HistoryEntry). not (is_since second e)) entries
