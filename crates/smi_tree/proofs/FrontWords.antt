-- The first word of a text that begins with a given word and a blank.
use Rattle.std.proofs.Common.{◌≡◌, ℕ, Bool, true, false, not, List, [], ◌∷◌, ◌++◌, length, refl, arith}
use Rattle.std.proofs.lemmas.Bool.Decides.{nat_tests}
use Rattle.std.specs.Prelude.{nat_le}
use Rattle.std.specs.List.{slice_split, list_all}
use Rattle.smi_base.specs.declared.trees.TheConstants.{MOST_BYTES_OF_A_NAME}
use Rattle.smi_tree.proofs.Kept.{both-left, both-right}
use Rattle.smi_tree.specs.Name.{is_name, is_name_byte, begins_with_letter}
use Rattle.smi_tree.specs.Text.{cuts, words}
use Rattle.smi_tree.specs.declared.text.Separator.TheVariants.{Blank}

-- no byte is cut at
abbrev pub is_whole : (ℕ → Bool) → List ℕ → Bool
is_whole p = list_all (λ b. not (p b))

fails : (b : Bool) → not b ≡ true → b ≡ false
fails true h = cc
fails false h = refl

-- what is before the first mark is the first part
slice_split-after : (p : ℕ → Bool) (word : List ℕ) (mark : ℕ) (text : List ℕ) → p mark ≡ true
    → is_whole p word ≡ true → slice_split p (word ++ mark ∷ text) ≡ word ∷ slice_split p text
slice_split-after p [] mark text cut whole = rw cut refl
slice_split-after p (b ∷ bs) mark text cut whole =
    let on = fails (p b) (both-left (not (p b)) (is_whole p bs) whole) in
    let later = slice_split-after p bs mark text cut (both-right (not (p b)) (is_whole p bs) whole) in
    rw (on, later) refl

-- the word before a space is the first word
pub words-after : (b : ℕ) (bs text : List ℕ) → is_whole (cuts Blank) (b ∷ bs) ≡ true →
    words ((b ∷ bs) ++ 32 ∷ text) ≡ (b ∷ bs) ∷ words text
words-after b bs text whole = rw (slice_split-after (cuts Blank) (b ∷ bs) 32 text refl whole) refl

no_blank : (b : ℕ) → is_name_byte b ≡ true → not (cuts Blank b) ≡ true
no_blank b named = grind (arith, nat_tests)

-- a name has no blank
whole-name : (name : List ℕ) → list_all is_name_byte name ≡ true → is_whole (cuts Blank) name ≡ true
whole-name [] all = refl
whole-name (b ∷ bs) all =
    let first = no_blank b (both-left (is_name_byte b) (list_all is_name_byte bs) all) in
    rw first (whole-name bs (both-right (is_name_byte b) (list_all is_name_byte bs) all))

-- the name before a space is the first word
pub words-after_name : (name text : List ℕ) → is_name name ≡ true → words (name ++ 32 ∷ text) ≡ name ∷ words text
words-after_name [] text named =
    let begins = both-left (begins_with_letter []) (list_all is_name_byte [])
    (both-right (nat_le 0 MOST_BYTES_OF_A_NAME) _ named) in cc
words-after_name (b ∷ bs) text named =
    let all = both-right (begins_with_letter (b ∷ bs)) (list_all is_name_byte (b ∷ bs))
    (both-right (nat_le (length (b ∷ bs)) MOST_BYTES_OF_A_NAME) _ named) in
    words-after b bs text (whole-name (b ∷ bs) all)
