-- A text as its front, up to the first mark, and what follows.
use Rattle.std.proofs.Common.{◌≡◌, ℕ, suc, ◌+◌, ◌<◌, ◌≤◌, Bool, true, false, not, List, [], ◌∷◌, length, filter, take}
use Rattle.std.proofs.Common.{drop, get_or, refl, take_all, sym, ◌∙◌, ap, ◌⊎◌, inl, inr, arith}
use Rattle.std.proofs.lemmas.Bool.Decides.{nat_tests}
use Rattle.std.proofs.lemmas.List.{at_drop_more, at_drop_all}
use Rattle.std.specs.List.{slice_split, position_or_len}
use Rattle.std.specs.Str.Lines.{lines, lines_of_parts, strip_carriage_return}
use Rattle.smi_tree.specs.Text.{cuts, is_line_feed, words, is_empty}
use Rattle.smi_tree.specs.declared.text.Separator.TheVariants.{Blank}

pub either : (b : Bool) → (b ≡ true) ⊎ (b ≡ false)
either true = inl refl
either false = inr refl

-- what `slice_split` gives after the first part
abbrev pub later_parts : (ℕ → Bool) → List ℕ → List (List ℕ)
later_parts p [] = []
later_parts p (b ∷ bs) = slice_split p bs

pub take-one_more : (n b : ℕ) (bs : List ℕ) → take (1 + n) (b ∷ bs) ≡ b ∷ take n bs
take-one_more n b bs = let one_more : 1 + n ≡ suc n = omega arith in rw one_more refl

pub drop-one_more : (n b : ℕ) (bs : List ℕ) → drop (1 + n) (b ∷ bs) ≡ drop n bs
drop-one_more n b bs = let one_more : 1 + n ≡ suc n = omega arith in rw one_more refl

-- a text is parted at its first mark
pub slice_split-front : (p : ℕ → Bool) (bs : List ℕ) →
    slice_split p bs ≡ take (position_or_len p bs) bs ∷ later_parts p (drop (position_or_len p bs) bs)
slice_split-front p [] = refl
slice_split-front p (b ∷ bs) = elim (either (p b)) [
  | inl cut ↦ rw cut refl
  | inr on ↦ rw on (rw (slice_split-front p bs, take-one_more, drop-one_more) refl)
]

-- the parts that are not empty
abbrev pub words_by : (ℕ → Bool) → List ℕ → List (List ℕ)
words_by p bs = filter (λ word. not (is_empty word)) (slice_split p bs)

-- a blank at the beginning is in no word
pub words_by-blank : (p : ℕ → Bool) (b : ℕ) (bs : List ℕ) → p b ≡ true → words_by p (b ∷ bs) ≡ words_by p bs
words_by-blank p b bs blank = rw blank refl

-- the blank after a word is in no word
pub words_by-later : (p : ℕ → Bool) (bs : List ℕ) →
    filter (λ word. not (is_empty word)) (later_parts p (drop (position_or_len p bs) bs))
    ≡ words_by p (drop (position_or_len p bs) bs)
words_by-later p [] = refl
words_by-later p (b ∷ bs) = elim (either (p b)) [
  | inl cut ↦ rw cut (sym (words_by-blank p b bs cut))
  | inr on ↦ rw on (rw drop-one_more (words_by-later p bs))
]

-- a line that begins within a word has the rest of that word first
pub words_by-word : (p : ℕ → Bool) (b : ℕ) (bs : List ℕ) → p b ≡ false →
    words_by p (b ∷ bs) ≡ take (position_or_len p (b ∷ bs)) (b ∷ bs)
    ∷ words_by p (drop (position_or_len p (b ∷ bs)) (b ∷ bs))
words_by-word p b bs on =
    let later = words_by-later p (b ∷ bs) in
    rw (slice_split-front p (b ∷ bs)) (rw (sym later) (rw on (rw take-one_more refl)))

-- a line from a place on
pub words-skip : (line : List ℕ) (i : ℕ) → i < length line → cuts Blank (get_or line i 0) ≡ true →
    words (drop (i + 1) line) ≡ words (drop i line)
words-skip line i within blank =
    sym (at_drop_more words line i 0 within ∙ words_by-blank (cuts Blank) (get_or line i 0) (drop (i + 1) line) blank)

-- the first word of a text, and the words after it
abbrev first_and_later : List ℕ → List (List ℕ)
first_and_later bs = take (position_or_len (cuts Blank) bs) bs ∷ words (drop (position_or_len (cuts Blank) bs) bs)

pub words-at : (line : List ℕ) (i : ℕ) → i < length line → cuts Blank (get_or line i 0) ≡ false →
    words (drop i line) ≡ take (position_or_len (cuts Blank) (drop i line)) (drop i line)
    ∷ words (drop (position_or_len (cuts Blank) (drop i line)) (drop i line))
words-at line i within on =
    at_drop_more words line i 0 within
    ∙ words_by-word (cuts Blank) (get_or line i 0) (drop (i + 1) line) on
    ∙ sym (at_drop_more first_and_later line i 0 within)

lines_of_two : (part text : List ℕ) →
    lines_of_parts (part ∷ slice_split is_line_feed text) ≡ strip_carriage_return part ∷ lines text
lines_of_two part text = rw (slice_split-front is_line_feed text) refl

-- the lines of a text that has a line feed
pub lines-front : (text : List ℕ) → position_or_len is_line_feed text < length text →
    lines text ≡ strip_carriage_return (take (position_or_len is_line_feed text) text)
    ∷ lines (drop (position_or_len is_line_feed text + 1) text)
lines-front text within =
    let end = position_or_len is_line_feed text in
    ap lines_of_parts (slice_split-front is_line_feed text
    ∙ ap (λ (later : List (List ℕ)). take end text ∷ later) (at_drop_more (later_parts is_line_feed) text end 0 within))
    ∙ lines_of_two (take end text) (drop (end + 1) text)

one_line : (text : List ℕ) → 0 < length text → lines_of_parts (text ∷ []) ≡ text ∷ []
one_line [] some = absurd (omega arith)
one_line (b ∷ bs) some = grind (arith, nat_tests)

-- the one line of a text that has none
pub lines-last : (text : List ℕ) → length text ≤ position_or_len is_line_feed text → 0 < length text →
    lines text ≡ text ∷ []
lines-last text none some =
    let end = position_or_len is_line_feed text in
    ap lines_of_parts (slice_split-front is_line_feed text
    ∙ ap (λ (later : List (List ℕ)). take end text ∷ later) (at_drop_all (later_parts is_line_feed) text end none)
    ∙ ap (λ (part : List ℕ). part ∷ []) (take_all end text none))
    ∙ one_line text some
