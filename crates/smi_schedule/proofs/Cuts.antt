-- The lines of a text of which only the beginning was read.
use Rattle.std.proofs.Common.{◌≡◌, ℕ, ◌+◌, ◌-◌, ◌<◌, ◌≤◌, ◌==◌, nat_lt, Bool, List, [], ◌∷◌, ◌++◌, length, take, drop}
use Rattle.std.proofs.Common.{Option, Some, None, refl, sym, ap, subst, ◌∙◌, inl, inr, arith}
use Rattle.std.proofs.lemmas.Bool.Decides.{nat_tests}
use Rattle.std.proofs.lemmas.List.{length-append, length-take, take-append-le, drop-append-le, drop-drop, drop_all}
use Rattle.std.proofs.lemmas.List.{take_rest}
use Rattle.std.specs.List.{position_or_len, slice_index}
use Rattle.std.specs.Str.Lines.{lines, strip_carriage_return}
use Rattle.std.specs.Io.KnownBytes.{Keeps}
use Rattle.smi_base.specs.declared.trees.TheConstants.{MOST_BYTES_OF_A_LINE}
use Rattle.smi_tree.specs.Text.{is_line_feed}
use Rattle.smi_tree.proofs.Cutting.{either, lines-front, lines-last}
use Rattle.smi_schedule.specs.declared.lines.Cut.{Cut}
use Rattle.smi_schedule.specs.Lines.{Cuts, CutsText}

place-append : (p : ℕ → Bool) (xs ys : List ℕ) → position_or_len p xs < length xs
    → position_or_len p (xs ++ ys) ≡ position_or_len p xs
place-append p [] ys below = absurd (omega arith)
place-append p (x ∷ xs) ys below = elim (either (p x)) [
  | inl cut ↦ rw cut refl
  | inr on ↦ let below_on = rw on at below in rw on (ap (λ (n : ℕ). 1 + n) (place-append p xs ys (omega arith)))
]

place-beyond : (p : ℕ → Bool) (xs ys : List ℕ) → length xs ≤ position_or_len p xs
    → length xs ≤ position_or_len p (xs ++ ys)
place-beyond p [] ys beyond = omega arith
place-beyond p (x ∷ xs) ys beyond = elim (either (p x)) [
  | inl cut ↦ let never = rw cut at beyond in absurd (omega arith)
  | inr on ↦ let beyond_on = rw on at beyond in let more = place-beyond p xs ys (omega arith) in rw on (omega arith)
]

-- a line whose line feed was read
pub first_line_read : (rest later : List ℕ) (end : ℕ) → end < length rest → end ≡ position_or_len is_line_feed rest
    → lines (rest ++ later) ≡ strip_carriage_return (take end rest) ∷ lines (drop (end + 1) rest ++ later)
first_line_read rest later end below first =
    let place : position_or_len is_line_feed (rest ++ later)
    ≡ end = place-append is_line_feed rest later (omega arith) ∙ sym first in
    let front = lines-front (rest ++ later) (omega (arith, length-append rest later, place)) in
    let own : take end (rest ++ later) ≡ take end rest = take-append-le end rest later (omega arith) in
    let others : drop (end + 1) (rest ++ later) ≡ drop (end + 1) rest
    ++ later = drop-append-le (end + 1) rest later (omega arith) in
    front ∙ ap (λ (n : ℕ). strip_carriage_return (take n (rest ++ later)) ∷ lines (drop (n + 1) (rest ++ later))) place
    ∙ ap (λ (t : List ℕ). strip_carriage_return t ∷ lines (drop (end + 1) (rest ++ later))) own
    ∙ ap (λ (t : List ℕ). strip_carriage_return (take end rest) ∷ lines t) others

-- the same as it is taken
pub line_taken : (read rest later line items : List ℕ) (from end at : ℕ) → rest ≡ drop from read → at ≡ from + end
    → line ≡ strip_carriage_return (take (at - from) (drop from read)) → items ≡ line
    → end < length rest → end ≡ position_or_len is_line_feed rest
    → lines (rest ++ later) ≡ items ∷ lines (drop (at + 1) read ++ later)
line_taken read rest later line items from end at rest_is at_is line_is items_is below first =
    let count : at - from ≡ end = omega arith in
    let own : strip_carriage_return (take end rest) ≡ items =
    sym (items_is ∙ line_is ∙ ap (λ (n : ℕ). strip_carriage_return (take n (drop from read))) count
    ∙ ap (λ (t : List ℕ). strip_carriage_return (take end t)) (sym rest_is)) in
    let place : from + (end + 1) ≡ at + 1 = omega arith in
    let others : drop (end + 1) rest ≡ drop (at + 1) read = ap (drop (end + 1)) rest_is
    ∙ drop-drop (end + 1) from read ∙ ap (λ (n : ℕ). drop n read) place in
    first_line_read rest later end below first ∙ ap (λ (t : List ℕ). t ∷ lines (drop (end + 1) rest ++ later)) own
    ∙ ap (λ (t : List ℕ). items ∷ lines (t ++ later)) others

-- the last line, as it is taken
pub last_taken : (read rest items : List ℕ) (from n : ℕ) → rest ≡ drop from read
    → items ≡ take (length read - from) (drop from read) → n ≡ length read
    → length rest ≤ position_or_len is_line_feed rest → 0 < length rest → lines rest ≡ items ∷ lines (drop n read)
last_taken read rest items from n rest_is items_is n_is none some =
    let own : rest ≡ items = rest_is ∙ sym (items_is ∙ take_rest read from) in
    let over : drop n read ≡ [] = drop_all n read (omega arith) in
    lines-last rest none some ∙ ap (λ (t : List ℕ). t ∷ []) own ∙ ap (λ (t : List ℕ). items ∷ lines t) (sym over)

strip-long : (line : List ℕ) → MOST_BYTES_OF_A_LINE + 1 < length line → MOST_BYTES_OF_A_LINE < length
    (strip_carriage_return line)
strip-long line long = elim (either (slice_index line (length line - 1) == 13)) [
  | inl cut ↦ rw cut (omega (arith, length-take (length line - 1) line))
  | inr on ↦ rw on (omega arith)
]

-- this many bytes without a line feed
pub too_long : (rest later : List ℕ) → length rest ≤ position_or_len is_line_feed rest → 201 < length rest
    → (first : List ℕ) × (more : List (List ℕ)) × (lines (rest ++ later) ≡ first ∷ more) ×
    (MOST_BYTES_OF_A_LINE < length first)
too_long rest later none long =
    let text = rest ++ later in
    let end = position_or_len is_line_feed text in
    let beyond : length rest ≤ end = place-beyond is_line_feed rest later none in
    let size : length text ≡ length rest + length later = length-append rest later in
    elim (either (nat_lt end (length text))) [
      | inl there ↦
          let within : end < length text = grind (arith, nat_tests) in (
            strip_carriage_return (take end text),
            lines (drop (end + 1) text),
            lines-front text within,
            strip-long (take end text) (omega (arith, length-take end text)),
          )
      | inr nowhere ↦
          let over : length text ≤ end = grind (arith, nat_tests) in
          (text, [], lines-last text over (omega arith), omega arith)
    ]

pub keeps_on : (a b c : Option (List ℕ)) → Keeps a b → Keeps b c → Keeps a c
keeps_on None b c p q = tt
keeps_on (Some x) None c p q = absurd p
keeps_on (Some x) (Some y) None p q = absurd q
keeps_on (Some x) (Some y) (Some z) p q = q ∙ p

pub cuts_kept : (how : Cut) (a b : Option (List ℕ)) (line : List ℕ) (later : Option (List ℕ)) → Keeps a b
    → Cuts how b line later → Cuts how a line later
cuts_kept how None b line later p q = tt
cuts_kept how (Some x) None line later p q = absurd p
cuts_kept how (Some x) (Some y) line later p q = subst (λ (t : List ℕ). CutsText how t line later) p q
