-- A text in parts.
use Rattle.std.specs.Prelude.{ℕ, ◌+◌, ◌==◌, nat_lt, Bool, List, [], ◌∷◌, Option, Some, None}
use Rattle.std.specs.Prelude.{bytes_eq, drop, take, length}
use Rattle.std.specs.Prelude.{if◌then◌else◌}
use Rattle.std.specs.List.{list_any, position, position_or_len, slice_split}
use Rattle.smi_history.specs.Text.{rest_of}

abbrev pub place_of : ℕ → List ℕ → Option ℕ
place_of mark text = position (λ byte. byte == mark) text

abbrev pub length_before : ℕ → List ℕ → ℕ
length_before mark text = position_or_len (λ byte. byte == mark) text

-- what comes before the first such byte, or all
abbrev pub before_mark : ℕ → List ℕ → List ℕ
before_mark mark text = take (length_before mark text) text

-- what follows it, if there is one
abbrev pub after_mark : ℕ → List ℕ → Option (List ℕ)
after_mark mark text =
    if nat_lt (length_before mark text) (length text) then Some (drop (length_before mark text + 1) text) else None

-- what is between these bytes
abbrev pub parts : ℕ → List ℕ → List (List ℕ)
parts mark text = slice_split (λ byte. byte == mark) text

abbrev pub parts_left : ℕ → Option (List ℕ) → List (List ℕ)
parts_left mark None = []
parts_left mark (Some text) = parts mark text

-- one of the parts between blanks is the word
abbrev pub has_word : List ℕ → List ℕ → Bool
has_word text word = list_any (λ one. bytes_eq one word) (parts 32 text)

abbrev pub or_else : Option (List ℕ) → Option (List ℕ) → Option (List ℕ)
or_else (Some value) other = Some value
or_else None other = other

abbrev pub first_value : List ℕ → List (List ℕ) → Option (List ℕ)
first_value key [] = None
first_value key (part ∷ more) = or_else (rest_of key part) (first_value key more)

-- the value of the first part, between ampersands, that has this key before it
abbrev pub value_of : List ℕ → List ℕ → Option (List ℕ)
value_of key query = first_value key (parts 38 query)
