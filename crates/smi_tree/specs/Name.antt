-- Names, and their numbers in a list of names.
use Rattle.std.specs.Prelude.{ℕ, ◌==◌, ◌||◌, ◌&&◌, nat_le, Bool, false, List, [], ◌∷◌, length, Option, Some, None}
use Rattle.std.specs.Prelude.{if◌then◌else◌, is_some, Result, Ok, Err, nat_lt, ◌++◌}
use Rattle.std.specs.List.{list_all, position_from}
use Rattle.std.specs.Str.{bytes_eq}
use Rattle.smi_base.specs.declared.trees.TheConstants.{MOST_BYTES_OF_A_NAME}
use Rattle.smi_tree.specs.declared.fault.Fault.{Fault}
use Rattle.smi_tree.specs.declared.fault.Fault.TheVariants.{Twice, OverLimit}

abbrev pub is_letter : ℕ → Bool
is_letter b = nat_le 65 b && nat_le b 90

abbrev pub is_digit : ℕ → Bool
is_digit b = nat_le 48 b && nat_le b 57

abbrev pub is_name_byte : ℕ → Bool
is_name_byte b = is_letter b || (is_digit b || b == 95)

abbrev pub begins_with_letter : List ℕ → Bool
begins_with_letter [] = false
begins_with_letter (b ∷ bs) = is_letter b

-- a name: 1 to 16 bytes of A to Z, 0 to 9 and _, the first a letter
abbrev pub is_name : List ℕ → Bool
is_name word = nat_le (length word) MOST_BYTES_OF_A_NAME && (begins_with_letter word && list_all is_name_byte word)

abbrev pub name_of : List ℕ → Option (List ℕ)
name_of word = if is_name word then Some word else None

-- the number of a name: its place in the list of names, from 1
abbrev pub number_of : List (List ℕ) → List ℕ → Option ℕ
number_of names name = position_from (bytes_eq name) 1 names

abbrev pub is_declared : List (List ℕ) → List ℕ → Bool
is_declared names name = is_some (number_of names name)

-- the names with one more: no name twice, and no more names than the limit
abbrev pub added : ℕ → List (List ℕ) → List ℕ → Result (List (List ℕ)) Fault
added limit names name =
    if is_declared names name then Err Twice
    else (if nat_lt (length names) limit then Ok (names ++ name ∷ []) else Err OverLimit)
