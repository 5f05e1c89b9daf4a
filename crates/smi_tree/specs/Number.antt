-- Numbers and addresses.
use Rattle.std.specs.Prelude.{ℕ, ◌+◌, ◌*◌, ◌-◌, ◌&&◌, nat_le, nat_lt, Bool, List, [], ◌∷◌, length, fold, Option, Some}
use Rattle.std.specs.Prelude.{None, if◌then◌else◌}
use Rattle.std.specs.List.{list_all, position_or_len, before_first, after_first}
use Rattle.smi_tree.specs.Name.{is_digit}
use Rattle.smi_tree.specs.Text.{cuts}
use Rattle.smi_tree.specs.declared.text.Separator.{Separator}
use Rattle.smi_tree.specs.declared.text.Separator.TheVariants.{Dot, Colon}
use Rattle.smi_tree.specs.declared.number.Address.{Address}

-- what decimal digits stand for
abbrev pub decimal : List ℕ → ℕ
decimal digits = fold (λ value digit. 10 * value + (digit - 48)) 0 digits

-- a number: one to ten decimal digits
abbrev pub is_number : List ℕ → Bool
is_number word = nat_le 1 (length word) && (nat_le (length word) 10 && list_all is_digit word)

-- the number that a word stands for, if it is one of this range
abbrev pub number_within : ℕ → ℕ → List ℕ → Option ℕ
number_within least most word =
    if is_number word && (nat_le least (decimal word) && nat_le (decimal word) most) then Some (decimal word) else None

infixl 10 ◌>>=◌
abbrev pub ◌>>=◌ : {A B : Type 0} → Option A → (A → Option B) → Option B
(Some x) >>= next = next x
None >>= next = None

-- a number up to 255 before a mark, and what follows the mark
abbrev pub part_before : Separator → List ℕ → Option (ℕ × List ℕ)
part_before mark text =
    if nat_lt (position_or_len (cuts mark) text) (length text)
    then (do
      part ← number_within 0 255 (before_first (cuts mark) text)
      Some (part, after_first (cuts mark) text))
    else None

-- an address: four parts up to 255 with dots between them, a colon, and a port from 1 to 65535
unfoldable pub address_of : List ℕ → Option Address
address_of word = do
  first ← part_before Dot word
  second ← part_before Dot first.1
  third ← part_before Dot second.1
  fourth ← part_before Colon third.1
  port ← number_within 1 65535 fourth.1
  Some (record { host = first.0 ∷ second.0 ∷ third.0 ∷ fourth.0 ∷ []; port = port })
