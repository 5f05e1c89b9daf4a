-- Pieces of text.
use Rattle.std.specs.Prelude.{ℕ, ◌==◌, ◌&&◌, not, nat_le, Bool, List, drop, length, Option, Some, None, if◌then◌else◌}
use Rattle.std.specs.List.{starts_with}

-- printable ASCII without the quotation mark and the backslash: no line ends there, and none is escaped
abbrev pub is_plain : ℕ → Bool
is_plain byte = nat_le 32 byte && nat_le byte 126 && not (byte == 34) && not (byte == 92)

-- what follows in a text that begins so
abbrev pub rest_of : List ℕ → List ℕ → Option (List ℕ)
rest_of front text = if starts_with (λ a b. a == b) text front then Some (drop (length front) text) else None
