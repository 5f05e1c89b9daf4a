-- How bytes are cut into lines.
use Rattle.std.specs.Prelude.{ℕ, nat_lt, ◌≡◌, ◌-◌, ◌+◌, ◌==◌, Bool, List, [], ◌∷◌, ◌++◌, length, take, drop, Option}
use Rattle.std.specs.Prelude.{Some, None, if◌then◌else◌}
use Rattle.std.specs.List.{position_or_len}
use Rattle.std.specs.Str.Lines.{strip_carriage_return}
use Rattle.smi_tree.specs.Text.{is_line_feed}

-- the line that has no line feed yet, as far as it is kept, and the bytes that were not looked at
pub record SplitterState : Type 0 where
  pub line : List ℕ
  pub unread : List ℕ

-- this much of a line is kept: one of more than 200 bytes is seen to be too long
abbrev pub most_kept : ℕ
most_kept = 202

-- a line with one byte more, as far as it is kept
abbrev pub with_byte : List ℕ → ℕ → List ℕ
with_byte line byte = if nat_lt (length line) most_kept then line ++ byte ∷ [] else line

-- a line without the carriage return at its end
abbrev pub trimmed : List ℕ → List ℕ
trimmed = strip_carriage_return

-- the lines that end among these bytes, of which the first goes on with them
abbrev pub lines_of : List ℕ → List ℕ → List (List ℕ)
lines_of line [] = []
lines_of line (byte ∷ bytes) =
    if is_line_feed byte then trimmed line ∷ lines_of [] bytes else lines_of (with_byte line byte) bytes

-- the line that has not ended after these bytes
abbrev pub left_of : List ℕ → List ℕ → List ℕ
left_of line [] = line
left_of line (byte ∷ bytes) = if is_line_feed byte then left_of [] bytes else left_of (with_byte line byte) bytes

-- the same of bytes that come in blocks
abbrev pub lines_of_blocks : List ℕ → List (List ℕ) → List (List ℕ)
lines_of_blocks line [] = []
lines_of_blocks line (block ∷ blocks) = lines_of line block ++ lines_of_blocks (left_of line block) blocks

-- the lines that have ended and were not taken, and the one that has not ended
abbrev pub lines_in : SplitterState → List (List ℕ)
lines_in s = lines_of s.line s.unread

abbrev pub left_in : SplitterState → List ℕ
left_in s = left_of s.line s.unread

-- the first line is taken; or none has ended, and all bytes were looked at
abbrev pub TakesLine : Option (List ℕ) → SplitterState → SplitterState → Type 0
TakesLine (Some line) a b = (lines_in a ≡ line ∷ lines_in b) × (left_in b ≡ left_in a)
TakesLine None a b = (lines_in a ≡ []) × (b.unread ≡ []) × (b.line ≡ left_in a)

-- all bytes were looked at
abbrev pub is_empty : SplitterState → Bool
is_empty s = length s.unread == 0

-- the last line, if it has bytes and lacks its line feed
abbrev pub last_line : SplitterState → Option (List ℕ)
last_line s = if length s.line == 0 then None else Some (trimmed s.line)

-- a line that goes on with this many bytes, as far as it is kept
abbrev pub kept : List ℕ → List ℕ → ℕ → List ℕ
kept line bytes count = line ++ take (most_kept - length line) (take count bytes)

-- the place of the first line feed, or the end of the bytes
abbrev pub line_end : List ℕ → ℕ
line_end bytes = position_or_len is_line_feed bytes

-- a cut at the first line feed: the line before it, and what is left
abbrev pub first_line : SplitterState → Option (List ℕ)
first_line s =
    if nat_lt (line_end s.unread) (length s.unread)
    then Some (trimmed (kept s.line s.unread (line_end s.unread)))
    else None

abbrev pub behind_first : SplitterState → SplitterState
behind_first s =
    if nat_lt (line_end s.unread) (length s.unread)
    then record { line = []; unread = drop (line_end s.unread + 1) s.unread }
    else record { line = kept s.line s.unread (line_end s.unread); unread = [] }
