-- What a tag is, and whether a line has one.
use Rattle.std.specs.Prelude.{ℕ, ◌==◌, ◌&&◌, nat_le, min, Bool, List, [], ◌∷◌, length, take, Option, Some, None}
use Rattle.std.specs.Prelude.{if◌then◌else◌}
use Rattle.std.specs.List.{list_all}
use Rattle.std.specs.Char.{is_ascii_graphic}
use Rattle.smi_session.specs.declared.tag.Tag.{Tag}

-- the bytes of a tag
abbrev pub tag_text : Tag → List ℕ
tag_text tag = take (min tag.count 16) tag.bytes

-- one to sixteen printable bytes
abbrev pub is_tag : List ℕ → Bool
is_tag text = nat_le 1 (length text) && nat_le (length text) 16 && list_all is_ascii_graphic text

-- the tag of a word: what follows its @
abbrev pub tag_in : List ℕ → Option (List ℕ)
tag_in [] = None
tag_in (byte ∷ text) = if byte == 64 && is_tag text then Some text else None

-- the tag that a line begins with, if its first word has one
abbrev pub tag_of : List (List ℕ) → Option (List ℕ)
tag_of [] = None
tag_of (word ∷ more) = tag_in word
