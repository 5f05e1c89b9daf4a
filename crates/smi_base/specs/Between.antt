-- What lies between two limits.
use Rattle.std.specs.Prelude.{ℕ, ◌&&◌, nat_le, Bool}

-- a number is neither below the one nor above the other
abbrev pub is_between : ℕ → ℕ → ℕ → Bool
is_between low high n = nat_le low n && nat_le n high
