-- How long a guest of a screen may stay.
use Rattle.std.specs.Prelude.{ℕ, ◌+◌, min, Bool, false}

-- until when a connection may stay, in milliseconds, and whether it is to be closed
pub record GuestState : Type 0 where
  pub until : ℕ
  pub should_close : Bool

-- this many milliseconds later, as far as a number of 64 bits counts
abbrev pub later_by : ℕ → ℕ → ℕ
later_by now time = min (now + time) 18446744073709551615

-- one that comes has five seconds for its first request and the answer to it
abbrev pub new_guest : ℕ → GuestState
new_guest now = record { until = later_by now 5000; should_close = false }
