-- The time of a look.
use Rattle.std.specs.Prelude.{ℕ, ◌-◌, ◌/◌, ◌&&◌, nat_le, nat_lt, Bool}
use Rattle.smi_history.specs.declared.look_time.LookTime.{LookTime}

-- it was not there at the look before; what has the time of this look is new at the next one
abbrev pub is_new : ℕ → LookTime → ℕ → Bool
is_new from m at = nat_le from at && nat_lt at m.now

-- which time of the clock a time of the screen is
abbrev pub clock_at : LookTime → ℕ → ℕ
clock_at m at = m.clock - (m.now - at)

-- on which day it is, counted since 1970
abbrev pub day_of : LookTime → ℕ
day_of m = m.clock / 86_400_000
