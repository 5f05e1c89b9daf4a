-- How long a link waits before it says that nothing has come, whatever else comes.
use Rattle.std.specs.Prelude.{ℕ, ◌-◌, ◌/◌, Option, None, Some}
use Rattle.std.specs.declared.time.Instant.{Instant}
use Rattle.std.specs.Time.{instant_nanos}

-- ten milliseconds
abbrev pub most_patience : ℕ
most_patience = 10

-- it begins with the first look after nothing has come
unfoldable pub begun_at : Option Instant → Instant → Option Instant
begun_at None now = Some now
begun_at (Some begun) _ = Some begun

-- its whole milliseconds that are left, one that has begun counted whole
unfoldable pub left_at : Option Instant → Instant → ℕ
left_at None _ = most_patience
left_at (Some begun) now = most_patience - (instant_nanos now - instant_nanos begun) / 1_000_000
