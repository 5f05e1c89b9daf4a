-- What contracts see of a listener of a screen.
use Rattle.std.specs.Prelude.{ℕ}

-- how many connections it has
pub record ListenerState : Type 0 where
  pub connections : ℕ

abbrev pub most_connections : ℕ
most_connections = 256
