-- The datagrams that a station sends to itself: they wait in memory, the oldest first.
use Rattle.std.specs.Prelude.{ℕ, ◌+◌, ◌==◌, ◌++◌, ◌∷◌, [], List, drop, length, Bool, not, ◌&&◌, nat_lt, if◌then◌else◌}

-- how many may wait, and how many are given in a row
abbrev pub most_waiting : ℕ
most_waiting = 4096

abbrev pub most_in_a_row : ℕ
most_in_a_row = 64

-- what waits for a station, how many were given since one was looked for elsewhere, and how often memory was refused
pub record Own : Type 0 where
  pub station : ℕ
  pub waiting : List (List ℕ)
  pub in_a_row : ℕ
  pub refusals : ℕ

abbrev pub nothing_own : ℕ → Own
nothing_own station = record { station = station; waiting = []; in_a_row = 0; refusals = 0 }

-- one more waits
abbrev pub with_own : Own → List ℕ → Own
with_own q datagram = record q { waiting = q.waiting ++ datagram ∷ [] }

-- memory was refused once more, and that is all
abbrev pub refused_own : Own → Own
refused_own q = record q { refusals = q.refusals + 1 }

-- the oldest is given, if one waits and not too many were given in a row
abbrev pub is_given : Own → Bool
is_given q = nat_lt q.in_a_row most_in_a_row && not (length q.waiting == 0)

-- once one is given, the others wait; if none is, the next may be given again
abbrev pub after_own : Own → Own
after_own q =
    if is_given q then record q { waiting = drop 1 q.waiting; in_a_row = q.in_a_row + 1 }
    else record q { in_a_row = 0 }
