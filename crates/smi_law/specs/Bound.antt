-- How many items a settling may take.
use Rattle.std.specs.Prelude.{ℕ, ◌+◌, ◌*◌, ◌/◌, List, [], ◌∷◌}
use Rattle.smi_base.specs.declared.trees.TheConstants.{MOST_OPERATORS_OF_A_STATION}
use Rattle.smi_tree.specs.Hierarchy.{Hierarchy}
use Rattle.smi_tree.specs.Lookups.{device_count, domain_count}
use Rattle.smi_command.specs.Pending.{most_pending}
use Rattle.smi_protocol.specs.Refusals.{most_links}
use Rattle.smi_protocol.specs.Ticking.{most_sent}

-- a station has no more operators
abbrev pub most_operators : ℕ
most_operators = MOST_OPERATORS_OF_A_STATION

-- and owes no more at a time: one thing to each child, what its operators' links in use are due, questions, watches
abbrev pub most_owed : Hierarchy → ℕ
most_owed h =
    domain_count h + most_operators * (most_links * most_pending) + most_operators
    + (domain_count h + device_count h)

-- this many ticks send all of it of it, wherever the first of them begins
abbrev pub most_ticks : Hierarchy → ℕ
most_ticks h = 2 * (most_owed h / most_sent + 1) + 1

-- a round: ticks of one station, a delivery, and a start if that stopped its station
abbrev pub round : Hierarchy → ℕ
round h = most_ticks h + 2

-- no more links than these hear of a domain at a station: its operators', and the parent's
abbrev pub most_hearing : ℕ
most_hearing = most_operators + 1

-- a request reaches its keeper, and the answer each of these links; if that stops a station, it starts again
abbrev pub passing : Hierarchy → ℕ
passing h = round h + (most_hearing + most_hearing)

-- each of these deliveries changes an object twice at most
abbrev pub changing : ℕ
changing = most_hearing + most_hearing + 2

-- for each of the things under way: two such passes for each domain
abbrev pub most_items : Hierarchy → ℕ → ℕ
most_items h n = n * (2 * domain_count h * passing h)

-- and this many changes of an object
abbrev pub most_changes : Hierarchy → ℕ → ℕ
most_changes h n = n * (2 * domain_count h * changing)

-- all of these together
abbrev pub total : List ℕ → ℕ
total [] = 0
total (n ∷ more) = n + total more
