-- Which records a datagram can tell.
use Rattle.std.specs.Prelude.{Bool, ◌&&◌}
use Rattle.smi_grant.specs.Holder.{is_in_range}
use Rattle.smi_grant.specs.Record.{Standing, is_outcome}

-- its holder and its outcome have the numbers that a tree can have
abbrev pub is_tellable : Standing → Bool
is_tellable r = is_in_range r.holder && is_outcome r.outcome
