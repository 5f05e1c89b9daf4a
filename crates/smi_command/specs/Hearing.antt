-- What a holder's link becomes if it is told a record, and what its holder learns by it.
use Rattle.std.specs.Prelude.{ℕ, ◌+◌, ◌-◌, ◌==◌, ◌&&◌, nat_lt, nat_le, min, if◌then◌else◌, not, List, [], ◌∷◌, length}
use Rattle.std.specs.Prelude.{drop, map}
use Rattle.std.specs.List.{range_with_len}
use Rattle.smi_grant.specs.declared.command.Command.{Command}
use Rattle.smi_grant.specs.declared.holder.Holder.{Holder}
use Rattle.smi_grant.specs.Holder.{is_free, same_holder}
use Rattle.smi_grant.specs.Record.{Standing, is_settled, last_epoch}
use Rattle.smi_command.specs.declared.link.Link.{Link}
use Rattle.smi_command.specs.declared.link.Link.TheVariants.{Out, Taking, Held, Dropping}
use Rattle.smi_command.specs.declared.hearing.LinkHeard.{LinkHeard}
use Rattle.smi_command.specs.declared.hearing.LinkHeard.TheVariants.{Unchanged, Renewed, Settled}
use Rattle.smi_command.specs.declared.settlements.Settlement.{Settlement}
use Rattle.smi_command.specs.Pending.{base_of}
use Rattle.smi_command.specs.Settlements.{settlement, unseen}

-- the take or drop has settled
abbrev pub change_settled : ℕ → LinkHeard
change_settled x = Settled (settlement 0 x ∷ [])

-- these commands have settled, if any
abbrev pub commands_settled : List Settlement → LinkHeard
commands_settled [] = Unchanged
commands_settled (s ∷ more) = Settled (s ∷ more)

-- a link that asks for the domain: the first case that fits
abbrev pub told_taking : ℕ → Holder → Standing → Link × LinkHeard
told_taking s me r =
    if r.epoch == s + 1 && same_holder r.holder me then (Held (s + 1) 0 [], change_settled 0)
    else (if is_free r.holder && r.epoch == last_epoch then (Out last_epoch, change_settled 9)
    else (if is_free r.holder && nat_lt s r.epoch then (Taking r.epoch, Renewed)
    else (if not (is_free r.holder) && (not (same_holder r.holder me) && nat_le s r.epoch)
    then (Out r.epoch, change_settled 5)
    else (Taking s, Unchanged))))

-- the newest number that has settled, as far as the record shows
abbrev pub newest_settled : Standing → ℕ
newest_settled r = if is_settled r.phase then r.last else r.last - 1

-- how many of the pending commands have settled
abbrev pub settled_count : ℕ → List Command → Standing → ℕ
settled_count n p r = min (newest_settled r - base_of n p) (length p)

-- how the command of a number has settled: the record shows the outcome of its last one alone
abbrev pub code_in : Standing → ℕ → ℕ
code_in r n = if n == r.last then r.outcome else unseen

abbrev pub settlement_in : Standing → ℕ → Settlement
settlement_in r n = settlement n (code_in r n)

-- the pending commands that have settled, oldest first
abbrev pub settlements : ℕ → List Command → Standing → List Settlement
settlements n p r = map (settlement_in r) (range_with_len (base_of n p + 1) (settled_count n p r))

-- a link that holds the domain, told a record of its grant
abbrev pub told_held : ℕ → ℕ → List Command → Standing → Link × LinkHeard
told_held e n p r = (Held e n (drop (settled_count n p r) p), commands_settled (settlements n p r))

-- every link
abbrev pub told_of : Link → Holder → Standing → Link × LinkHeard
told_of (Out k) me r = (Out k, Unchanged)
told_of (Taking s) me r = told_taking s me r
told_of (Held e n p) me r = if r.epoch == e then told_held e n p r else (Held e n p, Unchanged)
told_of (Dropping e) me r = if nat_lt e r.epoch then (Out r.epoch, change_settled 0) else (Dropping e, Unchanged)

-- the link alone, and what is learned alone
abbrev pub told_link : Link → Holder → Standing → Link
told_link l me r = (told_of l me r).0

abbrev pub told_heard : Link → Holder → Standing → LinkHeard
told_heard l me r = (told_of l me r).1
