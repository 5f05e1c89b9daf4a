-- What the keeper of a domain makes of what it is asked.
use Rattle.std.specs.Prelude.{ℕ, ◌+◌, ◌&&◌, ◌==◌, nat_lt, Bool, true, false, if◌then◌else◌}
use Rattle.smi_grant.specs.declared.holder.Holder.{Holder}
use Rattle.smi_grant.specs.declared.holder.Holder.TheVariants.{Free}
use Rattle.smi_grant.specs.declared.record.Phase.TheVariants.{Settled, Busy}
use Rattle.smi_grant.specs.declared.keeper.Verdict.{Verdict}
use Rattle.smi_grant.specs.declared.keeper.Verdict.TheVariants.{New, Same}
use Rattle.smi_grant.specs.Holder.{is_free, same_holder}
use Rattle.smi_grant.specs.Record.{Standing, standing, is_settled, last_epoch}

-- the domain changes hands: one epoch on, and nothing has run yet
abbrev pub handed : Standing → Holder → Standing
handed r h = standing (r.epoch + 1) h 0 Settled 0

-- a free domain is granted to a holder that has seen its epoch, while epochs are left
abbrev pub take_after : Standing → Holder → ℕ → Verdict
take_after r h seen =
    if is_free r.holder && (r.epoch == seen && nat_lt seen last_epoch) then New (handed r h) else Same

-- a settled domain becomes free if its holder lets go of this epoch
abbrev pub drop_after : Standing → Holder → ℕ → Verdict
drop_after r h e =
    if same_holder r.holder h && (r.epoch == e && is_settled r.phase) then New (handed r Free) else Same

-- a command may run: the holder's next, under the present grant, while the domain is settled
abbrev pub admits : Standing → Holder → ℕ → ℕ → Bool
admits r h e n = same_holder r.holder h && (r.epoch == e && (is_settled r.phase && n == r.last + 1))

-- the next command runs: it is at work, or has already ended
abbrev pub started : Standing → Bool → ℕ → Standing
started r true x = standing r.epoch r.holder (r.last + 1) Busy 0
started r false x = standing r.epoch r.holder (r.last + 1) Settled x

-- the command at work has ended
abbrev pub settled : Standing → ℕ → Standing
settled r x = standing r.epoch r.holder r.last Settled x
