-- How far a record has come: by its epoch, then its last command, and done after busy.
use Rattle.std.specs.Prelude.{ℕ, ◌≡◌, ◌<◌, ◌+◌, ◌*◌, ◌⊎◌}
use Rattle.smi_grant.specs.declared.record.Phase.{Phase}
use Rattle.smi_grant.specs.declared.record.Phase.TheVariants.{Settled, Busy}
use Rattle.smi_grant.specs.Record.{Standing}

-- the place of a command in its grant: busy with it, and then settled
abbrev pub place_of : Phase → ℕ → ℕ
place_of Settled n = 2 * n + 1
place_of Busy n = 2 * n

pub record Rank : Type 0 where
  pub epoch : ℕ
  pub place : ℕ

abbrev pub rank : Standing → Rank
rank r = record { epoch = r.epoch; place = place_of r.phase r.last }

-- the epoch comes first
abbrev pub IsBelow : Rank → Rank → Type 0
IsBelow a b = (a.epoch < b.epoch) ⊎ ((a.epoch ≡ b.epoch) × (a.place < b.place))

abbrev pub RanksBelow : Standing → Standing → Type 0
RanksBelow r s = IsBelow (rank r) (rank s)
