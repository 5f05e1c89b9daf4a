-- Which records a keeper may have.
use Rattle.std.specs.Prelude.{ℕ, ◌≡◌, ◌≤◌, ◌%◌, ◌&&◌, ◌||◌, ◌==◌, nat_le, Bool, true, false, if◌then◌else◌}
use Rattle.std.specs.Prelude.{Option, Some, None}
use Rattle.smi_grant.specs.declared.command.TheConstants.{LAST_NUMBER}
use Rattle.smi_grant.specs.declared.record.TheConstants.{LAST_EPOCH}
use Rattle.smi_grant.specs.declared.holder.Holder.{Holder}
use Rattle.smi_grant.specs.declared.holder.Holder.TheVariants.{Free}
use Rattle.smi_grant.specs.declared.record.Phase.{Phase}
use Rattle.smi_grant.specs.declared.record.Phase.TheVariants.{Settled, Busy}
use Rattle.smi_grant.specs.Holder.{is_free, odd_of}

-- what the record of a domain says
pub record Standing : Type 0 where
  pub epoch : ℕ
  pub holder : Holder
  pub last : ℕ
  pub phase : Phase
  pub outcome : ℕ

abbrev pub standing : ℕ → Holder → ℕ → Phase → ℕ → Standing
standing e h n p x = record { epoch = e; holder = h; last = n; phase = p; outcome = x }

abbrev pub last_epoch : ℕ
last_epoch = LAST_EPOCH

abbrev pub last_number : ℕ
last_number = LAST_NUMBER

abbrev pub is_settled : Phase → Bool
is_settled Settled = true
is_settled Busy = false

abbrev pub phase_number : Phase → ℕ
phase_number Settled = 0
phase_number Busy = 1

abbrev pub phase_of : ℕ → Option Phase
phase_of n = if n == 0 then Some Settled else (if n == 1 then Some Busy else None)

-- how a command may end: 0 to 7 or 9
abbrev pub is_outcome : ℕ → Bool
is_outcome x = nat_le x 7 || x == 9

-- a free domain has run nothing; if nothing has run it is settled with outcome 0; busy means
-- outcome 0
abbrev pub is_coherent : Standing → Bool
is_coherent r =
    (if is_free r.holder then r.last == 0 else true)
    && ((if r.last == 0 then is_settled r.phase && r.outcome == 0 else true)
    && (if is_settled r.phase then true else r.outcome == 0))

-- a lawful record: epochs and numbers within their limits, odd epochs exactly when it is held
pub record IsRecord (r : Standing) : Type 0 where
  pub epoch : r.epoch ≤ last_epoch
  pub last : r.last ≤ last_number
  pub parity : r.epoch % 2 ≡ odd_of r.holder
  pub coherent : is_coherent r ≡ true

-- the same as a test
abbrev pub is_record : Standing → Bool
is_record r =
    nat_le r.epoch last_epoch && (nat_le r.last last_number && (r.epoch % 2 == odd_of r.holder && is_coherent r))

abbrev pub checked : Standing → Option Standing
checked r = if is_record r then Some r else None

abbrev pub fresh : Standing
fresh = record { epoch = 0; holder = Free; last = 0; phase = Settled; outcome = 0 }
