-- What a domain's record and a holder's link know of one another.
use Rattle.std.specs.Prelude.{ℕ, ◌≡◌, ◌≤◌, ◌<◌, ◌+◌, ◌⊎◌, List, length, slice_get, Some}
use Rattle.smi_grant.specs.declared.command.Command.{Command}
use Rattle.smi_grant.specs.declared.holder.Holder.{Holder}
use Rattle.smi_grant.specs.declared.record.Phase.TheVariants.{Settled}
use Rattle.smi_grant.specs.Record.{Standing}
use Rattle.smi_command.specs.declared.link.Link.{Link}
use Rattle.smi_command.specs.declared.link.Link.TheVariants.{Out, Taking, Held, Dropping}
use Rattle.smi_command.specs.Pending.{most_pending, base_of}

-- the link waits for the grant of this epoch, has it, or gives it up
abbrev pub KnowsOf : Link → ℕ → Type 0
KnowsOf (Out k) e = ⊥
KnowsOf (Taking s) e = s + 1 ≡ e
KnowsOf (Held f n p) e = f ≡ e
KnowsOf (Dropping f) e = f ≡ e

-- a holder of the domain has a link that knows of it, and one that believes to hold it does
pub record KnownGrant (r : Standing) (me : Holder) (l : Link) : Type 0 where
  pub is_known : r.holder ≡ me → KnowsOf l r.epoch
  pub is_held : (e n : ℕ) (p : List Command) → l ≡ Held e n p → (r.epoch ≡ e) × (r.holder ≡ me)

-- under a grant with these pending commands: all earlier ones have run, none was run that was not
-- issued, and if none of the pending ones has run, the last one has settled
pub record InStep (r : Standing) (number : ℕ) (pending : List Command) : Type 0 where
  pub few : length pending ≤ most_pending
  pub counted : length pending ≤ number
  pub not_before : base_of number pending ≤ r.last
  pub not_beyond : r.last ≤ number
  pub all_settled : r.last ≡ base_of number pending → r.phase ≡ Settled

-- the command of a number has run, or its grant is over
abbrev pub IsSpent : Standing → ℕ → ℕ → Type 0
IsSpent r e n = (e < r.epoch) ⊎ ((e ≡ r.epoch) × (n ≤ r.last))

-- the record shows that the command of this number of its grant has ended
abbrev pub ShowsEnd : Standing → ℕ → Type 0
ShowsEnd r n = (n < r.last) ⊎ ((n ≡ r.last) × (r.phase ≡ Settled))

-- the command of a number is pending on the link
pub record Waits (l : Link) (e n : ℕ) (c : Command) : Type 0 where
  pub newest : ℕ
  pub pending : List Command
  pub at : ℕ
  pub is : l ≡ Held e newest pending
  pub command : slice_get pending at ≡ Some c
  pub counts : n ≡ base_of newest pending + 1 + at
