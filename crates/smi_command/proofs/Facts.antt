-- What holds at every moment of a domain's record, one holder's link, and every datagram that was
-- ever sent. The facts speak of one holder `h` alone, so they hold for each of many.
use Rattle.std.proofs.Common.{ℕ, ◌≡◌, ◌≤◌, ◌<◌, ◌+◌, ◌%◌, true, List, ◌⊎◌}
use Rattle.smi_grant.specs.declared.command.Command.{Command}
use Rattle.smi_grant.specs.declared.holder.Holder.{Holder}
use Rattle.smi_grant.specs.declared.record.Phase.TheVariants.{Settled}
use Rattle.smi_grant.specs.Holder.{is_free, odd_of}
use Rattle.smi_grant.specs.Record.{Standing, IsRecord, last_epoch, last_number}
use Rattle.smi_command.specs.declared.link.Link.{Link}
use Rattle.smi_command.specs.declared.link.Link.TheVariants.{Out, Taking, Held, Dropping}
use Rattle.smi_command.specs.declared.link.Due.{Due}
use Rattle.smi_command.specs.declared.link.Due.TheVariants.{Take, Drop, Run}
use Rattle.smi_command.specs.KnownGrant.{InStep, IsSpent, Waits}
use Rattle.smi_command.specs.Link.{known}
use Rattle.smi_command.specs.OneLink.{Datagram, Asks, Tells, Among}

-- how far a link has come: dropping a grant is after having it. It never falls
abbrev pub place : Link → ℕ
place (Out k) = k + k
place (Taking s) = s + s
place (Held e n p) = e + e
place (Dropping e) = e + e + 1

-- how a holder's link relates to the record
abbrev pub LinkOk : Standing → Holder → Link → Type 0
LinkOk r h (Out k) = (k ≤ r.epoch) × (r.holder ≡ h → ⊥)
LinkOk r h (Taking s) = (s ≤ r.epoch) × (r.holder ≡ h → (r.epoch ≡ s + 1) × (r.last ≡ 0))
LinkOk r h (Held e n p) = (r.epoch ≡ e) × (r.holder ≡ h) × InStep r n p × (n ≤ last_number)
LinkOk r h (Dropping e) = (e ≤ r.epoch) × (r.holder ≡ h → (r.epoch ≡ e) × (r.phase ≡ Settled))

-- the keeper had the record q no later than r
pub record NoLater (q r : Standing) : Type 0 where
  pub not_ahead : q.epoch ≤ r.epoch
  pub same_one : q.epoch ≡ r.epoch → q.holder ≡ r.holder
  pub behind : q.epoch ≡ r.epoch → q.last ≤ r.last
  pub is_done : q.epoch ≡ r.epoch → q.last ≡ r.last → q.phase ≡ Settled → r.phase ≡ Settled
  pub parity : q.epoch % 2 ≡ odd_of q.holder

-- a record that was told: an earlier one, and the link has heard of its holder's grants that are over
pub record TellOk (r : Standing) (h : Holder) (l : Link) (q : Standing) : Type 0 where
  pub earlier : NoLater q r
  pub over : q.holder ≡ h → q.epoch < r.epoch → q.epoch ≤ known l

pub record TakeOk (r : Standing) (l : Link) (seen : ℕ) : Type 0 where
  pub not_ahead : seen ≤ r.epoch
  pub is_open : seen ≡ r.epoch → is_free r.holder ≡ true → seen < last_epoch → l ≡ Taking seen

pub record RunOk (r : Standing) (l : Link) (e n : ℕ) (c : Command) : Type 0 where
  pub within : n ≤ last_number
  pub begun : e ≤ known l
  pub spent : IsSpent r e n ⊎ Waits l e n c

-- what this holder asked
abbrev pub AskOk : Standing → Link → Due → Type 0
AskOk r l (Take s) = TakeOk r l s
AskOk r l (Drop e) = e + e + 1 ≤ place l
AskOk r l (Run e n c) = RunOk r l e n c

-- a datagram that was sent
abbrev pub SentOk : Standing → Holder → Link → Datagram → Type 0
SentOk r h l (Asks g d) = g ≡ h → AskOk r l d
SentOk r h l (Tells q) = TellOk r h l q

-- everything about one holder
pub record Fits (r : Standing) (h : Holder) (l : Link) (sent : List Datagram) : Type 0 where
  pub lawful : IsRecord r
  pub link : LinkOk r h l
  pub all_sent : (m : Datagram) → Among m sent → SentOk r h l m
