-- One holder's link and the keeper of the domain, with a network that loses, repeats and reorders,
-- and with strangers who may ask for anything.
use Rattle.std.specs.Prelude.{ℕ, ◌≡◌, ◌⊎◌, ◌+◌, ◌==◌, ◌&&◌, nat_le, not, Bool, true, if◌then◌else◌, List, [], ◌∷◌}
use Rattle.std.specs.Prelude.{slice_get, Option, Some, None, Result, Ok, Err}
use Rattle.smi_grant.specs.declared.command.Command.{Command}
use Rattle.smi_grant.specs.declared.holder.Holder.{Holder}
use Rattle.smi_grant.specs.declared.keeper.Verdict.{Verdict}
use Rattle.smi_grant.specs.declared.keeper.Verdict.TheVariants.{New, Same}
use Rattle.smi_grant.specs.Holder.{is_free, same_holder}
use Rattle.smi_grant.specs.Keeper.{take_after, drop_after, admits, started, settled}
use Rattle.smi_grant.specs.Record.{Standing, is_settled, fresh, last_number}
use Rattle.smi_command.specs.declared.link.Link.{Link}
use Rattle.smi_command.specs.declared.link.Link.TheVariants.{Out, Taking, Held, Dropping}
use Rattle.smi_command.specs.declared.link.Due.{Due}
use Rattle.smi_command.specs.declared.link.Due.TheVariants.{Take, Drop, Run}
use Rattle.smi_command.specs.Hearing.{told_link}
use Rattle.smi_command.specs.Link.{known, due_of}
use Rattle.smi_command.specs.Order.{take_begun, command_issued, drop_begun}

-- a datagram: a holder asks for what its link is due, or the keeper tells its record
pub data Datagram : Type 0 where
  Asks : (by : Holder) → (what : Due) → Datagram
  Tells : (what : Standing) → Datagram

-- a command under the grant of a holder
pub record Job : Type 0 where
  pub holder : Holder
  pub epoch : ℕ
  pub number : ℕ
  pub command : Command

abbrev pub job : Holder → ℕ → ℕ → Command → Job
job h e n c = record { holder = h; epoch = e; number = n; command = c }

-- the record, the link, every datagram that was ever sent, the commands that the link's holder
-- issued and those that ran, of any holder. All lists have the newest first
pub record Pair : Type 0 where
  pub kept : Standing
  pub link : Link
  pub sent : List Datagram
  pub issued : List Job
  pub ran : List Job

abbrev pub opening : Pair
opening = record { kept = fresh; link = Out 0; sent = []; issued = []; ran = [] }

-- The keeper.

abbrev pub kept_after : Standing → Verdict → Standing
kept_after r (New s) = s
kept_after r Same = r

-- what a holder's asking makes of the record, if a command that may run stays busy or ends with
-- this outcome
abbrev pub asked_record : Standing → Holder → Due → Bool → ℕ → Standing
asked_record r h (Take s) busy x = kept_after r (take_after r h s)
asked_record r h (Drop e) busy x = kept_after r (drop_after r h e)
asked_record r h (Run e n c) busy x = if admits r h e n then started r busy x else r

-- the commands that ran, with the one that this lets in
abbrev pub asked_ran : Standing → Holder → Due → List Job → List Job
asked_ran r h (Take s) ran = ran
asked_ran r h (Drop e) ran = ran
asked_ran r h (Run e n c) ran = if admits r h e n then job h e n c ∷ ran else ran

-- the keeper answers each question with its record
abbrev pub asked : Pair → Holder → Due → Bool → ℕ → Pair
asked p h d busy x = record {
  kept = asked_record p.kept h d busy x;
  link = p.link;
  sent = Tells (asked_record p.kept h d busy x) ∷ p.sent;
  issued = p.issued;
  ran = asked_ran p.kept h d p.ran;
}

-- a command at work ends, if one is
abbrev pub settled_record : Standing → ℕ → Standing
settled_record r x = if is_settled r.phase then r else settled r x

-- The holder.

abbrev pub relinked : Pair → Result Link ℕ → Pair
relinked p (Ok l) = record p { link = l }
relinked p (Err refusal) = p

abbrev pub newest_number : Link → ℕ
newest_number (Out k) = 0
newest_number (Taking s) = 0
newest_number (Held e n p) = n
newest_number (Dropping e) = 0

abbrev pub commanded : Holder → Pair → Command → Result Link ℕ → Pair
commanded me p c (Ok l) = record p { link = l; issued = job me (known l) (newest_number l) c ∷ p.issued }
commanded me p c (Err refusal) = p

abbrev pub sent_due : Holder → Pair → Option Due → Pair
sent_due me p (Some d) = record p { sent = Asks me d ∷ p.sent }
sent_due me p None = p

abbrev pub delivered : Holder → Pair → Option Datagram → Bool → ℕ → Pair
delivered me p (Some (Asks h d)) busy x = asked p h d busy x
delivered me p (Some (Tells q)) busy x = record p { link = told_link p.link me q }
delivered me p None busy x = p

-- What may happen.

-- the number of a command is one that a grant can have
abbrev pub has_number : Due → Bool
has_number (Take s) = true
has_number (Drop e) = true
has_number (Run e n c) = nat_le n last_number

-- somebody else asks
abbrev pub is_stranger : Holder → Holder → Due → Bool
is_stranger me h d = not (is_free h) && (not (same_holder h me) && has_number d)

pub data Event : Type 0 where
  -- the holder orders
  OrderTake : Event
  OrderCommand : (command : Command) → Event
  OrderDrop : Event
  -- what the link is due at this place is sent
  SendDue : (place : ℕ) → Event
  -- the datagram that was sent this many before the newest reaches its receiver
  Deliver : (before : ℕ) → (busy : Bool) → (outcome : ℕ) → Event
  -- the command at work ends
  Settle : (outcome : ℕ) → Event
  -- another holder's datagram reaches the keeper
  Stranger : (who : Holder) → (what : Due) → (busy : Bool) → (outcome : ℕ) → Event
  -- somebody asks for the record
  Ask : Event

abbrev pub after : Holder → Pair → Event → Pair
after me p OrderTake = relinked p (take_begun p.link)
after me p (OrderCommand c) = commanded me p c (command_issued p.link c)
after me p OrderDrop = relinked p (drop_begun p.link)
after me p (SendDue i) = sent_due me p (due_of p.link i)
after me p (Deliver i busy x) = delivered me p (slice_get p.sent i) busy x
after me p (Settle x) = record p { kept = settled_record p.kept x }
after me p (Stranger h d busy x) = if is_stranger me h d then asked p h d busy x else p
after me p Ask = record p { sent = Tells p.kept ∷ p.sent }

-- where a list of events leads, the newest first
abbrev pub reached : Holder → List Event → Pair
reached me [] = opening
reached me (e ∷ earlier) = after me (reached me earlier) e

-- What is read off the lists.

abbrev pub Among : {X : Type 0} → X → List X → Type 0
Among x [] = ⊥
Among x (y ∷ ys) = (x ≡ y) ⊎ Among x ys

-- how many commands ran under the grant of an epoch
abbrev pub runs_under : ℕ → List Job → ℕ
runs_under e [] = 0
runs_under e (j ∷ ran) = if j.epoch == e then runs_under e ran + 1 else runs_under e ran

-- the runs of each grant have the numbers 1, 2 and so on
abbrev pub RunsInOrder : List Job → Type 0
RunsInOrder [] = Unit {0}
RunsInOrder (j ∷ ran) = (j.number ≡ runs_under j.epoch ran + 1) × RunsInOrder ran

-- the commands that were issued under a number of the grant of an epoch
abbrev pub issued_under : ℕ → ℕ → List Job → List Command
issued_under e n [] = []
issued_under e n (j ∷ issued) = if j.epoch == e && j.number == n then j.command ∷ issued_under e n issued
    else issued_under e n issued

-- each run of this holder is of the one command that was issued under its number
abbrev pub RanAsIssued : Holder → List Job → List Job → Type 0
RanAsIssued me issued [] = Unit {0}
RanAsIssued me issued (j ∷ ran) = (j.holder ≡ me → issued_under j.epoch j.number issued ≡ j.command ∷ [])
    × RanAsIssued me issued ran
