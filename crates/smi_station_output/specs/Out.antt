-- What a step hands out, one after the other, in places of its own.
use Rattle.std.specs.Prelude.{ℕ, ◌≡◌, ◌≤◌, ◌&&◌, nat_le, nat_lt, Bool, List, [], ◌∷◌, length, ◌++◌, if◌then◌else◌}
use Rattle.std.specs.Option.{option_or}
use Rattle.smi_station_output.specs.declared.entries.TheConstants.{MOST_ENTRIES}
use Rattle.smi_station_output.specs.declared.step_out.TheConstants.{MOST_ANSWERS}
use Rattle.smi_grant.specs.Command as command
use Rattle.smi_grant.specs.Record.{last_epoch, last_number}
use Rattle.smi_command.specs.declared.Due.{Due}
use Rattle.smi_command.specs.declared.Due.TheVariants.{Take, Drop, Run}
use Rattle.smi_message.specs.Message.{Message, is_grant_epoch}
use Rattle.smi_base.specs.Between.{is_between}
use Rattle.smi_protocol.specs.Step.{Out}
use Rattle.smi_protocol.specs.Ticking.{most_sent}
use Rattle.smi_protocol.specs.Watching.{Notice}
use Rattle.smi_protocol.specs.declared.Answer.{Answer}
use Rattle.smi_protocol.specs.declared.entry.Entry.{Entry}

-- a step is answered at most so often: eight commands of one operator, or as many questions as operators
abbrev pub most_answers : ℕ
most_answers = MOST_ANSWERS

-- a step leaves at most so much by its save: that a command ran, what became of its target, and that it has ended
abbrev pub most_entries : ℕ
most_entries = MOST_ENTRIES

-- a number of places, of which the first hold something
pub record IsStored {X : Type 0} (most : ℕ) (places : List X) (count : ℕ) : Type 0 where
  pub all : length places ≡ most
  pub within : count ≤ most

-- one more datagram, if there is room for it
abbrev pub sent_one : List Message → Message → List Message
sent_one before m = if nat_lt (length before) most_sent then before ++ m ∷ [] else before

-- and one after the other
abbrev pub sent_after : List Message → List Message → List Message
sent_after before [] = before
sent_after before (m ∷ more) = sent_after (sent_one before m) more

-- answers, one after the other
abbrev pub answered_after : List Answer → List Answer → List Answer
answered_after before [] = before
answered_after before (a ∷ more) = answered_after (before ++ a ∷ []) more

-- what a save leaves takes the place of what there was, if it leaves anything
abbrev pub kept_after : List Entry → List Entry → List Entry
kept_after [] before = before
kept_after (e ∷ more) before = e ∷ more

-- a notice is handed out: what it sends, whom it answers, and what it shows
abbrev pub with_notice : Out → Notice → Out
with_notice out n = record {
  datagrams = sent_after out.datagrams n.sends;
  answers = answered_after out.answers n.answers;
  issued = out.issued;
  shown = option_or n.showed out.shown;
  kept = out.kept;
  passed = out.passed;
}

-- what is due can be said in a datagram
abbrev pub is_due : Due → Bool
is_due (Take s) = nat_le s last_epoch
is_due (Drop e) = is_grant_epoch e
is_due (Run e n c) = is_grant_epoch e && (is_between 1 last_number n && command.is_in_range c)
