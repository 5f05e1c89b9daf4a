-- What the keeper of one domain on its own makes of a datagram.
use Rattle.std.specs.Prelude.{ℕ, ◌&&◌, ◌==◌, Bool, true, false, if◌then◌else◌, List, Result, Ok, Err}
use Rattle.smi_grant.specs.declared.Holder.{Holder}
use Rattle.smi_grant.specs.declared.Holder.TheVariants.{Free, Operator, Domain}
use Rattle.smi_grant.specs.declared.Command.{Command}
use Rattle.smi_grant.specs.declared.Command.TheVariants.{Do, Include, Exclude, Manual, Ignore}
use Rattle.smi_grant.specs.declared.Verdict.{Verdict}
use Rattle.smi_grant.specs.declared.Verdict.TheVariants.{New, Same}
use Rattle.smi_grant.specs.Record.{Standing}
use Rattle.smi_grant.specs.Keeper.{take_after, drop_after, admits, started}
use Rattle.smi_message.specs.declared.Bad.{Bad}
use Rattle.smi_message.specs.declared.Body.{Body}
use Rattle.smi_message.specs.declared.Body.TheVariants as body
use Rattle.smi_message.specs.declared.DatagramRefusal.{DatagramRefusal}
use Rattle.smi_message.specs.declared.DatagramRefusal.TheVariants as refusal
use Rattle.smi_message.specs.Message.{Message, tell}
use Rattle.smi_message.specs.Spelling.{spelling, reading}

abbrev pub is_operator : Holder → Bool
is_operator Free = false
is_operator (Operator n) = true
is_operator (Domain n) = false

-- the record that a verdict leaves
abbrev pub after : Verdict → Standing → Standing
after (New s) r = s
after Same r = r

-- each command ends at once: an action is done, and a domain on its own has no target below it
abbrev pub outcome_of : Command → ℕ
outcome_of (Do a) = 0
outcome_of (Include t) = 2
outcome_of (Exclude t) = 2
outcome_of (Manual t) = 2
outcome_of (Ignore t) = 2

abbrev pub run_after : Standing → Holder → ℕ → ℕ → Command → Standing
run_after r h e n c = if admits r h e n then started r false (outcome_of c) else r

-- the answer, if it is the domain, and an operator, of whom a datagram speaks
abbrev pub where_known : ℕ → Holder → Standing → Result Standing DatagramRefusal
where_known d h r = if d == 1 && is_operator h then Ok r else Err refusal.Unknown

-- the record after what a datagram says
unfoldable pub said_after : Standing → Body → Result Standing DatagramRefusal
said_after r (body.Ask d) = if d == 1 then Ok r else Err refusal.Unknown
said_after r (body.Take d h seen) = where_known d h (after (take_after r h seen) r)
said_after r (body.Drop d h e) = where_known d h (after (drop_after r h e) r)
said_after r (body.Run d h e n c) = where_known d h (run_after r h e n c)
said_after r (body.Tell d s) = Err refusal.Unknown
said_after r (body.Watch x e) = Err refusal.Unknown
said_after r (body.State x e v s) = Err refusal.Unknown
said_after r (body.Unwatch x e) = Err refusal.Unknown

-- the record after a datagram: one of tree 17, for station 1
unfoldable pub heard_after : Standing → Message → Result Standing DatagramRefusal
heard_after r m =
    if m.tree == 17
    then (if m.to == 1 then said_after r m.body else Err refusal.OtherStation)
    else Err refusal.OtherTree

abbrev pub answer_heard : ℕ → Result Standing DatagramRefusal → Result (Standing × List ℕ) DatagramRefusal
answer_heard to (Ok s) = Ok (s, spelling (tell 1 to 17 1 s))
answer_heard to (Err c) = Err c

abbrev pub answer_read : Standing → Result Message Bad → Result (Standing × List ℕ) DatagramRefusal
answer_read r (Err b) = Err (refusal.Bad b)
answer_read r (Ok m) = answer_heard m.from (heard_after r m)

-- the record after 44 bytes and the bytes that tell it, or why they are refused
unfoldable pub answer_to : Standing → List ℕ → Result (Standing × List ℕ) DatagramRefusal
answer_to r bytes = answer_read r (reading bytes)
