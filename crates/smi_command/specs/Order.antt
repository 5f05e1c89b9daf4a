-- What a link makes of its holder's orders.
use Rattle.std.specs.Prelude.{ℕ, ◌+◌, nat_le, if◌then◌else◌, [], ◌∷◌, ◌++◌, length, Result, Ok, Err}
use Rattle.smi_grant.specs.declared.command.Command.{Command}
use Rattle.smi_grant.specs.Record.{last_number}
use Rattle.smi_command.specs.declared.link.Link.{Link}
use Rattle.smi_command.specs.declared.link.Link.TheVariants.{Out, Taking, Held, Dropping}
use Rattle.smi_command.specs.declared.order.Refusal.{Refusal}
use Rattle.smi_command.specs.declared.order.Refusal.TheVariants.{NotHeld, CommandPending, NotOut, NumbersSpent}
use Rattle.smi_command.specs.Pending.{most_pending}

abbrev pub refusal_code : Refusal → ℕ
refusal_code NotHeld = 21
refusal_code CommandPending = 22
refusal_code NotOut = 23
refusal_code NumbersSpent = 24

abbrev pub refused : Refusal → Result Link ℕ
refused why = Err (refusal_code why)

-- a take begins if the link is out
abbrev pub take_begun : Link → Result Link ℕ
take_begun (Out k) = Ok (Taking k)
take_begun (Taking s) = refused NotOut
take_begun (Held e n p) = refused NotOut
take_begun (Dropping e) = refused NotOut

-- a command is issued under the next number of a grant, while there is room and a number is left
abbrev pub command_issued : Link → Command → Result Link ℕ
command_issued (Out k) c = refused NotHeld
command_issued (Taking s) c = refused NotHeld
command_issued (Held e n p) c =
    if nat_le most_pending (length p) then refused CommandPending
    else (if nat_le last_number n then refused NumbersSpent
    else Ok (Held e (n + 1) (p ++ c ∷ [])))
command_issued (Dropping e) c = refused NotHeld

-- a drop begins if nothing is pending
abbrev pub drop_begun : Link → Result Link ℕ
drop_begun (Out k) = refused NotHeld
drop_begun (Taking s) = refused NotHeld
drop_begun (Held e n []) = Ok (Dropping e)
drop_begun (Held e n (c ∷ p)) = refused CommandPending
drop_begun (Dropping e) = refused NotHeld
