-- The bytes of rows. All numbers are big-endian.
use Rattle.std.specs.Prelude.{ℕ, ◌^◌, ◌<◌, List, [], ◌∷◌, ◌++◌, length}
use Rattle.std.specs.Int.{w16, w32, w64, to_be_bytes}
use Rattle.smi_grant.specs.declared.Command.{Command}
use Rattle.smi_grant.specs.Command.{verb_of, argument_of}
use Rattle.smi_grant.specs.Holder.{kind_of, number_of}
use Rattle.smi_grant.specs.Record.{Standing, phase_number}
use Rattle.smi_command.specs.declared.Link.{Link}
use Rattle.smi_command.specs.declared.Link.TheVariants.{Out, Taking, Held, Dropping}
use Rattle.smi_rows.specs.declared.mode.Mode.{Mode}
use Rattle.smi_rows.specs.declared.row.StoredLink.{StoredLink}
use Rattle.smi_rows.specs.declared.row.Row.{Row}
use Rattle.smi_rows.specs.declared.row.Row.TheVariants as row
use Rattle.smi_rows.specs.Stored.{KeptDomain, mode_number}

-- a command: its verb and its argument
abbrev pub command_bytes : Command → List ℕ
command_bytes c = to_be_bytes w16 (verb_of c) ++ to_be_bytes w16 (argument_of c)

abbrev pub commands_bytes : List Command → List ℕ
commands_bytes [] = []
commands_bytes (c ∷ more) = command_bytes c ++ commands_bytes more

-- the sixteen bytes before a link's command: domain, form, mode, epoch, number
abbrev pub front_bytes : ℕ → ℕ → Mode → ℕ → ℕ → List ℕ
front_bytes d form m e n =
    to_be_bytes w16 d ++ (form ∷ mode_number m ∷ []) ++ to_be_bytes w64 e ++ to_be_bytes w32 n

-- the four bytes of a command that is not there
abbrev pub no_command : List ℕ
no_command = 0 ∷ 0 ∷ 0 ∷ 0 ∷ []

-- the link to a domain, form by form: out, taking, held, held with a command, dropping, and held
-- with several commands, the oldest first and then the number of the others
abbrev pub grant_bytes : ℕ → Mode → Link → List ℕ
grant_bytes d m (Out k) = front_bytes d 0 m k 0 ++ no_command
grant_bytes d m (Taking s) = front_bytes d 1 m s 0 ++ no_command
grant_bytes d m (Held e n []) = front_bytes d 2 m e n ++ no_command
grant_bytes d m (Held e n (c ∷ [])) = front_bytes d 3 m e n ++ command_bytes c
grant_bytes d m (Held e n (c ∷ next ∷ more)) =
    front_bytes d 5 m e n ++ command_bytes c ++ to_be_bytes w16 (length (next ∷ more)) ++ commands_bytes (next ∷ more)
grant_bytes d m (Dropping e) = front_bytes d 4 m e 0 ++ no_command

abbrev pub link_bytes : StoredLink → List ℕ
link_bytes x = grant_bytes x.domain x.mode x.link

abbrev pub links_bytes : List StoredLink → List ℕ
links_bytes [] = []
links_bytes (x ∷ more) = link_bytes x ++ links_bytes more

-- the rows, in a schema of this number

abbrev pub boot_bytes : ℕ → ℕ → List ℕ
boot_bytes schema boot = (schema ∷ 0 ∷ 0 ∷ 0 ∷ []) ++ to_be_bytes w32 boot

-- who holds a domain, and since when
abbrev pub holder_bytes : ℕ → Standing → List ℕ
holder_bytes schema r =
    (schema ∷ kind_of r.holder ∷ []) ++ to_be_bytes w16 (number_of r.holder) ++ to_be_bytes w64 r.epoch

-- how far its commands have come
abbrev pub work_bytes : Standing → ℕ → List ℕ
work_bytes r gathered =
    to_be_bytes w32 r.last ++ (phase_number r.phase ∷ 0 ∷ []) ++ to_be_bytes w16 r.outcome ++ to_be_bytes w16 gathered

abbrev pub domain_bytes : ℕ → KeptDomain → List ℕ
domain_bytes schema d =
    holder_bytes schema d.standing ++ work_bytes d.standing d.gathered ++ to_be_bytes w16 (length d.links)
    ++ links_bytes d.links

abbrev pub operator_bytes : ℕ → List StoredLink → List ℕ
operator_bytes schema links = (schema ∷ 0 ∷ []) ++ to_be_bytes w16 (length links) ++ links_bytes links

abbrev pub row_bytes : ℕ → Row → List ℕ
row_bytes schema (row.Boot boot) = boot_bytes schema boot
row_bytes schema (row.Domain d) = domain_bytes schema d
row_bytes schema (row.Operator links) = operator_bytes schema links

-- so few links that their number has a place
abbrev pub HasFewLinks : Row → Type 0
HasFewLinks (row.Boot boot) = Unit {0}
HasFewLinks (row.Domain d) = length d.links < 2 ^ 16
HasFewLinks (row.Operator links) = length links < 2 ^ 16
