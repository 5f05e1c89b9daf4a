-- What is stored of links and domains.
use Rattle.std.specs.Prelude.{ℕ, ◌==◌, List, Option, Some, None, if◌then◌else◌}
use Rattle.smi_grant.specs.Record.{Standing}
use Rattle.smi_command.specs.declared.Link.{Link}
use Rattle.smi_rows.specs.declared.mode.Mode.{Mode}
use Rattle.smi_rows.specs.declared.mode.Mode.TheVariants.{Included, Manual, Ignored}
use Rattle.smi_rows.specs.declared.row.StoredLink.{StoredLink}

abbrev pub mode_number : Mode → ℕ
mode_number Included = 0
mode_number Manual = 1
mode_number Ignored = 2

abbrev pub mode_of : ℕ → Option Mode
mode_of n =
    if n == 0 then Some Included else (if n == 1 then Some Manual else (if n == 2 then Some Ignored else None))

abbrev pub stored : ℕ → Link → Mode → StoredLink
stored domain link mode = record { domain = domain; link = link; mode = mode }

-- what a station keeps of a domain: its record, the code gathered so far, and the links to its children
pub record KeptDomain : Type 0 where
  pub standing : Standing
  pub gathered : ℕ
  pub links : List StoredLink
