-- What a station keeps of grants. A restart leaves it as it is, but for the boot.
use Rattle.std.specs.Prelude.{ℕ, ◌==◌, ◌&&◌, if◌then◌else◌}
use Rattle.smi_grant.specs.declared.Holder.{Holder}
use Rattle.smi_grant.specs.Holder.{same_holder}
use Rattle.smi_grant.specs.Record.{Standing, fresh}
use Rattle.smi_command.specs.declared.Link.{Link}
use Rattle.smi_command.specs.declared.Link.TheVariants.{Out}
use Rattle.smi_rows.specs.declared.Mode.{Mode}
use Rattle.smi_rows.specs.declared.Mode.TheVariants.{Included}

-- Tables by number: the boot; of its domains the records and the codes gathered while they are busy; the
-- links of its operators and domains, by holder and domain; and in which modes its domains hold their children.
pub record Grants : Type 0 where
  pub boot : ℕ
  pub records : ℕ → Standing
  pub gathered : ℕ → ℕ
  pub links : Holder → ℕ → Link
  pub modes : ℕ → Mode

-- a station that was never started
abbrev pub no_grants : Grants
no_grants = record { boot = 0; records = λ d. fresh; gathered = λ d. 0; links = λ who d. Out 0; modes = λ d. Included }

-- a table with another value at one number
abbrev pub put : {X : Type 0} → (ℕ → X) → ℕ → X → ℕ → X
put table number value other = if other == number then value else table other

-- another record of a domain
abbrev pub with_record : Grants → ℕ → Standing → Grants
with_record g d r = record g { records = put g.records d r }

-- another gathered code of a domain
abbrev pub with_gathered : Grants → ℕ → ℕ → Grants
with_gathered g d code = record g { gathered = put g.gathered d code }

-- a table of links with another link of one holder to one domain
abbrev pub put_link : (Holder → ℕ → Link) → Holder → ℕ → Link → Holder → ℕ → Link
put_link links who d l other x = if x == d && same_holder other who then l else links other x

-- another link of a holder to a domain
abbrev pub with_link : Grants → Holder → ℕ → Link → Grants
with_link g who d l = record g { links = put_link g.links who d l }
