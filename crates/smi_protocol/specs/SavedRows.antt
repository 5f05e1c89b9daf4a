-- The rows of a station.
use Rattle.std.specs.Prelude.{ℕ, ◌==◌, Bool, false, if◌then◌else◌, List, Option, Some, None}
use Rattle.std.specs.List.{filter_map, range_with_len}
use Rattle.smi_grant.specs.declared.Holder.TheVariants.{Operator, Domain}
use Rattle.smi_tree.specs.Hierarchy.{Hierarchy}
use Rattle.smi_tree.specs.Lookups.{domain_count, children_of}
use Rattle.smi_command.specs.declared.Link.{Link}
use Rattle.smi_command.specs.declared.Link.TheVariants.{Out, Taking, Held, Dropping}
use Rattle.smi_rows.specs.declared.Key.{Key}
use Rattle.smi_rows.specs.declared.Mode.{Mode}
use Rattle.smi_rows.specs.declared.Mode.TheVariants as mode
use Rattle.smi_rows.specs.declared.RowKind.TheVariants as kind
use Rattle.smi_rows.specs.declared.StoredLink.{StoredLink}
use Rattle.smi_rows.specs.declared.Row.{Row}
use Rattle.smi_rows.specs.declared.Row.TheVariants as row
use Rattle.smi_rows.specs.Layout.{row_bytes}
use Rattle.smi_rows.specs.Schema.{newest}
use Rattle.smi_rows.specs.Store.{Saved, saved}
use Rattle.smi_rows.specs.Stored.{stored}
use Rattle.smi_protocol.specs.Grants.{Grants}
use Rattle.smi_protocol.specs.GrantStep.{Touched, OfDomain, OfOperator}

-- the key of a row
abbrev pub key : ℕ → ℕ → ℕ → Key
key station d o = record { station = station; domain = d; operator = o }

-- nothing was ever heard of the domain
abbrev pub is_new : Link → Bool
is_new (Out k) = k == 0
is_new (Taking s) = false
is_new (Held e n p) = false
is_new (Dropping e) = false

-- such a link is not stored
abbrev pub stored_if : ℕ → Link → Mode → Option StoredLink
stored_if d l m = if is_new l then None else Some (stored d l m)

-- a domain's links to its children
abbrev pub child_links : Hierarchy → Grants → ℕ → List StoredLink
child_links h g d = filter_map (λ x. stored_if x (g.links (Domain d) x) (g.modes x)) (children_of h d)

-- an operator's links
abbrev pub operator_links : Hierarchy → Grants → ℕ → List StoredLink
operator_links h g o =
    filter_map (λ d. stored_if d (g.links (Operator o) d) mode.Included) (range_with_len 1 (domain_count h))

-- what the row of a domain says
abbrev pub domain_row : Hierarchy → Grants → ℕ → Row
domain_row h g d = row.Domain (record { standing = g.records d; gathered = g.gathered d; links = child_links h g d })

-- what the row of an operator says
abbrev pub operator_row : Hierarchy → Grants → ℕ → Row
operator_row h g o = row.Operator (operator_links h g o)

-- the row that a start saves
abbrev pub saved_boot : ℕ → ℕ → Saved
saved_boot number boot = saved (key number 0 0) (row_bytes (newest kind.Boot) (row.Boot boot))

-- the row that a step saves
abbrev pub saved_row : Hierarchy → ℕ → Grants → Touched → Saved
saved_row h number g (OfDomain d) = saved (key number d 0) (row_bytes (newest kind.Domain) (domain_row h g d))
saved_row h number g (OfOperator o) = saved (key number 0 o) (row_bytes (newest kind.Operator) (operator_row h g o))
