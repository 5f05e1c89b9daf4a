-- What rows say, put into the grants.
use Rattle.std.specs.Prelude.{ℕ, ◌&&◌, if◌then◌else◌, List, replicate}
use Rattle.smi_grant.specs.declared.Holder.TheVariants.{Operator, Domain}
use Rattle.smi_grant.specs.Holder.{same_holder}
use Rattle.smi_command.specs.declared.Link.{Link}
use Rattle.smi_command.specs.declared.Link.TheVariants.{Out}
use Rattle.smi_tree.specs.Hierarchy.{Hierarchy}
use Rattle.smi_tree.specs.Lookups.{domain_count, operator_station_of}
use Rattle.smi_base.specs.Between.{is_between}
use Rattle.smi_tree.specs.Roles.{is_number, is_parent}
use Rattle.smi_rows.specs.declared.StoredLink.{StoredLink}
use Rattle.smi_rows.specs.Stored.{KeptDomain}
use Rattle.smi_protocol.specs.Grants.{Grants, put}
use Rattle.smi_protocol.specs.Loading.{stored_at}
use Rattle.smi_station_grants.specs.Children.{is_among}

-- of a domain what its row says: its record, the code gathered, and the links and modes of its children
abbrev pub with_domain : Hierarchy → Grants → ℕ → KeptDomain → Grants
with_domain h g d row = record g {
  records = put g.records d row.standing;
  gathered = put g.gathered d row.gathered;
  links = λ who x. if is_parent h x d && same_holder who (Domain d) then (stored_at row.links x).link
      else g.links who x;
  modes = λ x. if is_parent h x d then (stored_at row.links x).mode else g.modes x;
}

-- of an operator the links to the domains of the tree that its row says
abbrev pub with_operator : Hierarchy → Grants → ℕ → List StoredLink → Grants
with_operator h g o links = record g {
  links = λ who x. if is_between 1 (domain_count h) x && same_holder who (Operator o) then (stored_at links x).link
      else g.links who x;
}

-- Child by child, and domain by domain.

abbrev pub with_children : Grants → ℕ → List StoredLink → List ℕ → Grants
with_children g d links xs = record g {
  links = λ who x. if is_among xs x && same_holder who (Domain d) then (stored_at links x).link else g.links who x;
  modes = λ x. if is_among xs x then (stored_at links x).mode else g.modes x;
}

abbrev pub with_links_to : ℕ → Grants → ℕ → List StoredLink → Grants
with_links_to most g o links = record g {
  links = λ who x. if is_between 1 most x && same_holder who (Operator o) then (stored_at links x).link
      else g.links who x;
}

-- At the beginning nobody was heard of: the station's own operators have a link to each domain, others none.
abbrev pub first_links : Hierarchy → ℕ → ℕ → List Link
first_links h number o = if is_number (operator_station_of h o) number then replicate (domain_count h) (Out 0)
    else replicate 0 (Out 0)
