-- What a station keeps of grants, in tables by number.
use Rattle.std.specs.Prelude.{ℕ, ◌≡◌, if◌then◌else◌, true, List, [], length}
use Rattle.std.specs.Prelude.{not, count_by}
use Rattle.smi_grant.specs.declared.Holder.{Holder}
use Rattle.smi_grant.specs.declared.Holder.TheVariants.{Free, Operator, Domain}
use Rattle.smi_grant.specs.Record.{Standing, fresh}
use Rattle.smi_command.specs.declared.Link.{Link}
use Rattle.smi_command.specs.declared.Link.TheVariants.{Out}
use Rattle.smi_tree.specs.Hierarchy.{Hierarchy}
use Rattle.smi_tree.specs.Lawful.{IsTree, IsBetween}
use Rattle.smi_tree.specs.Lookups.{station_count, domain_count, operator_count, operator_station_of}
use Rattle.smi_tree.specs.Roles.{is_number, is_parent}
use Rattle.smi_command.specs.Link.{is_out}
use Rattle.smi_rows.specs.declared.Mode.{Mode}
use Rattle.smi_rows.specs.declared.Mode.TheVariants.{Included}
use Rattle.smi_protocol.specs.Grants.{Grants}
use Rattle.smi_station_grants.specs.Entries.{entry_or}

-- Records, gathered codes, modes and the links of parents to their children are by domain, the links of
-- operators by operator and domain.
pub record Kept : Type 0 where
  pub tree : Hierarchy
  pub number : ℕ
  pub boot : ℕ
  pub records : List Standing
  pub gathered : List ℕ
  pub modes : List Mode
  pub child_links : List Link
  pub operator_links : List (List Link)

-- 1 where somebody holds by the link, or asks for the domain
abbrev pub use_of : Link → ℕ
use_of link = if not (is_out link) then 1 else 0

-- how many links are not out
abbrev pub count_in_use : List Link → ℕ
count_in_use links = count_by (λ l. not (is_out l)) links

-- the link of a holder to a domain
abbrev pub link_in : Kept → Holder → ℕ → Link
link_in k Free d = Out 0
link_in k (Operator o) d = entry_or (entry_or k.operator_links o []) d (Out 0)
link_in k (Domain p) d = if is_parent k.tree d p then entry_or k.child_links d (Out 0) else Out 0

-- the grants that the tables hold
abbrev pub grants_of : Kept → Grants
grants_of k = record {
  boot = k.boot;
  records = λ d. entry_or k.records d fresh;
  gathered = λ d. entry_or k.gathered d 0;
  links = link_in k;
  modes = λ d. entry_or k.modes d Included;
}

-- the tables have a place for every domain, and those of the station's operators too
pub record IsKept (k : Kept) : Type 0 where
  pub tree : IsTree k.tree
  pub number : IsBetween 1 (station_count k.tree) k.number
  pub records : length k.records ≡ domain_count k.tree
  pub gathered : length k.gathered ≡ domain_count k.tree
  pub modes : length k.modes ≡ domain_count k.tree
  pub child_links : length k.child_links ≡ domain_count k.tree
  pub operators : length k.operator_links ≡ operator_count k.tree
  pub served : (o : ℕ) → is_number (operator_station_of k.tree o) k.number ≡ true
      → length (entry_or k.operator_links o []) ≡ domain_count k.tree
