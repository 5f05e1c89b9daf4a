-- What the rows of a station mean, and how an open on them ends.
use Rattle.std.specs.Prelude.{ℕ, ◌≡◌, ◌≢◌, ◌⊎◌, ◌==◌, Bool, true, false, List, [], find, Option, Some, None}
use Rattle.std.specs.Prelude.{option_and_then, unwrap_or, Result, Ok, Err, if◌then◌else◌}
use Rattle.smi_grant.specs.declared.Holder.{Holder}
use Rattle.smi_grant.specs.declared.Holder.TheVariants.{Free, Operator, Domain}
use Rattle.smi_grant.specs.Record.{fresh}
use Rattle.smi_command.specs.declared.Link.{Link}
use Rattle.smi_command.specs.declared.Link.TheVariants.{Out}
use Rattle.smi_base.specs.Between.{is_between}
use Rattle.smi_message.specs.Message.{last_boot}
use Rattle.smi_tree.specs.Hierarchy.{Hierarchy}
use Rattle.smi_tree.specs.Lookups.{domain_count, operator_station_of, parent_of, station_count}
use Rattle.smi_rows.specs.declared.Key.{Key}
use Rattle.smi_rows.specs.declared.Mode.{Mode}
use Rattle.smi_rows.specs.declared.Mode.TheVariants.{Included}
use Rattle.smi_rows.specs.declared.Row.{Row}
use Rattle.smi_rows.specs.declared.Row.TheVariants as row
use Rattle.smi_rows.specs.declared.RowFault.{RowFault}
use Rattle.smi_rows.specs.declared.RowFault.TheVariants.{Code, Memory}
use Rattle.smi_rows.specs.declared.StoredLink.{StoredLink}
use Rattle.smi_tree.specs.Roles.{is_number, is_parent, is_keeper}
use Rattle.smi_rows.specs.Reading.{kept_domain, row_of}
use Rattle.smi_rows.specs.Store.{Rows, is_before}
use Rattle.smi_rows.specs.Stored.{KeptDomain, stored}
use Rattle.smi_protocol.specs.Display.{Station}
use Rattle.smi_protocol.specs.Grants.{Grants}
use Rattle.smi_protocol.specs.Opening.{opened}
use Rattle.smi_protocol.specs.SavedRows.{domain_row, key, operator_row}
use Rattle.smi_protocol.specs.declared.fault.OpenFault.{OpenFault}
use Rattle.smi_protocol.specs.declared.fault.OpenFault.TheVariants as open_fault

-- What the rows say.

-- what was read, if it was read
abbrev pub read : Result Row RowFault → Option Row
read (Ok r) = Some r
read (Err fault) = None

-- what the row of a key says, if there is one that is read
abbrev pub said : Hierarchy → Rows → Key → Option Row
said h rows k = option_and_then (λ b. read (row_of h k b)) (rows k)

-- how often the station has started: never, if there is no row
abbrev pub boot_of : Option Row → ℕ
boot_of (Some (row.Boot b)) = b
boot_of _ = 0

-- what is kept of a domain: if there is no row it is fresh, and nothing was heard of its children
abbrev pub domain_of : Option Row → KeptDomain
domain_of (Some (row.Domain d)) = d
domain_of _ = kept_domain fresh 0 []

-- the links of an operator: none if there is no row
abbrev pub links_of : Option Row → List StoredLink
links_of (Some (row.Operator links)) = links
links_of _ = []

-- the link to a domain: one that is not stored is out, and nothing was ever heard of the domain
abbrev pub stored_at : List StoredLink → ℕ → StoredLink
stored_at links x = unwrap_or (find (λ y. y.domain == x) links) (stored x (Out 0) Included)

-- What the station keeps.

abbrev pub domain_in : Hierarchy → ℕ → Rows → ℕ → KeptDomain
domain_in h number rows d = domain_of (said h rows (key number d 0))

abbrev pub operator_in : Hierarchy → ℕ → Rows → ℕ → List StoredLink
operator_in h number rows o = links_of (said h rows (key number 0 o))

-- a holder's link
abbrev pub link_in : Hierarchy → ℕ → Rows → Holder → ℕ → Link
link_in h number rows Free x = Out 0
link_in h number rows (Operator o) x = (stored_at (operator_in h number rows o) x).link
link_in h number rows (Domain p) x = (stored_at (domain_in h number rows p).links x).link

-- the mode in which a parent holds a child
abbrev pub mode_under : Hierarchy → ℕ → Rows → ℕ → Option ℕ → Mode
mode_under h number rows x None = Included
mode_under h number rows x (Some p) = (stored_at (domain_in h number rows p).links x).mode

-- the grants that its rows mean
abbrev pub grants_in : Hierarchy → ℕ → Rows → Grants
grants_in h number rows = record {
  boot = boot_of (said h rows (key number 0 0));
  records = λ d. (domain_in h number rows d).standing;
  gathered = λ d. (domain_in h number rows d).gathered;
  links = link_in h number rows;
  modes = λ x. mode_under h number rows x (parent_of h x);
}

-- How it ends.

-- the test that a row fails, if it fails one
abbrev pub fault_in : Result Row RowFault → Option ℕ
fault_in (Ok r) = None
fault_in (Err (Code n)) = Some n
fault_in (Err Memory) = None

-- rows of other stations are left alone
abbrev pub fault_of : Hierarchy → ℕ → Rows → Key → Option ℕ
fault_of h number rows k = if k.station == number then option_and_then (λ b. fault_in (row_of h k b)) (rows k) else None

-- the row of the least key that is refused
pub record IsFirstFault (h : Hierarchy) (number : ℕ) (rows : Rows) (k : Key) (code : ℕ) : Type 0 where
  pub fault : fault_of h number rows k ≡ Some code
  pub least : (j : Key) → is_before j k ≡ true → fault_of h number rows j ≡ None

-- none is refused
abbrev pub AllRead : Hierarchy → ℕ → Rows → Type 0
AllRead h number rows = (k : Key) → fault_of h number rows k ≡ None

-- the tree has the station
abbrev pub IsStation : Hierarchy → ℕ → Bool → Type 0
IsStation h number b = is_between 1 (station_count h) number ≡ b

-- A station opens as a restart of what its rows mean. The faults are in their order; a fault of the store, and
-- out of memory, may come at any place.
abbrev pub Opens : Hierarchy → ℕ → Rows → Result Station OpenFault → Type 0
Opens h number rows (Ok s) =
    IsStation h number true × AllRead h number rows × ((grants_in h number rows).boot ≢ last_boot)
    × (s ≡ opened h number (grants_in h number rows))
Opens h number rows (Err open_fault.NoSuchStation) = IsStation h number false
Opens h number rows (Err (open_fault.Row k code)) = IsStation h number true × IsFirstFault h number rows k code
Opens h number rows (Err open_fault.BootsSpent) =
    IsStation h number true × AllRead h number rows × ((grants_in h number rows).boot ≡ last_boot)
Opens h number rows (Err (open_fault.Store fault)) = IsStation h number true
Opens h number rows (Err open_fault.Memory) = Unit {0}

-- Rows that a station has saved: of each of its domains and operators the row of what it keeps, or none while
-- that is as at the beginning.
pub record AreSaved (h : Hierarchy) (number : ℕ) (g : Grants) (rows : Rows) : Type 0 where
  pub boot : said h rows (key number 0 0) ≡ Some (row.Boot g.boot)
  pub domain : (d : ℕ) → is_keeper h number d ≡ true →
      (said h rows (key number d 0) ≡ Some (domain_row h g d))
      ⊎ ((said h rows (key number d 0) ≡ None) × (domain_row h g d ≡ row.Domain (kept_domain fresh 0 [])))
  pub operator : (o : ℕ) → is_number (operator_station_of h o) number ≡ true →
      (said h rows (key number 0 o) ≡ Some (operator_row h g o))
      ⊎ ((said h rows (key number 0 o) ≡ None) × (operator_row h g o ≡ row.Operator []))

-- What a station keeps is the same: the records and codes of its domains, their links to their children and the
-- modes of these, and the links of its operators to the domains of the tree.
pub record KeepsTheSame (h : Hierarchy) (number : ℕ) (g k : Grants) : Type 0 where
  pub boot : k.boot ≡ g.boot
  pub records : (d : ℕ) → is_keeper h number d ≡ true → k.records d ≡ g.records d
  pub gathered : (d : ℕ) → is_keeper h number d ≡ true → k.gathered d ≡ g.gathered d
  pub children : (d x : ℕ) → is_keeper h number d ≡ true → is_parent h x d ≡ true
      → k.links (Domain d) x ≡ g.links (Domain d) x
  pub modes : (d x : ℕ) → is_keeper h number d ≡ true → is_parent h x d ≡ true → k.modes x ≡ g.modes x
  pub operators : (o d : ℕ) → is_number (operator_station_of h o) number ≡ true
      → is_between 1 (domain_count h) d ≡ true → k.links (Operator o) d ≡ g.links (Operator o) d
