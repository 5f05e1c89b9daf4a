-- What a step changes of the grants, and what it saves.
use Rattle.std.specs.Prelude.{ℕ, ◌≡◌, true, Option, Some, None, option_map}
use Rattle.smi_grant.specs.declared.Command.{Command}
use Rattle.smi_grant.specs.declared.Holder.TheVariants.{Operator, Domain}
use Rattle.smi_tree.specs.Hierarchy.{Hierarchy}
use Rattle.smi_tree.specs.Lawful.{IsBetween}
use Rattle.smi_tree.specs.Lookups.{domain_count, operator_station_of}
use Rattle.smi_tree.specs.Roles.{is_number, is_parent}
use Rattle.smi_rows.specs.Store.{Rows, Saved, with_row}
use Rattle.smi_protocol.specs.Grants.{Grants, put, with_record, with_link}
use Rattle.smi_protocol.specs.GrantStep.{Touched, OfDomain, OfOperator}
use Rattle.smi_protocol.specs.Keeping.{commanded}
use Rattle.smi_protocol.specs.SavedRows.{saved_row}
use Rattle.smi_station_grants.specs.Commanded.{AreSo}
use Rattle.smi_station_grants.specs.GrantTable.{Kept, grants_of}
use Rattle.smi_station_grants.specs.declared.change.Change.{Change}
use Rattle.smi_station_grants.specs.declared.change.Change.TheVariants as change

-- the grants after a change
abbrev pub changed : Hierarchy → Grants → Change → Grants
changed h g change.Nothing = g
changed h g (change.HolderChanged d r) = with_record g d r
changed h g (change.Linked o d l) = with_link g (Operator o) d l
changed h g (change.Ran d c r code xs) = record
    (commanded h g d c) { records = put g.records d r; gathered = put g.gathered d code }
changed h g (change.ChildReported p d l r code) = record
    (with_link g (Domain p) d l) { records = put g.records p r; gathered = put g.gathered p code }

-- whose row it changes
abbrev pub touched : Change → Option Touched
touched change.Nothing = None
touched (change.HolderChanged d r) = Some (OfDomain d)
touched (change.Linked o d l) = Some (OfOperator o)
touched (change.Ran d c r code xs) = Some (OfDomain d)
touched (change.ChildReported p d l r code) = Some (OfDomain p)

-- the command that runs, and the domain at which it does
abbrev pub runs : Change → Option (ℕ × Command)
runs change.Nothing = None
runs (change.HolderChanged d r) = None
runs (change.Linked o d l) = None
runs (change.Ran d c r code xs) = Some (d, c)
runs (change.ChildReported p d l r code) = None

-- the row that is saved
abbrev pub saved_by : Hierarchy → ℕ → Grants → Change → Option Saved
saved_by h number g c = option_map (saved_row h number (changed h g c)) (touched c)

-- the rows after a save
abbrev pub with_saved : Option Saved → Rows → Rows
with_saved None rows = rows
with_saved (Some s) rows = with_row s.key s.bytes rows

-- the tree has what the change is about, and a command does to children what it says
abbrev pub IsChange : Hierarchy → ℕ → Grants → Change → Type 0
IsChange h number g change.Nothing = Unit {0}
IsChange h number g (change.HolderChanged d r) = IsBetween 1 (domain_count h) d
IsChange h number g (change.Linked o d l) = (is_number (operator_station_of h o) number ≡ true)
    × IsBetween 1 (domain_count h) d
IsChange h number g (change.Ran d c r code xs) = IsBetween 1 (domain_count h) d × AreSo h g d c xs
IsChange h number g (change.ChildReported p d l r code) = IsBetween 1 (domain_count h) p × (is_parent h d p ≡ true)

-- grants, and a change of them that is still to come
pub record Planned : Type 0 where
  pub kept : Kept
  pub change : Change

-- the grants after it
abbrev pub after_of : Planned → Grants
after_of p = changed p.kept.tree (grants_of p.kept) p.change
