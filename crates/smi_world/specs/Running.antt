-- Items that name what the tree has.
use Rattle.std.specs.Prelude.{ℕ, ◌≡◌, ◌+◌, false, true, List, [], ◌∷◌, ◌++◌, length, Result, Ok, Err}
use Rattle.smi_tree.specs.Hierarchy.{Hierarchy}
use Rattle.smi_protocol.specs.declared.item.Item.{Item}
use Rattle.smi_schedule.specs.Naming.{has_item}
use Rattle.smi_world.specs.declared.running.WorldFault.{WorldFault}
use Rattle.smi_world.specs.declared.running.WorldFault.TheVariants as fault

-- the tree has all that these items name
abbrev pub Named : Hierarchy → List Item → Type 0
Named h [] = Unit {0}
Named h (x ∷ items) = (has_item h x ≡ true) × Named h items

-- the item of this number, from 1, is the first that names what the tree does not have
pub record FirstUnnamed (h : Hierarchy) (items : List Item) (number : ℕ) : Type 0 where
  pub before : List Item
  pub first : Item
  pub rest : List Item
  pub splits : items ≡ before ++ first ∷ rest
  pub nth : number ≡ length before + 1
  pub named : Named h before
  pub unnamed : has_item h first ≡ false

-- a result that says so names the first such item
abbrev pub IfNoSuch : {X : Type 0} → Result X WorldFault → (ℕ → Type 0) → Type 0
IfNoSuch (Err (fault.NoSuch number)) P = P number
IfNoSuch (Err fault.Memory) P = Unit {0}
IfNoSuch (Ok x) P = Unit {0}
