-- The table of a class.
use Rattle.std.specs.Prelude.{ℕ, Bool, true, false, List, []}
use Rattle.smi_tree.specs.declared.declaration.ClassKind.{ClassKind}
use Rattle.smi_tree.specs.declared.declaration.ClassKind.TheVariants.{Device, Unit as UnitOf}
use Rattle.smi_tree.specs.declared.row.Rule.{Rule}

-- what a class is for, its first state, the actions that it accepts, and its rules in their order
pub record ClassTable : Type 0 where
  pub kind : ClassKind
  pub first : ℕ
  pub accepted : List ℕ
  pub rules : List Rule

-- a class with no actions and no rules yet
abbrev pub class_table : ClassKind → ℕ → ClassTable
class_table kind first = record { kind = kind; first = first; accepted = []; rules = [] }

abbrev pub is_kind : ClassKind → ClassKind → Bool
is_kind Device Device = true
is_kind UnitOf UnitOf = true
is_kind _ _ = false
