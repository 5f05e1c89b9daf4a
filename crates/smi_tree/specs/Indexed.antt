-- A tree with the children, devices and operators of each owner at hand.
use Rattle.std.specs.Prelude.{ℕ, ◌==◌, List, length}
use Rattle.std.specs.Global.{Vec}
use Rattle.smi_tree.specs.Hierarchy.{Hierarchy, is_child_of, is_device_of}
use Rattle.smi_tree.specs.Grouped.{IsGrouped}
use Rattle.smi_tree.specs.Lawful.{IsTree}

pub record IsIndexed (h : Hierarchy) (children devices operators : List (Vec ℕ)) : Type 0 where
  pub tree : IsTree h
  pub of_domain : IsGrouped is_child_of (length h.domains) h.domains children
  pub in_domain : IsGrouped is_device_of (length h.domains) h.devices devices
  pub at_station : IsGrouped (λ station home. home == station) (length h.addresses) h.homes operators
