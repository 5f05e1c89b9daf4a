-- Which items name stations, operators and devices that the tree has.
use Rattle.std.specs.Prelude.{ℕ, ◌&&◌, Bool, true}
use Rattle.smi_base.specs.Between.{is_between}
use Rattle.smi_tree.specs.Hierarchy.{Hierarchy}
use Rattle.smi_tree.specs.Lookups.{device_count, operator_count, station_count}
use Rattle.smi_protocol.specs.declared.order.Order.{Order}
use Rattle.smi_protocol.specs.declared.order.Order.TheVariants as order
use Rattle.smi_protocol.specs.declared.item.Deed.{Deed}
use Rattle.smi_protocol.specs.declared.item.Deed.TheVariants as deed
use Rattle.smi_protocol.specs.declared.item.Item.{Item}
use Rattle.smi_protocol.specs.declared.item.Item.TheVariants as item

abbrev pub has_station : Hierarchy → ℕ → Bool
has_station h number = is_between 1 (station_count h) number

abbrev pub has_operator : Hierarchy → ℕ → Bool
has_operator h o = is_between 1 (operator_count h) o

abbrev pub has_device : Hierarchy → ℕ → Bool
has_device h device = is_between 1 (device_count h) device

-- an order names a device if it holds a report
abbrev pub has_order : Hierarchy → Order → Bool
has_order h (order.Report device s) = has_device h device
has_order h what = true

abbrev pub has_deed : Hierarchy → Deed → Bool
has_deed h (deed.Deliver k) = true
has_deed h (deed.Recent j) = true
has_deed h (deed.Order o what) = has_operator h o && has_order h what
has_deed h (deed.Report device s) = has_device h device
has_deed h (deed.Tick number) = has_station h number

abbrev pub has_item : Hierarchy → Item → Bool
has_item h (item.Do what) = has_deed h what
has_item h (item.Restart number) = has_station h number
has_item h (item.Stop number when what) = has_station h number && has_deed h what
has_item h (item.Fail number how what) = has_station h number && has_deed h what
