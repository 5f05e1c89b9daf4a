-- What an order asks for.
use Rattle.std.specs.Prelude.{Bool}
use Rattle.smi_grant.specs.declared.Command.{Command}
use Rattle.smi_grant.specs.declared.Command.TheVariants.{Do, Include, Exclude, Manual, Ignore}
use Rattle.smi_base.specs.Between.{is_between}
use Rattle.smi_tree.specs.Hierarchy.{Hierarchy}
use Rattle.smi_tree.specs.Lookups.{action_count}
use Rattle.smi_tree.specs.Roles.{has_domain}
use Rattle.smi_protocol.specs.Happening.{order_of}
use Rattle.smi_protocol.specs.declared.order.Order.{Order}
use Rattle.smi_protocol.specs.declared.order.Order.TheVariants as order
use Rattle.smi_protocol.specs.declared.order.Request.{Request}
use Rattle.smi_protocol.specs.declared.order.Request.TheVariants as request

-- the order that asks for this
abbrev pub order_asking : Request → Order
order_asking (request.Take d) = order.Take d
order_asking (request.Drop d) = order.Drop d
order_asking (request.Command d c) = order_of d c
order_asking (request.Ask d) = order.Ask d
order_asking (request.Watch x) = order.Watch x
order_asking (request.Unwatch x) = order.Unwatch x
order_asking (request.Report device s) = order.Report device s

-- the tree has what a command names beside its domain
abbrev pub has_named : Hierarchy → Command → Bool
has_named h (Do a) = is_between 1 (action_count h) a
has_named h (Include t) = has_domain h t
has_named h (Exclude t) = has_domain h t
has_named h (Manual t) = has_domain h t
has_named h (Ignore t) = has_domain h t
