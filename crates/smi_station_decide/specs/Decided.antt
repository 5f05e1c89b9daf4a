-- What an operator's order results in, decided once: what the operator's link becomes, or why the order is refused.
use Rattle.std.specs.Prelude.{ℕ, Bool, true, false, if◌then◌else◌, [], Option, Some, None, Result, Ok, Err, nat_le}
use Rattle.smi_grant.specs.declared.Command.{Command}
use Rattle.smi_grant.specs.declared.Command.TheVariants.{Do, Include, Exclude, Manual, Ignore}
use Rattle.smi_grant.specs.declared.Holder.TheVariants.{Operator}
use Rattle.smi_command.specs.declared.Link.{Link}
use Rattle.smi_command.specs.Order.{take_begun, drop_begun, command_issued}
use Rattle.smi_command.specs.Pending.{most_pending}
use Rattle.smi_tree.specs.Hierarchy.{Hierarchy}
use Rattle.smi_protocol.specs.Grants.{Grants}
use Rattle.smi_protocol.specs.GrantStep.{GrantStep, unchanged}
use Rattle.smi_protocol.specs.Ordering.{relinked}
use Rattle.smi_protocol.specs.Refusals.{is_order_here, links_in_use, most_links}
use Rattle.smi_protocol.specs.Sound.{IsLink}
use Rattle.smi_protocol.specs.declared.Order.{Order}
use Rattle.smi_protocol.specs.declared.Order.TheVariants as order
use Rattle.smi_station_decide.specs.Plans.{MayOrder}
use Rattle.smi_station_decide.specs.declared.order.DecidedOrder.{DecidedOrder}
use Rattle.smi_station_decide.specs.declared.order.DecidedOrder.TheVariants as decided_order

-- the operator's link to the domain becomes this one, by the command, if the order is one
abbrev pub linked : ℕ → Option Command → Result Link ℕ → Result DecidedOrder ℕ
linked d c (Ok l) = Ok (decided_order.Linked d c l)
linked d c (Err code) = Err code

-- 25 no further link may be in use
abbrev pub if_room : Bool → Result Link ℕ → Result Link ℕ
if_room full (Err code) = Err code
if_room true (Ok l) = Err 25
if_room false (Ok l) = Ok l

abbrev pub taken : Hierarchy → Grants → ℕ → ℕ → Result Link ℕ
taken h g o d = if_room (nat_le most_links (links_in_use h g o)) (take_begun (g.links (Operator o) d))

abbrev pub commanded : Grants → ℕ → ℕ → Command → Result DecidedOrder ℕ
commanded g o d c = linked d (Some c) (command_issued (g.links (Operator o) d) c)

-- orders to ask and to watch leave the grants alone
abbrev pub decided_by_link : Hierarchy → Grants → ℕ → Order → Result DecidedOrder ℕ
decided_by_link h g o (order.Take d) = linked d None (taken h g o d)
decided_by_link h g o (order.Drop d) = linked d None (drop_begun (g.links (Operator o) d))
decided_by_link h g o (order.Do d a) = commanded g o d (Do a)
decided_by_link h g o (order.Include d t) = commanded g o d (Include t)
decided_by_link h g o (order.Exclude d t) = commanded g o d (Exclude t)
decided_by_link h g o (order.Manual d t) = commanded g o d (Manual t)
decided_by_link h g o (order.Ignore d t) = commanded g o d (Ignore t)
decided_by_link h g o (order.Ask d) = Ok decided_order.Unlinked
decided_by_link h g o (order.Watch x) = Ok decided_order.Unlinked
decided_by_link h g o (order.Unwatch x) = Ok decided_order.Unlinked
decided_by_link h g o (order.Report device s) = Ok decided_order.Unlinked

-- 26 what is not here comes before all
abbrev pub decided : Hierarchy → ℕ → Grants → ℕ → Order → Result DecidedOrder ℕ
decided h number g o what = if is_order_here h number o what then decided_by_link h g o what else Err 26

-- the refusal, if there is one
abbrev pub refused_by : Result DecidedOrder ℕ → Option ℕ
refused_by (Ok x) = None
refused_by (Err code) = Some code

-- the step that the decided order is
abbrev pub step_of : Hierarchy → ℕ → Grants → ℕ → DecidedOrder → GrantStep
step_of h number g o decided_order.Unlinked = unchanged g []
step_of h number g o (decided_order.Linked d c l) = relinked h number g o d c l

-- what it is about is here, and the link is one
abbrev pub IsObeyable : Hierarchy → ℕ → ℕ → DecidedOrder → Type 0
IsObeyable h number o decided_order.Unlinked = Unit {0}
IsObeyable h number o (decided_order.Linked d c l) = MayOrder h number o d × IsLink h most_pending l
