-- What a station refuses, by the first test that fails.
use Rattle.std.specs.Prelude.{ℕ, ◌+◌, ◌==◌, ◌&&◌, nat_le, not, Bool, false, if◌then◌else◌, Option, Some, None, Result}
use Rattle.std.specs.Prelude.{Ok, Err, count_by}
use Rattle.std.specs.Option.{option_or}
use Rattle.std.specs.List.{range_with_len}
use Rattle.smi_base.specs.declared.numbers.TheConstants.{MOST_LINKS}
use Rattle.smi_grant.specs.declared.Command.{Command}
use Rattle.smi_grant.specs.declared.Holder.{Holder}
use Rattle.smi_grant.specs.declared.Holder.TheVariants.{Operator}
use Rattle.smi_message.specs.declared.Body.{Body}
use Rattle.smi_message.specs.declared.Body.TheVariants as body
use Rattle.smi_message.specs.Message.{Message}
use Rattle.smi_base.specs.Between.{is_between}
use Rattle.smi_tree.specs.Hierarchy.{Hierarchy}
use Rattle.smi_tree.specs.Lookups.{station_count, state_count, action_count, domain_count}
use Rattle.smi_tree.specs.Lookups.{operator_station_of}
use Rattle.smi_tree.specs.Roles.{has_domain, has_object, holder_station, is_command_of, is_holder_of, is_keeper}
use Rattle.smi_tree.specs.Roles.{is_kept_by, is_number}
use Rattle.smi_command.specs.declared.Link.{Link}
use Rattle.smi_command.specs.Order.{take_begun, drop_begun, command_issued}
use Rattle.smi_command.specs.Link.{is_out}
use Rattle.smi_protocol.specs.Grants.{Grants}
use Rattle.smi_protocol.specs.Happening.{Happening, Comes, Orders, Reports, Ticks}
use Rattle.smi_protocol.specs.declared.order.Order.{Order}
use Rattle.smi_protocol.specs.declared.order.Order.TheVariants as order
use Rattle.smi_grant.specs.declared.Command.TheVariants.{Do, Include, Exclude, Manual, Ignore}

-- Datagrams.

-- the domain may be the holder's, and the sender is the holder's station
abbrev pub speaks_for : Hierarchy → ℕ → ℕ → Holder → Bool
speaks_for h from d who = is_holder_of h d who && is_number (holder_station h who) from

-- what a datagram names is there and is kept by whom the kind requires: the receiver of what is asked of a
-- keeper, the sender of what a keeper tells
abbrev pub is_body_of : Hierarchy → ℕ → ℕ → Body → Bool
is_body_of h from to (body.Ask d) = is_keeper h to d
is_body_of h from to (body.Take d who seen) = is_keeper h to d && speaks_for h from d who
is_body_of h from to (body.Drop d who e) = is_keeper h to d && speaks_for h from d who
is_body_of h from to (body.Run d who e n c) = is_keeper h to d && (speaks_for h from d who && is_command_of h c)
is_body_of h from to (body.Tell d r) = is_keeper h from d && is_holder_of h d r.holder
is_body_of h from to (body.Watch x echo) = is_kept_by h to x
is_body_of h from to (body.State x echo v s) = is_kept_by h from x && nat_le s (state_count h)
is_body_of h from to (body.Unwatch x echo) = is_kept_by h to x

-- 7 another tree, 8 another station, 9 what the tree does not have or not there
abbrev pub refusal_of_message : Hierarchy → ℕ → Message → Option ℕ
refusal_of_message h number m =
    if not (m.tree == h.number) then Some 7
    else (if not (m.to == number) then Some 8
    else (if is_between 1 (station_count h) m.from && is_body_of h m.from m.to m.body then None
    else Some 9))

-- Orders.

-- the tree has what the order names
abbrev pub is_order_of : Hierarchy → Order → Bool
is_order_of h (order.Take d) = has_domain h d
is_order_of h (order.Drop d) = has_domain h d
is_order_of h (order.Do d a) = has_domain h d && is_between 1 (action_count h) a
is_order_of h (order.Include d t) = has_domain h d && has_domain h t
is_order_of h (order.Exclude d t) = has_domain h d && has_domain h t
is_order_of h (order.Manual d t) = has_domain h d && has_domain h t
is_order_of h (order.Ignore d t) = has_domain h d && has_domain h t
is_order_of h (order.Ask d) = has_domain h d
is_order_of h (order.Watch x) = has_object h x
is_order_of h (order.Unwatch x) = has_object h x
is_order_of h (order.Report device s) = false

-- the operator is the station's and the tree has what the order names
abbrev pub is_order_here : Hierarchy → ℕ → ℕ → Order → Bool
is_order_here h number o what = is_number (operator_station_of h o) number && is_order_of h what

-- the station keeps the device and the tree has the state
abbrev pub is_report_here : Hierarchy → ℕ → ℕ → ℕ → Bool
is_report_here h number device s =
    nat_le 1 device && (is_kept_by h number (domain_count h + device) && is_between 1 (state_count h) s)

-- how many links of an operator may be not out at a time
abbrev pub most_links : ℕ
most_links = MOST_LINKS

-- how many links of an operator are not out
abbrev pub links_in_use : Hierarchy → Grants → ℕ → ℕ
links_in_use h g o = count_by (λ d. not (is_out (g.links (Operator o) d))) (range_with_len 1 (domain_count h))

-- the refusal, if there is one
abbrev pub why_not : Result Link ℕ → Option ℕ
why_not (Ok l) = None
why_not (Err code) = Some code

-- 23 the link is not out, 25 sixteen others are not
abbrev pub take_refusal : Hierarchy → Grants → ℕ → ℕ → Option ℕ
take_refusal h g o d =
    option_or (why_not (take_begun (g.links (Operator o) d)))
    (if nat_le most_links (links_in_use h g o) then Some 25 else None)

-- 21 not held, 22 pending, 24 no number left
abbrev pub command_refusal : Grants → ℕ → ℕ → Command → Option ℕ
command_refusal g o d c = why_not (command_issued (g.links (Operator o) d) c)

-- the link's refusal, if the order is about the operator's link
abbrev pub refusal_by_link : Hierarchy → Grants → ℕ → Order → Option ℕ
refusal_by_link h g o (order.Take d) = take_refusal h g o d
refusal_by_link h g o (order.Drop d) = why_not (drop_begun (g.links (Operator o) d))
refusal_by_link h g o (order.Do d a) = command_refusal g o d (Do a)
refusal_by_link h g o (order.Include d t) = command_refusal g o d (Include t)
refusal_by_link h g o (order.Exclude d t) = command_refusal g o d (Exclude t)
refusal_by_link h g o (order.Manual d t) = command_refusal g o d (Manual t)
refusal_by_link h g o (order.Ignore d t) = command_refusal g o d (Ignore t)
refusal_by_link h g o (order.Ask d) = None
refusal_by_link h g o (order.Watch x) = None
refusal_by_link h g o (order.Unwatch x) = None
refusal_by_link h g o (order.Report device s) = None

-- 26 what is not here comes before all
abbrev pub refusal_of : Hierarchy → ℕ → Grants → Happening → Option ℕ
refusal_of h number g (Comes m) = refusal_of_message h number m
refusal_of h number g (Orders o what) = if is_order_here h number o what then refusal_by_link h g o what else Some 26
refusal_of h number g (Reports device s) = if is_report_here h number device s then None else Some 26
refusal_of h number g Ticks = None
