-- What an operator's order does to the operator's link.
use Rattle.std.specs.Prelude.{ℕ, List, [], ◌∷◌, Option, Some, None, Result, Ok, Err}
use Rattle.smi_grant.specs.declared.Command.{Command}
use Rattle.smi_grant.specs.declared.Command.TheVariants.{Do, Include, Exclude, Manual, Ignore}
use Rattle.smi_grant.specs.declared.Holder.TheVariants.{Operator}
use Rattle.smi_tree.specs.Hierarchy.{Hierarchy}
use Rattle.smi_command.specs.declared.Link.{Link}
use Rattle.smi_command.specs.declared.Link.TheVariants.{Held, Dropping}
use Rattle.smi_command.specs.Order.{take_begun, drop_begun, command_issued}
use Rattle.smi_protocol.specs.Grants.{Grants, with_link}
use Rattle.smi_protocol.specs.Messages.{request_newest}
use Rattle.smi_protocol.specs.Happening.{mark}
use Rattle.smi_protocol.specs.GrantStep.{GrantStep, OfOperator, unchanged}
use Rattle.smi_protocol.specs.declared.order.Mark.{Mark}
use Rattle.smi_protocol.specs.declared.order.Order.{Order}
use Rattle.smi_protocol.specs.declared.order.Order.TheVariants as order
use Rattle.smi_protocol.specs.declared.entry.Entry.{Entry}
use Rattle.smi_protocol.specs.declared.entry.Entry.TheVariants as entry

-- a command has its number, and a grant is given up
abbrev pub order_entries : ℕ → ℕ → Option Command → Link → List Entry
order_entries o d (Some c) (Held e n p) = entry.Ordered o d e n c ∷ []
order_entries o d None (Dropping e) = entry.LetGo (Operator o) d e ∷ []
order_entries o d _ _ = []

-- which command of which grant was issued
abbrev pub issued_by : ℕ → Option Command → Link → Option Mark
issued_by d (Some c) (Held e n p) = Some (mark d e n)
issued_by d _ _ = None

-- the link has changed: its newest request is sent
abbrev pub relinked : Hierarchy → ℕ → Grants → ℕ → ℕ → Option Command → Link → GrantStep
relinked h number g o d c l = record {
  grants = with_link g (Operator o) d l;
  row = Some (OfOperator o);
  entries = order_entries o d c l;
  sends = request_newest h number (Operator o) d l;
  answers = [];
  issued = issued_by d c l;
}

-- the order is obeyed if the link allows it
abbrev pub obeyed : Hierarchy → ℕ → Grants → ℕ → ℕ → Option Command → Result Link ℕ → GrantStep
obeyed h number g o d c (Ok l) = relinked h number g o d c l
obeyed h number g o d c (Err code) = unchanged g []

-- a command is issued
abbrev pub commands : Hierarchy → ℕ → Grants → ℕ → ℕ → Command → GrantStep
commands h number g o d c = obeyed h number g o d (Some c) (command_issued (g.links (Operator o) d) c)

-- orders to ask and to watch leave the grants alone
abbrev pub order_comes : Hierarchy → ℕ → Grants → ℕ → Order → GrantStep
order_comes h number g o (order.Take d) = obeyed h number g o d None (take_begun (g.links (Operator o) d))
order_comes h number g o (order.Drop d) = obeyed h number g o d None (drop_begun (g.links (Operator o) d))
order_comes h number g o (order.Do d a) = commands h number g o d (Do a)
order_comes h number g o (order.Include d t) = commands h number g o d (Include t)
order_comes h number g o (order.Exclude d t) = commands h number g o d (Exclude t)
order_comes h number g o (order.Manual d t) = commands h number g o d (Manual t)
order_comes h number g o (order.Ignore d t) = commands h number g o d (Ignore t)
order_comes h number g o (order.Ask d) = unchanged g []
order_comes h number g o (order.Watch x) = unchanged g []
order_comes h number g o (order.Unwatch x) = unchanged g []
order_comes h number g o (order.Report device s) = unchanged g []
