-- The words of a trace's lines.
use Rattle.std.specs.Prelude.{ℕ, ◌++◌, List, [], ◌∷◌, Option, Some, None, codes}
use Rattle.std.specs.Fmt.{decimal}
use Rattle.smi_grant.specs.declared.Command.{Command}
use Rattle.smi_grant.specs.declared.Command.TheVariants as command
use Rattle.smi_grant.specs.declared.Holder.{Holder}
use Rattle.smi_grant.specs.declared.Holder.TheVariants as holder
use Rattle.smi_grant.specs.declared.Phase.{Phase}
use Rattle.smi_grant.specs.declared.Phase.TheVariants as phase
use Rattle.smi_grant.specs.declared.Version.{Version}
use Rattle.smi_grant.specs.Record.{Standing}
use Rattle.smi_message.specs.declared.Body.{Body}
use Rattle.smi_message.specs.declared.Body.TheVariants as body
use Rattle.smi_rows.specs.declared.Mode.{Mode}
use Rattle.smi_rows.specs.declared.Mode.TheVariants as mode
use Rattle.smi_protocol.specs.declared.order.Order.{Order}
use Rattle.smi_protocol.specs.declared.order.Order.TheVariants as order
use Rattle.smi_tree.specs.Hierarchy.{Hierarchy, entry}
use Rattle.smi_tree.specs.Lookups.{object_name}

-- a name, or the number if the tree has no such thing
abbrev pub called : Option (List ℕ) → ℕ → List ℕ
called None number = decimal number
called (Some name) number = name

abbrev pub station_word : Hierarchy → ℕ → List ℕ
station_word h number = called (entry h.station_names number) number

abbrev pub operator_word : Hierarchy → ℕ → List ℕ
operator_word h number = called (entry h.operator_names number) number

abbrev pub domain_word : Hierarchy → ℕ → List ℕ
domain_word h number = called (entry h.domain_names number) number

abbrev pub device_word : Hierarchy → ℕ → List ℕ
device_word h number = called (entry h.device_names number) number

abbrev pub object_word : Hierarchy → ℕ → List ℕ
object_word h number = called (object_name h number) number

abbrev pub state_word : Hierarchy → ℕ → List ℕ
state_word h number = called (entry h.state_names number) number

abbrev pub action_word : Hierarchy → ℕ → List ℕ
action_word h number = called (entry h.action_names number) number

abbrev pub holder_word : Hierarchy → Holder → List ℕ
holder_word h holder.Free = codes "free"
holder_word h (holder.Operator number) = operator_word h number
holder_word h (holder.Domain number) = domain_word h number

-- a boot and a sequence, as 1.7
abbrev pub version_word : Version → List ℕ
version_word version = decimal version.boot ++ 46 ∷ decimal version.sequence

abbrev pub phase_word : Phase → List ℕ
phase_word phase.Settled = codes "settled"
phase_word phase.Busy = codes "busy"

abbrev pub mode_word : Mode → List ℕ
mode_word mode.Included = codes "included"
mode_word mode.Manual = codes "manual"
mode_word mode.Ignored = codes "ignored"

-- a command, as `do A` or `include T`
abbrev pub command_words : Hierarchy → Command → List (List ℕ)
command_words h (command.Do a) = codes "do" ∷ action_word h a ∷ []
command_words h (command.Include t) = codes "include" ∷ domain_word h t ∷ []
command_words h (command.Exclude t) = codes "exclude" ∷ domain_word h t ∷ []
command_words h (command.Manual t) = codes "manual" ∷ domain_word h t ∷ []
command_words h (command.Ignore t) = codes "ignore" ∷ domain_word h t ∷ []

-- an order, as a schedule has it after the operator
abbrev pub order_words : Hierarchy → Order → List (List ℕ)
order_words h (order.Take d) = codes "take" ∷ domain_word h d ∷ []
order_words h (order.Drop d) = codes "drop" ∷ domain_word h d ∷ []
order_words h (order.Do d a) = codes "do" ∷ domain_word h d ∷ action_word h a ∷ []
order_words h (order.Include d t) = codes "include" ∷ domain_word h d ∷ domain_word h t ∷ []
order_words h (order.Exclude d t) = codes "exclude" ∷ domain_word h d ∷ domain_word h t ∷ []
order_words h (order.Manual d t) = codes "manual" ∷ domain_word h d ∷ domain_word h t ∷ []
order_words h (order.Ignore d t) = codes "ignore" ∷ domain_word h d ∷ domain_word h t ∷ []
order_words h (order.Ask d) = codes "ask" ∷ domain_word h d ∷ []
order_words h (order.Watch x) = codes "watch" ∷ object_word h x ∷ []
order_words h (order.Unwatch x) = codes "unwatch" ∷ object_word h x ∷ []
order_words h (order.Report d s) = codes "report" ∷ device_word h d ∷ state_word h s ∷ []

-- a record: who holds the domain, its epoch, the last command's number, and whether that has ended
abbrev pub record_words : Hierarchy → Standing → List (List ℕ)
record_words h r = holder_word h r.holder ∷ decimal r.epoch ∷ decimal r.last ∷ phase_word r.phase ∷ decimal r.outcome
    ∷ []

-- the code of an order, or the record that was asked for
abbrev pub answer_words : Hierarchy → ℕ → Option Standing → List (List ℕ)
answer_words h code None = decimal code ∷ []
answer_words h code (Some r) = record_words h r

abbrev pub kind_word : Body → List ℕ
kind_word (body.Ask d) = codes "ASK"
kind_word (body.Take d h seen) = codes "TAKE"
kind_word (body.Drop d h e) = codes "DROP"
kind_word (body.Run d h e n c) = codes "RUN"
kind_word (body.Tell d r) = codes "TELL"
kind_word (body.Watch x echo) = codes "WATCH"
kind_word (body.State x echo v s) = codes "STATE"
kind_word (body.Unwatch x echo) = codes "UNWATCH"

-- the domain or the object that a datagram is about
abbrev pub subject_word : Hierarchy → Body → List ℕ
subject_word h (body.Ask d) = domain_word h d
subject_word h (body.Take d who seen) = domain_word h d
subject_word h (body.Drop d who e) = domain_word h d
subject_word h (body.Run d who e n c) = domain_word h d
subject_word h (body.Tell d r) = domain_word h d
subject_word h (body.Watch x echo) = object_word h x
subject_word h (body.State x echo v s) = object_word h x
subject_word h (body.Unwatch x echo) = object_word h x
