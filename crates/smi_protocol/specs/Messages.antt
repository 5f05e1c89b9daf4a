-- What stations say to each other, and to whom.
use Rattle.std.specs.Prelude.{ℕ, ◌-◌, List, [], ◌∷◌, length, map, Option, Some, None, option_map, unwrap_or}
use Rattle.std.specs.List.{range_with_len, filter_map}
use Rattle.smi_grant.specs.declared.Holder.{Holder}
use Rattle.smi_grant.specs.declared.Shown.{Shown}
use Rattle.smi_grant.specs.Record.{Standing}
use Rattle.smi_message.specs.declared.Body.{Body}
use Rattle.smi_message.specs.declared.Body.TheVariants as body
use Rattle.smi_message.specs.Message.{Message}
use Rattle.smi_tree.specs.Hierarchy.{Hierarchy}
use Rattle.smi_tree.specs.Lookups.{station_of}
use Rattle.smi_tree.specs.Roles.{holder_station, keeper_of}
use Rattle.smi_command.specs.declared.Link.{Link}
use Rattle.smi_command.specs.declared.Due.{Due}
use Rattle.smi_command.specs.declared.Due.TheVariants.{Take, Drop, Run}
use Rattle.smi_command.specs.Link.{due_of}
use Rattle.smi_command.specs.Pending.{most_pending}
use Rattle.smi_rows.specs.Known.{pending_of}

-- the station of a domain
abbrev pub home : Hierarchy → ℕ → ℕ
home h d = unwrap_or (station_of h d) 0

-- the station of an object
abbrev pub object_home : Hierarchy → ℕ → ℕ
object_home h x = unwrap_or (keeper_of h x) 0

-- a datagram of this tree
abbrev pub says : Hierarchy → ℕ → ℕ → Body → Message
says h from to what = record { from = from; to = to; tree = h.number; body = what }

-- the keeper tells a domain's record
abbrev pub tells : Hierarchy → ℕ → ℕ → ℕ → Standing → Message
tells h from to d r = says h from to (body.Tell d r)

-- the keeper tells the domain's holder
abbrev pub tells_holder : Hierarchy → ℕ → ℕ → Standing → Message
tells_holder h from d r = tells h from (unwrap_or (holder_station h r.holder) 0) d r

-- a holder asks the domain's keeper
abbrev pub request : ℕ → Holder → Due → Body
request d who (Take s) = body.Take d who s
request d who (Drop e) = body.Drop d who e
request d who (Run e n c) = body.Run d who e n c

-- the same as a datagram
abbrev pub requests : Hierarchy → ℕ → Holder → ℕ → Due → Message
requests h from who d due = says h from (home h d) (request d who due)

-- all that a link is due, the oldest command first
abbrev pub all_due : Link → List Due
all_due l = filter_map (due_of l) (range_with_len 0 most_pending)

-- all of it as datagrams
abbrev pub requests_due : Hierarchy → ℕ → Holder → ℕ → Link → List Message
requests_due h from who d l = map (requests h from who d) (all_due l)

-- the newest that a link is due
abbrev pub newest_due : Link → Option Due
newest_due l = due_of l (length (pending_of l) - 1)

-- a list of what is there
abbrev pub if_any : {X : Type 0} → Option X → List X
if_any None = []
if_any (Some x) = x ∷ []

-- the newest of it as a datagram
abbrev pub request_newest : Hierarchy → ℕ → Holder → ℕ → Link → List Message
request_newest h from who d l = if_any (option_map (requests h from who d) (newest_due l))

-- a station asks about a domain
abbrev pub asks_about : Hierarchy → ℕ → ℕ → Message
asks_about h from d = says h from (home h d) (body.Ask d)

-- a station watches an object, since its boot
abbrev pub watches : Hierarchy → ℕ → ℕ → ℕ → Message
watches h from boot x = says h from (object_home h x) (body.Watch x boot)

-- a station does not watch an object, in its boot
abbrev pub unwatches : Hierarchy → ℕ → ℕ → ℕ → ℕ → Message
unwatches h from boot to x = says h from to (body.Unwatch x boot)

-- what an object shows is told to one who watches it
abbrev pub shows : Hierarchy → ℕ → ℕ → ℕ → Shown → Message
shows h from to echo s = says h from to (body.State s.object echo s.version s.state)
