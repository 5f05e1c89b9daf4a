-- What a station may send, at any moment and any number of times.
use Rattle.std.specs.Prelude.{ℕ, ◌≡◌, true, false, Some, slice_get}
use Rattle.smi_grant.specs.declared.Holder.{Holder}
use Rattle.smi_message.specs.declared.Body.{Body}
use Rattle.smi_message.specs.declared.Body.TheVariants as body
use Rattle.smi_message.specs.Message.{Message}
use Rattle.smi_tree.specs.Hierarchy.{Hierarchy}
use Rattle.smi_command.specs.declared.Due.{Due}
use Rattle.smi_command.specs.declared.Due.TheVariants.{Take, Drop, Run}
use Rattle.smi_command.specs.Link.{due_of}
use Rattle.smi_publish.specs.Published.{shown_at}
use Rattle.smi_watchers.specs.Watching.{listed, watcher}
use Rattle.smi_protocol.specs.Grants.{Grants}
use Rattle.smi_protocol.specs.Display.{Station}
use Rattle.smi_protocol.specs.Messages.{home, object_home}
use Rattle.smi_tree.specs.Roles.{holder_station, is_keeper}
use Rattle.smi_protocol.specs.Watching.{is_watched}

-- a link of a holder of the station is due this
abbrev pub IsDue : Hierarchy → ℕ → Grants → Holder → ℕ → Due → Type 0
IsDue h number g who d due = (holder_station h who ≡ Some number) × ((i : ℕ) × (due_of (g.links who d) i ≡ Some due))

-- the station at this place of the list watches an object since its boot
abbrev pub IsWatchedBy : Station → ℕ → ℕ → ℕ → Type 0
IsWatchedBy s x station echo = (i : ℕ) × (slice_get (listed s.display.watchers x) i ≡ Some (watcher station echo))

-- the present record of a domain that it keeps; what its links are due; questions; its watches in its own boot;
-- and what its objects show, to those who watch them
abbrev pub MaySay : Hierarchy → ℕ → Station → ℕ → Body → Type 0
MaySay h number s to (body.Tell d r) = (is_keeper h number d ≡ true) × (r ≡ s.grants.records d)
MaySay h number s to (body.Take d who seen) = (to ≡ home h d) × IsDue h number s.grants who d (Take seen)
MaySay h number s to (body.Drop d who e) = (to ≡ home h d) × IsDue h number s.grants who d (Drop e)
MaySay h number s to (body.Run d who e n c) = (to ≡ home h d) × IsDue h number s.grants who d (Run e n c)
MaySay h number s to (body.Ask d) = to ≡ home h d
MaySay h number s to (body.Watch x echo) =
    (to ≡ object_home h x) × (is_watched h number s.display x ≡ true) × (echo ≡ s.grants.boot)
MaySay h number s to (body.Unwatch x echo) = (is_watched h number s.display x ≡ false) × (echo ≡ s.grants.boot)
MaySay h number s to (body.State x echo v state) =
    (shown_at s.grants.boot s.display.conditions x ≡ Some (record { object = x; version = v; state = state }))
    × IsWatchedBy s x to echo

-- a datagram that a station may send
abbrev pub MaySend : Hierarchy → ℕ → Station → Message → Type 0
MaySend h number s m = (m.from ≡ number) × (m.tree ≡ h.number) × MaySay h number s m.to m.body
