-- What happens at a station, and what a session is told of it.
use Rattle.std.specs.Prelude.{ℕ, ◌≡◌, ◌≤◌, ◌==◌, Bool, true, false, List, [], ◌∷◌, codes, length, Option, Some}
use Rattle.std.specs.Prelude.{None, option_map, if◌then◌else◌}
use Rattle.std.specs.Fmt.{decimal}
use Rattle.smi_grant.specs.declared.state.Version.{Version}
use Rattle.smi_tree.specs.Hierarchy.{Hierarchy}
use Rattle.smi_schedule.specs.Node.{board_text}
use Rattle.smi_schedule.specs.Text.{line_of}
use Rattle.smi_schedule.specs.TraceWords.{action_word, object_word, state_word, version_word}
use Rattle.smi_view.specs.Accepting.{is_newer}
use Rattle.smi_view.specs.Newest.{ShowsAtLeast}
use Rattle.smi_view.specs.Pictured.{Pictured, object_of}
use Rattle.smi_view.specs.declared.sight.Sight.{Sight}
use Rattle.smi_session.specs.Session.{SessionState, wants_numbers, with_reply}
use Rattle.smi_session.specs.Subscription.{tag_for}
use Rattle.smi_session.specs.declared.station_event.ActionDone.{ActionDone}
use Rattle.smi_session.specs.declared.station_event.StationEvent.{StationEvent}
use Rattle.smi_session.specs.declared.station_event.StationEvent.TheVariants as event
use Rattle.smi_session.specs.declared.tag.Tag.{Tag}

-- the domain, the epoch and the number of the command that an action was done by, if they are asked for
abbrev pub number_words : Hierarchy → Bool → ActionDone → List (List ℕ)
number_words h true done = object_word h done.domain ∷ decimal done.epoch ∷ decimal done.number ∷ []
number_words h false done = []

-- the device, the action, the version and the state of the device then, and the numbers
abbrev pub action_text : Hierarchy → Bool → ActionDone → List ℕ
action_text h has_numbers done = line_of (codes "acted") (object_word h done.shown.object ∷ action_word h done.action
    ∷ version_word done.shown.version ∷ state_word h done.shown.state ∷ number_words h has_numbers done)

-- how many actions are not told
abbrev pub lagged_text : ℕ → List ℕ
lagged_text count = line_of (codes "missed") (decimal count ∷ [])

abbrev pub event_text : Hierarchy → Bool → StationEvent → List ℕ
event_text h has_numbers (event.StateChanged shown) = board_text h shown.object (Some shown)
event_text h has_numbers (event.ActionDone done) = action_text h has_numbers done
event_text h has_numbers (event.Lagged count) = lagged_text count

-- the tag after which a session is told of an event, if it wants to be: a state by the states that it follows, an
-- action by the devices whose actions it follows, and what is not told if it follows any
abbrev pub event_tag : SessionState → StationEvent → Option (Option Tag)
event_tag s (event.StateChanged shown) = tag_for s.states shown.object
event_tag s (event.ActionDone done) = tag_for s.actions done.shown.object
event_tag s (event.Lagged count) = option_map (λ subscription. subscription.tag) s.actions

abbrev pub after_text : Option (Option Tag) → List ℕ → SessionState → SessionState
after_text None text s = s
after_text (Some tag) text s = with_reply tag text s

-- a session is told of an event as it wants to be
abbrev pub after_event : Hierarchy → StationEvent → SessionState → SessionState
after_event h e s = after_text (event_tag s e) (event_text h (wants_numbers s) e) s

-- and of all events, one after the other
abbrev pub after_events : Hierarchy → List StationEvent → SessionState → SessionState
after_events h [] s = s
after_events h (e ∷ more) s = after_events h more (after_event h e s)

-- The states that are told of one object.

-- an event is a state of this object
abbrev pub is_state_of : ℕ → StationEvent → Bool
is_state_of object (event.StateChanged shown) = shown.object == object
is_state_of object (event.ActionDone done) = false
is_state_of object (event.Lagged count) = false

-- the versions of an object's states among events
abbrev pub versions_of : ℕ → List StationEvent → List Version
versions_of object [] = []
versions_of object (event.StateChanged shown ∷ more) =
    if shown.object == object then shown.version ∷ versions_of object more else versions_of object more
versions_of object (event.ActionDone done ∷ more) = versions_of object more
versions_of object (event.Lagged count ∷ more) = versions_of object more

-- each version is newer than the one before, and none is newer than what is had of the object
abbrev pub RiseUpTo : List Version → Option Sight → Type 0
RiseUpTo [] had = Unit {0}
RiseUpTo (v ∷ []) had = ShowsAtLeast v had
RiseUpTo (v ∷ w ∷ more) had = (is_newer w v ≡ true) × RiseUpTo (w ∷ more) had

-- the states of each object among events rise up to what a picture has of it
abbrev pub AreInOrder : Pictured → List StationEvent → Type 0
AreInOrder picture events = (object : ℕ) → 1 ≤ object → object ≤ length picture.objects
    → RiseUpTo (versions_of object events) (object_of picture object)
