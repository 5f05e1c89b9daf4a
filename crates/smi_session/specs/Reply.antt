-- What a session is told of the whole node.
use Rattle.std.specs.Prelude.{ℕ, zero, suc, ◌≡◌, ◌+◌, ◌-◌, ◌/◌, ◌^◌, min, ◌++◌, List, [], ◌∷◌, codes, length, Option}
use Rattle.std.specs.Prelude.{Some, None, false}
use Rattle.std.specs.Fmt.{decimal}
use Rattle.std.specs.Time.{instant_nanos}
use Rattle.std.specs.declared.time.Instant.{Instant}
use Rattle.smi_tree.specs.Hierarchy.{Hierarchy}
use Rattle.smi_tree.specs.Lookups.{device_count, domain_count}
use Rattle.smi_schedule.specs.Node.{board_text, waiting_text}
use Rattle.smi_view.specs.Pictured.{Pictured, object_of}
use Rattle.smi_view.specs.declared.sight.Sight.{Sight}
use Rattle.smi_session.specs.Mode.{mode_text}
use Rattle.smi_session.specs.Query.{numbers_in}
use Rattle.smi_session.specs.Request.{behind_first}
use Rattle.smi_session.specs.SeatQueue.{SeatQueueState}
use Rattle.smi_session.specs.SeatTable.{SeatTableState}
use Rattle.smi_session.specs.Service.{ServiceState}
use Rattle.smi_session.specs.Session.{OnlyReplies, SessionState, with_reply}
use Rattle.smi_session.specs.Subscription.{SubscriptionState, subscription_of, tag_for}
use Rattle.smi_session.specs.declared.mode.ChildState.{ChildState}
use Rattle.smi_session.specs.declared.query.Query.{Query}
use Rattle.smi_session.specs.declared.query.Query.TheVariants.{Counts, UnderWay, States, Follow, Actions, Modes}
use Rattle.smi_session.specs.declared.query.Query.TheVariants.{Version, Help}
use Rattle.smi_session.specs.declared.session.Deferred.{Deferred}
use Rattle.smi_session.specs.declared.seat_queue.PendingOrder.{PendingOrder}
use Rattle.smi_session.specs.declared.tag.Tag.{Tag}

-- a line that counts what stood before it
abbrev pub with_count : Option Tag → List ℕ → ℕ → SessionState → SessionState
with_count tag what count s = with_reply tag (what ++ 32 ∷ decimal count ++ 10 ∷ []) s

-- the version of the program
abbrev pub with_version : Option Tag → SessionState → SessionState
with_version tag s = with_reply tag (codes "version 0.9\n") s

-- The newest states.

-- the newest state of an object, if one is known
abbrev pub with_state : Hierarchy → Option Tag → ℕ → Option Sight → SessionState → SessionState
with_state h tag object None s = s
with_state h tag object (Some seen) s = with_reply tag (board_text h object (Some seen.shown)) s

-- of this many objects, by rising number
abbrev pub with_states : Hierarchy → Option Tag → Pictured → ℕ → SessionState → SessionState
with_states h tag p zero s = s
with_states h tag p (suc n) s = with_state h tag (suc n) (object_of p (suc n)) (with_states h tag p n s)

abbrev pub one_if_seen : Option Sight → ℕ
one_if_seen None = 0
one_if_seen (Some seen) = 1

-- of how many of them one is known
abbrev pub states_known : Pictured → ℕ → ℕ
states_known p zero = 0
states_known p (suc n) = states_known p n + one_if_seen (object_of p (suc n))

-- the same of an object that a session follows
abbrev pub with_followed_one : Hierarchy → ℕ → Option (Option Tag) → Option Sight → SessionState → SessionState
with_followed_one h object None had s = s
with_followed_one h object (Some tag) had s = with_state h tag object had s

abbrev pub with_followed : Hierarchy → Pictured → ℕ → SessionState → SessionState
with_followed h p zero s = s
with_followed h p (suc n) s =
    with_followed_one h (suc n) (tag_for (with_followed h p n s).states (suc n)) (object_of p (suc n))
    (with_followed h p n s)

-- The orders that are under way.

-- whole seconds since an order was given, none if the clock could not be read
abbrev pub seconds_since : Option Instant → Option Instant → ℕ
seconds_since (Some now) (Some since) = (instant_nanos now - instant_nanos since) / 1_000_000_000
seconds_since _ _ = 0

abbrev pub with_pending_one : Hierarchy → Option Tag → Option Instant → ℕ → PendingOrder → SessionState → SessionState
with_pending_one h tag now operator p s =
    with_reply tag (waiting_text h operator p.order (seconds_since now p.since)) s

abbrev pub with_pending : Hierarchy → Option Tag → Option Instant → ℕ → List PendingOrder → SessionState → SessionState
with_pending h tag now operator [] s = s
with_pending h tag now operator (p ∷ more) s =
    with_pending h tag now operator more (with_pending_one h tag now operator p s)

-- reports are not listed
abbrev pub with_queue_of : Hierarchy → Option Tag → Option Instant → Option ℕ → List PendingOrder → SessionState
    → SessionState
with_queue_of h tag now None pending s = s
with_queue_of h tag now (Some operator) pending s = with_pending h tag now operator pending s

abbrev pub with_queues : Hierarchy → Option Tag → Option Instant → List SeatQueueState → SessionState → SessionState
with_queues h tag now [] s = s
with_queues h tag now (q ∷ more) s =
    with_queues h tag now more (with_queue_of h tag now q.operator q.pending s)

abbrev pub listed_in : Option ℕ → List PendingOrder → ℕ
listed_in None pending = 0
listed_in (Some operator) pending = length pending

-- how many orders are listed beside this many, as far as the count goes
abbrev pub listed_beside : ℕ → List SeatQueueState → ℕ
listed_beside count [] = count
listed_beside count (q ∷ more) = listed_beside (min (count + listed_in q.operator q.pending) (2 ^ 64 - 1)) more

-- the same of orders that wait for a seat
abbrev pub with_held_one : Hierarchy → Option Tag → Option Instant → Deferred → SessionState → SessionState
with_held_one h tag now x s = with_queue_of h tag now x.operator (x.pending ∷ []) s

abbrev pub with_held : Hierarchy → Option Tag → Option Instant → List Deferred → SessionState → SessionState
with_held h tag now [] s = s
with_held h tag now (x ∷ more) s = with_held h tag now more (with_held_one h tag now x s)

abbrev pub one_if_listed : Deferred → ℕ
one_if_listed x = listed_in x.operator (x.pending ∷ [])

abbrev pub held_beside : ℕ → List Deferred → ℕ
held_beside count [] = count
held_beside count (x ∷ more) = held_beside (min (count + one_if_listed x) (2 ^ 64 - 1)) more

-- first those that have a seat, then those that wait for one, and how many they are
abbrev pub with_under_way : Hierarchy → Option Tag → Option Instant → SeatTableState → SessionState → SessionState
with_under_way h tag now t s =
    with_count tag (codes "under way") (held_beside (listed_beside 0 t.queues) t.held)
    (with_held h tag now t.held (with_queues h tag now t.queues s))

-- How children are had.

abbrev pub with_modes : Hierarchy → Option Tag → List ChildState → SessionState → SessionState
with_modes h tag [] s = s
with_modes h tag (m ∷ more) s = with_modes h tag more (with_reply tag (mode_text h m) s)

-- What a query asks for from now on.

abbrev pub states_asked : Hierarchy → Option Tag → List (List ℕ) → SubscriptionState
states_asked h tag line = subscription_of h tag false (behind_first line)

abbrev pub actions_asked : Hierarchy → Option Tag → List (List ℕ) → SubscriptionState
actions_asked h tag line =
    subscription_of h tag (numbers_in (behind_first line)).0 (numbers_in (behind_first line)).1

-- at how many devices actions are followed: at those that are named, or at all
abbrev pub followed_count : Hierarchy → Option (List ℕ) → ℕ
followed_count h (Some objects) = length objects
followed_count h None = device_count h

abbrev pub subscribed : Hierarchy → Option Tag → List (List ℕ) → Query → SessionState → SessionState
subscribed h tag line Follow s = record s { states = Some (states_asked h tag line) }
subscribed h tag line Actions s = record s { actions = Some (actions_asked h tag line) }
subscribed h tag line Counts s = s
subscribed h tag line UnderWay s = s
subscribed h tag line States s = s
subscribed h tag line Modes s = s
subscribed h tag line Version s = s
subscribed h tag line Help s = s

-- how many objects there are
abbrev pub objects : Hierarchy → ℕ
objects h = domain_count h + device_count h

-- a query is answered to its session; of the numbers of a node and of what a line may ask, no text is said here
abbrev pub Answers : Hierarchy → Option Instant → Option Tag → List (List ℕ) → Query → ServiceState → SessionState
    → SessionState → Type 0
Answers h now tag line States a c d = d ≡ with_count tag (codes "states") (states_known a.picture (objects h))
    (with_states h tag a.picture (objects h) c)
Answers h now tag line UnderWay a c d = d ≡ with_under_way h tag now a.seats c
Answers h now tag line Follow a c d = d ≡ with_followed h a.picture (objects h) (subscribed h tag line Follow c)
Answers h now tag line Actions a c d =
    d ≡ with_count tag (codes "actions") (followed_count h (actions_asked h tag line).objects)
    (subscribed h tag line Actions c)
Answers h now tag line Modes a c d =
    d ≡ with_count tag (codes "modes") (length a.modes) (with_modes h tag a.modes c)
Answers h now tag line Version a c d = d ≡ with_version tag c
Answers h now tag line Counts a c d = OnlyReplies c d
Answers h now tag line Help a c d = OnlyReplies c d
