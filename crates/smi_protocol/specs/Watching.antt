-- Who watches whom: what a station makes of watches, of the states that it is shown, and of orders to watch.
use Rattle.std.specs.Prelude.{ℕ, ◌==◌, ◌||◌, nat_lt, not, Bool, true, false, if◌then◌else◌, List, [], ◌∷◌, length}
use Rattle.std.specs.Prelude.{map, filter, Option, Some, None}
use Rattle.smi_grant.specs.declared.Shown.{Shown}
use Rattle.smi_grant.specs.declared.Version.{Version}
use Rattle.smi_grant.specs.Record.{Standing}
use Rattle.smi_message.specs.Message.{Message}
use Rattle.smi_tree.specs.Hierarchy.{Hierarchy}
use Rattle.smi_tree.specs.Lookups.{operators_of}
use Rattle.smi_publish.specs.Published.{shown_at}
use Rattle.smi_tree.specs.Roles.{is_child_unit, is_number}
use Rattle.smi_view.specs.declared.Acceptance.{Acceptance}
use Rattle.smi_view.specs.declared.Acceptance.TheVariants.{Accepted}
use Rattle.smi_view.specs.Accepting.{acceptance, last_after}
use Rattle.smi_watchers.specs.declared.Watcher.{Watcher}
use Rattle.smi_watchers.specs.Watching.{most_watchers, listed, others_of, watched, unwatched, left_by}
use Rattle.smi_protocol.specs.Grants.{put}
use Rattle.smi_protocol.specs.Display.{Display}
use Rattle.smi_protocol.specs.Messages.{if_any, shows, unwatches, watches, asks_about, object_home}
use Rattle.smi_protocol.specs.Happening.{answer, answer_asked}
use Rattle.smi_protocol.specs.declared.order.Answer.{Answer}
use Rattle.smi_protocol.specs.declared.order.Order.{Order}
use Rattle.smi_protocol.specs.declared.order.Order.TheVariants as order

-- the display afterwards, but for the states of its own objects; what is sent and told; and what it was shown
pub record Notice : Type 0 where
  pub display : Display
  pub sends : List Message
  pub answers : List Answer
  pub showed : Option Shown

-- nothing changes
abbrev pub unnoticed : Display → Notice
unnoticed s = record { display = s; sends = []; answers = []; showed = None }

-- the display changes, and this is sent and told
abbrev pub noticed : Display → List Message → List Answer → Notice
noticed s sends answers = record { display = s; sends = sends; answers = answers; showed = None }

-- Whom a station watches: the units of its domains' children, and what its operators name.

-- the station watches the object
abbrev pub is_watched : Hierarchy → ℕ → Display → ℕ → Bool
is_watched h number s x = s.named x || is_child_unit h number x

-- A watch comes.

-- the lists before the watch: a station that was started again has left them
abbrev pub lists_before : Display → ℕ → ℕ → List (List Watcher)
lists_before s from echo = if nat_lt (s.echoes from) echo then left_by from s.watchers else s.watchers

-- as many others as may watch the object do so already
abbrev pub is_full : List (List Watcher) → ℕ → ℕ → Bool
is_full lists x from = length (others_of from (listed lists x)) == most_watchers

-- the lists after the watch
abbrev pub lists_after : List (List Watcher) → ℕ → ℕ → ℕ → List (List Watcher)
lists_after lists x from echo = if is_full lists x from then lists else watched lists x from echo

-- it is answered by what the object shows, unless the list is full
abbrev pub watch_answer : Hierarchy → ℕ → ℕ → Display → ℕ → ℕ → ℕ → List Message
watch_answer h number boot s from x echo =
    if is_full (lists_before s from echo) x from then []
    else map (shows h number from echo) (if_any (shown_at boot s.conditions x))

-- an older echo than the greatest is ignored
abbrev pub watch_comes : Hierarchy → ℕ → ℕ → Display → ℕ → ℕ → ℕ → Notice
watch_comes h number boot s from x echo =
    if nat_lt echo (s.echoes from) then unnoticed s
    else noticed
    (record s { echoes = put s.echoes from echo; watchers = lists_after (lists_before s from echo) x from echo })
    (watch_answer h number boot s from x echo)
    []

-- an unwatch ends a watch that is not newer
abbrev pub unwatch_comes : Display → ℕ → ℕ → ℕ → Notice
unwatch_comes s from x echo = noticed (record s { watchers = unwatched s.watchers x from echo }) [] []

-- A state comes.

-- the state of an object that was told
abbrev pub told_state : ℕ → Version → ℕ → Shown
told_state x v state = record { object = x; version = v; state = state }

-- an accepted state is the last that was shown
abbrev pub showed_if : Display → Shown → Acceptance → Notice
showed_if s state Accepted = record {
  display = record s { shown = last_after s.shown Accepted state };
  sends = [];
  answers = [];
  showed = Some state;
}
showed_if s state _ = unnoticed s

-- one that answers an earlier boot is ignored, and one that is not watched is answered so
abbrev pub state_comes : Hierarchy → ℕ → ℕ → Display → ℕ → ℕ → Shown → Notice
state_comes h number boot s from echo state =
    if not (echo == boot) then unnoticed s
    else (if is_watched h number s state.object
    then showed_if s state (acceptance boot (s.shown state.object) echo state.version)
    else noticed s (unwatches h number boot from state.object ∷ []) [])

-- A record comes, and orders.

-- the operator has asked about the domain
abbrev pub has_asked : Display → ℕ → ℕ → Bool
has_asked s d o = is_number (s.asks o) d

-- those who have asked about the domain are answered, and ask no more
abbrev pub record_comes : Hierarchy → ℕ → Display → ℕ → Standing → Notice
record_comes h number s d r =
    noticed
    (record s { asks = λ o. if has_asked s d o then None else s.asks o })
    []
    (map (λ o. answer_asked o d r) (filter (has_asked s d) (operators_of h number)))

-- a later question of an operator takes the place of the open one; a child's unit stays watched
abbrev pub order_noticed : Hierarchy → ℕ → ℕ → Display → ℕ → Order → Notice
order_noticed h number boot s o (order.Ask d) =
    noticed (record s { asks = put s.asks o (Some d) }) (asks_about h number d ∷ []) []
order_noticed h number boot s o (order.Watch x) =
    noticed (record s { named = put s.named x true }) (watches h number boot x ∷ []) (answer o (order.Watch x) 0 ∷ [])
order_noticed h number boot s o (order.Unwatch x) =
    if is_child_unit h number x then noticed s [] (answer o (order.Unwatch x) 0 ∷ [])
    else noticed
    (record s { named = put s.named x false })
    (unwatches h number boot (object_home h x) x ∷ [])
    (answer o (order.Unwatch x) 0 ∷ [])
order_noticed h number boot s o _ = unnoticed s
