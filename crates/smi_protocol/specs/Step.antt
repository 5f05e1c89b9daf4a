-- What one event makes of a station.
use Rattle.std.specs.Prelude.{ℕ, List, [], ◌∷◌, ◌++◌, map, take, Option, Some, None, option_map, Result, Ok, Err}
use Rattle.std.specs.List.{flat_map}
use Rattle.smi_grant.specs.declared.Shown.{Shown}
use Rattle.smi_message.specs.declared.Bad.{Bad}
use Rattle.smi_message.specs.declared.Body.{Body}
use Rattle.smi_message.specs.declared.Body.TheVariants as body
use Rattle.smi_message.specs.Bad.{bad_code}
use Rattle.smi_message.specs.Message.{Message}
use Rattle.smi_message.specs.Spelling.{reading}
use Rattle.smi_tree.specs.Hierarchy.{Hierarchy}
use Rattle.smi_publish.specs.declared.condition.Condition.{Condition}
use Rattle.smi_rows.specs.Store.{Saved}
use Rattle.smi_protocol.specs.Grants.{Grants}
use Rattle.smi_protocol.specs.Display.{Display, Station}
use Rattle.smi_protocol.specs.Happening.{Happening, Comes, Orders, Reports, Ticks, answer, told_entries}
use Rattle.smi_protocol.specs.Refusals.{refusal_of}
use Rattle.smi_protocol.specs.GrantStep.{GrantStep}
use Rattle.smi_protocol.specs.GrantsOf.{grant_step}
use Rattle.smi_protocol.specs.Watching.{Notice, unnoticed, watch_comes, unwatch_comes, state_comes, told_state}
use Rattle.smi_protocol.specs.Watching.{record_comes, order_noticed}
use Rattle.smi_protocol.specs.Ticking.{most_sent, tick_noticed}
use Rattle.smi_protocol.specs.Showing.{members_of, domain_of_happening, moved_by, followed, passed_in, shown_to_all}
use Rattle.smi_protocol.specs.Showing.{is_spent}
use Rattle.smi_protocol.specs.SavedRows.{saved_row}
use Rattle.smi_protocol.specs.declared.event.Event.{Event}
use Rattle.smi_protocol.specs.declared.event.Event.TheVariants as event
use Rattle.smi_protocol.specs.declared.event.Heard.{Heard}
use Rattle.smi_protocol.specs.declared.event.Heard.TheVariants.{Refused, Same, Done}
use Rattle.smi_protocol.specs.declared.order.Answer.{Answer}
use Rattle.smi_protocol.specs.declared.order.Mark.{Mark}
use Rattle.smi_protocol.specs.declared.order.Order.{Order}
use Rattle.smi_protocol.specs.declared.order.Order.TheVariants as order
use Rattle.smi_protocol.specs.declared.entry.Entry.{Entry}
use Rattle.smi_protocol.specs.declared.entry.Entry.TheVariants as entry

-- what a step hands out: beside what is sent, answered, issued and shown, what its save leaves in the trace, and the
-- states that the station's objects pass through
pub record Out : Type 0 where
  pub datagrams : List Message
  pub answers : List Answer
  pub issued : Option Mark
  pub shown : Option Shown
  pub kept : List Entry
  pub passed : List Shown

-- nothing is handed out
abbrev pub nothing_out : Out
nothing_out = record { datagrams = []; answers = []; issued = None; shown = None; kept = []; passed = [] }

-- what a step is: the station afterwards, what it made of the event, the row that it saved, what it hands out,
-- and what it leaves in the trace: by the save, and after it
pub record Outcome : Type 0 where
  pub station : Station
  pub heard : Heard
  pub saved : Option Saved
  pub out : Out
  pub kept : List Entry
  pub after : List Entry

-- Refused.

-- a refused order is answered at once
abbrev pub refusal_answers : Happening → ℕ → List Answer
refusal_answers (Orders o what) code = answer o what code ∷ []
refusal_answers (Comes m) code = []
refusal_answers (Reports device s) code = []
refusal_answers Ticks code = []

-- nothing changes, and the code is answered
abbrev pub refused : Station → ℕ → List Answer → Outcome
refused s code answers = record {
  station = s;
  heard = Refused code;
  saved = None;
  out = record nothing_out { answers = answers };
  kept = [];
  after = told_entries answers;
}

-- Not refused.

-- what a datagram does to the display
abbrev pub body_noticed : Hierarchy → ℕ → ℕ → Display → ℕ → Body → Notice
body_noticed h number boot s from (body.Tell d r) = record_comes h number s d r
body_noticed h number boot s from (body.Watch x echo) = watch_comes h number boot s from x echo
body_noticed h number boot s from (body.State x echo v state) =
    state_comes h number boot s from echo (told_state x v state)
body_noticed h number boot s from (body.Unwatch x echo) = unwatch_comes s from x echo
body_noticed h number boot s from _ = unnoticed s

-- what anything that comes does to the display
abbrev pub notice : Hierarchy → ℕ → Grants → Display → Happening → Notice
notice h number g s (Comes m) = body_noticed h number g.boot s m.from m.body
notice h number g s (Orders o what) = order_noticed h number g.boot s o what
notice h number g s (Reports device state) = unnoticed s
notice h number g s Ticks = tick_noticed h number g s

-- the states of the station's objects after the step
abbrev pub conditions_by : Hierarchy → Station → Grants → Display → (ℕ → Option Condition) → Option ℕ → ℕ
    → Option Condition
conditions_by h s grants display moved None = moved
conditions_by h s grants display moved (Some d) =
    followed
    h
    (members_of h s.grants s.display.conditions s.display.shown d)
    (members_of h grants moved display.shown d)
    moved
    d

-- devices move, and then the unit follows
abbrev pub conditions_after : Hierarchy → Station → Grants → Display → Happening → ℕ → Option Condition
conditions_after h s grants display what =
    conditions_by h s grants display (moved_by h s.grants s.display.conditions what) (domain_of_happening h what)

-- done if a row was saved
abbrev pub heard_of : Option Saved → Heard
heard_of None = Same
heard_of (Some row) = Done

-- what it was shown leaves in the trace
abbrev pub showed_entries : ℕ → Option Shown → List Entry
showed_entries number None = []
showed_entries number (Some s) = entry.Showed number s ∷ []

-- the two halves of a step and the states that follow, put together
abbrev pub put_together : Hierarchy → ℕ → Station → GrantStep → Notice → (ℕ → Option Condition) → List Shown → Outcome
put_together h number s g n conditions passed = record {
  station = record {
    grants = g.grants;
    display = record n.display { conditions = conditions };
    is_stopped = is_spent passed;
  };
  heard = heard_of (option_map (saved_row h number g.grants) g.row);
  saved = option_map (saved_row h number g.grants) g.row;
  out = record {
    datagrams = take most_sent (g.sends ++ n.sends ++ flat_map (shown_to_all h number n.display.watchers) passed);
    answers = g.answers ++ n.answers;
    issued = g.issued;
    shown = n.showed;
    kept = g.entries;
    passed = passed;
  };
  kept = g.entries;
  after = showed_entries number n.showed ++ map entry.Passed passed ++ told_entries (g.answers ++ n.answers);
}

-- a step that is not refused
abbrev pub accepted : Hierarchy → ℕ → Station → Happening → Outcome
accepted h number s what =
    let g = grant_step h number s.grants what in
    let n = notice h number s.grants s.display what in
    let conditions = conditions_after h s g.grants n.display what in
    put_together h number s g n conditions (passed_in h s.grants.boot s.display.conditions conditions
    (domain_of_happening h what))

-- a step, refused or not
abbrev pub answered_or : Hierarchy → ℕ → Station → Happening → Option ℕ → Outcome
answered_or h number s what (Some code) = refused s code (refusal_answers what code)
answered_or h number s what None = accepted h number s what

-- what a happening makes of a station that runs
abbrev pub after : Hierarchy → ℕ → Station → Happening → Outcome
after h number s what = answered_or h number s what (refusal_of h number s.grants what)

-- bytes that are no datagram are refused by the first test that they fail
abbrev pub after_reading : Hierarchy → ℕ → Station → Result Message Bad → Outcome
after_reading h number s (Ok m) = after h number s (Comes m)
after_reading h number s (Err bad) = refused s (bad_code bad) []

-- an order that holds a report is that report
abbrev pub ordered_or_reported : ℕ → Order → Happening
ordered_or_reported o (order.Report device s) = Reports device s
ordered_or_reported o what = Orders o what

-- what an event makes of a station that runs
abbrev pub after_event : Hierarchy → ℕ → Station → Event → Outcome
after_event h number s (event.Datagram bytes) = after_reading h number s (reading bytes.now)
after_event h number s (event.Order o what) = after h number s (ordered_or_reported o what)
after_event h number s (event.Report device state) = after h number s (Reports device state)
after_event h number s event.Tick = after h number s Ticks
