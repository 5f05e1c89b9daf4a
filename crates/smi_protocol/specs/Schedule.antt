-- What a schedule makes of the world, item by item, and the trace that it leaves.
use Rattle.std.specs.Prelude.{ℕ, ◌+◌, ◌-◌, ◌==◌, ◌&&◌, not, Bool, true, false, if◌then◌else◌, List, [], ◌∷◌, ◌++◌}
use Rattle.std.specs.Prelude.{length, map, slice_get, Option, Some, None, option_map, is_some}
use Rattle.std.specs.List.{flat_map, range_with_len}
use Rattle.smi_message.specs.Message.{Message, last_boot}
use Rattle.smi_base.specs.Between.{is_between}
use Rattle.smi_tree.specs.Hierarchy.{Hierarchy}
use Rattle.smi_tree.specs.Lookups.{station_count, domain_count, operator_station_of}
use Rattle.smi_tree.specs.Roles.{keeper_of}
use Rattle.smi_rows.specs.declared.Plan.{Plan}
use Rattle.smi_rows.specs.declared.Plan.TheVariants as plan
use Rattle.smi_protocol.specs.declared.entry.Entry.{Entry}
use Rattle.smi_protocol.specs.Display.{Station}
use Rattle.smi_protocol.specs.Grants.{put}
use Rattle.smi_protocol.specs.Happening.{Happening, Comes, Orders, Reports, Ticks, answer, told_entry}
use Rattle.smi_protocol.specs.Opening.{first_opened, opened, opening_entries, saved_only}
use Rattle.smi_protocol.specs.Step.{Outcome, after, ordered_or_reported}
use Rattle.smi_protocol.specs.declared.item.Deed.{Deed}
use Rattle.smi_protocol.specs.declared.item.Deed.TheVariants as deed
use Rattle.smi_protocol.specs.declared.item.Moment.TheVariants as moment
use Rattle.smi_protocol.specs.declared.item.Item.{Item}
use Rattle.smi_protocol.specs.declared.item.Item.TheVariants as item
use Rattle.smi_protocol.specs.declared.item.Line.{Line}
use Rattle.smi_protocol.specs.declared.item.Line.TheVariants as line

-- the stations, and all datagrams that were ever sent, in their order
pub record World : Type 0 where
  pub stations : ℕ → Station
  pub sent : List Message

-- every station has started once
abbrev pub first_world : Hierarchy → World
first_world h = record { stations = first_opened h; sent = [] }

-- what an item makes of the world, what it leaves in the trace, and what it sends
pub record Turn : Type 0 where
  pub world : World
  pub entries : List Entry
  pub sends : List Message

abbrev pub nothing : World → Turn
nothing w = record { world = w; entries = []; sends = [] }

-- a station is another one, with these entries and datagrams
abbrev pub changed : World → ℕ → Station → List Entry → List Message → Turn
changed w number s entries sends = record {
  world = record { stations = put w.stations number s; sent = w.sent ++ sends };
  entries = entries;
  sends = sends;
}

-- What reaches a station, and which one.

-- something reaches a station
pub record Arrival : Type 0 where
  pub station : ℕ
  pub what : Happening

abbrev pub arrival : Happening → ℕ → Arrival
arrival what number = record { station = number; what = what }

-- a datagram reaches its receiver, if the tree has that station
abbrev pub delivery : Hierarchy → Option Message → Option Arrival
delivery h None = None
delivery h (Some m) = if is_between 1 (station_count h) m.to then Some (arrival (Comes m) m.to) else None

-- the datagram that was sent this many before the newest
abbrev pub sent_before : ℕ → List Message → Option Message
sent_before j sent = if is_some (slice_get sent j) then slice_get sent (length sent - 1 - j) else None

-- a report reaches the device's station, an order to the operator's
abbrev pub arrival_at : Hierarchy → Happening → Option Arrival
arrival_at h (Orders o what) = option_map (arrival (Orders o what)) (operator_station_of h o)
arrival_at h (Reports device s) =
    if device == 0 then None else option_map (arrival (Reports device s)) (keeper_of h (domain_count h + device))
arrival_at h (Comes m) = None
arrival_at h Ticks = None

-- what a deed brings to which station, if it brings anything
abbrev pub arrival_of : Hierarchy → World → Deed → Option Arrival
arrival_of h w (deed.Deliver k) = if k == 0 then None else delivery h (slice_get w.sent (k - 1))
arrival_of h w (deed.Recent j) = delivery h (sent_before j w.sent)
arrival_of h w (deed.Order o what) = arrival_at h (ordered_or_reported o what)
arrival_of h w (deed.Report device s) = arrival_at h (Reports device s)
arrival_of h w (deed.Tick number) = Some (arrival Ticks number)

-- What a station does.

-- a station that runs makes its step
abbrev pub stepped : World → ℕ → Outcome → Turn
stepped w number o = changed w number o.station (o.kept ++ o.after) o.out.datagrams

abbrev pub done_by : Hierarchy → World → Option Arrival → Turn
done_by h w None = nothing w
done_by h w (Some x) =
    if (w.stations x.station).is_stopped then nothing w
    else stepped w x.station (after h x.station (w.stations x.station) x.what)

-- a station starts once more, while boots are left
abbrev pub restarted : Hierarchy → World → ℕ → List Entry → Station → Turn
restarted h w number kept s =
    if s.grants.boot == last_boot then changed w number (record s { is_stopped = true }) kept []
    else changed w number (opened h number s.grants) (kept ++ opening_entries h number (opened h number s.grants)) []

-- it is this station that makes a step
abbrev pub is_at : World → ℕ → Option Arrival → Bool
is_at w number None = false
is_at w number (Some x) = x.station == number && not (w.stations number).is_stopped

-- a station stops after its save, and starts again
abbrev pub stopped_behind : Hierarchy → World → ℕ → Option Arrival → Turn
stopped_behind h w number None = restarted h w number [] (w.stations number)
stopped_behind h w number (Some x) =
    if is_at w number (Some x)
    then restarted h w number (after h number (w.stations number) x.what).kept
    (saved_only h number (w.stations number) x.what)
    else restarted h w number [] (w.stations number)

-- an order whose row was not saved is answered 31
abbrev pub not_stored : Happening → List Entry
not_stored (Orders o what) = told_entry (answer o what 31) ∷ []
not_stored (Comes m) = []
not_stored (Reports device s) = []
not_stored Ticks = []

-- a save fails: the row is unchanged, or nobody knows, and the station stops
abbrev pub failed : Hierarchy → World → ℕ → Happening → Plan → Turn
failed h w number what plan.Device = changed w number (w.stations number) (not_stored what) []
failed h w number what plan.Before = changed w number (record (w.stations number) { is_stopped = true }) [] []
failed h w number what plan.After =
    changed w number (saved_only h number (w.stations number) what) (after h number (w.stations number) what).kept []

-- a step that saves nothing can't fail
abbrev pub failing : Hierarchy → World → ℕ → Option Arrival → Plan → Turn
failing h w number None how = nothing w
failing h w number (Some x) how =
    if is_at w number (Some x)
    then (if is_some (after h number (w.stations number) x.what).saved then failed h w number x.what how
    else done_by h w (Some x))
    else nothing w

abbrev pub turn : Hierarchy → World → Item → Turn
turn h w (item.Do what) = done_by h w (arrival_of h w what)
turn h w (item.Restart number) = restarted h w number [] (w.stations number)
turn h w (item.Stop number moment.Before what) = restarted h w number [] (w.stations number)
turn h w (item.Stop number moment.After what) = stopped_behind h w number (arrival_of h w what)
turn h w (item.Fail number how what) = failing h w number (arrival_of h w what) how

-- The trace.

-- datagrams are numbered as they are sent
abbrev pub sent_lines : ℕ → List Message → List Line
sent_lines number [] = []
sent_lines number (m ∷ more) = line.Sent number m ∷ sent_lines (number + 1) more

abbrev pub lines_of : World → Turn → List Line
lines_of w t = map line.Entry t.entries ++ sent_lines (length w.sent + 1) t.sends

-- all stations start, by number
abbrev pub opening_of : Hierarchy → List Entry
opening_of h = flat_map (λ number. opening_entries h number (first_opened h number))
    (range_with_len 1 (station_count h))

abbrev pub opening_lines : Hierarchy → List Line
opening_lines h = map line.Entry (opening_of h)

abbrev pub trace_from : Hierarchy → World → List Item → List Line
trace_from h w [] = []
trace_from h w (x ∷ more) = lines_of w (turn h w x) ++ trace_from h (turn h w x).world more

-- the trace that a schedule makes: the opening, and then the lines of each item
abbrev pub trace_of : Hierarchy → List Item → List Line
trace_of h items = opening_lines h ++ trace_from h (first_world h) items

-- the entries of a trace alone
abbrev pub entries_of : List Line → List Entry
entries_of [] = []
entries_of (line.Entry x ∷ more) = x ∷ entries_of more
entries_of (line.Sent number m ∷ more) = entries_of more
