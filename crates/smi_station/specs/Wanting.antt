-- What a step may want memory for: the bytes of a row that is saved, and an entry for a new watcher.
use Rattle.std.specs.Prelude.{ℕ, ◌||◌, Bool, false, is_some, Option, Some, None, Result, Ok, Err}
use Rattle.smi_tree.specs.Hierarchy.{Hierarchy}
use Rattle.smi_message.specs.Message.{Message}
use Rattle.smi_message.specs.Spelling.{reading}
use Rattle.smi_message.specs.declared.Bad.{Bad}
use Rattle.smi_message.specs.declared.Body.{Body}
use Rattle.smi_message.specs.declared.Body.TheVariants.{Watch}
use Rattle.smi_rows.specs.Store.{Saved}
use Rattle.smi_protocol.specs.Display.{Display}
use Rattle.smi_protocol.specs.Refusals.{refusal_of_message}
use Rattle.smi_protocol.specs.declared.event.Event.{Event}
use Rattle.smi_protocol.specs.declared.event.Event.TheVariants as event
use Rattle.smi_station_display.specs.Listening.{adds_watcher}

-- a datagram's body is a watch that adds an entry
abbrev pub adds : Display → ℕ → Body → Bool
adds s from (Watch x echo) = adds_watcher s from x echo
adds s from other = false

-- and is not refused
abbrev pub unless_refused : Option ℕ → Bool → Bool
unless_refused None b = b
unless_refused (Some code) b = false

abbrev pub adds_taken : Hierarchy → ℕ → Display → Message → Bool
adds_taken h number s m = unless_refused (refusal_of_message h number m) (adds s m.from m.body)

-- bytes that read as such a datagram
abbrev pub adds_read : Hierarchy → ℕ → Display → Result Message Bad → Bool
adds_read h number s (Ok m) = adds_taken h number s m
adds_read h number s (Err bad) = false

-- no other event adds one
abbrev pub adds_by : Hierarchy → ℕ → Display → Event → Bool
adds_by h number s (event.Datagram bytes) = adds_read h number s (reading bytes.now)
adds_by h number s other = false

-- this row is saved, or an entry added
abbrev pub wants_memory : Option Saved → Bool → Bool
wants_memory row entry = is_some row || entry
