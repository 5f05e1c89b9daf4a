-- What may happen next in the world, with every choice open.
use Rattle.std.specs.Prelude.{ℕ, ◌≡◌, ◌≢◌, ◌⊎◌, true, false, List, [], ◌∷◌, ◌++◌}
use Rattle.smi_message.specs.Message.{Message, last_boot}
use Rattle.smi_tree.specs.Hierarchy.{Hierarchy}
use Rattle.smi_protocol.specs.declared.Entry.{Entry}
use Rattle.smi_protocol.specs.declared.Entry.TheVariants as entry
use Rattle.smi_protocol.specs.declared.order.Told.{Told}
use Rattle.smi_protocol.specs.Display.{Station}
use Rattle.smi_protocol.specs.Grants.{put}
use Rattle.smi_protocol.specs.Happening.{Happening, Comes, Orders, Reports, Ticks}
use Rattle.smi_protocol.specs.Opening.{opened, opening_entries, saved_only}
use Rattle.smi_protocol.specs.Sending.{MaySend}
use Rattle.smi_protocol.specs.Step.{after}
use Rattle.smi_protocol.specs.declared.item.Line.{Line}
use Rattle.smi_protocol.specs.Schedule.{World, first_world, opening_of, entries_of}

abbrev pub Among : Message → List Message → Type 0
Among m [] = ⊥
Among m (x ∷ sent) = (m ≡ x) ⊎ Among m sent

-- a datagram that comes was sent, whenever that was
abbrev pub MayCome : World → Happening → Type 0
MayCome w (Comes m) = Among m w.sent
MayCome w (Orders o what) = Unit {0}
MayCome w (Reports device s) = Unit {0}
MayCome w Ticks = Unit {0}

abbrev pub with_station : World → ℕ → Station → World
with_station w number s = record { stations = put w.stations number s; sent = w.sent }

abbrev pub with_sent : World → Message → World
with_sent w m = record { stations = w.stations; sent = w.sent ++ m ∷ [] }

-- One step, with the entries that it leaves, in their order.
pub data Step (h : Hierarchy) (w : World) : List Entry → World → Type 0 where
  -- a station sends a datagram that it may send
  sends : (number : ℕ) (m : Message) → MaySend h number (w.stations number) m → Step h w [] (with_sent w m)
  -- something reaches a station that runs
  steps : (number : ℕ) (what : Happening) → (w.stations number).is_stopped ≡ false → MayCome w what
      → Step h w ((after h number (w.stations number) what).kept ++ (after h number (w.stations number) what).after)
      (with_station w number (after h number (w.stations number) what).station)
  -- the stable change of that alone happens, and the station has stopped
  stops : (number : ℕ) (what : Happening) → (w.stations number).is_stopped ≡ false → MayCome w what
      → Step h w (after h number (w.stations number) what).kept
      (with_station w number (saved_only h number (w.stations number) what))
  -- an operator is told something, and nothing else happens
  tells : (o : ℕ) (what : Told) → Step h w (entry.Told o what ∷ []) w
  -- a station stops, and nothing else happens
  halts : (number : ℕ) → Step h w [] (with_station w number (record (w.stations number) { is_stopped = true }))
  -- a station starts again, while boots are left
  starts : (number : ℕ) → (w.stations number).grants.boot ≢ last_boot
      → Step h w (opening_entries h number (opened h number (w.stations number).grants))
      (with_station w number (opened h number (w.stations number).grants))

-- a trace with these entries after it, one after the other
abbrev pub noted : List Entry → List Entry → List Entry
noted [] past = past
noted (x ∷ new) past = noted new (x ∷ past)

-- a run from the opening, with its trace, the newest entry first
pub data Reaches (h : Hierarchy) : List Entry → World → Type 0 where
  opens : Reaches h (noted (opening_of h) []) (first_world h)
  goes_on : {past new : List Entry} {w next : World} → Reaches h past w → Step h w new next
      → Reaches h (noted new past) next

-- the entries of a trace, the newest first
abbrev pub past_of : List Line → List Entry
past_of lines = noted (entries_of lines) []
