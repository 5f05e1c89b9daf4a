-- What is new in a picture since the look before.
use Rattle.std.specs.Prelude.{ℕ, zero, suc, ◌+◌, ◌-◌, nat_lt, ◌++◌, Bool, true, false, List, [], ◌∷◌}
use Rattle.std.specs.Prelude.{slice_index_or, Option, Some, None, codes, if◌then◌else◌}
use Rattle.smi_grant.specs.declared.state.Shown.{Shown}
use Rattle.smi_grant.specs.Record as grants
use Rattle.smi_tree.specs.Hierarchy.{Hierarchy}
use Rattle.smi_tree.specs.Lookups.{domain_count, device_count}
use Rattle.smi_schedule.specs.TraceWords.{device_word, domain_word}
use Rattle.smi_view.specs.Pictured.{Pictured, domain_of, object_of}
use Rattle.smi_view.specs.declared.Hearing.{Hearing}
use Rattle.smi_view.specs.declared.Sight.{Sight}
use Rattle.smi_history.specs.declared.history.HistoryNote.{HistoryNote}
use Rattle.smi_history.specs.declared.look_time.LookTime.{LookTime}
use Rattle.smi_history.specs.LookTime.{clock_at, is_new}
use Rattle.smi_history.specs.Wording.{record_text, shown_text}

-- what a list has for each number from 1 on, this many
abbrev pub each : {A : Type 0} → (ℕ → List A) → ℕ → List A
each f zero = []
each f (suc n) = each f n ++ f (suc n)

abbrev pub note_of : ℕ → List ℕ → HistoryNote
note_of at text = record { at = at; text = text }

-- a state of an object that was shown
abbrev pub board_text : Hierarchy → List ℕ → Shown → List ℕ
board_text h name shown = codes "board " ++ name ++ shown_text h shown

-- the record of a domain
abbrev pub standing_text : Hierarchy → ℕ → grants.Standing → List ℕ
standing_text h d told = codes "record " ++ domain_word h d ++ record_text h told

-- a state of an object was shown
abbrev pub board_note : Hierarchy → LookTime → List ℕ → Sight → HistoryNote
board_note h m name seen = note_of (clock_at m seen.at) (board_text h name seen.shown)

abbrev pub sight_notes : Hierarchy → ℕ → LookTime → List ℕ → Option Sight → List HistoryNote
sight_notes h from m name None = []
sight_notes h from m name (Some seen) = if is_new from m seen.at then board_note h m name seen ∷ [] else []

-- a record of a domain was told
abbrev pub record_note : Hierarchy → LookTime → ℕ → Hearing → HistoryNote
record_note h m d had = note_of (clock_at m had.since) (standing_text h d had.«record»)

abbrev pub hearing_notes : Hierarchy → ℕ → LookTime → ℕ → Option Hearing → List HistoryNote
hearing_notes h from m d None = []
hearing_notes h from m d (Some had) = if is_new from m had.since then record_note h m d had ∷ [] else []

-- a station may be silent for two seconds
abbrev pub is_silent : Option Hearing → ℕ → Bool
is_silent None now = false
is_silent (Some had) now = nat_lt 2_000 (now - had.heard)

abbrev pub is_silent_in : Pictured → LookTime → ℕ → Bool
is_silent_in p m d = is_silent (domain_of p d) m.now

-- whether the station of a domain was silent at the look before
abbrev pub was_silent : List Bool → ℕ → Bool
was_silent silent zero = false
was_silent silent (suc n) = slice_index_or silent n false

abbrev pub change_note : Hierarchy → LookTime → ℕ → Bool → HistoryNote
change_note h m d is = note_of m.clock ((if is then codes "silent " else codes "heard ") ++ domain_word h d)

abbrev pub silence_notes : Hierarchy → LookTime → ℕ → Bool → Bool → List HistoryNote
silence_notes h m d true true = []
silence_notes h m d true false = change_note h m d false ∷ []
silence_notes h m d false true = change_note h m d true ∷ []
silence_notes h m d false false = []

-- of a domain: its state, its record, and whether its station is silent
unfoldable pub domain_notes : Hierarchy → Pictured → ℕ → LookTime → List Bool → ℕ → List HistoryNote
domain_notes h p from m silent d =
    sight_notes h from m (domain_word h d) (object_of p d)
    ++ hearing_notes h from m d (domain_of p d)
    ++ silence_notes h m d (was_silent silent d) (is_silent_in p m d)

abbrev pub device_notes : Hierarchy → Pictured → ℕ → LookTime → ℕ → List HistoryNote
device_notes h p from m d = sight_notes h from m (device_word h d) (object_of p (domain_count h + d))

abbrev pub domains_notes : Hierarchy → Pictured → ℕ → LookTime → List Bool → List HistoryNote
domains_notes h p from m silent = each (domain_notes h p from m silent) (domain_count h)

abbrev pub devices_notes : Hierarchy → Pictured → ℕ → LookTime → List HistoryNote
devices_notes h p from m = each (device_notes h p from m) (device_count h)

-- all domains, and then all devices
abbrev pub picture_notes : Hierarchy → Pictured → ℕ → LookTime → List Bool → List HistoryNote
picture_notes h p from m silent = domains_notes h p from m silent ++ devices_notes h p from m

-- of which domains the station is silent
abbrev pub silences : Hierarchy → Pictured → LookTime → List Bool
silences h p m = each (λ d. is_silent_in p m d ∷ []) (domain_count h)
