-- What is known at the first look of a day: who reads from there on knows the state of everything.
use Rattle.std.specs.Prelude.{ℕ, ◌+◌, ◌++◌, List, [], ◌∷◌, Option, Some, None, codes}
use Rattle.std.specs.Fmt.{decimal}
use Rattle.smi_tree.specs.Hierarchy.{Hierarchy}
use Rattle.smi_tree.specs.Lookups.{domain_count, device_count}
use Rattle.smi_schedule.specs.TraceWords.{device_word, domain_word}
use Rattle.smi_view.specs.Pictured.{Pictured, domain_of, object_of}
use Rattle.smi_view.specs.declared.Hearing.{Hearing}
use Rattle.smi_view.specs.declared.Sight.{Sight}
use Rattle.smi_history.specs.declared.history.HistoryNote.{HistoryNote}
use Rattle.smi_history.specs.declared.look_time.LookTime.{LookTime}
use Rattle.smi_history.specs.LookTime.{clock_at}
use Rattle.smi_history.specs.Looking.{board_text, each, note_of, standing_text}

-- since when something is so
abbrev pub since_text : LookTime → ℕ → List ℕ
since_text m at = codes "since " ++ decimal (clock_at m at) ++ codes " "

-- in which state an object is, and since when
abbrev pub known_board : Hierarchy → LookTime → List ℕ → Sight → HistoryNote
known_board h m name seen = note_of m.clock (since_text m seen.at ++ board_text h name seen.shown)

abbrev pub known_sight : Hierarchy → LookTime → List ℕ → Option Sight → List HistoryNote
known_sight h m name None = []
known_sight h m name (Some seen) = known_board h m name seen ∷ []

-- the record of a domain, and since when it is so
abbrev pub known_record : Hierarchy → LookTime → ℕ → Hearing → HistoryNote
known_record h m d had = note_of m.clock (since_text m had.since ++ standing_text h d had.«record»)

abbrev pub known_hearing : Hierarchy → LookTime → ℕ → Option Hearing → List HistoryNote
known_hearing h m d None = []
known_hearing h m d (Some had) = known_record h m d had ∷ []

-- of a domain: its state, and its record
unfoldable pub known_of_domain : Hierarchy → Pictured → LookTime → ℕ → List HistoryNote
known_of_domain h p m d =
    known_sight h m (domain_word h d) (object_of p d) ++ known_hearing h m d (domain_of p d)

abbrev pub known_of_device : Hierarchy → Pictured → LookTime → ℕ → List HistoryNote
known_of_device h p m d = known_sight h m (device_word h d) (object_of p (domain_count h + d))

abbrev pub known_of_domains : Hierarchy → Pictured → LookTime → List HistoryNote
known_of_domains h p m = each (known_of_domain h p m) (domain_count h)

abbrev pub known_of_devices : Hierarchy → Pictured → LookTime → List HistoryNote
known_of_devices h p m = each (known_of_device h p m) (device_count h)

-- all domains, and then all devices
abbrev pub known_notes : Hierarchy → Pictured → LookTime → List HistoryNote
known_notes h p m = known_of_domains h p m ++ known_of_devices h p m
