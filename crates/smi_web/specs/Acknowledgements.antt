-- The alarms that somebody has acknowledged.
use Rattle.std.specs.Prelude.{ℕ, ◌==◌, ◌&&◌, ◌++◌, Bool, false, List, [], ◌∷◌, Option, Result, Ok, Err}
use Rattle.std.specs.Prelude.{length, codes, bytes_eq, is_some, if◌then◌else◌}
use Rattle.std.specs.List.{list_all, position, remove}
use Rattle.std.specs.Option.{option_map_or}
use Rattle.smi_tree.specs.Declaration.{two_names}
use Rattle.smi_tree.specs.Hierarchy.{Hierarchy}
use Rattle.smi_tree.specs.Name.{number_of}
use Rattle.smi_tree.specs.Text.{words}
use Rattle.smi_tree.specs.declared.fault.Fault.{Fault}
use Rattle.smi_web.specs.declared.acknowledgements.Acknowledgement.{Acknowledgement}
use Rattle.smi_web.specs.declared.acknowledgements.AlarmKind.{AlarmKind}
use Rattle.smi_web.specs.declared.acknowledgements.AlarmKind.TheVariants as alarm
use Rattle.smi_history.specs.Text.{is_plain}
use Rattle.smi_history.specs.Text.{rest_of}

-- the tree has something of this kind and name, which can be in alarm
abbrev pub is_known : Hierarchy → AlarmKind → List ℕ → Bool
is_known h alarm.Device name = is_some (number_of h.device_names name)
is_known h alarm.Domain name = is_some (number_of h.domain_names name)
is_known h alarm.Station name = is_some (number_of h.station_names name)

-- two names: of something of this kind, and of the operator who acknowledges its alarm
abbrev pub is_by_operator : Hierarchy → AlarmKind → Result (List ℕ × List ℕ) Fault → Bool
is_by_operator h k (Ok (name, operator)) = is_known h k name && is_some (number_of h.operator_names operator)
is_by_operator h k (Err fault) = false

abbrev pub is_alarm : Hierarchy → AlarmKind → List ℕ → Bool
is_alarm h k text = is_by_operator h k (two_names (words text))

-- `device`, `domain` or `station`, and then the two names
abbrev pub is_alarm_text : Hierarchy → List ℕ → Bool
is_alarm_text h text =
    option_map_or (is_alarm h alarm.Device)
    (rest_of (codes "device ") text) (option_map_or (is_alarm h alarm.Domain)
    (rest_of (codes "domain ") text) (option_map_or (is_alarm h alarm.Station)
    (rest_of (codes "station ") text) false))

-- what a line acknowledges, if it is plain text, and an alarm and an operator are of the tree
abbrev pub acknowledged_in : List ℕ → Option (List ℕ)
acknowledged_in line = rest_of (codes "acknowledge ") line

abbrev pub is_acknowledgement : Hierarchy → List ℕ → Bool
is_acknowledgement h line = list_all is_plain line && option_map_or (is_alarm_text h) (acknowledged_in line) false

abbrev pub most_acknowledged : ℕ
most_acknowledged = 1024

-- the place of an earlier one of the same words
abbrev pub place_of : List ℕ → List Acknowledgement → Option ℕ
place_of text kept = position (λ a. bytes_eq a.text text) kept

-- if as many are kept as can be, the oldest goes
abbrev pub without_oldest : List Acknowledgement → List Acknowledgement
without_oldest kept = if length kept == most_acknowledged then remove kept 0 else kept

-- one of the same words goes, and if there is none the oldest, if as many are kept as can be
abbrev pub with_room : List ℕ → List Acknowledgement → List Acknowledgement
with_room text kept = option_map_or (λ i. remove kept i) (place_of text kept) (without_oldest kept)

-- the newest is the last
abbrev pub noted : List Acknowledgement → List ℕ → ℕ → List Acknowledgement
noted kept text at = with_room text kept ++ record { text = text; at = at } ∷ []

-- a line is acknowledged at this time, if it is one
abbrev pub acknowledged : List Acknowledgement → List ℕ → ℕ → List Acknowledgement
acknowledged kept line at = option_map_or (λ text. noted kept text at) (acknowledged_in line) kept
