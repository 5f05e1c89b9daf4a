-- What a node reports when a session ends.
use Rattle.std.specs.Prelude.{ℕ, ◌==◌, ◌++◌, List, [], ◌∷◌, codes, set, Option, Some, None}
use Rattle.std.specs.List.{position}
use Rattle.smi_tree.specs.Hierarchy.{Hierarchy, entry}
use Rattle.smi_schedule.specs.Text.{line_of}
use Rattle.smi_schedule.specs.TraceWords.{called, state_word}
use Rattle.smi_session.specs.declared.will.DeviceWill.{DeviceWill}

-- a device and a state
abbrev pub will_text : Hierarchy → DeviceWill → List ℕ
will_text h w = line_of (codes "will") (called (entry h.device_names w.device) w.device ∷ state_word h w.state ∷ [])

abbrev pub placed : Option ℕ → DeviceWill → List DeviceWill → List DeviceWill
placed (Some place) w wills = set wills place w
placed None w wills = wills ++ w ∷ []

-- a session has one will for each device: the newest
abbrev pub with_newest : DeviceWill → List DeviceWill → List DeviceWill
with_newest w wills = placed (position (λ other. other.device == w.device) wills) w wills
