-- How a station starts, and what it is if it stops in the middle of a step.
use Rattle.std.specs.Prelude.{ℕ, ◌+◌, true, false, List, [], ◌∷◌, map, replicate, None}
use Rattle.std.specs.List.{filter_map, range_with_len}
use Rattle.smi_grant.specs.declared.Shown.{Shown}
use Rattle.smi_tree.specs.Hierarchy.{Hierarchy}
use Rattle.smi_tree.specs.Lookups.{domain_count, device_count}
use Rattle.smi_publish.specs.Published.{shown_at}
use Rattle.smi_publish.specs.Publishing.{first_condition}
use Rattle.smi_protocol.specs.Grants.{Grants, no_grants}
use Rattle.smi_protocol.specs.Display.{Display, Station}
use Rattle.smi_protocol.specs.Ticking.{first_place}
use Rattle.smi_protocol.specs.Happening.{Happening}
use Rattle.smi_protocol.specs.Step.{after}
use Rattle.smi_protocol.specs.declared.entry.Entry.{Entry}
use Rattle.smi_protocol.specs.declared.entry.Entry.TheVariants as entry

-- units and devices
abbrev pub object_count : Hierarchy → ℕ
object_count h = domain_count h + device_count h

-- at a start all objects are in their first states, and nothing was heard of anyone
abbrev pub first_display : Hierarchy → ℕ → Display
first_display h number = record {
  conditions = first_condition h number;
  shown = λ x. None;
  named = λ x. false;
  echoes = λ station. 0;
  watchers = replicate (object_count h) [];
  place = first_place;
  asks = λ o. None;
}

-- what a station kept, one boot later
abbrev pub opened : Hierarchy → ℕ → Grants → Station
opened h number g = record {
  grants = record g { boot = g.boot + 1 };
  display = first_display h number;
  is_stopped = false;
}

-- a station that was never started before
abbrev pub first_opened : Hierarchy → ℕ → Station
first_opened h number = opened h number no_grants

-- what all its objects show, by number
abbrev pub all_shown : Hierarchy → Station → List Shown
all_shown h s = filter_map (shown_at s.grants.boot s.display.conditions) (range_with_len 1 (object_count h))

-- what a start leaves in the trace
abbrev pub opening_entries : Hierarchy → ℕ → Station → List Entry
opening_entries h number s = entry.Booted number s.grants.boot ∷ map entry.Passed (all_shown h s)

-- a step that is stopped after its save has changed the grants alone
abbrev pub saved_only : Hierarchy → ℕ → Station → Happening → Station
saved_only h number s what = record s { grants = (after h number s what).station.grants; is_stopped = true }
