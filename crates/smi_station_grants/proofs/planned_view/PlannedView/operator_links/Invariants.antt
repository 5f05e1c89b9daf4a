use Rattle.std.proofs.Common.{◌≡◌, ◌≤◌, length}
use Rattle.std.specs.List.{filter_map, range_with_len}
use Rattle.smi_grant.specs.declared.Holder.TheVariants.{Operator}
use Rattle.smi_rows.specs.declared.Mode.TheVariants.{Included}
use Rattle.smi_protocol.specs.SavedRows.{stored_if}
use Rattle.smi_station_grants.specs.Change.{after_of}
use Rattle.smi_station_grants.proofs.planned_view.PlannedView.operator_links.Given as goal

-- the links of the first domains
abbrev pub invariant-loop-place : goal.invariant-loop-place
invariant-loop-place l = record {
  all : l.links.items ≡ filter_map (λ d. stored_if d ((after_of l.self).links (Operator l.operator) d) Included)
      (range_with_len 1 l.place);
  few : length l.links.items ≤ l.place;
}
