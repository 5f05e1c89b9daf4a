use Rattle.std.proofs.Common.{◌≡◌, ◌≤◌, ◌++◌, drop, length}
use Rattle.std.specs.List.{filter_map}
use Rattle.smi_grant.specs.declared.Holder.TheVariants.{Domain}
use Rattle.smi_protocol.specs.SavedRows.{stored_if}
use Rattle.smi_station_grants.specs.Change.{after_of}
use Rattle.smi_station_grants.proofs.planned_view.PlannedView.child_links.Given as goal

-- what is there and what is left is all
abbrev pub invariant-loop-child : goal.invariant-loop-child
invariant-loop-child l = record {
  all : l.links.items
      ++ filter_map (λ x. stored_if x ((after_of l.self).links (Domain l.domain) x) ((after_of l.self).modes x))
      (drop l.child-index l.children)
      ≡ filter_map (λ x. stored_if x ((after_of l.self).links (Domain l.domain) x) ((after_of l.self).modes x))
      l.children;
  few : length l.links.items ≤ l.child-index;
}
