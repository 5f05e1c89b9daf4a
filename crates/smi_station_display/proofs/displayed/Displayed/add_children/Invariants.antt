use Rattle.std.proofs.Common.{◌≡◌, ◌≤◌, ◌+◌, length, drop, map}
use Rattle.std.specs.Prelude.{filter}
use Rattle.std.specs.Option.{option_map_or}
use Rattle.smi_station_grants.specs.GrantTable.{grants_of}
use Rattle.smi_protocol.specs.Showing.{is_member, member}
use Rattle.smi_view.specs.Accepting.{last_of}
use Rattle.smi_station_display.specs.Members.{added}
use Rattle.smi_station_display.proofs.displayed.Displayed.add_children.Given as goal

-- the children so far are listed
abbrev pub invariant-loop-child : goal.invariant-loop-child
invariant-loop-child l = record {
  all : added l.members (map (λ x. member x (option_map_or (λ s. s.state) (last_of l.self.views x) 0))
      (filter (is_member (grants_of l.kept) l.domain) (drop l.child-index l.children)))
      ≡ added l.initial.members (map (λ x. member x (option_map_or (λ s. s.state) (last_of l.self.views x) 0))
      (filter (is_member (grants_of l.kept) l.domain) l.children));
  few : length l.members.objects ≤ length l.initial.members.objects + l.child-index;
}
