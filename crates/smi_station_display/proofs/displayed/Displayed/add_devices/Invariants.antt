use Rattle.std.proofs.Common.{◌≡◌, ◌≤◌, ◌+◌, length, drop, map}
use Rattle.std.specs.Option.{option_map_or}
use Rattle.smi_protocol.specs.Showing.{member}
use Rattle.smi_publish.specs.Published.{conditions_of}
use Rattle.smi_station_display.specs.Members.{added}
use Rattle.smi_station_display.proofs.displayed.Displayed.add_devices.Given as goal

-- the devices so far are listed
abbrev pub invariant-loop-device : goal.invariant-loop-device
invariant-loop-device l = record {
  all : added l.members (map (λ x. member x (option_map_or (λ c. c.state) (conditions_of l.self.published x) 0))
      (map (λ device. l.domains + device) (drop l.device-index l.devices)))
      ≡ added l.initial.members
      (map (λ x. member x (option_map_or (λ c. c.state) (conditions_of l.self.published x) 0))
      (map (λ device. l.domains + device) l.devices));
  few : length l.members.objects ≤ length l.initial.members.objects + l.device-index;
}
