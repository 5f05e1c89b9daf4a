use Rattle.std.proofs.Common.{◌∙◌, ap}
use Rattle.smi_protocol.specs.Showing.{child_members, device_members}
use Rattle.smi_station_grants.specs.GrantTable.{grants_of}
use Rattle.smi_station_display.specs.Displayed.{display_of}
use Rattle.smi_station_display.specs.Members.{Listed, added}
use Rattle.smi_station_display.proofs.Listing.{added_twice, added_first}
use Rattle.smi_station_display.proofs.displayed.Displayed.members.Goals as goal

pub returns : goal.returns
returns c =
    let s = c.args.self.now in
    let devices = device_members s.tree (display_of s).conditions c.args.domain in
    let children = child_members s.tree (grants_of c.args.kept.now) (display_of s).shown c.args.domain in
    c.add_children.ensures
    ∙ ap (λ (m : Listed). added m children) (c.add_devices.ensures.members
    ∙ ap (λ (m : Listed). added m devices) c.new-members.ensures)
    ∙ added_twice _ devices children
    ∙ added_first _
