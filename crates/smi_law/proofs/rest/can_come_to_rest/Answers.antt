-- Stopped stations start, and then all that is under way ends.
use Rattle.std.proofs.Common.{true}
use Rattle.smi_protocol.specs.Schedule.{first_world}
use Rattle.smi_law.specs.World.{opens}
use Rattle.smi_law.specs.Rest.{led}
use Rattle.smi_law.proofs.Rests.{settling, starts_to_rest}
use Rattle.smi_law.proofs.Ways.{led_reached}
use Rattle.smi_law.proofs.rest.can_come_to_rest.Goals as goal

pub returns-clause-worlds : goal.returns-clause-worlds
returns-clause-worlds c = λ h past w tree run boots. (settling true h w _ (starts_to_rest h tree past w run boots)).0

pub returns-clause-schedules : goal.returns-clause-schedules
returns-clause-schedules c = λ h items tree boots.
    let r = led_reached h tree items _ (first_world h) opens in
    (settling true h (led h (first_world h) items) _
    (starts_to_rest h tree r.past (led h (first_world h) items) r.run boots)).0
