-- The exit status of a service that would end the same way at its next start, and the ends of which more is told.
use Rattle.std.specs.Prelude.{ℕ, Bool, ◌&&◌, ◌||◌, ◌==◌, if◌then◌else◌}
use Rattle.smi_commands.specs.Status.{status_code}
use Rattle.smi_commands.specs.declared.status.Status.TheVariants.{Fault, Refused}

-- a fault that lasts has a status of its own in a service; any other end keeps its status
abbrev pub final_status : ℕ → Bool → Bool → ℕ
final_status status is_service lasts =
    if status == status_code Fault && (is_service && lasts) then 5 else status

-- more may be told of a command to which an input was refused, and of one that ended with a fault
abbrev pub has_more : ℕ → Bool
has_more status = status == status_code Refused || status == status_code Fault
