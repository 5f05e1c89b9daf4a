-- What a person is told after a wrong line.
use Rattle.std.specs.Prelude.{ℕ, Bool, ◌&&◌, ◌==◌, if◌then◌else◌, List, [], codes}
use Rattle.smi_commands.specs.Status.{status_code}
use Rattle.smi_commands.specs.declared.status.Status.TheVariants.{WrongLine}

-- where help is, for a person at a terminal who typed a wrong line; nothing for anybody else
abbrev pub help_after : ℕ → Bool → List ℕ
help_after status is_terminal =
    if status == status_code WrongLine && is_terminal then codes "help: man smi\n" else []
