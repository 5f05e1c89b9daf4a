-- How much a holder waits for.
use Rattle.std.specs.Prelude.{ℕ, length}
use Rattle.smi_command.specs.declared.Link.{Link}
use Rattle.smi_command.specs.declared.Link.TheVariants.{Out, Taking, Held, Dropping}

-- a take and a drop are one thing to wait for, and so is each pending command
abbrev pub waiting : Link → ℕ
waiting (Out k) = 0
waiting (Taking s) = 1
waiting (Held e n p) = length p
waiting (Dropping e) = 1
