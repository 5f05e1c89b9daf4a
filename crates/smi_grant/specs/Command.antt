-- Commands, and the numbers that stand for them.
use Rattle.std.specs.Prelude.{ℕ, ◌&&◌, ◌==◌, nat_le, Bool, if◌then◌else◌, Option, Some, None}
use Rattle.smi_base.specs.declared.trees.TheConstants.{MOST_ACTIONS, MOST_DOMAINS}
use Rattle.smi_grant.specs.declared.command.Command.{Command}
use Rattle.smi_grant.specs.declared.command.Command.TheVariants.{Do, Include, Exclude, Manual, Ignore}

abbrev pub verb_of : Command → ℕ
verb_of (Do a) = 1
verb_of (Include t) = 2
verb_of (Exclude t) = 3
verb_of (Manual t) = 4
verb_of (Ignore t) = 5

abbrev pub argument_of : Command → ℕ
argument_of (Do a) = a
argument_of (Include t) = t
argument_of (Exclude t) = t
argument_of (Manual t) = t
argument_of (Ignore t) = t

-- the command of a verb and an argument
abbrev pub command_of : ℕ → ℕ → Option Command
command_of v n =
    if v == 1 then Some (Do n) else (if v == 2 then Some (Include n) else (if v == 3 then Some (Exclude n)
    else (if v == 4 then Some (Manual n) else (if v == 5 then Some (Ignore n) else None))))

-- actions are 1 to 64, targets are domains, 1 to 128
abbrev pub most_argument : Command → ℕ
most_argument (Do a) = MOST_ACTIONS
most_argument (Include t) = MOST_DOMAINS
most_argument (Exclude t) = MOST_DOMAINS
most_argument (Manual t) = MOST_DOMAINS
most_argument (Ignore t) = MOST_DOMAINS

abbrev pub is_in_range : Command → Bool
is_in_range c = nat_le 1 (argument_of c) && nat_le (argument_of c) (most_argument c)
