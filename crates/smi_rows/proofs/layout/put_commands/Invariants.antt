use Rattle.std.proofs.Common.{◌≡◌, ◌++◌, drop}
use Rattle.smi_rows.specs.Layout.{commands_bytes}
use Rattle.smi_rows.proofs.layout.put_commands.Given as goal

-- what is there and what is left is all
abbrev pub invariant-loop-command : goal.invariant-loop-command
invariant-loop-command l = l.row.items ++ commands_bytes (drop l.command-index l.commands) ≡ l.initial.row.items
    ++ commands_bytes l.commands
