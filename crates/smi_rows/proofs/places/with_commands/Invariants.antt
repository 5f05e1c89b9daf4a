use Rattle.std.proofs.Common.{◌≡◌, ◌≤◌, ◌+◌, ◌-◌, ◌*◌, ◌++◌, length}
use Rattle.std.specs.Prelude.{option_map}
use Rattle.smi_rows.specs.Reading.{commands_at}
use Rattle.smi_rows.proofs.places.with_commands.Given as goal

-- the commands so far and those that are left are all
abbrev pub invariant-loop-i : goal.invariant-loop-i
invariant-loop-i l = record {
  same : option_map (λ more. l.pending ++ more) (commands_at (l.others - l.i) l.rest)
      ≡ option_map (λ more. l.fn.oldest ++ more) (commands_at l.others l.b);
  long : 4 * (l.others - l.i) ≤ length l.rest;
  few : length l.pending ≤ length l.fn.oldest + l.i;
}
