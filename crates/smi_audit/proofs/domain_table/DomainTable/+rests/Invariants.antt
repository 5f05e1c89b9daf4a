use Rattle.std.proofs.Common.{◌+◌, ◌*◌}
use Rattle.smi_audit.proofs.domain_table.DomainTable.+rests.Given as goal

abbrev pub decreases-is_behind : goal.decreases-is_behind
decreases-is_behind l = 2 * l.levels + 1

abbrev pub decreases-rests : goal.decreases-rests
decreases-rests l = 2 * l.levels
