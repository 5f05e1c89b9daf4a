-- How a command, a take or a drop ended, in numbers.
use Rattle.std.specs.Prelude.{ℕ}
use Rattle.smi_grant.specs.declared.outcome.Outcome.{Outcome}
use Rattle.smi_grant.specs.declared.outcome.Outcome.TheVariants as outcome

abbrev pub outcome_code : Outcome → ℕ
outcome_code outcome.Done = 0
outcome_code outcome.NotAccepted = 1
outcome_code outcome.NotBelow = 2
outcome_code outcome.InThatMode = 3
outcome_code outcome.ChildNotHeld = 4
outcome_code outcome.HeldByAnother = 5
outcome_code outcome.NotHandedOn = 6
outcome_code outcome.ChildNumbersUsed = 7
outcome_code outcome.Unseen = 8
outcome_code outcome.EpochsUsed = 9
