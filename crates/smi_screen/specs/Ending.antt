-- How a screen ends.
use Rattle.std.specs.Prelude.{ℕ, ◌+◌, min, max, nat_lt, if◌then◌else◌, Bool, true, false, Result, Ok, Err}
use Rattle.smi_screen.specs.declared.observer.ReceiveOutcome.{ReceiveOutcome}
use Rattle.smi_screen.specs.declared.observer.ReceiveOutcome.TheVariants as outcome
use Rattle.smi_screen.specs.declared.screen.Ended.{Ended}
use Rattle.smi_screen.specs.declared.screen.Ended.TheVariants as ended

-- its station has stopped
abbrev pub is_stopped : Ended → Bool
is_stopped ended.Stopped = true
is_stopped _ = false

abbrev pub has_stopped : {X : Type 0} → Result X Ended → Bool
has_stopped (Ok x) = false
has_stopped (Err e) = is_stopped e

-- how many turns in a row the link has failed, after one that ended so
abbrev pub faults_after : ℕ → ReceiveOutcome → ℕ
faults_after faults outcome.Fault = min (faults + 1) 4294967295
faults_after faults outcome.Something = 0
faults_after faults outcome.Nothing = 0

-- a hundred of them end the screen, and fewer do not
abbrev pub most_faults : ℕ
most_faults = 100

abbrev pub after_faults : ℕ → Result (Unit {0}) Ended
after_faults faults = if nat_lt faults most_faults then Ok tt else Err ended.Link

-- The time of a turn never goes back. It is that of the clock, in milliseconds, as far as a number of 64 bits counts.
abbrev pub time_at : (now passed : ℕ) → ℕ
time_at now passed = if nat_lt passed 18446744073709551616 then max now passed else now

-- all its turns were made, or it ended with a fault
abbrev pub end_of : Result (Unit {0}) Ended → Ended
end_of (Ok u) = ended.Turns
end_of (Err e) = e

-- a fault that may come before the first turn of a station that is open and has an operator
abbrev pub IsOfStart : Ended → Type 0
IsOfStart ended.Memory = Unit {0}
IsOfStart ended.Link = Unit {0}
IsOfStart ended.Listener = Unit {0}
IsOfStart ended.History = Unit {0}
IsOfStart _ = ⊥
