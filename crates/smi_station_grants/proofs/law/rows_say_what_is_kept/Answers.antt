use Rattle.smi_station_grants.proofs.Restarting.{after_stored, anew_stored, event_stored, nothing_stored, opens_stored}
use Rattle.smi_station_grants.proofs.Restarting.{read_stored, start_stored}
use Rattle.smi_station_grants.proofs.SavedAgain.{stays_stored, stored_sound}
use Rattle.smi_station_grants.proofs.law.rows_say_what_is_kept.Goals as goal

pub returns-clause-begins : goal.returns-clause-begins
returns-clause-begins c = nothing_stored

pub returns-clause-reads : goal.returns-clause-reads
returns-clause-reads c = read_stored

pub returns-clause-opens : goal.returns-clause-opens
returns-clause-opens c = opens_stored

pub returns-clause-starts : goal.returns-clause-starts
returns-clause-starts c = start_stored

pub returns-clause-stays : goal.returns-clause-stays
returns-clause-stays c = stays_stored

pub returns-clause-steps : goal.returns-clause-steps
returns-clause-steps c = after_stored

pub returns-clause-events : goal.returns-clause-events
returns-clause-events c = event_stored

pub returns-clause-migrates : goal.returns-clause-migrates
returns-clause-migrates c = anew_stored

pub returns-clause-sound : goal.returns-clause-sound
returns-clause-sound c = stored_sound
