use Rattle.smi_rows.specs.Store.{found_in}
use Rattle.smi_world.proofs.Stepped.{fault_stored}
use Rattle.smi_world.proofs.stepping.step.Goals as goal

pub returns-in-Err-clause-stored : goal.returns-in-Err-clause-stored
returns-in-Err-clause-stored c = λ stored.
    fault_stored c.args.station.now.core c.step.new.self.core (found_in c.args.station.now.store.list)
    (found_in c.step.new.self.store.list) c.in-Err.field-0
    c.in-Err.ensures.kept ((c.in-Err.ensures.store c.requires.runs).kept tt)
    ((c.in-Err.ensures.store c.requires.runs).cause) stored

pub returns-in-Ok-clause-steps : goal.returns-in-Ok-clause-steps
returns-in-Ok-clause-steps c =
    let made = c.in-Ok.ensures.step c.requires.runs in
    record {
      station = made.station;
      out = made.out;
      same = record { tree = made.tree; number = made.number };
    }
