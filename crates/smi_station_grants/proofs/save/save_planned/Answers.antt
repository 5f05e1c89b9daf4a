use Rattle.std.proofs.Common.{ap, ◌∙◌}
use Rattle.smi_station_grants.specs.Save.{row_with}
use Rattle.smi_station_grants.proofs.save.save_planned.Goals as goal

pub returns-in-Ok-clause-heard : goal.returns-in-Ok-clause-heard
returns-in-Ok-clause-heard g c =
    let ready = rw c.of-after.ensures at c.in-Ok.ensures.row in
    rw (ap (row_with c.in-Ok.key) c.bytes.ensures ∙ ready) at c.save_row.ensures.heard

pub returns-in-Ok-clause-store : goal.returns-in-Ok-clause-store
returns-in-Ok-clause-store g c =
    let ready = rw c.of-after.ensures at c.in-Ok.ensures.row in
    rw (ap (row_with c.in-Ok.key) c.bytes.ensures ∙ ready) at c.save_row.ensures.store

pub returns-in-Ok-clause-memory : goal.returns-in-Ok-clause-memory
returns-in-Ok-clause-memory g c =
    let ready = rw c.of-after.ensures at c.in-Ok.ensures.row in
    rw (ap (row_with c.in-Ok.key) c.bytes.ensures ∙ ready) at c.save_row.ensures.memory
