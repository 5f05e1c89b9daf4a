use Rattle.smi_station_grants.proofs.save.save_and_apply.Goals as goal

pub returns-in-Ok-clause-grants : goal.returns-in-Ok-clause-grants
returns-in-Ok-clause-grants g c = rw (← c.kept.view_is) c.commit.ensures.grants

pub returns-in-Ok-clause-store : goal.returns-in-Ok-clause-store
returns-in-Ok-clause-store g c = rw (← c.kept.view_is, ← c.in-Ok.is) c.save_planned-saved.ensures.store

pub returns-in-Err-clause-store : goal.returns-in-Err-clause-store
returns-in-Err-clause-store g c = rw (← c.kept.view_is, ← c.in-Err.is) c.save_planned-saved.ensures.store
