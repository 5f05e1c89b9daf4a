use Rattle.smi_station_grants.proofs.load.kept_of.Goals as goal

pub start-requires : goal.start-requires
start-requires c = c.in_ok-kept.ensures.grants
