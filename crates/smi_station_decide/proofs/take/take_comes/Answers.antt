use Rattle.smi_station_decide.proofs.Verdicts.{verdict_planned}
use Rattle.smi_station_decide.proofs.take.take_comes.Goals as goal

pub returns-clause-plan : goal.returns-clause-plan
returns-clause-plan c = λ from. rw (c.handed_by.ensures.change, c.take.ensures, c.record.ensures)
    (verdict_planned _ _ _ from c.args.domain _ _ (record { least = c.requires.least; most = c.requires.most }))
