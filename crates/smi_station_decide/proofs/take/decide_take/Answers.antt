use Rattle.std.proofs.Common.{◌∙◌, ap}
use Rattle.smi_grant.specs.Keeper.{take_after}
use Rattle.smi_station_grants.specs.GrantTable.{grants_of}
use Rattle.smi_station_output.specs.Out.{kept_after}
use Rattle.smi_protocol.specs.Step.{Out}
use Rattle.smi_protocol.proofs.SoundRecords.{take_sound}
use Rattle.smi_station_decide.proofs.Handings.{decided_told, told_after}
use Rattle.smi_station_decide.proofs.take.decide_take.Goals as goal

pub send_record-requires-clause-told : goal.send_record-requires-clause-told
send_record-requires-clause-told c =
    let k = c.args.kept.now in
    told_after k.tree k.number (grants_of k) _ c.take_comes-change.result c.args.domain
    c.record_after-standing.result (c.take_comes-change.ensures.plan c.args.from)
    (take_sound k.tree (grants_of k) c.args.domain c.requires.sound k.number c.args.from _ c.args.holder c.args.seen
    c.requires.party c.requires.holder c.requires.may_hold)
    c.record_after-standing.ensures

pub returns-clause-plan : goal.returns-clause-plan
returns-clause-plan c = c.take_comes-change.ensures.plan c.args.from

pub returns-clause-sent : goal.returns-clause-sent
returns-clause-sent c =
    let k = c.args.kept.now in
    c.set_entries.ensures
    ∙ ap (λ (o : Out). record o { kept = kept_after c.granted.result o.kept }) c.send_record.ensures
    ∙ decided_told k.tree k.number (grants_of k) c.args.from c.args.domain c.args.out.now _
    (take_after ((grants_of k).records c.args.domain) c.args.holder c.args.seen) c.take_comes-change.result
    c.record_after-standing.result c.granted.result
    (c.take_comes-change.ensures.plan c.args.from) c.record_after-standing.ensures
    (c.granted.ensures k.tree k.number (grants_of k)
    c.args.from c.args.seen c.take_comes-change.ensures.change)
