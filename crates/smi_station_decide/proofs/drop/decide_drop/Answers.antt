use Rattle.std.proofs.Common.{◌∙◌, ap}
use Rattle.smi_grant.specs.Keeper.{drop_after}
use Rattle.smi_station_grants.specs.GrantTable.{grants_of}
use Rattle.smi_station_output.specs.Out.{kept_after}
use Rattle.smi_protocol.specs.Step.{Out}
use Rattle.smi_protocol.proofs.SoundRecords.{drop_sound}
use Rattle.smi_station_decide.proofs.Handings.{decided_told, told_after}
use Rattle.smi_station_decide.proofs.drop.decide_drop.Goals as goal

pub send_record-requires-clause-told : goal.send_record-requires-clause-told
send_record-requires-clause-told c =
    let k = c.args.kept.now in
    told_after k.tree k.number (grants_of k) _ c.drop_comes-change.result c.args.domain
    c.record_after-standing.result (c.drop_comes-change.ensures.plan c.args.from)
    (drop_sound k.tree (grants_of k) c.args.domain c.requires.sound k.number c.args.from _ c.args.holder c.args.epoch
    c.requires.party)
    c.record_after-standing.ensures

pub returns-clause-plan : goal.returns-clause-plan
returns-clause-plan c = c.drop_comes-change.ensures.plan c.args.from

pub returns-clause-sent : goal.returns-clause-sent
returns-clause-sent c =
    let k = c.args.kept.now in
    c.set_entries.ensures
    ∙ ap (λ (o : Out). record o { kept = kept_after c.freed.result o.kept }) c.send_record.ensures
    ∙ decided_told k.tree k.number (grants_of k) c.args.from c.args.domain c.args.out.now _
    (drop_after ((grants_of k).records c.args.domain) c.args.holder c.args.epoch) c.drop_comes-change.result
    c.record_after-standing.result c.freed.result
    (c.drop_comes-change.ensures.plan c.args.from) c.record_after-standing.ensures
    (c.freed.ensures k.tree k.number (grants_of k)
    c.args.from c.args.holder c.args.epoch c.drop_comes-change.ensures.change)
