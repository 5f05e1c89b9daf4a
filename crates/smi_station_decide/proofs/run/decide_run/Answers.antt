use Rattle.std.proofs.Common.{◌∙◌, ◌∷◌, [], List, sym, ap}
use Rattle.smi_message.specs.Message.{Message}
use Rattle.smi_station_output.specs.Out.{sent_after}
use Rattle.smi_protocol.specs.Keeping.{child_requests}
use Rattle.smi_protocol.specs.Messages.{tells}
use Rattle.smi_protocol.specs.Step.{Out}
use Rattle.smi_protocol.proofs.SoundSteps.{run_comes_sound}
use Rattle.smi_protocol.proofs.Tables.{put_here}
use Rattle.smi_tree.specs.Lawful.{IsTree}
use Rattle.smi_station_grants.specs.GrantTable.{grants_of}
use Rattle.smi_station_grants.specs.declared.change.Change.TheVariants.{Ran}
use Rattle.smi_station_decide.proofs.Verdicts.{begun_planned}
use Rattle.smi_station_decide.proofs.Handings.{run_told, settled_there, told_after}
use Rattle.smi_station_decide.proofs.Left.{run_left}
use Rattle.smi_station_decide.proofs.Sends.{may_be_asked, requests_known}
use Rattle.smi_station_decide.proofs.run.decide_run.Goals as goal

pub send_record-requires-clause-told : goal.send_record-requires-clause-told
send_record-requires-clause-told c =
    let k = c.args.kept.now in
    let g = grants_of k in
    let b = c.in-Some.begun in
    told_after k.tree k.number g _ (Ran c.args.domain c.args.command b.standing b.code b.children) c.args.domain
    b.standing
    (begun_planned k.tree k.number g c.args.from c.args.domain c.args.holder c.args.epoch c.args.number c.args.command
    b c.requires.domain (rw c.in-Some.is at c.in_ok-begun.ensures.begins))
    (run_comes_sound k.tree k.number g c.requires.sound c.args.from c.args.domain c.args.holder c.args.epoch
    c.args.number c.args.command c.requires.party c.requires.number c.requires.command.range c.requires.command.known)
    (sym (put_here g.records c.args.domain b.standing))

pub send_to_children-requires-clause-asked : goal.send_to_children-requires-clause-asked
send_to_children-requires-clause-asked c =
    let k = c.args.kept.now in
    let g = grants_of k in
    let tree : IsTree k.tree = c.tree-tree.ensures.kept.tree in
    may_be_asked k.tree tree g c.requires.sound c.args.domain
    (settled_there g c.args.domain c.args.holder c.args.epoch c.args.number
    (rw c.in-Some.is at c.in_ok-begun.ensures.begins).0)
    c.args.command c.requires.command c.in-Some.begun.children
    (rw c.in-Some.is at c.in_ok-begun.ensures.begins).1.children

pub returns-in-Some-clause-plan : goal.returns-in-Some-clause-plan
returns-in-Some-clause-plan c =
    let k = c.args.kept.now in
    begun_planned k.tree k.number (grants_of k) c.args.from c.args.domain c.args.holder c.args.epoch c.args.number
    c.args.command c.in-Some.begun c.requires.domain (rw c.in-Some.is at c.in_ok-begun.ensures.begins)

pub returns-in-Some-clause-sent : goal.returns-in-Some-clause-sent
returns-in-Some-clause-sent c =
    let k = c.args.kept.now in
    let g = grants_of k in
    let b = c.in-Some.begun in
    let runs = (rw c.in-Some.is at c.in_ok-begun.ensures.begins).0 in
    let so = (rw c.in-Some.is at c.in_ok-begun.ensures.begins).1.children in
    let plans = begun_planned k.tree k.number g c.args.from c.args.domain c.args.holder c.args.epoch c.args.number
    c.args.command b c.requires.domain (rw c.in-Some.is at c.in_ok-begun.ensures.begins) in
    let is = sym (put_here g.records c.args.domain b.standing) in
    c.send_to_children.ensures
    ∙ ap (λ (ms : List Message). record c.send_record.new.out {
      datagrams = sent_after c.send_record.new.out.datagrams ms;
    }) (requests_known k.tree k.number g c.args.domain c.args.command b.children so)
    ∙ ap (λ (o : Out). record o {
      datagrams = sent_after o.datagrams
          (child_requests k.tree k.number g c.args.domain c.args.command);
    }) (c.send_record.ensures
    ∙ ap (λ (o : Out). record o {
      datagrams = sent_after o.datagrams
          (tells k.tree k.number c.args.from c.args.domain b.standing ∷ []);
    }) c.set_entries.ensures)
    ∙ run_told k.tree k.number g c.args.from c.args.domain c.args.out.now c.args.holder c.args.epoch c.args.number
    c.args.command (Ran c.args.domain c.args.command b.standing b.code b.children) b.standing c.ran.result plans is
    (c.ran.ensures k.tree g so
    ∙ run_left k.tree k.number g c.args.from c.args.domain c.args.holder c.args.epoch c.args.number c.args.command
    (Ran c.args.domain c.args.command b.standing b.code b.children) b.standing plans is runs) runs
