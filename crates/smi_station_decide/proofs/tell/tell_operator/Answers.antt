use Rattle.std.proofs.Common.{◌∙◌, sym, subst, ap}
use Rattle.smi_command.specs.Hearing.{told_link}
use Rattle.smi_command.specs.Pending.{most_pending}
use Rattle.smi_command.specs.declared.Link.{Link}
use Rattle.smi_command.specs.declared.LinkHeard.{LinkHeard}
use Rattle.smi_grant.specs.declared.Holder.TheVariants.{Operator}
use Rattle.smi_grant.proofs.Records.{is_record-facts}
use Rattle.smi_station_grants.specs.GrantTable.{grants_of}
use Rattle.smi_protocol.specs.Sound.{IsLink}
use Rattle.smi_protocol.proofs.SoundOrders.{operator_sound}
use Rattle.smi_protocol.proofs.Tables.{put_link_here}
use Rattle.smi_station_decide.proofs.Sends.{link_due}
use Rattle.smi_station_decide.proofs.tell.tell_operator.Goals as goal

pub send_due-requires-clause-link : goal.send_due-requires-clause-link
send_due-requires-clause-link c =
    let k = c.args.kept.now in
    let g = grants_of k in
    let me = Operator c.args.operator in
    let new = told_link (g.links me c.args.domain) me c.args.news.now in
    let same = ap (λ (z : Link × LinkHeard). z.0) c.told-link.ensures
    ∙ ap (λ (old : Link). told_link old me c.args.news.now) c.link-old.ensures in
    let sound = operator_sound k.tree g c.requires.sound c.args.operator c.args.domain c.args.news.now
    (is_record-facts c.args.news.now c.requires.news) in
    link_due k.tree most_pending c.told-link.result.0
    (subst (IsLink k.tree most_pending) (put_link_here g.links me c.args.domain new ∙ sym same)
    (sound.own c.args.operator c.args.domain))
