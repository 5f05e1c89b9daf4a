use Rattle.std.proofs.Common.{◌∙◌, List, ◌++◌, sym, subst, ap}
use Rattle.std.specs.Prelude.{unwrap_or}
use Rattle.smi_command.specs.Hearing.{told_link}
use Rattle.smi_command.specs.declared.Link.{Link}
use Rattle.smi_command.specs.declared.LinkHeard.{LinkHeard}
use Rattle.smi_grant.specs.declared.Holder.TheVariants.{Domain}
use Rattle.smi_grant.specs.Record.{Standing}
use Rattle.smi_station_grants.specs.GrantTable.{grants_of}
use Rattle.smi_station_output.specs.Out.{kept_after, sent_after}
use Rattle.smi_protocol.specs.Grants.{Grants}
use Rattle.smi_protocol.specs.Hearing.{learned, parent_told}
use Rattle.smi_tree.specs.Roles.{holder_station}
use Rattle.smi_protocol.specs.Messages.{if_any, requests_due}
use Rattle.smi_protocol.specs.Sound.{IsLink, most_handed_on}
use Rattle.smi_protocol.specs.Step.{Out}
use Rattle.smi_protocol.specs.declared.entry.Entry.{Entry}
use Rattle.smi_tree.specs.Hierarchy.{Hierarchy}
use Rattle.smi_tree.specs.Lawful.{IsBetween}
use Rattle.smi_tree.specs.Lookups.{station_count}
use Rattle.smi_station_decide.specs.Handing.{told_end}
use Rattle.smi_station_decide.specs.Leaving.{came_to_rest}
use Rattle.smi_station_decide.proofs.Ends.{holder_known, parent_link, parent_sends, parent_stays}
use Rattle.smi_station_decide.proofs.Handings.{told_after}
use Rattle.smi_station_decide.proofs.Left.{parent_left}
use Rattle.smi_station_decide.proofs.Sends.{link_due}
use Rattle.smi_station_decide.proofs.tell.tell_parent.Goals as goal

pub send_end-requires-clause-told : goal.send_end-requires-clause-told
send_end-requires-clause-told c =
    let k = c.args.kept.now in
    let g = grants_of k in
    let p = c.args.parent in
    let d = c.args.child in
    let r = c.args.news.now in
    told_after k.tree k.number g (parent_told k.tree k.number g p d r) c.parent_told-change.result p
    c.record_after-standing.result c.parent_told-change.ensures.plan
    (parent_stays k.tree k.number g p d r c.tree-tree.ensures.kept.tree c.requires.sound c.requires.child
    c.requires.news c.requires.outcome c.requires.hears)
    c.record_after-standing.ensures

pub send_end-requires-clause-to : goal.send_end-requires-clause-to
send_end-requires-clause-to c =
    let k = c.args.kept.now in
    let g = grants_of k in
    let p = c.args.parent in
    let d = c.args.child in
    let r = c.args.news.now in
    let standing = c.record_after-standing.ensures
    ∙ ap (λ (a : Grants). a.records p) (sym c.parent_told-change.ensures.plan.grants) in
    λ working. subst (λ (z : Standing). IsBetween 1 (station_count k.tree)
    (unwrap_or (holder_station k.tree z.holder) 0)) (sym standing)
    (holder_known k.tree k.number g p d r c.tree-tree.ensures.kept.tree c.requires.sound c.requires.child
    c.requires.news c.requires.outcome c.requires.hears working)

pub send_due-requires-clause-link : goal.send_due-requires-clause-link
send_due-requires-clause-link c =
    let k = c.args.kept.now in
    let g = grants_of k in
    let p = c.args.parent in
    let d = c.args.child in
    let r = c.args.news.now in
    let same = ap (λ (z : Link × LinkHeard). z.0) c.told-link.ensures
    ∙ ap (λ (old : Link). told_link old (Domain p) r) c.link-old.ensures in
    link_due k.tree most_handed_on c.told-link.result.0
    (subst (IsLink k.tree most_handed_on) (sym same)
    (parent_link k.tree k.number g p d r c.tree-tree.ensures.kept.tree c.requires.sound c.requires.child
    c.requires.news c.requires.outcome c.requires.hears))

pub returns-clause-sent : goal.returns-clause-sent
returns-clause-sent c =
    let k = c.args.kept.now in
    let g = grants_of k in
    let p = c.args.parent in
    let d = c.args.child in
    let r = c.args.news.now in
    let same = ap (λ (z : Link × LinkHeard). z.0) c.told-link.ensures
    ∙ ap (λ (old : Link). told_link old (Domain p) r) c.link-old.ensures in
    let out = c.args.out.now in
    let new = told_link (g.links (Domain p) d) (Domain p) r in
    let standing = c.record_after-standing.ensures
    ∙ ap (λ (a : Grants). a.records p) (sym c.parent_told-change.ensures.plan.grants) in
    let z = c.record_after-standing.result in
    let left = c.two.ensures
    ∙ ap (λ (es : List Entry). es ++ if_any c.rested.result) c.learned.ensures
    ∙ ap (λ (es : List Entry). learned (Domain p) d c.link-old.result c.told-link.result.0 ++ es) c.rested.ensures
    ∙ ap (λ (l : Link). learned (Domain p) d c.link-old.result l ++ came_to_rest p c.record.result z) same
    ∙ ap (λ (l : Link). learned (Domain p) d l new ++ came_to_rest p c.record.result z) c.link-old.ensures
    ∙ ap (λ (s : Standing). learned (Domain p) d (g.links (Domain p) d) new ++ came_to_rest p s z) c.record.ensures
    ∙ parent_left k.tree k.number g p d r c.parent_told-change.result z c.parent_told-change.ensures.plan
    c.record_after-standing.ensures in
    c.set_entries.ensures
    ∙ ap (λ (o : Out). record o { kept = kept_after c.two.result o.kept })
    (c.send_due.ensures
    ∙ ap (λ (h : Hierarchy). record c.send_end.new.out {
      datagrams = sent_after c.send_end.new.out.datagrams
          (requests_due h c.number.result (Domain p) d c.told-link.result.0);
    }) c.tree-tree.ensures.value
    ∙ ap (λ n. record c.send_end.new.out {
      datagrams = sent_after c.send_end.new.out.datagrams
          (requests_due k.tree n (Domain p) d c.told-link.result.0);
    }) c.number.ensures.value
    ∙ ap (λ (l : Link). record c.send_end.new.out {
      datagrams = sent_after c.send_end.new.out.datagrams
          (requests_due k.tree k.number (Domain p) d l);
    }) same
    ∙ ap (λ (o : Out). record o { datagrams = sent_after o.datagrams (requests_due k.tree k.number (Domain p) d new) })
    (c.send_end.ensures
    ∙ ap (λ (z : Standing). record out {
      datagrams = sent_after out.datagrams
          (told_end k.tree k.number p (g.records p) z);
    }) standing))
    ∙ parent_sends k.tree k.number g p d r out c.two.result left
