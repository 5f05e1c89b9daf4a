use Rattle.std.proofs.Common.{◌≡◌, None, sym, ap, ◌∙◌, subst}
use Rattle.std.specs.Prelude.{IfSome, Option, ℕ}
use Rattle.smi_message.specs.Message.{Message}
use Rattle.smi_tree.specs.Hierarchy.{Hierarchy}
use Rattle.smi_tree.specs.Lawful.{IsBetween}
use Rattle.smi_tree.specs.Lookups.{domain_count}
use Rattle.smi_protocol.specs.Refusals.{refusal_of_message}
use Rattle.smi_protocol.specs.Showing.{domain_of_body}
use Rattle.smi_station.proofs.Accepted.{stirs_there}
use Rattle.smi_station.proofs.object_update.snapshot_before.Goals as goal

pub members_in-requires : goal.members_in-requires
members_in-requires c =
    let k = c.args.kept.now in
    subst (λ (o : Option ℕ). IfSome o (IsBetween 1 (domain_count c.args.display.now.tree)))
    (sym (c.domain_of-domain.ensures ∙ ap (λ (h : Hierarchy). domain_of_body h c.datagram.inside.body)
    c.tree.ensures.value))
    (subst (λ (h : Hierarchy). IfSome (domain_of_body k.tree c.datagram.inside.body) (IsBetween 1 (domain_count h)))
    c.requires.tree
    (stirs_there k.tree c.tree.ensures.kept.tree k.number
    (record {
      from = c.datagram.inside.from;
      to = c.datagram.inside.to;
      tree = c.datagram.inside.tree;
      body = c.datagram.inside.body;
    }) c.datagram.invariant.body
    (subst (λ (m : Message). refusal_of_message k.tree k.number m ≡ None) (sym c.datagram.view_is)
    c.requires.accepted)))

pub returns-clause-within : goal.returns-clause-within
returns-clause-within c =
    let k = c.args.kept.now in
    subst (λ (o : Option ℕ). IfSome o (IsBetween 1 (domain_count c.args.display.now.tree)))
    (sym (c.domain_of-domain.ensures ∙ ap (λ (h : Hierarchy). domain_of_body h c.datagram.inside.body)
    c.tree.ensures.value))
    (subst (λ (h : Hierarchy). IfSome (domain_of_body k.tree c.datagram.inside.body) (IsBetween 1 (domain_count h)))
    c.requires.tree
    (stirs_there k.tree c.tree.ensures.kept.tree k.number
    (record {
      from = c.datagram.inside.from;
      to = c.datagram.inside.to;
      tree = c.datagram.inside.tree;
      body = c.datagram.inside.body;
    }) c.datagram.invariant.body
    (subst (λ (m : Message). refusal_of_message k.tree k.number m ≡ None) (sym c.datagram.view_is)
    c.requires.accepted)))
