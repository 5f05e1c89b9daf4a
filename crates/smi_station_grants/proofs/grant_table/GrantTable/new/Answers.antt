use Rattle.std.proofs.Common.{◌≡◌, List, [], length, refl, ap, ◌∙◌, arith}
use Rattle.std.specs.Prelude.{replicate}
use Rattle.std.proofs.lemmas.List.{length-replicate}
use Rattle.std.proofs.lemmas.List.FromFn.{length-map-range_with_len}
use Rattle.smi_grant.specs.Record.{fresh}
use Rattle.smi_command.specs.declared.Link.{Link}
use Rattle.smi_command.specs.declared.Link.TheVariants.{Out}
use Rattle.smi_rows.specs.declared.Mode.TheVariants.{Included}
use Rattle.smi_station_grants.specs.Entries.{entry_or}
use Rattle.smi_tree.specs.Lookups.{operator_count, domain_count}
use Rattle.smi_station_grants.specs.Restored.{first_links}
use Rattle.smi_station_grants.proofs.Tables.{operator_there}
use Rattle.smi_station_grants.proofs.Restoring.{first_is, served_first}
use Rattle.smi_station_grants.proofs.grant_table.GrantTable.new.Goals as goal

-- each table is as long as the tree's domains
module _ (c : goal.In_ok-room) where
  count : c.from-domains.result ≡ domain_count c.args.tree.now
  count = omega (arith, c.from-domains.ensures, c.domain_count.ensures.value)

  records : c.in_ok-records.records.items ≡ replicate c.from-domains.result fresh
  records = c.in_ok-records.ensures.items_if_clones_equal (λ y is. is)
      ∙ ap (λ r. replicate c.from-domains.result r) c.fresh.ensures

  gathered : c.in_ok-gathered.gathered.items ≡ replicate c.from-domains.result 0
  gathered = c.in_ok-gathered.ensures.items_if_clones_equal (λ y is. is)

  modes : c.in_ok-modes.modes.items ≡ replicate c.from-domains.result Included
  modes = c.in_ok-modes.ensures.items_if_clones_equal (λ y is. is)

  children : c.in_ok-child_links.child_links ≡ replicate c.from-domains.result (Out 0)
  children = c.in_ok-child_links.ensures

pub invariant_of-result : goal.invariant_of-result
invariant_of-result c =
    let h = c.args.tree.now in
    let long = length-map-range_with_len (first_links h c.args.number) 1 (operator_count h) in
    record {
      tree = c.domain_count.ensures.tree;
      number = record { least = c.requires.least; most = c.requires.most };
      records = ap length (records c) ∙ length-replicate c.from-domains.result fresh ∙ count c;
      gathered = ap length (gathered c) ∙ length-replicate c.from-domains.result 0 ∙ count c;
      modes = ap length (modes c) ∙ length-replicate c.from-domains.result Included ∙ count c;
      child_links = ap length (children c) ∙ length-replicate c.from-domains.result (Out 0) ∙ count c;
      operators = ap length c.in_ok-operator_links.ensures ∙ long;
      served = λ o here.
          let there = operator_there h o c.args.number c.domain_count.ensures.tree here in
          ap (λ (t : List (List Link)). length (entry_or t o [])) c.in_ok-operator_links.ensures
          ∙ served_first h c.args.number (operator_count h) o there.least there.most here;
    }

pub returns-clause-grants : goal.returns-clause-grants
returns-clause-grants c =
    let n = c.from-domains.result in
    first_is c.args.tree.now c.args.number n n n n (operator_count c.args.tree.now)
    (record {
      tree = c.args.tree.now;
      number = c.args.number;
      boot = 0;
      records = c.in_ok-records.records.items;
      gathered = c.in_ok-gathered.gathered.items;
      modes = c.in_ok-modes.modes.items;
      child_links = c.in_ok-child_links.child_links;
      operator_links = c.in_ok-operator_links.operator_links.items;
    }) refl (records c) (gathered c) (modes c) (children c) c.in_ok-operator_links.ensures
