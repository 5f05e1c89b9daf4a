use Rattle.std.proofs.Common.{◌≡◌, ◌+◌, List, refl, ap, ◌∙◌, arith}
use Rattle.smi_tree.specs.Lookups.{domain_count}
use Rattle.smi_rows.specs.declared.StoredLink.{StoredLink}
use Rattle.smi_protocol.specs.Grants.{Grants, with_link}
use Rattle.smi_grant.specs.declared.Holder.TheVariants.{Operator}
use Rattle.smi_protocol.specs.Loading as loading
use Rattle.smi_station_grants.specs.GrantTable.{grants_of}
use Rattle.smi_station_grants.specs.Restored.{with_links_to}
use Rattle.smi_station_grants.proofs.Restoring.{link_restored, no_link_restored}
use Rattle.smi_station_grants.proofs.grant_table.GrantTable.restore_operator.Goals as goal

pub loop-place-init : goal.loop-place-init
loop-place-init c = record {
  grants = no_link_restored (grants_of c.args.self.now) c.args.operator c.args.row.now;
  tree = refl;
  number = refl;
}

pub put_operator_link-requires-clause-operator : goal.put_operator_link-requires-clause-operator
put_operator_link-requires-clause-operator c =
    let inv = c.loop-place.invariant in
    rw (inv.tree, inv.number) c.requires

pub put_operator_link-requires-clause-most : goal.put_operator_link-requires-clause-most
put_operator_link-requires-clause-most c =
    let inv = c.loop-place.invariant in
    let all : c.domain_count-place-end.result ≡ domain_count
    c.args.self.now.tree = c.domain_count-place-end.ensures.value ∙ ap domain_count c.tree.ensures.value in
    rw inv.tree (omega (arith, all, c.loop-place-test.true))

pub loop-place-preserved : goal.loop-place-preserved
loop-place-preserved c =
    let g = grants_of c.args.self.now in
    let o = c.args.operator in
    let m = c.loop-place.place + 1 in
    let inv = c.loop-place.invariant in
    let e = c.put_operator_link.ensures in
    let links : c.deref.result.now ≡ c.args.row.now = c.deref.ensures.value ∙ c.row.view_is in
    record {
      grants =
          e.grants
          ∙ ap (λ (k : Grants). with_link k (Operator o) m c.stored_at-stored.result.link) inv.grants
          ∙ ap (λ (x : StoredLink). with_link (with_links_to c.loop-place.place g o c.args.row.now) (Operator o) m
          x.link)
          (c.stored_at-stored.ensures ∙ ap (λ (xs : List StoredLink). loading.stored_at xs m) links)
          ∙ link_restored g o c.args.row.now c.loop-place.place m refl;
      tree = e.tree ∙ inv.tree;
      number = e.number ∙ inv.number;
    }

pub returns-clause-grants : goal.returns-clause-grants
returns-clause-grants c =
    let all : c.domain_count-place-end.result ≡ domain_count
    c.args.self.now.tree = c.domain_count-place-end.ensures.value ∙ ap domain_count c.tree.ensures.value in
    let end : c.loop-place.place ≡ domain_count c.args.self.now.tree = omega
    (arith, all, c.loop-place-test.false, c.loop-place.auto.place-end) in
    c.loop-place.invariant.grants
    ∙ ap (λ n. with_links_to n (grants_of c.args.self.now) c.args.operator c.args.row.now) end
