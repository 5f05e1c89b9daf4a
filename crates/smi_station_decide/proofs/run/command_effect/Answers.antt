use Rattle.std.proofs.Common.{◌≡◌, ◌+◌, ◌++◌, ◌∷◌, [], ℕ, List, length, map, drop, get_or, ap, sym, subst, ◌∙◌, arith}
use Rattle.std.proofs.Common.{drop_of_length-le, Bool, true, false, refl}
use Rattle.std.specs.Prelude.{All, ◌||◌, max}
use Rattle.std.specs.List.{list_any}
use Rattle.std.proofs.lemmas.List.{length-append, map-append, take_all, take_more}
use Rattle.std.proofs.lemmas.List.Elements.{All-push}
use Rattle.smi_grant.specs.declared.Holder.TheVariants.{Domain}
use Rattle.smi_command.specs.declared.Link.{Link}
use Rattle.smi_command.specs.Link.{is_unsettled}
use Rattle.smi_tree.specs.Hierarchy.{Hierarchy}
use Rattle.smi_tree.specs.Lookups.{children_of}
use Rattle.smi_protocol.specs.Children as spec
use Rattle.smi_station_grants.specs.declared.commanded.CommandedChild.{CommandedChild}
use Rattle.smi_station_grants.specs.Commanded.{AreSo, IsSo}
use Rattle.smi_station_grants.specs.GrantTable.{grants_of}
use Rattle.smi_station_grants.proofs.KnownChildren.{answer_known, any_more, largest_more}
use Rattle.smi_station_decide.proofs.run.command_effect.Goals as goal

pub loop-child-preserved : goal.loop-child-preserved
loop-child-preserved c =
    let h = c.args.kept.now.tree in
    let g = grants_of c.args.kept.now in
    let d = c.args.domain in
    let xs = c.children-children.result.now in
    let i = c.loop-child.child-index in
    let inv = c.loop-child.invariant in
    let p : ℕ → Bool = λ y. is_unsettled (spec.link_after (spec.change_of h g d c.args.command y)
    (g.links (Domain d) y)) in
    let f : ℕ → ℕ = λ y. spec.code_of (spec.change_of h g d c.args.command y) in
    let x : CommandedChild = record { child = get_or xs i 0; change = c.child_change-change.result } in
    let so : IsSo h g d c.args.command x = rw (c.tree-tree.ensures.value, c.link-link.ensures, c.mode.ensures) at
    c.child_change-change.ensures in
    record {
      children =
          ap (map (λ (y : CommandedChild). y.child)) c.in_ok-push.ensures.items
          ∙ map-append (λ (y : CommandedChild). y.child) c.loop-child.known.items (x ∷ [])
          ∙ ap (λ (ys : List ℕ). ys ++ get_or xs i 0 ∷ []) inv.children
          ∙ sym (take_more xs i 0 c.loop-child-test.true);
      each = subst (All (IsSo h g d c.args.command)) (sym c.in_ok-push.ensures.items)
          (All-push (IsSo h g d c.args.command) c.loop-child.known.items x inv.each so);
      all =
          ap length c.in_ok-push.ensures.items
          ∙ length-append c.loop-child.known.items (x ∷ [])
          ∙ ap (λ n. n + 1) inv.all;
      busy =
          ap (λ b. (c.loop-child.is_busy || b) || list_any p (drop (i + 1) xs))
          (c.is_unsettled-is_busy.ensures
          ∙ ap is_unsettled
          (c.link_after.ensures
          ∙ ap (λ (z : spec.ChildChange). spec.link_after z c.link-link.result) so
          ∙ ap (λ (l : Link). spec.link_after (spec.change_of h g d c.args.command x.child) l) c.link-link.ensures))
          ∙ any_more p xs i c.loop-child.is_busy c.loop-child-test.true
          ∙ inv.busy;
      own =
          ap (λ n. max n (spec.largest (map f (drop (i + 1) xs))))
          (c.max-code.ensures ∙ ap (λ n. max c.loop-child.code n) (c.code_of.ensures ∙ ap spec.code_of so))
          ∙ largest_more f xs i c.loop-child.code c.loop-child-test.true
          ∙ inv.own;
    }

max_nought : (n : ℕ) → n ≡ max n 0
max_nought n = omega arith

no_more : (b : Bool) → b ≡ (b || false)
no_more true = refl
no_more false = refl

pub returns : goal.returns
returns c =
    let h = c.args.kept.now.tree in
    let g = grants_of c.args.kept.now in
    let d = c.args.domain in
    let xs = c.children-children.result.now in
    let i = c.loop-child.child-index in
    let inv = c.loop-child.invariant in
    let p : ℕ → Bool = λ y. is_unsettled (spec.link_after (spec.change_of h g d c.args.command y)
    (g.links (Domain d) y)) in
    let f : ℕ → ℕ = λ y. spec.code_of (spec.change_of h g d c.args.command y) in
    let listed : xs ≡ children_of h d = c.children-children.ensures
    ∙ ap (λ (t : Hierarchy). children_of t d) c.tree-tree.ensures.value in
    let none : [] ≡ drop i xs = sym (drop_of_length-le xs c.loop-child-test.false) in
    record {
      busy =
          no_more c.loop-child.is_busy
          ∙ ap (λ (ys : List ℕ). c.loop-child.is_busy || list_any p ys) none
          ∙ inv.busy
          ∙ ap (list_any p) listed
          ∙ answer_known h g d c.args.command;
      code =
          max_nought c.loop-child.code
          ∙ ap (λ (ys : List ℕ). max c.loop-child.code (spec.largest (map f ys))) none
          ∙ inv.own
          ∙ ap (λ (ys : List ℕ). max (spec.code_at_domain h d c.args.command) (spec.largest (map f ys))) listed;
      children = subst (AreSo h g d c.args.command) (sym c.of_list.ensures) (record {
        children = inv.children ∙ take_all i xs c.loop-child-test.false ∙ listed;
        each = inv.each;
      });
    }
