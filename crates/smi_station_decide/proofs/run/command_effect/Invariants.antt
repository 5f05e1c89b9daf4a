use Rattle.std.proofs.Common.{◌≡◌, length, map, take, drop}
use Rattle.std.specs.Prelude.{All, ◌||◌, max}
use Rattle.std.specs.List.{list_any}
use Rattle.smi_grant.specs.declared.Holder.TheVariants.{Domain}
use Rattle.smi_command.specs.Link.{is_unsettled}
use Rattle.smi_protocol.specs.Children.{change_of, code_at_domain, code_of, largest, link_after}
use Rattle.smi_station_grants.specs.Commanded.{IsSo}
use Rattle.smi_station_grants.specs.GrantTable.{grants_of}
use Rattle.smi_station_grants.specs.declared.commanded.CommandedChild.{CommandedChild}
use Rattle.smi_station_decide.proofs.run.command_effect.Given as goal

-- The first children are known, and what is known of each is so; whether one has to answer, and the largest code, are
-- those of all with the codes of the children that are left.
abbrev pub invariant-loop-child : goal.invariant-loop-child
invariant-loop-child l = record {
  children : map (λ (x : CommandedChild). x.child) l.known.items ≡ take l.child-index l.children;
  each : All (IsSo l.kept.tree (grants_of l.kept) l.domain l.command) l.known.items;
  all : length l.known.items ≡ l.child-index;
  busy : (l.is_busy || list_any (λ x. is_unsettled (link_after
      (change_of l.kept.tree (grants_of l.kept) l.domain l.command x) ((grants_of l.kept).links (Domain l.domain) x)))
      (drop l.child-index l.children))
      ≡ list_any (λ x. is_unsettled (link_after (change_of l.kept.tree (grants_of l.kept) l.domain l.command x)
      ((grants_of l.kept).links (Domain l.domain) x))) l.children;
  own : max l.code (largest (map (λ x. code_of (change_of l.kept.tree (grants_of l.kept) l.domain l.command x))
      (drop l.child-index l.children)))
      ≡ max (code_at_domain l.kept.tree l.domain l.command)
      (largest (map (λ x. code_of (change_of l.kept.tree (grants_of l.kept) l.domain l.command x)) l.children));
}
