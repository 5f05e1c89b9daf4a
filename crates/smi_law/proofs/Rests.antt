-- Every world that was reached can come to rest.
use Rattle.std.proofs.Common.{ℕ, ◌≡◌, ◌<◌, ◌≤◌, ◌+◌, Bool, true, false, List, inl, ap, arith}
use Rattle.std.specs.Prelude.{◌*◌, length}
use Rattle.smi_grant.specs.declared.Holder.{Holder}
use Rattle.smi_tree.specs.Hierarchy.{Hierarchy}
use Rattle.smi_tree.specs.Lawful.{IsTree}
use Rattle.smi_tree.specs.Lookups.{domain_count, station_count}
use Rattle.smi_protocol.specs.Schedule.{World}
use Rattle.smi_protocol.specs.declared.Entry.{Entry}
use Rattle.smi_law.specs.Known.{link_in}
use Rattle.smi_law.specs.World.{Reaches}
use Rattle.smi_law.specs.Bound.{most_changes, most_items}
use Rattle.smi_law.specs.Rest.{AllChange, AllRun, HaveBoots, IsAtRest, Settling}
use Rattle.smi_law.specs.UnderWay.{Party, parties, under_way}
use Rattle.smi_law.specs.Waiting.{waiting}
use Rattle.smi_law.proofs.Counting.{passes_most}
use Rattle.smi_law.proofs.Numbers.{changes_few}
use Rattle.smi_law.proofs.Resting.{rest_way, total_most}
use Rattle.smi_law.proofs.Starts.{start_way}
use Rattle.smi_law.proofs.Ways.{Fine, Way, go_on}

module _ (h : Hierarchy) (tree : IsTree h) (past : List Entry) (w : World) (run : Reaches h past w) where
  enough : (d : ℕ) → domain_count h < d + (domain_count h + 1)
  enough d = omega arith

  -- without a start, while each object has changes left
  pub goes_to_rest : AllRun h w → AllChange h (most_changes h (under_way h w)) w
      → Way false h w (most_items h (under_way h w)) (IsAtRest h)
  goes_to_rest runs changes =
      rest_way false h tree (domain_count h + 1) (2 * domain_count h) enough (passes_most h tree (domain_count h + 1))
      (under_way h w) w (omega arith)
      (record {
        small = changes_few h tree past w run;
        past = past;
        run = run;
        ready = λ number there. record { runs = runs number there; lasts = inl (changes number there) };
      })

  -- what a start leaves under way
  same_under_way : (v : World) → ((who : Holder) (d : ℕ) → link_in h v who d ≡ link_in h w who d)
      → under_way h v ≤ under_way h w
  same_under_way v same =
      total_most (λ (x : Party). waiting (link_in h w x.holder x.domain)) (λ x. waiting
      (link_in h v x.holder x.domain))
      (parties h) (λ x at. let l = ap waiting (same x.holder x.domain) in omega (arith, l))

  -- with starts, while boots are left
  pub starts_to_rest : HaveBoots h w
      → Way true h w (station_count h + most_items h (under_way h w)) (IsAtRest h)
  starts_to_rest boots =
      go_on true h w (station_count h) (most_items h (under_way h w))
      (λ v. Fine true h (most_changes h (under_way h w)) v
      × ((who : Holder) (d : ℕ) → link_in h v who d ≡ link_in h w who d))
      (IsAtRest h)
      (start_way h tree (most_changes h (under_way h w)) (changes_few h tree past w run) past w run boots)
      (λ v s. rest_way true h tree (domain_count h + 1) (2 * domain_count h) enough
      (passes_most h tree (domain_count h + 1)) (under_way h w) v (same_under_way v s.1) s.0)

-- a way to rest is a list of items
pub settling : (starts : Bool) (h : Hierarchy) (w : World) (most : ℕ) → Way starts h w most (IsAtRest h)
    → (s : Settling starts h w) × (length s.items ≤ most)
settling starts h w most way =
    (record { items = way.items; each = way.each; rest = way.there }, way.short)
