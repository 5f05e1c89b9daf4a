use Rattle.std.proofs.Common.{◌≤◌, ◌∙◌, ℕ, List, sym, subst, ap}
use Rattle.std.specs.Prelude.{nat_lt}
use Rattle.smi_station_grants.specs.Entries.{entry_or}
use Rattle.smi_tree.specs.Lawful.{IsBetween}
use Rattle.smi_tree.specs.Lookups.{station_count}
use Rattle.smi_protocol.specs.Watching.{lists_after}
use Rattle.smi_station_display.specs.Displayed.{Displayed}
use Rattle.smi_station_display.specs.Listening.{before_by}
use Rattle.smi_station_display.proofs.Displays.{watch_kept, watched_is}
use Rattle.smi_station_display.proofs.Listens.{not_less}
use Rattle.smi_station_display.proofs.displayed.Displayed.watch_comes.Goals as goal

pub invariant_of-self-then-room : goal.invariant_of-self-then-room
invariant_of-self-then-room c =
    let within : IsBetween 1 (station_count c.self.inside.tree.now) c.args.from =
    record {
      least = c.requires.from_least;
      most = subst (λ (k : Displayed). c.args.from ≤ station_count k.tree)
          (sym c.self.view_is) c.requires.from_most;
    } in
    let newest = c.entry_of-newest.ensures ∙ ap (λ (xs : List ℕ). entry_or xs c.args.from 0) c.deref.ensures.value in
    let lists = c.in_ok-room.ensures.lists
    ∙ ap (λ n. lists_after (before_by (nat_lt n c.args.echo) c.self.inside.watchers.lists c.args.from)
    c.args.object c.args.from c.args.echo) newest in
    rw c.from.ensures (watch_kept _ c.self.invariant c.listen.new.watchers.lists c.args.object c.args.from
    c.args.echo (record { station = within; echo = c.requires.echo }) lists)

pub returns-then-room-clause-display : goal.returns-then-room-clause-display
returns-then-room-clause-display c =
    let within : IsBetween 1 (station_count c.self.inside.tree.now) c.args.from =
    record {
      least = c.requires.from_least;
      most = subst (λ (k : Displayed). c.args.from ≤ station_count k.tree)
          (sym c.self.view_is) c.requires.from_most;
    } in
    let newest = c.entry_of-newest.ensures ∙ ap (λ (xs : List ℕ). entry_or xs c.args.from 0) c.deref.ensures.value in
    let lists = c.in_ok-room.ensures.lists
    ∙ ap (λ n. lists_after (before_by (nat_lt n c.args.echo) c.self.inside.watchers.lists c.args.from)
    c.args.object c.args.from c.args.echo) newest in
    let current = ap (λ n. nat_lt c.args.echo n) (sym newest)
    ∙ not_less c.entry_of-newest.result c.args.echo c.if-echo-newest.false in
    rw (← c.self.view_is, c.from.ensures) (watched_is _ c.self.invariant c.listen.new.watchers.lists c.args.object
    c.args.from c.args.echo within current lists)

pub invariant_of-self-else-room : goal.invariant_of-self-else-room
invariant_of-self-else-room c =
    let within : IsBetween 1 (station_count c.self.inside.tree.now) c.args.from =
    record {
      least = c.requires.from_least;
      most = subst (λ (k : Displayed). c.args.from ≤ station_count k.tree)
          (sym c.self.view_is) c.requires.from_most;
    } in
    let newest = c.entry_of-newest.ensures ∙ ap (λ (xs : List ℕ). entry_or xs c.args.from 0) c.deref.ensures.value in
    let lists = c.in_ok-room.ensures.lists
    ∙ ap (λ n. lists_after (before_by (nat_lt n c.args.echo) c.self.inside.watchers.lists c.args.from)
    c.args.object c.args.from c.args.echo) newest in
    rw c.from.ensures (watch_kept _ c.self.invariant c.listen.new.watchers.lists c.args.object c.args.from
    c.args.echo (record { station = within; echo = c.requires.echo }) lists)

pub returns-else-room-clause-display : goal.returns-else-room-clause-display
returns-else-room-clause-display c =
    let within : IsBetween 1 (station_count c.self.inside.tree.now) c.args.from =
    record {
      least = c.requires.from_least;
      most = subst (λ (k : Displayed). c.args.from ≤ station_count k.tree)
          (sym c.self.view_is) c.requires.from_most;
    } in
    let newest = c.entry_of-newest.ensures ∙ ap (λ (xs : List ℕ). entry_or xs c.args.from 0) c.deref.ensures.value in
    let lists = c.in_ok-room.ensures.lists
    ∙ ap (λ n. lists_after (before_by (nat_lt n c.args.echo) c.self.inside.watchers.lists c.args.from)
    c.args.object c.args.from c.args.echo) newest in
    let current = ap (λ n. nat_lt c.args.echo n) (sym newest)
    ∙ not_less c.entry_of-newest.result c.args.echo c.if-echo-newest.false in
    rw (← c.self.view_is, c.from.ensures) (watched_is _ c.self.invariant c.listen.new.watchers.lists c.args.object
    c.args.from c.args.echo within current lists)
