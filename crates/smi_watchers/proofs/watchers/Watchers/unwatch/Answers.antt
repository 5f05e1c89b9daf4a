use Rattle.std.proofs.Common.{◌-◌, ◌<◌, ◌≤◌, arith, length, length-set, sym, ap, ◌∙◌, subst}
use Rattle.smi_watchers.specs.declared.cell.Cell.{Cell}
use Rattle.smi_watchers.specs.Listing.{Listing}
use Rattle.smi_watchers.specs.Net.{cell_at}
use Rattle.smi_watchers.specs.Walked.{steps_of, place_in}
use Rattle.smi_watchers.specs.Kept.{IsKept, lists_of}
use Rattle.smi_watchers.proofs.Listings.{kept_out}
use Rattle.smi_watchers.proofs.Seen.{there, ended_seen, kept_seen, unwatched_nobody}
use Rattle.smi_watchers.proofs.watchers.Watchers.unwatch.Goals as goal

pub cell-requires : goal.cell-requires
cell-requires c =
    let n = c.self.inside.lists in let lists = ap (λ (l : Listing). l.lists) c.self.view_is in
    let found = ap (λ k. place_in c.args.station (steps_of n (k - 1))) (sym c.from.ensures) ∙ sym c.place_of.ensures
    ∙ c.in-Some.is in
    there n c.self.invariant _ lists c.args.object c.requires.object_least c.requires.object_most c.args.station
    c.in-Some.place found

pub take_out-requires-clause-held : goal.take_out-requires-clause-held
take_out-requires-clause-held c =
    let n = c.self.inside.lists in let lists = ap (λ (l : Listing). l.lists) c.self.view_is in
    let found = ap (λ k. place_in c.args.station (steps_of n (k - 1))) (sym c.from.ensures) ∙ sym c.place_of.ensures
    ∙ c.in-Some.is in
    there n c.self.invariant _ lists c.args.object c.requires.object_least c.requires.object_most c.args.station
    c.in-Some.place found

pub invariant_of-self : goal.invariant_of-self
invariant_of-self c =
    let n = c.self.inside.lists in let lists = ap (λ (l : Listing). l.lists) c.self.view_is in
    let found = ap (λ k. place_in c.args.station (steps_of n (k - 1))) (sym c.from.ensures) ∙ sym c.place_of.ensures
    ∙ c.in-Some.is in
    let held = there n c.self.invariant _ lists c.args.object c.requires.object_least c.requires.object_most
    c.args.station c.in-Some.place found in
    subst IsKept (sym c.take_out.ensures) (kept_out n c.self.invariant c.in-Some.place held)

pub returns-then-cell-echo-clause-lists : goal.returns-then-cell-echo-clause-lists
returns-then-cell-echo-clause-lists c =
    let n = c.self.inside.lists in let lists = ap (λ (l : Listing). l.lists) c.self.view_is in
    let found = ap (λ k. place_in c.args.station (steps_of n (k - 1))) (sym c.from.ensures) ∙ sym c.place_of.ensures
    ∙ c.in-Some.is in
    let old : (cell_at n c.in-Some.place).echo ≤ c.args.echo = let e = ap (λ (x : Cell). x.echo) c.cell.ensures in
    let is = c.if-cell-echo.true in omega (arith, e, is) in
    ap lists_of c.take_out.ensures
    ∙ ended_seen n c.self.invariant _ lists c.args.object c.requires.object_least c.requires.object_most
    c.args.station c.in-Some.place found c.args.echo old

pub returns-then-cell-echo-clause-objects : goal.returns-then-cell-echo-clause-objects
returns-then-cell-echo-clause-objects c = ap length (returns-then-cell-echo-clause-lists c)
    ∙ length-set c.args.self.now.lists _ _

pub returns-else-cell-echo-clause-lists : goal.returns-else-cell-echo-clause-lists
returns-else-cell-echo-clause-lists c =
    let n = c.self.inside.lists in let lists = ap (λ (l : Listing). l.lists) c.self.view_is in
    let found = ap (λ k. place_in c.args.station (steps_of n (k - 1))) (sym c.from.ensures) ∙ sym c.place_of.ensures
    ∙ c.in-Some.is in
    let newer : c.args.echo < (cell_at n c.in-Some.place).echo = let e = ap (λ (x : Cell). x.echo) c.cell.ensures in
    let is = c.if-cell-echo.false in omega (arith, e, is) in
    kept_seen n c.self.invariant _ lists c.args.object c.requires.object_least c.requires.object_most c.args.station
    c.in-Some.place found c.args.echo newer

pub returns-in_default-clause-lists : goal.returns-in_default-clause-lists
returns-in_default-clause-lists c =
    let n = c.self.inside.lists in let lists = ap (λ (l : Listing). l.lists) c.self.view_is in
    let missed = ap (λ k. place_in c.args.station (steps_of n (k - 1))) (sym c.from.ensures) ∙ sym c.place_of.ensures
    ∙ c.in_default.is in
    unwatched_nobody n c.self.invariant _ lists c.args.object c.requires.object_least c.requires.object_most
    c.args.station c.args.echo missed
