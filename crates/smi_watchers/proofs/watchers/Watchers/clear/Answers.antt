use Rattle.std.proofs.Common.{◌+◌, arith, None, sym, ap, ◌∙◌, subst}
use Rattle.smi_watchers.specs.declared.lists.Axis.TheVariants.{Station}
use Rattle.smi_watchers.specs.Listing.{Listing}
use Rattle.smi_watchers.specs.Net.{Net, next}
use Rattle.smi_watchers.specs.Watching.{left_by, entries_of}
use Rattle.smi_watchers.specs.Kept.{lists_of}
use Rattle.smi_watchers.proofs.Leaving.{IsLeaving, front_there, less, visits_fit, one_more, all_left}
use Rattle.smi_watchers.proofs.watchers.Watchers.clear.Goals as goal

pub overflow_add-self : goal.overflow_add-self
overflow_add-self c =
    let n = c.loop-place.self-inside.lists in
    let front = ap (λ k. next Station k n None) (sym c.from.ensures) ∙ sym c.first.ensures ∙ c.in-Some.is in
    record {
      fits = visits_fit c.args.station c.requires c.self.inside.lists n _ c.loop-place.invariant
          c.in-Some.place front;
    }

pub take_out-requires-clause-held : goal.take_out-requires-clause-held
take_out-requires-clause-held c =
    let n = c.loop-place.self-inside.lists in
    let front = ap (λ k. next Station k n None) (sym c.from.ensures) ∙ sym c.first.ensures ∙ c.in-Some.is in
    front_there c.args.station c.requires c.self.inside.lists n _ c.loop-place.invariant c.in-Some.place front

pub loop-place-smaller : goal.loop-place-smaller
loop-place-smaller c =
    let n = c.loop-place.self-inside.lists in
    let front = ap (λ k. next Station k n None) (sym c.from.ensures) ∙ sym c.first.ensures ∙ c.in-Some.is in
    let fewer = less c.args.station c.requires c.self.inside.lists n _ c.loop-place.invariant c.in-Some.place front in
    let new = ap (λ m. entries_of c.args.station (lists_of m)) c.take_out.ensures in
    omega (arith, fewer, new)

pub loop-place-preserved : goal.loop-place-preserved
loop-place-preserved c =
    let n = c.loop-place.self-inside.lists in let visits = c.loop-place.self-inside.visits in
    let front = ap (λ k. next Station k n None) (sym c.from.ensures) ∙ sym c.first.ensures ∙ c.in-Some.is in
    subst (λ (m : Net). IsLeaving c.args.station c.self.inside.lists m (visits + 1)) (sym c.take_out.ensures)
    (one_more c.args.station c.requires c.self.inside.lists n visits c.loop-place.invariant c.in-Some.place front)

pub returns : goal.returns
returns c =
    let n = c.loop-place.self-inside.lists in
    let empty = ap (λ k. next Station k n None) (sym c.from.ensures) ∙ sym c.first.ensures ∙ c.in_default.is in
    let left = all_left c.args.station c.requires c.self.inside.lists n _ c.loop-place.invariant empty in
    let lists = ap (λ (l : Listing). l.lists) c.self.view_is in
    λ t. record {
      lists = (left.0 ∙ ap (left_by c.args.station) lists) t;
      visits = (left.1 ∙ ap (entries_of c.args.station) lists) t;
    }
