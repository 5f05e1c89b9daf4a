use Rattle.std.proofs.Common.{◌+◌, arith, sym, ap, subst}
use Rattle.smi_watchers.specs.Listing.{Listing}
use Rattle.smi_watchers.proofs.Leaving.{NoneBelow, one_station, no_cell_left}
use Rattle.smi_watchers.proofs.watchers.Watchers.drop.Goals as goal

pub loop-number-preserved : goal.loop-number-preserved
loop-number-preserved c =
    subst (NoneBelow (c.loop-number.number + 1)) (sym (ap (λ (l : Listing). l.lists) c.clear.ensures))
    (one_station c.loop-number.number c.loop-number.self.lists c.loop-number.invariant)

pub end-requires : goal.end-requires
end-requires c =
    let all = c.loop-number-test.false in
    no_cell_left c.self.inside.lists c.self.invariant
    (subst (NoneBelow 129) (sym (ap (λ (l : Listing). l.lists) c.self.view_is))
    (λ s lt. c.loop-number.invariant s (omega (arith, all, lt))))
