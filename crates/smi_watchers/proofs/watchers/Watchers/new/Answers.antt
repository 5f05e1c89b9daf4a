use Rattle.smi_watchers.proofs.Empty.{empty_lists, kept_empty}
use Rattle.smi_watchers.proofs.watchers.Watchers.new.Goals as goal

pub invariant_of-result : goal.invariant_of-result
invariant_of-result c = let is = c.in_ok-new.ensures in
    kept_empty c.in_ok-new.field-0 is.cells c.args.objects is.objects c.ranges.objects.fits is.stations

pub returns-clause-lists : goal.returns-clause-lists
returns-clause-lists c = let is = c.in_ok-new.ensures in
    empty_lists c.in_ok-new.field-0 is.cells c.args.objects is.objects
