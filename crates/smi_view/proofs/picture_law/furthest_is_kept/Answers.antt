use Rattle.smi_view.proofs.Furthest.{comes_from, has_furthest, never_back, ranks_above}
use Rattle.smi_view.proofs.picture_law.furthest_is_kept.Goals as goal

pub returns-clause-furthest : goal.returns-clause-furthest
returns-clause-furthest c = has_furthest

pub returns-clause-noted : goal.returns-clause-noted
returns-clause-noted c = comes_from

pub returns-clause-never_back : goal.returns-clause-never_back
returns-clause-never_back c = never_back

pub returns-clause-ranks : goal.returns-clause-ranks
returns-clause-ranks c = ranks_above
