use Rattle.smi_view.proofs.Newest.{comes_from, has_newest, never_back}
use Rattle.smi_view.proofs.picture_law.newest_is_kept.Goals as goal

pub returns-clause-newest : goal.returns-clause-newest
returns-clause-newest c = has_newest

pub returns-clause-noted : goal.returns-clause-noted
returns-clause-noted c = comes_from

pub returns-clause-never_back : goal.returns-clause-never_back
returns-clause-never_back c = never_back
