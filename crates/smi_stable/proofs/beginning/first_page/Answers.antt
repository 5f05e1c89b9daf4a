use Rattle.std.proofs.Common.{◌++◌, List, ℕ, ap, replicate}
use Rattle.sqlite_pool.specs.Header.{first_page}
use Rattle.smi_stable.proofs.beginning.first_page.Goals as goal

pub returns : goal.returns
unfolding first_page
returns c = ap (λ (xs : List ℕ). xs ++ replicate 404 0) c.copy_from_slice.ensures.after
