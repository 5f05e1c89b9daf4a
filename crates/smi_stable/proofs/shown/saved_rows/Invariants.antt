use Rattle.std.proofs.Common.{◌≡◌, pos, drop}
use Rattle.smi_rows.specs.declared.key.Key.{Key}
use Rattle.smi_stable.specs.SqlListing.{listed_at}
use Rattle.smi_stable.specs.SqlShown.{or_else}
use Rattle.smi_rows.specs.Store.{found_in}
use Rattle.smi_stable.proofs.shown.saved_rows.Given as goal

-- a key's bytes are among the rows so far, or else among those that are left
abbrev pub invariant-loop-row : goal.invariant-loop-row
invariant-loop-row l = (k : Key) → or_else (found_in l.list.items k)
    (listed_at (pos k.station) (pos k.domain) (pos k.operator) (drop l.row-index l.rows.items))
    ≡ listed_at (pos k.station) (pos k.domain) (pos k.operator) l.rows.items
