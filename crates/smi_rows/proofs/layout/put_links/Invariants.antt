use Rattle.std.proofs.Common.{◌≡◌, ◌++◌, drop}
use Rattle.smi_rows.specs.Layout.{links_bytes}
use Rattle.smi_rows.proofs.layout.put_links.Given as goal

-- what is there and what is left is all
abbrev pub invariant-loop-stored : goal.invariant-loop-stored
invariant-loop-stored l = l.row.items ++ links_bytes (drop l.stored-index l.links) ≡ l.initial.row.items
    ++ links_bytes l.links
