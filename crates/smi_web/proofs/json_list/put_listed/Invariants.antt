use Rattle.std.proofs.Common.{◌≡◌, ◌++◌}
use Rattle.smi_web.specs.Json.{listed}
use Rattle.smi_web.proofs.json_list.put_listed.Given as goal

-- the texts so far are there
abbrev pub invariant-loop-place : goal.invariant-loop-place
invariant-loop-place g l =
    l.text.items ≡ l.initial.text.items ++ listed l.between (g.L.Listing.text l.listing) l.place
