use Rattle.std.proofs.Common.{◌≡◌, ◌-◌, ◌++◌, true, length}
use Rattle.std.specs.Prelude.{option_map}
use Rattle.smi_rows.specs.Reading.{links_at, are_cut}
use Rattle.smi_rows.proofs.read.links_at.Given as goal

-- the links so far and those that are left are all
abbrev pub invariant-loop-i : goal.invariant-loop-i
invariant-loop-i l = record {
  cut : are_cut l.schema (l.count - l.i) l.rest ≡ true;
  same : option_map (λ more. l.links.items ++ more) (links_at l.schema (l.count - l.i) l.rest)
      ≡ links_at l.schema l.count l.bytes;
  counted : length l.links.items ≡ l.i;
}
