-- A station lends its store.
use Rattle.std.specs.Borrow.{Lends, MutBor, Fml, RattleType}
use mir.Syntax.{named}
use Rattle.std.specs.Prelude.{[]}
use Rattle.smi_station.specs.Readers.{Whole}
use Rattle.smi_station.specs.contracts.station.Station.{the_row}

-- it ends with the store that the reference names then
abbrev pub LendsStore : (S : RattleType) → MutBor (Whole S.Denot) → MutBor S.Denot → Fml
LendsStore S s r = Lends (the_row (record { mir = named 1; lft = [] }) S) S s r
    (λ store. record { core = s.now.core; store = store })
