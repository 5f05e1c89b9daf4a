-- What each happening does to a station's grants.
use Rattle.std.specs.Prelude.{ℕ, []}
use Rattle.smi_message.specs.declared.Body.{Body}
use Rattle.smi_message.specs.declared.Body.TheVariants as body
use Rattle.smi_tree.specs.Hierarchy.{Hierarchy}
use Rattle.smi_protocol.specs.Grants.{Grants}
use Rattle.smi_protocol.specs.Happening.{Happening, Comes, Orders, Reports, Ticks}
use Rattle.smi_protocol.specs.GrantStep.{GrantStep, unchanged}
use Rattle.smi_protocol.specs.Keeping.{answered, take_comes, drop_comes, run_comes}
use Rattle.smi_protocol.specs.Hearing.{tell_comes}
use Rattle.smi_protocol.specs.Ordering.{order_comes}

-- a datagram from that station
abbrev pub datagram_comes : Hierarchy → ℕ → Grants → ℕ → Body → GrantStep
datagram_comes h number g from (body.Ask d) = answered h number g from d
datagram_comes h number g from (body.Take d who seen) = take_comes h number g from d who seen
datagram_comes h number g from (body.Drop d who e) = drop_comes h number g from d who e
datagram_comes h number g from (body.Run d who e n c) = run_comes h number g from d who e n c
datagram_comes h number g from (body.Tell d r) = tell_comes h number g d r
datagram_comes h number g from (body.Watch x echo) = unchanged g []
datagram_comes h number g from (body.State x echo v s) = unchanged g []
datagram_comes h number g from (body.Unwatch x echo) = unchanged g []

-- anything that may come to a station; reports and ticks leave the grants alone
abbrev pub grant_step : Hierarchy → ℕ → Grants → Happening → GrantStep
grant_step h number g (Comes m) = datagram_comes h number g m.from m.body
grant_step h number g (Orders o what) = order_comes h number g o what
grant_step h number g (Reports device s) = unchanged g []
grant_step h number g Ticks = unchanged g []
