-- Worlds of the worked tree that are not at rest, and a way to rest from one of them.
use Rattle.std.specs.Prelude.{List, [], ◌∷◌, None, true}
use Rattle.smi_grant.specs.declared.Phase.TheVariants.{Busy}
use Rattle.smi_protocol.specs.Display.{Station}
use Rattle.smi_protocol.specs.Grants.{put}
use Rattle.smi_protocol.specs.Played.{deliver, orders, tick_at}
use Rattle.smi_protocol.specs.Schedule.{World, first_world}
use Rattle.smi_protocol.specs.declared.item.Item.{Item}
use Rattle.smi_protocol.specs.declared.order.Order.TheVariants as order
use Rattle.smi_protocol.specs.declared.order.Told.{Told}
use Rattle.smi_protocol.specs.examples.WorkedTree.{A, ANN, DCS, worked_tree}
use Rattle.smi_law.specs.Rest.{led}

-- ANN orders to take DCS, and the datagram of it does not come
abbrev pub lost_take : World
lost_take = led worked_tree (first_world worked_tree) (orders ANN (order.Take DCS) ∷ [])

-- her station ticks, the take comes, and its answer
abbrev pub asked_again : List Item
asked_again = tick_at A ∷ deliver 2 ∷ deliver 4 ∷ []

-- ANN is told that DCS is hers
abbrev pub taken : Told
taken = record { order = order.Take DCS; code = 0; asked = None }

-- a world in which nothing has happened but that station A is this one
abbrev pub world_with : Station → World
world_with s = record { stations = put (first_world worked_tree).stations A s; sent = [] }

abbrev pub first_a : Station
first_a = (first_world worked_tree).stations A

-- DCS is at work, though no holder waits for it
abbrev pub busy_alone : World
busy_alone = world_with (record first_a {
  grants = record first_a.grants { records = λ d. record (first_a.grants.records d) { phase = Busy } };
})

-- station A has stopped
abbrev pub stopped_alone : World
stopped_alone = world_with (record first_a { is_stopped = true })
