-- Words in which the examples over the worked tree are written.
use Rattle.std.specs.Prelude.{ℕ, None}
use Rattle.smi_protocol.specs.Played.{orders}
use Rattle.smi_protocol.specs.Happening.{told}
use Rattle.smi_protocol.specs.declared.order.Order.{Order}
use Rattle.smi_protocol.specs.declared.entry.Entry.{Entry}
use Rattle.smi_protocol.specs.declared.entry.Entry.TheVariants as entry
use Rattle.smi_protocol.specs.declared.item.Item.{Item}
use Rattle.smi_protocol.specs.examples.WorkedTree.{ANN, BOB}

-- ANN orders
abbrev pub ann : Order → Item
ann what = orders ANN what

-- BOB orders
abbrev pub bob : Order → Item
bob what = orders BOB what

-- ANN is told the code of her order
abbrev pub ann_told : Order → ℕ → Entry
ann_told what code = entry.Told ANN (told what code None)

-- BOB is told the code of his order
abbrev pub bob_told : Order → ℕ → Entry
bob_told what code = entry.Told BOB (told what code None)

-- an object in a version shows a state
abbrev pub passed : ℕ → ℕ → ℕ → ℕ → Entry
passed x boot sequence state =
    entry.Passed (record { object = x; version = record { boot = boot; sequence = sequence }; state = state })

-- a station is shown an object in a version and a state
abbrev pub showed : ℕ → ℕ → ℕ → ℕ → ℕ → Entry
showed station x boot sequence state =
    entry.Showed station (record { object = x; version = record { boot = boot; sequence = sequence }; state = state })
