-- Drawn schedules: each item is picked by one word of 32 bits.
use Rattle.std.specs.Prelude.{ℕ, zero, suc, ◌+◌, ◌/◌, ◌%◌, ◌==◌, nat_lt, List, [], ◌∷◌, if◌then◌else◌}
use Rattle.rand_core.specs.Pcg32Seed.{pcg32_seed}
use Rattle.rand_pcg.specs.Lcg.{Lcg}
use Rattle.rand_pcg.specs.Pcg.{pcg32, pcg32_of_seed}
use Rattle.smi_tree.specs.Hierarchy.{Hierarchy}
use Rattle.smi_tree.specs.Lookups.{state_count, action_count, station_count, operator_count, domain_count}
use Rattle.smi_tree.specs.Lookups.{device_count}
use Rattle.smi_protocol.specs.declared.order.Order.{Order}
use Rattle.smi_protocol.specs.declared.order.Order.TheVariants as order
use Rattle.smi_protocol.specs.declared.item.Deed.{Deed}
use Rattle.smi_protocol.specs.declared.item.Deed.TheVariants as deed
use Rattle.smi_protocol.specs.declared.item.Item.{Item}
use Rattle.smi_protocol.specs.declared.item.Item.TheVariants as item

-- the number from 1 to the most that a part of a word picks
abbrev pub pick : ℕ → ℕ → ℕ
pick part count = 1 + part % count

abbrev pub order_by : ℕ → ℕ → ℕ → ℕ → Order
order_by which domain action target =
    if which == 0 then order.Take domain
    else (if which == 1 then order.Drop domain
    else (if nat_lt which 4 then order.Do domain action
    else (if which == 4 then order.Include domain target
    else (if which == 5 then order.Exclude domain target
    else (if which == 6 then order.Ask domain
    else order.Watch domain)))))

-- an order: which, of which domain, and with which action or target
abbrev pub order_of : Hierarchy → ℕ → Order
order_of h word =
    order_by (word / 512 % 8) (pick (word / 4096) (domain_count h)) (pick (word / 524288) (action_count h))
    (pick (word / 524288) (domain_count h))

-- a device in a state; if there are no devices, a tick of the first station
abbrev pub report_of : Hierarchy → ℕ → Deed
report_of h word =
    if device_count h == 0 then deed.Tick 1
    else deed.Report (pick (word / 16) (device_count h)) (pick (word / 8192) (state_count h))

-- what the last four bits of a word say; the rest of it picks the numbers
abbrev pub item_by : Hierarchy → ℕ → ℕ → ℕ → Item
item_by h which rest word =
    if nat_lt which 8 then item.Do (deed.Recent (rest % 16))
    else (if which == 8 then item.Do (deed.Deliver (1 + rest % 4096))
    else (if nat_lt which 11 then item.Do (deed.Tick (pick rest (station_count h)))
    else (if which == 11 then item.Do (report_of h word)
    else (if nat_lt which 15 then item.Do (deed.Order (pick rest (operator_count h)) (order_of h word))
    else item.Restart (pick rest (station_count h))))))

-- the item that a word picks
abbrev pub item_of : Hierarchy → ℕ → Item
item_of h word = item_by h (word % 16) (word / 16) word

-- the generator of a seed
abbrev pub seeded : ℕ → Lcg
seeded seed = pcg32_of_seed (pcg32_seed 16 seed)

-- the next word of a generator, and the generator after it
abbrev pub word_of : Lcg → ℕ
word_of words = (pcg32 words).0

abbrev pub word_taken : Lcg → Lcg
word_taken words = (pcg32 words).1

-- this many items, each by the next word
unfoldable pub items_drawn : Hierarchy → ℕ → Lcg → List Item
items_drawn h zero words = []
items_drawn h (suc more) words = item_of h (word_of words) ∷ items_drawn h more (word_taken words)

-- the first items of a seed, this many
abbrev pub schedule_drawn : Hierarchy → ℕ → ℕ → List Item
schedule_drawn h seed steps = items_drawn h steps (seeded seed)
