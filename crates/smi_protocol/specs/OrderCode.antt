-- Why an order or a report was not taken, in numbers.
use Rattle.std.specs.Prelude.{ℕ}
use Rattle.smi_protocol.specs.declared.order.OrderCode.{OrderCode}
use Rattle.smi_protocol.specs.declared.order.OrderCode.TheVariants as code

abbrev pub order_code : OrderCode → ℕ
order_code code.LinksInUse = 25
order_code code.NotHere = 26
order_code code.NotStored = 31
order_code code.NoMemory = 33
