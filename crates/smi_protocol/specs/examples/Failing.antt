-- Worked examples of saves that fail, and of an empty schedule.
use Rattle.std.specs.Prelude.{List, [], ◌∷◌, map}
use Rattle.smi_grant.specs.declared.Holder.TheVariants.{Operator}
use Rattle.smi_rows.specs.declared.Plan.TheVariants as plan
use Rattle.smi_protocol.specs.declared.entry.Entry.TheVariants.{Booted, Granted}
use Rattle.smi_protocol.specs.declared.order.Order.TheVariants.{Take}
use Rattle.smi_protocol.specs.Played.{Line, line, deliver, sends, Shown, Says, TAKE, TELL}
use Rattle.smi_protocol.specs.examples.Commands.{B_started_again}
use Rattle.smi_protocol.specs.examples.WorkedTree.{A, B, BOB, DCS, TPC, HV, OFF}
use Rattle.smi_protocol.specs.examples.Words.{bob_told, passed}
use Rattle.smi_protocol.specs.declared.item.Deed.{Deed}
use Rattle.smi_protocol.specs.declared.item.Deed.TheVariants as deed
use Rattle.smi_protocol.specs.declared.item.Item.TheVariants as item

-- BOB orders to take TPC
abbrev pub bob_takes : Deed
bob_takes = deed.Order BOB (Take TPC)

-- The row is not saved: nothing has happened, and the take is granted when it comes again.
abbrev pub not_saved : List Line
not_saved =
    line (item.Do bob_takes) [] (sends TAKE B B TPC ∷ [])
    ∷ line (item.Fail B plan.Device (deed.Deliver 1)) [] []
    ∷ line (deliver 1) (Granted TPC 1 (Operator BOB) ∷ []) (sends TELL B B TPC ∷ [])
    ∷ []

-- The row was saved, and the station does not know: it stops, and tells what it has saved when it is started again.
abbrev pub saved_unknown : List Line
saved_unknown =
    line (item.Do bob_takes) [] (sends TAKE B B TPC ∷ [])
    ∷ line (item.Fail B plan.After (deed.Deliver 1)) (Granted TPC 1 (Operator BOB) ∷ []) []
    ∷ line (deliver 1) [] []
    ∷ line (item.Restart B) B_started_again []
    ∷ line (deliver 1) [] (sends TELL B B TPC ∷ [])
    ∷ []

-- The row was not saved, and the station does not know: the take is granted after the start.
abbrev pub not_saved_unknown : List Line
not_saved_unknown =
    line (item.Do bob_takes) [] (sends TAKE B B TPC ∷ [])
    ∷ line (item.Fail B plan.Before (deed.Deliver 1)) [] []
    ∷ line (deliver 1) [] []
    ∷ line (item.Restart B) B_started_again []
    ∷ line (deliver 1) (Granted TPC 1 (Operator BOB) ∷ []) (sends TELL B B TPC ∷ [])
    ∷ []

-- An order whose row is not saved is answered 31.
abbrev pub order_not_saved : List Line
order_not_saved = line (item.Fail B plan.Device bob_takes) (bob_told (Take TPC) 31 ∷ []) [] ∷ []

-- An empty schedule.
abbrev pub opening_shown : List Shown
opening_shown =
    map Says (Booted A 1 ∷ passed DCS 1 0 OFF ∷ Booted B 1 ∷ passed TPC 1 0 OFF ∷ passed HV 1 0 OFF ∷ [])
