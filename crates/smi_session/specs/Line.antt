-- What a line asks of a node.
use Rattle.std.specs.Prelude.{ℕ, nat_lt, ◌==◌, ok_or, List, [], ◌∷◌, length, Bool, codes, Option, Some}
use Rattle.std.specs.Prelude.{None, Result, Ok, Err, if◌then◌else◌}
use Rattle.std.specs.List.{list_any}
use Rattle.std.specs.Str.{bytes_eq}
use Rattle.smi_base.specs.declared.trees.TheConstants.{MOST_BYTES_OF_A_LINE}
use Rattle.smi_tree.specs.Fault.{◌>>=◌}
use Rattle.smi_tree.specs.Text.{words}
use Rattle.smi_tree.specs.File.{is_comment}
use Rattle.smi_tree.specs.Declaration as declaration
use Rattle.smi_tree.specs.Hierarchy.{Hierarchy}
use Rattle.smi_tree.specs.Lookups.{object_named}
use Rattle.smi_tree.specs.Name.{number_of}
use Rattle.smi_tree.specs.declared.fault.Fault.{Fault}
use Rattle.smi_tree.specs.declared.fault.Fault.TheVariants.{UnknownWord, UnknownName, LineTooLong, WordCount}
use Rattle.smi_protocol.specs.declared.item.Item.{Item}
use Rattle.smi_protocol.specs.declared.item.Item.TheVariants as item
use Rattle.smi_protocol.specs.declared.item.Deed.TheVariants as deed
use Rattle.smi_protocol.specs.declared.order.Order.TheVariants as order
use Rattle.smi_schedule.specs.Line.{item_in}
use Rattle.smi_session.specs.declared.line.LineKind.{LineKind}
use Rattle.smi_session.specs.declared.line.LineKind.TheVariants as kind
use Rattle.smi_session.specs.declared.request.SessionRequest.{SessionRequest}
use Rattle.smi_session.specs.declared.request.SessionRequest.TheVariants as request

-- the operator is one of these
abbrev pub is_of : List ℕ → ℕ → Bool
is_of operators operator = list_any (λ o. o == operator) operators

-- what an item of a schedule asks of a node with these operators: no other operator is known there, and nothing else
-- than an order or a report is asked so
abbrev pub asked : List ℕ → Item → Result SessionRequest Fault
asked operators (item.Do (deed.Order operator what)) =
    if is_of operators operator then Ok (request.Order (Some operator) what) else Err UnknownName
asked operators (item.Do (deed.Report device state)) = Ok (request.Order None (order.Report device state))
asked operators (item.Do (deed.Deliver number)) = Err UnknownWord
asked operators (item.Do (deed.Recent before)) = Err UnknownWord
asked operators (item.Do (deed.Tick station)) = Err UnknownWord
asked operators (item.Restart station) = Err UnknownWord
asked operators (item.Stop station moment what) = Err UnknownWord
asked operators (item.Fail station plan what) = Err UnknownWord

abbrev pub request_so : List ℕ → Option Item → Result (Option SessionRequest) Fault
request_so operators None = Ok None
request_so operators (Some what) = do
  it ← asked operators what
  Ok (Some it)

-- an order or a report is spelled as in a schedule
unfoldable pub request_as_item : Hierarchy → List ℕ → List ℕ → Result (Option SessionRequest) Fault
request_as_item h operators line = do
  what ← item_in h line
  request_so operators what

-- after `show` comes an object
unfoldable pub shown : Hierarchy → List (List ℕ) → Result SessionRequest Fault
shown h more = do
  name ← declaration.one_name more
  object ← ok_or (object_named h name) UnknownName
  Ok (request.Show object)

-- after `will` come a device and a state
unfoldable pub willed : Hierarchy → List (List ℕ) → Result SessionRequest Fault
willed h more = do
  names ← declaration.two_names more
  device ← ok_or (number_of h.device_names names.0) UnknownName
  state ← ok_or (number_of h.state_names names.1) UnknownName
  Ok (request.Will (record { device = device; state = state }))

-- after `withdraw` comes one word, a tag
unfoldable pub withdrawing : List (List ℕ) → Result SessionRequest Fault
withdrawing [] = Err WordCount
withdrawing (tag ∷ []) = Ok request.Withdraw
withdrawing (tag ∷ another ∷ more) = Err WordCount

-- what a line may begin with
abbrev pub kind_of : List ℕ → Option LineKind
kind_of word =
    if bytes_eq word (codes "show") then Some kind.Show
    else (if bytes_eq word (codes "order") then Some kind.Order
    else (if bytes_eq word (codes "report") then Some kind.Report
    else (if bytes_eq word (codes "will") then Some kind.Will
    else (if bytes_eq word (codes "withdraw") then Some kind.Withdraw
    else None))))

unfoldable pub request_of : Hierarchy → List ℕ → LineKind → List ℕ → List (List ℕ)
    → Result (Option SessionRequest) Fault
request_of h operators kind.Show line more = do
  it ← shown h more
  Ok (Some it)
request_of h operators kind.Order line more = request_as_item h operators line
request_of h operators kind.Report line more = request_as_item h operators line
request_of h operators kind.Will line more = do
  it ← willed h more
  Ok (Some it)
request_of h operators kind.Withdraw line more = do
  it ← withdrawing more
  Ok (Some it)

abbrev pub request_by : Hierarchy → List ℕ → List ℕ → List (List ℕ) → Result (Option SessionRequest) Fault
request_by h operators line [] = Ok None
request_by h operators line (word ∷ more) =
    if is_comment word then Ok None
    else (do
      which ← ok_or (kind_of word) UnknownWord
      request_of h operators which line more)

-- a line of over 200 bytes is refused first; one without words, or that begins with #, is skipped
unfoldable pub request_in : Hierarchy → List ℕ → List ℕ → Result (Option SessionRequest) Fault
request_in h operators line = if nat_lt MOST_BYTES_OF_A_LINE (length line) then Err LineTooLong
    else request_by h operators line (words line)
