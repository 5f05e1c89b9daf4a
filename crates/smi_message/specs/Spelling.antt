-- The one spelling of each datagram, and the first test that other bytes fail.
use Rattle.std.specs.Prelude.{ℕ, ◌&&◌, ◌||◌, ◌==◌, Bool, if◌then◌else◌, List, length, slice_index, Option, Some, None}
use Rattle.std.specs.Prelude.{Result, Ok, Err}
use Rattle.smi_message.specs.declared.bad.Bad.{Bad}
use Rattle.smi_message.specs.declared.bad.Bad.TheVariants as bad
use Rattle.smi_message.specs.declared.datagram.Body.{Body}
use Rattle.smi_message.specs.declared.fields.Fields.{Fields}
use Rattle.smi_message.specs.Message.{Message, is_message}
use Rattle.smi_base.specs.Between.{is_between}
use Rattle.smi_message.specs.Layout.{bytes_of, fields_at}
use Rattle.smi_message.specs.Kinds.{fields_of, body_at, is_rest_zero}

abbrev pub spelling : Message → List ℕ
spelling m = bytes_of (fields_of m.from m.to m.tree m.body)

abbrev pub message_of : Fields → Body → Message
message_of f b = record { from = f.from; to = f.to; tree = f.tree; body = b }

-- the last two tests: of the fields that the kind uses, and of those that it does not
abbrev pub message_where : Fields → Option Body → Result Message Bad
message_where f None = Err bad.Range
message_where f (Some b) =
    if is_message (message_of f b) then (if is_rest_zero f then Ok (message_of f b) else Err bad.Unused)
    else Err bad.Range

unfoldable pub message_at : Fields → Result Message Bad
message_at f = message_where f (body_at f)

-- kinds 1 to 8, in the second layout commands alone
abbrev pub is_kind : ℕ → ℕ → Bool
is_kind layout kind = is_between 1 8 kind && (layout == 1 || kind == 4)

-- the datagram, or the first test that fails
abbrev pub reading : List ℕ → Result Message Bad
reading b =
    if length b == 44
    then (if slice_index b 0 == 0x53 && slice_index b 1 == 0x4D
    then (if is_between 1 2 (slice_index b 2)
    then (if is_kind (slice_index b 2) (slice_index b 3)
    then message_at (fields_at b)
    else Err bad.Kind) else Err bad.Layout) else Err bad.Magic) else Err bad.Length
