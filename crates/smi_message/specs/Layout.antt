-- The place of each number of a datagram in its 44 bytes.
use Rattle.std.specs.Prelude.{ℕ, List, [], ◌∷◌, ◌++◌, slice_index}
use Rattle.std.specs.Int.{w16, w32, w64, to_be_bytes}
use Rattle.smi_base.specs.Bytes.{u16_at, u32_at, u64_at}
use Rattle.smi_message.specs.declared.fields.Fields.{Fields}

-- the bytes, in the order of their places: `S`, `M`, and then the fields
abbrev pub bytes_of : Fields → List ℕ
bytes_of f =
    (0x53 ∷ 0x4D ∷ f.layout ∷ f.kind ∷ []) ++ to_be_bytes w16 f.from ++ to_be_bytes w16 f.to
    ++ to_be_bytes w16 f.subject
    ++ (f.holder_kind ∷ f.phase ∷ []) ++ to_be_bytes w16 f.holder ++ to_be_bytes w16 f.code ++ to_be_bytes w64 f.epoch
    ++ to_be_bytes w32 f.number ++ to_be_bytes w16 f.argument ++ to_be_bytes w16 f.tree ++ to_be_bytes w32 f.echo
    ++ to_be_bytes w32 f.boot ++ to_be_bytes w32 f.sequence

-- what the bytes say at each place
abbrev pub fields_at : List ℕ → Fields
fields_at b = record {
  layout = slice_index b 2;
  kind = slice_index b 3;
  from = u16_at b 4;
  to = u16_at b 6;
  subject = u16_at b 8;
  holder_kind = slice_index b 10;
  phase = slice_index b 11;
  holder = u16_at b 12;
  code = u16_at b 14;
  epoch = u64_at b 16;
  number = u32_at b 24;
  argument = u16_at b 28;
  tree = u16_at b 30;
  echo = u32_at b 32;
  boot = u32_at b 36;
  sequence = u32_at b 40;
}
