-- The cells may cross threads: what their owner owns says the same to each thread.
use Rattle.std.specs.Prelude.{List, [], ◌∷◌}
use base.Shift.{Keyless}
use denote.RawPtr.{Ptr}
use denote.Struct.Declared as Declared
use denote.Struct.Struct.{exits_of}
use denote.Struct.Owning.{shape, fields, to}
use denote.Param.Send.{IsSend, AllSend, owning_send, struct_send, recorded_send, plain_send, sendable}
use Rattle.std_alloc.proofs.SendSync.{quiet, lies}
use Rattle.std.proofs.option.Option.TheSendSync as Option
use Rattle.std.proofs.Crossing.{frees}
use Rattle.smi_watchers.specs.declared.cell.Cell.{Cell}
use Rattle.smi_watchers.specs.Memory.{cells_own}
use Rattle.smi_watchers.specs.contracts.cell.Spot as Spot
use Rattle.smi_watchers.specs.contracts.cell.Sides as Sides
use Rattle.smi_watchers.specs.contracts.cell.Cell as Whole
use Rattle.smi_watchers.specs.contracts.cells.Cells as Cells

place_send : IsSend Spot.the_row
place_send = search sendable

links_field_send : IsSend (Sides.the_field).row
links_field_send = struct_send (Declared.shape Sides.the_type)
    (Option.the_field_send Spot.the_row place_send, (Option.the_field_send Spot.the_row place_send, tt))

cell_send : IsSend Whole.the_row
cell_send = recorded_send (Whole.the_field).row _ _ (Whole.the_type).to_one
    (struct_send (Declared.shape Whole.the_type) (
      plain_send _ _ _ _ _,
      (
        plain_send _ _ _ _ _,
        (plain_send _ _ _ _ _, (links_field_send, (links_field_send, tt))),
      ),
    ))

cells_keyless : (hs : List (Ptr × Cell)) → Keyless (cells_own hs)
cells_keyless [] = tt
cells_keyless (h ∷ hs) = ((lies Whole.the_row cell_send h.0 h.1, frees.frees _ _ h.0), cells_keyless hs)

pub cells_send : IsSend Cells.the_row
cells_send =
    let O = Cells.the_type in let all : AllSend (fields O) = tt in
    owning_send O all (λ d. cells_keyless d.held)
    (λ k. quiet (to O) (exits_of k (fields O)) ((struct_send (shape O) all).leaving k))
