-- What is in lists, and in traces to which they were noted.
use Rattle.std.proofs.Common.{List, [], ◌∷◌, ◌⊎◌, inl, inr}
pub use Rattle.smi_protocol.specs.Sound.{In}
pub use Rattle.smi_protocol.proofs.Lists.{in_first, in_second, in_both, in_mapped, from_mapped, in_chosen}
pub use Rattle.smi_protocol.proofs.Lists.{from_chosen, in_range, from_range, in_numbers, numbers_above, in_any, Apart}
pub use Rattle.smi_protocol.proofs.Lists.{same, apart_range, apart_numbers, apart_added, apart_moved, apart_chosen}
pub use Rattle.smi_protocol.proofs.Lists.{from_flat, from_taken, from_kept, place_of, from_numbers}
use Rattle.smi_protocol.specs.declared.Entry.{Entry}
use Rattle.smi_law.specs.Trace.{Stands}
use Rattle.smi_law.specs.World.{noted}

-- Traces.

pub stands_noted : (y : Entry) (new past : List Entry) → Stands y past → Stands y (noted new past)
stands_noted y [] past a = a
stands_noted y (x ∷ new) past a = stands_noted y new (x ∷ past) (inr a)

pub stands_new : (y : Entry) (new past : List Entry) → In y new → Stands y (noted new past)
stands_new y [] past a = absurd a
stands_new y (x ∷ new) past (inl is) = stands_noted y new (x ∷ past) (inl is)
stands_new y (x ∷ new) past (inr a) = stands_new y new (x ∷ past) a

pub from_noted : (y : Entry) (new past : List Entry) → Stands y (noted new past) → In y new ⊎ Stands y past
from_noted y [] past a = inr a
from_noted y (x ∷ new) past a = elim (from_noted y new (x ∷ past) a) [
  | inl b ↦ inl (inr b)
  | inr b ↦ elim b [ inl is ↦ inl (inl is) | inr c ↦ inr c ]
]
