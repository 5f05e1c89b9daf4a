-- Journals that are put in entry by entry while they are merged.
use Rattle.std.specs.Prelude.{ℕ, zero, suc, List, [], ◌∷◌, length}
use Rattle.smi_protocol.specs.declared.Entry.{Entry}
use Rattle.smi_audit.specs.Audited.{AuditState, IsAudited}
use Rattle.smi_audit.specs.Merged.{Further, pushed}

-- this is left of the journals; what stood at the beginning, and what was put in since, the newest entry first, each
-- with the number of its journal
pub record GrowingState : Type 0 where
  pub audit : AuditState
  pub left : List (List Entry)
  pub start : AuditState
  pub puts : List (ℕ × Entry)

-- this many journals without entries
abbrev pub empties : ℕ → List (List Entry)
empties zero = []
empties (suc n) = [] ∷ empties n

-- this many journals with the entries that were put in
abbrev pub put_into : ℕ → List (ℕ × Entry) → List (List Entry)
put_into n [] = empties n
put_into n (x ∷ before) = pushed (put_into n before) x.0 x.1

-- the journals as they would be if nothing were taken from them
abbrev pub whole : GrowingState → List (List Entry)
whole g = put_into (length g.left) g.puts

-- whatever trace was audited at the beginning, more was taken from the journals so that it still is
abbrev pub IsGrown : GrowingState → Type 0
IsGrown g = (base : List Entry) → IsAudited g.start base → Further base (whole g) g.audit g.left
