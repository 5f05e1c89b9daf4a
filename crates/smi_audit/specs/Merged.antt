-- Journals are merged into one trace.
use Rattle.std.specs.Prelude.{ℕ, zero, suc, ◌≡◌, ◌<◌, Bool, true, false, List, [], ◌∷◌, ◌++◌, length, Some}
use Rattle.std.specs.Prelude.{slice_get, slice_set}
use Rattle.smi_tree.specs.Hierarchy.{Hierarchy}
use Rattle.smi_protocol.specs.declared.Entry.{Entry}
use Rattle.smi_protocol.specs.declared.Entry.TheVariants as entry
use Rattle.smi_law.specs.Safe.{Safe}
use Rattle.smi_audit.specs.Described.{BootsRise}
use Rattle.smi_audit.specs.Audited.{AuditState, IsAudited, fits}
use Rattle.smi_audit.specs.declared.merge.MergeVerdict.{MergeVerdict}
use Rattle.smi_audit.specs.declared.merge.MergeVerdict.TheVariants as verdict

-- behind a trace that was there before, entries were taken from the fronts of journals, one at a time; a trace has
-- its newest entry first, and this is left of the journals
pub data Merges (base : List Entry) (journals : List (List Entry)) : List Entry → List (List Entry) → Type 0 where
  begins : Merges base journals base journals
  takes : {past : List Entry} {left : List (List Entry)} (i : ℕ) (x : Entry) (more : List Entry)
      → slice_get left i ≡ Some (x ∷ more) → Merges base journals past left
      → Merges base journals (x ∷ past) (slice_set left i more)

-- nothing is left
abbrev pub AllEmpty : List (List Entry) → Type 0
AllEmpty [] = Unit {0}
AllEmpty (j ∷ more) = (j ≡ []) × AllEmpty more

-- a trace has all entries of the journals, those of each in their order, and no others but those before
pub record IsMerge (base : List Entry) (journals : List (List Entry)) (past : List Entry) : Type 0 where
  pub left : List (List Entry)
  pub merges : Merges base journals past left
  pub none : AllEmpty left

-- a trace is safe, and each start of a station has a greater boot than those before
abbrev pub IsSafeNight : Hierarchy → List Entry → Type 0
IsSafeNight h past = Safe h past × BootsRise past

-- some order of the entries makes a safe trace
abbrev pub HasSafeMerge : Hierarchy → List Entry → List (List Entry) → Type 0
HasSafeMerge h base journals = (past : List Entry) × (IsMerge base journals past × IsSafeNight h past)

-- some order of first parts of the journals makes a safe trace
abbrev pub HasSafeStart : Hierarchy → List Entry → List (List Entry) → Type 0
HasSafeStart h base journals =
    (past : List Entry) × ((left : List (List Entry)) × (Merges base journals past left × IsSafeNight h past))

-- this is left of journals, and what was taken from them is a trace that was audited
pub record Further (base : List Entry) (from : List (List Entry)) (a : AuditState) (left : List (List Entry)) : Type 0
  where
    pub past : List Entry
    pub audited : IsAudited a past
    pub merges : Merges base from past left

-- whatever was audited before, and whatever was taken, more was taken so that it still is
abbrev pub GoesFurther : AuditState → List (List Entry) → AuditState → List (List Entry) → Type 0
GoesFurther b js a ks = (a.domains.tree ≡ b.domains.tree)
    × ((base : List Entry) (from : List (List Entry)) → Further base from b js → Further base from a ks)

-- an entry that may be held back although it fits: a run, the end of a command, or a holder that lets go
abbrev pub may_wait : Entry → Bool
may_wait (entry.Ran d e n c) = true
may_wait (entry.Settled d e n x) = true
may_wait (entry.LetGo who d e) = true
may_wait _ = false

-- the first entry of a journal does not fit, or may be held back
abbrev pub IsStuck : AuditState → List Entry → Type 0
IsStuck a [] = Unit {0}
IsStuck a (x ∷ more) = may_wait x ≡ false → fits a x ≡ false

-- nothing changes, and the first entry of the journal at this place is stuck
abbrev pub StuckAt : Bool → AuditState → List (List Entry) → AuditState → List (List Entry) → ℕ → Type 0
StuckAt true b js a ks place = Unit {0}
StuckAt false b js a ks place =
    (a ≡ b) × (ks ≡ js) × ((j : List Entry) → slice_get js place ≡ Some j → IsStuck b j)

-- nothing changes, and the first entries of all journals before this place are stuck
abbrev pub StuckBefore : Bool → AuditState → List (List Entry) → AuditState → List (List Entry) → ℕ → Type 0
StuckBefore true b js a ks place = Unit {0}
StuckBefore false b js a ks place = (a ≡ b) × (ks ≡ js)
    × ((i : ℕ) (j : List Entry) → i < place → slice_get js i ≡ Some j → IsStuck b j)

-- nothing changes, and the first entries of all journals are stuck
abbrev pub AllStuck : Bool → AuditState → List (List Entry) → AuditState → List (List Entry) → Type 0
AllStuck moved b js a ks = StuckBefore moved b js a ks (length js)

-- what a verdict means
abbrev pub Means : MergeVerdict → Hierarchy → List Entry → List (List Entry) → Type 0
Means verdict.Safe h base journals = HasSafeMerge h base journals
Means verdict.Open h base journals = HasSafeStart h base journals

-- an entry is added at the end of one of the journals
abbrev pub pushed : List (List Entry) → ℕ → Entry → List (List Entry)
pushed [] i x = []
pushed (j ∷ more) zero x = (j ++ x ∷ []) ∷ more
pushed (j ∷ more) (suc i) x = j ∷ pushed more i x
