-- What is read off a trace. A trace has its newest entry first; what it says holds at the moment after that entry.
use Rattle.std.specs.Prelude.{ℕ, ◌≡◌, ◌+◌, ◌==◌, ◌&&◌, ◌⊎◌, Bool, true, false, if◌then◌else◌, List, [], ◌∷◌}
use Rattle.smi_grant.specs.declared.Command.{Command}
use Rattle.smi_grant.specs.declared.Holder.{Holder}
use Rattle.smi_grant.specs.declared.Holder.TheVariants.{Free}
use Rattle.smi_grant.specs.Holder.{same_holder}
use Rattle.smi_rows.specs.declared.Mode.{Mode}
use Rattle.smi_rows.specs.declared.Mode.TheVariants.{Included}
use Rattle.smi_protocol.specs.declared.Entry.{Entry}
use Rattle.smi_protocol.specs.declared.Entry.TheVariants.{Booted, Granted, Freed, Ordered, Ran, Learned, LetGo}
use Rattle.smi_protocol.specs.declared.Entry.TheVariants.{InMode, Settled}

-- the entry is in the trace
abbrev pub Stands : Entry → List Entry → Type 0
Stands x [] = ⊥
Stands x (y ∷ past) = (x ≡ y) ⊎ Stands x past

-- the epoch of a domain: that of its last grant or end of a grant
unfoldable pub epoch_at : ℕ → List Entry → ℕ
epoch_at d [] = 0
epoch_at d (Granted x e who ∷ past) = if x == d then e else epoch_at d past
epoch_at d (Freed x e ∷ past) = if x == d then e else epoch_at d past
epoch_at d (other ∷ past) = epoch_at d past

-- who has the domain by its last grant
unfoldable pub holder_at : ℕ → List Entry → Holder
holder_at d [] = Free
holder_at d (Granted x e who ∷ past) = if x == d then who else holder_at d past
holder_at d (Freed x e ∷ past) = if x == d then Free else holder_at d past
holder_at d (other ∷ past) = holder_at d past

-- the entry is about this holder's grant of this epoch
abbrev pub is_grant_of : Holder → ℕ → ℕ → Holder → ℕ → ℕ → Bool
is_grant_of h d e who x f = x == d && (e == f && same_holder h who)

-- the holder has learned of its grant of an epoch, and has not let go of it
unfoldable pub has_learned : Holder → ℕ → ℕ → List Entry → Bool
has_learned h d e [] = false
has_learned h d e (Learned who x f ∷ past) = if is_grant_of h d e who x f then true else has_learned h d e past
has_learned h d e (LetGo who x f ∷ past) = if is_grant_of h d e who x f then false else has_learned h d e past
has_learned h d e (other ∷ past) = has_learned h d e past

-- the holder holds the domain
abbrev pub Holds : Holder → ℕ → List Entry → Type 0
Holds h d past = has_learned h d (epoch_at d past) past ≡ true

-- the mode of a child: the last since its parent learned of the grant, else included
unfoldable pub mode_at : Holder → ℕ → ℕ → List Entry → Mode
mode_at h d e [] = Included
mode_at h d e (InMode x m ∷ past) = if x == d then m else mode_at h d e past
mode_at h d e (Learned who x f ∷ past) = if is_grant_of h d e who x f then Included else mode_at h d e past
mode_at h d e (other ∷ past) = mode_at h d e past

-- the commands that an operator issued under a number of a grant
unfoldable pub orders_of : ℕ → ℕ → ℕ → ℕ → List Entry → List Command
orders_of o d e n [] = []
orders_of o d e n (Ordered p x f m c ∷ past) =
    if p == o && (x == d && (f == e && m == n)) then c ∷ orders_of o d e n past else orders_of o d e n past
orders_of o d e n (other ∷ past) = orders_of o d e n past

-- the command of a domain runs, and has not ended
unfoldable pub InWork : ℕ → ℕ → ℕ → Command → List Entry → Type 0
InWork d e n c [] = ⊥
InWork d e n c (Ran x f m k ∷ past) = ((x ≡ d) × (f ≡ e) × (m ≡ n) × (k ≡ c)) ⊎ InWork d e n c past
InWork d e n c (Settled x f m code ∷ past) = (((x ≡ d) × (f ≡ e) × (m ≡ n)) → ⊥) × InWork d e n c past
InWork d e n c (other ∷ past) = InWork d e n c past

-- how many commands have run under a grant
unfoldable pub runs_under : ℕ → ℕ → List Entry → ℕ
runs_under d e [] = 0
runs_under d e (Ran x f n c ∷ past) = if x == d && f == e then runs_under d e past + 1 else runs_under d e past
runs_under d e (other ∷ past) = runs_under d e past

-- the trace before the last start of a station
unfoldable pub before_start : ℕ → List Entry → List Entry
before_start s [] = []
before_start s (Booted t b ∷ past) = if t == s then past else before_start s past
before_start s (other ∷ past) = before_start s past
