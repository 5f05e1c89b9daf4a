-- What a trace has to be like, at every moment.
use Rattle.std.specs.Prelude.{ℕ, ◌≡◌, ◌<◌, ◌+◌, ◌%◌, ◌⊎◌, true, List, [], ◌∷◌, Some}
use Rattle.smi_grant.specs.declared.Command.{Command}
use Rattle.smi_grant.specs.declared.Command.TheVariants.{Do, Include, Exclude, Manual, Ignore}
use Rattle.smi_grant.specs.declared.Holder.{Holder}
use Rattle.smi_grant.specs.declared.Holder.TheVariants.{Free, Operator, Domain}
use Rattle.smi_grant.specs.declared.Version.{Version}
use Rattle.smi_tree.specs.Hierarchy.{Hierarchy}
use Rattle.smi_tree.specs.Lookups.{accepts, is_below, operator_station_of, parent_of}
use Rattle.smi_view.specs.Accepting.{is_newer}
use Rattle.smi_protocol.specs.Children.{is_commanded}
use Rattle.smi_protocol.specs.declared.Entry.{Entry}
use Rattle.smi_protocol.specs.declared.Entry.TheVariants.{Booted, Granted, Freed, Ran, Learned, LetGo, Showed, Passed}
use Rattle.smi_law.specs.Trace.{Stands, epoch_at, holder_at, Holds, mode_at, orders_of, InWork, runs_under}

-- Who is in command.

-- an operator commands what the operator holds, and what a domain holds that the operator commands
pub data Commands (h : Hierarchy) (past : List Entry) (o : ℕ) : ℕ → Type 0 where
  directly : {d : ℕ} → Holds (Operator o) d past → Commands h past o d
  through : {d : ℕ} (p : ℕ) → parent_of h d ≡ Some p → Holds (Domain p) d past → Commands h past o p
      → Commands h past o d

-- at most one operator commands a domain
abbrev pub OneCommander : Hierarchy → List Entry → Type 0
OneCommander h past = (d a b : ℕ) → Commands h past a d → Commands h past b d → a ≡ b

-- an operator of the tree may hold every domain, and a domain its children
abbrev pub MayHold : Hierarchy → ℕ → Holder → Type 0
MayHold h d Free = ⊥
MayHold h d (Operator o) = (station : ℕ) × (operator_station_of h o ≡ Some station)
MayHold h d (Domain p) = parent_of h d ≡ Some p

-- Grants.

-- a domain is granted at odd epochs to one who may hold it, and freed at even ones when its holder has let go;
-- a holder learns of its grant once, while it is current, and lets go of what it holds
abbrev pub GrantFits : Hierarchy → Entry → List Entry → Type 0
GrantFits h (Granted d e who) past = (e ≡ epoch_at d past + 1) × (e % 2 ≡ 1) × MayHold h d who
GrantFits h (Freed d e) past = (e ≡ epoch_at d past + 1) × (e % 2 ≡ 0)
    × Stands (LetGo (holder_at d past) d (epoch_at d past)) past
GrantFits h (Learned who d e) past = (e ≡ epoch_at d past) × Stands (Granted d e who) past
    × (Stands (Learned who d e) past → ⊥)
GrantFits h (LetGo who d e) past = (e ≡ epoch_at d past) × Holds who d past
GrantFits h _ past = Unit {0}

-- each entry fits the entries before it, and at each moment each domain has one commander at most
abbrev pub SafeGrants : Hierarchy → List Entry → Type 0
SafeGrants h [] = OneCommander h []
SafeGrants h (x ∷ past) = GrantFits h x past × OneCommander h (x ∷ past) × SafeGrants h past

-- Runs.

-- a domain hands a command on to a child: an action that it accepts, or one whose target is below the child
abbrev pub Forwards : Hierarchy → ℕ → Command → ℕ → Type 0
Forwards h p (Do a) d = accepts h p a ≡ true
Forwards h p (Include t) d = is_below h t d ≡ true
Forwards h p (Exclude t) d = is_below h t d ≡ true
Forwards h p (Manual t) d = is_below h t d ≡ true
Forwards h p (Ignore t) d = is_below h t d ≡ true

-- it is the domain's epoch, and the holder by its last grant holds it
abbrev pub IsGrantNow : ℕ → ℕ → Holder → List Entry → Type 0
IsGrantNow d e who past = (e ≡ epoch_at d past) × (holder_at d past ≡ who) × Holds who d past

-- a command rests on current grants all the way up to the operator who ordered it, once and no other
pub data Backed (h : Hierarchy) (past : List Entry) : ℕ → ℕ → ℕ → Command → Type 0 where
  by_operator : {d e n : ℕ} {c : Command} (o : ℕ) → IsGrantNow d e (Operator o) past
      → orders_of o d e n past ≡ c ∷ [] → Backed h past d e n c
  by_parent : {d e n : ℕ} {c : Command} (p f m : ℕ) → IsGrantNow d e (Domain p) past → parent_of h d ≡ Some p
      → is_commanded (mode_at (Domain p) d e past) ≡ true → InWork p f m c past → Forwards h p c d
      → Backed h past p f m c → Backed h past d e n c

-- each run is backed at the moment of its entry
abbrev pub SoundRuns : Hierarchy → List Entry → Type 0
SoundRuns h [] = Unit {0}
SoundRuns h (Ran d e n c ∷ past) = Backed h (Ran d e n c ∷ past) d e n c × SoundRuns h past
SoundRuns h (other ∷ past) = SoundRuns h past

-- the runs of a domain rise by epoch and number, and those of an epoch are 1, 2 and so on
abbrev pub IsBehind : ℕ → ℕ → ℕ → List Entry → Type 0
IsBehind d e n past = (f m : ℕ) (c : Command) → Stands (Ran d f m c) past → (f < e) ⊎ ((f ≡ e) × (m < n))

abbrev pub RunsInOrder : List Entry → Type 0
RunsInOrder [] = Unit {0}
RunsInOrder (Ran d e n c ∷ past) = (n ≡ runs_under d e past + 1) × IsBehind d e n past × RunsInOrder past
RunsInOrder (other ∷ past) = RunsInOrder past

-- States.

abbrev pub IsNewer : Version → Version → Type 0
IsNewer a b = is_newer a b ≡ true

abbrev pub IsNotOlder : Version → Version → Type 0
IsNotOlder a b = IsNewer a b ⊎ (a ≡ b)

-- what was shown to a station of an object before is not newer
abbrev pub NotOlderThanShown : ℕ → ℕ → Version → List Entry → Type 0
NotOlderThanShown s x v past = (u : Version) (q : ℕ)
    → Stands (Showed s (record { object = x; version = u; state = q })) past → IsNotOlder v u

-- what was shown to it since its last start is older
abbrev pub NewerThanShown : ℕ → ℕ → Version → List Entry → Type 0
NewerThanShown s x v [] = Unit {0}
NewerThanShown s x v (Booted station b ∷ past) = (station ≡ s) ⊎ NewerThanShown s x v past
NewerThanShown s x v (Showed station shown ∷ past) =
    (station ≡ s → shown.object ≡ x → IsNewer v shown.version) × NewerThanShown s x v past
NewerThanShown s x v (other ∷ past) = NewerThanShown s x v past

-- versions of an object rise; what a station is shown was passed through, and never goes back, not even over a
-- start; since a start it rises
abbrev pub StateFits : Entry → List Entry → Type 0
StateFits (Passed shown) past = (u : Version) (q : ℕ)
    → Stands (Passed (record { object = shown.object; version = u; state = q })) past → IsNewer shown.version u
StateFits (Showed s shown) past =
    Stands (Passed shown) past × NotOlderThanShown s shown.object shown.version past
    × NewerThanShown s shown.object shown.version past
StateFits _ past = Unit {0}

abbrev pub ShownWell : List Entry → Type 0
ShownWell [] = Unit {0}
ShownWell (x ∷ past) = StateFits x past × ShownWell past

-- All of it.

pub record Safe (h : Hierarchy) (past : List Entry) : Type 0 where
  pub grants : SafeGrants h past
  pub runs : SoundRuns h past
  pub order : RunsInOrder past
  pub states : ShownWell past
