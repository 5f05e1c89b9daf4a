-- What an audit keeps is what the definitions say of the trace that it has taken.
use Rattle.std.specs.Prelude.{ℕ, ◌≡◌, ◌<◌, ◌≤◌, ◌==◌, ◌&&◌, ◌⊎◌, true, false, List, [], ◌∷◌, Option, Some, None}
use Rattle.smi_grant.specs.declared.Command.{Command}
use Rattle.smi_grant.specs.declared.Holder.{Holder}
use Rattle.smi_grant.specs.declared.Holder.TheVariants.{Operator, Domain}
use Rattle.smi_grant.specs.declared.Shown.{Shown}
use Rattle.smi_grant.specs.declared.Version.{Version}
use Rattle.smi_grant.specs.Holder.{is_free, same_holder}
use Rattle.smi_law.specs.Safe.{IsNewer, IsNotOlder, NotOlderThanShown, NewerThanShown}
use Rattle.smi_law.specs.Trace.{Stands, epoch_at, holder_at, has_learned, mode_at, orders_of, InWork, runs_under}
use Rattle.smi_audit.specs.Tables.{Account, Tables, is_given, is_held, is_gone, order_at, has_passed, passes_next}
use Rattle.smi_audit.specs.declared.last_shown.LastShown.{LastShown}
use Rattle.smi_protocol.specs.declared.Entry.{Entry}
use Rattle.smi_protocol.specs.declared.Entry.TheVariants.{Booted, Granted, Ran, Learned, LetGo, Passed}

-- a domain stands so by the trace
pub record IsAccount (past : List Entry) (d : ℕ) (s : Account) : Type 0 where
  pub epoch : epoch_at d past ≡ s.epoch
  pub holder : holder_at d past ≡ s.holder
  pub granted : is_free s.holder ≡ false → Stands (Granted d s.epoch s.holder) past
  pub learned : (me : Holder) (e : ℕ)
      → has_learned me d e past ≡ (e == s.epoch && (same_holder me s.holder && is_held s.stage))
  pub once : (me : Holder) (e : ℕ) → Stands (Learned me d e) past
      → (e < s.epoch) ⊎ ((e ≡ s.epoch) × (is_given s.stage ≡ false))
  pub let_go : is_gone s.stage ≡ true → Stands (LetGo s.holder d s.epoch) past
  pub mode : (p : ℕ) → s.holder ≡ Domain p → is_held s.stage ≡ true → mode_at (Domain p) d s.epoch past ≡ s.mode
  pub orders : (o n : ℕ) → s.holder ≡ Operator o → orders_of o d s.epoch n past ≡ order_at s.orders n
  pub unordered : (o e n : ℕ) → s.epoch < e → orders_of o d e n past ≡ []
  pub runs : runs_under d s.epoch past ≡ s.ran
  pub unrun : (e : ℕ) → s.epoch < e → runs_under d e past ≡ 0
  pub behind : (e n : ℕ) (c : Command) → Stands (Ran d e n c) past
      → (e < s.epoch) ⊎ ((e ≡ s.epoch) × (n ≤ s.ran))
  pub work : (c : Command) → s.work ≡ Some c → InWork d s.epoch s.ran c past

-- an object has passed these states
pub record HasPassed (past : List Entry) (x : ℕ) (passed : List Shown) : Type 0 where
  pub stood : (z : Shown) → has_passed passed z ≡ true → Stands (Passed z) past
  pub newest : (v u : Version) (q : ℕ) → passes_next passed v ≡ true
      → Stands (Passed (record { object = x; version = u; state = q })) past → IsNewer v u

-- a version is not older than the last one, or newer, if there was one
abbrev pub AtLeast : Option Version → Version → Type 0
AtLeast None v = Unit {0}
AtLeast (Some last) v = IsNotOlder v last

abbrev pub Above : Option Version → Version → Type 0
Above None v = Unit {0}
Above (Some last) v = IsNewer v last

-- a station was shown an object so
pub record IsLastShown (past : List Entry) (s x : ℕ) (g : LastShown) : Type 0 where
  pub older : (v : Version) → AtLeast g.last v → NotOlderThanShown s x v past
  pub newer : (v : Version) → (g.since ≡ true → Above g.last v) → NewerThanShown s x v past

pub record IsDescribed (past : List Entry) (t : Tables) : Type 0 where
  pub domains : (d : ℕ) → IsAccount past d (t.domains d)
  pub passed : (x : ℕ) → HasPassed past x (t.passed x)
  pub shown : (s x : ℕ) → IsLastShown past s x (t.shown s x)

-- Boots.

-- a station has started with no greater boot
abbrev pub BootedAtMost : List Entry → (ℕ → ℕ) → Type 0
BootedAtMost past boots = (s b : ℕ) → Stands (Booted s b) past → b ≤ boots s

-- each start of a station has a greater boot than those before
abbrev pub BootsRise : List Entry → Type 0
BootsRise [] = Unit {0}
BootsRise (Booted s b ∷ past) = ((c : ℕ) → Stands (Booted s c) past → c < b) × BootsRise past
BootsRise (other ∷ past) = BootsRise past
