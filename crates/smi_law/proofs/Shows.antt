-- What is known, in every run, of the states that stations pass through, tell and are shown.
use Rattle.std.proofs.Common.{ℕ, ◌≡◌, ◌≤◌, Bool, true, false, List, [], ◌∷◌, ◌⊎◌, inl, inr, refl, sym, ap, ◌∙◌, subst}
use Rattle.std.proofs.Common.{arith}
use Rattle.std.specs.Prelude.{◌==◌, Some, map, if◌then◌else◌}
use Rattle.std.proofs.lemmas.Bool.{eqb-true}
use Rattle.std.proofs.lemmas.Bool.Decides.{nat_tests}
use Rattle.smi_grant.specs.declared.Shown.{Shown}
use Rattle.smi_grant.specs.declared.Version.{Version}
use Rattle.smi_message.specs.declared.Body.TheVariants as body
use Rattle.smi_message.specs.Message.{Message}
use Rattle.smi_tree.specs.Hierarchy.{Hierarchy}
use Rattle.smi_publish.specs.declared.condition.Condition.{Condition}
use Rattle.smi_publish.specs.Published.{shown}
use Rattle.smi_tree.specs.Roles.{is_kept_by}
use Rattle.smi_grant.proofs.Holders.{either}
use Rattle.smi_view.specs.Accepting.{is_newer_than_last}
use Rattle.smi_watchers.specs.Watching.{watcher, listed}
use Rattle.smi_protocol.specs.declared.Entry.{Entry}
use Rattle.smi_protocol.specs.declared.Entry.TheVariants as entry
use Rattle.smi_protocol.specs.declared.Entry.TheVariants.{Booted, Granted, Freed, Ordered, Ran, Learned, LetGo}
use Rattle.smi_protocol.specs.declared.Entry.TheVariants.{InMode, Settled, Showed, Passed, Told}
use Rattle.smi_law.specs.Safe.{IsNewer, IsNotOlder, NotOlderThanShown, NewerThanShown, StateFits, ShownWell}
use Rattle.smi_protocol.specs.Schedule.{World}
use Rattle.smi_law.specs.Trace.{Stands, before_start}
use Rattle.smi_law.specs.World.{Among as IsSent, noted}
use Rattle.smi_law.proofs.Lists.{In, from_mapped, Apart, from_noted}
use Rattle.smi_law.proofs.Silent.{IsSilent, AllSilent}

-- an object in a state, in a version
abbrev pub state_of : ℕ → Version → ℕ → Shown
state_of x v q = record { object = x; version = v; state = q }

-- what was told of an object to a station was passed through; its echo is of no later boot than the present one; and
-- if it is the present one, it is not older than what the station was shown before its start
pub record ToldWell (past : List Entry) (station x echo : ℕ) (v : Version) (q boot : ℕ) : Type 0 where
  pub passed : Stands (Passed (state_of x v q)) past
  pub within : echo ≤ boot
  pub since : echo ≡ boot → NotOlderThanShown station x v (before_start station past)

-- an object's version is no older than any that it has passed through
abbrev pub IsNewest : Version → ℕ → List Entry → Type 0
IsNewest v x past = (u : Version) (q : ℕ) → Stands (Passed (state_of x u q)) past → IsNotOlder v u

pub record Shows (h : Hierarchy) (past : List Entry) (w : World) : Type 0 where
  pub kept : (number x : ℕ) (c : Condition) → (w.stations number).display.conditions x ≡ Some c
      → is_kept_by h number x ≡ true
  pub passed : (number x : ℕ) (c : Condition) → (w.stations number).display.conditions x ≡ Some c
      → Stands (Passed (shown (w.stations number).grants.boot x c)) past
  pub newest : (number x : ℕ) (c : Condition) → (w.stations number).display.conditions x ≡ Some c
      → IsNewest (shown (w.stations number).grants.boot x c).version x past
  pub bound : (x : ℕ) (u : Version) (q : ℕ) → Stands (Passed (state_of x u q)) past → (number : ℕ)
      → is_kept_by h number x ≡ true → u.boot ≤ (w.stations number).grants.boot
  pub watch : (m : Message) (x echo : ℕ) → IsSent m w.sent → m.body ≡ body.Watch x echo
      → echo ≤ (w.stations m.from).grants.boot
  pub watchers : (number x station echo : ℕ)
      → In (watcher station echo) (listed (w.stations number).display.watchers x)
      → echo ≤ (w.stations station).grants.boot
  pub states : (m : Message) (x echo : ℕ) (v : Version) (q : ℕ) → IsSent m w.sent → m.body ≡ body.State x echo v q
      → ToldWell past m.to x echo v q (w.stations m.to).grants.boot
  pub last : (number x : ℕ) (v : Version) → is_newer_than_last ((w.stations number).display.shown x) v ≡ true
      → NewerThanShown number x v past
  pub well : ShownWell past

-- Entries that say nothing of states.

before_silent : (t : ℕ) (y : Entry) (past : List Entry) → IsSilent y → before_start t (y ∷ past) ≡ before_start t past
unfolding before_start
before_silent t (Booted s b) past silent = absurd silent
before_silent t (Showed s v) past silent = absurd silent
before_silent t (Passed v) past silent = absurd silent
before_silent t (Granted x e who) past silent = refl
before_silent t (Freed x e) past silent = refl
before_silent t (Ordered o x e n c) past silent = refl
before_silent t (Ran x e n c) past silent = refl
before_silent t (Learned who x e) past silent = refl
before_silent t (LetGo who x e) past silent = refl
before_silent t (InMode x m) past silent = refl
before_silent t (Settled x e n code) past silent = refl
before_silent t (Told o q) past silent = refl

newer_silent : (t x : ℕ) (v : Version) (y : Entry) (past : List Entry) → IsSilent y → NewerThanShown t x v past
    → NewerThanShown t x v (y ∷ past)
newer_silent t x v (Booted s b) past silent a = absurd silent
newer_silent t x v (Showed s u) past silent a = absurd silent
newer_silent t x v (Passed u) past silent a = absurd silent
newer_silent t x v (Granted d e who) past silent a = a
newer_silent t x v (Freed d e) past silent a = a
newer_silent t x v (Ordered o d e n c) past silent a = a
newer_silent t x v (Ran d e n c) past silent a = a
newer_silent t x v (Learned who d e) past silent a = a
newer_silent t x v (LetGo who d e) past silent a = a
newer_silent t x v (InMode d m) past silent a = a
newer_silent t x v (Settled d e n code) past silent a = a
newer_silent t x v (Told o q) past silent a = a

fits_silent : (y : Entry) (past : List Entry) → IsSilent y → StateFits y past
fits_silent (Booted s b) past silent = absurd silent
fits_silent (Showed s v) past silent = absurd silent
fits_silent (Passed v) past silent = absurd silent
fits_silent (Granted x e who) past silent = tt
fits_silent (Freed x e) past silent = tt
fits_silent (Ordered o x e n c) past silent = tt
fits_silent (Ran x e n c) past silent = tt
fits_silent (Learned who x e) past silent = tt
fits_silent (LetGo who x e) past silent = tt
fits_silent (InMode x m) past silent = tt
fits_silent (Settled x e n code) past silent = tt
fits_silent (Told o q) past silent = tt

stood_silent : (z y : Entry) (past : List Entry) → (IsSilent z → ⊥) → IsSilent y → Stands z (y ∷ past) → Stands z past
stood_silent z y past loud silent (inl same) = absurd (loud (subst IsSilent (sym same) silent))
stood_silent z y past loud silent (inr a) = a

shows_one : (h : Hierarchy) (past : List Entry) (w : World) (y : Entry) → IsSilent y → Shows h past w
    → Shows h (y ∷ past) w
shows_one h past w y silent s = record {
  kept = s.kept;
  passed = λ number x c is. inr (s.passed number x c is);
  newest = λ number x c is u q a. s.newest number x c is u q
      (stood_silent (Passed (state_of x u q)) y past (λ z. z) silent a);
  bound = λ x u q a. s.bound x u q (stood_silent (Passed (state_of x u q)) y past (λ z. z) silent a);
  watch = s.watch;
  watchers = s.watchers;
  states = λ m x echo v q a b. let t = s.states m x echo v q a b in record {
    passed = inr t.passed;
    within = t.within;
    since = λ is. subst (NotOlderThanShown m.to x v) (sym (before_silent m.to y past silent)) (t.since is);
  };
  last = λ number x v is. newer_silent number x v y past silent (s.last number x v is);
  well = (fits_silent y past silent, s.well);
}

pub shows_silent : (h : Hierarchy) (w : World) (new past : List Entry) → AllSilent new → Shows h past w
    → Shows h (noted new past) w
shows_silent h w [] past silent s = s
shows_silent h w (y ∷ new) past silent s = shows_silent h w new (y ∷ past) silent.1 (shows_one h past w y silent.0 s)

-- What a station was shown.

before_booted : (t s b : ℕ) (past : List Entry)
    → before_start t (Booted s b ∷ past) ≡ (if s == t then past else before_start t past)
unfolding before_start
before_booted t s b past = refl

pub before_start_here : (t b : ℕ) (past : List Entry) → before_start t (Booted t b ∷ past) ≡ past
before_start_here t b past = before_booted t t b past ∙ ap (λ z. if z then past else before_start t past) (self t)
  where
    self : (n : ℕ) → (n == n) ≡ true
    self n = grind (arith, nat_tests)

pub before_start_there : (t s b : ℕ) (past : List Entry) → (s ≡ t → ⊥)
    → before_start t (Booted s b ∷ past) ≡ before_start t past
before_start_there t s b past o = before_booted t s b past ∙ elim (either (s == t)) [
  | inl i ↦ absurd (o (eqb-true s t i))
  | inr f ↦ ap (λ z. if z then past else before_start t past) f
]

before_showed : (t s : ℕ) (v : Shown) (past : List Entry) → before_start t (Showed s v ∷ past) ≡ before_start t past
unfolding before_start
before_showed t s v past = refl

pub before_passed : (t : ℕ) (v : Shown) (past : List Entry) → before_start t (Passed v ∷ past) ≡ before_start t past
unfolding before_start
before_passed t v past = refl

-- what was before the start is still there
pub stands_before : (z : Entry) (t : ℕ) (past : List Entry) → Stands z (before_start t past) → Stands z past
unfolding before_start
stands_before z t [] a = a
stands_before z t (Booted s b ∷ past) a = by (s == t) a (λ k. stands_before z t past k)
  where
    by : (c : Bool) → Stands z (if c then past else before_start t past)
        → (Stands z (before_start t past) → Stands z past) → Stands z (Booted s b ∷ past)
    by true k rest = inr k
    by false k rest = inr (rest k)
stands_before z t (Granted x e who ∷ past) a = inr (stands_before z t past a)
stands_before z t (Freed x e ∷ past) a = inr (stands_before z t past a)
stands_before z t (Ordered o x e n c ∷ past) a = inr (stands_before z t past a)
stands_before z t (Ran x e n c ∷ past) a = inr (stands_before z t past a)
stands_before z t (Learned who x e ∷ past) a = inr (stands_before z t past a)
stands_before z t (LetGo who x e ∷ past) a = inr (stands_before z t past a)
stands_before z t (InMode x m ∷ past) a = inr (stands_before z t past a)
stands_before z t (Settled x e n code ∷ past) a = inr (stands_before z t past a)
stands_before z t (Showed s v ∷ past) a = inr (stands_before z t past a)
stands_before z t (Passed v ∷ past) a = inr (stands_before z t past a)
stands_before z t (Told o q ∷ past) a = inr (stands_before z t past a)

-- newer than what was shown since the start, and not older than what was shown before it
pub not_older_at_all : (t x : ℕ) (v : Version) (past : List Entry) → NewerThanShown t x v past
    → NotOlderThanShown t x v (before_start t past) → NotOlderThanShown t x v past
unfolding before_start
not_older_at_all t x v [] newer older u q a = absurd a
not_older_at_all t x v (Booted s b ∷ past) newer older u q a =
    by (s == t) refl older newer (λ n o. not_older_at_all t x v past n o u q) a
  where
    self : (n : ℕ) → n ≡ t → (n == t) ≡ true
    self n i = grind (arith, nat_tests)

    by : (c : Bool) → (s == t) ≡ c → NotOlderThanShown t x v (if c then past else before_start t past)
        → (s ≡ t) ⊎ NewerThanShown t x v past
        → (NewerThanShown t x v past → NotOlderThanShown t x v (before_start t past)
        → Stands (Showed t (state_of x u q)) past → IsNotOlder v u)
        → Stands (Showed t (state_of x u q)) (Booted s b ∷ past) → IsNotOlder v u
    by c is older' newer' rest (inl same) = absurd cc
    by true is older' newer' rest (inr k) = older' u q k
    by false is older' (inl same) rest (inr k) = let i : true ≡ false = sym (self s same) ∙ is in absurd cc
    by false is older' (inr since) rest (inr k) = rest since older' k
not_older_at_all t x v (Showed s sh ∷ past) newer older u q (inl same) =
    let i : t ≡ s = cc in
    let j : state_of x u q ≡ sh = cc in
    inl (subst (λ (z : Shown). IsNewer v z.version) (sym j) (newer.0 (sym i) (ap (λ (z : Shown). z.object) (sym j))))
not_older_at_all t x v (Showed s sh ∷ past) newer older u q (inr a) = not_older_at_all t x v past newer.1 older u q a
not_older_at_all t x v (Granted d e who ∷ past) newer older u q (inl same) = absurd cc
not_older_at_all t x v (Granted d e who ∷ past) newer older u q (inr a) = not_older_at_all t x v past newer older u q a
not_older_at_all t x v (Freed d e ∷ past) newer older u q (inl same) = absurd cc
not_older_at_all t x v (Freed d e ∷ past) newer older u q (inr a) = not_older_at_all t x v past newer older u q a
not_older_at_all t x v (Ordered o d e n c ∷ past) newer older u q (inl same) = absurd cc
not_older_at_all t x v (Ordered o d e n c ∷ past) newer older u q (inr a) =
    not_older_at_all t x v past newer older u q a
not_older_at_all t x v (Ran d e n c ∷ past) newer older u q (inl same) = absurd cc
not_older_at_all t x v (Ran d e n c ∷ past) newer older u q (inr a) = not_older_at_all t x v past newer older u q a
not_older_at_all t x v (Learned who d e ∷ past) newer older u q (inl same) = absurd cc
not_older_at_all t x v (Learned who d e ∷ past) newer older u q (inr a) = not_older_at_all t x v past newer older u q a
not_older_at_all t x v (LetGo who d e ∷ past) newer older u q (inl same) = absurd cc
not_older_at_all t x v (LetGo who d e ∷ past) newer older u q (inr a) = not_older_at_all t x v past newer older u q a
not_older_at_all t x v (InMode d m ∷ past) newer older u q (inl same) = absurd cc
not_older_at_all t x v (InMode d m ∷ past) newer older u q (inr a) = not_older_at_all t x v past newer older u q a
not_older_at_all t x v (Settled d e n code ∷ past) newer older u q (inl same) = absurd cc
not_older_at_all t x v (Settled d e n code ∷ past) newer older u q (inr a) =
    not_older_at_all t x v past newer older u q a
not_older_at_all t x v (Passed sh ∷ past) newer older u q (inl same) = absurd cc
not_older_at_all t x v (Passed sh ∷ past) newer older u q (inr a) = not_older_at_all t x v past newer older u q a
not_older_at_all t x v (Told o k ∷ past) newer older u q (inl same) = absurd cc
not_older_at_all t x v (Told o k ∷ past) newer older u q (inr a) = not_older_at_all t x v past newer older u q a

-- whatever a station was shown was passed through
pub showed_passed : (t : ℕ) (sh : Shown) (past : List Entry) → ShownWell past → Stands (Showed t sh) past
    → Stands (Passed sh) past
showed_passed t sh [] well a = absurd a
showed_passed t sh (y ∷ past) well (inl same) =
    let fits : StateFits (Showed t sh) past = subst (λ z. StateFits z past) (sym same) well.0 in
    inr fits.0
showed_passed t sh (y ∷ past) well (inr a) = inr (showed_passed t sh past well.1 a)

-- Several states are passed on.

abbrev pub object_of : Shown → ℕ
object_of v = v.object

pub well_passed : (vs : List Shown) (past : List Entry) → Apart object_of vs
    → ((v : Shown) → In v vs → (u : Version) (q : ℕ) → Stands (Passed (state_of v.object u q)) past
    → IsNewer v.version u) → ShownWell past → ShownWell (noted (map entry.Passed vs) past)
well_passed [] past apart newer well = well
well_passed (v ∷ vs) past apart newer well =
    well_passed vs (Passed v ∷ past) apart.1 later (λ u q a. newer v (inl refl) u q a, well)
  where
    later : (k : Shown) → In k vs → (u : Version) (q : ℕ) → Stands (Passed (state_of k.object u q)) (Passed v ∷ past)
        → IsNewer k.version u
    later k a u q (inl same) = let i : state_of k.object u q ≡ v = cc in absurd (apart.0 k a (ap object_of i))
    later k a u q (inr b) = newer k (inr a) u q b

pub before_passed_all : (t : ℕ) (vs : List Shown) (past : List Entry)
    → before_start t (noted (map entry.Passed vs) past) ≡ before_start t past
before_passed_all t [] past = refl
before_passed_all t (v ∷ vs) past = before_passed_all t vs (Passed v ∷ past) ∙ before_passed t v past

pub newer_passed_all : (t x : ℕ) (v : Version) (vs : List Shown) (past : List Entry) → NewerThanShown t x v past
    → NewerThanShown t x v (noted (map entry.Passed vs) past)
newer_passed_all t x v [] past a = a
newer_passed_all t x v (k ∷ vs) past a = newer_passed_all t x v vs (Passed k ∷ past) a

-- what was passed is one of these, or was passed before
pub from_passed_all : (x : ℕ) (u : Version) (q : ℕ) (vs : List Shown) (past : List Entry)
    → Stands (Passed (state_of x u q)) (noted (map entry.Passed vs) past)
    → In (state_of x u q) vs ⊎ Stands (Passed (state_of x u q)) past
from_passed_all x u q vs past a = elim (from_noted (Passed (state_of x u q)) (map entry.Passed vs) past a) [
  | inl b ↦
      let c = from_mapped entry.Passed (Passed (state_of x u q)) vs b in
      let i : Passed (state_of x u q) ≡ Passed c.0 = c.2 in
      let j : state_of x u q ≡ c.0 = cc in
      inl (subst (λ z. In z vs) (sym j) c.1)
  | inr b ↦ inr b
]
