-- Entries that are not about states, or of other objects and stations.
use Rattle.std.proofs.Common.{ℕ, ◌≡◌, List, ◌∷◌, inl, inr, sym, ap}
use Rattle.smi_grant.specs.declared.Shown.{Shown}
use Rattle.smi_grant.specs.declared.Version.{Version}
use Rattle.smi_law.specs.Safe.{NewerThanShown}
use Rattle.smi_law.specs.Trace.{Stands}
use Rattle.smi_audit.specs.Described.{HasPassed, IsLastShown}
use Rattle.smi_audit.specs.declared.last_shown.LastShown.{LastShown}
use Rattle.smi_protocol.specs.declared.Entry.{Entry}
use Rattle.smi_protocol.specs.declared.Entry.TheVariants.{Booted, Granted, Freed, Ordered, Ran, Learned, LetGo}
use Rattle.smi_protocol.specs.declared.Entry.TheVariants.{InMode, Settled, Showed, Passed, Told}

-- the object does not change
abbrev pub NoPassing : ℕ → Entry → Type 0
NoPassing x (Booted u v) = Unit {0}
NoPassing x (Granted y f who) = Unit {0}
NoPassing x (Freed y f) = Unit {0}
NoPassing x (Ordered p y f m k) = Unit {0}
NoPassing x (Ran y f m k) = Unit {0}
NoPassing x (Learned who y f) = Unit {0}
NoPassing x (LetGo who y f) = Unit {0}
NoPassing x (InMode y v) = Unit {0}
NoPassing x (Settled y f m q) = Unit {0}
NoPassing x (Showed u z) = Unit {0}
NoPassing x (Passed z) = z.object ≡ x → ⊥
NoPassing x (Told u z) = Unit {0}

-- the station is not shown the object, and does not start
abbrev pub NoShowing : ℕ → ℕ → Entry → Type 0
NoShowing s x (Booted u v) = u ≡ s → ⊥
NoShowing s x (Granted y f who) = Unit {0}
NoShowing s x (Freed y f) = Unit {0}
NoShowing s x (Ordered p y f m k) = Unit {0}
NoShowing s x (Ran y f m k) = Unit {0}
NoShowing s x (Learned who y f) = Unit {0}
NoShowing s x (LetGo who y f) = Unit {0}
NoShowing s x (InMode y v) = Unit {0}
NoShowing s x (Settled y f m q) = Unit {0}
NoShowing s x (Showed u z) = u ≡ s → z.object ≡ x → ⊥
NoShowing s x (Passed z) = Unit {0}
NoShowing s x (Told u z) = Unit {0}

passed_stood : (x : ℕ) (v : Version) (q : ℕ) (e : Entry) (past : List Entry) → NoPassing x e
    → Stands (Passed (record { object = x; version = v; state = q })) (e ∷ past)
    → Stands (Passed (record { object = x; version = v; state = q })) past
passed_stood x v q e past calm (inr a) = a
passed_stood x v q (Booted u w) past calm (inl same) = absurd cc
passed_stood x v q (Granted y f who) past calm (inl same) = absurd cc
passed_stood x v q (Freed y f) past calm (inl same) = absurd cc
passed_stood x v q (Ordered p y f m k) past calm (inl same) = absurd cc
passed_stood x v q (Ran y f m k) past calm (inl same) = absurd cc
passed_stood x v q (Learned who y f) past calm (inl same) = absurd cc
passed_stood x v q (LetGo who y f) past calm (inl same) = absurd cc
passed_stood x v q (InMode y w) past calm (inl same) = absurd cc
passed_stood x v q (Settled y f m r) past calm (inl same) = absurd cc
passed_stood x v q (Showed u z) past calm (inl same) = absurd cc
passed_stood x v q (Passed z) past calm (inl same) =
    let i : record { object = x; version = v; state = q } ≡ z = cc in
    absurd (calm (ap (λ (w : Shown). w.object) (sym i)))
passed_stood x v q (Told u z) past calm (inl same) = absurd cc

showed_stood : (s x : ℕ) (v : Version) (q : ℕ) (e : Entry) (past : List Entry) → NoShowing s x e
    → Stands (Showed s (record { object = x; version = v; state = q })) (e ∷ past)
    → Stands (Showed s (record { object = x; version = v; state = q })) past
showed_stood s x v q e past calm (inr a) = a
showed_stood s x v q (Booted u w) past calm (inl same) = absurd cc
showed_stood s x v q (Granted y f who) past calm (inl same) = absurd cc
showed_stood s x v q (Freed y f) past calm (inl same) = absurd cc
showed_stood s x v q (Ordered p y f m k) past calm (inl same) = absurd cc
showed_stood s x v q (Ran y f m k) past calm (inl same) = absurd cc
showed_stood s x v q (Learned who y f) past calm (inl same) = absurd cc
showed_stood s x v q (LetGo who y f) past calm (inl same) = absurd cc
showed_stood s x v q (InMode y w) past calm (inl same) = absurd cc
showed_stood s x v q (Settled y f m r) past calm (inl same) = absurd cc
showed_stood s x v q (Showed u z) past calm (inl same) =
    let i : record { object = x; version = v; state = q } ≡ z = cc in
    let j : s ≡ u = cc in absurd (calm (sym j) (ap (λ (w : Shown). w.object) (sym i)))
showed_stood s x v q (Passed z) past calm (inl same) = absurd cc
showed_stood s x v q (Told u z) past calm (inl same) = absurd cc

newer_still : (s x : ℕ) (v : Version) (e : Entry) (past : List Entry) → NoShowing s x e → NewerThanShown s x v past
    → NewerThanShown s x v (e ∷ past)
newer_still s x v (Booted u w) past calm n = inr n
newer_still s x v (Granted y f who) past calm n = n
newer_still s x v (Freed y f) past calm n = n
newer_still s x v (Ordered p y f m k) past calm n = n
newer_still s x v (Ran y f m k) past calm n = n
newer_still s x v (Learned who y f) past calm n = n
newer_still s x v (LetGo who y f) past calm n = n
newer_still s x v (InMode y w) past calm n = n
newer_still s x v (Settled y f m r) past calm n = n
newer_still s x v (Showed u z) past calm n = (λ i j. absurd (calm i j), n)
newer_still s x v (Passed z) past calm n = n
newer_still s x v (Told u z) past calm n = n

pub passed_still : (past : List Entry) (x : ℕ) (passed : List Shown) (e : Entry) → NoPassing x e
    → HasPassed past x passed → HasPassed (e ∷ past) x passed
passed_still past x passed e calm h = record {
  stood = λ z t. inr (h.stood z t);
  newest = λ v u q t a. h.newest v u q t (passed_stood x u q e past calm a);
}

pub shown_still : (past : List Entry) (s x : ℕ) (g : LastShown) (e : Entry) → NoShowing s x e → IsLastShown past s x g
    → IsLastShown (e ∷ past) s x g
shown_still past s x g e calm h = record {
  older = λ v least u q a. h.older v least u q (showed_stood s x u q e past calm a);
  newer = λ v above. newer_still s x v e past calm (h.newer v above);
}
