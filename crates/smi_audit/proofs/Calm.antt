-- Entries that change nothing of what is read off a trace of a domain.
use Rattle.std.proofs.Common.{ℕ, ◌≡◌, Bool, true, false, List, ◌∷◌, inl, inr, refl, arith}
use Rattle.std.specs.Prelude.{◌==◌, ◌&&◌}
use Rattle.std.proofs.lemmas.Bool.Decides.{nat_tests}
use Rattle.smi_grant.specs.declared.Command.{Command}
use Rattle.smi_grant.specs.declared.Holder.{Holder}
use Rattle.smi_law.specs.Trace.{Stands, epoch_at, holder_at, has_learned, mode_at, orders_of, InWork, runs_under}
use Rattle.smi_protocol.specs.declared.Entry.{Entry}
use Rattle.smi_protocol.specs.declared.Entry.TheVariants.{Booted, Granted, Freed, Ordered, Ran, Learned, LetGo}
use Rattle.smi_protocol.specs.declared.Entry.TheVariants.{InMode, Settled, Showed, Passed, Told}

-- two numbers that are not one
pub unequal : (m n : ℕ) → (m ≡ n → ⊥) → (m == n) ≡ false
unequal m n o = grind (arith, nat_tests)

amid : (a b : Bool) → (a && (false && b)) ≡ false
amid true b = refl
amid false b = refl

-- the domain does not change hands
abbrev pub NoHands : ℕ → Entry → Type 0
NoHands d (Booted u v) = Unit {0}
NoHands d (Granted y f who) = y ≡ d → ⊥
NoHands d (Freed y f) = y ≡ d → ⊥
NoHands d (Ordered p y f m k) = Unit {0}
NoHands d (Ran y f m k) = Unit {0}
NoHands d (Learned who y f) = Unit {0}
NoHands d (LetGo who y f) = Unit {0}
NoHands d (InMode y v) = Unit {0}
NoHands d (Settled y f m q) = Unit {0}
NoHands d (Showed u z) = Unit {0}
NoHands d (Passed z) = Unit {0}
NoHands d (Told u z) = Unit {0}

-- no holder learns of the domain or lets go of it
abbrev pub NoLink : ℕ → Entry → Type 0
NoLink d (Booted u v) = Unit {0}
NoLink d (Granted y f who) = Unit {0}
NoLink d (Freed y f) = Unit {0}
NoLink d (Ordered p y f m k) = Unit {0}
NoLink d (Ran y f m k) = Unit {0}
NoLink d (Learned who y f) = y ≡ d → ⊥
NoLink d (LetGo who y f) = y ≡ d → ⊥
NoLink d (InMode y v) = Unit {0}
NoLink d (Settled y f m q) = Unit {0}
NoLink d (Showed u z) = Unit {0}
NoLink d (Passed z) = Unit {0}
NoLink d (Told u z) = Unit {0}

-- the mode of the domain stays
abbrev pub NoMode : ℕ → Entry → Type 0
NoMode d (Booted u v) = Unit {0}
NoMode d (Granted y f who) = Unit {0}
NoMode d (Freed y f) = Unit {0}
NoMode d (Ordered p y f m k) = Unit {0}
NoMode d (Ran y f m k) = Unit {0}
NoMode d (Learned who y f) = y ≡ d → ⊥
NoMode d (LetGo who y f) = Unit {0}
NoMode d (InMode y v) = y ≡ d → ⊥
NoMode d (Settled y f m q) = Unit {0}
NoMode d (Showed u z) = Unit {0}
NoMode d (Passed z) = Unit {0}
NoMode d (Told u z) = Unit {0}

-- nothing is ordered at the domain
abbrev pub NoOrder : ℕ → Entry → Type 0
NoOrder d (Booted u v) = Unit {0}
NoOrder d (Granted y f who) = Unit {0}
NoOrder d (Freed y f) = Unit {0}
NoOrder d (Ordered p y f m k) = y ≡ d → ⊥
NoOrder d (Ran y f m k) = Unit {0}
NoOrder d (Learned who y f) = Unit {0}
NoOrder d (LetGo who y f) = Unit {0}
NoOrder d (InMode y v) = Unit {0}
NoOrder d (Settled y f m q) = Unit {0}
NoOrder d (Showed u z) = Unit {0}
NoOrder d (Passed z) = Unit {0}
NoOrder d (Told u z) = Unit {0}

-- nothing runs at the domain
abbrev pub NoRun : ℕ → Entry → Type 0
NoRun d (Booted u v) = Unit {0}
NoRun d (Granted y f who) = Unit {0}
NoRun d (Freed y f) = Unit {0}
NoRun d (Ordered p y f m k) = Unit {0}
NoRun d (Ran y f m k) = y ≡ d → ⊥
NoRun d (Learned who y f) = Unit {0}
NoRun d (LetGo who y f) = Unit {0}
NoRun d (InMode y v) = Unit {0}
NoRun d (Settled y f m q) = Unit {0}
NoRun d (Showed u z) = Unit {0}
NoRun d (Passed z) = Unit {0}
NoRun d (Told u z) = Unit {0}

-- nothing runs or ends at the domain
abbrev pub NoWork : ℕ → Entry → Type 0
NoWork d (Booted u v) = Unit {0}
NoWork d (Granted y f who) = Unit {0}
NoWork d (Freed y f) = Unit {0}
NoWork d (Ordered p y f m k) = Unit {0}
NoWork d (Ran y f m k) = y ≡ d → ⊥
NoWork d (Learned who y f) = Unit {0}
NoWork d (LetGo who y f) = Unit {0}
NoWork d (InMode y v) = Unit {0}
NoWork d (Settled y f m q) = y ≡ d → ⊥
NoWork d (Showed u z) = Unit {0}
NoWork d (Passed z) = Unit {0}
NoWork d (Told u z) = Unit {0}

pub epoch_same : (d : ℕ) (x : Entry) (past : List Entry) → NoHands d x → epoch_at d (x ∷ past) ≡ epoch_at d past
unfolding epoch_at
epoch_same d (Booted u v) past calm = refl
epoch_same d (Granted y f who) past calm = rw (unequal y d calm) refl
epoch_same d (Freed y f) past calm = rw (unequal y d calm) refl
epoch_same d (Ordered p y f m k) past calm = refl
epoch_same d (Ran y f m k) past calm = refl
epoch_same d (Learned who y f) past calm = refl
epoch_same d (LetGo who y f) past calm = refl
epoch_same d (InMode y v) past calm = refl
epoch_same d (Settled y f m q) past calm = refl
epoch_same d (Showed u z) past calm = refl
epoch_same d (Passed z) past calm = refl
epoch_same d (Told u z) past calm = refl

pub holder_same : (d : ℕ) (x : Entry) (past : List Entry) → NoHands d x → holder_at d (x ∷ past) ≡ holder_at d past
unfolding holder_at
holder_same d (Booted u v) past calm = refl
holder_same d (Granted y f who) past calm = rw (unequal y d calm) refl
holder_same d (Freed y f) past calm = rw (unequal y d calm) refl
holder_same d (Ordered p y f m k) past calm = refl
holder_same d (Ran y f m k) past calm = refl
holder_same d (Learned who y f) past calm = refl
holder_same d (LetGo who y f) past calm = refl
holder_same d (InMode y v) past calm = refl
holder_same d (Settled y f m q) past calm = refl
holder_same d (Showed u z) past calm = refl
holder_same d (Passed z) past calm = refl
holder_same d (Told u z) past calm = refl

pub learned_same : (me : Holder) (d e : ℕ) (x : Entry) (past : List Entry) → NoLink d x
    → has_learned me d e (x ∷ past) ≡ has_learned me d e past
unfolding has_learned
learned_same me d e (Booted u v) past calm = refl
learned_same me d e (Granted y f who) past calm = refl
learned_same me d e (Freed y f) past calm = refl
learned_same me d e (Ordered p y f m k) past calm = refl
learned_same me d e (Ran y f m k) past calm = refl
learned_same me d e (Learned who y f) past calm = rw (unequal y d calm) refl
learned_same me d e (LetGo who y f) past calm = rw (unequal y d calm) refl
learned_same me d e (InMode y v) past calm = refl
learned_same me d e (Settled y f m q) past calm = refl
learned_same me d e (Showed u z) past calm = refl
learned_same me d e (Passed z) past calm = refl
learned_same me d e (Told u z) past calm = refl

pub mode_same : (me : Holder) (d e : ℕ) (x : Entry) (past : List Entry) → NoMode d x
    → mode_at me d e (x ∷ past) ≡ mode_at me d e past
unfolding mode_at
mode_same me d e (Booted u v) past calm = refl
mode_same me d e (Granted y f who) past calm = refl
mode_same me d e (Freed y f) past calm = refl
mode_same me d e (Ordered p y f m k) past calm = refl
mode_same me d e (Ran y f m k) past calm = refl
mode_same me d e (Learned who y f) past calm = rw (unequal y d calm) refl
mode_same me d e (LetGo who y f) past calm = refl
mode_same me d e (InMode y v) past calm = rw (unequal y d calm) refl
mode_same me d e (Settled y f m q) past calm = refl
mode_same me d e (Showed u z) past calm = refl
mode_same me d e (Passed z) past calm = refl
mode_same me d e (Told u z) past calm = refl

pub orders_same : (o d e n : ℕ) (x : Entry) (past : List Entry) → NoOrder d x
    → orders_of o d e n (x ∷ past) ≡ orders_of o d e n past
unfolding orders_of
orders_same o d e n (Booted u v) past calm = refl
orders_same o d e n (Granted y f who) past calm = refl
orders_same o d e n (Freed y f) past calm = refl
orders_same o d e n (Ordered p y f m k) past calm = rw (unequal y d calm) (rw (amid (p == o) (f == e && m == n)) refl)
orders_same o d e n (Ran y f m k) past calm = refl
orders_same o d e n (Learned who y f) past calm = refl
orders_same o d e n (LetGo who y f) past calm = refl
orders_same o d e n (InMode y v) past calm = refl
orders_same o d e n (Settled y f m q) past calm = refl
orders_same o d e n (Showed u z) past calm = refl
orders_same o d e n (Passed z) past calm = refl
orders_same o d e n (Told u z) past calm = refl

pub runs_same : (d e : ℕ) (x : Entry) (past : List Entry) → NoRun d x → runs_under d e (x ∷ past) ≡ runs_under d e past
unfolding runs_under
runs_same d e (Booted u v) past calm = refl
runs_same d e (Granted y f who) past calm = refl
runs_same d e (Freed y f) past calm = refl
runs_same d e (Ordered p y f m k) past calm = refl
runs_same d e (Ran y f m k) past calm = rw (unequal y d calm) refl
runs_same d e (Learned who y f) past calm = refl
runs_same d e (LetGo who y f) past calm = refl
runs_same d e (InMode y v) past calm = refl
runs_same d e (Settled y f m q) past calm = refl
runs_same d e (Showed u z) past calm = refl
runs_same d e (Passed z) past calm = refl
runs_same d e (Told u z) past calm = refl

pub work_same : (d e n : ℕ) (c : Command) (x : Entry) (past : List Entry) → NoWork d x → InWork d e n c past
    → InWork d e n c (x ∷ past)
unfolding InWork
work_same d e n c (Booted u v) past calm w = w
work_same d e n c (Granted y f who) past calm w = w
work_same d e n c (Freed y f) past calm w = w
work_same d e n c (Ordered p y f m k) past calm w = w
work_same d e n c (Ran y f m k) past calm w = inr w
work_same d e n c (Learned who y f) past calm w = w
work_same d e n c (LetGo who y f) past calm w = w
work_same d e n c (InMode y v) past calm w = w
work_same d e n c (Settled y f m q) past calm w = (λ z. calm z.0, w)
work_same d e n c (Showed u z) past calm w = w
work_same d e n c (Passed z) past calm w = w
work_same d e n c (Told u z) past calm w = w

pub learned_stood : (me : Holder) (d e : ℕ) (x : Entry) (past : List Entry) → NoLink d x
    → Stands (Learned me d e) (x ∷ past) → Stands (Learned me d e) past
learned_stood me d e x past calm (inr a) = a
learned_stood me d e (Booted u v) past calm (inl same) = absurd cc
learned_stood me d e (Granted y f who) past calm (inl same) = absurd cc
learned_stood me d e (Freed y f) past calm (inl same) = absurd cc
learned_stood me d e (Ordered p y f m k) past calm (inl same) = absurd cc
learned_stood me d e (Ran y f m k) past calm (inl same) = absurd cc
learned_stood me d e (Learned who y f) past calm (inl same) = absurd (calm (let i : y ≡ d = cc in i))
learned_stood me d e (LetGo who y f) past calm (inl same) = absurd cc
learned_stood me d e (InMode y v) past calm (inl same) = absurd cc
learned_stood me d e (Settled y f m q) past calm (inl same) = absurd cc
learned_stood me d e (Showed u z) past calm (inl same) = absurd cc
learned_stood me d e (Passed z) past calm (inl same) = absurd cc
learned_stood me d e (Told u z) past calm (inl same) = absurd cc

pub ran_stood : (d e n : ℕ) (c : Command) (x : Entry) (past : List Entry) → NoRun d x → Stands (Ran d e n c) (x ∷ past)
    → Stands (Ran d e n c) past
ran_stood d e n c x past calm (inr a) = a
ran_stood d e n c (Booted u v) past calm (inl same) = absurd cc
ran_stood d e n c (Granted y f who) past calm (inl same) = absurd cc
ran_stood d e n c (Freed y f) past calm (inl same) = absurd cc
ran_stood d e n c (Ordered p y f m k) past calm (inl same) = absurd cc
ran_stood d e n c (Ran y f m k) past calm (inl same) = absurd (calm (let i : y ≡ d = cc in i))
ran_stood d e n c (Learned who y f) past calm (inl same) = absurd cc
ran_stood d e n c (LetGo who y f) past calm (inl same) = absurd cc
ran_stood d e n c (InMode y v) past calm (inl same) = absurd cc
ran_stood d e n c (Settled y f m q) past calm (inl same) = absurd cc
ran_stood d e n c (Showed u z) past calm (inl same) = absurd cc
ran_stood d e n c (Passed z) past calm (inl same) = absurd cc
ran_stood d e n c (Told u z) past calm (inl same) = absurd cc
