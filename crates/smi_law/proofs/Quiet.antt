-- Entries that are not about grants change nothing that is read off a trace about grants.
use Rattle.std.proofs.Common.{ℕ, ◌≡◌, List, [], ◌∷◌, inl, inr, refl, sym, subst}
use Rattle.std.specs.Prelude.{◌++◌}
use Rattle.smi_grant.specs.declared.Holder.{Holder}
use Rattle.smi_protocol.specs.declared.Entry.{Entry}
use Rattle.smi_protocol.specs.declared.Entry.TheVariants.{Booted, Granted, Freed, Ordered, Ran, Learned, LetGo}
use Rattle.smi_protocol.specs.declared.Entry.TheVariants.{InMode, Settled, Showed, Passed, Told}
use Rattle.smi_tree.specs.Hierarchy.{Hierarchy}
use Rattle.smi_law.specs.Safe.{GrantFits}
use Rattle.smi_law.specs.Trace.{Stands, epoch_at, holder_at, has_learned}
use Rattle.smi_law.specs.World.{noted}

-- no domain changes hands and no link becomes held or dropping
abbrev pub IsQuiet : Entry → Type 0
IsQuiet (Granted d e who) = ⊥
IsQuiet (Freed d e) = ⊥
IsQuiet (Learned who d e) = ⊥
IsQuiet (LetGo who d e) = ⊥
IsQuiet (Booted s b) = Unit {0}
IsQuiet (Ordered o d e n c) = Unit {0}
IsQuiet (Ran d e n c) = Unit {0}
IsQuiet (InMode d m) = Unit {0}
IsQuiet (Settled d e n x) = Unit {0}
IsQuiet (Showed s q) = Unit {0}
IsQuiet (Passed q) = Unit {0}
IsQuiet (Told o t) = Unit {0}

abbrev pub AllQuiet : List Entry → Type 0
AllQuiet [] = Unit {0}
AllQuiet (x ∷ more) = IsQuiet x × AllQuiet more

pub quiet_both : (xs ys : List Entry) → AllQuiet xs → AllQuiet ys → AllQuiet (xs ++ ys)
quiet_both [] ys a b = b
quiet_both (x ∷ xs) ys a b = (a.0, quiet_both xs ys a.1 b)

pub epoch_quiet : (d : ℕ) (x : Entry) (past : List Entry) → IsQuiet x → epoch_at d (x ∷ past) ≡ epoch_at d past
unfolding epoch_at
epoch_quiet d (Granted a e who) past q = absurd q
epoch_quiet d (Freed a e) past q = absurd q
epoch_quiet d (Learned who a e) past q = absurd q
epoch_quiet d (LetGo who a e) past q = absurd q
epoch_quiet d (Booted s b) past q = refl
epoch_quiet d (Ordered o a e n c) past q = refl
epoch_quiet d (Ran a e n c) past q = refl
epoch_quiet d (InMode a m) past q = refl
epoch_quiet d (Settled a e n x) past q = refl
epoch_quiet d (Showed s v) past q = refl
epoch_quiet d (Passed v) past q = refl
epoch_quiet d (Told o t) past q = refl

pub holder_quiet : (d : ℕ) (x : Entry) (past : List Entry) → IsQuiet x → holder_at d (x ∷ past) ≡ holder_at d past
unfolding holder_at
holder_quiet d (Granted a e who) past q = absurd q
holder_quiet d (Freed a e) past q = absurd q
holder_quiet d (Learned who a e) past q = absurd q
holder_quiet d (LetGo who a e) past q = absurd q
holder_quiet d (Booted s b) past q = refl
holder_quiet d (Ordered o a e n c) past q = refl
holder_quiet d (Ran a e n c) past q = refl
holder_quiet d (InMode a m) past q = refl
holder_quiet d (Settled a e n x) past q = refl
holder_quiet d (Showed s v) past q = refl
holder_quiet d (Passed v) past q = refl
holder_quiet d (Told o t) past q = refl

pub learned_quiet : (me : Holder) (d e : ℕ) (x : Entry) (past : List Entry) → IsQuiet x
    → has_learned me d e (x ∷ past) ≡ has_learned me d e past
unfolding has_learned
learned_quiet me d e (Granted a f who) past q = absurd q
learned_quiet me d e (Freed a f) past q = absurd q
learned_quiet me d e (Learned who a f) past q = absurd q
learned_quiet me d e (LetGo who a f) past q = absurd q
learned_quiet me d e (Booted s b) past q = refl
learned_quiet me d e (Ordered o a f n c) past q = refl
learned_quiet me d e (Ran a f n c) past q = refl
learned_quiet me d e (InMode a m) past q = refl
learned_quiet me d e (Settled a f n x) past q = refl
learned_quiet me d e (Showed s v) past q = refl
learned_quiet me d e (Passed v) past q = refl
learned_quiet me d e (Told o t) past q = refl

pub fits_quiet : (h : Hierarchy) (x : Entry) (past : List Entry) → IsQuiet x → GrantFits h x past
fits_quiet h (Granted a e who) past q = absurd q
fits_quiet h (Freed a e) past q = absurd q
fits_quiet h (Learned who a e) past q = absurd q
fits_quiet h (LetGo who a e) past q = absurd q
fits_quiet h (Booted s b) past q = tt
fits_quiet h (Ordered o a e n c) past q = tt
fits_quiet h (Ran a e n c) past q = tt
fits_quiet h (InMode a m) past q = tt
fits_quiet h (Settled a e n x) past q = tt
fits_quiet h (Showed s v) past q = tt
fits_quiet h (Passed v) past q = tt
fits_quiet h (Told o t) past q = tt

-- what is about grants stood there before a quiet entry
pub stood_before : (y x : Entry) (past : List Entry) → (IsQuiet y → ⊥) → IsQuiet x → Stands y (x ∷ past) → Stands y past
stood_before y x past loud q (inl same) = absurd (loud (subst IsQuiet (sym same) q))
stood_before y x past loud q (inr a) = a

pub noted_both : (xs ys past : List Entry) → noted (xs ++ ys) past ≡ noted ys (noted xs past)
noted_both [] ys past = refl
noted_both (x ∷ xs) ys past = noted_both xs ys (x ∷ past)
