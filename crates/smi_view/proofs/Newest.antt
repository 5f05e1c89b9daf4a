-- What is had of an object is the newest of what was noted of it.
use Rattle.std.proofs.Common.{◌≡◌, ℕ, Bool, true, false, List, [], ◌∷◌, ◌⊎◌, inl, inr, Option, Some, None}
use Rattle.std.proofs.Common.{◌≢◌, refl, subst, arith}
use Rattle.std.specs.Prelude.{◌==◌, if◌then◌else◌}
use Rattle.std.proofs.lemmas.Bool.Decides.{nat_tests, eqb_tells}
use Rattle.smi_grant.specs.declared.state.Shown.{Shown}
use Rattle.smi_grant.specs.declared.state.Version.{Version}
use Rattle.smi_view.specs.Accepting.{is_newer}
use Rattle.smi_view.specs.declared.sight.Sight.{Sight}
use Rattle.smi_view.specs.Newest.{IsNotNewer, ShowsAtLeast, shown_after, sight}
use Rattle.smi_view.specs.Noted.{HasNewest, IsShownIn, Note, Showed, Told, object_after, object_with}

newer_passes : (v w x : Version) → is_newer x w ≡ true → IsNotNewer v w → IsNotNewer v x
newer_passes v w x newer h = grind (arith, nat_tests)

not_newer : (v w : Version) → is_newer v w ≡ false → IsNotNewer v w
not_newer v w h = grind (arith, nat_tests)

-- one state more
shown_keeps : (v : Version) (had : Option Sight) (s : Shown) (t : ℕ) → ShowsAtLeast v had
    → ShowsAtLeast v (shown_after had s t)
shown_keeps v None s t h = absurd h
shown_keeps v (Some seen) s t h = by (is_newer s.version seen.shown.version) refl
  where
    by : (b : Bool) → is_newer s.version seen.shown.version ≡ b
        → ShowsAtLeast v (if b then Some (sight s t) else Some seen)
    by true newer = newer_passes v seen.shown.version s.version newer h
    by false older = h

shown_has : (had : Option Sight) (s : Shown) (t : ℕ) → ShowsAtLeast s.version (shown_after had s t)
shown_has None s t = inr (refl, omega arith)
shown_has (Some seen) s t = by (is_newer s.version seen.shown.version) refl
  where
    by : (b : Bool) → is_newer s.version seen.shown.version ≡ b
        → ShowsAtLeast s.version (if b then Some (sight s t) else Some seen)
    by true newer = inr (refl, omega arith)
    by false older = not_newer s.version seen.shown.version older

shown_from : (had : Option Sight) (s : Shown) (t : ℕ) (seen : Sight) → shown_after had s t ≡ Some seen
    → (had ≡ Some seen) ⊎ (seen ≡ sight s t)
shown_from None s t seen e = inr (cc)
shown_from (Some had) s t seen e = by (is_newer s.version had.shown.version) e
  where
    by : (b : Bool) → (if b then Some (sight s t) else Some had) ≡ Some seen
        → (Some had ≡ Some seen) ⊎ (seen ≡ sight s t)
    by true e = inr (cc)
    by false e = inl e

-- one note more, about this object or not
with_keeps : (o : ℕ) (v : Version) (had : Option Sight) (note : Note) → ShowsAtLeast v had
    → ShowsAtLeast v (object_with o had note)
with_keeps o v had (Told d r t) h = h
with_keeps o v had (Showed s t) h = by (o == s.object)
  where
    by : (b : Bool) → ShowsAtLeast v (if b then shown_after had s t else had)
    by true = shown_keeps v had s t h
    by false = h

with_has : (o : ℕ) (had : Option Sight) (s : Shown) (t : ℕ) → o ≡ s.object
    → ShowsAtLeast s.version (object_with o had (Showed s t))
with_has o had s t is = by (eqb_tells o s.object)
  where
    by : (((o == s.object) ≡ true) × (o ≡ s.object)) ⊎ (((o == s.object) ≡ false) × (o ≢ s.object))
        → ShowsAtLeast s.version (object_with o had (Showed s t))
    by (inl e) = rw e.0 (shown_has had s t)
    by (inr e) = absurd (e.1 is)

with_from : (o : ℕ) (had : Option Sight) (s : Shown) (t : ℕ) (seen : Sight) → object_with o had (Showed s t) ≡ Some seen
    → (had ≡ Some seen) ⊎ ((o ≡ s.object) × (seen ≡ sight s t))
with_from o had s t seen h = by (eqb_tells o s.object)
  where
    among : o ≡ s.object → (had ≡ Some seen) ⊎ (seen ≡ sight s t)
        → (had ≡ Some seen) ⊎ ((o ≡ s.object) × (seen ≡ sight s t))
    among is (inl e) = inl e
    among is (inr e) = inr (is, e)

    by : (((o == s.object) ≡ true) × (o ≡ s.object)) ⊎ (((o == s.object) ≡ false) × (o ≢ s.object))
        → (had ≡ Some seen) ⊎ ((o ≡ s.object) × (seen ≡ sight s t))
    by (inl e) =
        let here : shown_after had s t ≡ Some seen
        = subst (λ b. (if b then shown_after had s t else had) ≡ Some seen) e.0 h in
        among e.1 (shown_from had s t seen here)
    by (inr e) = inl (subst (λ b. (if b then shown_after had s t else had) ≡ Some seen) e.0 h)

-- all notes
pub never_back : (o : ℕ) (v : Version) (had : Option Sight) (notes : List Note) → ShowsAtLeast v had
    → ShowsAtLeast v (object_after o had notes)
never_back o v had [] h = h
never_back o v had (note ∷ notes) h = never_back o v (object_with o had note) notes (with_keeps o v had note h)

pub has_newest : (o : ℕ) (had : Option Sight) (notes : List Note) → HasNewest o notes (object_after o had notes)
has_newest o had [] = tt
has_newest o had (Told d r t ∷ notes) = has_newest o had notes
has_newest o had (Showed s t ∷ notes) = (
  λ is. never_back o s.version (object_with o had (Showed s t)) notes (with_has o had s t is),
  has_newest o (object_with o had (Showed s t)) notes,
)

pub comes_from : (o : ℕ) (had : Option Sight) (notes : List Note) (seen : Sight) → object_after o had notes ≡ Some seen
    → (had ≡ Some seen) ⊎ IsShownIn o seen notes
comes_from o had [] seen e = inl e
comes_from o had (Told d r t ∷ notes) seen e = comes_from o had notes seen e
comes_from o had (Showed s t ∷ notes) seen e = later (comes_from o (object_with o had (Showed s t)) notes seen e)
  where
    first : (had ≡ Some seen) ⊎ ((o ≡ s.object) × (seen ≡ sight s t))
        → (had ≡ Some seen) ⊎ (((o ≡ s.object) × (seen ≡ sight s t)) ⊎ IsShownIn o seen notes)
    first (inl h) = inl h
    first (inr h) = inr (inl h)

    later : (object_with o had (Showed s t) ≡ Some seen) ⊎ IsShownIn o seen notes
        → (had ≡ Some seen) ⊎ (((o ≡ s.object) × (seen ≡ sight s t)) ⊎ IsShownIn o seen notes)
    later (inl before) = first (with_from o had s t seen before)
    later (inr after) = inr (inr after)
