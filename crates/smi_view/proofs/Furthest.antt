-- What is had of a domain is the furthest of what was noted of it.
use Rattle.std.proofs.Common.{◌≡◌, ◌≢◌, ◌<◌, ℕ, Bool, true, false, List, [], ◌∷◌, ◌⊎◌, inl, inr, Option, Some}
use Rattle.std.proofs.Common.{None, refl, sym, subst, arith}
use Rattle.std.specs.Prelude.{◌==◌, ◌&&◌, ◌||◌, nat_lt, if◌then◌else◌}
use Rattle.std.proofs.lemmas.Bool.Decides.{nat_tests, eqb_tells}
use Rattle.smi_grant.specs.Rank.{RanksBelow, Rank, place_of}
use Rattle.smi_grant.specs.Record as grants
use Rattle.smi_view.specs.declared.sight.Hearing.{Hearing}
use Rattle.smi_view.specs.Newest.{IsNotFurther, StandsAtLeast, is_further, told_after}
use Rattle.smi_view.specs.Noted.{HasFurthest, IsToldIn, Note, Showed, Told, domain_after, domain_with}

-- to have come further is to rank above
pub ranks_above : (r s : grants.Standing) → is_further r s ≡ true → RanksBelow s r
ranks_above r s h = grind (arith, nat_tests)

-- by epochs and places alone
further_passes : (v w x : grants.Standing) → is_further x w ≡ true → IsNotFurther v w → IsNotFurther v x
further_passes v w x further (inl below) = inl (passes below (ranks_above x w further))
  where
    passes : RanksBelow v w → RanksBelow w x → RanksBelow v x
    passes a b = grind (arith, nat_tests)
further_passes v w x further (inr same) = inl (subst (λ (k : Rank). (k.epoch < x.epoch)
    ⊎ ((k.epoch ≡ x.epoch) × (k.place < place_of x.phase x.last))) (sym same) (ranks_above x w further))

not_further : (v w : grants.Standing) → is_further v w ≡ false → IsNotFurther v w
not_further v w h = by (apart v.epoch w.epoch (place_of v.phase v.last) (place_of w.phase w.last) h)
  where
    apart : (a b p q : ℕ) → (nat_lt b a || (a == b && nat_lt q p)) ≡ false
        → ((a < b) ⊎ ((a ≡ b) × (p < q))) ⊎ ((a ≡ b) × (p ≡ q))
    apart a b p q h = grind (arith, nat_tests)

    by : ((v.epoch < w.epoch) ⊎ ((v.epoch ≡ w.epoch) × (place_of v.phase v.last < place_of w.phase w.last)))
        ⊎ ((v.epoch ≡ w.epoch) × (place_of v.phase v.last ≡ place_of w.phase w.last)) → IsNotFurther v w
    by (inl below) = inl below
    by (inr same) = let e = same.0 in let p = same.1 in inr (cc (e, p))

just_as_far : (v : grants.Standing) → IsNotFurther v v
just_as_far v = inr refl

abbrev told_anew : grants.Standing → ℕ → Option Hearing
told_anew r t = Some (record { «record» = r; since = t; heard = t })

-- one record more
told_keeps : (v : grants.Standing) (had : Option Hearing) (r : grants.Standing) (t : ℕ) → StandsAtLeast v had
    → StandsAtLeast v (told_after had r t)
told_keeps v None r t h = absurd h
told_keeps v (Some had) r t h = by (is_further r had.«record») refl
  where
    by : (b : Bool) → is_further r had.«record» ≡ b
        → StandsAtLeast v (if b then told_anew r t else Some (record had { heard = t }))
    by true further = further_passes v had.«record» r further h
    by false back = h

told_has : (had : Option Hearing) (r : grants.Standing) (t : ℕ) → StandsAtLeast r (told_after had r t)
told_has None r t = just_as_far r
told_has (Some had) r t = by (is_further r had.«record») refl
  where
    by : (b : Bool) → is_further r had.«record» ≡ b
        → StandsAtLeast r (if b then told_anew r t else Some (record had { heard = t }))
    by true further = just_as_far r
    by false back = not_further r had.«record» back

-- the record was had before
abbrev HadBefore : Option Hearing → grants.Standing → Type 0
HadBefore had r = (before : Hearing) × (had ≡ Some before) × (before.«record» ≡ r)

told_from : (had : Option Hearing) (r : grants.Standing) (t : ℕ) (heard : Hearing) → told_after had r t ≡ Some heard
    → HadBefore had heard.«record» ⊎ (heard.«record» ≡ r)
told_from None r t heard e = inr (same heard e)
  where
    same : (h : Hearing) → Some (record { «record» = r; since = t; heard = t }) ≡ Some h → h.«record» ≡ r
    same h e = cc
told_from (Some had) r t heard e = by (is_further r had.«record») e
  where
    by : (b : Bool) → (if b then told_anew r t else Some (record had { heard = t })) ≡ Some heard
        → HadBefore (Some had) heard.«record» ⊎ (heard.«record» ≡ r)
    by true e = inr (cc)
    by false e = inl (had, refl, cc)

-- one note more, about this domain or not
with_keeps : (d : ℕ) (v : grants.Standing) (had : Option Hearing) (note : Note) → StandsAtLeast v had
    → StandsAtLeast v (domain_with d had note)
with_keeps d v had (Showed s t) h = h
with_keeps d v had (Told about r t) h = by (d == about)
  where
    by : (b : Bool) → StandsAtLeast v (if b then told_after had r t else had)
    by true = told_keeps v had r t h
    by false = h

with_has : (d : ℕ) (had : Option Hearing) (about : ℕ) (r : grants.Standing) (t : ℕ) → d ≡ about
    → StandsAtLeast r (domain_with d had (Told about r t))
with_has d had about r t is = by (eqb_tells d about)
  where
    by : (((d == about) ≡ true) × (d ≡ about)) ⊎ (((d == about) ≡ false) × (d ≢ about))
        → StandsAtLeast r (domain_with d had (Told about r t))
    by (inl e) = rw e.0 (told_has had r t)
    by (inr e) = absurd (e.1 is)

with_from : (d : ℕ) (had : Option Hearing) (about : ℕ) (r : grants.Standing) (t : ℕ) (heard : Hearing)
    → domain_with d had (Told about r t) ≡ Some heard
    → HadBefore had heard.«record» ⊎ ((d ≡ about) × (heard.«record» ≡ r))
with_from d had about r t heard h = by (eqb_tells d about)
  where
    among : d ≡ about → HadBefore had heard.«record» ⊎ (heard.«record» ≡ r)
        → HadBefore had heard.«record» ⊎ ((d ≡ about) × (heard.«record» ≡ r))
    among is (inl e) = inl e
    among is (inr e) = inr (is, e)

    by : (((d == about) ≡ true) × (d ≡ about)) ⊎ (((d == about) ≡ false) × (d ≢ about))
        → HadBefore had heard.«record» ⊎ ((d ≡ about) × (heard.«record» ≡ r))
    by (inl e) =
        let here : told_after had r t ≡ Some heard
        = subst (λ b. (if b then told_after had r t else had) ≡ Some heard) e.0 h in
        among e.1 (told_from had r t heard here)
    by (inr e) = inl (heard, subst (λ b. (if b then told_after had r t else had) ≡ Some heard) e.0 h, refl)

-- all notes
pub never_back : (d : ℕ) (v : grants.Standing) (had : Option Hearing) (notes : List Note) → StandsAtLeast v had
    → StandsAtLeast v (domain_after d had notes)
never_back d v had [] h = h
never_back d v had (note ∷ notes) h = never_back d v (domain_with d had note) notes (with_keeps d v had note h)

pub has_furthest : (d : ℕ) (had : Option Hearing) (notes : List Note) → HasFurthest d notes (domain_after d had notes)
has_furthest d had [] = tt
has_furthest d had (Showed s t ∷ notes) = has_furthest d had notes
has_furthest d had (Told about r t ∷ notes) = (
  λ is. never_back d r (domain_with d had (Told about r t)) notes (with_has d had about r t is),
  has_furthest d (domain_with d had (Told about r t)) notes,
)

pub comes_from : (d : ℕ) (had : Option Hearing) (notes : List Note) (heard : Hearing)
    → domain_after d had notes ≡ Some heard → HadBefore had heard.«record» ⊎ IsToldIn d heard.«record» notes
comes_from d had [] heard e = inl (heard, e, refl)
comes_from d had (Showed s t ∷ notes) heard e = comes_from d had notes heard e
comes_from d had (Told about r t ∷ notes) heard e =
    later (comes_from d (domain_with d had (Told about r t)) notes heard e)
  where
    first : HadBefore had heard.«record» ⊎ ((d ≡ about) × (heard.«record» ≡ r))
        → HadBefore had heard.«record» ⊎ (((d ≡ about) × (heard.«record» ≡ r)) ⊎ IsToldIn d heard.«record» notes)
    first (inl h) = inl h
    first (inr h) = inr (inl h)

    carry : (before : Hearing) → before.«record» ≡ heard.«record» → HadBefore had before.«record» ⊎ ((d ≡ about)
        × (before.«record» ≡ r)) → HadBefore had heard.«record» ⊎ ((d ≡ about) × (heard.«record» ≡ r))
    carry before same h = subst (λ k. HadBefore had k ⊎ ((d ≡ about) × (k ≡ r))) same h

    later : HadBefore (domain_with d had (Told about r t)) heard.«record» ⊎ IsToldIn d heard.«record» notes
        → HadBefore had heard.«record» ⊎ (((d ≡ about) × (heard.«record» ≡ r)) ⊎ IsToldIn d heard.«record» notes)
    later (inl before) = first (carry before.0 before.2 (with_from d had about r t before.0 before.1))
    later (inr after) = inr (inr after)
