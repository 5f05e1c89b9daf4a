-- A state is looked for by its version.
use Rattle.std.proofs.Common.{ℕ, zero, suc, ◌≡◌, ◌<◌, ◌≤◌, ◌+◌, ◌-◌, ◌/◌, get_or, Bool, true, false, List, [], ◌∷◌}
use Rattle.std.proofs.Common.{length, refl, sym, ap, ◌∙◌, subst, arith}
use Rattle.std.specs.Prelude.{◌==◌, ◌||◌, slice_get, Some, None}
use Rattle.std.proofs.lemmas.Bool.{eqb-true}
use Rattle.std.proofs.lemmas.Bool.Decides.{nat_tests}
use Rattle.std.proofs.lemmas.Option.{slice_get-get_or}
use Rattle.smi_grant.specs.declared.Shown.{Shown}
use Rattle.smi_grant.specs.declared.Version.{Version}
use Rattle.smi_view.specs.Accepting.{is_newer}
use Rattle.smi_audit.specs.Passed.{AreNewer, AreNotNewer, IsPlaceOf}
use Rattle.smi_audit.specs.Tables.{IsFalling, has_passed, same_shown}
use Rattle.smi_audit.proofs.States.{newer_again, same_seen}

-- the first is newer than each other one
above_all : (x : Shown) (xs : List Shown) → IsFalling (x ∷ xs) → (k : ℕ) (y : Shown) → slice_get xs k ≡ Some y
    → is_newer x.version y.version ≡ true
above_all x [] f k y is = absurd cc
above_all x (z ∷ xs) f zero y is = let same : z ≡ y = cc in subst (λ w. is_newer x.version w.version ≡ true) same f.0
above_all x (z ∷ xs) f (suc k) y is =
    newer_again x.version z.version y.version f.0 (above_all z xs f.1 k y is)

-- of two the one in front is newer
falls : (xs : List Shown) → IsFalling xs → (i k : ℕ) (x y : Shown) → slice_get xs i ≡ Some x → slice_get xs k ≡ Some y
    → i < k → is_newer x.version y.version ≡ true
falls [] f i k x y at there less = absurd cc
falls (z ∷ xs) f zero zero x y at there less = absurd (omega arith)
falls (z ∷ xs) f zero (suc k) x y at there less =
    let same : z ≡ x = cc in subst (λ w. is_newer w.version y.version ≡ true) same (above_all z xs f k y there)
falls (z ∷ xs) f (suc i) zero x y at there less = absurd (omega arith)
falls (z ∷ xs) f (suc i) (suc k) x y at there less = falls xs f.1 i k x y at there (omega (arith, less))

not_both : (b : Bool) → b ≡ true → b ≡ false → ⊥
not_both b t f = let wrong : true ≡ false = sym t ∙ f in cc

to_false : (b : Bool) → (b ≡ true → ⊥) → b ≡ false
to_false true other = absurd (other refl)
to_false false other = refl

-- half of those that are left are done with
pub more_newer : (xs : List Shown) (v : Version) (middle : ℕ) (x : Shown) → IsFalling xs → slice_get xs middle ≡ Some x
    → is_newer x.version v ≡ true → AreNewer xs v (middle + 1)
more_newer xs v middle x f at newer k y there less = by (k == middle) refl
  where
    by : (b : Bool) → (k == middle) ≡ b → is_newer y.version v ≡ true
    by true is =
        let same : k ≡ middle = eqb-true k middle is in
        let both : Some y ≡ Some x = sym there ∙ ap (slice_get xs) same ∙ at in
        let one : x ≡ y = cc in
        subst (λ w. is_newer w.version v ≡ true) one newer
    by false is =
        let under : k < middle = grind (arith, nat_tests) in
        newer_again y.version x.version v (falls xs f k middle y x there at under) newer

pub more_not_newer : (xs : List Shown) (v : Version) (middle : ℕ) (x : Shown) → IsFalling xs
    → slice_get xs middle ≡ Some x → is_newer x.version v ≡ false → AreNotNewer xs v middle
more_not_newer xs v middle x f at older k y there past = by (k == middle) refl
  where
    by : (b : Bool) → (k == middle) ≡ b → is_newer y.version v ≡ false
    by true is =
        let same : k ≡ middle = eqb-true k middle is in
        let both : Some y ≡ Some x = sym there ∙ ap (slice_get xs) same ∙ at in
        let one : x ≡ y = cc in
        subst (λ w. is_newer w.version v ≡ false) one older
    by false is =
        let over : middle < k = grind (arith, nat_tests) in
        to_false (is_newer y.version v) (λ newer. not_both (is_newer x.version v)
        (newer_again x.version y.version v (falls xs f middle k x y at there over) newer) older)

-- A state of another version is another state.

not_self : (v : Version) → is_newer v v ≡ false
not_self v = grind (arith, nat_tests)

other_newer : (x s : Shown) → is_newer x.version s.version ≡ true → same_shown x s ≡ false
other_newer x s newer = to_false (same_shown x s) (λ same. not_both (is_newer s.version s.version)
    (subst (λ (w : Shown). is_newer w.version s.version ≡ true) (same_seen x s same) newer) (not_self s.version))

either_none : (b c : Bool) → b ≡ false → c ≡ false → (b || c) ≡ false
either_none true c f g = absurd cc
either_none false c f g = g

-- behind one that is not newer than it no other is it
none_behind : (x : Shown) (xs : List Shown) (s : Shown) → IsFalling (x ∷ xs) → is_newer x.version s.version ≡ false
    → has_passed xs s ≡ false
none_behind x [] s f older = refl
none_behind x (y ∷ xs) s f older =
    either_none (same_shown y s) (has_passed xs s)
    (to_false (same_shown y s) (λ same. not_both (is_newer x.version s.version)
    (subst (λ (w : Shown). is_newer x.version w.version ≡ true) (same_seen y s same) f.0) older))
    (none_behind y xs s f.1 (to_false (is_newer y.version s.version) (λ newer.
    not_both (is_newer x.version s.version) (newer_again x.version y.version s.version f.0 newer) older)))

first_alone : (b : Bool) (c : Bool) → c ≡ false → (b || c) ≡ b
first_alone true c f = refl
first_alone false c f = f

rest_alone : (b : Bool) (c : Bool) → b ≡ false → (b || c) ≡ c
rest_alone true c f = absurd cc
rest_alone false c f = refl

later : (xs : List Shown) (v : Version) (x : Shown) (p : ℕ) → IsPlaceOf (x ∷ xs) v (suc p) → IsPlaceOf xs v p
later xs v x p is = record {
  within = omega (arith, is.within);
  before = λ k y at less. is.before (suc k) y at (omega (arith, less));
  behind = λ k y at past. is.behind (suc k) y at (omega (arith, past));
}

pub found_at : (xs : List Shown) (s : Shown) (p : ℕ) (x : Shown) → IsFalling xs → IsPlaceOf xs s.version p
    → slice_get xs p ≡ Some x → same_shown x s ≡ has_passed xs s
found_at [] s p x f is at = absurd cc
found_at (y ∷ xs) s zero x f is at =
    let one : y ≡ x = cc in
    ap (λ (w : Shown). same_shown w s) (sym one)
    ∙ sym (first_alone (same_shown y s) (has_passed xs s)
    (none_behind y xs s f (is.behind 0 y refl (omega arith))))
found_at (y ∷ xs) s (suc p) x f is at =
    found_at xs s p x f.1 (later xs s.version y p is) at
    ∙ sym (rest_alone (same_shown y s) (has_passed xs s) (other_newer y s (is.before 0 y refl (omega arith))))

-- What a loop that halves what is left knows.

abbrev pub Narrows : List Shown → Version → ℕ → ℕ → Type 0
Narrows xs v low high = (low ≤ high) × (high ≤ length xs) × AreNewer xs v low × AreNotNewer xs v high

pub read_at : (xs : List Shown) (i : ℕ) (x : Shown) → i < length xs → x ≡ get_or xs i x → slice_get xs i ≡ Some x
read_at xs i x within read = slice_get-get_or xs i x within ∙ ap Some (sym read)

between : (low high : ℕ) → low < high → low + (high - low) / 2 < high
between low high less = omega (arith, less)

pub narrows_up : (xs : List Shown) (v : Version) (low high : ℕ) (x : Shown) → IsFalling xs → low < high
    → Narrows xs v low high → x ≡ get_or xs (low + (high - low) / 2) x → is_newer x.version v ≡ true
    → Narrows xs v (low + (high - low) / 2 + 1) high
narrows_up xs v low high x f less n read newer =
    let middle : low + (high - low) / 2 < high = between low high less in (
      omega (arith, middle),
      n.1,
      more_newer xs v (low + (high - low) / 2) x f
          (read_at xs (low + (high - low) / 2) x (let most = n.1 in omega (arith, middle, most)) read) newer,
      n.3,
    )

pub narrows_down : (xs : List Shown) (v : Version) (low high : ℕ) (x : Shown) → IsFalling xs → low < high
    → Narrows xs v low high → x ≡ get_or xs (low + (high - low) / 2) x → is_newer x.version v ≡ false
    → Narrows xs v low (low + (high - low) / 2)
narrows_down xs v low high x f less n read older =
    let middle : low + (high - low) / 2 < high = between low high less in (
      omega arith,
      (let most = n.1 in omega (arith, middle, most)),
      n.2,
      more_not_newer xs v (low + (high - low) / 2) x f
          (read_at xs (low + (high - low) / 2) x (let most = n.1 in omega (arith, middle, most)) read) older,
    )

pub found_out : (xs : List Shown) (s : Shown) (p : ℕ) → IsFalling xs → IsPlaceOf xs s.version p → slice_get xs p ≡ None
    → false ≡ has_passed xs s
found_out [] s p f is out = refl
found_out (y ∷ xs) s zero f is out = absurd cc
found_out (y ∷ xs) s (suc p) f is out =
    found_out xs s p f.1 (later xs s.version y p is) out
    ∙ sym (rest_alone (same_shown y s) (has_passed xs s) (other_newer y s (is.before 0 y refl (omega arith))))
