-- The exchange that adds a row keeps the count.
use Rattle.std.proofs.Common.{◌≡◌, ℕ, ◌+◌, ◌<◌, ◌==◌, Bool, true, false, List, [], ◌∷◌, ◌++◌, length, refl, ap, sym}
use Rattle.std.proofs.Common.{subst, arith, inl, length-append, append-nil, None}
use Rattle.std.proofs.lemmas.Bool.Decides.{nat_tests}
use mathlib.Core.List.{IsPrefix}
use prog.Atomic.{either}
use Rattle.logbook.specs.Pages.{Cell, cell, keeps, no_nib, step, Moves, Goes}
use Rattle.smi_grant.specs.declared.state.Shown.{Shown}
use Rattle.smi_view.specs.History.{IsCounted, Extends}
use Rattle.smi_view.proofs.Beginnings.{all_of_it}

abbrev none_shown : List Shown → List Shown
none_shown rows = []

abbrev no_moves : List Shown → List Shown → ℕ → Type 0
no_moves before after answer = Unit {0}

goes : (log seen : List Shown) (row : Shown) (old : ℕ) → length seen ≡ old → IsPrefix seen log → (b : Bool)
    → (length log == old) ≡ b
    → Goes IsCounted none_shown no_moves 0 (seen, (no_nib, None)) (λ n. either (n == old) (old + 1) n)
    (Extends (step 0 old (old + 1) row) (seen, (no_nib, None))) ((length log, true) ∷ (0, true) ∷ []) log
goes log seen row old len begins true is =
    let here : length log ≡ old = grind (arith, nat_tests) in
    let same : seen ≡ log = all_of_it seen log begins (omega arith) in
    let count : either (length log == old) (old + 1) (length log)
    ≡ length (log ++ row ∷ []) = rw is (omega (arith, length-append log (row ∷ []))) in (
      keeps,
      row ∷ [],
      None,
      tt,
      ap (λ (k : ℕ). (k, true) ∷ (0, true) ∷ []) count,
      inl (refl, refl),
      rw is (ap (λ rows. rows ++ row ∷ []) (sym same)),
    )
goes log seen row old len begins false is =
    let count : either (length log == old) (old + 1) (length log)
    ≡ length (log ++ []) = rw is (ap length (sym (append-nil log))) in
    (keeps, [], None, tt, ap (λ (k : ℕ). (k, true) ∷ (0, true) ∷ []) count, inl (refl, refl), rw is tt)

pub moves : (seen : List Shown) (row : Shown) (old : ℕ) → length seen ≡ old
    → Moves IsCounted none_shown no_moves 0 (seen, (no_nib, None)) (λ n. either (n == old) (old + 1) n)
    (Extends (step 0 old (old + 1) row) (seen, (no_nib, None)))
moves seen row old len cs log counted begins away =
    let P : List Cell → Type 0 = λ c. (0 < length c) × ((cell c 0).1 ≡ true)
    × Goes IsCounted none_shown no_moves 0 (seen, (no_nib, None)) (λ n. either (n == old) (old + 1) n)
    (Extends (step 0 old (old + 1) row) (seen, (no_nib, None))) c log in
    subst P (sym counted) (omega arith, refl, goes log seen row old len begins (length log == old) refl)
