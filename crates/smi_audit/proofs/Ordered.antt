-- The command of a number.
use Rattle.std.proofs.Common.{ℕ, zero, suc, ◌≡◌, ◌-◌, ◌<◌, ◌≤◌, false, List, [], ◌∷◌, length, get_or, refl, sym, ap}
use Rattle.std.proofs.Common.{◌∙◌, subst, arith}
use Rattle.std.proofs.lemmas.Option.{slice_get-get_or, slice_get_past}
use Rattle.std.specs.Prelude.{◌==◌, slice_get, Some, None}
use Rattle.std.specs.Option.{option_map_or}
use Rattle.std.proofs.lemmas.Bool.Decides.{nat_tests}
use Rattle.smi_grant.specs.declared.Command.{Command}
use Rattle.smi_audit.specs.Tables.{order_at, is_only, same_command}

no_order : (xs : List Command) → order_at xs 0 ≡ []
no_order [] = refl
no_order (x ∷ xs) = no_order xs

at_place : (xs : List Command) (m : ℕ) (c : Command)
    → is_only (order_at xs (suc m)) c ≡ option_map_or (λ k. same_command k c) (slice_get xs m) false
at_place [] m c = refl
at_place (x ∷ xs) zero c = refl
at_place (x ∷ xs) (suc m) c =
    let other : (suc (suc m) == 1) ≡ false = grind (arith, nat_tests) in
    let back : suc (suc m) - 1 ≡ suc m = omega arith in
    rw other (rw back (at_place xs m c))

pub only_none : (xs : List Command) (n : ℕ) (c : Command) → n ≡ 0 → false ≡ is_only (order_at xs n) c
only_none xs n c is = rw is (rw (no_order xs) refl)

placed : (xs : List Command) (n : ℕ) (c : Command) → 0 < n
    → is_only (order_at xs n) c ≡ option_map_or (λ k. same_command k c) (slice_get xs (n - 1)) false
placed xs zero c some = absurd (omega arith)
placed xs (suc m) c some =
    at_place xs m c ∙ ap (λ z. option_map_or (λ k. same_command k c) (slice_get xs z) false)
    (let back : m ≡ suc m - 1 = omega arith in back)

pub only_some : (xs : List Command) (n : ℕ) (k c : Command) → 0 < n → slice_get xs (n - 1) ≡ Some k
    → same_command k c ≡ is_only (order_at xs n) c
only_some xs n k c some is =
    sym (placed xs n c some ∙ ap (λ o. option_map_or (λ k. same_command k c) o false) is)

pub only_past : (xs : List Command) (n : ℕ) (c : Command) → 0 < n → slice_get xs (n - 1) ≡ None
    → false ≡ is_only (order_at xs n) c
only_past xs n c some is =
    sym (placed xs n c some ∙ ap (λ o. option_map_or (λ k. same_command k c) o false) is)

pub only_read : (xs ys : List Command) (n : ℕ) (k c : Command) → (n ≡ 0 → ⊥) → n - 1 < length ys
    → k ≡ get_or ys (n - 1) k → ys ≡ xs → same_command k c ≡ is_only (order_at xs n) c
only_read xs ys n k c some inside read is =
    only_some xs n k c (omega arith)
    (subst (λ z. slice_get z (n - 1) ≡ Some k) is
    (slice_get-get_or ys (n - 1) k inside ∙ ap Some (sym read)))

pub only_out : (xs ys : List Command) (n : ℕ) (c : Command) → (n ≡ 0 → ⊥) → length ys ≤ n - 1 → ys ≡ xs
    → false ≡ is_only (order_at xs n) c
only_out xs ys n c some out is =
    only_past xs n c (omega arith) (subst (λ z. slice_get z (n - 1) ≡ None) is (slice_get_past ys (n - 1) out))
