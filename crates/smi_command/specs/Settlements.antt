-- What settles at once.
use Rattle.std.specs.Prelude.{ℕ, ◌≡◌, ◌≤◌, ◌+◌, ◌-◌, ◌^◌, ◌==◌, if◌then◌else◌, List, length, map}
use Rattle.std.specs.List.{range_with_len}
use Rattle.std.proofs.Common.{get_or, ◌∙◌, ap, arith}
use Rattle.std.proofs.lemmas.Bool.Decides.{nat_tests}
use Rattle.std.proofs.lemmas.List.FromFn.{length-map-range_with_len, get_or-map-range_with_len}
use Rattle.smi_command.specs.declared.settlements.Settlement.{Settlement}
use Rattle.smi_command.specs.Pending.{most_pending}

abbrev pub settlement : ℕ → ℕ → Settlement
settlement n x = record { number = n; code = x }

-- the code of what has settled unseen
abbrev pub unseen : ℕ
unseen = 8

-- the one at this place of this many: the newest has the code, the others are unseen
abbrev pub settled_at : ℕ → ℕ → ℕ → ℕ → Settlement
settled_at first count x i = settlement (first + i) (if i + 1 == count then x else unseen)

-- this many settle, numbered from the first on
abbrev pub settled_run : ℕ → ℕ → ℕ → List Settlement
settled_run first count x = map (settled_at first count x) (range_with_len 0 count)

-- one to eight settle, and their numbers are numbers of commands
pub record IsRun (first count : ℕ) : Type 0 where
  pub some : 1 ≤ count
  pub few : count ≤ most_pending
  pub numbered : first + count ≤ 2 ^ 32

unfoldable pub first_number : List Settlement → ℕ
first_number xs = (get_or xs 0 (settlement 0 0)).number

unfoldable pub last_code : List Settlement → ℕ
last_code xs = (get_or xs (length xs - 1) (settlement 0 0)).code

pub same_count : (first count x : ℕ) → length (settled_run first count x) ≡ count
same_count first count x = length-map-range_with_len (settled_at first count x) 0 count

pub same_first : (first count x : ℕ) → IsRun first count → first_number (settled_run first count x) ≡ first
unfolding first_number
same_first first count x r =
    ap (λ (s : Settlement). s.number) (get_or-map-range_with_len (settled_at first count x) 0 count 0 0
    (settlement 0 0) (omega (arith, r.some)) (omega arith))
    ∙ omega arith

pub same_code : (first count x : ℕ) → IsRun first count → last_code (settled_run first count x) ≡ x
unfolding last_code
same_code first count x r =
    ap (λ n. (get_or (settled_run first count x) (n - 1) (settlement 0 0)).code) (same_count first count x)
    ∙ ap (λ (s : Settlement). s.code) (get_or-map-range_with_len (settled_at first count x) 0 count (count - 1)
    (count - 1) (settlement 0 0) (omega (arith, r.some)) (omega arith))
    ∙ newest count (omega (arith, r.some))
  where
    newest : (count : ℕ) → 1 ≤ count → (if count - 1 + 1 == count then x else unseen) ≡ x
    newest count some = grind (arith, nat_tests)
