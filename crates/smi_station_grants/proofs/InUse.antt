-- The links that are not out are counted by number, or by place.
use Rattle.std.proofs.Common.{ℕ, suc, ◌≡◌, ◌+◌, ◌<◌, false, List, [], ◌∷◌, length, get_or, cond, refl, sym, ap, ◌∙◌}
use Rattle.std.proofs.Common.{arith}
use Rattle.std.specs.Prelude.{◌==◌, not, count_by}
use Rattle.std.specs.List.{range_with_len}
use Rattle.std.proofs.lemmas.Bool.Decides.{nat_tests}
use Rattle.std.proofs.lemmas.List.Sums.{sum_by-cons}
use Rattle.smi_command.specs.declared.Link.{Link}
use Rattle.smi_command.specs.declared.Link.TheVariants.{Out}
use Rattle.smi_command.specs.Link.{is_out}
use Rattle.smi_station_grants.specs.Entries.{entry_or}
use Rattle.smi_station_grants.specs.GrantTable.{count_in_use}

counted_from : (f : ℕ → Link) (links : List Link) (a : ℕ)
    → ((i : ℕ) → i < length links → f (a + i) ≡ get_or links i (Out 0))
    → count_by (λ d. not (is_out (f d))) (range_with_len a (length links)) ≡ count_in_use links
counted_from f [] a at = refl
counted_from f (l ∷ more) a at =
    let first : f a ≡ l = ap f (omega arith) ∙ at 0 (omega arith) in
    let later = counted_from f more (a + 1)
    (λ i within. ap f (omega arith) ∙ at (suc i) (omega (arith, within))) in
    sum_by-cons (λ d. cond (not (is_out (f d))) 1 0) a (range_with_len (a + 1) (length more))
    ∙ ap (λ x. cond (not (is_out x)) 1 0 + count_by (λ d. not (is_out (f d))) (range_with_len (a + 1) (length more)))
    first
    ∙ ap (λ n. cond (not (is_out l)) 1 0 + n) later
    ∙ sym (sum_by-cons (λ x. cond (not (is_out x)) 1 0) l more)

numbered : (links : List Link) (i : ℕ) → entry_or links (1 + i) (Out 0) ≡ get_or links i (Out 0)
numbered links i =
    let positive : (1 + i == 0) ≡ false = grind (arith, nat_tests) in
    rw positive (ap (λ k. get_or links k (Out 0)) (omega arith))

-- by the numbers of the domains, or by the places of a table that has one for each
pub counted_by_number : (links : List Link) (n : ℕ) → length links ≡ n
    → count_in_use links ≡ count_by (λ d. not (is_out (entry_or links d (Out 0)))) (range_with_len 1 n)
counted_by_number links n long =
    sym (counted_from (λ d. entry_or links d (Out 0)) links 1 (λ i within. numbered links i))
    ∙ ap (λ m. count_by (λ d. not (is_out (entry_or links d (Out 0)))) (range_with_len 1 m)) long
