-- What a station that was never started keeps is sound.
use Rattle.std.proofs.Common.{ℕ, ◌≡◌, true, false, List, [], ◌∷◌, refl, arith}
use Rattle.std.specs.List.{list_any, range_with_len}
use Rattle.smi_tree.specs.Hierarchy.{Hierarchy}
use Rattle.smi_tree.specs.Lookups.{children_of, domain_count}
use Rattle.smi_protocol.specs.Grants.{no_grants}
use Rattle.smi_protocol.specs.Refusals.{links_in_use}
use Rattle.smi_protocol.specs.Sound.{IsSound}
use Rattle.smi_protocol.proofs.Counts.{count_none}

none_waits : (xs : List ℕ) → list_any (λ x. false) xs ≡ false
none_waits [] = refl
none_waits (x ∷ xs) = none_waits xs

pub opens_sound : (h : Hierarchy) → IsSound h no_grants
opens_sound h = record {
  standing = λ d. refl;
  holder = λ d. refl;
  gathered = λ d. refl;
  at_rest = λ d settled. record { gathered = refl; still = none_waits (children_of h d) };
  at_work = λ d working. absurd (let wrong : true ≡ false = working in cc);
  own = λ o d. omega arith;
  child = λ p d. omega arith;
  mode = λ p d parent out. refl;
  few = λ o. let none : links_in_use h no_grants o
      ≡ 0 = count_none (λ d. false) (range_with_len 1 (domain_count h)) (λ d. refl) in omega (arith, none);
}
