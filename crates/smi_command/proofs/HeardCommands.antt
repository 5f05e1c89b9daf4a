-- The pending commands that settle where a record is told.
use Rattle.std.proofs.Common.{ℕ, zero, suc, ◌≡◌, ◌<◌, ◌≤◌, ◌+◌, ◌-◌, Bool, true, false, List, length, get_or, drop}
use Rattle.std.proofs.Common.{map, ◌∙◌, sym, ap, ap₂, refl, arith}
use Rattle.std.specs.Prelude.{◌==◌, if◌then◌else◌}
use Rattle.std.specs.List.{range_with_len}
use Rattle.std.proofs.lemmas.Bool.Decides.{nat_tests}
use Rattle.std.proofs.lemmas.List.{same_lists}
use Rattle.std.proofs.lemmas.List.FromFn.{length-map-range_with_len, get_or-map-range_with_len}
use Rattle.smi_grant.specs.declared.command.Command.{Command}
use Rattle.smi_grant.specs.Record.{Standing, is_settled}
use Rattle.smi_command.specs.declared.link.Link.TheVariants.{Held}
use Rattle.smi_command.specs.declared.hearing.LinkHeard.TheVariants.{Settled}
use Rattle.smi_command.specs.declared.settlements.Settlement.{Settlement}
use Rattle.smi_command.specs.Pending.{base_of}
use Rattle.smi_command.specs.Settlements.{settlement, settled_at, settled_run, unseen}
use Rattle.smi_command.specs.Hearing.{newest_settled, settled_count, code_in, settlement_in, commands_settled}
use Rattle.smi_command.specs.Hearing.{told_held}

pub newest_at_most : (r : Standing) → newest_settled r ≤ r.last
newest_at_most r = by_test (is_settled r.phase)
  where
    by_test : (b : Bool) → (if b then r.last else r.last - 1) ≤ r.last
    by_test true = omega arith
    by_test false = omega arith

-- what is shown of the numbers after b is that the newest has its code and the others are unseen
one_settled : (b k i last x : ℕ) → i < k → b + k ≤ last
    → (if b + 1 + i == last then x else unseen) ≡ (if i + 1 == k then (if b + k == last then x else unseen) else unseen)
one_settled b k i last x within most = grind (arith, nat_tests)

settlements_run : (r : Standing) (b k x : ℕ) → b + k ≤ r.last → x ≡ code_in r (b + k)
    → map (settlement_in r) (range_with_len (b + 1) k) ≡ settled_run (b + 1) k x
settlements_run r b k x most is =
    same_lists _ _ (in_all ∙ sym (length-map-range_with_len (settled_at (b + 1) k x) 0 k)) at_place
  where
    in_all : length (map (settlement_in r) (range_with_len (b + 1) k)) ≡ k
    in_all = length-map-range_with_len (settlement_in r) (b + 1) k

    at_place : (i : ℕ) (d : Settlement) → i < length (map (settlement_in r) (range_with_len (b + 1) k))
        → get_or (map (settlement_in r) (range_with_len (b + 1) k)) i d ≡ get_or (settled_run (b + 1) k x) i d
    at_place i d within =
        let below : i < k = omega (arith, in_all) in
        get_or-map-range_with_len (settlement_in r) (b + 1) k i (b + 1 + i) d below refl
        ∙ ap (settlement (b + 1 + i)) (one_settled b k i r.last r.outcome below most
        ∙ ap (λ y. if i + 1 == k then y else unseen) (sym is))
        ∙ sym (get_or-map-range_with_len (settled_at (b + 1) k x) 0 k i i d below (omega arith))

-- where some have settled
settled_run_heard : (first k x : ℕ) → (k ≡ 0 → ⊥)
    → commands_settled (settled_run first k x) ≡ Settled (settled_run first k x)
settled_run_heard first zero x some = absurd (some refl)
settled_run_heard first (suc k) x some = refl

pub some_settle : (e n : ℕ) (p : List Command) (r : Standing) (k x : ℕ) → k ≡ settled_count n p r → (k ≡ 0 → ⊥)
    → x ≡ code_in r (base_of n p + k)
    → told_held e n p r ≡ (Held e n (drop k p), Settled (settled_run (base_of n p + 1) k x))
some_settle e n p r k x count some is =
    let most : base_of n p + k ≤ r.last = omega (arith, newest_at_most r) in
    ap₂ (λ j (xs : List Settlement). (Held e n (drop j p), commands_settled xs)) (sym count)
    (ap (λ j. map (settlement_in r) (range_with_len (base_of n p + 1) j)) (sym count)
    ∙ settlements_run r (base_of n p) k x most is)
    ∙ ap (λ h. (Held e n (drop k p), h)) (settled_run_heard (base_of n p + 1) k x some)
