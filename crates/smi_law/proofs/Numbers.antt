-- What is under way at a time is little beside the versions that an object can have.
use Rattle.std.proofs.Common.{ℕ, ◌≡◌, ◌<◌, ◌≤◌, ◌+◌, Bool, true, false, List, [], ◌∷◌, refl, ap, arith}
use Rattle.std.specs.Prelude.{◌*◌, ◌&&◌, map, length, Option, Some, None}
use Rattle.std.specs.List.{range_with_len}
use Rattle.std.proofs.Math.Nat.{mul-le-mul_left, mul-le-mul_right}
use Rattle.smi_grant.specs.declared.Holder.{Holder}
use Rattle.smi_grant.specs.declared.Holder.TheVariants.{Free, Operator, Domain}
use Rattle.smi_publish.specs.Published.{last_sequence}
use Rattle.smi_tree.specs.Hierarchy.{Hierarchy}
use Rattle.smi_tree.specs.Lawful.{IsTree}
use Rattle.smi_tree.specs.Lookups.{domain_count, operator_count, parent_of}
use Rattle.smi_command.specs.declared.Link.{Link}
use Rattle.smi_command.specs.declared.Link.TheVariants.{Out, Taking, Held, Dropping}
use Rattle.smi_command.specs.Pending.{most_pending}
use Rattle.smi_tree.specs.Roles.{has_domain}
use Rattle.smi_protocol.specs.Schedule.{World}
use Rattle.smi_protocol.specs.Sound.{IsLink, most_handed_on}
use Rattle.smi_protocol.specs.Ticking.{domains_of}
use Rattle.smi_protocol.specs.declared.Entry.{Entry}
use Rattle.smi_law.specs.Known.{holder_home, link_in}
use Rattle.smi_law.specs.World.{Reaches}
use Rattle.smi_law.specs.Bound.{changing, most_changes, total}
use Rattle.smi_law.specs.UnderWay.{Party, above, holders_of, parties, party, under_way}
use Rattle.smi_law.specs.Waiting.{waiting}
use Rattle.smi_law.proofs.RestLists.{both_lengths, flat_most, mapped_most, range_length}
use Rattle.smi_law.proofs.Placed.{placed}
use Rattle.smi_law.proofs.Sounds.{all_sound}

sound_waits : (h : Hierarchy) (most : ℕ) (l : Link) → IsLink h most l → 1 ≤ most → waiting l ≤ most
sound_waits h most (Out k) i some = omega arith
sound_waits h most (Taking s) i some = some
sound_waits h most (Held e n p) i some = i.1.few
sound_waits h most (Dropping e) i some = some

module _ (h : Hierarchy) (tree : IsTree h) (past : List Entry) (w : World) (run : Reaches h past w) where
  waits_most : (who : Holder) (d : ℕ) → waiting (link_in h w who d) ≤ most_pending
  waits_most Free d =
      let none = ap waiting (placed h tree past w run (holder_home h Free) Free d (nowhere (has_domain h d))) in
      omega (arith, none)
    where
      nowhere : (b : Bool) → (b && (true && false)) ≡ false
      nowhere true = refl
      nowhere false = refl
  waits_most (Operator o) d =
      sound_waits h most_pending (link_in h w (Operator o) d)
      (((all_sound h tree past w run).sound (holder_home h (Operator o))).own o d) (omega arith)
  waits_most (Domain p) d =
      let a = sound_waits h most_handed_on (link_in h w (Domain p) d)
      (((all_sound h tree past w run).sound (holder_home h (Domain p))).child p d) (omega arith) in
      omega (arith, a)

totals_most : {X : Type 0} (f : X → ℕ) (most : ℕ) (xs : List X) → ((x : X) → f x ≤ most)
    → total (map f xs) ≤ length xs * most
totals_most f most [] each = omega arith
totals_most f most (x ∷ xs) each =
    let a = each x in
    let b = totals_most f most xs each in
    grind (arith, a, b)

holders_most : (h : Hierarchy) (d : ℕ) → length (holders_of h d) ≤ operator_count h + 1
holders_most h d =
    let a = both_lengths (map Operator (range_with_len 1 (operator_count h))) (above (parent_of h d)) in
    let b = mapped_most Operator (range_with_len 1 (operator_count h)) in
    let c = range_length 1 (operator_count h) in
    let e = one (parent_of h d) in
    omega (arith, a, b, c, e)
  where
    one : (o : Option ℕ) → length (above o) ≤ 1
    one None = omega arith
    one (Some p) = omega arith

both_most : (a b c d : ℕ) → a ≤ c → b ≤ d → a * b ≤ c * d
both_most a b c d x y =
    let l = mul-le-mul_right b x in
    let m = mul-le-mul_left c y in
    omega (arith, l, m)

parties_most : (h : Hierarchy) → IsTree h → length (parties h) ≤ 4224
parties_most h tree =
    let a = flat_most (λ d. map (party d) (holders_of h d)) (operator_count h + 1) (each) (domains_of h) in
    let b = range_length 1 (domain_count h) in
    let c = tree.lawful.domains.most in
    let d = tree.lawful.operators.most in
    let e = both_most (length (domains_of h)) (operator_count h + 1) 128 33 (omega (arith, b, c)) (omega (arith, d)) in
    omega (arith, a, e)
  where
    each : (d : ℕ) → length (map (party d) (holders_of h d)) ≤ operator_count h + 1
    each d = let a = mapped_most (party d) (holders_of h d) in let b = holders_most h d in omega (arith, a, b)

-- few things are under way
under_way_most : (h : Hierarchy) → IsTree h → (past : List Entry) (w : World) → Reaches h past w
    → under_way h w ≤ 33792
under_way_most h tree past w run =
    let a = totals_most (λ (x : Party). waiting (link_in h w x.holder x.domain)) most_pending (parties h)
    (λ x. waits_most h tree past w run x.holder x.domain) in
    let b = parties_most h tree in
    omega (arith, a, b)

-- and so all that is under way changes an object less often than it can change
pub changes_few : (h : Hierarchy) → IsTree h → (past : List Entry) (w : World) → Reaches h past w
    → most_changes h (under_way h w) < last_sequence
changes_few h tree past w run =
    let a = under_way_most h tree past w run in
    let b = tree.lawful.domains.most in
    let c = tree.lawful.operators.most in
    let d = both_most (2 * domain_count h) changing 256 20 (omega (arith, b)) (omega arith) in
    let e = both_most (under_way h w) (2 * domain_count h * changing) 33792 5120 a (omega (arith, d)) in
    omega (arith, e)
