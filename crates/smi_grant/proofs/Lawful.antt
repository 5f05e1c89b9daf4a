-- A lawful record stays lawful.
use Rattle.std.proofs.Common.{ℕ, ◌≡◌, ◌<◌, ◌+◌, ◌%◌, Bool, true, false, refl, sym, ◌∙◌, arith}
use Rattle.std.specs.Prelude.{◌==◌, ◌&&◌, if◌then◌else◌}
use Rattle.std.proofs.lemmas.Bool.Decides.{nat_tests}
use Rattle.smi_grant.specs.declared.holder.Holder.{Holder}
use Rattle.smi_grant.specs.declared.holder.Holder.TheVariants.{Free}
use Rattle.smi_grant.specs.declared.record.Phase.{Phase}
use Rattle.smi_grant.specs.declared.record.Phase.TheVariants.{Settled, Busy}
use Rattle.smi_grant.specs.Holder.{is_free, odd_of}
use Rattle.smi_grant.specs.Keeper.{handed, started, settled}
use Rattle.smi_grant.specs.Record.{Standing, IsRecord, is_coherent, is_settled, last_epoch, last_number}
use Rattle.smi_grant.proofs.Holders.{free_even, held_odd}

pub last_epoch_even : last_epoch % 2 ≡ 0
last_epoch_even = refl

pub settled_is : (p : Phase) → is_settled p ≡ true → p ≡ Settled
settled_is Settled s = refl
settled_is Busy s = absurd cc

pub busy_is : (p : Phase) → is_settled p ≡ false → p ≡ Busy
busy_is Settled s = absurd cc
busy_is Busy s = refl

-- the three parts of a coherent record, with its tests as variables
coherent_parts : (free settled : Bool) (last outcome : ℕ)
    → ((if free then last == 0 else true) && ((if last == 0 then settled && outcome == 0 else true)
    && (if settled then true else outcome == 0))) ≡ true
    → (free ≡ true → last ≡ 0) × (last ≡ 0 → settled ≡ true)
coherent_parts true true last outcome c = (λ f. grind (arith, nat_tests), λ z. refl)
coherent_parts true false last outcome c = (λ f. grind (arith, nat_tests), λ z. grind (arith, nat_tests))
coherent_parts false true last outcome c = (λ f. absurd cc, λ z. refl)
coherent_parts false false last outcome c = (λ f. absurd cc, λ z. grind (arith, nat_tests))

-- nothing has run at a free domain, and if nothing has run nothing is at work
pub free_last : (r : Standing) → IsRecord r → is_free r.holder ≡ true → r.last ≡ 0
free_last r i f = (coherent_parts (is_free r.holder) (is_settled r.phase) r.last r.outcome i.coherent).0 f

pub none_settled : (r : Standing) → IsRecord r → r.last ≡ 0 → r.phase ≡ Settled
none_settled r i z =
    settled_is r.phase ((coherent_parts (is_free r.holder) (is_settled r.phase) r.last r.outcome i.coherent).1 z)

pub handed_coherent : (r : Standing) (h : Holder) → is_coherent (handed r h) ≡ true
handed_coherent r h = by_test (is_free h)
  where
    by_test : (b : Bool) → ((if b then 0 == 0 else true) && true) ≡ true
    by_test true = refl
    by_test false = refl

pub granted_lawful : (r : Standing) (h : Holder) → IsRecord r → is_free r.holder ≡ true → is_free h ≡ false
    → r.epoch < last_epoch → IsRecord (handed r h)
granted_lawful r h i free held below =
    let even : odd_of r.holder ≡ 0 = free_even r.holder free in
    let odd : odd_of h ≡ 1 = held_odd h held in
    record { epoch = omega arith; last = omega arith; parity = omega (arith, i.parity); coherent = handed_coherent r h }

pub freed_lawful : (r : Standing) → IsRecord r → is_free r.holder ≡ false → IsRecord (handed r Free)
freed_lawful r i held =
    let odd : odd_of r.holder ≡ 1 = held_odd r.holder held in
    record {
      epoch = omega (arith, i.epoch, i.parity, last_epoch_even);
      last = omega arith;
      parity = omega (arith, i.parity);
      coherent = handed_coherent r Free;
    }

pub started_lawful : (r : Standing) (busy : Bool) (x : ℕ) → IsRecord r → is_free r.holder ≡ false
    → r.last < last_number → IsRecord (started r busy x)
started_lawful r true x i held room = record {
  epoch = i.epoch;
  last = omega arith;
  parity = i.parity;
  coherent = by_test (is_free r.holder) held;
}
  where
    by_test : (b : Bool) → b ≡ false
        → ((if b then r.last + 1 == 0 else true) && ((if r.last + 1 == 0 then false else true) && true)) ≡ true
    by_test b f = grind (arith, nat_tests)
started_lawful r false x i held room = record {
  epoch = i.epoch;
  last = omega arith;
  parity = i.parity;
  coherent = by_test (is_free r.holder) held;
}
  where
    by_test : (b : Bool) → b ≡ false
        → ((if b then r.last + 1 == 0 else true) && ((if r.last + 1 == 0 then x == 0 else true) && true)) ≡ true
    by_test b f = grind (arith, nat_tests)

pub settled_lawful : (r : Standing) (x : ℕ) → IsRecord r → r.phase ≡ Busy → IsRecord (settled r x)
settled_lawful r x i busy = record {
  epoch = i.epoch;
  last = i.last;
  parity = i.parity;
  coherent = by_test (is_free r.holder) (λ f. free_last r i f) some;
}
  where
    some : r.last ≡ 0 → ⊥
    some z = let s : Busy ≡ Settled = sym busy ∙ none_settled r i z in cc

    by_test : (b : Bool) → (b ≡ true → r.last ≡ 0) → (r.last ≡ 0 → ⊥)
        → ((if b then r.last == 0 else true) && ((if r.last == 0 then x == 0 else true) && true)) ≡ true
    by_test true z s = absurd (s (z refl))
    by_test false z s = grind (arith, nat_tests)
