-- The test of a lawful record says what the record of facts says.
use Rattle.std.proofs.Common.{◌≡◌, ℕ, ◌≤◌, true, arith}
use Rattle.std.specs.Prelude.{◌%◌, ◌==◌, nat_le}
use Rattle.std.proofs.lemmas.Bool.{and_from, and_parts, eqb-true, eq-eqb}
use Rattle.std.proofs.lemmas.Bool.Decides.{nat_tests}
use Rattle.smi_grant.specs.Holder.{odd_of}
use Rattle.smi_grant.specs.Record.{Standing, IsRecord, is_record, is_coherent, last_epoch, last_number}

le_true : (n m : ℕ) → n ≤ m → nat_le n m ≡ true
le_true n m h = grind (arith, nat_tests)

le_of : (n m : ℕ) → nat_le n m ≡ true → n ≤ m
le_of n m h = grind (arith, nat_tests)

pub is_record-true : (r : Standing) → IsRecord r → is_record r ≡ true
is_record-true r i =
    and_from _ _ (le_true r.epoch last_epoch i.epoch)
    (and_from _ _ (le_true r.last last_number i.last)
    (and_from _ _ (eq-eqb (r.epoch % 2) (odd_of r.holder) i.parity) i.coherent))

pub is_record-facts : (r : Standing) → is_record r ≡ true → IsRecord r
is_record-facts r h =
    let a = and_parts (nat_le r.epoch last_epoch) _ h in
    let b = and_parts (nat_le r.last last_number) _ a.1 in
    let c = and_parts (r.epoch % 2 == odd_of r.holder) (is_coherent r) b.1 in
    record {
      epoch = le_of r.epoch last_epoch a.0;
      last = le_of r.last last_number b.0;
      parity = eqb-true _ _ c.0;
      coherent = c.1;
    }
