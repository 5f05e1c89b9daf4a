-- A link stays one of which datagrams can speak.
use Rattle.std.proofs.Common.{ℕ, zero, suc, ◌≡◌, ◌<◌, false, List, [], ◌∷◌, ◌++◌, length, drop, Ok, sym, ap, subst}
use Rattle.std.proofs.Common.{arith, length-append, length-drop}
use Rattle.std.specs.List.{AllByRecursion}
use Rattle.smi_grant.specs.declared.Command.{Command}
use Rattle.smi_grant.specs.declared.Holder.{Holder}
use Rattle.smi_grant.specs.Holder.{is_free, odd_of}
use Rattle.smi_grant.specs.Record.{Standing, IsRecord}
use Rattle.smi_tree.specs.Hierarchy.{Hierarchy}
use Rattle.smi_command.specs.declared.Link.{Link}
use Rattle.smi_command.specs.declared.Link.TheVariants.{Out, Taking, Held, Dropping}
use Rattle.smi_command.specs.Hearing.{told_link, settled_count}
use Rattle.smi_command.specs.Order.{take_begun, drop_begun, command_issued}
use Rattle.smi_command.specs.Pending.{most_pending}
use Rattle.smi_command.proofs.Heard.{by_row_taking, by_row_held, by_row_dropping}
use Rattle.smi_grant.proofs.Holders.{held_odd}
use Rattle.smi_command.proofs.Orders.{take_begins, drop_begins, command_issues}
use Rattle.smi_protocol.specs.Sound.{IsCommand, ArePending, IsLink}

all_left : {X : Type 0} (P : X → Type 0) (k : ℕ) (xs : List X) → AllByRecursion P xs → AllByRecursion P (drop k xs)
all_left P zero xs a = a
all_left P (suc k) [] a = tt
all_left P (suc k) (x ∷ xs) a = all_left P k xs a.1

all_and_one : {X : Type 0} (P : X → Type 0) (xs : List X) (x : X) → AllByRecursion P xs → P x
    → AllByRecursion P (xs ++ x ∷ [])
all_and_one P [] x a here = (here, tt)
all_and_one P (y ∷ xs) x a here = (a.0, all_and_one P xs x a.1 here)

module _ (h : Hierarchy) (most : ℕ) where
  pub sound_taken : (l m : Link) → take_begun l ≡ Ok m → IsLink h most l → IsLink h most m
  sound_taken l m is sound =
      let b = take_begins l m is in
      subst (IsLink h most) (sym b.2) (subst (IsLink h most) b.1 sound)

  pub sound_dropped : (l m : Link) → drop_begun l ≡ Ok m → IsLink h most l → IsLink h most m
  sound_dropped l m is sound =
      let b = drop_begins l m is in
      subst (IsLink h most) (sym b.3) (subst (IsLink h most) b.2 sound).0

  pub sound_issued : (l : Link) (c : Command) (m : Link) → command_issued l c ≡ Ok m → IsCommand h c
      → ((e n : ℕ) (p : List Command) → l ≡ Held e n p → length p < most_pending → length p < most) → IsLink h most l
      → IsLink h most m
  sound_issued l c m is command room sound =
      let i = command_issues l c m is in
      let old : IsLink h most (Held i.epoch i.number i.pending) = subst (IsLink h most) i.was sound in
      let pending : ArePending h most i.number i.pending = old.1 in
      let space : length i.pending < most = room i.epoch i.number i.pending i.was i.room in
      subst (IsLink h most) (sym i.becomes) (
        old.0,
        record {
          few = omega (arith, length-append i.pending (c ∷ []), space);
          numbered = omega (arith, length-append i.pending (c ∷ []), pending.numbered);
          newest = omega (arith, i.left);
          each = all_and_one (IsCommand h) i.pending c pending.each command;
        },
      )

  pub sound_told : (l : Link) (me : Holder) (r : Standing) → is_free me ≡ false → IsRecord r → IsLink h most l
      → IsLink h most (told_link l me r)
  sound_told (Out k) me r party lawful sound = sound
  sound_told (Taking s) me r party lawful sound =
      by_row_taking (λ old new. IsLink h most new) me r s
      (λ next mine. (
        (omega (arith, lawful.epoch), omega (arith, lawful.parity, ap odd_of mine, held_odd me party)),
        record { few = omega arith; numbered = omega arith; newest = omega arith; each = tt },
      ))
      (λ free last. omega arith)
      (λ free later. lawful.epoch)
      (λ held other later. lawful.epoch)
      sound
  sound_told (Held e n p) me r party lawful sound =
      by_row_held (λ old new. IsLink h most new) me r e n p
      (λ same. let pending : ArePending h most n p = sound.1 in (
        sound.0,
        record {
          few = omega (arith, length-drop (settled_count n p r) p, pending.few);
          numbered = omega (arith, length-drop (settled_count n p r) p, pending.numbered);
          newest = pending.newest;
          each = all_left (IsCommand h) (settled_count n p r) p pending.each;
        },
      ))
      sound
  sound_told (Dropping e) me r party lawful sound =
      by_row_dropping (λ old new. IsLink h most new) me r e (λ later. lawful.epoch) sound
