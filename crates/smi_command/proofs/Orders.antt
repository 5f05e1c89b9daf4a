-- A holder's orders keep the facts on its link.
use Rattle.std.proofs.Common.{ℕ, ◌≡◌, ◌<◌, ◌+◌, Bool, true, false, List, [], ◌∷◌, ◌++◌, length, inr, refl, arith}
use Rattle.std.proofs.Common.{length-append}
use Rattle.std.specs.Prelude.{nat_le, if◌then◌else◌, Ok}
use Rattle.std.proofs.lemmas.Bool.{leb-false}
use Rattle.smi_grant.specs.declared.command.Command.{Command}
use Rattle.smi_grant.specs.declared.holder.Holder.{Holder}
use Rattle.smi_grant.specs.Record.{Standing, last_number}
use Rattle.smi_command.specs.declared.link.Link.{Link}
use Rattle.smi_command.specs.declared.link.Link.TheVariants.{Out, Taking, Held, Dropping}
use Rattle.smi_command.specs.declared.order.Refusal.TheVariants.{CommandPending, NumbersSpent}
use Rattle.smi_command.specs.Order.{refused, take_begun, command_issued, drop_begun}
use Rattle.smi_command.specs.Pending.{most_pending}
use Rattle.smi_command.proofs.Facts.{LinkOk}
use Rattle.smi_command.proofs.LinkSteps.{Goes}
use Rattle.smi_command.proofs.Waiting.{waits_more, none_waits}

-- a take begins: the link was out
pub take_begins : (l m : Link) → take_begun l ≡ Ok m → (k : ℕ) × (l ≡ Out k) × (m ≡ Taking k)
take_begins (Out k) m is = (k, refl, cc)
take_begins (Taking s) m is = absurd cc
take_begins (Held e n p) m is = absurd cc
take_begins (Dropping e) m is = absurd cc

-- a drop begins: the link was held and nothing was pending
pub drop_begins : (l m : Link) → drop_begun l ≡ Ok m → (e : ℕ) × (n : ℕ) × (l ≡ Held e n []) × (m ≡ Dropping e)
drop_begins (Out k) m is = absurd cc
drop_begins (Taking s) m is = absurd cc
drop_begins (Held e n []) m is = (e, n, refl, cc)
drop_begins (Held e n (c ∷ p)) m is = absurd cc
drop_begins (Dropping e) m is = absurd cc

-- a command is issued: the link was held, and there was room and a number
pub record Issues (l : Link) (c : Command) (m : Link) : Type 0 where
  pub epoch : ℕ
  pub number : ℕ
  pub pending : List Command
  pub was : l ≡ Held epoch number pending
  pub becomes : m ≡ Held epoch (number + 1) (pending ++ c ∷ [])
  pub room : length pending < most_pending
  pub left : number < last_number

issued_where : (full spent : Bool) (l m : Link)
    → (if full then refused CommandPending else (if spent then refused NumbersSpent else Ok l)) ≡ Ok m
    → (full ≡ false) × (spent ≡ false) × (m ≡ l)
issued_where true spent l m is = absurd cc
issued_where false true l m is = absurd cc
issued_where false false l m is = (refl, refl, cc)

pub command_issues : (l : Link) (c : Command) (m : Link) → command_issued l c ≡ Ok m → Issues l c m
command_issues (Out k) c m is = absurd cc
command_issues (Taking s) c m is = absurd cc
command_issues (Held e n p) c m is =
    let a = issued_where (nat_le most_pending (length p)) (nat_le last_number n) (Held e (n + 1) (p ++ c ∷ [])) m is in
    record {
      epoch = e;
      number = n;
      pending = p;
      was = refl;
      becomes = a.2;
      room = leb-false _ _ a.0;
      left = leb-false _ _ a.1;
    }
command_issues (Dropping e) c m is = absurd cc

module _ (r : Standing) (h : Holder) where
  pub take_goes : (k : ℕ) → LinkOk r h (Out k) → Goes r h (Out k) (Taking k)
  take_goes k o = record {
    ok = (o.0, λ e. absurd (o.1 e));
    further = omega arith;
    onward = omega arith;
    stays_open = λ s is. absurd cc;
    spends = λ f m c w. let is = w.is in absurd cc;
  }

  pub drop_goes : (e n : ℕ) → LinkOk r h (Held e n []) → Goes r h (Held e n []) (Dropping e)
  drop_goes e n o = record {
    ok = (omega (arith, o.0), λ i. (o.0, o.2.all_settled (omega (arith, o.2.not_before, o.2.not_beyond))));
    further = omega arith;
    onward = omega arith;
    stays_open = λ s is. absurd cc;
    spends = λ f m c w. absurd (none_waits e n f m c w);
  }

  pub command_goes : (e n : ℕ) (p : List Command) (c : Command) → length p < most_pending → n < last_number
      → LinkOk r h (Held e n p) → Goes r h (Held e n p) (Held e (n + 1) (p ++ c ∷ []))
  command_goes e n p c room left o =
      let more : length (p ++ c ∷ []) ≡ length p + 1 = length-append p (c ∷ []) in
      record {
        ok = (
          o.0,
          o.1,
          record {
            few = omega arith;
            counted = omega (arith, o.2.counted);
            not_before = omega (arith, o.2.not_before, o.2.counted);
            not_beyond = omega (arith, o.2.not_beyond);
            all_settled = λ a. o.2.all_settled (omega (arith, o.2.counted));
          },
          omega arith,
        );
        further = omega arith;
        onward = omega arith;
        stays_open = λ s is. absurd cc;
        spends = λ f m d w. inr (waits_more e n p c f m d w);
      }
