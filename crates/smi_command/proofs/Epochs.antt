-- The epoch that a link knows of never falls.
use Rattle.std.proofs.Common.{◌≡◌, ◌≤◌, sym, ap, ◌∙◌, arith}
use Rattle.std.specs.Prelude.{Ok}
use Rattle.smi_grant.specs.declared.command.Command.{Command}
use Rattle.smi_grant.specs.declared.holder.Holder.{Holder}
use Rattle.smi_grant.specs.Record.{Standing, IsRecord, last_epoch}
use Rattle.smi_command.specs.declared.link.Link.{Link}
use Rattle.smi_command.specs.declared.link.Link.TheVariants.{Out, Taking, Held, Dropping}
use Rattle.smi_command.specs.Hearing.{told_link}
use Rattle.smi_command.specs.Link.{known}
use Rattle.smi_command.specs.Order.{take_begun, command_issued, drop_begun}
use Rattle.smi_command.proofs.Heard.{by_row_taking, by_row_held, by_row_dropping}
use Rattle.smi_command.proofs.Orders.{take_begins, drop_begins, command_issues}

pub known_taken : (l m : Link) → take_begun l ≡ Ok m → known m ≡ known l
known_taken l m is = let b = take_begins l m is in ap known b.2 ∙ sym (ap known b.1)

pub known_commanded : (l : Link) (c : Command) (m : Link) → command_issued l c ≡ Ok m → known m ≡ known l
known_commanded l c m is = let i = command_issues l c m is in ap known i.becomes ∙ sym (ap known i.was)

pub known_dropped : (l m : Link) → drop_begun l ≡ Ok m → known m ≡ known l
known_dropped l m is = let b = drop_begins l m is in ap known b.3 ∙ sym (ap known b.2)

-- from one link to another within the epochs
IsFurther : Link → Link → Type 0
IsFurther l m = known l ≤ last_epoch → known l ≤ known m

pub known_told : (l : Link) (h : Holder) (r : Standing) → known l ≤ last_epoch → known l ≤ known (told_link l h r)
unfolding IsFurther
known_told (Out k) h r within = omega arith
known_told (Taking s) h r within = by_row_taking IsFurther h r s (λ e mine w. omega arith) (λ free e w. omega arith)
    (λ free less w. omega arith) (λ held other less w. omega arith) (λ w. omega arith) within
known_told (Held e n p) h r within = by_row_held IsFurther h r e n p (λ at w. omega arith) (λ w. omega arith) within
known_told (Dropping e) h r within = by_row_dropping IsFurther h r e (λ less w. omega arith) (λ w. omega arith) within

StaysWithin : Link → Link → Type 0
StaysWithin l m = known l ≤ last_epoch → known m ≤ last_epoch

pub told_within : (l : Link) (h : Holder) (r : Standing) → IsRecord r → known l ≤ last_epoch
    → known (told_link l h r) ≤ last_epoch
unfolding StaysWithin
told_within (Out k) h r i within = within
told_within (Taking s) h r i within = by_row_taking StaysWithin h r s (λ e mine w. omega (arith, i.epoch))
    (λ free e w. omega arith) (λ free less w. i.epoch) (λ held other less w. i.epoch) (λ w. w) within
told_within (Held e n p) h r i within = by_row_held StaysWithin h r e n p (λ at w. w) (λ w. w) within
told_within (Dropping e) h r i within = by_row_dropping StaysWithin h r e (λ less w. i.epoch) (λ w. w) within
