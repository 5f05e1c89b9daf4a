-- What is sent, one list after another.
use Rattle.std.proofs.Common.{◌≡◌, ℕ, ◌<◌, ◌≤◌, Bool, true, false, List, [], ◌∷◌, ◌++◌, length, take, refl, sym, ap}
use Rattle.std.proofs.Common.{◌∙◌, append_assoc, append-nil, length-append, arith}
use Rattle.std.specs.Prelude.{nat_lt, if◌then◌else◌}
use Rattle.std.proofs.lemmas.List.{take_all, take-append-le}
use Rattle.std.proofs.lemmas.Bool.Decides.{nat_tests}
use Rattle.smi_grant.specs.declared.Holder.{Holder}
use Rattle.smi_command.specs.declared.Due.{Due}
use Rattle.smi_command.specs.declared.Due.TheVariants.{Take, Drop, Run}
use Rattle.smi_protocol.specs.Messages.{request}
use Rattle.smi_message.specs.Message.{Message, is_domain, is_party, is_body}
use Rattle.smi_base.specs.Between.{is_between}
use Rattle.smi_protocol.specs.Ticking.{most_sent}
use Rattle.smi_station_output.specs.Out.{sent_after, sent_one, is_due}

-- there is room for one more
pub one_sent : (before : List Message) (m : Message) → length before < most_sent
    → before ++ m ∷ [] ≡ sent_after before (m ∷ [])
one_sent before m room = let fits : nat_lt (length before) most_sent ≡ true = grind (arith, nat_tests) in rw fits refl

-- there is none
pub none_sent : (before : List Message) (m : Message) → length before ≡ most_sent → before ≡ sent_after before (m ∷ [])
none_sent before m full = let over : nat_lt (length before) most_sent ≡ false = grind (arith, nat_tests) in rw over refl

-- one list is sent and then another
pub sent_twice : (before a b : List Message) → sent_after (sent_after before a) b ≡ sent_after before (a ++ b)
sent_twice before [] b = refl
sent_twice before (m ∷ a) b = sent_twice (sent_one before m) a b

-- a list that is sent is cut if no more may be sent
cut : (before more : List Message) → length before ≤ most_sent
    → sent_after before more ≡ take most_sent (before ++ more)
cut before [] few = sym (ap (take most_sent) (append-nil before) ∙ take_all most_sent before few)
cut before (m ∷ more) few = by (nat_lt (length before) most_sent) refl (λ b f. cut b more f)
  where
    by : (b : Bool) → nat_lt (length before) most_sent ≡ b
        → ((b : List Message) → length b ≤ most_sent → sent_after b more ≡ take most_sent (b ++ more))
        → sent_after (if b then before ++ m ∷ [] else before) more ≡ take most_sent (before ++ m ∷ more)
    by true is rest =
        let room : length before < most_sent = grind (arith, nat_tests) in
        rest (before ++ m ∷ []) (omega (arith, room, length-append before (m ∷ [])))
        ∙ ap (take most_sent) (append_assoc before (m ∷ []) more)
    by false is rest =
        let full : length before ≡ most_sent = grind (arith, nat_tests) in
        rest before few ∙ take-append-le most_sent before more (omega (arith, full))
        ∙ sym (take-append-le most_sent before (m ∷ more) (omega (arith, full)))

-- what is sent first is as much of it as one step sends
pub sent_first : (more : List Message) → sent_after [] more ≡ take most_sent more
sent_first more = cut [] more (omega arith)

-- what is due can be said
pub due_said : (d : ℕ) (who : Holder) (due : Due) → is_domain d ≡ true → is_party who ≡ true → is_due due ≡ true
    → is_body (request d who due) ≡ true
due_said d who (Take s) a b c = rw (a, b, c) refl
due_said d who (Drop e) a b c = rw (a, b, c) refl
due_said d who (Run e n x) a b c = rw (a, b, c) refl

pub between : (low high n : ℕ) → low ≤ n → n ≤ high → is_between low high n ≡ true
between low high n least most = grind (arith, nat_tests)
