-- The keeper's record can be told after each datagram.
use Rattle.std.proofs.Common.{◌≡◌, ℕ, Bool, true, false, Ok, Err, refl, sym, ap, ◌∙◌}
use Rattle.std.specs.Prelude.{◌&&◌, ◌==◌, nat_le, nat_lt, if◌then◌else◌}
use Rattle.std.proofs.lemmas.Bool.{and_from, and_parts}
use Rattle.smi_grant.specs.declared.Holder.{Holder}
use Rattle.smi_grant.specs.declared.Holder.TheVariants.{Free}
use Rattle.smi_grant.specs.declared.Command.{Command}
use Rattle.smi_grant.specs.declared.Command.TheVariants.{Do, Include, Exclude, Manual, Ignore}
use Rattle.smi_grant.specs.declared.Verdict.TheVariants.{New, Same}
use Rattle.smi_grant.specs.Holder.{odd_of, is_in_range, is_free, same_holder}
use Rattle.smi_grant.specs.Record.{Standing, is_outcome, is_settled, last_epoch}
use Rattle.smi_grant.specs.Keeper.{take_after, drop_after, admits, handed}
use Rattle.smi_message.specs.declared.Body.{Body}
use Rattle.smi_message.specs.declared.Body.TheVariants as body
use Rattle.smi_message.specs.declared.DatagramRefusal.TheVariants as refusal
use Rattle.smi_message.specs.Message.{is_body, is_domain, is_party}
use Rattle.smi_commands.specs.Tellable.{is_tellable}
use Rattle.smi_commands.specs.Keeper.{is_operator, after, outcome_of, run_after, where_known, said_after}

-- ---- what each datagram leaves can be told

either : (b : Bool) (x y : Standing) → is_tellable x ≡ true → is_tellable y ≡ true
    → is_tellable (if b then x else y) ≡ true
either true x y h k = h
either false x y h k = k

taken : (b : Bool) (r s : Standing) → is_tellable r ≡ true → is_tellable s ≡ true
    → is_tellable (after (if b then New s else Same) r) ≡ true
taken true r s h k = k
taken false r s h k = h

ended : (c : Command) → is_outcome (outcome_of c) ≡ true
ended (Do a) = refl
ended (Include t) = refl
ended (Exclude t) = refl
ended (Manual t) = refl
ended (Ignore t) = refl

where_some : (d : ℕ) (h : Holder) (r s : Standing) → where_known d h r ≡ Ok s → r ≡ s
where_some d h r s e = known (d == 1 && is_operator h) r s e where
  known : (b : Bool) (x y : Standing) → (if b then Ok x else Err refusal.Unknown) ≡ Ok y → x ≡ y
  known true x y e = cc
  known false x y e = absurd cc

along : (r s : Standing) → r ≡ s → is_tellable r ≡ true → is_tellable s ≡ true
along r s e h = ap is_tellable (sym e) ∙ h

pub said_tellable : (r : Standing) (b : Body) (s : Standing) → is_tellable r ≡ true → is_body b ≡ true
    → said_after r b ≡ Ok s → is_tellable s ≡ true
unfolding said_after
said_tellable r (body.Ask d) s h i e = asked (d == 1) r s h e where
  asked : (b : Bool) (x y : Standing) → is_tellable x ≡ true → (if b then Ok x else Err refusal.Unknown) ≡ Ok y
      → is_tellable y ≡ true
  asked true x y h e = let i : x ≡ y = cc in along x y i h
  asked false x y h e = absurd cc
said_tellable r (body.Take d h seen) s g i e =
    let party = (and_parts (is_party h) (nat_le seen last_epoch) (and_parts (is_domain d) _ i).1).0 in
    let in_range = (and_parts (odd_of h == 1) (is_in_range h) party).1 in
    along (after (take_after r h seen) r) s (where_some d h (after (take_after r h seen) r) s e)
    (taken (is_free r.holder && (r.epoch == seen && nat_lt seen last_epoch)) r (handed r h) g
    (and_from (is_in_range h) true in_range refl))
said_tellable r (body.Drop d h e) s g i k =
    along (after (drop_after r h e) r) s (where_some d h (after (drop_after r h e) r) s k)
    (taken (same_holder r.holder h && (r.epoch == e && is_settled r.phase)) r (handed r Free) g refl)
said_tellable r (body.Run d h e n c) s g i k =
    let in_range = (and_parts (is_in_range r.holder) (is_outcome r.outcome) g).0 in
    along (run_after r h e n c) s (where_some d h (run_after r h e n c) s k)
    (either (admits r h e n) _ r (and_from _ _ in_range (ended c)) g)
said_tellable r (body.Tell d t) s g i k = absurd cc
said_tellable r (body.Watch x e) s g i k = absurd cc
said_tellable r (body.State x e v t) s g i k = absurd cc
said_tellable r (body.Unwatch x e) s g i k = absurd cc
