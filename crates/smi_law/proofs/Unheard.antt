-- What a link waits for if the present record is no news to it.
use Rattle.std.proofs.Common.{ℕ, zero, suc, ◌≡◌, ◌≤◌, ◌<◌, ◌+◌, Bool, true, false, List, [], ◌∷◌, drop, refl, sym, ap}
use Rattle.std.proofs.Common.{◌∙◌, arith}
use Rattle.std.specs.Prelude.{◌==◌, ◌&&◌, nat_lt, nat_le, not, length, map}
use Rattle.std.specs.List.{range_with_len}
use Rattle.std.proofs.lemmas.Bool.{and_parts, eqb-true}
use Rattle.std.proofs.lemmas.Bool.Decides.{nat_tests}
use Rattle.std.proofs.lemmas.List.{length-drop}
use Rattle.smi_grant.specs.declared.Command.{Command}
use Rattle.smi_grant.specs.declared.Holder.{Holder}
use Rattle.smi_grant.specs.Holder.{is_free, same_holder}
use Rattle.smi_grant.specs.Record.{Standing, IsRecord, last_epoch}
use Rattle.smi_command.specs.declared.Link.{Link}
use Rattle.smi_command.specs.declared.Link.TheVariants.{Out, Taking, Held, Dropping}
use Rattle.smi_command.specs.declared.LinkHeard.{LinkHeard}
use Rattle.smi_command.specs.Hearing.{told_link, told_heard, told_held, newest_settled, settled_count}
use Rattle.smi_command.specs.Hearing.{settlement_in, commands_settled}
use Rattle.smi_command.specs.Link.{is_unsettled}
use Rattle.smi_command.specs.Pending.{base_of}
use Rattle.smi_command.proofs.Facts.{LinkOk}
use Rattle.smi_command.proofs.Heard.{choose, by_row_taking, by_row_held, by_row_dropping}
use Rattle.smi_grant.proofs.Holders.{same_is}
use Rattle.smi_protocol.specs.Hearing.{is_heard}
use Rattle.smi_law.specs.Waiting.{waiting}

-- a link never waits for more if it is told a record
pub told_less : (l : Link) (me : Holder) (r : Standing) → waiting (told_link l me r) ≤ waiting l
told_less (Out k) me r = omega arith
told_less (Taking s) me r = by_row_taking (λ l k. waiting k ≤ waiting l) me r s
    (λ e mine. omega arith) (λ free e. omega arith) (λ free less. omega arith) (λ held other less. omega arith)
    (omega arith)
told_less (Held e n p) me r = by_row_held (λ l k. waiting k ≤ waiting l) me r e n p
    (λ at. let less = length-drop (settled_count n p r) p in omega (arith, less)) (omega arith)
told_less (Dropping e) me r = by_row_dropping (λ l k. waiting k ≤ waiting l) me r e (λ less. omega arith) (omega arith)

-- Of a record that is told again nothing is heard.

held_unheard : (e n : ℕ) (p : List Command) (me : Holder) (r : Standing) → settled_count n p r ≡ 0
    → is_heard (told_heard (Held e n p) me r) ≡ false
held_unheard e n p me r none =
    choose {A = Link × LinkHeard} (λ z. is_heard z.1 ≡ false) (r.epoch == e) (told_held e n p r) _
    (λ t. ap (λ k. is_heard (commands_settled (map (settlement_in r) (range_with_len (base_of n p + 1) k)))) none)
    (λ f. refl)

taking_unheard : (me : Holder) (r : Standing) → is_free r.holder ≡ true
    → (is_free r.holder && r.epoch == last_epoch) ≡ false
    → is_heard (told_heard (Taking r.epoch) me r) ≡ false
taking_unheard me r free more =
    choose {A = Link × LinkHeard} (λ z. is_heard z.1 ≡ false) (r.epoch == r.epoch + 1 && same_holder r.holder me) _ _
    (λ t. let a = eqb-true _ _ (and_parts (r.epoch == r.epoch + 1) _ t).0 in absurd (omega (arith, a)))
    (λ f. choose {A = Link × LinkHeard} (λ z. is_heard z.1 ≡ false) (is_free r.holder && r.epoch == last_epoch) _ _
    (λ t. absurd (let wrong : true ≡ false = sym t ∙ more in cc))
    (λ f'. choose {A = Link × LinkHeard} (λ z. is_heard z.1 ≡ false) (is_free r.holder && nat_lt r.epoch r.epoch) _ _
    (λ t. absurd (let wrong : true ≡ false = sym (and_parts (is_free r.holder) _ t).1 ∙ not_less r.epoch in cc))
    (λ f''. choose {A = Link × LinkHeard} (λ z. is_heard z.1 ≡ false)
    (not (is_free r.holder) && (not (same_holder r.holder me) && nat_le r.epoch r.epoch)) _ _
    (λ t. absurd (let wrong : false ≡ true = sym (ap not free) ∙ (and_parts (not (is_free r.holder)) _ t).0 in cc))
    (λ f'''. refl))))
  where
    not_less : (n : ℕ) → nat_lt n n ≡ false
    not_less n = grind (arith, nat_tests)

none_settle : (e n : ℕ) (p : List Command) (r : Standing) → length p ≤ n
    → settled_count n (drop (settled_count n p r) p) r ≡ 0
none_settle e n p r counted =
    let less = length-drop (settled_count n p r) p in
    omega (arith, less, counted)

nothing_settles : (r : Standing) → settled_count 0 [] r ≡ 0
nothing_settles r = omega arith

not_both : (b : Bool) → b ≡ true → b ≡ false → ⊥
not_both b t f = let wrong : true ≡ false = sym t ∙ f in cc

pub heard_once : (l : Link) (me : Holder) (r : Standing) → LinkOk r me l
    → is_heard (told_heard (told_link l me r) me r) ≡ false
heard_once (Out k) me r o = refl
heard_once (Taking s) me r o =
    choose {A = Link × LinkHeard} (λ z. is_heard (told_heard z.0 me r) ≡ false)
    (r.epoch == s + 1 && same_holder r.holder me) _ _
    (λ t. held_unheard (s + 1) 0 [] me r (nothing_settles r))
    (λ f1. choose {A = Link × LinkHeard} (λ z. is_heard (told_heard z.0 me r) ≡ false)
    (is_free r.holder && r.epoch == last_epoch) _ _
    (λ t. refl)
    (λ f2. choose {A = Link × LinkHeard} (λ z. is_heard (told_heard z.0 me r) ≡ false)
    (is_free r.holder && nat_lt s r.epoch) _ _
    (λ t. taking_unheard me r (and_parts (is_free r.holder) _ t).0 f2)
    (λ f3. choose {A = Link × LinkHeard} (λ z. is_heard (told_heard z.0 me r) ≡ false)
    (not (is_free r.holder) && (not (same_holder r.holder me) && nat_le s r.epoch)) _ _
    (λ t. refl)
    (λ f4. same f1 f2 f3 f4))))
  where
    same : (r.epoch == s + 1 && same_holder r.holder me) ≡ false → (is_free r.holder && r.epoch == last_epoch) ≡ false
        → (is_free r.holder && nat_lt s r.epoch) ≡ false
        → (not (is_free r.holder) && (not (same_holder r.holder me) && nat_le s r.epoch)) ≡ false
        → is_heard (told_heard (Taking s) me r) ≡ false
    same f1 f2 f3 f4 =
        choose {A = Link × LinkHeard} (λ z. is_heard z.1 ≡ false) (r.epoch == s + 1 && same_holder r.holder me) _ _
        (λ t. absurd (not_both _ t f1))
        (λ i. choose {A = Link × LinkHeard} (λ z. is_heard z.1 ≡ false) (is_free r.holder && r.epoch == last_epoch) _ _
        (λ t. absurd (not_both _ t f2))
        (λ j. choose {A = Link × LinkHeard} (λ z. is_heard z.1 ≡ false) (is_free r.holder && nat_lt s r.epoch) _ _
        (λ t. absurd (not_both _ t f3))
        (λ k. choose {A = Link × LinkHeard} (λ z. is_heard z.1 ≡ false)
        (not (is_free r.holder) && (not (same_holder r.holder me) && nat_le s r.epoch)) _ _
        (λ t. absurd (not_both _ t f4))
        (λ l. refl))))
heard_once (Held e n p) me r o =
    choose {A = Link × LinkHeard} (λ z. is_heard (told_heard z.0 me r) ≡ false) (r.epoch == e) (told_held e n p r) _
    (λ t. held_unheard e n (drop (settled_count n p r) p) me r (none_settle e n p r o.2.counted))
    (λ f. choose {A = Link × LinkHeard} (λ z. is_heard z.1 ≡ false) (r.epoch == e) (told_held e n p r) _
    (λ t. absurd (not_both _ t f)) (λ i. refl))
heard_once (Dropping e) me r o =
    choose {A = Link × LinkHeard} (λ z. is_heard (told_heard z.0 me r) ≡ false) (nat_lt e r.epoch) _ _
    (λ t. refl)
    (λ f. choose {A = Link × LinkHeard} (λ z. is_heard z.1 ≡ false) (nat_lt e r.epoch) _ _
    (λ t. absurd (not_both _ t f)) (λ i. refl))

-- What a link may still wait for, if the present record is no news to it: for a free domain at this epoch;
-- for its oldest command, which has not ended; and for the end of a grant.
abbrev pub Left : Standing → Link → Type 0
Left r (Out k) = ⊥
Left r (Taking s) = (s ≡ r.epoch) × (is_free r.holder ≡ true) × (s < last_epoch)
Left r (Held e n p) = newest_settled r ≤ base_of n p
Left r (Dropping e) = r.epoch ≤ e

taking_left : (s : ℕ) (me : Holder) (r : Standing) → IsRecord r → LinkOk r me (Taking s)
    → is_heard (told_heard (Taking s) me r) ≡ false → Left r (Taking s)
taking_left s me r lawful o =
    choose {A = Link × LinkHeard} (λ z. is_heard z.1 ≡ false → Left r (Taking s))
    (r.epoch == s + 1 && same_holder r.holder me) _ _
    (λ t i. absurd cc)
    (λ f1. choose {A = Link × LinkHeard} (λ z. is_heard z.1 ≡ false → Left r (Taking s))
    (is_free r.holder && r.epoch == last_epoch) _ _
    (λ t i. absurd cc)
    (λ f2. choose {A = Link × LinkHeard} (λ z. is_heard z.1 ≡ false → Left r (Taking s))
    (is_free r.holder && nat_lt s r.epoch) _ _
    (λ t i. absurd cc)
    (λ f3. choose {A = Link × LinkHeard} (λ z. is_heard z.1 ≡ false → Left r (Taking s))
    (not (is_free r.holder) && (not (same_holder r.holder me) && nat_le s r.epoch)) _ _
    (λ t i. absurd cc)
    (λ f4 i. left (is_free r.holder) (same_holder r.holder me) refl refl f1 f2 f3 f4))))
  where
    open_at : (e : ℕ) → s ≤ e → e ≤ last_epoch → (e == last_epoch) ≡ false → nat_lt s e ≡ false
        → (s ≡ e) × (s < last_epoch)
    open_at e a b c d = grind (arith, nat_tests)

    known : (e : ℕ) → s ≤ e → nat_le s e ≡ false → ⊥
    known e a b = grind (arith, nat_tests)

    next : (e : ℕ) → e ≡ s + 1 → (e == s + 1) ≡ false → ⊥
    next e a b = grind (arith, nat_tests)

    left : (f m : Bool) → is_free r.holder ≡ f → same_holder r.holder me ≡ m → (r.epoch == s + 1 && m) ≡ false
        → (f && r.epoch == last_epoch) ≡ false → (f && nat_lt s r.epoch) ≡ false
        → (not f && (not m && nat_le s r.epoch)) ≡ false → Left r (Taking s)
    left true m free mine f1 f2 f3 f4 =
        let at = open_at r.epoch o.0 lawful.epoch f2 f3 in (at.0, free, at.1)
    left false false free mine f1 f2 f3 f4 = absurd (known r.epoch o.0 f4)
    left false true free mine f1 f2 f3 f4 = absurd (next r.epoch (o.1 (same_is r.holder me mine)).0 (first _ f1))
      where
        first : (b : Bool) → (b && true) ≡ false → b ≡ false
        first true i = i
        first false i = refl

held_left : (e n : ℕ) (c : Command) (p : List Command) (me : Holder) (r : Standing) → LinkOk r me (Held e n (c ∷ p))
    → is_heard (told_heard (Held e n (c ∷ p)) me r) ≡ false → Left r (Held e n (c ∷ p))
held_left e n c p me r o =
    choose {A = Link × LinkHeard} (λ z. is_heard z.1 ≡ false → Left r (Held e n (c ∷ p))) (r.epoch == e)
    (told_held e n (c ∷ p) r) _
    (λ t i. none (settled_count n (c ∷ p) r) refl i)
    (λ f i. absurd (other r.epoch o.0 f))
  where
    other : (k : ℕ) → k ≡ e → (k == e) ≡ false → ⊥
    other k a b = grind (arith, nat_tests)

    none : (k : ℕ) → settled_count n (c ∷ p) r ≡ k
        → is_heard (commands_settled (map (settlement_in r) (range_with_len (base_of n (c ∷ p) + 1) k))) ≡ false
        → newest_settled r ≤ base_of n (c ∷ p)
    none zero is i = omega (arith, is)
    none (suc k) is i = absurd cc

dropping_left : (e : ℕ) (me : Holder) (r : Standing) → is_heard (told_heard (Dropping e) me r) ≡ false
    → r.epoch ≤ e
dropping_left e me r =
    choose {A = Link × LinkHeard} (λ z. is_heard z.1 ≡ false → r.epoch ≤ e) (nat_lt e r.epoch) _ _
    (λ t i. absurd cc) (λ f i. below r.epoch f)
  where
    below : (k : ℕ) → nat_lt e k ≡ false → k ≤ e
    below k a = grind (arith, nat_tests)

pub unheard_left : (l : Link) (me : Holder) (r : Standing) → IsRecord r → LinkOk r me l → is_unsettled l ≡ true
    → is_heard (told_heard l me r) ≡ false → Left r l
unheard_left (Out k) me r lawful o waits i = absurd cc
unheard_left (Taking s) me r lawful o waits i = taking_left s me r lawful o i
unheard_left (Held e n []) me r lawful o waits i = absurd cc
unheard_left (Held e n (c ∷ p)) me r lawful o waits i = held_left e n c p me r o i
unheard_left (Dropping e) me r lawful o waits i = dropping_left e me r i
