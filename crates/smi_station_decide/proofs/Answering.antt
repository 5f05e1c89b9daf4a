-- What settles is answered one by one.
use Rattle.std.proofs.Common.{ℕ, zero, suc, ◌≡◌, ◌≤◌, ◌<◌, ◌+◌, List, [], ◌∷◌, length, drop, length-append, Option}
use Rattle.std.proofs.Common.{Some, None, refl, ap, ◌∙◌, arith}
use Rattle.std.specs.Prelude.{option_and_then, slice_get}
use Rattle.std.specs.List.{cons_option}
use Rattle.smi_command.specs.declared.Link.{Link}
use Rattle.smi_command.specs.declared.Link.TheVariants.{Out, Taking, Held, Dropping}
use Rattle.smi_command.specs.declared.Settlement.{Settlement}
use Rattle.smi_grant.specs.declared.Command.{Command}
use Rattle.smi_station_output.specs.Out.{answered_after}
use Rattle.smi_protocol.specs.Hearing.{answers_of, commands_answered}
use Rattle.smi_protocol.specs.Happening.{answer, answer_command}
use Rattle.smi_protocol.specs.Messages.{if_any}
use Rattle.smi_protocol.specs.declared.Order.TheVariants as order
use Rattle.smi_protocol.specs.declared.Answer.{Answer}
use Rattle.smi_station_decide.specs.Handing.{answer_at}

-- the answers for settlements, of which the first has this place
abbrev pub answers_from : ℕ → ℕ → Link → ℕ → List Settlement → List Answer
answers_from o d l i [] = []
answers_from o d l i (x ∷ xs) = cons_option (answer_at o d l i x) (answers_from o d l (i + 1) xs)

taking_from : (o d s i : ℕ) (xs : List Settlement) → answers_from o d (Taking s) i xs ≡ answers_of o d (Taking s) xs
taking_from o d s i [] = refl
taking_from o d s i (x ∷ xs) = ap (λ ys. answer o (order.Take d) x.code ∷ ys) (taking_from o d s (i + 1) xs)

dropping_from : (o d e i : ℕ) (xs : List Settlement)
    → answers_from o d (Dropping e) i xs ≡ answers_of o d (Dropping e) xs
dropping_from o d e i [] = refl
dropping_from o d e i (x ∷ xs) = ap (λ ys. answer o (order.Drop d) x.code ∷ ys) (dropping_from o d e (i + 1) xs)

out_from : (o d k i : ℕ) (xs : List Settlement) → answers_from o d (Out k) i xs ≡ []
out_from o d k i [] = refl
out_from o d k i (x ∷ xs) = out_from o d k (i + 1) xs

held_from : (o d e n i : ℕ) (p : List Command) (xs : List Settlement)
    → answers_from o d (Held e n p) i xs ≡ commands_answered o d e (drop i p) xs
held_from o d e n i p [] = none (drop i p)
  where
    none : (q : List Command) → [] ≡ commands_answered o d e q []
    none [] = refl
    none (c ∷ q) = refl
held_from o d e n i p (x ∷ xs) = by (slice_get p i) refl (held_from o d e n (i + 1) p xs)
  where
    past : (q : List Command) (j : ℕ) → slice_get q j ≡ None → drop j q ≡ []
    past [] zero is = refl
    past [] (suc j) is = refl
    past (c ∷ q) zero is = absurd cc
    past (c ∷ q) (suc j) is = past q j is

    further : (q : List Command) (j : ℕ) → slice_get q j ≡ None → drop (suc j) q ≡ []
    further [] j is = refl
    further (c ∷ q) zero is = absurd cc
    further (c ∷ q) (suc j) is = further q j is

    there : (q : List Command) (j : ℕ) (c : Command) → slice_get q j ≡ Some c → drop j q ≡ c ∷ drop (suc j) q
    there [] j c is = absurd cc
    there (b ∷ q) zero c is = let same : b ≡ c = cc in ap (λ z. z ∷ q) same
    there (b ∷ q) (suc j) c is = there q j c is

    later : (i : ℕ) → i + 1 ≡ suc i
    later i = omega arith

    by : (r : Option Command) → slice_get p i ≡ r
        → answers_from o d (Held e n p) (i + 1) xs ≡ commands_answered o d e (drop (i + 1) p) xs
        → cons_option (answer_at o d (Held e n p) i x) (answers_from o d (Held e n p) (i + 1) xs)
        ≡ commands_answered o d e (drop i p) (x ∷ xs)
    by None is rest =
        rw (is, past p i is) (rest ∙ ap (λ j. commands_answered o d e (drop j p) xs) (later i)
        ∙ ap (λ q. commands_answered o d e q xs) (further p i is) ∙ none_left xs)
      where
        none_left : (ys : List Settlement) → commands_answered o d e [] ys ≡ []
        none_left [] = refl
        none_left (y ∷ ys) = refl
    by (Some c) is rest = rw (is, there p i c is)
        (ap (λ ys. answer_command o d e x.number c x.code ∷ ys)
        (rest ∙ ap (λ j. commands_answered o d e (drop j p) xs) (later i)))

pub all_answered : (o d : ℕ) (l : Link) (xs : List Settlement) → answers_from o d l 0 xs ≡ answers_of o d l xs
all_answered o d (Out k) xs = out_from o d k 0 xs
all_answered o d (Taking s) xs = taking_from o d s 0 xs
all_answered o d (Held e n p) xs = held_from o d e n 0 p xs
all_answered o d (Dropping e) xs = dropping_from o d e 0 xs

-- one more
pub answer_next : (before : List Answer) (o d : ℕ) (l : Link) (xs : List Settlement) (i : ℕ) → i < length xs
    → answered_after before (answers_from o d l i (drop i xs))
    ≡ answered_after (answered_after before (if_any (option_and_then (answer_at o d l i) (slice_get xs i))))
    (answers_from o d l (i + 1) (drop (i + 1) xs))
answer_next before o d l xs i within = by xs i within
  where
    later : (i : ℕ) → suc i ≡ i + 1
    later i = omega arith

    found : (ys : List Settlement) (j : ℕ) → j < length ys
        → (x : Settlement) × (slice_get ys j ≡ Some x) × (drop j ys ≡ x ∷ drop (suc j) ys)
    found [] j within = absurd (omega (arith, within))
    found (y ∷ ys) zero within = (y, refl, refl)
    found (y ∷ ys) (suc j) within = found ys j (omega (arith, within))

    step : (a : Option Answer) (rest : List Answer)
        → answered_after before (cons_option a rest) ≡ answered_after (answered_after before (if_any a)) rest
    step None rest = refl
    step (Some a) rest = refl

    by : (ys : List Settlement) (j : ℕ) → j < length ys
        → answered_after before (answers_from o d l j (drop j ys))
        ≡ answered_after (answered_after before (if_any (option_and_then (answer_at o d l j) (slice_get ys j))))
        (answers_from o d l (j + 1) (drop (j + 1) ys))
    by ys j within =
        let f = found ys j within in
        rw (f.1, f.2) (step (answer_at o d l j f.0) (answers_from o d l (j + 1) (drop (suc j) ys))
        ∙ ap (λ k. answered_after (answered_after before (if_any (answer_at o d l j f.0)))
        (answers_from o d l (j + 1) (drop k ys))) (later j))

pub few_more : (before : List Answer) (a : Option Answer)
    → length (answered_after before (if_any a)) ≤ length before + 1
few_more before None = omega arith
few_more before (Some a) = let long = length-append before (a ∷ []) in omega (arith, long)
