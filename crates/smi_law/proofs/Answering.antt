-- What an operator is told, and what the operator still waits for, is what the operator waited for.
use Rattle.std.proofs.Common.{ℕ, zero, suc, ◌≡◌, ◌+◌, Bool, true, false, List, [], ◌∷◌, refl, ap}
use Rattle.std.proofs.Common.{◌∙◌, append_assoc, append-nil, subst, sym, drop}
use Rattle.std.specs.Prelude.{◌==◌, ◌&&◌, ◌++◌, nat_lt, nat_le, not, if◌then◌else◌, map, take, length}
use Rattle.std.proofs.lemmas.List.FromFn.{length-map-range_with_len}
use Rattle.smi_grant.specs.declared.Command.{Command}
use Rattle.smi_grant.specs.declared.Command.TheVariants.{Do, Include, Exclude, Manual, Ignore}
use Rattle.smi_grant.specs.declared.Holder.TheVariants.{Operator}
use Rattle.smi_grant.specs.Holder.{is_free, same_holder}
use Rattle.smi_grant.specs.Record.{Standing, last_epoch}
use Rattle.smi_message.specs.Message.{Message}
use Rattle.smi_command.specs.declared.Link.{Link}
use Rattle.smi_command.specs.declared.Link.TheVariants.{Out, Taking, Held, Dropping}
use Rattle.smi_command.specs.declared.LinkHeard.{LinkHeard}
use Rattle.smi_command.specs.declared.Settlement.{Settlement}
use Rattle.smi_command.specs.Hearing.{commands_settled, settled_count, settlement_in, settlements, told_heard}
use Rattle.smi_command.specs.Hearing.{told_held}
use Rattle.smi_command.specs.Hearing.{told_link}
use Rattle.smi_command.specs.Pending.{base_of}
use Rattle.smi_command.proofs.Heard.{choose}
use Rattle.smi_protocol.proofs.Tables.{number_self}
use Rattle.smi_protocol.specs.Happening.{answer, answer_command, order_of, told_entries}
use Rattle.smi_protocol.specs.Hearing.{answers_of, commands_answered, settlements_in}
use Rattle.smi_protocol.specs.declared.Entry.{Entry}
use Rattle.smi_protocol.specs.declared.Entry.TheVariants.{Booted, Granted, Freed, Ordered, Ran, Learned, LetGo, InMode}
use Rattle.smi_protocol.specs.declared.Entry.TheVariants.{Settled, Showed, Passed}
use Rattle.smi_protocol.specs.declared.Entry.TheVariants as entry
use Rattle.smi_protocol.specs.declared.order.Answer.{Answer}
use Rattle.smi_protocol.specs.declared.order.Order.{Order}
use Rattle.smi_protocol.specs.declared.order.Order.TheVariants as order
use Rattle.smi_protocol.specs.declared.order.Told.{Told}
use Rattle.smi_law.specs.World.{Among}
use Rattle.smi_law.specs.Answered.{Hears, hears, is_about, nothing, order_told, orders_waiting, told_about, told_of}

-- Lists of orders.

pub told_both : (o d : ℕ) (xs ys : List Entry) → told_about o d (xs ++ ys) ≡ told_about o d xs ++ told_about o d ys
told_both o d [] ys = refl
told_both o d (Booted s b ∷ xs) ys = told_both o d xs ys
told_both o d (Granted x e who ∷ xs) ys = told_both o d xs ys
told_both o d (Freed x e ∷ xs) ys = told_both o d xs ys
told_both o d (Ordered p x e n c ∷ xs) ys = told_both o d xs ys
told_both o d (Ran x e n c ∷ xs) ys = told_both o d xs ys
told_both o d (Learned who x e ∷ xs) ys = told_both o d xs ys
told_both o d (LetGo who x e ∷ xs) ys = told_both o d xs ys
told_both o d (InMode x m ∷ xs) ys = told_both o d xs ys
told_both o d (Settled x e n code ∷ xs) ys = told_both o d xs ys
told_both o d (Showed s v ∷ xs) ys = told_both o d xs ys
told_both o d (Passed v ∷ xs) ys = told_both o d xs ys
told_both o d (entry.Told p t ∷ xs) ys = by (p == o && is_about d t.order) (told_both o d xs ys)
  where
    by : (b : Bool) → told_about o d (xs ++ ys) ≡ told_about o d xs ++ told_about o d ys
        → (if b then t ∷ told_about o d (xs ++ ys) else told_about o d (xs ++ ys))
        ≡ (if b then t ∷ told_about o d xs else told_about o d xs) ++ told_about o d ys
    by true rest = ap (λ z. t ∷ z) rest
    by false rest = rest

parts : {X Y : Type 0} (f : X → Y) (k : ℕ) (xs : List X) → map f (take k xs) ++ map f (drop k xs) ≡ map f xs
parts f zero xs = refl
parts f (suc k) [] = refl
parts f (suc k) (x ∷ xs) = ap (λ z. f x ∷ z) (parts f k xs)

-- an order about a domain
command_about : (d : ℕ) (c : Command) → is_about d (order_of d c) ≡ true
command_about d (Do a) = number_self d
command_about d (Include t) = number_self d
command_about d (Exclude t) = number_self d
command_about d (Manual t) = number_self d
command_about d (Ignore t) = number_self d

told_first : (o d : ℕ) (a : Answer) (more : List Answer) → a.operator ≡ o → is_about d a.told.order ≡ true
    → told_about o d (told_entries (a ∷ more)) ≡ a.told ∷ told_about o d (told_entries more)
told_first o d a more mine about =
    ap (λ b. if b && is_about d a.told.order then a.told ∷ told_about o d (told_entries more)
    else told_about o d (told_entries more)) (ap (λ z. z == o) mine ∙ number_self o)
    ∙ ap (λ b. if b then a.told ∷ told_about o d (told_entries more) else told_about o d (told_entries more)) about

-- A link that hears.

commands_told : (o d e : ℕ) (p : List Command) (ss : List Settlement)
    → map order_told (map told_of (commands_answered o d e p ss)) ≡ map (order_of d) (take (length ss) p)
commands_told o d e [] [] = refl
commands_told o d e [] (s ∷ ss) = refl
commands_told o d e (c ∷ p) [] = refl
commands_told o d e (c ∷ p) (s ∷ ss) = ap (λ z. order_of d c ∷ z) (commands_told o d e p ss)

settled_all : (ss : List Settlement) → settlements_in (commands_settled ss) ≡ ss
settled_all [] = refl
settled_all (s ∷ ss) = refl

abbrev Kept : ℕ → ℕ → Link → Link × LinkHeard → Type 0
Kept o d l z = map order_told (map told_of (answers_of o d l (settlements_in z.1))) ++ orders_waiting d z.0
    ≡ orders_waiting d l

-- what is told to an operator and what the operator still waits for
pub heard_told : (o d : ℕ) (l : Link) (r : Standing)
    → map order_told (map told_of (answers_of o d l (settlements_in (told_heard l (Operator o) r))))
    ++ orders_waiting d (told_link l (Operator o) r) ≡ orders_waiting d l
heard_told o d (Out k) r = refl
heard_told o d (Taking s) r =
    choose {A = Link × LinkHeard} (Kept o d (Taking s)) (r.epoch == s + 1 && same_holder r.holder (Operator o)) _ _
    (λ t. refl)
    (λ f1. choose {A = Link × LinkHeard} (Kept o d (Taking s)) (is_free r.holder && r.epoch == last_epoch) _ _
    (λ t. refl)
    (λ f2. choose {A = Link × LinkHeard} (Kept o d (Taking s)) (is_free r.holder && nat_lt s r.epoch) _ _
    (λ t. refl)
    (λ f3. choose {A = Link × LinkHeard} (Kept o d (Taking s))
    (not (is_free r.holder) && (not (same_holder r.holder (Operator o)) && nat_le s r.epoch)) _ _
    (λ t. refl)
    (λ f4. refl))))
heard_told o d (Held e n p) r =
    choose {A = Link × LinkHeard} (Kept o d (Held e n p)) (r.epoch == e) (told_held e n p r) _
    (λ t.
    ap (λ z. map order_told (map told_of (commands_answered o d e p z))
    ++ map (order_of d) (drop (settled_count n p r) p)) (settled_all (settlements n p r))
    ∙ ap (λ z. z ++ map (order_of d) (drop (settled_count n p r) p)) (commands_told o d e p (settlements n p r)
    ∙ ap (λ k. map (order_of d) (take k p))
    (length-map-range_with_len (settlement_in r) (base_of n p + 1) (settled_count n p r)))
    ∙ parts (order_of d) (settled_count n p r) p)
    (λ f. none p)
  where
    none : (q : List Command) → map order_told (map told_of (commands_answered o d e q [])) ++ map (order_of d) q
        ≡ map (order_of d) q
    none [] = refl
    none (c ∷ q) = refl
heard_told o d (Dropping e) r =
    choose {A = Link × LinkHeard} (Kept o d (Dropping e)) (nat_lt e r.epoch) _ _
    (λ t. refl) (λ f. refl)

-- all answers of a link are about it
module _ (o d : ℕ) where
  commands_all : (e : ℕ) (p : List Command) (ss : List Settlement)
      → told_about o d (told_entries (commands_answered o d e p ss)) ≡ map told_of (commands_answered o d e p ss)
  commands_all e [] [] = refl
  commands_all e [] (s ∷ ss) = refl
  commands_all e (c ∷ p) [] = refl
  commands_all e (c ∷ p) (s ∷ ss) =
      told_first o d (answer_command o d e s.number c s.code) (commands_answered o d e p ss) refl (command_about d c)
      ∙ ap (λ z. (answer_command o d e s.number c s.code).told ∷ z) (commands_all e p ss)

  changes_all : (what : Order) → is_about d what ≡ true → (ss : List Settlement)
      → told_about o d (told_entries (map (λ (s : Settlement). answer o what s.code) ss))
      ≡ map told_of (map (λ (s : Settlement). answer o what s.code) ss)
  changes_all what about [] = refl
  changes_all what about (s ∷ ss) =
      told_first o d (answer o what s.code) (map (λ (z : Settlement). answer o what z.code) ss) refl about
      ∙ ap (λ z. (answer o what s.code).told ∷ z) (changes_all what about ss)

  pub all_about : (l : Link) (ss : List Settlement)
      → told_about o d (told_entries (answers_of o d l ss)) ≡ map told_of (answers_of o d l ss)
  all_about (Out k) ss = refl
  all_about (Taking s) ss = changes_all (order.Take d) (number_self d) ss
  all_about (Held e n p) ss = commands_all e p ss
  all_about (Dropping e) ss = changes_all (order.Drop d) (number_self d) ss

-- What is told of others.

-- the answers are another operator's, or about another domain
abbrev Aside : ℕ → ℕ → List Answer → Type 0
Aside o d [] = Unit {0}
Aside o d (a ∷ more) = ((a.operator == o && is_about d a.told.order) ≡ false) × Aside o d more

pub aside_told : (o d : ℕ) (xs : List Answer) → Aside o d xs → told_about o d (told_entries xs) ≡ []
aside_told o d [] a = refl
aside_told o d (x ∷ xs) a = ap (λ b. if b then x.told ∷ told_about o d (told_entries xs)
    else told_about o d (told_entries xs)) a.0 ∙ aside_told o d xs a.1

command_other : (x d : ℕ) (c : Command) → is_about d (order_of x c) ≡ (x == d)
command_other x d (Do a) = refl
command_other x d (Include t) = refl
command_other x d (Exclude t) = refl
command_other x d (Manual t) = refl
command_other x d (Ignore t) = refl

module _ (o d q x : ℕ) (other : (q == o && x == d) ≡ false) where
  commands_aside : (e : ℕ) (p : List Command) (ss : List Settlement) → Aside o d (commands_answered q x e p ss)
  commands_aside e [] [] = tt
  commands_aside e [] (s ∷ ss) = tt
  commands_aside e (c ∷ p) [] = tt
  commands_aside e (c ∷ p) (s ∷ ss) =
      (ap (λ b. q == o && b) (command_other x d c) ∙ other, commands_aside e p ss)

  takes_aside : (ss : List Settlement) → Aside o d (map (λ (s : Settlement). answer q (order.Take x) s.code) ss)
  takes_aside [] = tt
  takes_aside (s ∷ ss) = (other, takes_aside ss)

  drops_aside : (ss : List Settlement) → Aside o d (map (λ (s : Settlement). answer q (order.Drop x) s.code) ss)
  drops_aside [] = tt
  drops_aside (s ∷ ss) = (other, drops_aside ss)

  pub link_aside : (l : Link) (ss : List Settlement) → Aside o d (answers_of q x l ss)
  link_aside (Out k) ss = tt
  link_aside (Taking s) ss = takes_aside ss
  link_aside (Held e n p) ss = commands_aside e p ss
  link_aside (Dropping e) ss = drops_aside ss

-- Hearing, one record after the other.

pub hears_more : (o d : ℕ) (sent more : List Message) → ((m : Message) → Among m sent → Among m more) → (l k : Link)
    (told : List Told) → Hears o d sent l told k → Hears o d more l told k
hears_more o d sent more part l k told nothing = nothing
hears_more o d sent more part l k told (hears {told = before} {k = j} m r a is t) =
    hears m r (part m a) is (hears_more o d sent more part l j before t)

pub hears_on : (o d : ℕ) (sent : List Message) (l k j : Link) (first last : List Told) → Hears o d sent l first k
    → Hears o d sent k last j → Hears o d sent l (first ++ last) j
hears_on o d sent l k j first last a nothing = subst (λ z. Hears o d sent l z j) (sym (append-nil first)) a
hears_on o d sent l k j first last a (hears {told = before} {k = i} m r at is t) =
    let new = map told_of (answers_of o d i (settlements_in (told_heard i (Operator o) r))) in
    subst (λ z. Hears o d sent l z j) (append_assoc first before new)
    (hears m r at is (hears_on o d sent l k i first before a t))

orders_both : (xs ys : List Told) → map order_told (xs ++ ys) ≡ map order_told xs ++ map order_told ys
orders_both [] ys = refl
orders_both (x ∷ xs) ys = ap (λ z. order_told x ∷ z) (orders_both xs ys)

-- the orders that are told and those that still wait are those that waited
pub orders_kept : (o d : ℕ) (sent : List Message) (l k : Link) (told : List Told) → Hears o d sent l told k
    → map order_told told ++ orders_waiting d k ≡ orders_waiting d l
orders_kept o d sent l k told nothing = refl
orders_kept o d sent l k told (hears {told = before} {k = i} m r at is t) =
    let new = map told_of (answers_of o d i (settlements_in (told_heard i (Operator o) r))) in
    ap (λ z. z ++ orders_waiting d k) (orders_both before new)
    ∙ append_assoc (map order_told before) (map order_told new) (orders_waiting d k)
    ∙ ap (λ z. map order_told before ++ z) (heard_told o d i r)
    ∙ orders_kept o d sent l i before t
