-- What each entry makes of what is kept of its domain.
use Rattle.std.proofs.Common.{ℕ, ◌≡◌, ◌<◌, ◌≤◌, ◌+◌, ◌-◌, Bool, true, false, List, [], ◌∷◌, ◌⊎◌, inl, inr, refl, sym}
use Rattle.std.proofs.Common.{ap, ◌∙◌, arith}
use Rattle.std.specs.Prelude.{◌==◌, ◌&&◌, ◌++◌, length, if◌then◌else◌, Some, None}
use Rattle.std.proofs.lemmas.Bool.Decides.{nat_tests}
use Rattle.smi_grant.specs.declared.Command.{Command}
use Rattle.smi_grant.specs.declared.Holder.{Holder}
use Rattle.smi_grant.specs.declared.Holder.TheVariants.{Free, Operator, Domain}
use Rattle.smi_grant.specs.Holder.{same_holder}
use Rattle.smi_grant.proofs.Holders.{same_is, same_self}
use Rattle.smi_law.specs.Trace.{Stands, epoch_at, holder_at, has_learned, mode_at, orders_of, InWork, runs_under}
use Rattle.smi_audit.specs.Tables.{Account, begun, ordered, ran, learned, let_go, in_mode, settled}
use Rattle.smi_audit.specs.Tables.{is_given, is_held, is_gone, is_loose, order_at}
use Rattle.smi_audit.specs.Described.{IsAccount}
use Rattle.smi_protocol.specs.declared.Entry.{Entry}
use Rattle.smi_protocol.specs.declared.Entry.TheVariants.{Granted, Freed, Ordered, Ran, Learned, LetGo}
use Rattle.smi_protocol.specs.declared.Entry.TheVariants.{InMode, Settled}
use Rattle.smi_rows.specs.declared.Mode.{Mode}
use Rattle.smi_rows.specs.declared.Mode.TheVariants as mode
use Rattle.smi_audit.specs.declared.stage.GrantStage.{GrantStage}
use Rattle.smi_audit.specs.declared.stage.GrantStage.TheVariants.{Given, Held, Gone}
use Rattle.smi_audit.proofs.Calm.{NoHands, NoLink, NoMode, NoOrder, NoRun, NoWork}
use Rattle.smi_audit.proofs.Calm.{epoch_same, holder_same, learned_same, mode_same, orders_same, runs_same, work_same}
use Rattle.smi_audit.proofs.Calm.{learned_stood, ran_stood}

pub number_self : (n : ℕ) → (n == n) ≡ true
number_self n = grind (arith, nat_tests)

-- Nothing is said of the domain.

pub record Calm (d : ℕ) (x : Entry) : Type 0 where
  pub hands : NoHands d x
  pub link : NoLink d x
  pub mode : NoMode d x
  pub order : NoOrder d x
  pub run : NoRun d x
  pub work : NoWork d x

pub still : (past : List Entry) (d : ℕ) (s : Account) (x : Entry) → Calm d x → IsAccount past d s
    → IsAccount (x ∷ past) d s
still past d s x calm i = record {
  epoch = epoch_same d x past calm.hands ∙ i.epoch;
  holder = holder_same d x past calm.hands ∙ i.holder;
  granted = λ held. inr (i.granted held);
  learned = λ me e. learned_same me d e x past calm.link ∙ i.learned me e;
  once = λ me e a. i.once me e (learned_stood me d e x past calm.link a);
  let_go = λ gone. inr (i.let_go gone);
  mode = λ p at held. mode_same (Domain p) d s.epoch x past calm.mode ∙ i.mode p at held;
  orders = λ o n at. orders_same o d s.epoch n x past calm.order ∙ i.orders o n at;
  unordered = λ o e n above. orders_same o d e n x past calm.order ∙ i.unordered o e n above;
  runs = runs_same d s.epoch x past calm.run ∙ i.runs;
  unrun = λ e above. runs_same d e x past calm.run ∙ i.unrun e above;
  behind = λ e n c a. i.behind e n c (ran_stood d e n c x past calm.run a);
  work = λ c at. work_same d s.epoch s.ran c x past calm.work (i.work c at);
}

-- The domain changes hands.

loose_held : (s : GrantStage) → is_loose s ≡ true → is_held s ≡ false
loose_held Given t = refl
loose_held Held t = absurd cc
loose_held Gone t = refl

pub gone_loose : (s : GrantStage) → is_gone s ≡ true → is_loose s ≡ true
gone_loose Given t = absurd cc
gone_loose Held t = absurd cc
gone_loose Gone t = refl

pub never : (a b : Bool) → (a && (b && false)) ≡ false
never true true = refl
never true false = refl
never false b = refl

module _ (past : List Entry) (d : ℕ) (s : Account) (i : IsAccount past d s) (e : ℕ) (next : e ≡ s.epoch + 1)
    (loose : is_loose s.stage ≡ true) where
  nobody : (me : Holder) (f : ℕ) → has_learned me d f past ≡ false
  nobody me f = i.learned me f ∙ ap (λ b. f == s.epoch && (same_holder me s.holder && b)) (loose_held s.stage loose)
      ∙ never (f == s.epoch) (same_holder me s.holder)

  earlier : (me : Holder) (f : ℕ) → Stands (Learned me d f) past → f < e
  earlier me f a = elim (i.once me f a) [ inl less ↦ omega arith | inr at ↦ let x = at.0 in omega (arith, x) ]

  run_earlier : (f n : ℕ) (c : Command) → Stands (Ran d f n c) past → f < e
  run_earlier f n c a = elim (i.behind f n c a) [ inl less ↦ omega arith | inr at ↦ let x = at.0 in omega (arith, x) ]

  pub granted_account : (who : Holder) → IsAccount (Granted d e who ∷ past) d (begun e who)
  unfolding epoch_at holder_at has_learned mode_at orders_of InWork runs_under
  granted_account who = record {
    epoch = rw (number_self d) refl;
    holder = rw (number_self d) refl;
    granted = λ held. inl refl;
    learned = λ me f. nobody me f ∙ sym (never (f == e) (same_holder me who));
    once = λ me f a. inl (earlier me f (learned_stood me d f (Granted d e who) past tt a));
    let_go = λ gone. absurd cc;
    mode = λ p at held. absurd cc;
    orders = λ o n at. i.unordered o e n (omega arith);
    unordered = λ o f n above. i.unordered o f n (omega arith);
    runs = i.unrun e (omega arith);
    unrun = λ f above. i.unrun f (omega arith);
    behind = λ f n c a. inl (run_earlier f n c (ran_stood d f n c (Granted d e who) past tt a));
    work = λ c at. absurd cc;
  }

  pub freed_account : IsAccount (Freed d e ∷ past) d (begun e Free)
  unfolding epoch_at holder_at has_learned mode_at orders_of InWork runs_under
  freed_account = record {
    epoch = rw (number_self d) refl;
    holder = rw (number_self d) refl;
    granted = λ held. absurd cc;
    learned = λ me f. nobody me f ∙ sym (never (f == e) (same_holder me Free));
    once = λ me f a. inl (earlier me f (learned_stood me d f (Freed d e) past tt a));
    let_go = λ gone. absurd cc;
    mode = λ p at held. absurd cc;
    orders = λ o n at. absurd cc;
    unordered = λ o f n above. i.unordered o f n (omega arith);
    runs = i.unrun e (omega arith);
    unrun = λ f above. i.unrun f (omega arith);
    behind = λ f n c a. inl (run_earlier f n c (ran_stood d f n c (Freed d e) past tt a));
    work = λ c at. absurd cc;
  }

-- An operator orders.

order_more : (xs : List Command) (c : Command) (n : ℕ)
    → order_at (xs ++ c ∷ []) n ≡ (if length xs + 1 == n then c ∷ order_at xs n else order_at xs n)
order_more [] c n = by (n == 1) refl
  where
    by : (b : Bool) → (n == 1) ≡ b
        → (if n == 1 then c ∷ [] else []) ≡ (if 0 + 1 == n then c ∷ [] else [])
    by true is = rw is (let t : (0 + 1 == n) ≡ true = grind (arith, nat_tests) in rw t refl)
    by false is = rw is (let t : (0 + 1 == n) ≡ false = grind (arith, nat_tests) in rw t refl)
order_more (x ∷ xs) c n = by (n == 1) refl (order_more xs c (n - 1))
  where
    same : (length xs + 1 == n - 1) ≡ (length (x ∷ xs) + 1 == n)
    same = grind (arith, nat_tests)

    by : (b : Bool) → (n == 1) ≡ b
        → order_at (xs ++ c ∷ []) (n - 1)
        ≡ (if length xs + 1 == n - 1 then c ∷ order_at xs (n - 1) else order_at xs (n - 1))
        → (if n == 1 then x ∷ [] else order_at (xs ++ c ∷ []) (n - 1))
        ≡ (if length (x ∷ xs) + 1 == n then c ∷ (if n == 1 then x ∷ [] else order_at xs (n - 1))
        else (if n == 1 then x ∷ [] else order_at xs (n - 1)))
    by true is rest = rw is (let t : (length (x ∷ xs) + 1 == n) ≡ false = grind (arith, nat_tests) in rw t refl)
    by false is rest = rw is (rest ∙ ap (λ b. if b then c ∷ order_at xs (n - 1) else order_at xs (n - 1)) same)

-- the test of an order that is this operator's, under this grant
this_order : (o d e n m : ℕ) → (o == o && (d == d && (e == e && n == m))) ≡ (n == m)
this_order o d e n m = rw (number_self o) (rw (number_self d) (rw (number_self e) refl))

other_grant : (a b c : Bool) → (a && (b && (false && c))) ≡ false
other_grant true true c = refl
other_grant true false c = refl
other_grant false b c = refl

same_operator : (who : Holder) (o p : ℕ) → same_holder who (Operator o) ≡ true → who ≡ Operator p → o ≡ p
same_operator who o p t at =
    let i : Operator o ≡ Operator p = sym (same_is who (Operator o) t) ∙ at in cc

module _ (past : List Entry) (d : ℕ) (s : Account) (i : IsAccount past d s) (o e n : ℕ) (c : Command)
    (who : same_holder s.holder (Operator o) ≡ true) (at : e ≡ s.epoch) (next : n ≡ length s.orders + 1) where
  one_more : (p m : ℕ) → s.holder ≡ Operator p
      → orders_of p d s.epoch m (Ordered o d e n c ∷ past) ≡ order_at (s.orders ++ c ∷ []) m
  unfolding orders_of
  one_more p m is =
      rw (same_operator s.holder o p who is)
      (rw at
      (rw next
      (ap (λ b. if b then c ∷ orders_of p d s.epoch m past else orders_of p d s.epoch m past)
      (this_order p d s.epoch (length s.orders + 1) m)
      ∙ ap (λ l. if length s.orders + 1 == m then c ∷ l else l) (i.orders p m is)
      ∙ sym (order_more s.orders c m))))

  none_later : (p f m : ℕ) → s.epoch < f → orders_of p d f m (Ordered o d e n c ∷ past) ≡ []
  unfolding orders_of
  none_later p f m above =
      let differs : (e == f) ≡ false = grind (arith, nat_tests, at) in
      rw differs
      (ap (λ b. if b then c ∷ orders_of p d f m past else orders_of p d f m past)
      (other_grant (o == p) (d == d) (n == m))
      ∙ i.unordered p f m above)

  pub ordered_account : IsAccount (Ordered o d e n c ∷ past) d (ordered s c)
  ordered_account = let x = Ordered o d e n c in record {
    epoch = epoch_same d x past tt ∙ i.epoch;
    holder = holder_same d x past tt ∙ i.holder;
    granted = λ held. inr (i.granted held);
    learned = λ me f. learned_same me d f x past tt ∙ i.learned me f;
    once = λ me f a. i.once me f (learned_stood me d f x past tt a);
    let_go = λ gone. inr (i.let_go gone);
    mode = λ p is held. mode_same (Domain p) d s.epoch x past tt ∙ i.mode p is held;
    orders = one_more;
    unordered = none_later;
    runs = runs_same d s.epoch x past tt ∙ i.runs;
    unrun = λ f above. runs_same d f x past tt ∙ i.unrun f above;
    behind = λ f m k a. i.behind f m k (ran_stood d f m k x past tt a);
    work = λ k is. work_same d s.epoch s.ran k x past tt (i.work k is);
  }

-- A command runs.

module _ (past : List Entry) (d : ℕ) (s : Account) (i : IsAccount past d s) (e n : ℕ) (c : Command)
    (at : e ≡ s.epoch) (next : n ≡ s.ran + 1) where
  ran_behind : (f m : ℕ) (k : Command) → Stands (Ran d f m k) (Ran d e n c ∷ past)
      → (f < s.epoch) ⊎ ((f ≡ s.epoch) × (m ≤ n))
  ran_behind f m k (inl same) =
      let a : f ≡ e = cc in let b : m ≡ n = cc in inr (a ∙ at, omega arith)
  ran_behind f m k (inr a) = elim (i.behind f m k a) [
    | inl less ↦ inl less
    | inr now ↦ let x = now.1 in inr (now.0, omega (arith, x))
  ]

  pub ran_account : IsAccount (Ran d e n c ∷ past) d (ran s n c)
  unfolding InWork runs_under
  ran_account = let x = Ran d e n c in record {
    epoch = epoch_same d x past tt ∙ i.epoch;
    holder = holder_same d x past tt ∙ i.holder;
    granted = λ held. inr (i.granted held);
    learned = λ me f. learned_same me d f x past tt ∙ i.learned me f;
    once = λ me f a. i.once me f (learned_stood me d f x past tt a);
    let_go = λ gone. inr (i.let_go gone);
    mode = λ p is held. mode_same (Domain p) d s.epoch x past tt ∙ i.mode p is held;
    orders = λ o m is. orders_same o d s.epoch m x past tt ∙ i.orders o m is;
    unordered = λ o f m above. orders_same o d f m x past tt ∙ i.unordered o f m above;
    runs =
        rw at (rw (number_self d) (rw (number_self s.epoch) (ap (λ z. z + 1) i.runs ∙ sym next)));
    unrun = λ f above.
        let differs : (e == f) ≡ false = grind (arith, nat_tests, at) in
        rw (number_self d) (rw differs (i.unrun f above));
    behind = ran_behind;
    work = λ k is. let same : c ≡ k = cc in inl (refl, at, refl, same);
  }

-- A holder learns of its grant.

if_true : (b : Bool) → (if b then true else false) ≡ b
if_true true = refl
if_true false = refl

with_true : (a b : Bool) → (a && b) ≡ (a && (b && true))
with_true true true = refl
with_true true false = refl
with_true false b = refl

module _ (past : List Entry) (d : ℕ) (s : Account) (i : IsAccount past d s) (who : Holder) (e : ℕ)
    (at : e ≡ s.epoch) (mine : same_holder s.holder who ≡ true) where
  is_who : s.holder ≡ who
  is_who = same_is s.holder who mine

  this_grant : (me : Holder) (f : ℕ)
      → (d == d && (f == e && same_holder me who)) ≡ (f == s.epoch && same_holder me s.holder)
  this_grant me f = rw (number_self d) (rw at (rw is_who refl))

  module _ (given : is_given s.stage ≡ true) where
    given_held : (st : GrantStage) → is_given st ≡ true → is_held st ≡ false
    given_held Given t = refl
    given_held Held t = absurd cc
    given_held Gone t = absurd cc

    not_yet : (me : Holder) (f : ℕ) → has_learned me d f past ≡ false
    not_yet me f = i.learned me f
        ∙ ap (λ b. f == s.epoch && (same_holder me s.holder && b)) (given_held s.stage given)
        ∙ never (f == s.epoch) (same_holder me s.holder)

    has_now : (me : Holder) (f : ℕ) → has_learned me d f (Learned who d e ∷ past)
        ≡ (f == s.epoch && (same_holder me s.holder && true))
    unfolding has_learned
    has_now me f =
        ap (λ b. if b then true else has_learned me d f past) (this_grant me f)
        ∙ ap (λ b. if f == s.epoch && same_holder me s.holder then true else b) (not_yet me f)
        ∙ if_true (f == s.epoch && same_holder me s.holder)
        ∙ with_true (f == s.epoch) (same_holder me s.holder)

    once_now : (me : Holder) (f : ℕ) → Stands (Learned me d f) (Learned who d e ∷ past)
        → (f < s.epoch) ⊎ ((f ≡ s.epoch) × (is_given Held ≡ false))
    once_now me f (inl same) = let a : f ≡ e = cc in inr (a ∙ at, refl)
    once_now me f (inr a) = elim (i.once me f a) [ inl less ↦ inl less | inr now ↦ inr (now.0, refl) ]

    included : (p : ℕ) → s.holder ≡ Domain p → mode_at (Domain p) d s.epoch (Learned who d e ∷ past) ≡ mode.Included
    unfolding mode_at
    included p is =
        ap (λ b. if b then mode.Included else mode_at (Domain p) d s.epoch past)
        (this_grant (Domain p) s.epoch ∙ ap (λ g. s.epoch == s.epoch && same_holder (Domain p) g) is
        ∙ ap (λ b. b && same_holder (Domain p) (Domain p)) (number_self s.epoch)
        ∙ same_self (Domain p))

    pub learned_account : IsAccount (Learned who d e ∷ past) d (learned s)
    learned_account = let x = Learned who d e in record {
      epoch = epoch_same d x past tt ∙ i.epoch;
      holder = holder_same d x past tt ∙ i.holder;
      granted = λ held. inr (i.granted held);
      learned = has_now;
      once = once_now;
      let_go = λ gone. absurd cc;
      mode = λ p is held. included p is;
      orders = λ o m is. orders_same o d s.epoch m x past tt ∙ i.orders o m is;
      unordered = λ o f m above. orders_same o d f m x past tt ∙ i.unordered o f m above;
      runs = runs_same d s.epoch x past tt ∙ i.runs;
      unrun = λ f above. runs_same d f x past tt ∙ i.unrun f above;
      behind = λ f m k a. i.behind f m k (ran_stood d f m k x past tt a);
      work = λ k is. work_same d s.epoch s.ran k x past tt (i.work k is);
    }

  -- It lets go.

  let_go_all : (a b c : Bool) → (if a && b then false else (a && (b && c))) ≡ (a && (b && false))
  let_go_all true true c = refl
  let_go_all true false c = refl
  let_go_all false b c = refl

  no_more : (me : Holder) (f : ℕ) → has_learned me d f (LetGo who d e ∷ past)
      ≡ (f == s.epoch && (same_holder me s.holder && false))
  unfolding has_learned
  no_more me f =
      ap (λ b. if b then false else has_learned me d f past) (this_grant me f)
      ∙ ap (λ b. if f == s.epoch && same_holder me s.holder then false else b) (i.learned me f)
      ∙ let_go_all (f == s.epoch) (same_holder me s.holder) (is_held s.stage)

  once_gone : (me : Holder) (f : ℕ) → Stands (Learned me d f) (LetGo who d e ∷ past)
      → (f < s.epoch) ⊎ ((f ≡ s.epoch) × (is_given Gone ≡ false))
  once_gone me f (inl same) = absurd cc
  once_gone me f (inr a) = elim (i.once me f a) [ inl less ↦ inl less | inr now ↦ inr (now.0, refl) ]

  pub let_go_account : IsAccount (LetGo who d e ∷ past) d (let_go s)
  let_go_account = let x = LetGo who d e in record {
    epoch = epoch_same d x past tt ∙ i.epoch;
    holder = holder_same d x past tt ∙ i.holder;
    granted = λ held. inr (i.granted held);
    learned = no_more;
    once = once_gone;
    let_go = λ gone. inl (ap (λ g. LetGo g d s.epoch) is_who ∙ ap (λ f. LetGo who d f) (sym at));
    mode = λ p is held. absurd cc;
    orders = λ o m is. orders_same o d s.epoch m x past tt ∙ i.orders o m is;
    unordered = λ o f m above. orders_same o d f m x past tt ∙ i.unordered o f m above;
    runs = runs_same d s.epoch x past tt ∙ i.runs;
    unrun = λ f above. runs_same d f x past tt ∙ i.unrun f above;
    behind = λ f m k a. i.behind f m k (ran_stood d f m k x past tt a);
    work = λ k is. work_same d s.epoch s.ran k x past tt (i.work k is);
  }

-- A mode changes, and a command ends.

module _ (past : List Entry) (d : ℕ) (s : Account) (i : IsAccount past d s) where
  pub in_mode_account : (m : Mode) → IsAccount (InMode d m ∷ past) d (in_mode s m)
  unfolding mode_at
  in_mode_account m = let x = InMode d m in record {
    epoch = epoch_same d x past tt ∙ i.epoch;
    holder = holder_same d x past tt ∙ i.holder;
    granted = λ held. inr (i.granted held);
    learned = λ me f. learned_same me d f x past tt ∙ i.learned me f;
    once = λ me f a. i.once me f (learned_stood me d f x past tt a);
    let_go = λ gone. inr (i.let_go gone);
    mode = λ p is held. rw (number_self d) refl;
    orders = λ o n is. orders_same o d s.epoch n x past tt ∙ i.orders o n is;
    unordered = λ o f n above. orders_same o d f n x past tt ∙ i.unordered o f n above;
    runs = runs_same d s.epoch x past tt ∙ i.runs;
    unrun = λ f above. runs_same d f x past tt ∙ i.unrun f above;
    behind = λ f n k a. i.behind f n k (ran_stood d f n k x past tt a);
    work = λ k is. work_same d s.epoch s.ran k x past tt (i.work k is);
  }

  both : (a b : ℕ) (c f : ℕ) → a ≡ c → b ≡ f → (a == c && b == f) ≡ true
  both a b c f i j = grind (arith, nat_tests)

  still_works : (e n q : ℕ) (k : Command) → (b : Bool) → (e == s.epoch && n == s.ran) ≡ b
      → (if b then None else s.work) ≡ Some k → InWork d s.epoch s.ran k (Settled d e n q ∷ past)
  unfolding InWork
  still_works e n q k true is work = absurd cc
  still_works e n q k false is work =
      (λ z. let t : true ≡ false = sym (both e n s.epoch s.ran z.1 z.2) ∙ is in cc, i.work k work)

  pub settled_account : (e n q : ℕ) → IsAccount (Settled d e n q ∷ past) d (settled s e n)
  settled_account e n q = let x = Settled d e n q in record {
    epoch = epoch_same d x past tt ∙ i.epoch;
    holder = holder_same d x past tt ∙ i.holder;
    granted = λ held. inr (i.granted held);
    learned = λ me f. learned_same me d f x past tt ∙ i.learned me f;
    once = λ me f a. i.once me f (learned_stood me d f x past tt a);
    let_go = λ gone. inr (i.let_go gone);
    mode = λ p at held. mode_same (Domain p) d s.epoch x past tt ∙ i.mode p at held;
    orders = λ o m is. orders_same o d s.epoch m x past tt ∙ i.orders o m is;
    unordered = λ o f m above. orders_same o d f m x past tt ∙ i.unordered o f m above;
    runs = runs_same d s.epoch x past tt ∙ i.runs;
    unrun = λ f above. runs_same d f x past tt ∙ i.unrun f above;
    behind = λ f m k a. i.behind f m k (ran_stood d f m k x past tt a);
    work = λ k is. still_works e n q k (e == s.epoch && n == s.ran) refl is;
  }
