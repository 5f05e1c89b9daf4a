-- What was issued and what ran, and how the link and the record relate to it.
use Rattle.std.proofs.Common.{ℕ, ◌≡◌, ◌≤◌, ◌<◌, ◌+◌, Bool, true, false, List, [], ◌∷◌, ◌++◌, length, inl, inr, refl}
use Rattle.std.proofs.Common.{sym, ap, ap₂, ◌∙◌, arith}
use Rattle.std.specs.Prelude.{◌==◌, ◌&&◌, nat_lt}
use Rattle.std.proofs.lemmas.Bool.{and_parts, eqb-true}
use Rattle.std.proofs.lemmas.Bool.Decides.{nat_tests}
use Rattle.smi_grant.specs.declared.command.Command.{Command}
use Rattle.smi_grant.specs.declared.holder.Holder.{Holder}
use Rattle.smi_grant.specs.declared.holder.Holder.TheVariants.{Free}
use Rattle.smi_grant.specs.Holder.{is_free, same_holder}
use Rattle.smi_grant.specs.Keeper.{handed, started, settled, admits}
use Rattle.smi_grant.specs.Record.{Standing, fresh, is_settled, last_epoch}
use Rattle.smi_command.specs.KnownGrant.{Waits}
use Rattle.smi_command.specs.declared.link.Due.{Due}
use Rattle.smi_command.specs.declared.link.Due.TheVariants.{Take, Drop, Run}
use Rattle.smi_command.specs.declared.link.Link.{Link}
use Rattle.smi_command.specs.declared.link.Link.TheVariants.{Out, Held}
use Rattle.smi_command.specs.Link.{known}
use Rattle.smi_command.specs.OneLink.{Job, job, asked_record, asked_ran, runs_under, RunsInOrder, issued_under}
use Rattle.smi_command.specs.OneLink.{RanAsIssued}
use Rattle.smi_command.proofs.Asked.{Admitted, admitted}
use Rattle.smi_command.proofs.Heard.{Quiet}
use Rattle.smi_grant.proofs.Holders.{either}
use Rattle.smi_command.proofs.Waiting.{waited_or_new, waiting_number}

-- what was issued is under numbers up to the link's newest; of each command that waits nothing else
-- was issued under its number
pub record Logged (l : Link) (issued : List Job) : Type 0 where
  pub beyond : (e n : ℕ) → known l < e → issued_under e n issued ≡ []
  pub next : (e m : ℕ) (p : List Command) → l ≡ Held e m p → (n : ℕ) → m < n → issued_under e n issued ≡ []
  pub now : (e n : ℕ) (c : Command) → Waits l e n c → issued_under e n issued ≡ c ∷ []

pub logged_first : Logged (Out 0) []
logged_first = record {
  beyond = λ e n b. refl;
  next = λ e m p is n b. refl;
  now = λ e n c w. let is = w.is in
      absurd cc;
}

-- the link goes on, and nothing is issued
pub logged_quiet : (l l' : Link) (issued : List Job) → known l ≤ known l' → Quiet l l' → Logged l issued
    → Logged l' issued
logged_quiet l l' issued further q g = record {
  beyond = λ e n b. g.beyond e n (omega arith);
  next = λ e m p is n b. elim (q.held e m p is) [ inl old ↦ g.next e m old.0 old.1 n b | inr new ↦ g.beyond e n new ];
  now = λ e n c w. g.now e n c (q.waits e n c w);
}

-- one more command is issued
under_same : (h : Holder) (e n : ℕ) (c : Command) (f m : ℕ) (issued : List Job) → e ≡ f → n ≡ m
    → issued_under f m (job h e n c ∷ issued) ≡ c ∷ issued_under f m issued
under_same h e n c f m issued a b =
    let t : (e == f && n == m) ≡ true = grind (arith, nat_tests) in
    rw t refl

under_other : (h : Holder) (e n : ℕ) (c : Command) (f m : ℕ) (issued : List Job) → (e ≡ f → n ≡ m → ⊥)
    → issued_under f m (job h e n c ∷ issued) ≡ issued_under f m issued
under_other h e n c f m issued other = elim (either (e == f && n == m)) [
  | inl t ↦ let a = and_parts (e == f) _ t in absurd (other (eqb-true _ _ a.0) (eqb-true _ _ a.1))
  | inr t ↦ rw t refl
]

pub logged_issue : (h : Holder) (e n : ℕ) (p : List Command) (c : Command) (issued : List Job) → length p ≤ n
    → Logged (Held e n p) issued → Logged (Held e (n + 1) (p ++ c ∷ [])) (job h e (n + 1) c ∷ issued)
logged_issue h e n p c issued counted g = record {
  beyond = λ f m b. under_other h e (n + 1) c f m issued (λ a b'. omega arith) ∙ g.beyond f m b;
  next = λ f m p' is k b.
      let a : e ≡ f = cc in
      let b' : n + 1 ≡ m = cc in
      under_other h e (n + 1) c f k issued (λ x y. omega arith) ∙ g.next f n p (ap (λ z. Held z n p) a) k (omega arith);
  now = λ f m d w. elim (waited_or_new e n p c f m d counted w) [
    | inl old ↦ let low = waiting_number e n p f m d counted old in
        under_other h e (n + 1) c f m issued (λ a b. omega (arith, low.1)) ∙ g.now f m d old
    | inr new ↦ under_same h e (n + 1) c f m issued new.0 (sym new.1)
        ∙ ap₂ ◌∷◌ new.2 (g.next f n p (ap (λ z. Held z n p) new.0) m (omega (arith, new.1)))
  ];
}

-- the runs

pub record RunsOk (h : Holder) (r : Standing) (issued ran : List Job) : Type 0 where
  pub counted : runs_under r.epoch ran ≡ r.last
  pub none_beyond : (e : ℕ) → r.epoch < e → runs_under e ran ≡ 0
  pub in_order : RunsInOrder ran
  pub as_issued : RanAsIssued h issued ran

pub runs_first : (h : Holder) → RunsOk h fresh [] []
runs_first h = record { counted = refl; none_beyond = λ e b. refl; in_order = tt; as_issued = tt }

-- the domain changes hands
pub runs_handed : (h : Holder) (r : Standing) (g : Holder) (issued ran : List Job) → RunsOk h r issued ran
    → RunsOk h (handed r g) issued ran
runs_handed h r g issued ran o = record {
  counted = o.none_beyond (r.epoch + 1) (omega arith);
  none_beyond = λ e b. o.none_beyond e (omega arith);
  in_order = o.in_order;
  as_issued = o.as_issued;
}

pub runs_settled : (h : Holder) (r : Standing) (x : ℕ) (issued ran : List Job) → RunsOk h r issued ran
    → RunsOk h (settled r x) issued ran
runs_settled h r x issued ran o = record {
  counted = o.counted;
  none_beyond = o.none_beyond;
  in_order = o.in_order;
  as_issued = o.as_issued;
}

-- one more command runs
runs_same : (g : Holder) (e n : ℕ) (c : Command) (f : ℕ) (ran : List Job) → e ≡ f
    → runs_under f (job g e n c ∷ ran) ≡ runs_under f ran + 1
runs_same g e n c f ran a = let t : (e == f) ≡ true = grind (arith, nat_tests) in rw t refl

runs_other : (g : Holder) (e n : ℕ) (c : Command) (f : ℕ) (ran : List Job) → (e ≡ f → ⊥)
    → runs_under f (job g e n c ∷ ran) ≡ runs_under f ran
runs_other g e n c f ran other = elim (either (e == f)) [ inl t ↦ absurd (other (eqb-true _ _ t)) | inr t ↦ rw t refl ]

pub runs_started : (h : Holder) (r : Standing) (busy : Bool) (x : ℕ) (g : Holder) (e n : ℕ) (c : Command)
    (issued ran : List Job) → Admitted r g e n → (g ≡ h → issued_under e n issued ≡ c ∷ []) → RunsOk h r issued ran
    → RunsOk h (started r busy x) issued (job g e n c ∷ ran)
runs_started h r busy x g e n c issued ran a mine o = by_case busy
  where
    counts : runs_under r.epoch (job g e n c ∷ ran) ≡ r.last + 1
    counts = runs_same g e n c r.epoch ran (sym a.epoch) ∙ ap (λ k. k + 1) o.counted

    beyond : (f : ℕ) → r.epoch < f → runs_under f (job g e n c ∷ ran) ≡ 0
    beyond f b = runs_other g e n c f ran (λ i. omega (arith, a.epoch)) ∙ o.none_beyond f b

    order : n ≡ runs_under e ran + 1
    order = a.next ∙ ap (λ k. k + 1) (sym o.counted) ∙ ap (λ f. runs_under f ran + 1) a.epoch

    by_case : (b : Bool) → RunsOk h (started r b x) issued (job g e n c ∷ ran)
    by_case true = record {
      counted = counts;
      none_beyond = beyond;
      in_order = (order, o.in_order);
      as_issued = (mine, o.as_issued);
    }
    by_case false = record {
      counted = counts;
      none_beyond = beyond;
      in_order = (order, o.in_order);
      as_issued = (mine, o.as_issued);
    }

-- a holder asks
pub runs_asked : (h : Holder) (r : Standing) (g : Holder) (d : Due) (busy : Bool) (x : ℕ) (issued ran : List Job)
    → ((e n : ℕ) (c : Command) → d ≡ Run e n c → Admitted r g e n → g ≡ h → issued_under e n issued ≡ c ∷ [])
    → RunsOk h r issued ran → RunsOk h (asked_record r g d busy x) issued (asked_ran r g d ran)
runs_asked h r g (Take s) busy x issued ran mine o =
    elim (either (is_free r.holder && (r.epoch == s && nat_lt s last_epoch))) [
      | inl t ↦ rw t (runs_handed h r g issued ran o)
      | inr n ↦ rw n o
    ]
runs_asked h r g (Drop e) busy x issued ran mine o =
    elim (either (same_holder r.holder g && (r.epoch == e && is_settled r.phase))) [
      | inl t ↦ rw t (runs_handed h r Free issued ran o)
      | inr n ↦ rw n o
    ]
runs_asked h r g (Run e n c) busy x issued ran mine o = elim (either (admits r g e n)) [
  | inl t ↦ rw t (let a = admitted r g e n t in runs_started h r busy x g e n c issued ran a (mine e n c refl a) o)
  | inr n' ↦ rw n' o
]

-- one more command is issued, under a number that had none
as_issued_more : (h : Holder) (e n : ℕ) (c : Command) (issued ran : List Job) → issued_under e n issued ≡ []
    → RanAsIssued h issued ran → RanAsIssued h (job h e n c ∷ issued) ran
as_issued_more h e n c issued [] none a = tt
as_issued_more h e n c issued (j ∷ ran) none a = (
  λ mine. under_other h e n c j.epoch j.number issued (λ x y. another x y (a.0 mine)) ∙ a.0 mine,
  as_issued_more h e n c issued ran none a.1,
)
  where
    another : e ≡ j.epoch → n ≡ j.number → issued_under j.epoch j.number issued ≡ j.command ∷ [] → ⊥
    another x y one =
        let both : [] ≡ j.command ∷ [] = sym none ∙ ap (λ f. issued_under f n issued) x
        ∙ ap (λ m. issued_under j.epoch m issued) y ∙ one in
        cc

pub runs_issue : (h : Holder) (r : Standing) (e n : ℕ) (c : Command) (issued ran : List Job)
    → issued_under e n issued ≡ [] → RunsOk h r issued ran → RunsOk h r (job h e n c ∷ issued) ran
runs_issue h r e n c issued ran none o = record {
  counted = o.counted;
  none_beyond = o.none_beyond;
  in_order = o.in_order;
  as_issued = as_issued_more h e n c issued ran none o.as_issued;
}
