-- A step put together from what its parts hand out.
use Rattle.std.proofs.Common.{ℕ, ◌≡◌, ◌≤◌, length, arith, Bool, true, false, List, [], ◌∷◌, ◌++◌, Option}
use Rattle.std.proofs.Common.{Some, None, refl, sym, ap, subst, ◌∙◌, append_assoc, append-nil}
use Rattle.std.specs.Prelude.{◌==◌, ◌&&◌, if◌then◌else◌, nat_lt, not}
use Rattle.std.specs.Option.{option_or}
use Rattle.std.specs.List.{flat_map}
use Rattle.std.specs.Prelude.{Result, Ok, Err, OnErr, OnOk}
use Rattle.smi_grant.specs.Keeper.{admits, drop_after, take_after}
use Rattle.smi_grant.specs.declared.Holder.{Holder}
use Rattle.smi_grant.specs.declared.Verdict.{Verdict}
use Rattle.smi_grant.specs.declared.Verdict.TheVariants.{New, Same}
use Rattle.smi_grant.specs.declared.Command.{Command}
use Rattle.smi_grant.specs.declared.Command.TheVariants.{Do, Include, Exclude, Manual, Ignore}
use Rattle.smi_grant.specs.declared.Shown.{Shown}
use Rattle.smi_message.specs.Message.{Message}
use Rattle.smi_message.specs.declared.Body.{Body}
use Rattle.smi_message.specs.declared.Body.TheVariants as body
use Rattle.smi_tree.specs.Hierarchy.{Hierarchy}
use Rattle.smi_tree.specs.Lookups.{accepts, parent_of}
use Rattle.smi_publish.specs.declared.condition.Condition.{Condition}
use Rattle.smi_publish.specs.Publishing.{acted, evaluated}
use Rattle.smi_view.specs.declared.Acceptance.{Acceptance}
use Rattle.smi_view.specs.declared.Acceptance.TheVariants.{Accepted, OtherBoot, NotNewer}
use Rattle.smi_protocol.specs.Display.{Display, Station}
use Rattle.smi_protocol.specs.Grants.{Grants}
use Rattle.smi_protocol.specs.GrantStep.{GrantStep, waits_for_children}
use Rattle.smi_protocol.specs.Children.{own_code}
use Rattle.smi_protocol.specs.Keeping.{answered, commanded, decided, drop_comes, ran, run_comes, take_comes}
use Rattle.smi_protocol.specs.declared.entry.Entry.{Entry}
use Rattle.smi_protocol.specs.Showing.{Member, domain_of_body, followed, is_spent, members_of, moved_by_body}
use Rattle.smi_protocol.specs.Showing.{moved_by_command, same_members, shown_to_all}
use Rattle.smi_protocol.specs.Step.{Out, body_noticed, conditions_by, nothing_out, put_together}
use Rattle.smi_protocol.specs.Watching.{Notice, is_watched, noticed, showed_if, told_state, unnoticed}
use Rattle.smi_view.specs.Accepting.{acceptance}
use Rattle.smi_protocol.specs.declared.order.Answer.{Answer}
use Rattle.smi_protocol.specs.declared.order.Mark.{Mark}
use Rattle.smi_station_output.specs.Out.{answered_after, kept_after, sent_after, with_notice}
use Rattle.smi_station_output.proofs.Sending.{sent_first, sent_twice}
use Rattle.smi_station_decide.specs.Handing.{with_step}
use Rattle.smi_station_display.specs.Members.{are_same, followed_by, listed_of, same_numbers}
use Rattle.smi_station.specs.Stirring.{acted_by, action_by, action_of, members_in, stirred}

-- What is handed out.

answered_first : (before more : List Answer) → answered_after before more ≡ before ++ more
answered_first before [] = sym (append-nil before)
answered_first before (a ∷ more) = answered_first (before ++ a ∷ []) more ∙ append_assoc before (a ∷ []) more

kept_first : (es : List Entry) → kept_after es [] ≡ es
kept_first [] = refl
kept_first (e ∷ more) = refl

or_none : {X : Type 0} (o : Option X) → option_or o None ≡ o
or_none None = refl
or_none (Some x) = refl

-- the parts of a step, handed out one after the other, are what the step hands out
pub parts_together : (h : Hierarchy) (number : ℕ) (s : Station) (g : GrantStep) (n : Notice)
    (conditions : ℕ → Option Condition) (passed : List Shown) (sends : List Message) (stirred : List Shown)
    → sends ≡ flat_map (shown_to_all h number n.display.watchers) passed → stirred ≡ passed
    → record (with_notice (with_step nothing_out g) n) {
      datagrams = sent_after
          (with_notice (with_step nothing_out g) n).datagrams sends;
      passed = stirred;
    } ≡ (put_together h number s g n conditions passed).out
parts_together h number s g n conditions passed sends stirred is passes =
    ap (λ (xs : List Message). record {
      datagrams = xs;
      answers = answered_after (answered_after [] g.answers) n.answers;
      issued = option_or g.issued None;
      shown = option_or n.showed None;
      kept = kept_after g.entries [];
      passed = stirred;
    }) datagrams
    ∙ ap (λ (xs : List Answer). record {
      datagrams = all;
      answers = xs;
      issued = option_or g.issued None;
      shown = option_or n.showed None;
      kept = kept_after g.entries [];
      passed = stirred;
    }) answers
    ∙ ap (λ (o : Option Mark). record {
      datagrams = all;
      answers = g.answers ++ n.answers;
      issued = o;
      shown = option_or n.showed None;
      kept = kept_after g.entries [];
      passed = stirred;
    }) (or_none g.issued)
    ∙ ap (λ (o : Option Shown). record {
      datagrams = all;
      answers = g.answers ++ n.answers;
      issued = g.issued;
      shown = o;
      kept = kept_after g.entries [];
      passed = stirred;
    }) (or_none n.showed)
    ∙ ap (λ (es : List Entry). record {
      datagrams = all;
      answers = g.answers ++ n.answers;
      issued = g.issued;
      shown = n.showed;
      kept = es;
      passed = stirred;
    }) (kept_first g.entries)
    ∙ ap (λ (xs : List Shown). record {
      datagrams = all;
      answers = g.answers ++ n.answers;
      issued = g.issued;
      shown = n.showed;
      kept = g.entries;
      passed = xs;
    }) passes
  where
    shows : List Message
    shows = flat_map (shown_to_all h number n.display.watchers) passed

    all : List Message
    all = (put_together h number s g n conditions passed).out.datagrams

    datagrams : sent_after (sent_after (sent_after [] g.sends) n.sends) sends ≡ all
    datagrams =
        ap (sent_after (sent_after (sent_after [] g.sends) n.sends)) is
        ∙ ap (λ (xs : List Message). sent_after xs shows) (sent_twice [] g.sends n.sends)
        ∙ sent_twice [] (g.sends ++ n.sends) shows
        ∙ sent_first ((g.sends ++ n.sends) ++ shows)

    answers : answered_after (answered_after [] g.answers) n.answers ≡ g.answers ++ n.answers
    answers = answered_first (answered_after [] g.answers) n.answers
        ∙ ap (λ (xs : List Answer). xs ++ n.answers) (answered_first [] g.answers)

-- the station that it makes
pub station_together : (h : Hierarchy) (number : ℕ) (s : Station) (g : GrantStep) (n : Notice)
    (conditions : ℕ → Option Condition) (passed : List Shown) (grants : Grants) (display : Display) (stopped : Bool)
    → grants ≡ g.grants → display ≡ record n.display { conditions = conditions } → stopped ≡ is_spent passed
    → record { grants = grants; display = display; is_stopped = stopped }
    ≡ (put_together h number s g n conditions passed).station
station_together h number s g n conditions passed grants display stopped a b c =
    ap (λ (x : Grants). record { grants = x; display = display; is_stopped = stopped }) a
    ∙ ap (λ (x : Display). record { grants = g.grants; display = x; is_stopped = stopped }) b
    ∙ ap (λ x. record { grants = g.grants; display = record n.display { conditions = conditions }; is_stopped = x }) c

-- Members.

and_swapped : (p a q b : Bool) → ((p && a) && (q && b)) ≡ (p && (q && (a && b)))
and_swapped false a q b = refl
and_swapped true false false b = refl
and_swapped true true false b = refl
and_swapped true false true b = refl
and_swapped true true true b = refl

listed_same : (a b : List Member) → are_same (listed_of a) (listed_of b) ≡ same_members a b
listed_same [] [] = refl
listed_same [] (y ∷ b) = refl
listed_same (x ∷ a) [] = refl
listed_same (x ∷ a) (y ∷ b) =
    and_swapped (x.object == y.object) (same_numbers (listed_of a).objects (listed_of b).objects)
    (x.state == y.state) (same_numbers (listed_of a).states (listed_of b).states)
    ∙ ap (λ z. x.object == y.object && (x.state == y.state && z)) (listed_same a b)

pub listed_follows : (h : Hierarchy) (a b : List Member) (conditions : ℕ → Option Condition) (d : ℕ)
    → followed_by h (listed_of a) (listed_of b) conditions d ≡ followed h a b conditions d
listed_follows h a b conditions d = ap (λ z. if z then conditions else evaluated h conditions d (listed_of b).states)
    (listed_same a b)

-- Datagrams.

module _ (h : Hierarchy) (number boot : ℕ) (s : Display) (from : ℕ) where
  kept_if : (b : Bool) (m n : Notice) → m.display.conditions ≡ s.conditions → n.display.conditions ≡ s.conditions
      → (if b then m else n).display.conditions ≡ s.conditions
  kept_if true m n a b = a
  kept_if false m n a b = b

  showed_stays : (state : Shown) (a : Acceptance) → (showed_if s state a).display.conditions ≡ s.conditions
  showed_stays state Accepted = refl
  showed_stays state OtherBoot = refl
  showed_stays state NotNewer = refl

  -- what a datagram tells leaves the states of the station's own objects alone
  pub notice_stays : (b : Body) → (body_noticed h number boot s from b).display.conditions ≡ s.conditions
  notice_stays (body.Ask d) = refl
  notice_stays (body.Take d who seen) = refl
  notice_stays (body.Drop d who e) = refl
  notice_stays (body.Run d who e n c) = refl
  notice_stays (body.Tell d r) = refl
  notice_stays (body.Watch x echo) = kept_if (nat_lt echo (s.echoes from)) (unnoticed s) (noticed _ _ _) refl refl
  notice_stays (body.State x echo v state) =
      kept_if (not (echo == boot)) (unnoticed s) _ refl
      (kept_if (is_watched h number s x) _ (noticed s _ [])
      (showed_stays (told_state x v state) (acceptance boot (s.shown x) echo v)) refl)
  notice_stays (body.Unwatch x echo) = refl

-- What a station has at hand results in what is defined.

module _ (h : Hierarchy) (s : Station) (grants : Grants) (display : Display)
    (same : display.conditions ≡ s.display.conditions) where
  stirred_by : (o action : Option ℕ) (moved : ℕ → Option Condition)
      → ((d : ℕ) → o ≡ Some d → acted_by h display.conditions d action ≡ moved)
      → (o ≡ None → display.conditions ≡ moved)
      → stirred h grants display (members_in h s.grants s.display o) action o ≡ conditions_by h s grants display moved o
  stirred_by None action moved some none = none refl
  stirred_by (Some d) action moved some none =
      ap (λ (cs : ℕ → Option Condition). followed_by h (members_in h s.grants s.display (Some d))
      (listed_of (members_of h grants cs display.shown d)) cs d) (some d refl)
      ∙ listed_follows h (members_of h s.grants s.display.conditions s.display.shown d)
      (members_of h grants moved display.shown d) moved d

  acted_is : (d : ℕ) (c : Command) → acted_by h display.conditions d (action_by h d c)
      ≡ moved_by_command h s.display.conditions d c
  acted_is d (Do a) = by (accepts h d a)
    where
      by : (b : Bool) → acted_by h display.conditions d (if b then Some a else None)
          ≡ (if b then acted h s.display.conditions d a else s.display.conditions)
      by true = ap (λ (cs : ℕ → Option Condition). acted h cs d a) same
      by false = same
  acted_is d (Include t) = same
  acted_is d (Exclude t) = same
  acted_is d (Manual t) = same
  acted_is d (Ignore t) = same

  ran_is : (d : ℕ) (c : Command) (b : Bool) → acted_by h display.conditions d (if b then action_by h d c else None)
      ≡ (if b then moved_by_command h s.display.conditions d c else s.display.conditions)
  ran_is d c true = acted_is d c
  ran_is d c false = same

  -- the states of the objects after a datagram
  pub body_stirs : (b : Body) → stirred h grants display (members_in h s.grants s.display (domain_of_body h b))
      (action_of h s.grants b) (domain_of_body h b)
      ≡ conditions_by h s grants display (moved_by_body h s.grants s.display.conditions b) (domain_of_body h b)
  body_stirs (body.Ask d) = same
  body_stirs (body.Take d who seen) = same
  body_stirs (body.Drop d who e) = same
  body_stirs (body.Run d who e n c) = stirred_by (Some d) (action_of h s.grants (body.Run d who e n c))
      (moved_by_body h s.grants s.display.conditions (body.Run d who e n c))
      (λ x is. let here : d ≡ x = cc in
      subst (λ y. acted_by h display.conditions y (action_of h s.grants (body.Run d who e n c))
      ≡ moved_by_body h s.grants s.display.conditions (body.Run d who e n c)) here
      (ran_is d c (admits (s.grants.records d) who e n))) (λ is. absurd cc)
  body_stirs (body.Tell d r) = stirred_by (parent_of h d) None s.display.conditions (λ x is. same) (λ is. same)
  body_stirs (body.Watch x echo) = same
  body_stirs (body.State x echo v state) = stirred_by (parent_of h x) None s.display.conditions (λ x is. same)
      (λ is. same)
  body_stirs (body.Unwatch x echo) = same

-- Keepers answer no operator.

module _ (h : Hierarchy) (number : ℕ) (g : Grants) (from d : ℕ) where
  decided_answers : (note : Entry) (v : Verdict)
      → length (with_step nothing_out (decided h number g from d note v)).answers ≤ 8
  decided_answers note (New r) = omega arith
  decided_answers note Same = omega arith

  pub take_answers : (who : Holder) (seen : ℕ)
      → length (with_step nothing_out (take_comes h number g from d who seen)).answers ≤ 8
  take_answers who seen = decided_answers _ (take_after (g.records d) who seen)

  pub drop_answers : (who : Holder) (e : ℕ)
      → length (with_step nothing_out (drop_comes h number g from d who e)).answers ≤ 8
  drop_answers who e = decided_answers _ (drop_after (g.records d) who e)

  pub run_answers : (who : Holder) (e n : ℕ) (c : Command)
      → length (with_step nothing_out (run_comes h number g from d who e n c)).answers ≤ 8
  run_answers who e n c = by (admits (g.records d) who e n)
    where
      by : (b : Bool)
          → length (with_step nothing_out (if b then ran h number g from d e n c
          (waits_for_children h (commanded h g d c) d) (own_code h g d c) else answered h number g from d)).answers ≤ 8
      by true = omega arith
      by false = omega arith

-- few answers, whether a plan was made or not
pub few_by : {X Y : Type 0} (r : Result X Y) (a b o : Out) → OnOk r (o ≡ a) → OnErr r (o ≡ b) → length a.answers ≤ 8
    → length b.answers ≤ 8 → length o.answers ≤ 8
few_by (Ok x) a b o is left made none = subst (λ (z : Out). length z.answers ≤ 8) (sym is) made
few_by (Err x) a b o is left made none = subst (λ (z : Out). length z.answers ≤ 8) (sym left) none
