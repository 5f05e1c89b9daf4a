-- What a told record does to grants: a take is granted, or every link holds what it held.
use Rattle.std.proofs.Common.{ℕ, suc, ◌≡◌, ◌≤◌, ◌+◌, ◌-◌, Bool, true, false, List, [], ◌∷◌, inl, inr, refl, sym, ap}
use Rattle.std.proofs.Common.{◌∙◌, subst, arith}
use Rattle.std.specs.Prelude.{◌==◌, ◌++◌, Option, Some, None, map, find, slice_get, unwrap_or, if◌then◌else◌}
use Rattle.std.proofs.lemmas.Bool.{eqb-true}
use Rattle.std.proofs.lemmas.Bool.Decides.{nat_tests}
use Rattle.smi_grant.specs.declared.Command.{Command}
use Rattle.smi_grant.specs.declared.Holder.{Holder}
use Rattle.smi_grant.specs.declared.Holder.TheVariants.{Free, Operator, Domain}
use Rattle.smi_grant.specs.Holder.{is_free}
use Rattle.smi_grant.specs.Keeper.{settled}
use Rattle.smi_grant.specs.Record.{Standing, last_epoch}
use Rattle.smi_tree.specs.Hierarchy.{Hierarchy, entry}
use Rattle.smi_tree.specs.Lookups.{numbers_from, operators_of, parent_of}
use Rattle.smi_command.specs.declared.Link.{Link}
use Rattle.smi_command.specs.declared.Link.TheVariants.{Out, Taking, Held, Dropping}
use Rattle.smi_command.specs.Hearing.{told_link}
use Rattle.smi_command.specs.Link.{known}
use Rattle.smi_command.proofs.Epochs.{known_told}
use Rattle.smi_command.proofs.Facts.{LinkOk}
use Rattle.smi_command.proofs.Heard.{by_row_taking, by_row_held, by_row_dropping}
use Rattle.smi_grant.proofs.Holders.{either}
use Rattle.smi_protocol.specs.Grants.{Grants, put_link}
use Rattle.smi_protocol.specs.Hearing.{parent_here, listeners, hears, listener, learned, operator_told, parent_heard}
use Rattle.smi_protocol.specs.Hearing.{ends, ended, ended_entries, told_to}
use Rattle.smi_tree.specs.Roles.{is_keeper}
use Rattle.smi_protocol.specs.declared.Entry.{Entry}
use Rattle.smi_law.specs.Known.{holder_home, record_in, link_in}
use Rattle.smi_protocol.specs.Schedule.{World}
use Rattle.smi_law.proofs.Changes.{SameGrant, same_grant, SameLink, same_link}
use Rattle.smi_law.proofs.GrantKinds.{GrantKind, silently, learning, SameRecords}
use Rattle.smi_law.proofs.Moves.{at_put, at_put_link, put_link_here}
use Rattle.smi_law.proofs.Quiet.{AllQuiet, quiet_both}
use Rattle.smi_law.proofs.Traces.{holds_at}
use Rattle.smi_law.proofs.Viewed.{Viewed, keeper_home, view_fits}

-- One link.

-- it is granted, or holds what it held
pub data ToldKind (who : Holder) (d : ℕ) (l new : Link) : Type 0 where
  learns : (s : ℕ) → l ≡ Taking s → new ≡ Held (s + 1) 0 [] → ToldKind who d l new
  remains : SameLink l new → AllQuiet (learned who d l new) → ToldKind who d l new

no_less : (l new : Link) → ((e : ℕ) → holds_at new e ≡ holds_at l e) → ((e : ℕ) → new ≡ Dropping e → l ≡ Dropping e)
    → known l ≤ known new → SameLink l new
no_less l new held dropping k = record { held = held; known = k; dropping = dropping }

module _ (who : Holder) (d : ℕ) (r : Standing) where
  taking_told : (s : ℕ) → known (Taking s) ≤ known (told_link (Taking s) who r)
      → ToldKind who d (Taking s) (told_link (Taking s) who r)
  taking_told s = by_row_taking (λ l m. known l ≤ known m → ToldKind who d l m) who r s
      (λ e mine k. learns s refl refl)
      (λ free e k. remains (no_less (Taking s) (Out last_epoch) (λ f. refl) (λ f i. absurd cc) k) tt)
      (λ free less k. remains (no_less (Taking s) (Taking r.epoch) (λ f. refl) (λ f i. absurd cc) k) tt)
      (λ held other less k. remains (no_less (Taking s) (Out r.epoch) (λ f. refl) (λ f i. absurd cc) k) tt)
      (λ k. remains (same_link (Taking s)) tt)

  held_told : (e n : ℕ) (p : List Command) → ToldKind who d (Held e n p) (told_link (Held e n p) who r)
  held_told e n p = by_row_held (λ l m. ToldKind who d l m) who r e n p
      (λ at. remains (record { held = λ f. refl; known = omega arith; dropping = λ f i. absurd cc }) tt)
      (remains (same_link (Held e n p)) tt)

  dropping_told : (e : ℕ) → ToldKind who d (Dropping e) (told_link (Dropping e) who r)
  dropping_told e = by_row_dropping (λ l m. ToldKind who d l m) who r e
      (λ less. remains (record { held = λ f. refl; known = omega arith; dropping = λ f i. absurd cc }) tt)
      (remains (same_link (Dropping e)) tt)

  pub told_kind : (l : Link) → known l ≤ last_epoch → ToldKind who d l (told_link l who r)
  told_kind (Out k) within = remains (same_link (Out k)) tt
  told_kind (Taking s) within = taking_told s (known_told (Taking s) who r within)
  told_kind (Held e n p) within = held_told e n p
  told_kind (Dropping e) within = dropping_told e

-- a holder's link is within the epochs
link_within : (r : Standing) (who : Holder) (l : Link) → LinkOk r who l → known l ≤ r.epoch
link_within r who (Out k) o = o.0
link_within r who (Taking s) o = o.0
link_within r who (Held e n p) o = omega (arith, o.0)
link_within r who (Dropping e) o = o.0

pub within_epochs : (h : Hierarchy) (w : World) (number : ℕ) (who : Holder) (d : ℕ) → is_free who ≡ false
    → holder_home h who ≡ number → Viewed h w → known ((w.stations number).grants.links who d) ≤ last_epoch
within_epochs h w number who d party e v =
    let f = view_fits h w d who party (v.each d who) in
    let a : known (link_in h w who d) ≤ (record_in h w d).epoch = link_within (record_in h w d) who
    (link_in h w who d) f.link in
    let b = f.lawful.epoch in
    let c : known (link_in h w who d) ≤ last_epoch = omega (arith, a, b) in
    subst (λ z. known ((w.stations z).grants.links who d) ≤ last_epoch) e c

-- Whose link it is.

-- somebody whose station this is
pub record IsHere (h : Hierarchy) (number : ℕ) (who : Holder) : Type 0 where
  pub party : is_free who ≡ false
  pub home : holder_home h who ≡ number

abbrev pub AllOf : {X : Type 0} → (X → Type 0) → List X → Type 0
AllOf P [] = Unit {0}
AllOf P (x ∷ xs) = P x × AllOf P xs

pub all_both : {X : Type 0} (P : X → Type 0) (xs ys : List X) → AllOf P xs → AllOf P ys → AllOf P (xs ++ ys)
all_both P [] ys a b = b
all_both P (x ∷ xs) ys a b = (a.0, all_both P xs ys a.1 b)

pub all_map : {X Y : Type 0} (P : Y → Type 0) (f : X → Y) (xs : List X) → AllOf (λ x. P (f x)) xs → AllOf P (map f xs)
all_map P f [] a = tt
all_map P f (x ∷ xs) a = (a.0, all_map P f xs a.1)

pub all_found : {X : Type 0} (P : X → Type 0) (test : X → Bool) (xs : List X) (y : X) → AllOf P xs
    → find test xs ≡ Some y → P y
all_found P test [] y a is = absurd cc
all_found P test (x ∷ xs) y a is = elim (either (test x)) [
  | inl t ↦
      let same : Some x ≡ Some y = sym (ap (λ b. if b then Some x else find test xs) t) ∙ is in
      let i : x ≡ y = cc in
      subst P i a.0
  | inr f ↦ all_found P test xs y a.1 (sym (ap (λ b. if b then Some x else find test xs) f) ∙ is)
]

pub all_numbers : {X : Type 0} (P : ℕ → Type 0) (test : X → Bool) (rows : List X) (k : ℕ)
    → ((j : ℕ) (row : X) → slice_get rows j ≡ Some row → test row ≡ true → P (j + k))
    → AllOf P (numbers_from test k rows)
all_numbers {X = X} P test [] k each = tt
all_numbers {X = X} P test (row ∷ rows) k each = elim (either (test row)) [
  | inl t ↦ rw t (subst P (none k) (each 0 row refl t), all_numbers P test rows (k + 1) later)
  | inr f ↦ rw f (all_numbers P test rows (k + 1) later)
]
  where
    none : (n : ℕ) → 0 + n ≡ n
    none n = omega arith

    moved : (j : ℕ) → suc j + k ≡ j + (k + 1)
    moved j = omega arith

    later : (j : ℕ) (other : X) → slice_get rows j ≡ Some other → test other ≡ true → P (j + (k + 1))
    later j other is t = subst P (moved j) (each (suc j) other is t)

pub entry_next : (rows : List ℕ) (j : ℕ) → entry rows (j + 1) ≡ slice_get rows j
entry_next rows j = rw (later j) (ap (slice_get rows) (back j))
  where
    later : (j : ℕ) → (j + 1 == 0) ≡ false
    later j = grind (arith, nat_tests)

    back : (j : ℕ) → j + 1 - 1 ≡ j
    back j = omega arith

operators_here : (h : Hierarchy) (number : ℕ) → AllOf (λ o. IsHere h number (Operator o)) (operators_of h number)
operators_here h number = all_numbers (λ o. IsHere h number (Operator o)) (λ station. station == number) h.homes 1
    (λ j station is t. record { party = refl; home = at j station is t })
  where
    at : (j station : ℕ) → slice_get h.homes j ≡ Some station → (station == number) ≡ true
        → holder_home h (Operator (j + 1)) ≡ number
    at j station is t = ap (λ o. unwrap_or o 0) (entry_next h.homes j ∙ is) ∙ eqb-true station number t

pub listeners_here : (h : Hierarchy) (number d : ℕ) → AllOf (IsHere h number) (listeners h number d)
listeners_here h number d =
    all_both (IsHere h number) (map Operator (operators_of h number)) _
    (all_map (IsHere h number) Operator (operators_of h number) (operators_here h number))
    (parent (parent_of h d))
  where
    parent : (o : Option ℕ) → AllOf (IsHere h number) (parent_here h number o)
    parent None = tt
    parent (Some p) = elim (either (is_keeper h number p)) [
      | inl t ↦ rw t (record { party = refl; home = keeper_home _ number t }, tt)
      | inr f ↦ rw f tt
    ]

-- What the station does with it.

-- the grants after one link was told, with quiet entries after
relinked_kind : (h : Hierarchy) (w : World) (number : ℕ) (who : Holder) (d : ℕ) (r : Standing) (k : Grants)
    (more : List Entry) → IsHere h number who → Viewed h w → SameRecords (w.stations number).grants k → AllQuiet more
    → k.links ≡ put_link (w.stations number).grants.links who d
    (told_link ((w.stations number).grants.links who d) who r)
    → GrantKind h number w.sent (w.stations number).grants k
    (learned who d ((w.stations number).grants.links who d)
    (told_link ((w.stations number).grants.links who d) who r) ++ more)
relinked_kind h w number who d r k more here v records quiet is =
    kind (told_kind who d r old (within_epochs h w number who d here.party here.home v))
  where
    g : Grants
    g = (w.stations number).grants

    old : Link
    old = g.links who d

    new : Link
    new = told_link old who r

    at : k.links who d ≡ new
    at = ap (λ (z : Holder → ℕ → Link). z who d) is ∙ put_link_here g.links who d new

    others : (me : Holder) (x : ℕ) → (me ≡ who → x ≡ d → ⊥) → SameLink (g.links me x) (k.links me x)
    others me x o = subst (λ (z : Holder → ℕ → Link). SameLink (g.links me x) (z me x)) (sym is)
        (at_put_link (λ z. SameLink (g.links me x) z) g.links who d new me x (λ i j. absurd (o j i))
        (same_link (g.links me x)))

    every : SameLink old new → (me : Holder) (x : ℕ) → SameLink (g.links me x) (k.links me x)
    every same me x = subst (λ (z : Holder → ℕ → Link). SameLink (g.links me x) (z me x)) (sym is)
        (at_put_link (λ z. SameLink (g.links me x) z) g.links who d new me x
        (λ i j. subst (λ z. SameLink (g.links z x) new) (sym j)
        (subst (λ z. SameLink (g.links who z) new) (sym i) same))
        (same_link (g.links me x)))

    kind : ToldKind who d old new → GrantKind h number w.sent g k (learned who d old new ++ more)
    kind (learns s was becomes) =
        subst (λ z. GrantKind h number w.sent g k (learned who d z new ++ more)) (sym was)
        (subst (λ z. GrantKind h number w.sent g k (learned who d (Taking s) z ++ more)) (sym becomes)
        (learning who d s more here.party here.home was (at ∙ becomes) others records quiet))
    kind (remains same calm) = silently (learned who d old new ++ more)
        (quiet_both (learned who d old new) more calm quiet) records (every same)

ended_records : (b : Bool) (on : Grants) (p : ℕ) (d : ℕ) → SameGrant (on.records d) ((ended b on p).records d)
ended_records true on p d = at_put (λ z. SameGrant (on.records d) z) on.records p
    (settled (on.records p) (on.gathered p)) d
    (λ i. subst (λ z. SameGrant (on.records z) (settled (on.records p) (on.gathered p))) (sym i)
    (record { epoch = refl; holder = refl })) (same_grant (on.records d))
ended_records false on p d = same_grant (on.records d)

ended_quiet : (b : Bool) (on : Grants) (p : ℕ) → AllQuiet (ended_entries b on p)
ended_quiet true on p = (tt, tt)
ended_quiet false on p = tt

ended_links : (b : Bool) (on : Grants) (p : ℕ) → (ended b on p).links ≡ on.links
ended_links true on p = refl
ended_links false on p = refl

told_to_kind : (h : Hierarchy) (w : World) (number d : ℕ) (r : Standing) → Viewed h w → (o : Option Holder)
    → ((who : Holder) → o ≡ Some who → IsHere h number who)
    → GrantKind h number w.sent (w.stations number).grants (told_to h number (w.stations number).grants d r o).grants
    (told_to h number (w.stations number).grants d r o).entries
told_to_kind h w number d r v None here = silently [] tt (λ x. same_grant _) (λ me x. same_link _)
told_to_kind h w number d r v (Some Free) here = let f : true ≡ false = (here Free refl).party in absurd cc
told_to_kind h w number d r v (Some (Operator o)) here =
    subst (λ z. GrantKind h number w.sent (w.stations number).grants
    (operator_told h number (w.stations number).grants o d r).grants z) (plain _)
    (relinked_kind h w number (Operator o) d r (operator_told h number (w.stations number).grants o d r).grants []
    (here (Operator o) refl) v (λ x. same_grant _) tt refl)
  where
    plain : (xs : List Entry) → xs ++ [] ≡ xs
    plain [] = refl
    plain (x ∷ xs) = ap (λ z. x ∷ z) (plain xs)
told_to_kind h w number d r v (Some (Domain p)) here =
    let on = parent_heard (w.stations number).grants p d r in
    let b = ends h on p in
    subst (λ z. GrantKind h number w.sent (w.stations number).grants (ended b on p)
    (learned (Domain p) d ((w.stations number).grants.links (Domain p) d) z ++ ended_entries b on p))
    (sym (put_link_here (w.stations number).grants.links (Domain p) d
    (told_link ((w.stations number).grants.links (Domain p) d) (Domain p) r)))
    (relinked_kind h w number (Domain p) d r (ended b on p) (ended_entries b on p) (here (Domain p) refl) v
    (ended_records b on p) (ended_quiet b on p) (ended_links b on p))

pub hearing_kind : (h : Hierarchy) (w : World) (number d : ℕ) (r : Standing) → Viewed h w
    → GrantKind h number w.sent (w.stations number).grants
    (told_to h number (w.stations number).grants d r (listener h number (w.stations number).grants d r)).grants
    (told_to h number (w.stations number).grants d r (listener h number (w.stations number).grants d r)).entries
hearing_kind h w number d r v =
    told_to_kind h w number d r v (listener h number (w.stations number).grants d r)
    (λ who is. all_found (IsHere h number) (λ who'. hears ((w.stations number).grants.links who' d) who' r)
    (listeners h number d) who (listeners_here h number d) is)
