-- What a station sends is in the ranges of its kind.
use Rattle.std.proofs.Common.{ℕ, zero, suc, ◌≡◌, ◌≤◌, ◌<◌, ◌+◌, ◌-◌, ◌%◌, Bool, true, false, List, [], ◌∷◌, length}
use Rattle.std.proofs.Common.{Option, Some, None, refl, sym, ap, ◌∙◌, subst, arith}
use Rattle.std.specs.Prelude.{◌==◌, nat_le, slice_get, unwrap_or, option_and_then, option_map, if◌then◌else◌}
use Rattle.std.specs.List.{AllByRecursion}
use Rattle.std.proofs.lemmas.Bool.{and_from, and_parts, eqb-true, eq-eqb, leb-true}
use Rattle.std.proofs.lemmas.Bool.Decides.{nat_tests}
use Rattle.smi_base.specs.declared.trees.TheConstants.{MOST_DOMAINS, MOST_OPERATORS, MOST_STATIONS}
use Rattle.smi_grant.specs.declared.Command.{Command}
use Rattle.smi_grant.specs.declared.Holder.{Holder}
use Rattle.smi_grant.specs.declared.Holder.TheVariants.{Free, Operator, Domain}
use Rattle.smi_grant.specs.Holder as holder
use Rattle.smi_grant.specs.Holder.{is_free}
use Rattle.smi_grant.specs.Record.{Standing, last_epoch, last_number}
use Rattle.smi_message.specs.declared.Body.{Body}
use Rattle.smi_message.specs.declared.Body.TheVariants as body
use Rattle.smi_base.specs.Between.{is_between}
use Rattle.smi_message.specs.Message.{is_body, is_domain, is_grant_epoch, is_message, is_party}
use Rattle.smi_tree.specs.declared.row.Domain.{Domain as DomainRow}
use Rattle.smi_tree.specs.Hierarchy.{Hierarchy, entry}
use Rattle.smi_tree.specs.Lawful.{IsBetween, IsTree}
use Rattle.smi_tree.specs.Lookups.{domain_count, operator_count, operator_station_of, parent_of, station_count}
use Rattle.smi_command.specs.declared.Due.{Due}
use Rattle.smi_command.specs.declared.Due.TheVariants.{Take, Drop, Run}
use Rattle.smi_command.specs.declared.Link.{Link}
use Rattle.smi_command.specs.declared.Link.TheVariants.{Out, Taking, Held, Dropping}
use Rattle.smi_command.specs.Link.{due_of}
use Rattle.smi_command.specs.Pending.{base_of}
use Rattle.smi_tree.specs.Roles.{is_holder_of, is_number, is_parent, holder_station, is_keeper}
use Rattle.smi_rows.specs.Ranges.{is_standing}
use Rattle.smi_protocol.specs.Messages.{home, request, requests, says, tells}
use Rattle.smi_protocol.specs.Sound.{ArePending, IsCommand, IsLink, is_due}
use Rattle.smi_protocol.proofs.Tables.{number_is}

pub between : (low high n : ℕ) → low ≤ n → n ≤ high → is_between low high n ≡ true
between low high n least most = grind (arith, nat_tests)

pub is_within : (low high n : ℕ) → is_between low high n ≡ true → IsBetween low high n
is_within low high n t = let p = and_parts (nat_le low n) (nat_le n high) t in
    record { least = leb-true low n p.0; most = leb-true n high p.1 }

-- What is due.

pending_there : (p : List Command) (i : ℕ) (c : Command) (P : Command → Type 0) → AllByRecursion P p
    → slice_get p i ≡ Some c → P c × (i < length p)
pending_there [] i c P all at = absurd (nothing i at)
  where
    nothing : (i : ℕ) → slice_get [] i ≡ Some c → ⊥
    nothing i at = cc
pending_there (x ∷ p) zero c P all at = let same : x ≡ c = cc in (subst P same all.0, omega arith)
pending_there (x ∷ p) (suc i) c P all at = let r = pending_there p i c P all.1 at in let less = r.1 in
    (r.0, omega (arith, less))

grant_epoch : (e : ℕ) → e ≤ last_epoch → e % 2 ≡ 1 → is_grant_epoch e ≡ true
grant_epoch e most odd = and_from _ _ (below e most) (eq-eqb (e % 2) 1 odd)
  where
    below : (e : ℕ) → e ≤ last_epoch → nat_le e last_epoch ≡ true
    below e most = grind (arith, nat_tests)

epoch_in : (s : ℕ) → s ≤ last_epoch → nat_le s last_epoch ≡ true
epoch_in s most = grind (arith, nat_tests)

-- whatever a sound link is due can be said
pub due_in : (h : Hierarchy) (most : ℕ) (l : Link) (i : ℕ) (due : Due) → IsLink h most l → due_of l i ≡ Some due
    → is_due due ≡ true
due_in h most (Out k) i due sound at = absurd cc
due_in h most (Taking s) i due sound at = by (i == 0) at
  where
    by : (b : Bool) → (if b then Some (Take s) else None) ≡ Some due → is_due due ≡ true
    by true is = let same : Take s ≡ due = cc in subst (λ z. is_due z ≡ true) same (epoch_in s sound)
    by false is = absurd cc
due_in h most (Held e n p) i due sound at = by (slice_get p i) refl at
  where
    by : (o : Option Command) → slice_get p i ≡ o → option_map (λ c. Run e (base_of n p + 1 + i) c) o ≡ Some due
        → is_due due ≡ true
    by None is a = absurd cc
    by (Some c) is a =
        let same : Run e (base_of n p + 1 + i) c ≡ due = cc in
        let pending : ArePending h most n p = sound.1 in
        let there = pending_there p i c (IsCommand h) pending.each is in
        let command : IsCommand h c = there.0 in
        let less : i < length p = there.1 in
        subst (λ z. is_due z ≡ true) same
        (and_from _ _ (grant_epoch e sound.0.0 sound.0.1)
        (and_from _ _ (between 1 last_number (base_of n p + 1 + i) (omega arith)
        (omega (arith, less, pending.numbered, pending.newest))) command.range))
due_in h most (Dropping e) i due sound at = by (i == 0) at
  where
    by : (b : Bool) → (if b then Some (Drop e) else None) ≡ Some due → is_due due ≡ true
    by true is = let same : Drop e ≡ due = cc in subst (λ z. is_due z ≡ true) same (grant_epoch e sound.0 sound.1)
    by false is = absurd cc

-- what is due makes a lawful datagram
pub due_said : (d : ℕ) (who : Holder) (due : Due) → is_domain d ≡ true → is_party who ≡ true → is_due due ≡ true
    → is_body (request d who due) ≡ true
due_said d who (Take s) a b c = and_from _ _ a (and_from _ _ b c)
due_said d who (Drop e) a b c = and_from _ _ a (and_from _ _ b c)
due_said d who (Run e n x) a b c = and_from _ _ a (and_from _ _ b c)

-- Who is there.

-- what is at a number has its place
pub number_within : {X : Type 0} (rows : List X) (n : ℕ) (row : X) → entry rows n ≡ Some row
    → IsBetween 1 (length rows) n
number_within rows zero row at = absurd cc
number_within rows (suc n) row at = let less : n < length rows = within n (rw (positive n) at at) in
    record { least = omega arith; most = omega (arith, less) }
  where
    positive : (n : ℕ) → (suc n == 0) ≡ false
    positive n = grind (arith, nat_tests)

    less_than : {Y : Type 0} (ys : List Y) (i : ℕ) (y : Y) → slice_get ys i ≡ Some y → i < length ys
    less_than [] i y is = absurd (nothing i is)
      where
        nothing : (i : ℕ) → slice_get [] i ≡ Some y → ⊥
        nothing i is = cc
    less_than (z ∷ ys) zero y is = omega arith
    less_than (z ∷ ys) (suc i) y is = let less = less_than ys i y is in omega (arith, less)

    within : (n : ℕ) → slice_get rows (suc n - 1) ≡ Some row → n < length rows
    within n is = less_than rows n row (ap (slice_get rows) (back n) ∙ is)
      where
        back : (n : ℕ) → n ≡ suc n - 1
        back n = omega arith

-- what has its place is there
pub row_there : {X : Type 0} (rows : List X) (n : ℕ) → IsBetween 1 (length rows) n
    → (row : X) × (entry rows n ≡ Some row)
row_there rows zero within = let wrong : ⊥ = omega (arith, within.least) in absurd wrong
row_there {X = X} rows (suc n) within =
    let less : n < length rows = omega (arith, within.most) in
    let r = at rows n less in
    (r.0, rw (positive n) (ap (slice_get rows) (back n) ∙ r.1))
  where
    positive : (n : ℕ) → (suc n == 0) ≡ false
    positive n = grind (arith, nat_tests)

    back : (n : ℕ) → suc n - 1 ≡ n
    back n = omega arith

    at : (ys : List X) (i : ℕ) → i < length ys → (row : X) × (slice_get ys i ≡ Some row)
    at [] i less = let wrong : ⊥ = omega (arith, less) in absurd wrong
    at (y ∷ ys) zero less = (y, refl)
    at (y ∷ ys) (suc i) less = at ys i (omega (arith, less))

-- the station of a domain that is there
pub home_there : (h : Hierarchy) → IsTree h → (d : ℕ) → IsBetween 1 (domain_count h) d
    → IsBetween 1 (station_count h) (home h d)
home_there h tree d within =
    let r = row_there h.domains d
    (record { least = within.least; most = omega (arith, within.most, tree.lawful.domains.rows) }) in
    subst (IsBetween 1 (station_count h)) (sym
    (ap (λ (o : Option DomainRow). unwrap_or (option_map (λ (row : DomainRow). row.station) o) 0) r.1))
    (tree.lawful.domains.each d r.0 r.1).station

-- a child is there, and so is its parent
pub child_there : (h : Hierarchy) → IsTree h → (d p : ℕ) → is_parent h d p ≡ true
    → IsBetween 1 (domain_count h) d × IsBetween 1 (domain_count h) p
child_there h tree d p t = by (entry h.domains d) refl (number_is (parent_of h d) p t)
  where
    by : (o : Option DomainRow) → entry h.domains d ≡ o
        → option_and_then (λ (row : DomainRow). row.parent) o ≡ Some p
        → IsBetween 1 (domain_count h) d × IsBetween 1 (domain_count h) p
    by None is i = absurd cc
    by (Some row) is i =
        let within = number_within h.domains d row is in
        let above = (tree.lawful.domains.each d row is).parent p i in
        let least = above.0 in
        let less = above.1 in (
          record { least = within.least; most = omega (arith, within.most, tree.lawful.domains.rows) },
          record { least = least; most = omega (arith, less, within.most, tree.lawful.domains.rows) },
        )

-- the station of a holder of the tree
pub holder_there : (h : Hierarchy) → IsTree h → (d : ℕ) (who : Holder) → is_free who ≡ false
    → holder.is_in_range who ≡ true → is_holder_of h d who ≡ true
    → IsBetween 1 (station_count h) (unwrap_or (holder_station h who) 0)
holder_there h tree d Free party range known = absurd cc
holder_there h tree d (Operator o) party range known =
    let a = and_parts (nat_le 1 o) (nat_le o MOST_OPERATORS) range in
    let most : o ≤ operator_count h = leb-true o (operator_count h) known in
    let r = row_there h.homes o
    (record { least = leb-true 1 o a.0; most = omega (arith, most, tree.lawful.operators.rows) }) in
    subst (IsBetween 1 (station_count h)) (sym (ap (λ o. unwrap_or o 0) r.1)) (tree.lawful.operators.each o r.0 r.1)
holder_there h tree d (Domain p) party range known = home_there h tree p (child_there h tree d p known).1

module _ (h : Hierarchy) (tree : IsTree h) where
  -- a domain that a station keeps is there, and so is the station
  pub kept_there : (station d : ℕ) → is_keeper h station d ≡ true
      → IsBetween 1 (domain_count h) d × IsBetween 1 (station_count h) station × (home h d ≡ station)
  kept_there station d t = by (entry h.domains d) refl t
    where
      by : (o : Option DomainRow) → entry h.domains d ≡ o
          → is_number (option_map (λ (row : DomainRow). row.station) o) station ≡ true
          → IsBetween 1 (domain_count h) d × IsBetween 1 (station_count h) station × (home h d ≡ station)
      by None is n = absurd cc
      by (Some row) is n =
          let within = number_within h.domains d row is in
          let lawful = tree.lawful.domains.each d row is in
          let same : row.station ≡ station = eqb-true row.station station n in (
            record { least = within.least; most = omega (arith, within.most, tree.lawful.domains.rows) },
            subst (IsBetween 1 (station_count h)) same lawful.station,
            ap (λ (o : Option DomainRow). unwrap_or (option_map (λ (row : DomainRow). row.station) o) 0) is ∙ same,
          )

  pub domain_in : (d : ℕ) → IsBetween 1 (domain_count h) d → is_domain d ≡ true
  domain_in d within = between 1 MOST_DOMAINS d within.least (omega (arith, within.most, tree.lawful.domains.most))

  -- an operator of a station is there
  pub operator_there : (station o : ℕ) → is_number (operator_station_of h o) station ≡ true
      → is_party (Operator o) ≡ true
  operator_there station o t =
      let within = number_within h.homes o station (number_is (operator_station_of h o) station t) in
      and_from _ _ refl (between 1 MOST_OPERATORS o within.least
      (omega (arith, within.most, tree.lawful.operators.rows, tree.lawful.operators.most)))

  pub domain_party : (p : ℕ) → IsBetween 1 (domain_count h) p → is_party (Domain p) ≡ true
  domain_party p within = and_from _ _ refl (domain_in p within)

  module _ (number : ℕ) (here : IsBetween 1 (station_count h) number) where
    -- a datagram to a station of the tree
    pub message_in : (to : ℕ) (b : Body) → IsBetween 1 (station_count h) to → is_body b ≡ true
        → is_message (says h number to b) ≡ true
    message_in to b there fits =
        and_from _ _
        (and_from _ _ (between 1 MOST_STATIONS number here.least (omega (arith, here.most, tree.lawful.stations)))
        (and_from _ _ (between 1 MOST_STATIONS to there.least (omega (arith, there.most, tree.lawful.stations)))
        (between 1 65535 h.number tree.number tree.lawful.number)))
        fits

    pub tell_in : (to d : ℕ) (r : Standing) → IsBetween 1 (station_count h) to → IsBetween 1 (domain_count h) d
        → is_standing r ≡ true → is_message (tells h number to d r) ≡ true
    tell_in to d r there within standing = message_in to (body.Tell d r) there
        (and_from _ _ (domain_in d within) standing)

    pub request_in : (who : Holder) (d station : ℕ) (due : Due) → is_keeper h station d ≡ true → is_party who ≡ true
        → is_due due ≡ true → is_message (requests h number who d due) ≡ true
    request_in who d station due kept party fits =
        let k = kept_there station d kept in
        message_in (home h d) (request d who due) (subst (IsBetween 1 (station_count h)) (sym k.2) k.1)
        (due_said d who due (domain_in d k.0) party fits)

    pub request_at : (who : Holder) (d : ℕ) (due : Due) → IsBetween 1 (domain_count h) d → is_party who ≡ true
        → is_due due ≡ true → is_message (requests h number who d due) ≡ true
    request_at who d due within party fits = message_in (home h d) (request d who due) (home_there h tree d within)
        (due_said d who due (domain_in d within) party fits)
