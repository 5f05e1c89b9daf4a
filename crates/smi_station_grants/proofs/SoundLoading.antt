-- What rows mean is sound: it can be told and saved.
use Rattle.std.proofs.Common.{ℕ, ◌≡◌, ◌≤◌, ◌<◌, ◌+◌, inl, inr, Bool, true, false, List, [], ◌∷◌, length, Option, Some}
use Rattle.std.proofs.Common.{None, Result, Ok, Err, refl, sym, ap, ◌∙◌, subst, arith}
use Rattle.std.specs.Prelude.{◌==◌, ◌&&◌, ◌||◌, ◌%◌, nat_le, nat_lt, not, if◌then◌else◌, count_by, find}
use Rattle.std.specs.Prelude.{option_and_then, unwrap_or}
use Rattle.std.specs.List.{AllByRecursion, list_all, list_any, range_with_len}
use Rattle.std.proofs.lemmas.Bool.{and_from, and_parts, eqb-true, leb-true}
use Rattle.std.proofs.lemmas.Bool.Decides.{nat_tests}
use Rattle.std.proofs.lemmas.List.Recursion.{is_count_by}
use Rattle.smi_base.specs.declared.trees.TheConstants.{MOST_DOMAINS}
use Rattle.smi_base.specs.declared.numbers.TheConstants.{MOST_LINKS}
use Rattle.smi_grant.specs.declared.Command.{Command}
use Rattle.smi_grant.specs.declared.Phase.{Phase}
use Rattle.smi_grant.specs.declared.Phase.TheVariants.{Settled, Busy}
use Rattle.smi_grant.specs.Record.{fresh, is_outcome, is_settled, last_epoch, last_number}
use Rattle.smi_command.specs.declared.Link.{Link}
use Rattle.smi_command.specs.declared.Link.TheVariants.{Out, Taking, Held, Dropping}
use Rattle.smi_command.specs.Pending.{most_pending}
use Rattle.smi_tree.specs.Hierarchy.{Hierarchy}
use Rattle.smi_tree.specs.Lookups.{children_of, domain_count, operator_station_of, parent_of}
use Rattle.smi_rows.specs.declared.Key.{Key}
use Rattle.smi_rows.specs.declared.Mode.{Mode}
use Rattle.smi_rows.specs.declared.Mode.TheVariants.{Included, Manual, Ignored}
use Rattle.smi_rows.specs.declared.Row.{Row}
use Rattle.smi_rows.specs.declared.Row.TheVariants as row
use Rattle.smi_rows.specs.declared.RowFault.{RowFault}
use Rattle.smi_rows.specs.declared.RowKind.{RowKind}
use Rattle.smi_rows.specs.declared.RowKind.TheVariants as kind
use Rattle.smi_rows.specs.declared.Schema.{Schema}
use Rattle.smi_rows.specs.declared.StoredLink.{StoredLink}
use Rattle.smi_rows.specs.Known.{are_child_links, are_commands_of, are_tree_links}
use Rattle.smi_rows.specs.Known.{is_child_link, is_tree_link}
use Rattle.smi_tree.specs.Roles.{is_command_of, is_holder_of, is_keeper, is_number, is_parent}
use Rattle.smi_rows.specs.Ranges.{are_links_in, are_pending_in, count_not_out, each_command_in, each_link_in}
use Rattle.smi_rows.specs.Ranges.{is_command_in, is_domain_in, is_grant_in, is_link_in, is_mode_in}
use Rattle.smi_command.specs.Link.{is_held, is_out, is_unsettled}
use Rattle.smi_rows.specs.Ranges.{is_operator_in, is_row_of, is_standing, is_work_in, rises_above}
use Rattle.smi_base.specs.Between.{is_between}
use Rattle.smi_rows.specs.Ranges.{some_unsettled}
use Rattle.smi_rows.specs.Reading.{kept_domain, row_of}
use Rattle.smi_rows.specs.Schema.{has_modes, most_pending_in, newest, schema_of}
use Rattle.smi_rows.specs.Store.{Rows}
use Rattle.smi_rows.specs.Stored.{KeptDomain, stored}
use Rattle.smi_rows.specs.Written.{IsRow, IsWrittenIn}
use Rattle.smi_rows.proofs.Laws.{read_is_row}
use Rattle.smi_protocol.specs.Loading.{domain_in, domain_of, grants_in, links_of, mode_under, operator_in, read, said}
use Rattle.smi_protocol.specs.Loading.{stored_at}
use Rattle.smi_protocol.specs.Refusals.{most_links}
use Rattle.smi_protocol.specs.SavedRows.{key}
use Rattle.smi_protocol.specs.Sound.{In, IsCommand, IsGrantEpoch, IsLink, IsSound, most_handed_on}
use Rattle.smi_protocol.proofs.Counts.{count_harder, count_none, count_one_more}
use Rattle.smi_protocol.proofs.Tables.{child_in, number_is}

clash : {X : Type 0} → true ≡ false → X
clash e = absurd cc

-- Lists of stored links.

-- what passes a test in all
module _ {X : Type 0} (p : X → Bool) (P : X → Type 0) (each : (x : X) → p x ≡ true → P x) where
  all_of : (xs : List X) → list_all p xs ≡ true → AllByRecursion P xs
  all_of [] all = tt
  all_of (x ∷ xs) all = let a = and_parts (p x) (list_all p xs) all in (each x a.0, all_of xs a.1)

both_all : {X : Type 0} (P Q : X → Type 0) (R : X → Type 0) → ((x : X) → P x → Q x → R x) → (xs : List X)
    → AllByRecursion P xs → AllByRecursion Q xs → AllByRecursion R xs
both_all P Q R both [] p q = tt
both_all P Q R both (x ∷ xs) p q = (both x p.0 q.0, both_all P Q R both xs p.1 q.1)

-- the link to a domain is a stored one, or a new one
at_stored : (P : StoredLink → Type 0) (x : ℕ) → P (stored x (Out 0) Included) → (links : List StoredLink)
    → AllByRecursion P links → P (stored_at links x)
at_stored P x new [] all = new
at_stored P x new (y ∷ links) all = by (y.domain == x) (at_stored P x new links all.1)
  where
    by : (b : Bool) → P (stored_at links x) → P
        (unwrap_or (if b then Some y else find (λ (z : StoredLink). z.domain == x) links) (stored x (Out 0) Included))
    by true rest = all.0
    by false rest = rest

none_any : {X : Type 0} (p : X → Bool) (xs : List X) → list_any p xs ≡ false → AllByRecursion (λ x. p x ≡ false) xs
none_any p [] none = tt
none_any p (x ∷ xs) none = by (p x) refl none (λ n. none_any p xs n)
  where
    by : (b : Bool) → p x ≡ b → (b || list_any p xs) ≡ false
        → (list_any p xs ≡ false → AllByRecursion (λ x. p x ≡ false) xs) → AllByRecursion (λ x. p x ≡ false) (x ∷ xs)
    by true is n rest = clash n
    by false is n rest = (is, rest n)

any_none : {X : Type 0} (p : X → Bool) → ((x : X) → p x ≡ false) → (xs : List X) → list_any p xs ≡ false
any_none p none [] = refl
any_none p none (x ∷ xs) = ap (λ b. b || list_any p xs) (none x) ∙ any_none p none xs

-- one that passes
some_any : {X : Type 0} (p : X → Bool) (xs : List X) → list_any p xs ≡ true → (x : X) × In x xs × (p x ≡ true)
some_any p [] some = clash (sym some)
some_any {X = X} p (x ∷ xs) some = by (p x) refl some (λ s. some_any p xs s)
  where
    by : (b : Bool) → p x ≡ b → (b || list_any p xs) ≡ true
        → (list_any p xs ≡ true → (y : X) × In y xs × (p y ≡ true)) → (y : X) × In y (x ∷ xs) × (p y ≡ true)
    by true is s rest = (x, inl refl, is)
    by false is s rest = let found = rest s in (found.0, inr found.1, found.2)

any_in : {X : Type 0} (p : X → Bool) (x : X) (xs : List X) → In x xs → p x ≡ true → list_any p xs ≡ true
any_in p x [] a is = absurd a
any_in p x (y ∷ xs) (inl same) is = ap (λ b. b || list_any p xs) (ap p (sym same) ∙ is)
any_in p x (y ∷ xs) (inr a) is = or_true (p y) (any_in p x xs a is)
  where
    or_true : (b : Bool) → list_any p xs ≡ true → (b || list_any p xs) ≡ true
    or_true true t = refl
    or_true false t = t

in_all : {X : Type 0} (P : X → Type 0) (x : X) (xs : List X) → In x xs → AllByRecursion P xs → P x
in_all P x [] a all = absurd a
in_all P x (y ∷ xs) (inl same) all = subst P (sym same) all.0
in_all P x (y ∷ xs) (inr a) all = in_all P x xs a all.1

-- links after a rising one are to later domains
later : (low : ℕ) (y : StoredLink) (links : List StoredLink) → rises_above low links ≡ true → In y links
    → low < y.domain
later low y [] rises a = absurd a
later low y (x ∷ links) rises (inl same) =
    let r = and_parts (nat_lt low x.domain) _ rises in
    let less : low < x.domain = grind (arith, nat_tests) in
    subst (λ (z : StoredLink). low < z.domain) (sym same) less
later low y (x ∷ links) rises (inr a) =
    let r = and_parts (nat_lt low x.domain) _ rises in
    let less : low < x.domain = grind (arith, nat_tests) in
    let rest = later x.domain y links r.1 a in
    omega (arith, less, rest)

-- if they rise, each is the link to its domain
stored_once : (low : ℕ) (y : StoredLink) (links : List StoredLink) → rises_above low links ≡ true → In y links
    → stored_at links y.domain ≡ y
stored_once low y [] rises a = absurd a
stored_once low y (x ∷ links) rises (inl same) =
    let here : (x.domain == y.domain) ≡ true = ap (λ (z : StoredLink). z.domain == y.domain) (sym same)
    ∙ itself y.domain in
    rw here (sym same)
  where
    itself : (n : ℕ) → (n == n) ≡ true
    itself n = grind (arith, nat_tests)
stored_once low y (x ∷ links) rises (inr a) =
    let r = and_parts (nat_lt low x.domain) _ rises in
    let less : x.domain < y.domain = later x.domain y links r.1 a in
    let other : (x.domain == y.domain) ≡ false = grind (arith, nat_tests) in
    rw other (stored_once x.domain y links r.1 a)

-- One link.

grant_epoch : (e : ℕ) → (nat_le e last_epoch && e % 2 == 1) ≡ true → IsGrantEpoch e
grant_epoch e t = let a = and_parts (nat_le e last_epoch) _ t in (leb-true e last_epoch a.0, eqb-true (e % 2) 1 a.1)

commands_sound : (h : Hierarchy) (s : Schema) (p : List Command) → each_command_in s p ≡ true
    → list_all (is_command_of h) p ≡ true → AllByRecursion (IsCommand h) p
commands_sound h s [] range known = tt
commands_sound h s (c ∷ p) range known =
    let r = and_parts (is_command_in s c) _ range in
    let k = and_parts (is_command_of h c) _ known in
    (record { range = (and_parts _ _ r.0).0; known = k.0 }, commands_sound h s p r.1 k.1)

link_sound : (h : Hierarchy) (s : Schema) (most : ℕ) → most_pending_in s ≤ most → (l : Link) → is_grant_in s l ≡ true
    → are_commands_of h l ≡ true → IsLink h most l
link_sound h s most few (Out k) range known = leb-true k last_epoch (and_parts (nat_le 1 k) _ range).1
link_sound h s most few (Taking e) range known = leb-true e last_epoch range
link_sound h s most few (Held e n p) range known =
    let a = and_parts _ (nat_le n last_number && are_pending_in s n p) range in
    let b = and_parts (nat_le n last_number) (are_pending_in s n p) a.1 in
    let c = and_parts (nat_le (length p) n) _ b.1 in
    let d = and_parts (nat_le (length p) (most_pending_in s)) _ c.1 in
    let short : length p ≤ most_pending_in s = leb-true (length p) (most_pending_in s) d.0 in (
      grant_epoch e a.0,
      record {
        few = omega (arith, few, short);
        numbered = leb-true (length p) n c.0;
        newest = leb-true n last_number b.0;
        each = commands_sound h s p d.1 known;
      },
    )
link_sound h s most few (Dropping e) range known = grant_epoch e range

-- only a held child has a mode of its own
own_mode : (s : Schema) (l : Link) (m : Mode) → is_mode_in s l m ≡ true → is_held l ≡ false → m ≡ Included
own_mode s l Included range out = refl
own_mode s l Manual range out = clash (sym (and_parts (has_modes s) (is_held l) range).1 ∙ out)
own_mode s l Ignored range out = clash (sym (and_parts (has_modes s) (is_held l) range).1 ∙ out)

-- What is read of a domain.

-- it is as a row can say it of that domain
pub record IsKeptDomain (h : Hierarchy) (d : ℕ) (k : KeptDomain) : Type 0 where
  pub standing : is_standing k.standing ≡ true
  pub holder : is_holder_of h d k.standing.holder ≡ true
  pub work : is_work_in k.standing.phase k.gathered k.links ≡ true
  pub rises : rises_above 0 k.links ≡ true
  pub each : AllByRecursion (λ (x : StoredLink). IsLink h most_handed_on x.link) k.links
  pub modes : AllByRecursion (λ (x : StoredLink). is_held x.link ≡ false → x.mode ≡ Included) k.links
  pub children : AllByRecursion (λ (x : StoredLink). is_parent h x.domain d ≡ true) k.links

schema_small : (k : RowKind) (n : ℕ) (s : Schema) → schema_of k n ≡ Some s → n ≤ newest k
schema_small k n s is = by (nat_le 1 n && nat_le n (newest k)) refl is
  where
    by : (b : Bool) → (nat_le 1 n && nat_le n (newest k)) ≡ b
        → (if b then Some (record { kind = k; number = n }) else None) ≡ Some s → n ≤ newest k
    by true t i = leb-true n (newest k) (and_parts (nat_le 1 n) _ t).1
    by false t i = absurd cc

few_in_domains : (s : Schema) → schema_of s.kind s.number ≡ Some s → s.kind ≡ kind.Domain
    → most_pending_in s ≤ most_handed_on
few_in_domains s is about =
    let small : s.number ≤ 2 = subst (λ k. s.number ≤ newest k) about (schema_small s.kind s.number s is) in
    let older : (s.number == 3) ≡ false = grind (arith, nat_tests) in
    rw older (omega arith)

few_in_all : (s : Schema) → most_pending_in s ≤ most_pending
few_in_all s = by (s.number == 3)
  where
    by : (b : Bool) → (if b then 8 else 1) ≤ 8
    by true = omega arith
    by false = omega arith

fresh_kept : (h : Hierarchy) (d : ℕ) → IsKeptDomain h d (kept_domain fresh 0 [])
fresh_kept h d = record {
  standing = refl;
  holder = refl;
  work = refl;
  rises = refl;
  each = tt;
  modes = tt;
  children = tt;
}

-- a row is read if it is a row
pub said_row : (h : Hierarchy) (rows : Rows) (k : Key) (r : Row) → said h rows k ≡ Some r → (b : List ℕ) × IsRow h k b r
said_row h rows k r is = by (rows k) is
  where
    of_read : (b : List ℕ) (x : Result Row RowFault) → row_of h k b ≡ x → read x ≡ Some r → IsRow h k b r
    of_read b (Ok y) at i = let same : y ≡ r = cc in read_is_row h k b r (at ∙ ap Ok same)
    of_read b (Err fault) at i = absurd cc

    by : (o : Option (List ℕ)) → option_and_then (λ b. read (row_of h k b)) o ≡ Some r → (b : List ℕ) × IsRow h k b r
    by None i = absurd cc
    by (Some b) i = (b, of_read b (row_of h k b) refl i)

module _ (h : Hierarchy) (number : ℕ) (rows : Rows) where
  pub domain_row_kept : (d : ℕ) (b : List ℕ) (k : KeptDomain) → IsRow h (key number d 0) b (row.Domain k)
      → IsKeptDomain h d k
  domain_row_kept d b k is = by_kind s.kind refl w.range
    where
      s : Schema
      s = is.0.0

      w : IsWrittenIn is.0.0 (key number d 0) b (row.Domain k)
      w = is.0.1

      kept : s.kind ≡ kind.Domain → is_domain_in s k ≡ true → IsKeptDomain h d k
      kept about range =
          let a = and_parts (is_standing k.standing) _ range in
          let c = and_parts (is_work_in k.standing.phase k.gathered k.links) (are_links_in s k.links) a.1 in
          let links = and_parts (rises_above 0 k.links) (each_link_in s k.links) c.1 in
          let known = and_parts (is_keeper h number d) _ is.1 in
          let names = and_parts (is_holder_of h d k.standing.holder) (are_child_links h d k.links) known.1 in
          let ranges = all_of (is_link_in s) (λ x. is_link_in s x ≡ true) (λ x t. t) k.links links.1 in
          let children = all_of (is_child_link h d) (λ x. is_child_link h d x ≡ true) (λ x t. t) k.links names.1 in
          record {
            standing = a.0;
            holder = names.0;
            work = c.0;
            rises = links.0;
            each =
                both_all (λ x. is_link_in s x ≡ true) (λ x. is_child_link h d x ≡ true)
                (λ (x : StoredLink). IsLink h most_handed_on x.link)
                (λ x t u.
                let p = and_parts _ (is_grant_in s x.link && is_mode_in s x.link x.mode) t in
                let q = and_parts (is_grant_in s x.link) (is_mode_in s x.link x.mode) p.1 in
                link_sound h s most_handed_on (few_in_domains s w.schema about) x.link q.0
                (and_parts (is_parent h x.domain d) _ u).1)
                k.links ranges children;
            modes =
                both_all (λ x. is_link_in s x ≡ true) (λ x. is_link_in s x ≡ true)
                (λ (x : StoredLink). is_held x.link ≡ false → x.mode ≡ Included)
                (λ x t u.
                let p = and_parts _ (is_grant_in s x.link && is_mode_in s x.link x.mode) t in
                let q = and_parts (is_grant_in s x.link) (is_mode_in s x.link x.mode) p.1 in
                own_mode s x.link x.mode q.1)
                k.links ranges ranges;
            children =
                both_all (λ x. is_child_link h d x ≡ true) (λ x. is_child_link h d x ≡ true)
                (λ (x : StoredLink). is_parent h x.domain d ≡ true)
                (λ x t u. (and_parts (is_parent h x.domain d) _ t).0) k.links children children;
          }

      by_kind : (a : RowKind) → s.kind ≡ a → is_row_of a s (row.Domain k) ≡ true → IsKeptDomain h d k
      by_kind kind.Boot about range = clash (sym range)
      by_kind kind.Domain about range = kept about range
      by_kind kind.Operator about range = clash (sym range)

  pub domain_kept : (d : ℕ) → IsKeptDomain h d (domain_in h number rows d)
  domain_kept d = by (said h rows (key number d 0)) refl
    where
      of_row : (r : Row) (b : List ℕ) → IsRow h (key number d 0) b r → IsKeptDomain h d (domain_of (Some r))
      of_row (row.Boot boot) b is = fresh_kept h d
      of_row (row.Domain k) b is = domain_row_kept d b k is
      of_row (row.Operator links) b is = fresh_kept h d

      by : (o : Option Row) → said h rows (key number d 0) ≡ o → IsKeptDomain h d (domain_of o)
      by None is = fresh_kept h d
      by (Some r) is = let there = said_row h rows (key number d 0) r is in of_row r there.0 there.1

-- What is read of an operator.

pub record IsKeptOperator (h : Hierarchy) (links : List StoredLink) : Type 0 where
  pub few : count_not_out links ≤ most_links
  pub within : AllByRecursion (λ (x : StoredLink). is_between 1 (domain_count h) x.domain ≡ true) links
  pub each : AllByRecursion (λ (x : StoredLink). IsLink h most_pending x.link) links

module _ (h : Hierarchy) (number : ℕ) (rows : Rows) where
  pub operator_row_kept : (o : ℕ) (b : List ℕ) (links : List StoredLink)
      → IsRow h (key number 0 o) b (row.Operator links) → IsKeptOperator h links
  operator_row_kept o b links is = by_kind s.kind w.range
    where
      s : Schema
      s = is.0.0

      w : IsWrittenIn is.0.0 (key number 0 o) b (row.Operator links)
      w = is.0.1

      kept : is_operator_in s links ≡ true → IsKeptOperator h links
      kept range =
          let a = and_parts (are_links_in s links) (nat_le (count_not_out links) MOST_LINKS) range in
          let c = and_parts (rises_above 0 links) (each_link_in s links) a.0 in
          let known = and_parts (is_number (operator_station_of h o) number) (are_tree_links h links) is.1 in
          let ranges = all_of (is_link_in s) (λ x. is_link_in s x ≡ true) (λ x t. t) links c.1 in
          let names = all_of (is_tree_link h) (λ x. is_tree_link h x ≡ true) (λ x t. t) links known.1 in
          record {
            few = leb-true (count_not_out links) MOST_LINKS a.1;
            within =
                both_all (λ x. is_link_in s x ≡ true) (λ x. is_tree_link h x ≡ true)
                (λ (x : StoredLink). is_between 1 (domain_count h) x.domain ≡ true)
                (λ x t u.
                let p = and_parts (is_between 1 MOST_DOMAINS x.domain)
                (is_grant_in s x.link && is_mode_in s x.link x.mode) t in
                and_from _ _ (and_parts (nat_le 1 x.domain) _ p.0).0
                (and_parts (nat_le x.domain (domain_count h)) _ u).0)
                links ranges names;
            each =
                both_all (λ x. is_link_in s x ≡ true) (λ x. is_tree_link h x ≡ true)
                (λ (x : StoredLink). IsLink h most_pending x.link)
                (λ x t u.
                let p = and_parts _ (is_grant_in s x.link && is_mode_in s x.link x.mode) t in
                let q = and_parts (is_grant_in s x.link) (is_mode_in s x.link x.mode) p.1 in
                link_sound h s most_pending (few_in_all s) x.link q.0
                (and_parts (nat_le x.domain (domain_count h)) _ u).1)
                links ranges names;
          }

      by_kind : (a : RowKind) → is_row_of a s (row.Operator links) ≡ true → IsKeptOperator h links
      by_kind kind.Boot range = clash (sym range)
      by_kind kind.Domain range = clash (sym range)
      by_kind kind.Operator range = kept range

  none_kept : IsKeptOperator h []
  none_kept = record { few = omega arith; within = tt; each = tt }

  pub operator_kept : (o : ℕ) → IsKeptOperator h (operator_in h number rows o)
  operator_kept o = by (said h rows (key number 0 o)) refl
    where
      of_row : (r : Row) (b : List ℕ) → IsRow h (key number 0 o) b r → IsKeptOperator h (links_of (Some r))
      of_row (row.Boot boot) b is = none_kept
      of_row (row.Domain k) b is = none_kept
      of_row (row.Operator links) b is = operator_row_kept o b links is

      by : (a : Option Row) → said h rows (key number 0 o) ≡ a → IsKeptOperator h (links_of a)
      by None is = none_kept
      by (Some r) is = let there = said_row h rows (key number 0 o) r is in of_row r there.0 there.1

-- How many links are not out.

passing : List StoredLink → ℕ
passing [] = 0
passing (y ∷ links) = if not (is_out y.link) then 1 + passing links else passing links

passing_is : (links : List StoredLink) → passing links ≡ count_not_out links
unfolding passing
passing_is links = is_count_by passing (λ (x : StoredLink). not (is_out x.link)) refl (λ x xs. refl) links

abbrev in_use : List StoredLink → ℕ → Bool
in_use links x = not (is_out (stored_at links x).link)

-- no more domains than stored links
few_used : (links : List StoredLink) (n : ℕ) → count_by (in_use links) (range_with_len 1 n) ≤ passing links
unfolding passing
few_used [] n = let none = count_none (in_use []) (range_with_len 1 n) (λ x. refl) in omega (arith, none)
few_used (y ∷ links) n = by (not (is_out y.link)) refl (few_used links n)
  where
    other : (x : ℕ) → (x ≡ y.domain → ⊥) → in_use (y ∷ links) x ≡ in_use links x
    other x apart = at (y.domain == x) refl
      where
        at : (b : Bool) → (y.domain == x) ≡ b → not
            (is_out (unwrap_or (if b then Some y else find (λ (z : StoredLink). z.domain == x) links)
            (stored x (Out 0) Included)).link) ≡ in_use links x
        at true is = absurd (apart (sym (eqb-true y.domain x is)))
        at false is = refl

    harder : not (is_out y.link) ≡ false → (x : ℕ) → in_use (y ∷ links) x ≡ true → in_use links x ≡ true
    harder out x = at (y.domain == x)
      where
        at : (b : Bool)
            → not (is_out (unwrap_or (if b then Some y else find (λ (z : StoredLink). z.domain == x) links)
            (stored x (Out 0) Included)).link) ≡ true → in_use links x ≡ true
        at true used = clash (sym used ∙ out)
        at false used = used

    by : (b : Bool) → not (is_out y.link) ≡ b → count_by (in_use links) (range_with_len 1 n) ≤ passing links
        → count_by (in_use (y ∷ links)) (range_with_len 1 n) ≤ (if b then 1 + passing links else passing links)
    by true is rest = let more = count_one_more (in_use links) (in_use (y ∷ links)) y.domain other 1 n in
        omega (arith, rest, more)
    by false is rest = let more = count_harder (in_use links) (in_use (y ∷ links)) (range_with_len 1 n)
        (harder is) in omega (arith, rest, more)

-- All that rows mean.

outcome_of : (p : Phase) (gathered : ℕ) (links : List StoredLink) → is_work_in p gathered links ≡ true
    → is_outcome gathered ≡ true
outcome_of Settled gathered links work =
    let none : gathered ≡ 0 = eqb-true gathered 0 (and_parts (gathered == 0) _ work).0 in
    rw none refl
outcome_of Busy gathered links work = (and_parts (is_outcome gathered) _ work).0

rest_of : (p : Phase) (gathered : ℕ) (links : List StoredLink) → is_work_in p gathered links ≡ true
    → is_settled p ≡ true → (gathered ≡ 0) × (some_unsettled links ≡ false)
rest_of Settled gathered links work settled =
    let a = and_parts (gathered == 0) (not (some_unsettled links)) work in
    (eqb-true gathered 0 a.0, negated (some_unsettled links) a.1)
  where
    negated : (b : Bool) → not b ≡ true → b ≡ false
    negated true t = clash (sym t)
    negated false t = refl
rest_of Busy gathered links work settled = clash (sym settled)

work_of : (p : Phase) (gathered : ℕ) (links : List StoredLink) → is_work_in p gathered links ≡ true
    → is_settled p ≡ false → some_unsettled links ≡ true
work_of Settled gathered links work busy = clash busy
work_of Busy gathered links work busy = (and_parts (is_outcome gathered) (some_unsettled links) work).1

pub grants_sound : (h : Hierarchy) (number : ℕ) (rows : Rows) → IsSound h (grants_in h number rows)
grants_sound h number rows = record {
  standing = λ d. (domain_kept h number rows d).standing;
  holder = λ d. (domain_kept h number rows d).holder;
  gathered = λ d. outcome_of (domain_in h number rows d).standing.phase (domain_in h number rows d).gathered
      (domain_in h number rows d).links (domain_kept h number rows d).work;
  at_rest = λ d settled.
      let rest = rest_of (domain_in h number rows d).standing.phase (domain_in h number rows d).gathered
      (domain_in h number rows d).links (domain_kept h number rows d).work settled in record {
        gathered = rest.0;
        still = any_none (λ x. is_unsettled (stored_at (domain_in h number rows d).links x).link)
            (λ x. at_stored (λ (y : StoredLink). is_unsettled y.link ≡ false) x refl
            (domain_in h number rows d).links (none_any (λ (y : StoredLink). is_unsettled y.link)
            (domain_in h number rows d).links rest.1)) (children_of h d);
      };
  at_work = λ d busy.
      let kept = domain_kept h number rows d in
      let links = (domain_in h number rows d).links in
      let one = some_any (λ (y : StoredLink). is_unsettled y.link) links
      (work_of (domain_in h number rows d).standing.phase (domain_in h number rows d).gathered links kept.work
      busy) in
      let child = child_in h d one.0.domain (in_all (λ (x : StoredLink). is_parent h x.domain d ≡ true) one.0 links
      one.1 kept.children) in
      any_in (λ x. is_unsettled (stored_at links x).link) one.0.domain (children_of h d) child
      (ap (λ (y : StoredLink). is_unsettled y.link) (stored_once 0 one.0 links kept.rises one.1) ∙ one.2);
  own = λ o x. at_stored (λ (y : StoredLink). IsLink h most_pending y.link) x (omega arith)
      (operator_in h number rows o) (operator_kept h number rows o).each;
  child = λ p x. at_stored (λ (y : StoredLink). IsLink h most_handed_on y.link) x (omega arith)
      (domain_in h number rows p).links (domain_kept h number rows p).each;
  mode = λ p x parent out.
      ap (mode_under h number rows x) (number_is (parent_of h x) p parent)
      ∙ at_stored (λ (y : StoredLink). is_held y.link ≡ false → y.mode ≡ Included) x (λ _. refl)
      (domain_in h number rows p).links (domain_kept h number rows p).modes out;
  few = λ o.
      let links = operator_in h number rows o in
      let used = few_used links (domain_count h) in
      let same = passing_is links in
      let most = (operator_kept h number rows o).few in
      omega (arith, used, same, most);
}
