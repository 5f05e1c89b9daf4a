-- What is rewritten reads as before.
use Rattle.std.proofs.Common.{ℕ, ◌≡◌, ◌≤◌, Bool, true, false, List, [], ◌∷◌, length, Some, None, Ok, refl, sym, ap}
use Rattle.std.proofs.Common.{◌∙◌, subst, arith}
use Rattle.std.specs.Prelude.{◌==◌, ◌&&◌, nat_le, if◌then◌else◌}
use Rattle.std.proofs.lemmas.Bool.{and_from, and_parts, leb-true}
use Rattle.std.proofs.lemmas.Bool.Decides.{nat_tests}
use Rattle.smi_base.specs.declared.trees.TheConstants.{MOST_DOMAINS}
use Rattle.smi_base.specs.declared.numbers.TheConstants.{MOST_LINKS}
use Rattle.smi_grant.specs.declared.Command.{Command}
use Rattle.smi_grant.specs.Command.{is_in_range, verb_of}
use Rattle.smi_grant.specs.Record.{last_number}
use Rattle.smi_command.specs.declared.Link.{Link}
use Rattle.smi_command.specs.declared.Link.TheVariants.{Out, Taking, Held, Dropping}
use Rattle.smi_tree.specs.Hierarchy.{Hierarchy}
use Rattle.smi_rows.specs.declared.Key.{Key}
use Rattle.smi_rows.specs.declared.Mode.{Mode}
use Rattle.smi_rows.specs.declared.Mode.TheVariants.{Included, Manual, Ignored}
use Rattle.smi_rows.specs.declared.Row.{Row}
use Rattle.smi_rows.specs.declared.Row.TheVariants as row
use Rattle.smi_rows.specs.declared.RowKind.{RowKind}
use Rattle.smi_rows.specs.declared.RowKind.TheVariants as kind
use Rattle.smi_rows.specs.declared.Schema.{Schema}
use Rattle.smi_rows.specs.declared.StoredLink.{StoredLink}
use Rattle.smi_rows.specs.Key.{kind_of}
use Rattle.smi_rows.specs.Layout.{HasFewLinks, row_bytes}
use Rattle.smi_rows.specs.Ranges.{are_links_in, are_pending_in, count_not_out, each_command_in, each_link_in}
use Rattle.smi_base.specs.Between.{is_between}
use Rattle.smi_rows.specs.Ranges.{is_command_in, is_grant_epoch, is_grant_in, is_link_in}
use Rattle.smi_command.specs.Link.{is_held}
use Rattle.smi_rows.specs.Ranges.{is_mode_in, is_row_of, is_standing, is_work_in, rises_above}
use Rattle.smi_rows.specs.Reading.{row_of}
use Rattle.smi_rows.specs.Schema.{has_modes, last_verb, most_pending_in, newest, schema_of}
use Rattle.smi_rows.specs.Written.{IsRow, IsWrittenIn}
use Rattle.smi_rows.proofs.Again.{rising-few}
use Rattle.smi_rows.proofs.Laws.{row_is_read}
use Rattle.smi_station_grants.specs.Migrating.{about, newest_bytes, schema_in}

clash : {X : Type 0} → true ≡ false → X
clash e = absurd cc

-- What one schema can say a later one can.

-- a schema can say all that another can
record SaysMore (s t : Schema) : Type 0 where
  pub pending : most_pending_in s ≤ most_pending_in t
  pub verbs : last_verb s ≤ last_verb t
  pub modes : has_modes s ≡ true → has_modes t ≡ true

at_most : (a b c : ℕ) → nat_le a b ≡ true → b ≤ c → nat_le a c ≡ true
at_most a b c below more = grind (arith, nat_tests)

module _ (s t : Schema) (says : SaysMore s t) where
  commands_more : (p : List Command) → each_command_in s p ≡ true → each_command_in t p ≡ true
  commands_more [] all = refl
  commands_more (c ∷ p) all =
      let a = and_parts (is_command_in s c) (each_command_in s p) all in
      let b = and_parts (is_in_range c) (nat_le (verb_of c) (last_verb s)) a.0 in
      and_from _ _ (and_from _ _ b.0 (at_most (verb_of c) (last_verb s) (last_verb t) b.1 says.verbs))
      (commands_more p a.1)

  grant_more : (l : Link) → is_grant_in s l ≡ true → is_grant_in t l ≡ true
  grant_more (Out k) range = range
  grant_more (Taking e) range = range
  grant_more (Held e n p) range =
      let a = and_parts (is_grant_epoch e) (nat_le n last_number && are_pending_in s n p) range in
      let b = and_parts (nat_le n last_number) (are_pending_in s n p) a.1 in
      let c = and_parts (nat_le (length p) n) (nat_le (length p) (most_pending_in s) && each_command_in s p) b.1 in
      let d = and_parts (nat_le (length p) (most_pending_in s)) (each_command_in s p) c.1 in
      and_from _ _ a.0
      (and_from _ _ b.0
      (and_from _ _ c.0 (and_from _ _ (at_most (length p) (most_pending_in s) (most_pending_in t) d.0 says.pending)
      (commands_more p d.1))))
  grant_more (Dropping e) range = range

  mode_more : (l : Link) (m : Mode) → is_mode_in s l m ≡ true → is_mode_in t l m ≡ true
  mode_more l Included range = refl
  mode_more l Manual range = let a = and_parts (has_modes s) (is_held l) range in and_from _ _ (says.modes a.0) a.1
  mode_more l Ignored range = let a = and_parts (has_modes s) (is_held l) range in and_from _ _ (says.modes a.0) a.1

  links_more : (links : List StoredLink) → each_link_in s links ≡ true → each_link_in t links ≡ true
  links_more [] all = refl
  links_more (x ∷ links) all =
      let a = and_parts (is_link_in s x) (each_link_in s links) all in
      let b = and_parts (is_between 1 MOST_DOMAINS x.domain) (is_grant_in s x.link && is_mode_in s x.link x.mode) a.0 in
      let c = and_parts (is_grant_in s x.link) (is_mode_in s x.link x.mode) b.1 in
      and_from _ _ (and_from _ _ b.0 (and_from _ _ (grant_more x.link c.0) (mode_more x.link x.mode c.1)))
      (links_more links a.1)

  row_more : (a : RowKind) (r : Row) → is_row_of a s r ≡ true → is_row_of a t r ≡ true
  row_more kind.Boot (row.Boot boot) range = range
  row_more kind.Boot (row.Domain d) range = clash (sym range)
  row_more kind.Boot (row.Operator links) range = clash (sym range)
  row_more kind.Domain (row.Boot boot) range = clash (sym range)
  row_more kind.Domain (row.Domain d) range =
      let a = and_parts (is_standing d.standing) _ range in
      let b = and_parts (is_work_in d.standing.phase d.gathered d.links) (are_links_in s d.links) a.1 in
      let c = and_parts (rises_above 0 d.links) (each_link_in s d.links) b.1 in
      and_from _ _ a.0 (and_from _ _ b.0 (and_from _ _ c.0 (links_more d.links c.1)))
  row_more kind.Domain (row.Operator links) range = clash (sym range)
  row_more kind.Operator (row.Boot boot) range = clash (sym range)
  row_more kind.Operator (row.Domain d) range = clash (sym range)
  row_more kind.Operator (row.Operator links) range =
      let a = and_parts (are_links_in s links) (nat_le (count_not_out links) MOST_LINKS) range in
      let c = and_parts (rises_above 0 links) (each_link_in s links) a.0 in
      and_from _ _ (and_from _ _ c.0 (links_more links c.1)) a.1

-- the newest schema of a kind
abbrev newest_of : RowKind → Schema
newest_of k = record { kind = k; number = newest k }

there_is : (k : RowKind) → schema_of k (newest k) ≡ Some (newest_of k)
there_is kind.Boot = refl
there_is kind.Domain = refl
there_is kind.Operator = refl

schema_small : (k : RowKind) (n : ℕ) (s : Schema) → schema_of k n ≡ Some s → n ≤ newest k
schema_small k n s is = by (nat_le 1 n && nat_le n (newest k)) refl is
  where
    by : (b : Bool) → (nat_le 1 n && nat_le n (newest k)) ≡ b
        → (if b then Some (record { kind = k; number = n }) else None) ≡ Some s → n ≤ newest k
    by true t i = leb-true n (newest k) (and_parts (nat_le 1 n) _ t).1
    by false t i = absurd cc

newest_says : (k : RowKind) (n : ℕ) → n ≤ newest k → SaysMore (record { kind = k; number = n }) (newest_of k)
newest_says kind.Boot n small =
    let older : (n == 3) ≡ false = grind (arith, nat_tests) in
    record { pending = rw older (omega arith); verbs = verbs (n == 1); modes = λ t. t }
  where
    verbs : (b : Bool) → (if b then 3 else 5) ≤ 5
    verbs true = omega arith
    verbs false = omega arith
newest_says kind.Domain n small =
    let older : (n == 3) ≡ false = grind (arith, nat_tests) in
    record { pending = rw older (omega arith); verbs = verbs (n == 1); modes = λ t. refl }
  where
    verbs : (b : Bool) → (if b then 3 else 5) ≤ 5
    verbs true = omega arith
    verbs false = omega arith
newest_says kind.Operator n small = record {
  pending = pending (n == 3);
  verbs = verbs (n == 1);
  modes = λ t. clash (sym t);
}
  where
    verbs : (b : Bool) → (if b then 3 else 5) ≤ 5
    verbs true = omega arith
    verbs false = omega arith

    pending : (b : Bool) → (if b then 8 else 1) ≤ 8
    pending true = omega arith
    pending false = omega arith

kind_is : (s : Schema) (a : RowKind) (r : Row) → is_row_of a s r ≡ true → a ≡ about r
kind_is s kind.Boot (row.Boot boot) range = refl
kind_is s kind.Boot (row.Domain d) range = clash (sym range)
kind_is s kind.Boot (row.Operator links) range = clash (sym range)
kind_is s kind.Domain (row.Boot boot) range = clash (sym range)
kind_is s kind.Domain (row.Domain d) range = refl
kind_is s kind.Domain (row.Operator links) range = clash (sym range)
kind_is s kind.Operator (row.Boot boot) range = clash (sym range)
kind_is s kind.Operator (row.Domain d) range = clash (sym range)
kind_is s kind.Operator (row.Operator links) range = refl

-- the schema of a row is its first byte
pub schema_first : (n : ℕ) (r : Row) → schema_in (row_bytes n r) ≡ n
schema_first n (row.Boot boot) = refl
schema_first n (row.Domain d) = refl
schema_first n (row.Operator links) = refl

module _ (h : Hierarchy) (k : Key) (b : List ℕ) (r : Row) (is : IsRow h k b r) where
  s : Schema
  s = is.0.0

  written : IsWrittenIn is.0.0 k b r
  written = is.0.1

  of_kind : is.0.0.kind ≡ about r
  of_kind = kind_is is.0.0 is.0.0.kind r written.range

  -- the key tells what the row is about
  pub key_about : kind_of k ≡ Some (about r)
  key_about = written.kind ∙ ap Some of_kind

  newest_row : IsRow h k (newest_bytes r) r
  newest_row = (
    (
      newest_of (about r),
      record {
        kind = key_about;
        schema = there_is (about r);
        range = subst (λ a. is_row_of a (newest_of a) r ≡ true) of_kind
            (row_more is.0.0 (newest_of is.0.0.kind) (newest_says is.0.0.kind is.0.0.number
            (schema_small is.0.0.kind is.0.0.number is.0.0 written.schema)) is.0.0.kind r written.range);
        bytes = refl;
      },
    ),
    is.1,
  )

  -- what is rewritten reads as it did
  pub newest_reads : row_of h k (newest_bytes r) ≡ Ok r
  newest_reads = row_is_read h k (newest_bytes r) r newest_row

  -- a row in the newest schema is written so
  pub newest_stays : (schema_in b == newest (about r)) ≡ true → b ≡ newest_bytes r
  newest_stays new = written.bytes ∙ ap (λ n. row_bytes n r)
      (sym (schema_first is.0.0.number r) ∙ ap schema_in (sym written.bytes)
      ∙ number_is (schema_in b) (newest (about r)) new)
    where
      number_is : (m n : ℕ) → (m == n) ≡ true → m ≡ n
      number_is m n t = grind (arith, nat_tests)

  -- its links are few
  pub few_links : HasFewLinks r
  few_links = by is.0.0.kind r written.range
    where
      by : (a : RowKind) (r : Row) → is_row_of a is.0.0 r ≡ true → HasFewLinks r
      by a (row.Boot boot) range = tt
      by kind.Boot (row.Domain d) range = clash (sym range)
      by kind.Domain (row.Domain d) range =
          let a = and_parts (is_standing d.standing) _ range in
          let e = and_parts (is_work_in d.standing.phase d.gathered d.links) (are_links_in is.0.0 d.links) a.1 in
          let c = and_parts (rises_above 0 d.links) (each_link_in is.0.0 d.links) e.1 in
          let few = rising-few is.0.0 0 d.links (omega arith) c.0 c.1 in
          omega (arith, few)
      by kind.Operator (row.Domain d) range = clash (sym range)
      by kind.Boot (row.Operator links) range = clash (sym range)
      by kind.Domain (row.Operator links) range = clash (sym range)
      by kind.Operator (row.Operator links) range =
          let a = and_parts (are_links_in is.0.0 links) (nat_le (count_not_out links) MOST_LINKS) range in
          let c = and_parts (rises_above 0 links) (each_link_in is.0.0 links) a.0 in
          let few = rising-few is.0.0 0 links (omega arith) c.0 c.1 in
          omega (arith, few)
