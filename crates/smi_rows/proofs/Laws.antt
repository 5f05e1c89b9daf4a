-- A row is read to what was written, and nothing else is read.
use Rattle.std.proofs.Common.{◌≡◌, ℕ, ◌<◌, ◌≤◌, ◌^◌, Bool, true, false, List, [], ◌∷◌, ◌++◌, length, Option, Some}
use Rattle.std.proofs.Common.{None, Result, Ok, Err, IfOk, refl, sym, ap, subst, ◌∙◌, arith, length-append}
use Rattle.std.specs.Prelude.{◌&&◌, ◌==◌, nat_le, if◌then◌else◌, option_map, option_and_then, slice_index}
use Rattle.std.specs.Int.{w16, to_be_bytes}
use Rattle.std.specs.Str.{bytes_eq}
use Rattle.std.proofs.lemmas.Bool.{and_parts, and_from, leb-true, le-leb, eqb-true}
use Rattle.std.proofs.lemmas.Bool.Decides.{nat_tests}
use Rattle.std.proofs.lemmas.Nat.{from_be_bytes-to_be_bytes_2, from_be_bytes-to_be_bytes_4}
use Rattle.std.proofs.lemmas.Nat.{from_be_bytes-to_be_bytes_8}
use Rattle.std.proofs.lemmas.Slice.Eq.{bytes_eq-Decides}
use Rattle.smi_base.specs.declared.numbers.TheConstants.{LAST_BOOT}
use Rattle.smi_grant.specs.declared.Holder.{Holder}
use Rattle.smi_grant.specs.declared.Holder.TheVariants.{Free, Operator, Domain}
use Rattle.smi_grant.specs.declared.Phase.{Phase}
use Rattle.smi_grant.specs.declared.Phase.TheVariants.{Settled, Busy}
use Rattle.smi_grant.specs.Holder as holder
use Rattle.smi_grant.specs.Holder.{kind_of as holder_kind, number_of, holder_of}
use Rattle.smi_grant.specs.Record.{Standing, standing, phase_number, phase_of, is_record, is_outcome, checked}
use Rattle.smi_grant.specs.Record.{last_epoch, last_number}
use Rattle.smi_tree.specs.Hierarchy.{Hierarchy}
use Rattle.smi_rows.specs.declared.key.Key.{Key}
use Rattle.smi_rows.specs.declared.key.RowKind.{RowKind}
use Rattle.smi_rows.specs.declared.key.RowKind.TheVariants as kind
use Rattle.smi_rows.specs.declared.fault.RowFlaw.TheVariants as fault
use Rattle.smi_rows.specs.declared.fault.RowFault.{RowFault}
use Rattle.smi_rows.specs.declared.fault.RowFault.TheVariants.{Code}
use Rattle.smi_rows.specs.declared.row.StoredLink.{StoredLink}
use Rattle.smi_rows.specs.declared.row.Row.{Row}
use Rattle.smi_rows.specs.declared.row.Row.TheVariants as row
use Rattle.smi_rows.specs.declared.schema.Schema.{Schema}
use Rattle.smi_rows.specs.Key.{kind_of}
use Rattle.smi_rows.specs.Known.{is_known}
use Rattle.smi_rows.specs.Layout.{holder_bytes, work_bytes, domain_bytes, operator_bytes, links_bytes, row_bytes}
use Rattle.smi_base.specs.Bytes.{u16_at, u32_at, u64_at}
use Rattle.smi_rows.specs.Ranges.{is_boot, is_standing, is_work_in, is_domain_in, is_operator_in, are_links_in}
use Rattle.smi_rows.specs.Ranges.{each_link_in, rises_above, is_row_in, is_row_of}
use Rattle.smi_rows.specs.Reading.{are_cut, has_length_of, standing_at, kept_domain, domain_at, links_at, row_at}
use Rattle.smi_rows.specs.Reading.{is_said, where_said, said_at, refused, known_row, schema_row, kind_row, row_of}
use Rattle.smi_rows.specs.Reading.{Reads}
use Rattle.smi_rows.specs.Schema.{schema_of}
use Rattle.smi_rows.specs.Stored.{KeptDomain}
use Rattle.smi_rows.specs.Written.{IsWritten, IsRow}
use Rattle.smi_rows.proofs.Again.{links-cut, links-again, rising-few}

-- ---- what is written has its length and is read again

record ReadsAgain (s : Schema) (k : RowKind) (r : Row) : Type 0 where
  some : 0 < length (row_bytes s.number r)
  first : slice_index (row_bytes s.number r) 0 ≡ s.number
  length_of : has_length_of k s (row_bytes s.number r) ≡ true
  row : row_at k s (row_bytes s.number r) ≡ Some r

boot-again : (s : Schema) (boot : ℕ) → is_boot boot ≡ true → ReadsAgain s kind.Boot (row.Boot boot)
boot-again s boot h =
    let l : boot ≤ LAST_BOOT = leb-true _ _ (and_parts (nat_le 1 boot) _ h).1 in
    record {
      some = omega arith;
      first = refl;
      length_of = refl;
      row = ap (λ i. Some (row.Boot i)) (from_be_bytes-to_be_bytes_4 boot (omega arith));
    }

few : (s : Schema) (xs : List StoredLink) → are_links_in s xs ≡ true → length xs < 2 ^ 16
few s xs h =
    let p = and_parts (rises_above 0 xs) (each_link_in s xs) h in
    let l = rising-few s 0 xs (omega arith) p.0 p.1 in
    omega arith

operator-again : (s : Schema) (xs : List StoredLink) → is_operator_in s xs ≡ true
    → ReadsAgain s kind.Operator (row.Operator xs)
operator-again s xs h =
    let a = and_parts (are_links_in s xs) _ h in
    let p = and_parts (rises_above 0 xs) (each_link_in s xs) a.0 in
    let b = operator_bytes s.number xs in
    let counted : u16_at b 2 ≡ length xs = from_be_bytes-to_be_bytes_2 (length xs) (few s xs a.0) in
    let long = length-append ((s.number ∷ 0 ∷ []) ++ to_be_bytes w16 (length xs)) (links_bytes xs) in
    record {
      some = omega (arith, long);
      first = refl;
      length_of = and_from _ _ (le-leb 4 (length b) (omega (arith, long)))
          (ap (λ i. are_cut s i (links_bytes xs)) counted ∙ links-cut s xs p.1);
      row = ap (λ i. option_map (λ links. row.Operator links) (links_at s i (links_bytes xs))) counted
          ∙ ap (option_map (λ links. row.Operator links)) (links-again s xs p.1);
    }

holder-again : (h : Holder) → holder_of (holder_kind h) (number_of h) ≡ Some h
holder-again Free = refl
holder-again (Operator n) = refl
holder-again (Domain n) = refl

phase-again : (p : Phase) → phase_of (phase_number p) ≡ Some p
phase-again Settled = refl
phase-again Busy = refl

holder_small : (h : Holder) → holder.is_in_range h ≡ true → number_of h < 2 ^ 16
holder_small Free h = omega arith
holder_small (Operator n) h = grind (arith, nat_tests)
holder_small (Domain n) h = grind (arith, nat_tests)

outcome_small : (x : ℕ) → is_outcome x ≡ true → x < 2 ^ 16
outcome_small x h = grind (arith, nat_tests)

work_small : (p : Phase) (gathered : ℕ) (xs : List StoredLink) → is_work_in p gathered xs ≡ true → gathered < 2 ^ 16
work_small Settled gathered xs h = let p = and_parts (gathered == 0) _ h in
    let z : gathered ≡ 0 = eqb-true _ _ p.0 in omega arith
work_small Busy gathered xs h = outcome_small gathered (and_parts (is_outcome gathered) _ h).0

checked-again : (r : Standing) → is_record r ≡ true → checked r ≡ Some r
checked-again r h = ap (λ (t : Bool). if t then Some r else None) h

standing-again : (n : ℕ) (r : Standing) (gathered : ℕ) (rest : List ℕ) → is_standing r ≡ true
    → standing_at (holder_bytes n r ++ work_bytes r gathered ++ rest) ≡ Some r
standing-again n r gathered rest h =
    let a = and_parts (holder.is_in_range r.holder) _ h in
    let b = and_parts (is_outcome r.outcome) (is_record r) a.1 in
    let c = and_parts (nat_le r.epoch last_epoch) _ b.1 in
    let d = and_parts (nat_le r.last last_number) _ c.1 in
    let e : r.epoch ≤ last_epoch = leb-true _ _ c.0 in
    let l : r.last ≤ last_number = leb-true _ _ d.0 in
    let all = holder_bytes n r ++ work_bytes r gathered ++ rest in
    let number : u16_at all 2 ≡ number_of r.holder = from_be_bytes-to_be_bytes_2 (number_of r.holder)
    (holder_small r.holder a.0) in
    let epoch : u64_at all 4 ≡ r.epoch = from_be_bytes-to_be_bytes_8 r.epoch (omega arith) in
    let last : u32_at all 12 ≡ r.last = from_be_bytes-to_be_bytes_4 r.last (omega arith) in
    let outcome : u16_at all 18 ≡ r.outcome = from_be_bytes-to_be_bytes_2 r.outcome (outcome_small r.outcome b.0) in
    let holder : holder_of (holder_kind r.holder) (u16_at all 2)
    ≡ Some r.holder = ap (holder_of (holder_kind r.holder)) number ∙ holder-again r.holder in
    ap (option_and_then
    (λ x. option_and_then (λ p. checked (standing (u64_at all 4) x (u32_at all 12) p (u16_at all 18)))
    (phase_of (phase_number r.phase)))) holder
    ∙ ap (option_and_then (λ p. checked (standing (u64_at all 4) r.holder (u32_at all 12) p (u16_at all 18))))
    (phase-again r.phase)
    ∙ ap (λ i. checked (standing i r.holder (u32_at all 12) r.phase (u16_at all 18))) epoch
    ∙ ap (λ i. checked (standing r.epoch r.holder i r.phase (u16_at all 18))) last
    ∙ ap (λ i. checked (standing r.epoch r.holder r.last r.phase i)) outcome
    ∙ checked-again r b.1

domain-again : (s : Schema) (d : KeptDomain) → is_domain_in s d ≡ true → ReadsAgain s kind.Domain (row.Domain d)
domain-again s d h =
    let a = and_parts (is_standing d.standing) _ h in
    let b' = and_parts (is_work_in d.standing.phase d.gathered d.links) (are_links_in s d.links) a.1 in
    let p = and_parts (rises_above 0 d.links) (each_link_in s d.links) b'.1 in
    let b = domain_bytes s.number d in
    let counted : u16_at b 22 ≡ length d.links = from_be_bytes-to_be_bytes_2 (length d.links) (few s d.links b'.1) in
    let gathered : u16_at b 20 ≡ d.gathered = from_be_bytes-to_be_bytes_2 d.gathered
    (work_small d.standing.phase d.gathered d.links b'.0) in
    let long = length-append (holder_bytes s.number d.standing ++ work_bytes d.standing d.gathered
    ++ to_be_bytes w16 (length d.links)) (links_bytes d.links) in
    let stands : standing_at b ≡ Some d.standing = standing-again s.number d.standing d.gathered
    (to_be_bytes w16 (length d.links) ++ links_bytes d.links) a.0 in
    let links : links_at s (u16_at b 22) (links_bytes d.links)
    ≡ Some d.links = ap (λ i. links_at s i (links_bytes d.links)) counted ∙ links-again s d.links p.1 in
    let said : domain_at s b ≡ Some d =
    ap (option_and_then (λ r. option_map (kept_domain r (u16_at b 20))
    (links_at s (u16_at b 22) (links_bytes d.links)))) stands
    ∙ ap (option_map (kept_domain d.standing (u16_at b 20))) links
    ∙ ap (λ i. Some (kept_domain d.standing i d.links)) gathered in
    record {
      some = omega (arith, long);
      first = refl;
      length_of = and_from _ _ (le-leb 24 (length b) (omega (arith, long)))
          (ap (λ i. are_cut s i (links_bytes d.links)) counted ∙ links-cut s d.links p.1);
      row = ap (option_map (λ x. row.Domain x)) said;
    }

reads-again : (s : Schema) (k : RowKind) (r : Row) → is_row_of k s r ≡ true → ReadsAgain s k r
reads-again s kind.Boot (row.Boot boot) h = boot-again s boot h
reads-again s kind.Domain (row.Domain d) h = domain-again s d h
reads-again s kind.Operator (row.Operator xs) h = operator-again s xs h
reads-again s kind.Boot (row.Domain d) h = absurd cc
reads-again s kind.Boot (row.Operator xs) h = absurd cc
reads-again s kind.Domain (row.Boot boot) h = absurd cc
reads-again s kind.Domain (row.Operator xs) h = absurd cc
reads-again s kind.Operator (row.Boot boot) h = absurd cc
reads-again s kind.Operator (row.Domain d) h = absurd cc

-- ---- what is written is read, where the tree has it

said-again : (s : Schema) (r : Row) → is_row_in s r ≡ true → said_at s (row_bytes s.number r) ≡ Some r
said-again s r h =
    let b = row_bytes s.number r in
    let same : bytes_eq b b ≡ true = (bytes_eq-Decides b b).1 refl in
    ap (option_and_then (where_said s b)) (reads-again s s.kind r h).row
    ∙ ap (λ (t : Bool). if t then Some r else None) (and_from (is_row_in s r) (bytes_eq b b) h same)

written-read : (h : Hierarchy) (k : Key) (s : Schema) (r : Row) → kind_of k ≡ Some s.kind
    → schema_of s.kind s.number ≡ Some s → is_row_in s r ≡ true →
    row_of h k (row_bytes s.number r) ≡ known_row h k (Some r)
written-read h k s r kind schema range =
    let b = row_bytes s.number r in
    let again = reads-again s s.kind r range in
    let some : (length b == 0) ≡ false = not_zero (length b) again.some in
    ap (kind_row h k b) kind
    ∙ ap (λ (t : Bool). if t then refused fault.Length else schema_row h k b (schema_of s.kind (slice_index b 0))) some
    ∙ ap (λ n. schema_row h k b (schema_of s.kind n)) again.first
    ∙ ap (schema_row h k b) schema
    ∙ ap (λ (t : Bool). if t then known_row h k (said_at s b) else refused fault.Length) again.length_of
    ∙ ap (known_row h k) (said-again s r range)
  where
    not_zero : (n : ℕ) → 0 < n → (n == 0) ≡ false
    not_zero n h = grind (arith, nat_tests)

pub written_is_read : (h : Hierarchy) (k : Key) (b : List ℕ) (r : Row) → IsWritten k b r
    → row_of h k b ≡ known_row h k (Some r)
written_is_read h k b r w = ap (row_of h k) w.1.bytes ∙ written-read h k w.0 r w.1.kind w.1.schema w.1.range

pub row_is_read : (h : Hierarchy) (k : Key) (b : List ℕ) (r : Row) → IsRow h k b r → row_of h k b ≡ Ok r
row_is_read h k b r w = written_is_read h k b r w.0 ∙ ap (λ (t : Bool). if t then Ok r else refused fault.Unknown) w.1

-- ---- what is read is written so

if_ok : {A : Type 0} (t : Bool) (x : Result A RowFault) (e : RowFault) (r : A) → (if t then x else Err e) ≡ Ok r
    → (t ≡ true) × (x ≡ Ok r)
if_ok true x e r h = (refl, h)
if_ok false x e r h = absurd cc

known-parts : (h : Hierarchy) (k : Key) (o : Option Row) (r : Row) → known_row h k o ≡ Ok r
    → (o ≡ Some r) × (is_known h k r ≡ true)
known-parts h k None r e = absurd cc
known-parts h k (Some q) r e =
    let p = if_ok (is_known h k q) (Ok q) (Code 4) r e in
    let same : q ≡ r = cc in
    (cc, ap (is_known h k) (sym same) ∙ p.0)

said-parts : (s : Schema) (b : List ℕ) (o : Option Row) (r : Row) → option_and_then (where_said s b) o ≡ Some r
    → is_said s b r ≡ true
said-parts s b None r e = absurd cc
said-parts s b (Some q) r e = here (is_said s b q) refl e
  where
    here : (t : Bool) → is_said s b q ≡ t → (if t then Some q else None) ≡ Some r → is_said s b r ≡ true
    here true is e = let same : q ≡ r = cc in ap (is_said s b) (sym same) ∙ is
    here false is e = absurd cc

schema-parts : (k : RowKind) (n : ℕ) (s : Schema) → schema_of k n ≡ Some s → (s.kind ≡ k) × (s.number ≡ n)
schema-parts k n s e = here (nat_le 1 n && _) e
  where
    here : (t : Bool) → (if t then Some (let x : Schema = record { kind = k; number = n } in x) else None) ≡ Some s
        → (s.kind ≡ k) × (s.number ≡ n)
    here true e = let same : (let x : Schema = record { kind = k; number = n } in x) ≡ s = cc in
        (ap (λ (x : Schema). x.kind) (sym same), ap (λ (x : Schema). x.number) (sym same))
    here false e = absurd cc

by-schema : (h : Hierarchy) (k : Key) (b : List ℕ) (kind : RowKind) (o : Option Schema) (r : Row)
    → kind_of k ≡ Some kind → schema_of kind (slice_index b 0) ≡ o → schema_row h k b o ≡ Ok r → IsRow h k b r
by-schema h k b kind None r about is e = absurd cc
by-schema h k b kind (Some s) r about is e =
    let p = if_ok (has_length_of s.kind s b) (known_row h k (said_at s b)) (Code 1) r e in
    let q = known-parts h k (said_at s b) r p.1 in
    let said = and_parts (is_row_in s r) _ (said-parts s b (row_at s.kind s b) r q.0) in
    let of = schema-parts kind (slice_index b 0) s is in (
      (
        s,
        record {
          kind = about ∙ ap (λ x. Some x) (sym of.0);
          schema = ap (λ x. schema_of x s.number) of.0 ∙ ap (schema_of kind) of.1 ∙ is;
          range = said.0;
          bytes = sym ((bytes_eq-Decides (row_bytes s.number r) b).0 said.1);
        },
      ),
      q.1,
    )

by-kind : (h : Hierarchy) (k : Key) (b : List ℕ) (o : Option RowKind) (r : Row) → kind_of k ≡ o
    → kind_row h k b o ≡ Ok r → IsRow h k b r
by-kind h k b None r is e = absurd cc
by-kind h k b (Some kind) r is e = here (length b == 0) e
  where
    here : (t : Bool) → (if t then refused fault.Length else schema_row h k b (schema_of kind (slice_index b 0)))
        ≡ Ok r → IsRow h k b r
    here true e = absurd cc
    here false e = by-schema h k b kind (schema_of kind (slice_index b 0)) r is refl e

pub read_is_row : (h : Hierarchy) (k : Key) (b : List ℕ) (r : Row) → row_of h k b ≡ Ok r → IsRow h k b r
read_is_row h k b r e = by-kind h k b (kind_of k) r refl e

-- ---- what a reading tells of a result

pub reads_row : (h : Hierarchy) (k : Key) (b : List ℕ) (x : Result Row RowFault) → Reads x (row_of h k b)
    → IfOk x (λ r. IsRow h k b r)
reads_row h k b (Ok r) e = read_is_row h k b r e
reads_row h k b (Err f) e = tt

pub reads-along : (x y z : Result Row RowFault) → y ≡ z → Reads x y → Reads x z
reads-along x y z e t = subst (Reads x) e t

pub unknown_row : (h : Hierarchy) (k : Key) (b : List ℕ) (r : Row) → IsWritten k b r → is_known h k r ≡ false
    → row_of h k b ≡ refused fault.Unknown
unknown_row h k b r w n = written_is_read h k b r w ∙ ap (λ (t : Bool). if t then Ok r else refused fault.Unknown) n

pub in_range : (h : Hierarchy) (k : Key) (b : List ℕ) (x : Result Row RowFault) → Reads x (row_of h k b)
    → x ≡ refused fault.Range → (r : Row) → IsWritten k b r → ⊥
in_range h k b x reads is r w =
    let said : row_of h k b ≡ Err (Code 3) = subst (λ y. Reads y (row_of h k b)) is reads in
    here (is_known h k r) (sym (written_is_read h k b r w) ∙ said)
  where
    here : (t : Bool) → (if t then Ok r else refused fault.Unknown) ≡ Err (Code 3) → ⊥
    here true e = cc
    here false e = cc
