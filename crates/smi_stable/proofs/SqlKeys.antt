-- Keys as SQL compares them are keys as they are.
use Rattle.std.proofs.Common.{◌≡◌, ℕ, suc, ◌+◌, ◌<◌, ℤ, pos, List, [], ◌∷◌, ◌++◌, length, get_or, drop, find}
use Rattle.std.proofs.Common.{if◌then◌else◌, Option, None, option_map, add-one, Bool, true, false, Some, Ordering}
use Rattle.std.proofs.Common.{Less, Equal, Greater, refl, sym, ap, ◌∙◌, arith}
use Rattle.std.specs.Prelude.{◌&&◌, ◌==◌}
use Rattle.std.specs.Ordering.{is_eq, int_cmp}
use Rattle.std.proofs.Math.Seq.{drop-cons}
use Rattle.sqlite_value.proofs.OrderLemmas.{value_cmp-Int}
use Rattle.std.proofs.lemmas.Bool.Decides.{nat_tests}
use Rattle.sqlite.specs.declared.types.Value.TheVariants.{Int}
use Rattle.sqlite.specs.Collation.TheVariants.{Binary}
use Rattle.sqlite.specs.Order.{Row, value_cmp, column, bytes}
use Rattle.sqlite_sql.specs.Ops.{binary, is_true, from_truth}
use Rattle.sqlite_schema.specs.Rules.{equal}
use Rattle.sqlite_value.specs.Keys.{first_key}
use Rattle.smi_rows.specs.declared.key.Key.{Key}
use Rattle.smi_rows.specs.Store.{Saved, same_key, found_in}
use Rattle.smi_stable.specs.SqlListing.{shown_key, listed_at}
use Rattle.smi_stable.specs.SqlShown.{IsShownAs, or_else}
use Rattle.smi_stable.specs.SqlRows.{has_key}

is_kept : (o : Ordering) → is_true (from_truth (Some (is_eq o))) ≡ is_eq o
is_kept Less = refl
is_kept Equal = refl
is_kept Greater = refl

compared : (a b : ℕ) → is_eq (value_cmp (Int (pos a)) (Int (pos b))) ≡ (a == b)
compared a b = ap is_eq (value_cmp-Int (pos a) (pos b)) ∙ ints a b
  where
    ints : (a b : ℕ) → is_eq (int_cmp (pos a) (pos b)) ≡ (a == b)
    ints a b = grind (arith, nat_tests)

equal-ints : (a b : ℕ) → equal Binary (Int (pos a)) (Int (pos b)) ≡ (a == b)
unfolding binary
equal-ints a b = is_kept (value_cmp (Int (pos a)) (Int (pos b))) ∙ compared a b

and_true : (b : Bool) → (b && true) ≡ b
and_true true = refl
and_true false = refl

pub key-agrees : (key k : Key) (rest : Row) (id : ℤ)
    → has_key (pos k.station) (pos k.domain) (pos k.operator)
    (Int id ∷ Int (pos key.station) ∷ Int (pos key.domain) ∷ Int (pos key.operator) ∷ rest) ≡ same_key key k
unfolding first_key
key-agrees key k rest id =
    ap (λ t. t && (equal Binary (Int (pos key.domain)) (Int (pos k.domain))
    && (equal Binary (Int (pos key.operator)) (Int (pos k.operator)) && true))) (equal-ints key.station k.station)
    ∙ ap (λ t. (key.station == k.station) && (t
    && (equal Binary (Int (pos key.operator)) (Int (pos k.operator)) && true))) (equal-ints key.domain k.domain)
    ∙ ap (λ t. (key.station == k.station) && ((key.domain == k.domain) && t))
    (and_true (equal Binary (Int (pos key.operator)) (Int (pos k.operator))) ∙ equal-ints key.operator k.operator)

-- ---- rows as saved rows

pub shown-agrees : (r : Row) (s : Saved) (k : Key) → IsShownAs r s
    → shown_key (pos k.station) (pos k.domain) (pos k.operator) r ≡ same_key s.key k
unfolding first_key
shown-agrees r s k h =
    ap (λ v. equal Binary v (Int (pos k.station))
    && (equal Binary (column r 1) (Int (pos k.domain))
    && (equal Binary (column r 2) (Int (pos k.operator)) && true))) h.station
    ∙ ap (λ v. equal Binary (Int (pos s.key.station)) (Int (pos k.station))
    && (equal Binary v (Int (pos k.domain)) && (equal Binary (column r 2) (Int (pos k.operator)) && true))) h.domain
    ∙ ap (λ v. equal Binary (Int (pos s.key.station)) (Int (pos k.station))
    && (equal Binary (Int (pos s.key.domain)) (Int (pos k.domain))
    && (equal Binary v (Int (pos k.operator)) && true))) h.operator
    ∙ ap (λ t. t && (equal Binary (Int (pos s.key.domain)) (Int (pos k.domain))
    && (equal Binary (Int (pos s.key.operator)) (Int (pos k.operator)) && true))) (equal-ints s.key.station k.station)
    ∙ ap (λ t. (s.key.station == k.station) && (t
    && (equal Binary (Int (pos s.key.operator)) (Int (pos k.operator)) && true))) (equal-ints s.key.domain k.domain)
    ∙ ap (λ t. (s.key.station == k.station) && ((s.key.domain == k.domain) && t))
    (and_true (equal Binary (Int (pos s.key.operator)) (Int (pos k.operator))) ∙ equal-ints s.key.operator k.operator)

found-behind : (list : List Saved) (s : Saved) (k : Key)
    → found_in (list ++ s ∷ []) k ≡ or_else (found_in list k) (if same_key s.key k then Some s.bytes else None)
found-behind [] s k = refl
found-behind (x ∷ list) s k = here (same_key x.key k) (found-behind list s k)
  where
    here : (t : Bool) → found_in (list ++ s ∷ []) k
        ≡ or_else (found_in list k) (if same_key s.key k then Some s.bytes else None)
        → (if t then Some x.bytes else found_in (list ++ s ∷ []) k)
        ≡ or_else (if t then Some x.bytes else found_in list k) (if same_key s.key k then Some s.bytes else None)
    here true e = refl
    here false e = e

or_else-behind : (a : Option (List ℕ)) (t : Bool) (b : List ℕ) (rest : Option (List ℕ))
    → or_else (or_else a (if t then Some b else None)) rest ≡ or_else a (if t then Some b else rest)
or_else-behind None true b rest = refl
or_else-behind None false b rest = refl
or_else-behind (Some x) t b rest = refl

listed-front : (r : Row) (s : Saved) (more : List Row) (k : Key) → IsShownAs r s →
    listed_at (pos k.station) (pos k.domain) (pos k.operator) (r ∷ more)
    ≡ (if same_key s.key k then Some s.bytes else listed_at (pos k.station) (pos k.domain) (pos k.operator) more)
listed-front r s more k h = here (shown_key (pos k.station) (pos k.domain) (pos k.operator) r) (same_key s.key k)
    (shown-agrees r s k h)
  where
    here : (t u : Bool) → t ≡ u → option_map (λ (x : Row). bytes (column x 3))
        (if t then Some r else find (shown_key (pos k.station) (pos k.domain) (pos k.operator)) more)
        ≡ (if u then Some s.bytes else option_map (λ (x : Row). bytes (column x 3))
        (find (shown_key (pos k.station) (pos k.domain) (pos k.operator)) more))
    here true true e = ap (λ v. Some (bytes v)) h.bytes
    here false false e = refl
    here true false e = absurd cc
    here false true e = absurd cc

pub shown-more : (list new : List Saved) (rows : List Row) (i : ℕ) (r : Row) (s : Saved) (k : Key) → i < length rows
    → r ≡ get_or rows i r → IsShownAs r s → new ≡ list ++ s ∷ [] →
    or_else (found_in new k) (listed_at (pos k.station) (pos k.domain) (pos k.operator) (drop (i + 1) rows))
    ≡ or_else (found_in list k) (listed_at (pos k.station) (pos k.domain) (pos k.operator) (drop i rows))
shown-more list new rows i r s k below at shown pushed =
    let rest = listed_at (pos k.station) (pos k.domain) (pos k.operator) (drop (i + 1) rows) in
    let front : drop i rows ≡ r ∷ drop (i + 1) rows = drop-cons rows i r below
    ∙ ap (λ x. x ∷ drop (suc i) rows) (sym at) ∙ ap (λ n. r ∷ drop n rows) (sym (add-one i)) in
    ap (λ xs. or_else (found_in xs k) rest) pushed
    ∙ ap (λ o. or_else o rest) (found-behind list s k)
    ∙ or_else-behind (found_in list k) (same_key s.key k) s.bytes rest
    ∙ ap (or_else (found_in list k)) (sym (listed-front r s (drop (i + 1) rows) k shown))
    ∙ ap (λ xs. or_else (found_in list k) (listed_at (pos k.station) (pos k.domain) (pos k.operator) xs)) (sym front)
