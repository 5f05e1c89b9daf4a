-- Rows taken one after the other result in what they mean.
use Rattle.std.proofs.Common.{ℕ, ◌≡◌, Bool, true, false, List, [], ◌∷◌, Option, Some, None, Result, Ok, Err, refl}
use Rattle.std.proofs.Common.{sym, ap, ◌∙◌, subst, arith}
use Rattle.std.specs.Prelude.{◌==◌, ◌&&◌, if◌then◌else◌, find, option_and_then, unwrap_or}
use Rattle.std.specs.List.{AllByRecursion}
use Rattle.std.proofs.lemmas.Bool.{eqb-true}
use Rattle.std.proofs.lemmas.Bool.Decides.{nat_tests}
use mathlib.Core.Path.{fun_ext}
use Rattle.smi_grant.specs.declared.Holder.{Holder}
use Rattle.smi_grant.specs.declared.Holder.TheVariants.{Free, Operator, Domain}
use Rattle.smi_grant.specs.Record.{Standing, fresh}
use Rattle.smi_command.specs.declared.Link.{Link}
use Rattle.smi_command.specs.declared.Link.TheVariants.{Out}
use Rattle.smi_tree.specs.Hierarchy.{Hierarchy}
use Rattle.smi_tree.specs.Lookups.{domain_count, parent_of}
use Rattle.smi_rows.specs.declared.Key.{Key}
use Rattle.smi_rows.specs.declared.Mode.{Mode}
use Rattle.smi_rows.specs.declared.Mode.TheVariants.{Included}
use Rattle.smi_rows.specs.declared.Row.{Row}
use Rattle.smi_rows.specs.declared.Row.TheVariants as row
use Rattle.smi_rows.specs.declared.RowFault.{RowFault}
use Rattle.smi_rows.specs.declared.RowFault.TheVariants.{Code, Memory}
use Rattle.smi_rows.specs.declared.RowKind.{RowKind}
use Rattle.smi_rows.specs.declared.RowKind.TheVariants as kind
use Rattle.smi_rows.specs.declared.Schema.{Schema}
use Rattle.smi_rows.specs.declared.StoredLink.{StoredLink}
use Rattle.smi_rows.specs.Key.{kind_of}
use Rattle.smi_tree.specs.Roles.{is_number, is_parent}
use Rattle.smi_base.specs.Between.{is_between}
use Rattle.smi_rows.specs.Ranges.{is_row_of}
use Rattle.smi_rows.specs.Reading.{kept_domain, row_of}
use Rattle.smi_rows.specs.Store.{Rows, Saved, same_key, with_row}
use Rattle.smi_rows.specs.Stored.{KeptDomain, stored}
use Rattle.smi_rows.specs.Written.{IsRow, IsWrittenIn}
use Rattle.smi_rows.proofs.Keys.{same-is}
use Rattle.smi_rows.proofs.Laws.{read_is_row}
use Rattle.smi_protocol.specs.Grants.{Grants, no_grants, put}
use Rattle.smi_protocol.specs.Loading.{boot_of, domain_in, domain_of, grants_in, link_in, links_of, mode_under}
use Rattle.smi_protocol.specs.Loading.{operator_in, read, said, stored_at}
use Rattle.smi_protocol.specs.SavedRows.{key}
use Rattle.smi_protocol.specs.declared.fault.OpenFault.{OpenFault}
use Rattle.smi_station_grants.specs.Restored.{with_domain, with_operator}
use Rattle.smi_station_grants.specs.Migrating.{over}
use Rattle.smi_station_grants.specs.Restoring.{IsOwn, and_then, as_said, as_told, own_row, restored, said_to}
use Rattle.smi_station_grants.proofs.SoundLoading.{IsKeptDomain, IsKeptOperator}
use Rattle.smi_station_grants.proofs.SoundLoading.{domain_kept, domain_row_kept, operator_kept}
use Rattle.smi_station_grants.proofs.SoundLoading.{operator_row_kept, said_row}

clash : {X : Type 0} → true ≡ false → X
clash e = absurd cc

-- Grants from what is kept of domains and operators.

abbrev pub meant_link : (ℕ → KeptDomain) → (ℕ → List StoredLink) → Holder → ℕ → Link
meant_link ds os Free x = Out 0
meant_link ds os (Operator o) x = (stored_at (os o) x).link
meant_link ds os (Domain p) x = (stored_at (ds p).links x).link

abbrev pub meant_mode : (ℕ → KeptDomain) → ℕ → Option ℕ → Mode
meant_mode ds x None = Included
meant_mode ds x (Some p) = (stored_at (ds p).links x).mode

abbrev pub meant : Hierarchy → ℕ → (ℕ → KeptDomain) → (ℕ → List StoredLink) → Grants
meant h boot ds os = record {
  boot = boot;
  records = λ d. (ds d).standing;
  gathered = λ d. (ds d).gathered;
  links = meant_link ds os;
  modes = λ x. meant_mode ds x (parent_of h x);
}

abbrev pub boot_in : Hierarchy → ℕ → Rows → ℕ
boot_in h number rows = boot_of (said h rows (key number 0 0))

pub in_rows : (h : Hierarchy) (number : ℕ) (rows : Rows)
    → grants_in h number rows ≡ meant h (boot_in h number rows) (domain_in h number rows) (operator_in h number rows)
in_rows h number rows =
    ap (λ (t : Holder → ℕ → Link). record (grants_in h number rows) { links = t })
    (fun_ext (λ who. fun_ext (λ x. link who x)))
    ∙ ap (λ (t : ℕ → Mode). record (meant h (boot_in h number rows) (domain_in h number rows)
    (operator_in h number rows)) { modes = t }) (fun_ext (λ x. mode x (parent_of h x)))
  where
    link : (who : Holder) (x : ℕ) → link_in h number rows who x
        ≡ meant_link (domain_in h number rows) (operator_in h number rows) who x
    link Free x = refl
    link (Operator o) x = refl
    link (Domain p) x = refl

    mode : (x : ℕ) (o : Option ℕ) → mode_under h number rows x o ≡ meant_mode (domain_in h number rows) x o
    mode x None = refl
    mode x (Some p) = refl

-- a link that is not stored is new
new_link : (test : ℕ → Bool) (x : ℕ) → test x ≡ false → (links : List StoredLink)
    → AllByRecursion (λ (y : StoredLink). test y.domain ≡ true) links → stored_at links x ≡ stored x (Out 0) Included
new_link test x other [] all = refl
new_link test x other (y ∷ links) all = by (y.domain == x) refl (new_link test x other links all.1)
  where
    by : (b : Bool) → (y.domain == x) ≡ b → stored_at links x ≡ stored x (Out 0) Included
        → unwrap_or (if b then Some y else find (λ (z : StoredLink). z.domain == x) links)
        (stored x (Out 0) Included) ≡ stored x (Out 0) Included
    by true is rest = clash (sym all.0 ∙ ap test (eqb-true y.domain x is) ∙ other)
    by false is rest = rest

-- What a row of each kind changes.

choose : {X Y : Type 0} (f : X → Y) (b : Bool) (one other : X)
    → (if b then f one else f other) ≡ f (if b then one else other)
choose f true one other = refl
choose f false one other = refl

domain_meant : (h : Hierarchy) (boot : ℕ) (ds : ℕ → KeptDomain) (os : ℕ → List StoredLink) (d : ℕ) (k : KeptDomain)
    → IsKeptDomain h d (ds d) → IsKeptDomain h d k
    → with_domain h (meant h boot ds os) d k ≡ meant h boot (put ds d k) os
domain_meant h boot ds os d k old new =
    ap (λ (t : ℕ → Standing). record (with_domain h (meant h boot ds os) d k) { records = t })
    (fun_ext (λ x. choose (λ (z : KeptDomain). z.standing) (x == d) k (ds x)))
    ∙ ap (λ (t : ℕ → ℕ). record (with_domain h (meant h boot ds os) d k) {
      records = λ x. (put ds d k x).standing;
      gathered = t;
    }) (fun_ext (λ x. choose (λ (z : KeptDomain). z.gathered) (x == d) k (ds x)))
    ∙ ap (λ (t : Holder → ℕ → Link). record (meant h boot (put ds d k) os) {
      links = t;
      modes = (with_domain h (meant h boot ds os) d k).modes;
    }) (fun_ext (λ who. fun_ext (λ x. link who x)))
    ∙ ap (λ (t : ℕ → Mode). record (meant h boot (put ds d k) os) { modes = t }) (fun_ext (λ x. mode x (parent_of h x)))
  where
    others : (b : Bool) (new old : Link) → (if b && false then new else old) ≡ old
    others true new old = refl
    others false new old = refl

    outside : (x : ℕ) → is_parent h x d ≡ false → (stored_at (ds d).links x).link ≡ (stored_at k.links x).link
    outside x is =
        ap (λ (y : StoredLink). y.link) (new_link (λ y. is_parent h y d) x is (ds d).links old.children)
        ∙ sym (ap (λ (y : StoredLink). y.link) (new_link (λ y. is_parent h y d) x is k.links new.children))

    own : (x : ℕ) (b : Bool) → is_parent h x d ≡ b
        → (if b && true then (stored_at k.links x).link else (stored_at (ds d).links x).link)
        ≡ (stored_at k.links x).link
    own x true is = refl
    own x false is = outside x is

    child : (p x : ℕ) (b : Bool) → (p == d) ≡ b
        → (if is_parent h x d && b then (stored_at k.links x).link else (stored_at (ds p).links x).link)
        ≡ (stored_at (if b then k else ds p).links x).link
    child p x true is = let same : p ≡ d = eqb-true p d is in rw same (own x (is_parent h x d) refl)
    child p x false is = others (is_parent h x d) (stored_at k.links x).link (stored_at (ds p).links x).link

    link : (who : Holder) (x : ℕ) → (with_domain h (meant h boot ds os) d k).links who x
        ≡ meant_link (put ds d k) os who x
    link Free x = others (is_parent h x d) (stored_at k.links x).link (Out 0)
    link (Operator o) x = others (is_parent h x d) (stored_at k.links x).link (stored_at (os o) x).link
    link (Domain p) x = child p x (p == d) refl

    mode : (x : ℕ) (o : Option ℕ) → (if is_number o d then (stored_at k.links x).mode else meant_mode ds x o)
        ≡ meant_mode (put ds d k) x o
    mode x None = refl
    mode x (Some p) = choose (λ (z : KeptDomain). (stored_at z.links x).mode) (p == d) k (ds p)

operator_meant : (h : Hierarchy) (boot : ℕ) (ds : ℕ → KeptDomain) (os : ℕ → List StoredLink) (o : ℕ)
    (links : List StoredLink) → IsKeptOperator h (os o) → IsKeptOperator h links
    → with_operator h (meant h boot ds os) o links ≡ meant h boot ds (put os o links)
operator_meant h boot ds os o links old new =
    ap (λ (t : Holder → ℕ → Link). record (meant h boot ds os) { links = t })
    (fun_ext (λ who. fun_ext (λ x. link who x)))
  where
    others : (b : Bool) (new old : Link) → (if b && false then new else old) ≡ old
    others true new old = refl
    others false new old = refl

    outside : (x : ℕ) → is_between 1 (domain_count h) x ≡ false → (stored_at (os o) x).link ≡ (stored_at links x).link
    outside x is =
        ap (λ (y : StoredLink). y.link) (new_link (λ y. is_between 1 (domain_count h) y) x is (os o) old.within)
        ∙ sym (ap (λ (y : StoredLink). y.link) (new_link (λ y. is_between 1 (domain_count h) y) x is links new.within))

    own : (x : ℕ) (b : Bool) → is_between 1 (domain_count h) x ≡ b
        → (if b && true then (stored_at links x).link else (stored_at (os o) x).link) ≡ (stored_at links x).link
    own x true is = refl
    own x false is = outside x is

    mine : (q x : ℕ) (b : Bool) → (q == o) ≡ b
        → (if is_between 1 (domain_count h) x && b then (stored_at links x).link else (stored_at (os q) x).link)
        ≡ (stored_at (if b then links else os q) x).link
    mine q x true is = let same : q ≡ o = eqb-true q o is in rw same (own x (is_between 1 (domain_count h) x) refl)
    mine q x false is = others (is_between 1 (domain_count h) x) (stored_at links x).link (stored_at (os q) x).link

    link : (who : Holder) (x : ℕ) → (with_operator h (meant h boot ds os) o links).links who x
        ≡ meant_link ds (put os o links) who x
    link Free x = others (is_between 1 (domain_count h) x) (stored_at links x).link (Out 0)
    link (Operator q) x = mine q x (q == o) refl
    link (Domain p) x = others (is_between 1 (domain_count h) x) (stored_at links x).link
        (stored_at (ds p).links x).link

-- One row more.

said_with : (h : Hierarchy) (rows : Rows) (k : Key) (b : List ℕ) (r : Row) → row_of h k b ≡ Ok r → (j : Key)
    → said h (with_row k b rows) j ≡ (if same_key k j then Some r else said h rows j)
said_with h rows k b r is j = by (same_key k j) refl
  where
    by : (t : Bool) → same_key k j ≡ t → option_and_then (λ c. read (row_of h j c)) (if t then Some b else rows j)
        ≡ (if t then Some r else said h rows j)
    by true same = ap read (ap (λ z. row_of h z b) (sym (same-is k j same)) ∙ is)
    by false other = refl

key_at : (k : Key) (number d o : ℕ) → k.station ≡ number → k.domain ≡ d → k.operator ≡ o → k ≡ key number d o
key_at k number d o station domain operator =
    ap (λ n. key n k.domain k.operator) station ∙ ap (λ n. key number n k.operator) domain
    ∙ ap (λ n. key number d n) operator

-- the key of a row tells what it is about
abbrev pub kind_for : Row → RowKind
kind_for (row.Boot boot) = kind.Boot
kind_for (row.Domain d) = kind.Domain
kind_for (row.Operator links) = kind.Operator

row_kind : (s : Schema) (a : RowKind) (r : Row) → is_row_of a s r ≡ true → a ≡ kind_for r
row_kind s kind.Boot (row.Boot boot) range = refl
row_kind s kind.Boot (row.Domain d) range = clash (sym range)
row_kind s kind.Boot (row.Operator links) range = clash (sym range)
row_kind s kind.Domain (row.Boot boot) range = clash (sym range)
row_kind s kind.Domain (row.Domain d) range = refl
row_kind s kind.Domain (row.Operator links) range = clash (sym range)
row_kind s kind.Operator (row.Boot boot) range = clash (sym range)
row_kind s kind.Operator (row.Domain d) range = clash (sym range)
row_kind s kind.Operator (row.Operator links) range = refl

key_kind : (h : Hierarchy) (k : Key) (b : List ℕ) (r : Row) → IsRow h k b r → kind_of k ≡ Some (kind_for r)
key_kind h k b r is = let w : IsWrittenIn is.0.0 k b r = is.0.1 in
    w.kind ∙ ap Some (row_kind is.0.0 is.0.0.kind r w.range)

-- what is nothing of the key is 0
abbrev pub IsAbout : RowKind → Bool → Bool → Type 0
IsAbout kind.Boot o d = (o ≡ true) × (d ≡ true)
IsAbout kind.Domain o d = (o ≡ true) × (d ≡ false)
IsAbout kind.Operator o d = (o ≡ false) × (d ≡ true)

about : (k : Key) (a : RowKind) → kind_of k ≡ Some a → IsAbout a (k.operator == 0) (k.domain == 0)
about k a is = by (k.operator == 0) (k.domain == 0) is
  where
    by : (o d : Bool)
        → (if o then (if d then Some kind.Boot else Some kind.Domain) else (if d then Some kind.Operator else None))
        ≡ Some a → IsAbout a o d
    by true true i = let same : kind.Boot ≡ a = cc in subst (λ z. IsAbout z true true) same (refl, refl)
    by true false i = let same : kind.Domain ≡ a = cc in subst (λ z. IsAbout z true false) same (refl, refl)
    by false true i = let same : kind.Operator ≡ a = cc in subst (λ z. IsAbout z false true) same (refl, refl)
    by false false i = absurd cc

pub row_about : (h : Hierarchy) (k : Key) (b : List ℕ) (r : Row) → row_of h k b ≡ Ok r
    → IsAbout (kind_for r) (k.operator == 0) (k.domain == 0)
row_about h k b r is = about k (kind_for r) (key_kind h k b r (read_is_row h k b r is))

-- nothing is said of a domain or an operator under the key of the boot
boot_said : (h : Hierarchy) (number : ℕ) (rows : Rows)
    → (domain_in h number rows 0 ≡ kept_domain fresh 0 []) × (operator_in h number rows 0 ≡ [])
boot_said h number rows = by (said h rows (key number 0 0)) refl
  where
    of_row : (r : Row) (b : List ℕ) → IsRow h (key number 0 0) b r
        → (domain_of (Some r) ≡ kept_domain fresh 0 []) × (links_of (Some r) ≡ [])
    of_row (row.Boot boot) b is = (refl, refl)
    of_row (row.Domain d) b is = let wrong : Some kind.Boot
        ≡ Some kind.Domain = key_kind h (key number 0 0) b (row.Domain d) is in absurd cc
    of_row (row.Operator links) b is = let wrong
        : Some kind.Boot ≡ Some kind.Operator = key_kind h (key number 0 0) b (row.Operator links) is in absurd cc

    by : (o : Option Row) → said h rows (key number 0 0) ≡ o
        → (domain_of o ≡ kept_domain fresh 0 []) × (links_of o ≡ [])
    by None is = (refl, refl)
    by (Some r) is = let there = said_row h rows (key number 0 0) r is in of_row r there.0 there.1

-- the same of all domains and operators
pub same_meant : (h : Hierarchy) (a b : ℕ) (ds es : ℕ → KeptDomain) (os ps : ℕ → List StoredLink) → a ≡ b
    → ((x : ℕ) → ds x ≡ es x) → ((x : ℕ) → os x ≡ ps x) → meant h a ds os ≡ meant h b es ps
same_meant h a b ds es os ps boot domains operators =
    let all : ds ≡ es = fun_ext domains in
    let others : os ≡ ps = fun_ext operators in
    ap (λ n. meant h n ds os) boot ∙ ap (λ (t : ℕ → KeptDomain). meant h b t os) all
    ∙ ap (λ (t : ℕ → List StoredLink). meant h b es t) others

module _ (h : Hierarchy) (number : ℕ) (rows : Rows) (b : List ℕ) where
  abbrev ds : ℕ → KeptDomain
  ds = domain_in h number rows

  abbrev os : ℕ → List StoredLink
  os = operator_in h number rows

  same_domain : (d x : ℕ) → same_key (key number d 0) (key number x 0) ≡ (x == d)
  same_domain d x = grind (arith, nat_tests)

  same_operator : (o x : ℕ) → same_key (key number 0 o) (key number 0 x) ≡ (x == o)
  same_operator o x = grind (arith, nat_tests)

  no_operator : (d x : ℕ) → (d == 0) ≡ false → same_key (key number d 0) (key number 0 x) ≡ false
  no_operator d x is = grind (arith, nat_tests)

  no_domain : (o x : ℕ) → (o == 0) ≡ false → same_key (key number 0 o) (key number x 0) ≡ false
  no_domain o x is = grind (arith, nat_tests)

  boot_taken : (boot : ℕ) → row_of h (key number 0 0) b ≡ Ok (row.Boot boot)
      → grants_in h number (with_row (key number 0 0) b rows) ≡ record (grants_in h number rows) { boot = boot }
  boot_taken boot is =
      in_rows h number (with_row (key number 0 0) b rows)
      ∙ same_meant h _ boot _ ds _ os
      (ap boot_of (with 0 0 ∙ ap (λ t. if t then Some (row.Boot boot) else said h rows (key number 0 0))
      (same_domain 0 0)))
      (λ x. ap domain_of (with x 0 ∙ ap (λ t. if t then Some (row.Boot boot) else said h rows (key number x 0))
      (same_domain 0 x)) ∙ domain x (x == 0) refl)
      (λ x. ap links_of (with 0 x ∙ ap (λ t. if t then Some (row.Boot boot) else said h rows (key number 0 x))
      (same_operator 0 x)) ∙ operator x (x == 0) refl)
      ∙ ap (λ (g : Grants). record g { boot = boot }) (sym (in_rows h number rows))
    where
      with : (d o : ℕ) → said h (with_row (key number 0 0) b rows) (key number d o)
          ≡ (if same_key (key number 0 0) (key number d o) then Some (row.Boot boot) else said h rows (key number d o))
      with d o = said_with h rows (key number 0 0) b (row.Boot boot) is (key number d o)

      domain : (x : ℕ) (t : Bool) → (x == 0) ≡ t
          → domain_of (if t then Some (row.Boot boot) else said h rows (key number x 0)) ≡ ds x
      domain x true zeroth = let none : x ≡ 0 = eqb-true x 0 zeroth in rw none (sym (boot_said h number rows).0)
      domain x false zeroth = refl

      operator : (x : ℕ) (t : Bool) → (x == 0) ≡ t
          → links_of (if t then Some (row.Boot boot) else said h rows (key number 0 x)) ≡ os x
      operator x true zeroth = let none : x ≡ 0 = eqb-true x 0 zeroth in rw none (sym (boot_said h number rows).1)
      operator x false zeroth = refl

  domain_taken : (d : ℕ) (k : KeptDomain) → (d == 0) ≡ false → row_of h (key number d 0) b ≡ Ok (row.Domain k)
      → grants_in h number (with_row (key number d 0) b rows) ≡ with_domain h (grants_in h number rows) d k
  domain_taken d k some is =
      in_rows h number (with_row (key number d 0) b rows)
      ∙ same_meant h _ (boot_in h number rows) _ (put ds d k) _ os
      (ap boot_of (with 0 0 ∙ ap (λ t. if t then Some (row.Domain k) else said h rows (key number 0 0))
      (no_operator d 0 some)))
      (λ x. ap domain_of (with x 0 ∙ ap (λ t. if t then Some (row.Domain k) else said h rows (key number x 0))
      (same_domain d x)) ∙ sym (choose domain_of (x == d) (Some (row.Domain k)) (said h rows (key number x 0))))
      (λ x. ap links_of (with 0 x ∙ ap (λ t. if t then Some (row.Domain k) else said h rows (key number 0 x))
      (no_operator d x some)))
      ∙ sym (domain_meant h (boot_in h number rows) ds os d k (domain_kept h number rows d)
      (domain_row_kept h number rows d b k (read_is_row h (key number d 0) b (row.Domain k) is)))
      ∙ ap (λ g. with_domain h g d k) (sym (in_rows h number rows))
    where
      with : (x o : ℕ) → said h (with_row (key number d 0) b rows) (key number x o)
          ≡ (if same_key (key number d 0) (key number x o) then Some (row.Domain k) else said h rows (key number x o))
      with x o = said_with h rows (key number d 0) b (row.Domain k) is (key number x o)

  operator_taken : (o : ℕ) (links : List StoredLink) → (o == 0) ≡ false
      → row_of h (key number 0 o) b ≡ Ok (row.Operator links)
      → grants_in h number (with_row (key number 0 o) b rows) ≡ with_operator h (grants_in h number rows) o links
  operator_taken o links some is =
      in_rows h number (with_row (key number 0 o) b rows)
      ∙ same_meant h _ (boot_in h number rows) _ ds _ (put os o links)
      (ap boot_of (with 0 0 ∙ ap (λ t. if t then Some (row.Operator links) else said h rows (key number 0 0))
      (no_domain o 0 some)))
      (λ x. ap domain_of (with x 0 ∙ ap (λ t. if t then Some (row.Operator links) else said h rows (key number x 0))
      (no_domain o x some)))
      (λ x. ap links_of (with 0 x ∙ ap (λ t. if t then Some (row.Operator links) else said h rows (key number 0 x))
      (same_operator o x))
      ∙ sym (choose links_of (x == o) (Some (row.Operator links)) (said h rows (key number 0 x))))
      ∙ sym (operator_meant h (boot_in h number rows) ds os o links (operator_kept h number rows o)
      (operator_row_kept h number rows o b links (read_is_row h (key number 0 o) b (row.Operator links) is)))
      ∙ ap (λ g. with_operator h g o links) (sym (in_rows h number rows))
    where
      with : (x y : ℕ) → said h (with_row (key number 0 o) b rows) (key number x y)
          ≡ (if same_key (key number 0 o) (key number x y) then Some (row.Operator links)
          else said h rows (key number x y))
      with x y = said_with h rows (key number 0 o) b (row.Operator links) is (key number x y)

  -- a row of the station
  pub own_taken : (k : Key) (r : Row) → k.station ≡ number → row_of h k b ≡ Ok r
      → grants_in h number (with_row k b rows) ≡ as_said h (grants_in h number rows) k r
  own_taken k (row.Boot boot) mine is =
      let a = row_about h k b (row.Boot boot) is in
      let same : k ≡ key number 0 0 = key_at k number 0 0 mine (eqb-true k.domain 0 a.1) (eqb-true k.operator 0 a.0) in
      ap (λ j. grants_in h number (with_row j b rows)) same ∙ boot_taken boot (ap (λ j. row_of h j b) (sym same) ∙ is)
  own_taken k (row.Domain d) mine is =
      let a = row_about h k b (row.Domain d) is in
      let same : k ≡ key number k.domain 0 = key_at k number k.domain 0 mine refl (eqb-true k.operator 0 a.0) in
      ap (λ j. grants_in h number (with_row j b rows)) same
      ∙ domain_taken k.domain d a.1 (ap (λ j. row_of h j b) (sym same) ∙ is)
  own_taken k (row.Operator links) mine is =
      let a = row_about h k b (row.Operator links) is in
      let same : k ≡ key number 0 k.operator = key_at k number 0 k.operator mine (eqb-true k.domain 0 a.1) refl in
      ap (λ j. grants_in h number (with_row j b rows)) same
      ∙ operator_taken k.operator links a.0 (ap (λ j. row_of h j b) (sym same) ∙ is)

  -- a row of another station
  other_taken : (k : Key) → (k.station == number) ≡ false
      → grants_in h number (with_row k b rows) ≡ grants_in h number rows
  other_taken k other =
      in_rows h number (with_row k b rows)
      ∙ same_meant h _ (boot_in h number rows) _ ds _ os (ap boot_of (apart 0 0)) (λ x. ap domain_of (apart x 0))
      (λ x. ap links_of (apart 0 x))
      ∙ sym (in_rows h number rows)
    where
      apart : (d o : ℕ) → said h (with_row k b rows) (key number d o) ≡ said h rows (key number d o)
      apart d o = ap (λ t. option_and_then (λ c. read (row_of h (key number d o) c))
          (if t && (k.domain == d && k.operator == o) then Some b else rows (key number d o))) other

-- What the station is told by a row.

-- a row that it is told says it of its own
pub told_own : (h : Hierarchy) (number : ℕ) (r : Saved) (said : Row) → said_to h number r ≡ Ok (Some said)
    → (r.key.station ≡ number) × (row_of h r.key r.bytes ≡ Ok said)
told_own h number r said is = by (r.key.station == number) refl is
  where
    read_to : (x : Result Row RowFault) → own_row r.key x ≡ Ok (Some said) → x ≡ Ok said
    read_to (Ok y) i = let same : y ≡ said = cc in ap Ok same
    read_to (Err (Code n)) i = absurd cc
    read_to (Err Memory) i = absurd cc

    by : (t : Bool) → (r.key.station == number) ≡ t
        → (if t then own_row r.key (row_of h r.key r.bytes) else Ok None) ≡ Ok (Some said)
        → (r.key.station ≡ number) × (row_of h r.key r.bytes ≡ Ok said)
    by true mine i = (eqb-true r.key.station number mine, read_to (row_of h r.key r.bytes) i)
    by false mine i = absurd cc

-- a row of which it is told nothing is another's
pub told_none : (h : Hierarchy) (number : ℕ) (r : Saved) → said_to h number r ≡ Ok None
    → (r.key.station == number) ≡ false
told_none h number r is = by (r.key.station == number) refl is
  where
    never : (x : Result Row RowFault) → own_row r.key x ≡ Ok None → ⊥
    never (Ok y) i = cc
    never (Err (Code n)) i = cc
    never (Err Memory) i = cc

    by : (t : Bool) → (r.key.station == number) ≡ t
        → (if t then own_row r.key (row_of h r.key r.bytes) else Ok None) ≡ Ok None → (r.key.station == number) ≡ false
    by true mine i = absurd (never (row_of h r.key r.bytes) i)
    by false mine i = mine

pub own_row_is : (h : Hierarchy) (number : ℕ) (r : Saved) (said : Row) → said_to h number r ≡ Ok (Some said)
    → IsOwn h number r.key said
own_row_is h number r said is =
    let own = told_own h number r said is in
    (own.0, (read_is_row h r.key r.bytes said own.1).1)

-- with a row more, the rows mean what the grants are with it
row_taken : (h : Hierarchy) (number : ℕ) (rows : Rows) (r : Saved) (said : Option Row) → said_to h number r ≡ Ok said
    → grants_in h number (with_row r.key r.bytes rows) ≡ as_told h (grants_in h number rows) r.key said
row_taken h number rows r None is = other_taken h number rows r.bytes r.key (told_none h number r is)
row_taken h number rows r (Some said) is = let own = told_own h number r said is in
    own_taken h number rows r.bytes r.key said own.0 own.1

-- All rows.

abbrev pub no_rows : Rows
no_rows k = None

-- they mean the grants that are restored
pub restored_means : (h : Hierarchy) (number : ℕ) (rows : Rows) (list : List Saved) (g k : Grants)
    → g ≡ grants_in h number rows → restored h number g list ≡ Ok k → k ≡ grants_in h number (over rows list)
restored_means h number rows [] g k from is = let same : g ≡ k = cc in sym same ∙ from
restored_means h number rows (r ∷ more) g k from is =
    by (said_to h number r) refl is (λ g from is. restored_means h number (with_row r.key r.bytes rows)
    more g k from is)
  where
    by : (t : Result (Option Row) OpenFault) → said_to h number r ≡ t
        → and_then (λ j. restored h number j more) (and_then (λ said. Ok (as_told h g r.key said)) t) ≡ Ok k
        → ((g : Grants) → g ≡ grants_in h number (with_row r.key r.bytes rows) → restored h number g more ≡ Ok k
        → k ≡ grants_in h number (over (with_row r.key r.bytes rows) more))
        → k ≡ grants_in h number (over (with_row r.key r.bytes rows) more)
    by (Ok said) told i rest = rest (as_told h g r.key said)
        (ap (λ j. as_told h j r.key said) from ∙ sym (row_taken h number rows r said told)) i
    by (Err fault) told i rest = absurd cc

pub none_mean : (h : Hierarchy) (number : ℕ) → no_grants ≡ grants_in h number no_rows
none_mean h number =
    ap (λ (t : Holder → ℕ → Link). record no_grants { links = t }) (fun_ext (λ who. fun_ext (λ x. link who x)))
    ∙ ap (λ (t : ℕ → Mode). record no_grants { links = link_in h number no_rows; modes = t })
    (fun_ext (λ x. mode x (parent_of h x)))
  where
    link : (who : Holder) (x : ℕ) → Out 0 ≡ link_in h number no_rows who x
    link Free x = refl
    link (Operator o) x = refl
    link (Domain p) x = refl

    mode : (x : ℕ) (o : Option ℕ) → Included ≡ mode_under h number no_rows x o
    mode x None = refl
    mode x (Some p) = refl
