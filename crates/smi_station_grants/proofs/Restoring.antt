-- What rows say, put into the tables one by one.
use Rattle.std.proofs.Common.{◌≡◌, ℕ, ◌+◌, ◌-◌, ◌<◌, ◌≤◌, Bool, true, false, List, [], length, get_or, take, refl}
use Rattle.std.proofs.Common.{sym, ap, ◌∙◌, arith}
use Rattle.std.specs.Prelude.{◌==◌, ◌&&◌, ◌||◌, if◌then◌else◌, map, nat_le, replicate}
use Rattle.std.specs.List.{range_with_len}
use Rattle.std.proofs.lemmas.Bool.{eqb-true}
use Rattle.std.proofs.lemmas.Bool.Decides.{nat_tests}
use Rattle.std.proofs.lemmas.List.{get_or-replicate, get_or_past, length-replicate}
use Rattle.std.proofs.lemmas.List.FromFn.{get_or-map-range_with_len, length-map-range_with_len}
use Rattle.std.proofs.lemmas.List.Folds.{list_any_more}
use mathlib.Core.Path.{fun_ext}
use Rattle.smi_grant.specs.declared.Holder.{Holder}
use Rattle.smi_grant.specs.declared.Holder.TheVariants.{Free, Operator, Domain}
use Rattle.smi_grant.specs.Holder.{same_holder}
use Rattle.smi_grant.specs.Record.{Standing, fresh}
use Rattle.smi_command.specs.declared.Link.{Link}
use Rattle.smi_command.specs.declared.Link.TheVariants.{Out}
use Rattle.smi_base.specs.Between.{is_between}
use Rattle.smi_tree.specs.Hierarchy.{Hierarchy}
use Rattle.smi_tree.specs.Lookups.{children_of, domain_count, operator_station_of}
use Rattle.smi_tree.specs.Roles.{is_number, is_parent}
use Rattle.smi_rows.specs.declared.Mode.{Mode}
use Rattle.smi_rows.specs.declared.Mode.TheVariants.{Included}
use Rattle.smi_rows.specs.declared.StoredLink.{StoredLink}
use Rattle.smi_rows.specs.Stored.{KeptDomain}
use Rattle.smi_protocol.specs.Grants.{Grants, no_grants, put, put_link, with_gathered, with_link, with_record}
use Rattle.smi_protocol.specs.Loading.{stored_at}
use Rattle.smi_station_grants.specs.Entries.{entry_or}
use Rattle.smi_station_grants.specs.Children.{is_among, with_child}
use Rattle.smi_station_grants.specs.GrantTable.{Kept, grants_of, link_in}
use Rattle.smi_station_grants.specs.Restored.{first_links, with_children, with_domain, with_links_to}
use Rattle.smi_station_grants.proofs.Among.{among_children}

-- Children.

pick : {X : Type 0} (same here s : Bool) (new old made : X) → (same ≡ true → new ≡ made)
    → (if same && s then new else (if here && s then made else old)) ≡ (if (here || same) && s then made else old)
pick true true true new old made is = is refl
pick true true false new old made is = refl
pick true false true new old made is = is refl
pick true false false new old made is = refl
pick false true true new old made is = refl
pick false true false new old made is = refl
pick false false true new old made is = refl
pick false false false new old made is = refl

plain : (same here : Bool) (new old made : Mode) → (same ≡ true → new ≡ made)
    → (if same then new else (if here then made else old)) ≡ (if here || same then made else old)
plain true true new old made e = e refl
plain true false new old made e = e refl
plain false true new old made e = refl
plain false false new old made e = refl

flip : (x y : ℕ) → (x == y) ≡ (y == x)
flip x y = grind (arith, nat_tests)

abbrev link_to : List StoredLink → ℕ → Link
link_to links x = (stored_at links x).link

abbrev mode_to : List StoredLink → ℕ → Mode
mode_to links x = (stored_at links x).mode

-- one child more
pub child_restored : (g : Grants) (d : ℕ) (links : List StoredLink) (xs : List ℕ) (i x : ℕ) → i < length xs
    → x ≡ get_or xs i x
    → with_child (with_children g d links (take i xs)) d x (stored_at links x).link (stored_at links x).mode
    ≡ with_children g d links (take (i + 1) xs)
child_restored g d links xs i x within is =
    ap (λ (t : Holder → ℕ → Link). record g {
      links = t;
      modes = put (with_children g d links (take i xs)).modes x (mode_to links x);
    })
    (fun_ext (λ who. fun_ext (λ y. at who y)))
    ∙ ap (λ (t : ℕ → Mode). record g { links = (with_children g d links (take (i + 1) xs)).links; modes = t })
    (fun_ext (λ y. in_mode y))
  where
    more : (y : ℕ) → is_among (take (i + 1) xs) y ≡ (is_among (take i xs) y || (y == x))
    more y = list_any_more (λ z. z == y) xs i x within ∙ ap (λ z. is_among (take i xs) y || (z == y)) (sym is)
        ∙ ap (λ b. is_among (take i xs) y || b) (flip x y)

    at : (who : Holder) (y : ℕ) → put_link (with_children g d links (take i xs)).links (Domain d) x (link_to links x)
        who y ≡ (with_children g d links (take (i + 1) xs)).links who y
    at who y = rw (more y) (pick (y == x) (is_among (take i xs) y) (same_holder who (Domain d)) (link_to links x)
        (g.links who y) (link_to links y) (λ e. ap (link_to links) (sym (eqb-true y x e))))

    in_mode : (y : ℕ) → put (with_children g d links (take i xs)).modes x (mode_to links x) y
        ≡ (with_children g d links (take (i + 1) xs)).modes y
    in_mode y = rw (more y) (plain (y == x) (is_among (take i xs) y) (mode_to links x) (g.modes y) (mode_to links y)
        (λ e. ap (mode_to links) (sym (eqb-true y x e))))

pub none_restored : (g : Grants) (d : ℕ) (links : List StoredLink) → g ≡ with_children g d links []
none_restored g d links = refl

-- all of them, and then the record and the code
pub domain_restored : (h : Hierarchy) (g : Grants) (d : ℕ) (row : KeptDomain)
    → with_gathered (with_record (with_children g d row.links (children_of h d)) d row.standing) d row.gathered
    ≡ with_domain h g d row
domain_restored h g d row =
    ap (λ (t : ℕ → Bool). record g {
      records = put g.records d row.standing;
      gathered = put g.gathered d row.gathered;
      links = λ who x. if t x && same_holder who (Domain d) then (stored_at row.links x).link else g.links who x;
      modes = λ x. if t x then (stored_at row.links x).mode else g.modes x;
    }) (fun_ext (λ x. among_children h d x))

-- Domains.

next_between : (n x : ℕ) → is_between 1 (n + 1) x ≡ (is_between 1 n x || (x == n + 1))
next_between n x = grind (arith, nat_tests)

none_between : (x : ℕ) → is_between 1 0 x ≡ false
none_between x = grind (arith, nat_tests)

-- one domain more
pub link_restored : (g : Grants) (o : ℕ) (links : List StoredLink) (n m : ℕ) → m ≡ n + 1
    → with_link (with_links_to n g o links) (Operator o) m (stored_at links m).link ≡ with_links_to (n + 1) g o links
link_restored g o links n m is =
    ap (λ (t : Holder → ℕ → Link). record g { links = t }) (fun_ext (λ who. fun_ext (λ y. at who y)))
  where
    at : (who : Holder) (y : ℕ) → put_link (with_links_to n g o links).links (Operator o) m (link_to links m) who y
        ≡ (with_links_to (n + 1) g o links).links who y
    at who y =
        rw (next_between n y, is)
        (pick (y == n + 1) (is_between 1 n y) (same_holder who (Operator o)) (link_to links (n + 1)) (g.links who y)
        (link_to links y) (λ e. ap (link_to links) (sym (eqb-true y (n + 1) e))))

pub no_link_restored : (g : Grants) (o : ℕ) (links : List StoredLink) → g ≡ with_links_to 0 g o links
no_link_restored g o links =
    ap (λ (t : Holder → ℕ → Link). record g { links = t }) (fun_ext (λ who. fun_ext (λ y. at who y)))
  where
    at : (who : Holder) (y : ℕ) → g.links who y ≡ (with_links_to 0 g o links).links who y
    at who y = rw (none_between y) refl

-- Fresh tables.

entry_replicate : {X : Type 0} (x : X) (n m : ℕ) → entry_or (replicate n x) m x ≡ x
entry_replicate x n m = by (m == 0) (nat_le (length (replicate n x)) (m - 1)) refl
  where
    read : (late : Bool) → nat_le (length (replicate n x)) (m - 1) ≡ late → get_or (replicate n x) (m - 1) x ≡ x
    read true is = get_or_past (replicate n x) (m - 1) x (grind (arith, nat_tests, is))
    read false is =
        let long : length (replicate n x) ≡ n = length-replicate n x in
        get_or-replicate n (m - 1) x x (grind (arith, nat_tests, is, long))

    by : (zeroth late : Bool) → nat_le (length (replicate n x)) (m - 1) ≡ late
        → (if zeroth then x else get_or (replicate n x) (m - 1) x) ≡ x
    by true late is = refl
    by false late is = read late is

entry_at : {X : Type 0} (xs : List X) (n : ℕ) (d : X) → 1 ≤ n → entry_or xs n d ≡ get_or xs (n - 1) d
entry_at xs n d least =
    let positive : (n == 0) ≡ false = grind (arith, nat_tests) in
    rw positive refl

-- the tables of all operators
module _ (h : Hierarchy) (number : ℕ) where
  abbrev tables : ℕ → List (List Link)
  tables n = map (first_links h number) (range_with_len 1 n)

  abbrev Empty : List Link → Type 0
  Empty xs = (d : ℕ) → entry_or xs d (Out 0) ≡ Out 0

  one_empty : (o : ℕ) → Empty (first_links h number o)
  one_empty o = by (is_number (operator_station_of h o) number)
    where
      by : (b : Bool) → Empty (if b then replicate (domain_count h) (Out 0) else replicate 0 (Out 0))
      by true = λ d. entry_replicate (Out 0) (domain_count h) d
      by false = λ d. entry_replicate (Out 0) 0 d

  table_at : (n o : ℕ) → 1 ≤ o → o ≤ n → entry_or (tables n) o [] ≡ first_links h number o
  table_at n o least most =
      entry_at (tables n) o [] least ∙ get_or-map-range_with_len (first_links h number) 1 n (o - 1) o []
      (omega (arith, least, most)) (omega (arith, least))

  all_empty : (n o : ℕ) → Empty (entry_or (tables n) o [])
  all_empty n o = by (is_between 1 n o) refl
    where
      none : Empty []
      none d = entry_replicate (Out 0) 0 d

      outside : is_between 1 n o ≡ false → entry_or (tables n) o [] ≡ []
      outside is = zeroth (o == 0) refl
        where
          zeroth : (b : Bool) → (o == 0) ≡ b → (if b then [] else get_or (tables n) (o - 1) []) ≡ []
          zeroth true z = refl
          zeroth false z =
              let long : length (tables n) ≡ n = length-map-range_with_len (first_links h number) 1 n in
              let past : n ≤ o - 1 = grind (arith, nat_tests) in
              get_or_past (tables n) (o - 1) [] (omega (arith, long, past))

      by : (b : Bool) → is_between 1 n o ≡ b → Empty (entry_or (tables n) o [])
      by true is =
          let least : 1 ≤ o = grind (arith, nat_tests) in
          let most : o ≤ n = grind (arith, nat_tests) in
          λ d. ap (λ xs. entry_or xs d (Out 0)) (table_at n o least most) ∙ one_empty o d
      by false is = λ d. ap (λ xs. entry_or xs d (Out 0)) (outside is) ∙ none d

  pub served_first : (n o : ℕ) → 1 ≤ o → o ≤ n → is_number (operator_station_of h o) number ≡ true
      → length (entry_or (tables n) o []) ≡ domain_count h
  served_first n o least most here =
      ap length (table_at n o least most)
      ∙ ap (λ (b : Bool). length (if b then replicate (domain_count h) (Out 0) else replicate 0 (Out 0))) here
      ∙ length-replicate (domain_count h) (Out 0)

  -- empty tables
  pub first_is : (a b c d n : ℕ) (k : Kept) → k.boot ≡ 0 → k.records ≡ replicate a fresh → k.gathered ≡ replicate b 0
      → k.modes ≡ replicate c Included → k.child_links ≡ replicate d (Out 0)
      → k.operator_links ≡ tables n → grants_of k ≡ no_grants
  first_is a b c d n k boot records gathered modes children operators =
      ap (λ (f : ℕ → Standing). record (grants_of k) { records = f })
      (fun_ext (λ x. ap (λ xs. entry_or xs x fresh) records ∙ entry_replicate fresh a x))
      ∙ ap (λ (f : ℕ → ℕ). record (grants_of k) { records = λ x. fresh; gathered = f })
      (fun_ext (λ x. ap (λ xs. entry_or xs x 0) gathered ∙ entry_replicate 0 b x))
      ∙ ap (λ (f : ℕ → Mode). record (grants_of k) { records = λ x. fresh; gathered = λ x. 0; modes = f })
      (fun_ext (λ x. ap (λ xs. entry_or xs x Included) modes ∙ entry_replicate Included c x))
      ∙ ap (λ (f : Holder → ℕ → Link). record no_grants { boot = k.boot; links = f })
      (fun_ext (λ who. fun_ext (λ x. at who x)))
      ∙ ap (λ z. record no_grants { boot = z }) boot
    where
      child : (b : Bool) (x : ℕ) → (if b then entry_or k.child_links x (Out 0) else Out 0) ≡ Out 0
      child true x = ap (λ xs. entry_or xs x (Out 0)) children ∙ entry_replicate (Out 0) d x
      child false x = refl

      at : (who : Holder) (x : ℕ) → link_in k who x ≡ Out 0
      at Free x = refl
      at (Operator o) x = ap (λ (t : List (List Link)). entry_or (entry_or t o []) x (Out 0)) operators
          ∙ all_empty n o x
      at (Domain p) x = child (is_parent k.tree x p) x
