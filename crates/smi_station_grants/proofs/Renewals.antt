-- What a migration has to save again, whole or in part, and how many rows that are.
use Rattle.std.proofs.Common.{ℕ, ◌≡◌, ◌<◌, ◌^◌, ◌⊎◌, inl, inr, Bool, true, false, List, [], ◌∷◌, length, take, Some}
use Rattle.std.proofs.Common.{None, refl, sym, ap, ◌∙◌, subst}
use Rattle.std.specs.Prelude.{count_by, if◌then◌else◌}
use mathlib.Core.Path.{fun_ext}
use Rattle.smi_tree.specs.Hierarchy.{Hierarchy}
use Rattle.smi_tree.specs.Lawful.{IsTree}
use Rattle.smi_rows.specs.declared.Key.{Key}
use Rattle.smi_rows.specs.Store.{IsListing, IsSame, Rows, Saved, found_in, is_before, rises, same_key, saved}
use Rattle.smi_rows.proofs.Keys.{after-else, before-other, same-is, same-itself}
use Rattle.smi_station_grants.specs.Migrating.{Counts, IsPartly, IsSavedPartly, IsToRenew, in_newest, is_renewed, over}
use Rattle.smi_station_grants.proofs.Opening.{not_again, not_behind, not_found, rest_rises}
use Rattle.smi_station_grants.proofs.Migrated.{partly, wholly, few_renewals, counted}

-- Rows have one listing.

either_before : (a b : Key) → (same_key a b ≡ true) ⊎ ((is_before a b ≡ true) ⊎ (is_before b a ≡ true))
either_before a b = by (same_key a b) (is_before a b) refl refl
  where
    by : (s t : Bool) → same_key a b ≡ s → is_before a b ≡ t
        → (same_key a b ≡ true) ⊎ ((is_before a b ≡ true) ⊎ (is_before b a ≡ true))
    by true t s e = inl s
    by false true s e = inr (inl e)
    by false false s e = inr (inr (after-else a b e s))

first_found : (r : Saved) (xs : List Saved) → found_in (r ∷ xs) r.key ≡ Some r.bytes
first_found r xs = ap (λ t. if t then Some r.bytes else found_in xs r.key) (same-itself r.key)

not_first : (r s : Saved) (xs : List Saved) → rises (s ∷ xs) ≡ true → is_before r.key s.key ≡ true
    → found_in (s ∷ xs) r.key ≡ None
not_first r s xs rising first =
    ap (λ t. if t then Some s.bytes else found_in xs r.key) (before-other r.key s.key first)
    ∙ not_found s.key xs r.key rising (not_behind s.key r.key first)

listed_once : (xs ys : List Saved) → rises xs ≡ true → rises ys ≡ true
    → ((k : Key) → found_in xs k ≡ found_in ys k) → xs ≡ ys
listed_once [] [] x y same = refl
listed_once [] (s ∷ ys) x y same = let wrong : None ≡ Some s.bytes = same s.key ∙ first_found s ys in absurd cc
listed_once (r ∷ xs) [] x y same = let wrong : None ≡ Some r.bytes = sym (same r.key) ∙ first_found r xs in absurd cc
listed_once (r ∷ xs) (s ∷ ys) x y same = elim (either_before r.key s.key) [
  | inl here ↦ whole here (listed_once xs ys (rest_rises r xs x) (rest_rises s ys y))
  | inr apart ↦ elim apart [
    | inl first ↦ let wrong : Some r.bytes ≡ None = sym (first_found r xs) ∙ same r.key ∙ not_first r s ys y first in
        absurd cc
    | inr second ↦ let wrong : Some s.bytes ≡ None = sym (first_found s ys) ∙ sym (same s.key)
        ∙ not_first s r xs x second in absurd cc
  ]
]
  where
    whole : same_key r.key s.key ≡ true → (((k : Key) → found_in xs k ≡ found_in ys k) → xs ≡ ys) → r ∷ xs ≡ s ∷ ys
    whole here later =
        let keys : r.key ≡ s.key = same-is r.key s.key here in
        let found : Some r.bytes ≡ Some s.bytes = sym (first_found r xs) ∙ same r.key ∙ ap (found_in (s ∷ ys)) keys
        ∙ first_found s ys in
        let bytes : r.bytes ≡ s.bytes = cc in
        let one : r ≡ s = ap (λ k. saved k r.bytes) keys ∙ ap (λ b. saved s.key b) bytes in
        ap (λ (z : Saved). z ∷ xs) one ∙ ap (λ zs. s ∷ zs) (later (λ k. other k (same_key r.key k) refl))
      where
        other : (k : Key) (t : Bool) → same_key r.key k ≡ t → found_in xs k ≡ found_in ys k
        other k true is =
            not_again r xs k x is
            ∙ sym (not_again s ys k y (ap (λ j. same_key j k) (sym (same-is r.key s.key here)) ∙ is))
        other k false is =
            sym (ap (λ u. if u then Some r.bytes else found_in xs k) is) ∙ same k
            ∙ ap (λ u. if u then Some s.bytes else found_in ys k)
            (ap (λ j. same_key j k) (sym (same-is r.key s.key here)) ∙ is)

-- What is to be saved again.

-- the same list by another name
pub named_so : {h : Hierarchy} {number : ℕ} {rows : Rows} {items had : List Saved} → had ≡ items
    → IsToRenew h number rows items → IsToRenew h number rows had
named_so {h = h} {number = number} {rows = rows} is to =
    subst (λ (xs : List Saved). IsToRenew h number rows xs) (sym is) to

module _ {h : Hierarchy} {number : ℕ} {rows : Rows} {items : List Saved} (to : IsToRenew h number rows items) where
  -- of the rows as they were loaded
  module _ {loaded : Rows} (same : IsSame loaded rows) {after : Rows} where
    pub saved_partly : IsSavedPartly loaded items after → IsPartly h number rows after
    saved_partly part =
        partly h number to.list to.told rows to.listing part.count after
        (λ k. part.rows k ∙ ap (λ (r : Rows). over r (take part.count items) k) (fun_ext same)
        ∙ ap (λ (xs : List Saved). over rows (take part.count xs) k) to.renewed)

    pub saved_wholly : IsSame after (over loaded items) → IsSame after (in_newest h number rows)
    saved_wholly is =
        wholly h number to.list to.told rows to.listing after
        (λ k. is k ∙ ap (λ (r : Rows). over r items k) (fun_ext same)
        ∙ ap (λ (xs : List Saved). over rows xs k) to.renewed)

  pub few_to_renew : IsTree h → length items < 2 ^ 32
  few_to_renew tree = subst (λ (xs : List Saved). length xs < 2 ^ 32) (sym to.renewed)
      (few_renewals h number tree to.list to.listing.rises to.told)

  pub count_to_renew : (list : List Saved) → IsListing rows list → length items ≡ count_by (is_renewed number) list
  count_to_renew list listing =
      ap length to.renewed ∙ counted h number to.list to.told
      ∙ ap (λ (xs : List Saved). count_by (is_renewed number) xs)
      (listed_once to.list list to.listing.rises listing.rises (λ k. to.listing.same k ∙ sym (listing.same k)))

  -- this many there are
  pub are_counted : (n : ℕ) → n ≡ length items → Counts number rows n
  are_counted n is = record {
    list = to.list;
    listing = to.listing;
    count = is ∙ ap length to.renewed ∙ counted h number to.list to.told;
  }
