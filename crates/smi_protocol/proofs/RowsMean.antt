-- What a station has saved means what it keeps.
use Rattle.std.proofs.Common.{ℕ, ◌≡◌, Bool, true, false, List, [], ◌∷◌, ◌⊎◌, inl, inr, Option, Some, None, refl, sym}
use Rattle.std.proofs.Common.{ap, ◌∙◌, arith}
use Rattle.std.specs.Prelude.{◌==◌, find, unwrap_or, if◌then◌else◌}
use Rattle.std.specs.List.{cons_option, filter_map, range_with_len}
use Rattle.std.proofs.lemmas.Bool.{eqb-true}
use Rattle.smi_grant.specs.declared.Holder.TheVariants.{Operator, Domain}
use Rattle.smi_grant.specs.Record.{fresh}
use Rattle.smi_tree.specs.Hierarchy.{Hierarchy}
use Rattle.smi_tree.specs.Lookups.{children_of, domain_count, parent_of}
use Rattle.smi_command.specs.declared.Link.{Link}
use Rattle.smi_command.specs.declared.Link.TheVariants.{Out, Taking, Held, Dropping}
use Rattle.smi_rows.specs.declared.Mode.{Mode}
use Rattle.smi_rows.specs.declared.Mode.TheVariants.{Included}
use Rattle.smi_rows.specs.declared.Row.{Row}
use Rattle.smi_rows.specs.declared.Row.TheVariants as row
use Rattle.smi_rows.specs.declared.StoredLink.{StoredLink}
use Rattle.smi_command.specs.Link.{is_held}
use Rattle.smi_rows.specs.Reading.{kept_domain}
use Rattle.smi_rows.specs.Store.{Rows}
use Rattle.smi_rows.specs.Stored.{KeptDomain, stored}
use Rattle.smi_protocol.specs.Grants.{Grants}
use Rattle.smi_protocol.specs.Loading.{AreSaved, KeepsTheSame, boot_of, domain_in, domain_of, grants_in, links_of}
use Rattle.smi_protocol.specs.Loading.{mode_under, stored_at}
use Rattle.smi_tree.specs.Roles.{is_keeper}
use Rattle.smi_protocol.specs.SavedRows.{child_links, domain_row, is_new, operator_links, operator_row, stored_if}
use Rattle.smi_protocol.specs.Sound.{In, IsSound}
use Rattle.smi_protocol.proofs.Lists.{in_range}
use Rattle.smi_protocol.proofs.Ranges.{is_within}
use Rattle.smi_protocol.proofs.Tables.{child_in, number_is, number_self}

-- a new link is out, and nothing was heard
new_out : (l : Link) → is_new l ≡ true → Out 0 ≡ l
new_out (Out k) new = ap Out (sym (eqb-true k 0 new))
new_out (Taking s) new = absurd cc
new_out (Held e n p) new = absurd cc
new_out (Dropping e) new = absurd cc

-- among what is stored of some domains, the link to one of them is found, or it is new
module _ (l : ℕ → Link) (m : ℕ → Mode) (y : ℕ) where
  abbrev of_y : StoredLink → Bool
  of_y z = z.domain == y

  abbrev Found : List ℕ → Type 0
  Found xs = ((find of_y (filter_map (λ x. stored_if x (l x) (m x)) xs) ≡ None) × (In y xs → is_new (l y) ≡ true))
      ⊎ (find of_y (filter_map (λ x. stored_if x (l x) (m x)) xs) ≡ Some (stored y (l y) (m y)))

  found_stored : (xs : List ℕ) → Found xs
  found_stored [] = inl (refl, λ a. absurd a)
  found_stored (x ∷ xs) = by (is_new (l x)) refl (found_stored xs)
    where
      with_head : Option StoredLink → Type 0
      with_head o =
          ((find of_y (cons_option o (filter_map (λ x. stored_if x (l x) (m x)) xs)) ≡ None)
          × (In y (x ∷ xs) → is_new (l y) ≡ true))
          ⊎ (find of_y (cons_option o (filter_map (λ x. stored_if x (l x) (m x)) xs)) ≡ Some (stored y (l y) (m y)))

      either_here : (s : Bool) → (x == y) ≡ s → Found xs → with_head (Some (stored x (l x) (m x)))
      either_here true is rest =
          let same : x ≡ y = eqb-true x y is in
          inr (ap (λ b. if b then Some (stored x (l x) (m x))
          else find of_y (filter_map (λ x. stored_if x (l x) (m x)) xs)) is
          ∙ ap (λ z. Some (stored z (l z) (m z))) same)
      either_here false is (inl rest) = inl (
        ap (λ b. if b then Some (stored x (l x) (m x)) else find of_y (filter_map (λ x. stored_if x (l x) (m x)) xs))
            is ∙ rest.0,
        λ a. elim a [
          | inl same ↦ absurd (let wrong : true ≡ false = sym (number_self y) ∙ ap (λ z. z == y) same ∙ is in cc)
          | inr b ↦ rest.1 b
        ],
      )
      either_here false is (inr rest) =
          inr (ap (λ b. if b then Some (stored x (l x) (m x))
          else find of_y (filter_map (λ x. stored_if x (l x) (m x)) xs)) is ∙ rest)

      by : (b : Bool) → is_new (l x) ≡ b → Found xs → with_head (if b then None else Some (stored x (l x) (m x)))
      by true new (inl rest) =
          inl (rest.0, λ a. elim a [ inl same ↦ ap (λ z. is_new (l z)) same ∙ new | inr b ↦ rest.1 b ])
      by true new (inr rest) = inr rest
      by false new rest = either_here (x == y) refl rest

  pub stored_link : (xs : List ℕ) → In y xs → (stored_at (filter_map (λ x. stored_if x (l x) (m x)) xs) y).link ≡ l y
  stored_link xs a = elim (found_stored xs) [
    | inl none ↦ ap (λ o. (unwrap_or o (stored y (Out 0) Included)).link) none.0 ∙ new_out (l y) (none.1 a)
    | inr some ↦ ap (λ o. (unwrap_or o (stored y (Out 0) Included)).link) some
  ]

  pub stored_mode : (xs : List ℕ) → In y xs → (is_new (l y) ≡ true → m y ≡ Included)
      → (stored_at (filter_map (λ x. stored_if x (l x) (m x)) xs) y).mode ≡ m y
  stored_mode xs a own = elim (found_stored xs) [
    | inl none ↦ ap (λ o. (unwrap_or o (stored y (Out 0) Included)).mode) none.0 ∙ sym (own (none.1 a))
    | inr some ↦ ap (λ o. (unwrap_or o (stored y (Out 0) Included)).mode) some
  ]

new_unheld : (l : Link) → is_new l ≡ true → is_held l ≡ false
new_unheld (Out k) new = refl
new_unheld (Taking s) new = absurd cc
new_unheld (Held e n p) new = absurd cc
new_unheld (Dropping e) new = absurd cc

-- what is read of a row, or of none, is what the row was written of
domain_is : (r : Row) (o : Option Row) (d : KeptDomain) → r ≡ row.Domain d
    → (o ≡ Some r) ⊎ ((o ≡ None) × (r ≡ row.Domain (kept_domain fresh 0 []))) → domain_of o ≡ d
domain_is r o d is (inl some) = ap domain_of (some ∙ ap Some is)
domain_is r o d is (inr none) = ap domain_of none.0
    ∙ (let same : row.Domain (kept_domain fresh 0 []) ≡ row.Domain d = sym none.1 ∙ is in cc)

operator_is : (r : Row) (o : Option Row) (links : List StoredLink) → r ≡ row.Operator links
    → (o ≡ Some r) ⊎ ((o ≡ None) × (r ≡ row.Operator [])) → links_of o ≡ links
operator_is r o links is (inl some) = ap links_of (some ∙ ap Some is)
operator_is r o links is (inr none) = ap links_of none.0
    ∙ (let same : row.Operator [] ≡ row.Operator links = sym none.1 ∙ is in cc)

pub saved_means : (h : Hierarchy) (number : ℕ) (g : Grants) (rows : Rows) → IsSound h g → AreSaved h number g rows
    → KeepsTheSame h number g (grants_in h number rows)
saved_means h number g rows sound saved = record {
  boot = ap boot_of saved.boot;
  records = λ d kept. ap (λ (k : KeptDomain). k.standing) (domain d kept);
  gathered = λ d kept. ap (λ (k : KeptDomain). k.gathered) (domain d kept);
  children = λ d x kept parent. ap (λ (k : KeptDomain). (stored_at k.links x).link) (domain d kept)
      ∙ stored_link (λ x. g.links (Domain d) x) g.modes x (children_of h d) (child_in h d x parent);
  modes = λ d x kept parent.
      ap (mode_under h number rows x) (number_is (parent_of h x) d parent)
      ∙ ap (λ (k : KeptDomain). (stored_at k.links x).mode) (domain d kept)
      ∙ stored_mode (λ x. g.links (Domain d) x) g.modes x (children_of h d) (child_in h d x parent)
      (λ new. sound.mode d x parent (new_unheld (g.links (Domain d) x) new));
  operators = λ o d served there.
      let within = is_within 1 (domain_count h) d there in
      ap (λ links. (stored_at links d).link) (operator_is (operator_row h g o) _ (operator_links h g o) refl
      (saved.operator o served))
      ∙ stored_link (λ d. g.links (Operator o) d) (λ d. Included) d (range_with_len 1 (domain_count h))
      (in_range d 1 (domain_count h) within.least (omega (arith, within.most)));
}
  where
    domain : (d : ℕ) → is_keeper h number d ≡ true
        → domain_in h number rows d ≡ record {
          standing = g.records d;
          gathered = g.gathered d;
          links = child_links h g d;
        }
    domain d kept = domain_is (domain_row h g d) _
        (record { standing = g.records d; gathered = g.gathered d; links = child_links h g d }) refl
        (saved.domain d kept)
