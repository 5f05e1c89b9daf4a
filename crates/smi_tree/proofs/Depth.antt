-- How deep domains lie when one is added.
use Rattle.std.proofs.Common.{◌≡◌, ℕ, suc, zero, ◌<◌, ◌≤◌, List, [], ◌∷◌, ◌++◌, length, Option, Some, None, refl, ap}
use Rattle.std.proofs.Common.{◌∙◌, sym, ◌⊎◌, inl, inr, subst, length-append, arith}
use Rattle.std.proofs.lemmas.Bool.{cases_lt}
use Rattle.std.proofs.lemmas.Option.{slice_get_past}
use Rattle.std.specs.Prelude.{slice_get, option_and_then}
use Rattle.smi_tree.proofs.Lawfulness.{entry-suc}
use Rattle.smi_tree.proofs.HierarchyLemmas.{ancestors-none, ancestors-some, ancestors-zero}
use Rattle.smi_tree.specs.Hierarchy.{entry, parent_in, ancestors, depth_in}
use Rattle.smi_tree.specs.declared.row.Domain.{Domain}

slice_get-same : {X : Type 0} (rows : List X) (row : X) (k : ℕ) → k < length rows
    → slice_get (rows ++ row ∷ []) k ≡ slice_get rows k
slice_get-same [] row k within = absurd (omega arith)
slice_get-same (x ∷ rows) row zero within = refl
slice_get-same (x ∷ rows) row (suc k) within = slice_get-same rows row k (omega arith)

slice_get-last : {X : Type 0} (rows : List X) (row : X) → slice_get (rows ++ row ∷ []) (length rows) ≡ Some row
slice_get-last [] row = refl
slice_get-last (x ∷ rows) row = slice_get-last rows row

pub entry-same : {X : Type 0} (rows : List X) (row : X) (n : ℕ) → n ≤ length rows
    → entry (rows ++ row ∷ []) n ≡ entry rows n
entry-same rows row zero within = refl
entry-same rows row (suc k) within =
    entry-suc (rows ++ row ∷ []) k ∙ slice_get-same rows row k (omega arith) ∙ sym (entry-suc rows k)

pub entry-last : {X : Type 0} (rows : List X) (row : X) → entry (rows ++ row ∷ []) (suc (length rows)) ≡ Some row
entry-last rows row = entry-suc (rows ++ row ∷ []) (length rows) ∙ slice_get-last rows row

pub entry-past : {X : Type 0} (rows : List X) (n : ℕ) → length rows < n → entry rows n ≡ None
entry-past rows zero past = refl
entry-past rows (suc k) past = entry-suc rows k ∙ slice_get_past rows k (omega arith)

abbrev above_of : Option Domain → Option ℕ
above_of r = option_and_then (λ row. row.parent) r

pub option-cases : (r : Option ℕ) → (r ≡ None) ⊎ ((n : ℕ) × (r ≡ Some n))
option-cases None = inl refl
option-cases (Some n) = inr (n, refl)

-- parents are before their children
pub record AreBelow (domains : List Domain) : Type 0 where
  pub below : (domain parent : ℕ) → parent_in domains domain ≡ Some parent → (1 ≤ parent) × (parent < domain)

pub ancestors-push : (n : ℕ) (domains : List Domain) (row : Domain) (domain : ℕ) → AreBelow domains
    → domain ≤ length domains →
    ancestors n (domains ++ row ∷ []) domain ≡ ancestors n domains domain
ancestors-push zero domains row domain below within =
    ancestors-zero (domains ++ row ∷ []) domain ∙ sym (ancestors-zero domains domain)
ancestors-push (suc n) domains row domain below within =
    let same : parent_in (domains ++ row ∷ []) domain
    ≡ parent_in domains domain = ap above_of (entry-same domains row domain within) in
    elim (option-cases (parent_in domains domain)) [
      | inl root ↦ ancestors-none (suc n) (domains ++ row ∷ []) domain (same ∙ root)
          ∙ sym (ancestors-none (suc n) domains domain root)
      | inr above ↦ (let lower = below.below domain above.0 above.1 in
          ancestors-some n (domains ++ row ∷ []) domain above.0 (same ∙ above.1)
          ∙ ap (λ (later : List ℕ). above.0 ∷ later)
          (ancestors-push n domains row above.0 below (omega (arith, lower.1)))
          ∙ sym (ancestors-some n domains domain above.0 above.1))
    ]

-- who looks further up finds no fewer
ancestors-further : (n : ℕ) (domains : List Domain) (domain : ℕ) →
    length (ancestors n domains domain) ≤ length (ancestors (suc n) domains domain)
ancestors-further zero domains domain = let none = ap length (ancestors-zero domains domain) in omega (arith, none)
ancestors-further (suc n) domains domain = elim (option-cases (parent_in domains domain)) [
  | inl root ↦ (let none = ap length (ancestors-none (suc n) domains domain root) in omega (arith, none))
  | inr above ↦ (let less = ap length (ancestors-some n domains domain above.0 above.1) in
      let more = ap length (ancestors-some (suc n) domains domain above.0 above.1) in
      let later = ancestors-further n domains above.0 in
      omega (arith, less, more, later))
]

depth-last : (domains : List Domain) (row : Domain) → AreBelow domains →
    ((parent : ℕ) → row.parent ≡ Some parent → (parent ≤ length domains) × (depth_in domains parent < 8)) →
    depth_in (domains ++ row ∷ []) (suc (length domains)) ≤ 8
depth-last domains row below room =
    let last : parent_in (domains ++ row ∷ []) (suc (length domains))
    ≡ row.parent = ap above_of (entry-last domains row) in
    elim (option-cases row.parent) [
      | inl root ↦
          (let none = ap length (ancestors-none 8 (domains ++ row ∷ []) (suc (length domains)) (last ∙ root)) in
          omega (arith, none))
      | inr above ↦
          (let more = ap length (ancestors-some 7 (domains ++ row ∷ []) (suc (length domains)) above.0
          (last ∙ above.1)) in
          let free = room above.0 above.1 in
          let same = ap length (ancestors-push 7 domains row above.0 below free.0) in
          let further = ancestors-further 7 domains above.0 in
          omega (arith, more, free.1, same, further))
    ]

-- a new domain lies one deeper than its parent, and the others as before
pub depth-push : (domains : List Domain) (row : Domain) → AreBelow domains →
    ((parent : ℕ) → row.parent ≡ Some parent → (parent ≤ length domains) × (depth_in domains parent < 8)) →
    ((domain : ℕ) → depth_in domains domain ≤ 8) →
    (domain : ℕ) → depth_in (domains ++ row ∷ []) domain ≤ 8
depth-push domains row below room depth domain = elim (cases_lt (length domains) domain) [
  | inl past ↦ elim (cases_lt (suc (length domains)) domain) [
    | inl far ↦ (let beyond : length (domains ++ row ∷ []) < domain = simp length-append (omega arith) in
        let root : parent_in (domains ++ row ∷ []) domain
        ≡ None = ap above_of (entry-past (domains ++ row ∷ []) domain beyond) in
        let none = ap length (ancestors-none 8 (domains ++ row ∷ []) domain root) in omega (arith, none))
    | inr near ↦ (let last : domain ≡ suc (length domains) = omega arith in
        let P : ℕ → Type 0 = λ n. depth_in (domains ++ row ∷ []) n ≤ 8 in
        subst P (sym last) (depth-last domains row below room))
  ]
  | inr within ↦ (let same = ap length (ancestors-push 8 domains row domain below within) in
      let old = depth domain in omega (arith, same, old))
]
