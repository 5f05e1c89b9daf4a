-- The order of keys, and rows put in their places.
use Rattle.std.proofs.Common.{◌≡◌, ℕ, suc, ◌<◌, Bool, true, false, List, [], ◌∷◌, ◌++◌, length, take, drop, set}
use Rattle.std.proofs.Common.{get_or, Option, Some, Result, Ok, Err, OnOk, OnErr, ◌⊎◌, inl, inr, refl, sym, ap, ◌∙◌}
use Rattle.std.proofs.Common.{add-one, arith}
use Rattle.std.specs.Prelude.{◌==◌, if◌then◌else◌}
use Rattle.std.proofs.lemmas.Bool.{and_parts, and_from, eqb-true}
use Rattle.std.proofs.lemmas.Bool.Decides.{nat_tests}
use Rattle.smi_rows.specs.declared.key.Key.{Key}
use Rattle.smi_rows.specs.Store.{IsSame, Saved, saved, same_key, is_before, found_in, with_row, rises_after, rises}
use Rattle.smi_rows.specs.Listed.{place_of, put}

either : (b : Bool) → (b ≡ true) ⊎ (b ≡ false)
either true = inl refl
either false = inr refl

key_of : ℕ → ℕ → ℕ → Key
key_of s d o = record { station = s; domain = d; operator = o }

key-again : (k : Key) → key_of k.station k.domain k.operator ≡ k
unfolding key_of
key-again k = refl

pub same-is : (a b : Key) → same_key a b ≡ true → a ≡ b
same-is a b h =
    let p = and_parts (a.station == b.station) _ h in
    let q = and_parts (a.domain == b.domain) (a.operator == b.operator) p.1 in
    let s : a.station ≡ b.station = eqb-true _ _ p.0 in
    let d : a.domain ≡ b.domain = eqb-true _ _ q.0 in
    let o : a.operator ≡ b.operator = eqb-true _ _ q.1 in
    let t : key_of a.station a.domain a.operator ≡ key_of b.station b.domain b.operator = cc in
    sym (key-again a) ∙ t ∙ key-again b

pub same-itself : (a : Key) → same_key a a ≡ true
same-itself a = grind (arith, nat_tests)

pub before-other : (a b : Key) → is_before a b ≡ true → same_key b a ≡ false
before-other a b h = grind (arith, nat_tests)

before-differs : (a b : Key) → is_before a b ≡ true → same_key a b ≡ false
before-differs a b h = grind (arith, nat_tests)

pub after-else : (a b : Key) → is_before a b ≡ false → same_key a b ≡ false → is_before b a ≡ true
after-else a b h n = grind (arith, nat_tests)

-- ---- looking up

with-front : (r : Saved) (key k : Key) (bytes : List ℕ) (more : Key → Option (List ℕ)) → same_key r.key key ≡ false →
    (if same_key r.key k then Some r.bytes else (if same_key key k then Some bytes else more k))
    ≡ (if same_key key k then Some bytes else (if same_key r.key k then Some r.bytes else more k))
with-front r key k bytes more other = elim (either (same_key r.key k)) [
  | inl t ↦ elim (either (same_key key k)) [
    | inl u ↦ let e : r.key ≡ key = same-is r.key k t ∙ sym (same-is key k u) in
        absurd (clash (sym other ∙ ap (λ x. same_key x key) e ∙ same-itself key))
    | inr u ↦ rw (t, u) refl
  ]
  | inr t ↦ rw t refl
]
  where
    clash : false ≡ true → ⊥
    clash e = cc

shadowed : (r : Saved) (key k : Key) (bytes : List ℕ) (more : Option (List ℕ)) → same_key r.key key ≡ true →
    (if same_key key k then Some bytes else more)
    ≡ (if same_key key k then Some bytes else (if same_key r.key k then Some r.bytes else more))
shadowed r key k bytes more u = elim (either (same_key key k)) [
  | inl t ↦ rw t refl
  | inr t ↦ let other : same_key r.key k ≡ false = ap (λ x. same_key x k) (same-is r.key key u) ∙ t in
      rw (t, other) refl
]

pub found-put : (key k : Key) (bytes : List ℕ) (xs : List Saved)
    → found_in (put key bytes xs) k ≡ with_row key bytes (found_in xs) k
found-put key k bytes [] = refl
found-put key k bytes (r ∷ more) = elim (either (is_before r.key key)) [
  | inl t ↦ rw t (ap (λ x. if same_key r.key k then Some r.bytes else x) (found-put key k bytes more)
      ∙ with-front r key k bytes (found_in more) (before-differs r.key key t))
  | inr t ↦ elim (either (same_key r.key key)) [
    | inl u ↦ rw (t, u) (shadowed r key k bytes (found_in more k) u)
    | inr u ↦ rw (t, u) refl
  ]
]

-- ---- keys stay in order

same-rises : (a b : Key) (xs : List Saved) → same_key a b ≡ true → rises_after a xs ≡ true → rises_after b xs ≡ true
same-rises a b xs u h = ap (λ x. rises_after x xs) (sym (same-is a b u)) ∙ h

put-rises-after : (low key : Key) (bytes : List ℕ) (xs : List Saved) → is_before low key ≡ true
    → rises_after low xs ≡ true → rises_after low (put key bytes xs) ≡ true
put-rises-after low key bytes [] b h = and_from _ _ b refl
put-rises-after low key bytes (r ∷ more) b h =
    let p = and_parts (is_before low r.key) _ h in
    elim (either (is_before r.key key)) [
      | inl t ↦ rw t (and_from _ _ p.0 (put-rises-after r.key key bytes more t p.1))
      | inr t ↦ elim (either (same_key r.key key)) [
        | inl u ↦ rw (t, u) (and_from _ _ b (same-rises r.key key more u p.1))
        | inr u ↦ rw (t, u) (and_from _ _ b (and_from _ _ (after-else r.key key t u) p.1))
      ]
    ]

pub put-rises : (key : Key) (bytes : List ℕ) (xs : List Saved) → rises xs ≡ true → rises (put key bytes xs) ≡ true
put-rises key bytes [] h = refl
put-rises key bytes (r ∷ more) h = elim (either (is_before r.key key)) [
  | inl t ↦ rw t (put-rises-after r.key key bytes more t h)
  | inr t ↦ elim (either (same_key r.key key)) [
    | inl u ↦ rw (t, u) (same-rises r.key key more u h)
    | inr u ↦ rw (t, u) (and_from _ _ (after-else r.key key t u) h)
  ]
]

-- ---- a row put in its place

pub put-there : (key : Key) (bytes : List ℕ) (xs : List Saved) (p : ℕ) (d : Saved) → p ≡ place_of key xs
    → p < length xs → same_key (get_or xs p d).key key ≡ true →
    set xs p (saved key bytes) ≡ put key bytes xs
put-there key bytes [] p d e l h = absurd (omega arith)
put-there key bytes (r ∷ more) p d e l h = elim (either (is_before r.key key)) [
  | inl t ↦
      let q : p ≡ suc (place_of key more) = (rw t at e) ∙ add-one (place_of key more) in
      let l' : place_of key more < length more = omega arith in
      let h' : same_key (get_or more (place_of key more) d).key key
      ≡ true = ap (λ i. same_key (get_or (r ∷ more) i d).key key) (sym q) ∙ h in
      rw (t, q) (ap (λ xs. r ∷ xs) (put-there key bytes more (place_of key more) d refl l' h'))
  | inr t ↦
      let z : p ≡ 0 = rw t at e in
      let u : same_key r.key key ≡ true = ap (λ i. same_key (get_or (r ∷ more) i d).key key) (sym z) ∙ h in
      rw (t, u, z) refl
]

pub put-between : (key : Key) (bytes : List ℕ) (xs : List Saved) (p : ℕ) (d : Saved) → p ≡ place_of key xs
    → (p < length xs → same_key (get_or xs p d).key key ≡ false) →
    take p xs ++ saved key bytes ∷ drop p xs ≡ put key bytes xs
put-between key bytes [] p d e h = let z : p ≡ 0 = e in rw z refl
put-between key bytes (r ∷ more) p d e h = elim (either (is_before r.key key)) [
  | inl t ↦
      let q : p ≡ suc (place_of key more) = (rw t at e) ∙ add-one (place_of key more) in
      let h' : place_of key more < length more → same_key (get_or more (place_of key more) d).key key ≡ false =
      λ l. ap (λ i. same_key (get_or (r ∷ more) i d).key key) (sym q) ∙ h (omega arith) in
      rw (t, q) (ap (λ xs. r ∷ xs) (put-between key bytes more (place_of key more) d refl h'))
  | inr t ↦
      let z : p ≡ 0 = rw t at e in
      let u : same_key r.key key ≡ false = ap (λ i. same_key (get_or (r ∷ more) i d).key key) (sym z)
      ∙ h (omega arith) in
      rw (t, u, z) refl
]

-- ---- a list of rows after a put that may be refused

pub kept-rises : {A E : Type 0} (r : Result A E) (key : Key) (bytes : List ℕ) (old new : List Saved)
    → OnOk r (new ≡ put key bytes old) → OnErr r (new ≡ old) → rises old ≡ true → rises new ≡ true
kept-rises (Ok a) key bytes old new ok err h = ap rises ok ∙ put-rises key bytes old h
kept-rises (Err e) key bytes old new ok err h = ap rises err ∙ h

pub put-found : (key : Key) (bytes : List ℕ) (old new : List Saved) → new ≡ put key bytes old
    → IsSame (found_in new) (with_row key bytes (found_in old))
put-found key bytes old new is k = ap (λ xs. found_in xs k) is ∙ found-put key k bytes old
