-- Of rows whose versions rise, a longer beginning has no older last row.
use Rattle.std.proofs.Common.{◌≡◌, ℕ, Bool, true, false, List, [], ◌∷◌, ◌++◌, Option, Some, None, refl, ap, sym}
use Rattle.std.proofs.Common.{◌∙◌, inl, inr, subst, arith, append-nil, append_assoc}
use Rattle.std.specs.Prelude.{◌==◌, if◌then◌else◌}
use Rattle.std.specs.Option.{option_or}
use Rattle.std.proofs.lemmas.Bool.{eqb-true}
use Rattle.std.proofs.lemmas.Bool.Decides.{nat_tests}
use mathlib.Core.List.{IsPrefix}
use Rattle.smi_grant.specs.declared.state.Shown.{Shown}
use Rattle.smi_grant.specs.declared.state.Version.{Version}
use Rattle.smi_view.specs.Accepting.{is_newer, is_newer_than_last}
use Rattle.smi_view.specs.Rising.{IsReadAfter, IsRising}
use Rattle.smi_view.specs.Rows.{last_row}

-- newer than what is newer
newer_still : (a b c : Version) → is_newer a b ≡ true → is_newer b c ≡ true → is_newer a c ≡ true
newer_still a b c p q = grind (arith, nat_tests, p, q)

same_after : (o : Option Shown) → IsReadAfter o o
same_after None = tt
same_after (Some row) = inl refl

read_later : (a b c : Option Shown) → IsReadAfter a b → IsReadAfter b c → IsReadAfter a c
read_later None b c p q = tt
read_later (Some a) None c p q = absurd p
read_later (Some a) (Some b) None p q = absurd q
read_later (Some a) (Some b) (Some c) (inl p) q = subst (λ (x : Shown). IsReadAfter (Some x) (Some c)) p q
read_later (Some a) (Some b) (Some c) (inr p) (inl q) =
    subst (λ (x : Shown). IsReadAfter (Some a) (Some x)) (sym q) (inr p)
read_later (Some a) (Some b) (Some c) (inr p) (inr q) = inr (newer_still c.version b.version a.version q p)

-- the last row once one more has come
last_more : (rows : List Shown) (row : Shown) (o : ℕ)
    → last_row o (rows ++ row ∷ []) ≡ (if row.object == o then Some row else last_row o rows)
last_more [] row o = by (row.object == o)
  where
    by : (b : Bool) → option_or None (if b then Some row else None) ≡ (if b then Some row else None)
    by true = refl
    by false = refl
last_more (r ∷ rows) row o =
    ap (λ (x : Option Shown). option_or x (if r.object == o then Some r else None)) (last_more rows row o)
    ∙ by (row.object == o)
  where
    by : (b : Bool) → option_or (if b then Some row else last_row o rows) (if r.object == o then Some r else None)
        ≡ (if b then Some row else option_or (last_row o rows) (if r.object == o then Some r else None))
    by true = refl
    by false = refl

-- a row that is newer than the last one of its object takes its place
one_more : (last : Option Shown) (row : Shown) → is_newer_than_last last row.version ≡ true
    → IsReadAfter last (Some row)
one_more None row newer = tt
one_more (Some s) row newer = inr newer

placed : (last : Option Shown) (row : Shown) (b : Bool) → (b ≡ true → is_newer_than_last last row.version ≡ true)
    → IsReadAfter last (if b then Some row else last)
placed last row true newer = one_more last row (newer refl)
placed last row false newer = same_after last

steps_on : (front : List Shown) (row : Shown) (o : ℕ)
    → is_newer_than_last (last_row row.object front) row.version ≡ true
    → IsReadAfter (last_row o front) (last_row o (front ++ row ∷ []))
steps_on front row o newer =
    subst (λ (x : Option Shown). IsReadAfter (last_row o front) x) (sym (last_more front row o))
    (placed (last_row o front) row (row.object == o)
    (λ is. subst (λ (n : ℕ). is_newer_than_last (last_row n front) row.version ≡ true) (eqb-true row.object o is)
    newer))

-- more rows after a beginning
goes_on : (front more rest : List Shown) (o : ℕ) → IsRising (front ++ (more ++ rest))
    → IsReadAfter (last_row o front) (last_row o (front ++ more))
goes_on front [] rest o rising =
    subst (λ (rows : List Shown). IsReadAfter (last_row o front) (last_row o rows)) (sym (append-nil front))
    (same_after (last_row o front))
goes_on front (row ∷ more) rest o rising =
    let longer = front ++ row ∷ [] in
    let cut : longer ++ more ≡ front ++ row ∷ more = append_assoc front (row ∷ []) more in
    let all : longer ++ (more ++ rest) ≡ front ++ (row ∷ (more ++ rest)) =
    append_assoc front (row ∷ []) (more ++ rest) in
    let newer = rising front (more ++ rest) row refl in
    let later = goes_on longer more rest o (subst IsRising (sym all) rising) in
    read_later (last_row o front) (last_row o longer) (last_row o (front ++ row ∷ more)) (steps_on front row o newer)
    (subst (λ (rows : List Shown). IsReadAfter (last_row o longer) (last_row o rows)) cut later)

-- of two beginnings, the longer one has no older last row of any object
pub rises : (one two all : List Shown) (o : ℕ) → IsRising all → IsPrefix one two → IsPrefix two all
    → IsReadAfter (last_row o one) (last_row o two)
rises one two all o rising p q =
    let whole : one ++ (p.0 ++ q.0) ≡ all =
    sym (append_assoc one p.0 q.0) ∙ ap (λ (rows : List Shown). rows ++ q.0) p.1 ∙ q.1 in
    subst (λ (rows : List Shown). IsReadAfter (last_row o one) (last_row o rows)) p.1
    (goes_on one p.0 q.0 o (subst IsRising (sym whole) rising))
