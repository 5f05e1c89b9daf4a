-- Journals that grow while they are merged.
use Rattle.std.proofs.Common.{ℕ, zero, suc, ◌≡◌, Bool, true, false, List, [], ◌∷◌, ◌++◌, refl, sym, ap, ◌∙◌, subst}
use Rattle.std.proofs.Common.{arith}
use Rattle.std.specs.Prelude.{◌==◌, slice_get, slice_set, Some}
use Rattle.std.proofs.lemmas.Bool.{eqb-true}
use Rattle.std.proofs.lemmas.Bool.Decides.{nat_tests}
use Rattle.smi_protocol.specs.declared.Entry.{Entry}
use Rattle.smi_audit.specs.Audited.{AuditState}
use Rattle.smi_audit.specs.Merged.{Merges, begins, takes, Further, pushed}

get_here : (l : List (List Entry)) (i : ℕ) (j : List Entry) (x : Entry) → slice_get l i ≡ Some j
    → slice_get (pushed l i x) i ≡ Some (j ++ x ∷ [])
get_here [] i j x is = absurd cc
get_here (k ∷ l) zero j x is = let same : k ≡ j = cc in ap (λ z. Some (z ++ x ∷ [])) same
get_here (k ∷ l) (suc i) j x is = get_here l i j x is

get_there : (l : List (List Entry)) (i k : ℕ) (x : Entry) → (k ≡ i → ⊥) → slice_get (pushed l i x) k ≡ slice_get l k
get_there [] i k x other = refl
get_there (j ∷ l) zero zero x other = absurd (other refl)
get_there (j ∷ l) zero (suc k) x other = refl
get_there (j ∷ l) (suc i) zero x other = refl
get_there (j ∷ l) (suc i) (suc k) x other = get_there l i k x (λ same. other (ap suc same))

set_here : (l : List (List Entry)) (i : ℕ) (x : Entry) (more : List Entry)
    → slice_set (pushed l i x) i (more ++ x ∷ []) ≡ pushed (slice_set l i more) i x
set_here [] i x more = refl
set_here (j ∷ l) zero x more = refl
set_here (j ∷ l) (suc i) x more = ap (λ z. j ∷ z) (set_here l i x more)

set_there : (l : List (List Entry)) (i k : ℕ) (x : Entry) (more : List Entry) → (k ≡ i → ⊥)
    → slice_set (pushed l i x) k more ≡ pushed (slice_set l k more) i x
set_there [] i k x more other = refl
set_there (j ∷ l) zero zero x more other = absurd (other refl)
set_there (j ∷ l) zero (suc k) x more other = refl
set_there (j ∷ l) (suc i) zero x more other = refl
set_there (j ∷ l) (suc i) (suc k) x more other =
    ap (λ z. j ∷ z) (set_there l i k x more (λ same. other (ap suc same)))

one_pushed : (base : List Entry) (from : List (List Entry)) (past : List Entry) (left : List (List Entry)) (i k : ℕ)
    (x y : Entry) (more : List Entry) (here : Bool) → (k == i) ≡ here → slice_get left k ≡ Some (y ∷ more)
    → Merges base (pushed from i x) past (pushed left i x)
    → Merges base (pushed from i x) (y ∷ past) (pushed (slice_set left k more) i x)
one_pushed base from past left i k x y more true same is m =
    let at : k ≡ i = eqb-true k i same in
    subst (λ z. Merges base (pushed from i x) (y ∷ past) (pushed (slice_set left z more) i x)) (sym at)
    (subst (λ z. Merges base (pushed from i x) (y ∷ past) z) (set_here left i x more)
    (takes i y (more ++ x ∷ [])
    (get_here left i (y ∷ more) x (ap (slice_get left) (sym at) ∙ is)) m))
one_pushed base from past left i k x y more false other is m =
    let off : k ≡ i → ⊥ = λ at. (let t : (k == i) ≡ true = grind (arith, nat_tests) in
    let wrong : true ≡ false = sym t ∙ other in cc) in
    subst (λ z. Merges base (pushed from i x) (y ∷ past) z) (set_there left i k x more off)
    (takes k y more (get_there left i k x off ∙ is) m)

merges_pushed : (base : List Entry) (from : List (List Entry)) (past : List Entry) (left : List (List Entry)) (i : ℕ)
    (x : Entry) → Merges base from past left → Merges base (pushed from i x) past (pushed left i x)
merges_pushed base from past left i x begins = begins
merges_pushed base from past left i x (takes {past = before} {left = rest} k y more is m) =
    one_pushed base from before rest i k x y more (k == i) refl is (merges_pushed base from before rest i x m)

pub further_pushed : (base : List Entry) (from : List (List Entry)) (a : AuditState) (left : List (List Entry)) (i : ℕ)
    (x : Entry) → Further base from a left → Further base (pushed from i x) a (pushed left i x)
further_pushed base from a left i x f = record {
  past = f.past;
  audited = f.audited;
  merges = merges_pushed base from f.past left i x f.merges;
}
