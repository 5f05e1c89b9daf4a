-- Journals that are put in entry by entry.
use Rattle.std.proofs.Common.{ℕ, zero, suc, ◌≡◌, ◌<◌, ◌≤◌, List, [], ◌∷◌, ◌++◌, ◌+◌, length, get_or, refl, sym, ap, ◌∙◌}
use Rattle.std.proofs.Common.{arith, subst}
use Rattle.std.specs.Prelude.{slice_set}
use Rattle.smi_protocol.specs.declared.Entry.{Entry}
use Rattle.smi_audit.specs.Audited.{AuditState, IsAudited}
use Rattle.smi_audit.specs.Merged.{Merges, begins, Further, GoesFurther, pushed}
use Rattle.smi_audit.specs.Grown.{IsGrown, empties, put_into}
use Rattle.smi_audit.proofs.Pushing.{further_pushed}

one_after : (n : ℕ) → empties n ++ [] ∷ [] ≡ empties (suc n)
one_after zero = refl
one_after (suc n) = ap (λ z. [] ∷ z) (one_after n)

pub one_more : (n : ℕ) → empties n ++ [] ∷ [] ≡ empties (n + 1)
one_more n = let same : suc n ≡ n + 1 = omega arith in one_after n ∙ ap empties same

pub count_of : (n : ℕ) → length (empties n) ≡ n
count_of zero = refl
count_of (suc n) = ap suc (count_of n)

pub length_pushed : (l : List (List Entry)) (i : ℕ) (x : Entry) → length (pushed l i x) ≡ length l
length_pushed [] i x = refl
length_pushed (j ∷ l) zero x = refl
length_pushed (j ∷ l) (suc i) x = ap suc (length_pushed l i x)

-- an entry is put at the end of the journal at a place
pub put_at : (l : List (List Entry)) (i : ℕ) (x : Entry) (j k : List Entry) → i < length l → j ≡ get_or l i j
    → k ≡ j ++ x ∷ [] → slice_set l i k ≡ pushed l i x
put_at [] i x j k within read is = absurd (omega (arith, within))
put_at (y ∷ l) zero x j k within read is = ap (λ z. z ∷ l) (is ∙ ap (λ z. z ++ x ∷ []) read)
put_at (y ∷ l) (suc i) x j k within read is = ap (λ z. y ∷ z) (put_at l i x j k (omega (arith, within)) read is)

pub put_nowhere : (l : List (List Entry)) (i : ℕ) (x : Entry) → length l ≤ i → l ≡ pushed l i x
put_nowhere [] i x past = refl
put_nowhere (y ∷ l) zero x past = absurd (omega (arith, past))
put_nowhere (y ∷ l) (suc i) x past = ap (λ z. y ∷ z) (put_nowhere l i x (omega (arith, past)))

-- at the beginning
pub begun : (n : ℕ) (start a : AuditState) (js : List (List Entry)) → start ≡ a → js ≡ empties n
    → (base : List Entry) → IsAudited start base → Further base (empties (length js)) a js
begun n start a js same are base audited = record {
  past = base;
  audited = subst (λ z. IsAudited z base) same audited;
  merges = subst (λ z. Merges base (empties (length js)) base z) (ap empties (ap length are ∙ count_of n) ∙ sym are)
      begins;
}

-- an entry was put in
pub grown_by_one : (a start : AuditState) (old : List (List Entry)) (puts : List (ℕ × Entry)) (i : ℕ) (x : Entry)
    (left : List (List Entry)) (new : List (ℕ × Entry)) → left ≡ pushed old i x → new ≡ (i, x) ∷ puts
    → IsGrown (record { audit = a; left = old; start = start; puts = puts })
    → (base : List Entry) → IsAudited start base → Further base (put_into (length left) new) a left
grown_by_one a start old puts i x left new is put grown base audited =
    subst (λ p. Further base (put_into (length left) p) a left) (sym put)
    (subst (λ z. Further base (put_into (length z) ((i, x) ∷ puts)) a z) (sym is)
    (subst (λ n. Further base (put_into n ((i, x) ∷ puts)) a (pushed old i x)) (sym (length_pushed old i x))
    (further_pushed base (put_into (length old) puts) a old i x (grown base audited))))

-- entries were taken
pub grown_further : (b start : AuditState) (old : List (List Entry)) (puts : List (ℕ × Entry)) (a : AuditState)
    (left : List (List Entry)) → length left ≡ length old → GoesFurther b old a left
    → IsGrown (record { audit = b; left = old; start = start; puts = puts })
    → (base : List Entry) → IsAudited start base → Further base (put_into (length left) puts) a left
grown_further b start old puts a left same goes grown base audited =
    subst (λ n. Further base (put_into n puts) a left) (sym same)
    (goes.1 base (put_into (length old) puts) (grown base audited))
