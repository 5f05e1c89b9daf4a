-- Nothing is taken, because no first entry can be.
use Rattle.std.proofs.Common.{ℕ, zero, suc, ◌≡◌, ◌<◌, ◌≤◌, ◌+◌, Bool, true, false, List, [], ◌∷◌, length, get_or}
use Rattle.std.proofs.Common.{refl, sym, ap, ◌∙◌, subst, arith}
use Rattle.std.specs.Prelude.{◌==◌, slice_get, Some, None, nat_lt}
use Rattle.std.proofs.lemmas.Bool.{eqb-true}
use Rattle.std.proofs.lemmas.Bool.Decides.{nat_tests}
use Rattle.std.proofs.lemmas.Option.{slice_get-get_or}
use Rattle.smi_protocol.specs.declared.Entry.{Entry}
use Rattle.smi_audit.specs.Audited.{AuditState, Accepts, fits}
use Rattle.smi_audit.specs.Merged.{AllEmpty, AllStuck, IsStuck, StuckAt, StuckBefore, may_wait}

-- what holds of the journal that was read at a place holds of the one there
there : (P : List Entry → Type 0) (js : List (List Entry)) (i : ℕ) (j k : List Entry) → i < length js
    → j ≡ get_or js i j → slice_get js i ≡ Some k → P j → P k
there P js i j k within read at p =
    let both : Some j ≡ Some k = ap Some read ∙ sym (slice_get-get_or js i j within) ∙ at in
    let same : j ≡ k = cc in
    subst P same p

stuck_none : (b : AuditState) (j : List Entry) → slice_get j 0 ≡ None → IsStuck b j
stuck_none b [] is = tt
stuck_none b (x ∷ j) is = absurd cc

stuck_first : (b : AuditState) (j : List Entry) (x : Entry) → slice_get j 0 ≡ Some x
    → (may_wait x ≡ false → fits b x ≡ false) → IsStuck b j
stuck_first b [] x is unfit = absurd cc
stuck_first b (y ∷ j) x is unfit =
    let same : x ≡ y = cc in subst (λ z. may_wait z ≡ false → fits b z ≡ false) same unfit

pub none_at : (b : AuditState) (js : List (List Entry)) (i : ℕ) (j : List Entry) → i < length js → j ≡ get_or js i j
    → slice_get j 0 ≡ None → StuckAt false b js b js i
none_at b js i j within read out =
    (refl, refl, λ k at. there (IsStuck b) js i j k within read at (stuck_none b j out))

pub waits_at : (b : AuditState) (js : List (List Entry)) (i : ℕ) (j : List Entry) (x : Entry) → i < length js
    → j ≡ get_or js i j → slice_get j 0 ≡ Some x → may_wait x ≡ true → StuckAt false b js b js i
waits_at b js i j x within read first waits = (
  refl,
  refl,
  λ k at. there (IsStuck b) js i j k within read at
      (stuck_first b j x first (λ not_so. absurd (let wrong : true ≡ false = sym waits ∙ not_so in cc))),
)

pub unfit_at : (b a : AuditState) (js : List (List Entry)) (i : ℕ) (j : List Entry) (x : Entry) (taken : Bool)
    → i < length js → j ≡ get_or js i j → slice_get j 0 ≡ Some x → taken ≡ false → Accepts taken b a x
    → StuckAt false b js a js i
unfit_at b a js i j x true within read first not_taken accepts = absurd cc
unfit_at b a js i j x false within read first not_taken accepts =
    (accepts.1, refl, λ k at. there (IsStuck b) js i j k within read at (stuck_first b j x first (λ _. accepts.0)))

-- A journal is gone through: it has moved unless nothing was taken.

pub drained : (n : ℕ) (m : Bool) (b c a : AuditState) (js ls ks : List (List Entry)) (i : ℕ)
    → (n ≡ 0 → (c ≡ b) × (ls ≡ js)) → m ≡ false → StuckAt m c ls a ks i → StuckAt (nat_lt 0 n) b js a ks i
drained n true b c a js ls ks i first is stuck = absurd cc
drained n false b c a js ls ks i first is stuck = by (nat_lt 0 n) refl
  where
    by : (m : Bool) → nat_lt 0 n ≡ m → StuckAt m b js a ks i
    by true more = tt
    by false more =
        let zeroth : n ≡ 0 = grind (arith, nat_tests) in
        let same = first zeroth in (
          stuck.0 ∙ same.0,
          stuck.1 ∙ same.1,
          λ j at. subst (λ z. IsStuck z j) same.0 (stuck.2 j (ap (λ z. slice_get z i) same.1 ∙ at)),
        )

pub empty_at : (n : ℕ) (b a : AuditState) (js ks : List (List Entry)) (i : ℕ) (j : List Entry) → i < length js
    → j ≡ get_or js i j → n ≡ length j → (n ≡ 0 → (a ≡ b) × (ks ≡ js)) → StuckAt (nat_lt 0 n) b js a ks i
empty_at n b a js ks i j within read long first = by (nat_lt 0 n) refl
  where
    none : (l : List Entry) → length l ≡ 0 → slice_get l 0 ≡ None
    none [] is = refl
    none (x ∷ l) is = absurd (omega (arith, is))

    by : (m : Bool) → nat_lt 0 n ≡ m → StuckAt m b js a ks i
    by true is = tt
    by false is =
        let zeroth : n ≡ 0 = grind (arith, nat_tests) in
        let same = first zeroth in (
          same.0,
          same.1,
          λ k at.
              there (IsStuck b) js i j k within read at (stuck_none b j (none j (sym long ∙ zeroth))),
        )

-- All journals are gone through.

pub stuck_begins : (m : Bool) (b : AuditState) (js : List (List Entry)) → StuckBefore m b js b js 0
stuck_begins true b js = tt
stuck_begins false b js = (refl, refl, λ i j less at. absurd (omega (arith, less)))

pub stuck_next : (m moved : Bool) (b c a : AuditState) (js ls ks : List (List Entry)) (i : ℕ)
    → StuckBefore m b js c ls i → moved ≡ false → StuckAt moved c ls a ks i → StuckBefore m b js a ks (i + 1)
stuck_next true moved b c a js ls ks i before is at = tt
stuck_next false true b c a js ls ks i before is at = absurd cc
stuck_next false false b c a js ls ks i before is at =
    (at.0 ∙ before.0, at.1 ∙ before.1, λ k j less read. by k j less read (k == i) refl)
  where
    by : (k : ℕ) (j : List Entry) → k < i + 1 → slice_get js k ≡ Some j → (here : Bool) → (k == i) ≡ here
        → IsStuck b j
    by k j less read true same =
        subst (λ z. IsStuck z j) before.0
        (at.2 j (ap (λ z. slice_get z i) before.1 ∙ ap (slice_get js) (sym (eqb-true k i same)) ∙ read))
    by k j less read false other =
        let under : k < i = grind (arith, nat_tests) in
        before.2 k j under read

pub stuck_whole : (m : Bool) (b a : AuditState) (js ks : List (List Entry)) (place : ℕ) → StuckBefore m b js a ks place
    → length ks ≤ place → AllStuck m b js a ks
stuck_whole true b a js ks place s past = tt
stuck_whole false b a js ks place s past = (
  s.0,
  s.1,
  λ i j less at. s.2 i j (let same : length ks ≡ length js = ap length s.1 in
      omega (arith, same, past, less)) at,
)

-- Rounds are gone through.

pub stuck_at_last : (m moved : Bool) (n : ℕ) (b c a : AuditState) (js ls ks : List (List Entry))
    → (m ≡ false → (n ≡ 0) × (c ≡ b) × (ls ≡ js)) → moved ≡ false → AllStuck moved c ls a ks → AllStuck m b js a ks
stuck_at_last true moved n b c a js ls ks first is s = tt
stuck_at_last false true n b c a js ls ks first is s = absurd cc
stuck_at_last false false n b c a js ls ks first is s =
    let same = first refl in (
      s.0 ∙ same.1,
      s.1 ∙ same.2,
      λ i j less at. subst (λ z. IsStuck z j) same.1
          (s.2 i j (subst (λ z. i < length z) (sym same.2) less) (ap (λ z. slice_get z i) same.2 ∙ at)),
    )

pub moved_for_long : (m : Bool) (n : ℕ) (b a : AuditState) (js ks : List (List Entry))
    → (m ≡ false → (n ≡ 0) × (a ≡ b) × (ks ≡ js)) → 0 < n → AllStuck m b js a ks
moved_for_long true n b a js ks first some = tt
moved_for_long false n b a js ks first some =
    let zeroth = (first refl).0 in absurd (omega (arith, zeroth, some))

-- Something is left.

pub some_left : (js : List (List Entry)) (i : ℕ) (j : List Entry) → i < length js → j ≡ get_or js i j
    → (length j == 0) ≡ false → AllEmpty js → ⊥
some_left [] i j within read some none = omega (arith, within)
some_left (k ∷ js) zero j within read some none =
    let empty : length j ≡ 0 = ap length (read ∙ none.0) in
    let t : (length j == 0) ≡ true = grind (arith, nat_tests) in
    let wrong : true ≡ false = sym t ∙ some in cc
some_left (k ∷ js) (suc i) j within read some none = some_left js i j (omega (arith, within)) read some none.1
