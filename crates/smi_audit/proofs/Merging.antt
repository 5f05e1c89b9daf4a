-- The first entry of a journal is taken.
use Rattle.std.proofs.Common.{ℕ, zero, suc, ◌≡◌, ◌<◌, Bool, true, false, List, [], ◌∷◌, length, drop, get_or, refl, sym}
use Rattle.std.proofs.Common.{ap, ◌∙◌, subst, arith}
use Rattle.std.specs.Prelude.{◌==◌, slice_get, slice_set, Some}
use Rattle.std.proofs.lemmas.Bool.Decides.{nat_tests}
use Rattle.std.proofs.lemmas.Option.{slice_get-get_or}
use Rattle.smi_protocol.specs.declared.Entry.{Entry}
use Rattle.smi_audit.specs.Audited.{AuditState, IsAudited, Accepts, GoesOn}
use Rattle.smi_tree.specs.Hierarchy.{Hierarchy}
use Rattle.smi_law.specs.Safe.{Safe}
use Rattle.smi_audit.specs.Merged.{begins, takes, Further, GoesFurther, AllEmpty, HasSafeMerge, HasSafeStart, Means}
use Rattle.smi_audit.specs.Merged.{IsSafeNight}
use Rattle.smi_audit.specs.declared.merge.MergeVerdict.{MergeVerdict}

first_of : (j : List Entry) (x : Entry) → slice_get j 0 ≡ Some x → j ≡ x ∷ drop 1 j
first_of [] x is = absurd cc
first_of (y ∷ more) x is = let same : y ≡ x = cc in ap (λ z. z ∷ more) same

pub stays : (b : AuditState) (js : List (List Entry)) → GoesFurther b js b js
stays b js = (refl, λ base from f. f)

pub goes_both : (b c a : AuditState) (js ks ls : List (List Entry)) → GoesFurther b js c ks → GoesFurther c ks a ls
    → GoesFurther b js a ls
goes_both b c a js ks ls x y = (y.0 ∙ x.0, λ base from f. y.1 base from (x.1 base from f))

pub one_further : (b a : AuditState) (js : List (List Entry)) (i : ℕ) (x : Entry) (j k new : List Entry) (taken : Bool)
    → i < length js → j ≡ get_or js i j → k ≡ get_or js i k → slice_get j 0 ≡ Some x → new ≡ drop 1 k
    → taken ≡ true → Accepts taken b a x → GoesOn taken b a x → GoesFurther b js a (slice_set js i new)
one_further b a js i x j k new true within read again first rest is accepts goes = (
  accepts.2,
  λ base from f. record {
    past = x ∷ f.past;
    audited = goes f.past f.audited;
    merges = takes i x new
        (slice_get-get_or js i j within
        ∙ ap Some (sym read ∙ first_of j x first ∙ ap (λ z. x ∷ z) (ap (drop 1) same ∙ sym rest)))
        f.merges;
  },
)
  where
    two : (xs : List (List Entry)) (n : ℕ) (c d : List Entry) → n < length xs → get_or xs n c ≡ get_or xs n d
    two [] n c d less = absurd (omega (arith, less))
    two (y ∷ xs) zero c d less = refl
    two (y ∷ xs) (suc n) c d less = two xs n c d (omega (arith, less))

    same : j ≡ k
    same = read ∙ two js i j k within ∙ sym again
one_further b a js i x j k new false within read again first rest is accepts goes = absurd cc

-- Nothing is left.

pub none_left : (js : List (List Entry)) → ((k : ℕ) → k < length js → get_or js k [] ≡ []) → AllEmpty js
none_left [] each = tt
none_left (j ∷ js) each =
    (each 0 (omega arith), none_left js (λ k less. each (suc k) (omega (arith, less))))

pub nothing : (j : List Entry) → (length j == 0) ≡ true → j ≡ []
nothing [] t = refl
nothing (x ∷ j) t = absurd (let no : (length (x ∷ j) == 0) ≡ false = grind (arith, nat_tests) in
    let wrong : true ≡ false = sym t ∙ no in cc)

-- What a verdict means.

safe_night : (a : AuditState) (ks : List (List Entry)) (h : Hierarchy) (base : List Entry)
    (from : List (List Entry)) → a.domains.tree ≡ h → (f : Further base from a ks) → IsSafeNight h f.past
safe_night a ks h base from tree f = (subst (λ z. Safe z f.past) tree f.audited.safe, f.audited.boots)

pub all_taken : (a : AuditState) (ks : List (List Entry)) (h : Hierarchy) (base : List Entry)
    (from : List (List Entry)) → a.domains.tree ≡ h → Further base from a ks → AllEmpty ks → HasSafeMerge h base from
all_taken a ks h base from tree f none = (
  f.past,
  (record { left = ks; merges = f.merges; none = none }, safe_night a ks h base from tree f),
)

pub some_taken : (a : AuditState) (ks : List (List Entry)) (h : Hierarchy) (base : List Entry)
    (from : List (List Entry)) → a.domains.tree ≡ h → Further base from a ks → HasSafeStart h base from
some_taken a ks h base from tree f = (f.past, (ks, (f.merges, safe_night a ks h base from tree f)))

-- what a verdict that is right behind whatever was there before means of a night from nothing
pub begun_means : (v : MergeVerdict) (b : AuditState) (js : List (List Entry)) (a : AuditState) (ks : List (List Entry))
    (h : Hierarchy) → b.domains.tree ≡ h → IsAudited b [] → GoesFurther b js a ks
    → ((base : List Entry) (from : List (List Entry)) → Further base from a ks → Means v a.domains.tree base from)
    → Means v h [] js
begun_means v b js a ks h tree first goes means =
    subst (λ z. Means v z [] js) (goes.0 ∙ tree)
    (means [] js (goes.1 [] js (record { past = []; audited = first; merges = begins })))
