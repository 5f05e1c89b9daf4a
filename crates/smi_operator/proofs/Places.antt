-- The place of the oldest order in work that an answer is of.
use Rattle.std.proofs.Common.{◌≡◌, ◌⊎◌, inl, inr, ℕ, ◌+◌, ◌<◌, Bool, true, false, List, length, get_or, sym}
use Rattle.std.proofs.Common.{subst, ◌∙◌, arith}
use Rattle.std.specs.Prelude.{Option, Some, IfSome, slice_get}
use Rattle.std.specs.Bool.{Decides}
use Rattle.std.proofs.lemmas.Bool.{cases_eq}
use Rattle.std.proofs.lemmas.Option.{slice_get-get_or}
use Rattle.smi_protocol.specs.declared.order.Mark.{Mark}
use Rattle.smi_protocol.specs.declared.order.Order.{Order}
use Rattle.smi_operator.specs.declared.work.WorkSlot.{WorkSlot}
use Rattle.smi_operator.specs.Working.{IsAnsweredBy, IsOfNone, IsPlaceOf}

-- the entry at a place
there : (P : WorkSlot → Type 0) (work : List WorkSlot) (i : ℕ) (e : WorkSlot) → i < length work → e ≡ get_or work i e
    → P e → IfSome (slice_get work i) P
there P work i e within is p = subst (λ (x : Option WorkSlot). IfSome x P) (sym (slice_get-get_or work i e within))
    (subst P is p)

pub place_found : (o : Order) (m : Option Mark) (work : List WorkSlot) (i : ℕ) (e : WorkSlot) (b : Bool)
    → i < length work → e ≡ get_or work i e
    → IsOfNone o m work i → Decides b (IsAnsweredBy o m e.work) → b ≡ true → IsPlaceOf o m work (Some i)
place_found o m work i e b within is free decides passed =
    (within, there (λ x. IsAnsweredBy o m x.work) work i e within is (decides.0 passed), free)

pub not_here : (o : Order) (m : Option Mark) (work : List WorkSlot) (i : ℕ) (e : WorkSlot) (b : Bool) → i < length work
    → e ≡ get_or work i e
    → IsOfNone o m work i → Decides b (IsAnsweredBy o m e.work) → b ≡ false → IsOfNone o m work (i + 1)
not_here o m work i e b within is free decides failed = λ k below. by_case k below (cases_eq k i)
  where
    wrong : b ≡ true → ⊥
    wrong passed = absurd (let clash : true ≡ false = sym passed ∙ failed in cc)

    by_case : (k : ℕ) → k < i + 1 → (k ≡ i) ⊎ (k ≡ i → ⊥) → IfSome (slice_get work k) (λ x. IsAnsweredBy o m x.work → ⊥)
    by_case k below (inl same) =
        rw same (there (λ x. IsAnsweredBy o m x.work → ⊥) work i e within is (λ p. wrong (decides.1 p)))
    by_case k below (inr other) = free k (omega (arith, below, other))
