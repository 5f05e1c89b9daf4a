-- What is known of a connection that was taken over.
use Rattle.std.proofs.Common.{inl, inr, sym, ap, ◌∙◌}
use Rattle.sqlite.specs.Effect.{Database}
use Rattle.sqlite.specs.State.{State, HasCleanDisk, IsUnchanged}
use Rattle.smi_stable.specs.SqlRows.{IsKeyed}
use Rattle.smi_stable.specs.SqlReady.{IsAdopted, IsReady}

-- a call that changes nothing leaves it so
pub adopted-still : (a b c : State) → IsAdopted a b → IsUnchanged b c → IsAdopted a c
adopted-still a b c h u = (
  u.0.mode ∙ h.0,
  ap (λ (d : Database). d.schema) u.0.now_is ∙ h.1,
  elim h.2 [
    | inl it ↦ inl (it.0, u.0.now_is ∙ it.1)
    | inr it ↦ inr (it.0, ap (λ (d : Database). d.trees 0) u.0.now_is ∙ it.1)
  ],
  λ live. u.0.committed_is ∙ h.3 u.0.was_open ∙ sym u.0.now_is,
)

pub adopted-ready : (a s : State) → (HasCleanDisk s → IsAdopted a s) → IsKeyed (s.now.trees 0) → IsReady s
adopted-ready a s h keyed clean =
    let it = h clean in
    (it.0, λ live. record { schema = it.1; keyed = keyed; settled = it.3 live })
