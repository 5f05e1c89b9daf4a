-- A step that a station of the world has made, and what it leaves.
use Rattle.std.proofs.Common.{ℕ, ◌≡◌, ◌<◌, ◌++◌, Option, Some, None, Err, refl, sym, ap, ◌∙◌, subst, append-nil}
use Rattle.std.proofs.Common.{arith}
use Rattle.std.specs.Prelude.{map}
use mathlib.Core.Path.{fun_ext}
use Rattle.smi_tree.specs.Hierarchy.{Hierarchy}
use Rattle.smi_rows.specs.Store.{IsSame, Rows}
use Rattle.smi_protocol.specs.Display.{Station}
use Rattle.smi_protocol.specs.Happening.{Happening, told_entries}
use Rattle.smi_protocol.specs.Refusals.{refusal_of}
use Rattle.smi_protocol.specs.Step.{Out, Outcome, after, answered_or, showed_entries}
use Rattle.smi_protocol.specs.declared.entry.Entry.TheVariants as entry
use Rattle.smi_protocol.specs.declared.event.Heard.{Heard}
use Rattle.smi_protocol.specs.declared.event.StepFault.{StepFault}
use Rattle.smi_protocol.specs.declared.event.StepFault.TheVariants.{Memory, NotStored, Stopped}
use Rattle.smi_station_grants.specs.Save.{IfCounted, IfKept}
use Rattle.smi_station.specs.Core.{Core, IsStoredIn}
use Rattle.smi_world.specs.Left.{Left}
use Rattle.smi_world.specs.Made.{Leaves}

-- after a fault the rows say what they said
pub fault_stored : (before next : Core) (old new : Rows) (fault : StepFault)
    → IfKept {X = Heard} (Err fault) (next ≡ before)
    → IfKept {X = Heard} (Err fault) (Unit {0} → Unit {0} × IsSame new old) → IfCounted {X = Heard} (Err fault) (0 < 0)
    → IsStoredIn old before → IsStoredIn new next
fault_stored before next old new NotStored same rows failed stored = let wrong : ⊥ = omega (arith, failed) in
    absurd wrong
fault_stored before next old new Stopped same rows failed stored = let wrong : ⊥ = omega (arith, failed) in absurd wrong
fault_stored before next old new Memory same rows failed stored =
    subst (IsStoredIn new) (sym same) (subst (λ (z : Rows). IsStoredIn z before) (sym (fun_ext (rows tt).1)) stored)

module _ (h : Hierarchy) (number : ℕ) (s : Station) (what : Happening) where
  abbrev made : Outcome
  made = after h number s what

  -- what the step leaves by its save, read off what it hands out
  kept_out : (o : Option ℕ) → (answered_or h number s what o).out.kept ≡ (answered_or h number s what o).kept
  kept_out (Some code) = refl
  kept_out None = refl

  -- and what it leaves after its save
  left_after : (o : Option ℕ) → showed_entries number (answered_or h number s what o).out.shown
      ++ map entry.Passed (answered_or h number s what o).out.passed
      ++ told_entries (answered_or h number s what o).out.answers
      ≡ (answered_or h number s what o).after
  left_after (Some code) = refl
  left_after None = refl

  pub leaves : (l : Left) → l.station ≡ number → l.started ≡ None → l.out ≡ made.out → Leaves h l made
  leaves l own started out = record {
    kept = ap (λ (z : Out). z.kept) out ∙ kept_out (refusal_of h number s.grants what);
    entries =
        rw (own, started, out)
        (ap (λ xs. xs ++ (showed_entries number made.out.shown ++ map entry.Passed made.out.passed
        ++ told_entries made.out.answers))
        (append-nil made.out.kept ∙ kept_out (refusal_of h number s.grants what))
        ∙ ap (λ xs. made.kept ++ xs) (left_after (refusal_of h number s.grants what)));
    sends = ap (λ (z : Out). z.datagrams) out;
  }
