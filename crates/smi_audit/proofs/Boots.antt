-- The boots of stations rise.
use Rattle.std.proofs.Common.{ℕ, ◌≡◌, ◌<◌, ◌≤◌, Bool, true, false, List, ◌∷◌, inl, inr, refl, sym, ◌∙◌, subst, arith}
use Rattle.std.specs.Prelude.{◌==◌, if◌then◌else◌, nat_lt}
use Rattle.std.proofs.lemmas.Bool.{eqb-true}
use Rattle.std.proofs.lemmas.Bool.Decides.{nat_tests}
use Rattle.smi_tree.specs.Hierarchy.{Hierarchy}
use Rattle.smi_protocol.specs.Grants.{put}
use Rattle.smi_protocol.specs.declared.Entry.{Entry}
use Rattle.smi_protocol.specs.declared.Entry.TheVariants.{Booted, Granted, Freed, Ordered, Ran, Learned, LetGo}
use Rattle.smi_protocol.specs.declared.Entry.TheVariants.{InMode, Settled, Showed, Passed, Told}
use Rattle.smi_audit.specs.Described.{BootedAtMost, BootsRise}
use Rattle.smi_audit.specs.Tables.{Tables, takes, kept}

above : (boots : ℕ → ℕ) (s b : ℕ) → nat_lt (boots s) b ≡ true → boots s < b
above boots s b t = grind (arith, nat_tests)

-- a start is the greatest of its station
booted_now : (past : List Entry) (boots : ℕ → ℕ) (s b : ℕ) → nat_lt (boots s) b ≡ true → BootedAtMost past boots
    → BootedAtMost (Booted s b ∷ past) (put boots s b)
booted_now past boots s b t most u c (inl same) =
    let i : u ≡ s = cc in
    let j : c ≡ b = cc in
    rw i (rw j (by (s == s) refl))
  where
    by : (z : Bool) → (s == s) ≡ z → b ≤ (if z then b else boots s)
    by true is = omega arith
    by false is = absurd (let own : (s == s) ≡ true = grind (arith, nat_tests) in
        let wrong : true ≡ false = sym own ∙ is in cc)
booted_now past boots s b t most u c (inr a) = by (u == s) refl
  where
    by : (z : Bool) → (u == s) ≡ z → c ≤ (if z then b else boots u)
    by true is =
        let i : u ≡ s = eqb-true u s is in
        let under : c ≤ boots s = subst (λ w. c ≤ boots w) i (most u c a) in
        let up : boots s < b = above boots s b t in
        omega (arith, under, up)
    by false is = most u c a

not_now : (past : List Entry) (boots : ℕ → ℕ) (x : Entry) → ((s b : ℕ) → Booted s b ≡ x → ⊥) → BootedAtMost past boots
    → BootedAtMost (x ∷ past) boots
not_now past boots x other most s b (inl same) = absurd (other s b same)
not_now past boots x other most s b (inr a) = most s b a

pub booted_after : (h : Hierarchy) (t : Tables) (past : List Entry) (x : Entry) → takes h t x ≡ true
    → BootedAtMost past t.boots → BootedAtMost (x ∷ past) (kept t x).boots
booted_after h t past (Booted s b) u most = booted_now past t.boots s b u most
booted_after h t past (Granted d e who) u most = not_now past t.boots (Granted d e who) (λ v w same. absurd cc) most
booted_after h t past (Freed d e) u most = not_now past t.boots (Freed d e) (λ v w same. absurd cc) most
booted_after h t past (Ordered o d e n c) u most = not_now past t.boots (Ordered o d e n c) (λ v w same. absurd cc) most
booted_after h t past (Ran d e n c) u most = not_now past t.boots (Ran d e n c) (λ v w same. absurd cc) most
booted_after h t past (Learned who d e) u most = not_now past t.boots (Learned who d e) (λ v w same. absurd cc) most
booted_after h t past (LetGo who d e) u most = not_now past t.boots (LetGo who d e) (λ v w same. absurd cc) most
booted_after h t past (InMode d m) u most = not_now past t.boots (InMode d m) (λ v w same. absurd cc) most
booted_after h t past (Settled d e n q) u most = not_now past t.boots (Settled d e n q) (λ v w same. absurd cc) most
booted_after h t past (Showed s z) u most = not_now past t.boots (Showed s z) (λ v w same. absurd cc) most
booted_after h t past (Passed z) u most = not_now past t.boots (Passed z) (λ v w same. absurd cc) most
booted_after h t past (Told o z) u most = not_now past t.boots (Told o z) (λ v w same. absurd cc) most

pub boots_after : (h : Hierarchy) (t : Tables) (past : List Entry) (x : Entry) → takes h t x ≡ true
    → BootedAtMost past t.boots → BootsRise past → BootsRise (x ∷ past)
boots_after h t past (Booted s b) u most r = (
  λ c a. let under : c ≤ t.boots s = most s c a in
      let up : t.boots s < b = above t.boots s b u in omega (arith, under, up),
  r,
)
boots_after h t past (Granted d e who) u most r = r
boots_after h t past (Freed d e) u most r = r
boots_after h t past (Ordered o d e n c) u most r = r
boots_after h t past (Ran d e n c) u most r = r
boots_after h t past (Learned who d e) u most r = r
boots_after h t past (LetGo who d e) u most r = r
boots_after h t past (InMode d m) u most r = r
boots_after h t past (Settled d e n q) u most r = r
boots_after h t past (Showed s z) u most r = r
boots_after h t past (Passed z) u most r = r
boots_after h t past (Told o z) u most r = r
