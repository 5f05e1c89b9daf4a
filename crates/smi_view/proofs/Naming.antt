-- Each step keeps the rule of the two copies.
use Rattle.std.proofs.Common.{◌≡◌, ◌≢◌, ℕ, List, [], ◌∷◌, ◌++◌, set, refl, sym, subst, ◌∙◌, ⊎_elim, Option, Some}
use Rattle.std.proofs.Common.{None}
use mathlib.Core.Option.{some}
use lib.ListN.{get_elem?}
use Rattle.left_right.specs.Register.{Admits, TurnsAt, Forks, Merges}
use Rattle.atomic_table.proofs.Lists.{at_set, at_snoc}
use Rattle.smi_view.specs.declared.page.HistoryId.{HistoryId}
use Rattle.smi_view.specs.declared.sheet.BoardCopy.{BoardCopy}
use Rattle.smi_view.specs.Entries.{entries_of}
use Rattle.smi_view.specs.Pages.{name_of, Knows, Keeps, Finds}

abbrev All : BoardCopy → List (Option HistoryId) → Type 0
All x views = (seat : ℕ) (v : Option HistoryId) → get_elem? views seat ≡ some v → Knows x v

all_set : (x : BoardCopy) (views : List (Option HistoryId)) (seat : ℕ) (w : Option HistoryId) → All x views → Knows x w
    → All x (set views seat w)
all_set x views seat w h here j u e =
    ⊎_elim (λ (t : (j ≡ seat) × (w ≡ u)). subst (Knows x) t.1 here)
    (λ (t : (j ≢ seat) × (get_elem? views j ≡ some u)). h j u t.1) (at_set views seat j w u e)

all_more : (x : BoardCopy) (views : List (Option HistoryId)) (w : Option HistoryId) → All x views → Knows x w
    → All x (views ++ w ∷ [])
all_more x views w h here j u e = ⊎_elim (λ was. h j u was) (λ (same : w ≡ u). subst (Knows x) same here)
    (at_snoc views w u j e)

unknown : (x : BoardCopy) → Knows x None
unknown x n is = absurd cc

pub opens : (x : BoardCopy) → x.last.entries ≡ [] → x.mark.seen.log ≡ [] → Keeps x (None ∷ [])
opens x none empty = (rw (none, empty) refl, all_more x [] None (λ j u e. absurd cc) (unknown x))

pub admits : Admits Keeps None
admits x views h = (h.0, all_more x views None h.1 (unknown x))

pub finds : (seat : ℕ) (v : Option HistoryId) (x y : BoardCopy) → y.last.entries ≡ entries_of y.mark.seen.log
    → name_of y.mark.seen.book ≡ name_of x.mark.seen.book → TurnsAt Keeps seat v x y Finds
finds seat v x y entries same views h at =
    let moved : All y views = λ j u e n is. h.1 j u e n is ∙ sym same in (
      Some (name_of y.mark.seen.book),
      (
        entries,
        all_set y views seat (Some (name_of y.mark.seen.book)) moved (λ n is. cc),
      ),
      (refl, entries, moved seat v at),
    )

-- a reading leaves the copy as it is
pub reads : (seat : ℕ) (v : Option HistoryId) (x : BoardCopy) → TurnsAt Keeps seat v x x Finds
reads seat v x views h at = finds seat v x x h.0 refl views h at

pub forks : (seat : ℕ) (v : Option HistoryId) → Forks Keeps seat v v v
forks seat v x views h at =
    (h.0, all_more x (set views seat v) v (all_set x views seat v h.1 (h.1 seat v at)) (h.1 seat v at))

pub merges : (seat : ℕ) (v : Option HistoryId) (other : ℕ) (w : Option HistoryId) → Merges Keeps seat v other w w None
merges seat v other w x views h at apart there =
    let told : Knows x w = ⊎_elim (λ (t : (other ≡ seat) × (w ≡ w)). absurd (apart t.0))
    (λ (t : (other ≢ seat) × (get_elem? views other ≡ some w)). h.1 other w t.1)
    (at_set views seat other w w there) in
    (h.0, all_set x (set views seat w) other None (all_set x views seat w h.1 told) (unknown x))
