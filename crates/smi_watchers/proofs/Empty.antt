-- Lists with no cell.
use Rattle.std.proofs.Common.{◌≡◌, ℕ, ◌<◌, ◌^◌, arith, inl, inr, List, [], length, get_or, replicate, Some, None, sym}
use Rattle.std.proofs.Common.{ap, ◌∙◌, subst, map}
use Rattle.std.proofs.lemmas.Option.{unwrap_or-slice_get}
use Rattle.std.proofs.lemmas.List.{get_or-replicate, length-replicate, get_or-map, get_or_past, ext_get_or}
use Rattle.smi_watchers.specs.declared.cell.Cell.{Cell}
use Rattle.smi_watchers.specs.declared.cell.Sides.{Sides}
use Rattle.smi_watchers.specs.declared.cell.Spot.{Spot}
use Rattle.smi_watchers.specs.declared.watcher.Watcher.{Watcher}
use Rattle.smi_watchers.specs.declared.lists.Axis.{Axis}
use Rattle.smi_watchers.specs.declared.lists.Axis.TheVariants.{Object, Station}
use Rattle.smi_watchers.specs.Held.{found}
use Rattle.smi_watchers.specs.Net.{Net, no_links, heads, neighbours}
use Rattle.smi_watchers.specs.Mesh.{IsAxis, AllIn}
use Rattle.smi_watchers.specs.Walked.{step_at}
use Rattle.smi_watchers.specs.Watching.{IsAudience}
use Rattle.smi_watchers.specs.Kept.{watcher_in, watchers_from, lists_of, IsKept}
use Rattle.smi_watchers.proofs.Walks.{trace_none}
use Rattle.smi_watchers.proofs.Listings.{many}
use Rattle.smi_watchers.proofs.Leaving.{below}

no_audience : IsAudience []
no_audience = record { few = omega arith; once = λ i j d less lt. absurd (omega (arith, less, lt)) }

abbrev nobody_here : List Watcher
nobody_here = []

no_list : (k i : ℕ) → get_or (replicate k nobody_here) i [] ≡ []
no_list k i = elim (below i k) as (λ _. get_or (replicate k nobody_here) i [] ≡ []) [
  | inl lt ↦ get_or-replicate k i [] [] lt
  | inr ge ↦ get_or_past (replicate k nobody_here) i []
      (let all = length-replicate k nobody_here in omega (arith, all, ge))
]

module _ (n : Net) (none : n.held ≡ []) where
  nobody : (p : Spot) (c : Cell) → found p.at n.held ≡ Some c → ⊥
  nobody p c e = let clash : None ≡ Some c = ap (found p.at) (sym none) ∙ e in cc

  alone : (axis : Axis) (k i : ℕ) → heads axis n ≡ replicate k no_links → i < length (heads axis n)
      → neighbours axis i n None ≡ no_links
  alone axis k i free lt =
      let ilt : i < k = subst (λ m. i < m) (ap length free ∙ length-replicate k no_links) lt in
      ap (λ hs. get_or hs i no_links) free ∙ get_or-replicate k i no_links no_links ilt

  empty_axis : (axis : Axis) (k : ℕ) → heads axis n ≡ replicate k no_links → IsAxis axis (λ _. []) n
  empty_axis axis k free = record {
    path = λ i lt. (
      ap (λ (l : Sides). l.after) (alone axis k i free lt),
      ap (λ (l : Sides). l.before) (alone axis k i free lt),
    );
    apart = λ i. tt;
    belongs = λ i p m. absurd m;
  }

  empty_in : (axis : Axis) → AllIn axis (λ _. []) n
  empty_in axis p c e = absurd (nobody p c e)

  module _ (k : ℕ) (objects : n.objects ≡ replicate k no_links) where
    -- nobody watches
    pub empty_lists : lists_of n ≡ replicate k []
    empty_lists = ext_get_or [] (lists_of n) (replicate k [])
        (many n ∙ ap length objects ∙ length-replicate k no_links ∙ sym (length-replicate k nobody_here)) (λ i lt.
        let ilt : i < length n.objects = subst (λ m. i < m) (many n) lt in
        get_or-map (λ (head : Sides). watchers_from n head.after) n.objects i no_links [] ilt
        ∙ ap (λ (l : Sides). watchers_from n l.after) (alone Object k i objects ilt)
        ∙ ap (λ ps. map watcher_in (map (step_at n) ps)) (trace_none (length n.held) n)
        ∙ sym (no_list k i))

    pub kept_empty : k < 2 ^ 16 → n.stations ≡ replicate 129 no_links → IsKept n
    kept_empty few stations = record {
      whole = (
        (λ _. []),
        (λ _. []),
        record {
          objects = empty_axis Object k objects;
          stations = empty_axis Station 129 stations;
          in_row = empty_in Object;
          in_column = empty_in Station;
        },
      );
      audiences = λ i. subst IsAudience
          (sym (unwrap_or-slice_get (lists_of n) i [] ∙ ap (λ ls. get_or ls i []) empty_lists
          ∙ no_list k i)) no_audience;
      objects = let all = ap length objects ∙ length-replicate k no_links in omega (arith, few, all);
      stations = ap length stations ∙ length-replicate 129 no_links;
    }
