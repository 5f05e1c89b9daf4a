-- Items that are made one after the other.
use Rattle.std.proofs.Common.{ℕ, suc, ◌≡◌, ◌<◌, ◌+◌, true, false, List, [], ◌∷◌, ◌++◌, Result, Ok, Err, drop, get_or}
use Rattle.std.proofs.Common.{length, append_assoc, refl, sym, ap, ◌∙◌, subst, arith}
use Rattle.smi_tree.specs.Hierarchy.{Hierarchy}
use Rattle.smi_protocol.specs.declared.item.Item.{Item}
use Rattle.smi_protocol.specs.declared.item.Line.{Line}
use Rattle.std.proofs.Math.Seq.{drop-cons}
use Rattle.std.specs.Prelude.{OnOk}
use Rattle.smi_protocol.specs.Schedule.{World, first_world, lines_of, opening_lines, trace_from, trace_of, turn}
use Rattle.smi_schedule.specs.Naming.{has_item}
use Rattle.smi_world.specs.Posts.{Held, IsAt}
use Rattle.smi_world.specs.Running.{FirstUnnamed, Named}

-- the lines so far, and those that are left from the world that was reached, are all
pub record MadeSo (h : Hierarchy) (x : Held) (lines : List Line) (items : List Item) (all : List Line) : Type 0 where
  pub world : World
  pub is : IsAt x world
  pub same : lines ++ trace_from h world items ≡ all

-- one item more
pub made_on : (h : Hierarchy) (x y : Held) (lines new all : List Line) (item : Item) (items rest : List Item)
    → items ≡ item ∷ rest
    → ((w : World) → IsAt x w → new ≡ lines ++ lines_of w (turn h w item))
    → ((w : World) → IsAt x w → IsAt y (turn h w item).world) → MadeSo h x lines items all → MadeSo h y new rest all
made_on h x y lines new all item items rest same grown next made = record {
  world = (turn h made.world item).world;
  is = next made.world made.is;
  same =
      ap (λ (ls : List Line). ls ++ trace_from h (turn h made.world item).world rest) (grown made.world made.is)
      ∙ append_assoc lines (lines_of made.world (turn h made.world item))
      (trace_from h (turn h made.world item).world rest)
      ∙ ap (λ (xs : List Item). lines ++ trace_from h made.world xs) (sym same)
      ∙ made.same;
}

-- the first item names what the tree does not have
pub unnamed_here : (h : Hierarchy) (item : Item) (items rest : List Item) → items ≡ item ∷ rest
    → has_item h item ≡ false → FirstUnnamed h items 1
unnamed_here h item items rest same not = record {
  before = [];
  first = item;
  rest = rest;
  splits = same;
  nth = refl;
  named = tt;
  unnamed = not;
}

-- one that does not, before the first that does
pub unnamed_later : (h : Hierarchy) (item : Item) (items rest : List Item) (n : ℕ) → items ≡ item ∷ rest
    → has_item h item ≡ true → FirstUnnamed h rest n → FirstUnnamed h items (n + 1)
unnamed_later h item items rest n same has found = record {
  before = item ∷ found.before;
  first = found.first;
  rest = found.rest;
  splits = same ∙ ap (λ (xs : List Item). item ∷ xs) found.splits;
  nth = let e = found.nth in omega (arith, e);
  named = (has, found.named);
  unnamed = found.unnamed;
}

-- Which items name what the tree has, as far as they were made.
pub record SeenSo (h : Hierarchy) (items left : List Item) (i : ℕ) : Type 0 where
  pub named : Named h left → Named h items
  pub unnamed : (n : ℕ) → FirstUnnamed h left n → FirstUnnamed h items (n + i)

pub seen_on : (h : Hierarchy) (item : Item) (all items rest : List Item) (i : ℕ) → items ≡ item ∷ rest
    → has_item h item ≡ true → SeenSo h all items i → SeenSo h all rest (i + 1)
seen_on h item all items rest i same has seen = record {
  named = λ later. seen.named (subst (Named h) (sym same) (has, later));
  unnamed = λ n found. let e : n + 1 + i ≡ n + (i + 1) = omega arith in
      subst (FirstUnnamed h all) e (seen.unnamed (n + 1) (unnamed_later h item items rest n same has found));
}

pub seen_none : (h : Hierarchy) (all : List Item) → SeenSo h all all 0
seen_none h all = record {
  named = λ x. x;
  unnamed = λ n found. let e : n ≡ n + 0 = omega arith in
      subst (FirstUnnamed h all) e found;
}

-- the items that are left, with the next one before them
pub items_next : {X : Type 0} (xs : List X) (i : ℕ) (d : X) → i < length xs
    → drop i xs ≡ get_or xs i d ∷ drop (i + 1) xs
items_next xs i d below = let e : suc i ≡ i + 1 = omega arith in
    drop-cons xs i d below ∙ ap (λ k. get_or xs i d ∷ drop k xs) e

-- the trace of a run, after its opening
pub run_trace : {X Y : Type 0} (r : Result X Y) (h t : Hierarchy) (lines opened new : List Line) (items : List Item)
    → t ≡ h → opened ≡ lines ++ opening_lines h → OnOk r (new ≡ opened ++ trace_from t (first_world h) items)
    → OnOk r (new ≡ lines ++ trace_of h items)
run_trace (Err e) h t lines opened new items same first made = tt
run_trace (Ok u) h t lines opened new items same first made =
    made
    ∙ ap (λ (x : Hierarchy). opened ++ trace_from x (first_world h) items) same
    ∙ ap (λ (ls : List Line). ls ++ trace_from h (first_world h) items) first
    ∙ append_assoc lines (opening_lines h) (trace_from h (first_world h) items)
