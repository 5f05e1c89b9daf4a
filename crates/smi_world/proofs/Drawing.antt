-- Drawn items, as far as they are made and written.
use Rattle.std.proofs.Common.{ℕ, ◌≡◌, suc, List, [], ◌∷◌, ◌++◌, take, Option, Result, Ok, Err, OnOk, append-nil}
use Rattle.std.proofs.Common.{append_assoc, sym, ap, ◌∙◌, subst}
use Rattle.std.specs.Io.KnownBytes.{Appends}
use Rattle.std.proofs.KnownBytes.{Appends-trans}
use Rattle.rand_pcg.specs.Lcg.{Lcg}
use Rattle.smi_tree.specs.Hierarchy.{Hierarchy}
use Rattle.smi_protocol.specs.declared.item.Item.{Item}
use Rattle.smi_protocol.specs.declared.item.Line.{Line}
use Rattle.smi_schedule.specs.Drawn.{item_of, items_drawn, schedule_drawn, seeded, word_of, word_taken}
use Rattle.smi_schedule.specs.Text.{trace_text}
use Rattle.smi_schedule.proofs.Prefixes.{prefix_all, prefix_more}
use Rattle.smi_protocol.specs.Schedule.{World, first_world, lines_of, opening_lines, trace_from, trace_of, turn}
use Rattle.smi_world.specs.Posts.{Held, IsAt}
use Rattle.smi_world.proofs.Begun.{begun_all, begun_front}
use Rattle.smi_world.proofs.Going.{Bytes, still, text_both}

-- no item is left
pub none_drawn : (h : Hierarchy) (n : ℕ) (words : Lcg) → n ≡ 0 → items_drawn h n words ≡ []
unfolding items_drawn
none_drawn h n words none = ap (λ (k : ℕ). items_drawn h k words) none

-- the next item
pub next_drawn : (h : Hierarchy) (n m : ℕ) (words : Lcg) → n ≡ suc m
    → items_drawn h n words ≡ item_of h (word_of words) ∷ items_drawn h m (word_taken words)
unfolding items_drawn
next_drawn h n m words more = ap (λ (k : ℕ). items_drawn h k words) more

-- the same in the words of who drew it
pub first_drawn : (t h : Hierarchy) (n m : ℕ) (words next : Lcg) (item : Item) → t ≡ h → n ≡ suc m
    → item ≡ item_of t (word_of words) → next ≡ word_taken words → items_drawn h n words ≡ item ∷ items_drawn h m next
first_drawn t h n m words next item same more picked taken =
    next_drawn h n m words more
    ∙ ap (λ (i : Item). i ∷ items_drawn h m (word_taken words))
    (ap (λ (a : Hierarchy). item_of a (word_of words)) (sym same) ∙ sym picked)
    ∙ ap (λ (d : Lcg). item ∷ items_drawn h m d) (sym taken)

-- Of these items some were made from the first world on, and left this; these are left.
pub record Drawing (h : Hierarchy) (w : World) (items : List Item) (x : Held) (before now : Option Bytes)
    (later : List Item) : Type 0 where
  pub world : World
  pub done : List Line
  pub is : IsAt x world
  pub splits : trace_from h w items ≡ done ++ trace_from h world later
  pub written : Appends before now (trace_text h done)

-- at the beginning all are left
pub all_drawing : (h : Hierarchy) (w : World) (steps left : ℕ) (words : Lcg) (x : Held) (c : Option Bytes)
    → steps ≡ left → IsAt x w → Drawing h w (items_drawn h steps words) x c c (items_drawn h left words)
all_drawing h w steps left words x c same is =
    record {
      world = w;
      done = [];
      is = is;
      splits = ap (λ (n : ℕ). trace_from h w (items_drawn h n words)) same;
      written = still c;
    }

module _ (h : Hierarchy) (w : World) (items : List Item) (x : Held) (before now : Option Bytes) (later : List Item)
    (drawing : Drawing h w items x before now later) where
  abbrev v : World
  v = drawing.world

  -- one more is made
  pub drawing_on :
      (t : Hierarchy) (item : Item) (rest : List Item) (y : Held) (next : Option Bytes) → t ≡ h → later ≡ item ∷ rest
      → ((v : World) → IsAt x v → IsAt y (turn t v item).world)
      → ((v : World) → IsAt x v → Appends now next (trace_text t (lines_of v (turn t v item))))
      → Drawing h w items y before next rest
  drawing_on t item rest y next same first at wrote = record {
    world = (turn h v item).world;
    done = drawing.done ++ lines_of v (turn h v item);
    is = subst (λ (a : Hierarchy). IsAt y (turn a v item).world) same (at v drawing.is);
    splits =
        drawing.splits
        ∙ ap (λ (xs : List Item). drawing.done ++ trace_from h v xs) first
        ∙ sym (append_assoc drawing.done (lines_of v (turn h v item)) (trace_from h (turn h v item).world rest));
    written =
        subst (Appends before next) (sym (text_both h drawing.done (lines_of v (turn h v item))))
        (Appends-trans before now next (trace_text h drawing.done) (trace_text h (lines_of v (turn h v item)))
        drawing.written
        (subst (λ (a : Hierarchy). Appends now next (trace_text a (lines_of v (turn a v item)))) same
        (wrote v drawing.is)));
  }

  -- a prefix of what the next one leaves is written
  pub drawing_next :
      (t : Hierarchy) (item : Item) (rest : List Item) (next : Option Bytes) → t ≡ h → later ≡ item ∷ rest
      → ((v : World) → IsAt x v → (n : ℕ) × Appends now next (take n (trace_text t (lines_of v (turn t v item)))))
      → (n : ℕ) × Appends before next (take n (trace_text h (trace_from h w items)))
  drawing_next t item rest next same first wrote =
      prefix_more before now next (trace_text h drawing.done) (trace_text h (lines_of v (turn h v item)))
      (trace_text h more) (trace_text h (trace_from h w items)) here.0 whole drawing.written here.1
    where
      more : List Line
      more = trace_from h (turn h v item).world rest

      here : (n : ℕ) × Appends now next (take n (trace_text h (lines_of v (turn h v item))))
      here = subst (λ (a : Hierarchy). (n : ℕ) × Appends now next
          (take n (trace_text a (lines_of v (turn a v item))))) same (wrote v drawing.is)

      whole : trace_text h (trace_from h w items) ≡ trace_text h drawing.done
          ++ (trace_text h (lines_of v (turn h v item)) ++ trace_text h more)
      whole =
          ap (trace_text h) (drawing.splits ∙ ap (λ (xs : List Item). drawing.done ++ trace_from h v xs) first)
          ∙ text_both h drawing.done (lines_of v (turn h v item) ++ more)
          ∙ ap (λ (text : Bytes). trace_text h drawing.done ++ text) (text_both h (lines_of v (turn h v item)) more)

  -- all are made
  pub drawing_all : later ≡ [] → Appends before now (trace_text h (trace_from h w items))
  drawing_all none =
      subst (λ (ls : List Line). Appends before now (trace_text h ls))
      (sym (drawing.splits ∙ ap (λ (xs : List Item). drawing.done ++ trace_from h v xs) none
      ∙ append-nil drawing.done)) drawing.written

  pub drawing_front : later ≡ [] → (n : ℕ) × Appends before now (take n (trace_text h (trace_from h w items)))
  drawing_front none = prefix_all before now (trace_text h (trace_from h w items)) (drawing_all none)

-- The items of a seed were made after the opening, in the words of who drew them.
module _ (t h : Hierarchy) (words : Lcg) (seed steps : ℕ) (before now after : Option Bytes) (same : t ≡ h)
    (is : words ≡ seeded seed) (opened : Appends before now (trace_text h (opening_lines h))) where
  abbrev pub rest_of : Hierarchy → Lcg → Bytes
  rest_of a d = trace_text a (trace_from a (first_world h) (items_drawn a steps d))

  rest_is : rest_of t words ≡ rest_of h (seeded seed)
  rest_is = ap (λ (a : Hierarchy). rest_of a words) same ∙ ap (rest_of h) is

  pub seeded_all : (X E : Type 0) (r : Result X E) → OnOk r (Appends now after (rest_of t words))
      → OnOk r (Appends before after (trace_text h (trace_of h (schedule_drawn h seed steps))))
  seeded_all X E (Ok x) wrote = begun_all h before now after (schedule_drawn h seed steps) opened
      (subst (Appends now after) rest_is wrote)
  seeded_all X E (Err fault) wrote = tt

  pub seeded_front : (n : ℕ) × Appends now after (take n (rest_of t words))
      → (n : ℕ) × Appends before after (take n (trace_text h (trace_of h (schedule_drawn h seed steps))))
  seeded_front wrote = begun_front h before now after (schedule_drawn h seed steps) opened
      (subst (λ (text : Bytes). (n : ℕ) × Appends now after (take n text)) rest_is wrote)
