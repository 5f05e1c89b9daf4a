-- A trace whose opening is written, and of which the rest follows.
use Rattle.std.proofs.Common.{ℕ, ◌≡◌, List, [], ◌++◌, take, Option, Some, None, IfSome, append-nil, sym, ap, ◌∙◌}
use Rattle.std.proofs.Common.{subst}
use Rattle.std.specs.Str.Lines.{lines}
use Rattle.std.specs.Io.KnownBytes.{Appends}
use Rattle.std.proofs.KnownBytes.{Appends-trans}
use Rattle.smi_tree.specs.Hierarchy.{Hierarchy}
use Rattle.smi_protocol.specs.declared.item.Item.{Item}
use Rattle.smi_schedule.specs.Schedule.{items_before_fault}
use Rattle.smi_schedule.specs.Text.{trace_text}
use Rattle.smi_schedule.proofs.Prefixes.{prefix_more}
use Rattle.smi_protocol.specs.Schedule.{first_world, opening_lines, trace_from, trace_of}
use Rattle.smi_world.specs.Streaming.{IsDone, MadeOfRead, ending_of, text_of}
use Rattle.smi_world.specs.declared.streaming.Streamed.{Streamed}
use Rattle.smi_world.specs.declared.streaming.Streamed.TheVariants as streamed
use Rattle.smi_world.proofs.Going.{Bytes, still, text_both}

-- what the items leave after the opening
abbrev pub rest_text : Hierarchy → List Item → Bytes
rest_text h items = trace_text h (trace_from h (first_world h) items)

two_parts : (h : Hierarchy) (items : List Item)
    → trace_text h (trace_of h items) ≡ trace_text h (opening_lines h) ++ rest_text h items
two_parts h items = text_both h (opening_lines h) (trace_from h (first_world h) items)

module _ (h : Hierarchy) (before now after : Option Bytes) where
  -- all of it
  pub begun_all : (items : List Item) → Appends before now (trace_text h (opening_lines h))
      → Appends now after (rest_text h items) → Appends before after (trace_text h (trace_of h items))
  begun_all items opened wrote = subst (Appends before after) (sym (two_parts h items))
      (Appends-trans before now after (trace_text h (opening_lines h)) (rest_text h items) opened wrote)

  -- a prefix of the rest
  pub begun_front : (items : List Item) → Appends before now (trace_text h (opening_lines h))
      → (n : ℕ) × Appends now after (take n (rest_text h items))
      → (n : ℕ) × Appends before after (take n (trace_text h (trace_of h items)))
  begun_front items opened wrote =
      prefix_more before now after (trace_text h (opening_lines h)) (rest_text h items) []
      (trace_text h (trace_of h items)) wrote.0
      (two_parts h items ∙ ap (λ (t : Bytes). trace_text h (opening_lines h) ++ t)
      (sym (append-nil (rest_text h items)))) opened wrote.1

-- a prefix of the opening alone
pub opening_front : (h : Hierarchy) (before after : Option Bytes) (items : List Item)
    → (n : ℕ) × Appends before after (take n (trace_text h (opening_lines h)))
    → (n : ℕ) × Appends before after (take n (trace_text h (trace_of h items)))
opening_front h before after items wrote =
    prefix_more before before after [] (trace_text h (opening_lines h)) (rest_text h items)
    (trace_text h (trace_of h items)) wrote.0 (two_parts h items) (still before) wrote.1

-- the same of any text that is known
pub opening_of_any : (h : Hierarchy) (before after : Option Bytes) (o : Option Bytes)
    → (n : ℕ) × Appends before after (take n (trace_text h (opening_lines h)))
    → IfSome o (λ input. (n : ℕ) × Appends before after (take n (text_of h (lines input))))
opening_of_any h before after None wrote = tt
opening_of_any h before after (Some input) wrote =
    opening_front h before after (items_before_fault h (lines input)) wrote

-- The items of a text were made after the opening, in the words of who made them.
module _ (t h : Hierarchy) (before now after : Option Bytes) (same : t ≡ h)
    (opened : Appends before now (trace_text h (opening_lines h))) where
  pub done_behind : (o : Option Bytes) (how : Streamed)
      → IfSome o (λ input. IsDone how → (how ≡ ending_of t (lines input))
      × Appends now after (trace_text t (trace_from t (first_world h) (items_before_fault t (lines input)))))
      → IfSome o (λ input. IsDone how → (how ≡ ending_of h (lines input))
      × Appends before after (text_of h (lines input)))
  done_behind None how done = tt
  done_behind (Some input) how done = λ is.
      let told : (how ≡ ending_of h (lines input))
      × Appends now after (rest_text h (items_before_fault h (lines input))) =
      subst (λ (a : Hierarchy). (how ≡ ending_of a (lines input))
      × Appends now after (trace_text a (trace_from a (first_world h) (items_before_fault a (lines input))))) same
      (done is) in
      (told.0, begun_all h before now after (items_before_fault h (lines input)) opened told.1)

  pub whole_behind : (o : Option Bytes) (how : Streamed)
      → IfSome o (λ input. how ≡ streamed.ReadFault
      → (k : ℕ) × Appends now after (trace_text t
      (trace_from t (first_world h) (items_before_fault t (take k (lines input))))))
      → IfSome o (λ input. how ≡ streamed.ReadFault → (k : ℕ) × Appends before after (text_of h (take k (lines input))))
  whole_behind None how done = tt
  whole_behind (Some input) how done = λ is.
      let told : (k : ℕ) × Appends now after (rest_text h (items_before_fault h (take k (lines input)))) =
      subst (λ (a : Hierarchy). (k : ℕ) × Appends now after
      (trace_text a (trace_from a (first_world h) (items_before_fault a (take k (lines input)))))) same (done is) in
      (told.0, begun_all h before now after (items_before_fault h (take told.0 (lines input))) opened told.1)

  pub read_behind : (o unread : Option Bytes) (how : Streamed)
      → IfSome o (λ input. how ≡ streamed.ReadFault → MadeOfRead input unread now after
      (λ ls. trace_text t (trace_from t (first_world h) (items_before_fault t ls))))
      → IfSome o (λ input. how ≡ streamed.ReadFault → MadeOfRead input unread before after (text_of h))
  read_behind None unread how done = tt
  read_behind (Some input) unread how done = λ is.
      let told : MadeOfRead input unread now after (λ ls. rest_text h (items_before_fault h ls)) =
      subst (λ (a : Hierarchy). MadeOfRead input unread now after
      (λ ls. trace_text a (trace_from a (first_world h) (items_before_fault a ls)))) same (done is) in
      record {
        made = told.made;
        all = told.all;
        written = begun_all h before now after (items_before_fault h told.made) opened told.written;
      }

  pub front_behind : (o : Option Bytes)
      → IfSome o (λ input. (n : ℕ) × Appends now after
      (take n (trace_text t (trace_from t (first_world h) (items_before_fault t (lines input))))))
      → IfSome o (λ input. (n : ℕ) × Appends before after (take n (text_of h (lines input))))
  front_behind None done = tt
  front_behind (Some input) done =
      begun_front h before now after (items_before_fault h (lines input)) opened
      (subst (λ (a : Hierarchy). (n : ℕ) × Appends now after
      (take n (trace_text a (trace_from a (first_world h) (items_before_fault a (lines input)))))) same done)
