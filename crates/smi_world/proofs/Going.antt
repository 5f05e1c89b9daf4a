-- A stream of schedule lines, as far as it has come.
use Rattle.std.proofs.Common.{ℕ, ◌≡◌, ◌+◌, ◌<◌, true, List, [], ◌∷◌, ◌++◌, length, take, Option, Some, None, Result}
use Rattle.std.proofs.Common.{length-append}
use Rattle.std.proofs.Common.{Ok, Err, IfSome, append-nil, append_assoc, refl, sym, ap, ◌∙◌, subst, arith}
use Rattle.std.specs.Prelude.{if◌then◌else◌, is_ok, nat_lt}
use Rattle.std.specs.Str.Lines.{lines}
use Rattle.std.specs.Io.KnownBytes.{Appends, Keeps, prepend_known}
use Rattle.std.proofs.KnownBytes.{Appends-trans}
use Rattle.std.proofs.lemmas.List.{take_at}
use Rattle.std.proofs.lemmas.Grind.{flat_map-append}
use Rattle.std.proofs.lemmas.Bool.Decides.{nat_tests}
use Rattle.smi_base.specs.declared.trees.TheConstants.{MOST_BYTES_OF_A_LINE}
use Rattle.smi_tree.specs.Fault.{fault_code}
use Rattle.smi_tree.specs.Hierarchy.{Hierarchy}
use Rattle.smi_tree.specs.declared.fault.Fault.{Fault}
use Rattle.smi_tree.specs.declared.fault.Fault.TheVariants.{LineTooLong}
use Rattle.smi_protocol.specs.declared.item.Item.{Item}
use Rattle.smi_protocol.specs.declared.item.Line.{Line}
use Rattle.smi_schedule.specs.Line as schedule_line
use Rattle.smi_schedule.specs.Line.{item_in}
use Rattle.smi_tree.specs.Text.{words}
use Rattle.smi_schedule.specs.Lines.{Cuts, CutsText, HasNoLine, Window, left}
use Rattle.smi_schedule.specs.declared.lines.Cut.{Cut}
use Rattle.smi_schedule.specs.Schedule.{fault_or, first_fault, items_before_fault, items_on}
use Rattle.smi_schedule.specs.declared.lines.Cut.TheVariants as cut
use Rattle.smi_schedule.specs.Text.{trace_text, line_text}
use Rattle.smi_schedule.proofs.Prefixes.{prefix_more}
use Rattle.smi_protocol.specs.Schedule.{World, trace_from}
use Rattle.smi_world.specs.Posts.{Held, IsAt}
use Rattle.smi_world.specs.Streaming.{IsAllMade, IsFault, MadeOfRead, ended_by, ending_of, lines_after, most_lines}
use Rattle.smi_world.specs.Streaming.{world_after}
use Rattle.smi_world.specs.declared.streaming.Streamed.{Streamed}
use Rattle.smi_world.specs.declared.streaming.Streamed.TheVariants as streamed

abbrev pub Bytes : Type 0
Bytes = List ℕ

-- what was written of a trace is written of its parts
pub text_both : (h : Hierarchy) (xs ys : List Line) → trace_text h (xs ++ ys) ≡ trace_text h xs ++ trace_text h ys
text_both h xs ys = flat_map-append (line_text h) xs ys

-- These lines were made from the first world on, and left this; this text is left to be read.
pub record Gone (h : Hierarchy) (w : World) (input : Bytes) (number : ℕ) (x : Held) (before now : Option Bytes)
    (later : Bytes) : Type 0 where
  pub made : List Bytes
  pub world : World
  pub done : List Line
  pub count : length made + 1 ≡ number
  pub is : IsAt x world
  pub text : lines input ≡ made ++ lines later
  pub splits : (more : List Bytes) → trace_from h w (items_before_fault h (made ++ more)) ≡ done
      ++ trace_from h world (items_before_fault h more)
  pub written : Appends before now (trace_text h done)
  pub ending : first_fault 1 h (lines input) ≡ first_fault number h (lines later)

-- nothing more is written
pub still : (c : Option Bytes) → Appends c c []
still None = tt
still (Some xs) = sym (append-nil xs)

-- at the beginning nothing is made
pub nothing_gone : (h : Hierarchy) (w : World) (input : Bytes) (x : Held) (c : Option Bytes) → IsAt x w
    → Gone h w input 1 x c c input
nothing_gone h w input x c is = record {
  made = [];
  world = w;
  done = [];
  count = refl;
  is = is;
  text = refl;
  splits = λ more. refl;
  written = still c;
  ending = refl;
}

before_line : (h : Hierarchy) (line : Bytes) (more : List Bytes)
    → items_before_fault h (line ∷ more) ≡ items_on (item_in h line) (items_before_fault h more)
unfolding items_before_fault
before_line h line more = refl

before_none : (h : Hierarchy) → items_before_fault h [] ≡ []
unfolding items_before_fault
before_none h = refl

fault_line : (h : Hierarchy) (number : ℕ) (line : Bytes) (more : List Bytes)
    → first_fault number h (line ∷ more) ≡ fault_or number (item_in h line) (first_fault (number + 1) h more)
unfolding first_fault
fault_line h number line more = refl

fault_none : (h : Hierarchy) (number : ℕ) → first_fault number h [] ≡ None
unfolding first_fault
fault_none h number = refl

long_line : (h : Hierarchy) (line : Bytes)
    → item_in h line ≡ (if nat_lt MOST_BYTES_OF_A_LINE (length line) then Err LineTooLong else schedule_line.item_by h
    (words line))
unfolding item_in
long_line h line = refl

-- what a line leaves, before what those after it leave
one_line : (h : Hierarchy) (v : World) (r : Result (Option Item) Fault) (items : List Item) → is_ok r ≡ true
    → trace_from h v (items_on r items) ≡ lines_after h v r ++ trace_from h (world_after h v r) items
one_line h v (Ok None) items ok = refl
one_line h v (Ok (Some x)) items ok = refl
one_line h v (Err fault) items ok = absurd cc

stands : (number : ℕ) (h : Hierarchy) (r : Result (Option Item) Fault) (more : List Bytes) → is_ok r ≡ true
    → fault_or number r (first_fault (number + 1) h more) ≡ first_fault (number + 1) h more
stands number h (Ok x) more ok = refl
stands number h (Err fault) more ok = absurd cc

module _ (h : Hierarchy) (w : World) (input : Bytes) (number : ℕ) (x : Held) (before now : Option Bytes)
    (later : Bytes) (gone : Gone h w input number x before now later) where
  abbrev v : World
  v = gone.world

  all_there : trace_from h w (items_before_fault h (lines input)) ≡ gone.done
      ++ trace_from h v (items_before_fault h (lines later))
  all_there = ap (λ (ls : List Bytes). trace_from h w (items_before_fault h ls)) gone.text ∙ gone.splits (lines later)

  -- one line more
  pub gone_on : (line : Bytes) (rest : Bytes) (y : Held) (next : Option Bytes) → lines later ≡ line ∷ lines rest
      → is_ok (item_in h line) ≡ true
      → IsAt y (world_after h v (item_in h line))
      → Appends now next (trace_text h (lines_after h v (item_in h line)))
      → Gone h w input (number + 1) y before next rest
  gone_on line rest y next cuts ok at wrote = record {
    made = gone.made ++ line ∷ [];
    world = world_after h v (item_in h line);
    done = gone.done ++ lines_after h v (item_in h line);
    count = omega (arith, length-append gone.made (line ∷ []), gone.count);
    is = at;
    text = gone.text ∙ ap (λ (ls : List Bytes). gone.made ++ ls) cuts
        ∙ sym (append_assoc gone.made (line ∷ []) (lines rest));
    splits = λ more.
        ap (λ (ls : List Bytes). trace_from h w (items_before_fault h ls)) (append_assoc gone.made (line ∷ []) more)
        ∙ gone.splits (line ∷ more)
        ∙ ap (λ (ls : List Line). gone.done ++ ls)
        (ap (λ (xs : List Item). trace_from h v xs) (before_line h line more)
        ∙ one_line h v (item_in h line) (items_before_fault h more) ok)
        ∙ sym (append_assoc gone.done (lines_after h v (item_in h line))
        (trace_from h (world_after h v (item_in h line)) (items_before_fault h more)));
    written =
        subst (Appends before next) (sym (text_both h gone.done (lines_after h v (item_in h line))))
        (Appends-trans before now next (trace_text h gone.done) (trace_text h (lines_after h v (item_in h line)))
        gone.written wrote);
    ending = gone.ending ∙ ap (λ (ls : List Bytes). first_fault number h ls) cuts
        ∙ fault_line h number line (lines rest) ∙ stands number h (item_in h line) (lines rest) ok;
  }

  -- all is written if no further line leaves anything
  all_written : trace_from h v (items_before_fault h (lines later)) ≡ []
      → Appends before now (trace_text h (trace_from h w (items_before_fault h (lines input))))
  all_written nothing =
      subst (λ (ls : List Line). Appends before now (trace_text h ls))
      (sym (all_there ∙ ap (λ (ls : List Line). gone.done ++ ls) nothing ∙ append-nil gone.done)) gone.written

  -- how a stream ends
  abbrev pub Comes : Streamed → Type 0
  Comes how = (how ≡ ending_of h (lines input))
      × Appends before now (trace_text h (trace_from h w (items_before_fault h (lines input))))

  -- there are no more lines
  pub gone_all : lines later ≡ [] → Comes streamed.Ended
  gone_all none = (
    sym (ap ended_by (gone.ending ∙ ap (λ (ls : List Bytes). first_fault number h ls) none ∙ fault_none h number)),
    all_written (ap (λ (ls : List Bytes). trace_from h v (items_before_fault h ls)) none
        ∙ ap (λ (xs : List Item). trace_from h v xs) (before_none h)),
  )

  -- the next line has a fault
  pub gone_faulty : (line : Bytes) (more : List Bytes) (fault : Fault) → lines later ≡ line ∷ more
      → item_in h line ≡ Err fault → Comes (streamed.Faulty number (fault_code fault))
  gone_faulty line more fault cuts is = (
    sym (ap ended_by (gone.ending ∙ ap (λ (ls : List Bytes). first_fault number h ls) cuts
        ∙ fault_line h number line more ∙ ap (λ r. fault_or number r (first_fault (number + 1) h more)) is)),
    all_written (ap (λ (ls : List Bytes). trace_from h v (items_before_fault h ls)) cuts
        ∙ ap (λ (xs : List Item). trace_from h v xs) (before_line h line more)
        ∙ ap (λ r. trace_from h v (items_on r (items_before_fault h more))) is),
  )

  -- the next line is too long
  pub gone_long : (line : Bytes) (more : List Bytes) (code : ℕ) → code ≡ fault_code LineTooLong
      → lines later ≡ line ∷ more → MOST_BYTES_OF_A_LINE < length line → Comes (streamed.Faulty number code)
  gone_long line more code is cuts long = subst (λ (n : ℕ). Comes (streamed.Faulty number n)) (sym is)
      (gone_faulty line more LineTooLong cuts (long_line h line
      ∙ ap (λ b. if b then Err LineTooLong else schedule_line.item_by h (words line)) long_is))
    where
      long_is : nat_lt MOST_BYTES_OF_A_LINE (length line) ≡ true
      long_is = grind (arith, nat_tests, long)

  -- a fault of the line as it was told
  pub gone_told : (line : Bytes) (more : List Bytes) (how : Streamed) → lines later ≡ line ∷ more
      → IsFault number (item_in h line) how → Comes how
  gone_told line more how cuts told = by (item_in h line) refl told
    where
      by : (r : Result (Option Item) Fault) → item_in h line ≡ r → IsFault number r how → Comes how
      by (Ok z) is told = absurd told
      by (Err fault) is told = subst Comes (sym told) (gone_faulty line more fault cuts is)

  -- what is written is that of the lines that were made
  pub gone_made : Appends before now (trace_text h (trace_from h w (items_before_fault h gone.made)))
  gone_made =
      subst (λ (ls : List Line). Appends before now (trace_text h ls))
      (sym (ap (λ (ls : List Bytes). trace_from h w (items_before_fault h ls)) (sym (append-nil gone.made))
      ∙ gone.splits [] ∙ ap (λ (xs : List Item). gone.done ++ trace_from h v xs) (before_none h)
      ∙ append-nil gone.done)) gone.written

  -- and so of that many lines of the text
  pub gone_whole : (k : ℕ) × Appends before now
      (trace_text h (trace_from h w (items_before_fault h (take k (lines input)))))
  gone_whole = (
    length gone.made,
    subst (λ (ls : List Bytes). Appends before now (trace_text h (trace_from h w (items_before_fault h ls))))
        (sym these) gone_made,
  )
    where
      these : take (length gone.made) (lines input) ≡ gone.made
      these = ap (take (length gone.made)) gone.text ∙ take_at gone.made (lines later) (length gone.made) refl

  -- and a prefix
  pub gone_front : (n : ℕ) × Appends before now
      (take n (trace_text h (trace_from h w (items_before_fault h (lines input)))))
  gone_front = prefix_more before now now (trace_text h gone.done) [] rest
      (trace_text h (trace_from h w (items_before_fault h (lines input)))) 0 whole gone.written (still now)
    where
      rest : Bytes
      rest = trace_text h (trace_from h v (items_before_fault h (lines later)))

      whole : trace_text h (trace_from h w (items_before_fault h (lines input))) ≡ trace_text h gone.done ++ rest
      whole = ap (trace_text h) all_there ∙ text_both h gone.done (trace_from h v (items_before_fault h (lines later)))

  -- also where a prefix of what the next line leaves is written
  pub gone_next : (line rest : Bytes) (next : Option Bytes) → lines later ≡ line ∷ lines rest → (k : ℕ)
      → Appends now next (take k (trace_text h (lines_after h v (item_in h line))))
      → (n : ℕ) × Appends before next (take n (trace_text h (trace_from h w (items_before_fault h (lines input)))))
  gone_next line rest next cuts k wrote = by (item_in h line) refl
    where
      leaves : Result (Option Item) Fault → List Line
      leaves r = trace_from h v (items_on r (items_before_fault h (lines rest)))

      whole : trace_text h (trace_from h w (items_before_fault h (lines input))) ≡ trace_text h gone.done
          ++ trace_text h (leaves (item_in h line))
      whole = ap (trace_text h)
          (all_there ∙ ap (λ (ls : List Bytes). gone.done ++ trace_from h v (items_before_fault h ls)) cuts
          ∙ ap (λ (xs : List Item). gone.done ++ trace_from h v xs) (before_line h line (lines rest)))
          ∙ text_both h gone.done (leaves (item_in h line))

      by : (r : Result (Option Item) Fault) → item_in h line ≡ r
          → (n : ℕ) × Appends before next (take n (trace_text h (trace_from h w (items_before_fault h (lines input)))))
      by (Ok z) is =
          let r = item_in h line in
          let later_text = trace_text h (trace_from h (world_after h v r) (items_before_fault h (lines rest))) in
          prefix_more before now next (trace_text h gone.done) (trace_text h (lines_after h v r)) later_text _ k
          (whole ∙ ap (λ (t : Bytes). trace_text h gone.done ++ t)
          (ap (trace_text h) (one_line h v r (items_before_fault h (lines rest)) (ap is_ok is))
          ∙ text_both h (lines_after h v r) (trace_from h (world_after h v r) (items_before_fault h (lines rest)))))
          gone.written wrote
      by (Err fault) is =
          prefix_more before now next (trace_text h gone.done) (trace_text h (lines_after h v (item_in h line))) [] _ k
          (whole ∙ ap (λ (r : Result (Option Item) Fault). trace_text h gone.done ++ trace_text h (leaves r)) is
          ∙ ap (λ (r : Result (Option Item) Fault). trace_text h gone.done
          ++ (trace_text h (lines_after h v r) ++ [])) (sym is))
          gone.written wrote

-- What is true of a text that is known, of what follows from it.
pub if_some : (o : Option Bytes) (P Q : Bytes → Type 0) → IfSome o P → ((text : Bytes) → P text → Q text) → IfSome o Q
if_some None P Q is follows = tt
if_some (Some text) P Q is follows = follows text is

-- What holds anyway holds where something else does.
pub anyway : (A B : Type 0) → B → A → B
anyway A B is other = is

-- These lines were made, and that much of the text is left to be cut, if it is known.
pub record Going (h : Hierarchy) (w : World) (input : Bytes) (number : ℕ) (x : Held) (before now text : Option Bytes)
    : Type 0 where
  pub later : Bytes
  pub left : text ≡ Some later
  pub gone : Gone h w input number x before now later

-- at the beginning all is left
pub all_going : (h : Hierarchy) (w : World) (o : Option Bytes) (window : Window) (x : Held) (c : Option Bytes)
    → window.rest ≡ [] → IsAt x w → IfSome o (λ input. Going h w input 1 x c c (left window o))
all_going h w None window x c none is = tt
all_going h w (Some input) window x c none is =
    record {
      later = input;
      left = ap (λ (r : Bytes). prepend_known r (Some input)) none;
      gone = nothing_gone h w input x c is;
    }

module _ (h : Hierarchy) (w : World) (input : Bytes) (number : ℕ) (x : Held) (before now text : Option Bytes)
    (going : Going h w input number x before now text) where
  abbrev pub Ends : Streamed → Option Bytes → Type 0
  Ends how next = (how ≡ ending_of h (lines input))
      × Appends before next (trace_text h (trace_from h w (items_before_fault h (lines input))))

  cut_so : (how : Cut) (line : Bytes) (after : Option Bytes) → Cuts how text line after
      → CutsText how going.later line after
  cut_so how line after cuts = subst (λ (t : Option Bytes). Cuts how t line after) going.left cuts

  pub ends_long : (line : Bytes) (after : Option Bytes) (code : ℕ) → code ≡ fault_code LineTooLong
      → Cuts cut.TooLong text line after → Ends (streamed.Faulty number code) now
  ends_long line after code is cuts = by (cut_so cut.TooLong line after cuts)
    where
      by : CutsText cut.TooLong going.later line after → Ends (streamed.Faulty number code) now
      by (first, more, splits, long) = gone_long h w input number x before now going.later going.gone first more code
          is splits long

  pub ends_all : (line : Bytes) (after : Option Bytes) → Cuts cut.End text line after → Ends streamed.Ended now
  ends_all line after cuts = gone_all h w input number x before now going.later going.gone
      (cut_so cut.End line after cuts)

  pub wrote_whole : (k : ℕ) × Appends before now
      (trace_text h (trace_from h w (items_before_fault h (take k (lines input)))))
  wrote_whole = gone_whole h w input number x before now going.later going.gone

  abbrev pub TextOf : List Bytes → Bytes
  TextOf ls = trace_text h (trace_from h w (items_before_fault h ls))

  -- a read has failed, and this is left of what was read and still to be read
  pub wrote_read : (window : Window) (unread : Option Bytes) → HasNoLine window.rest → Keeps text (left window unread)
      → MadeOfRead input unread before now TextOf
  wrote_read window unread no_line keeps = record {
    made = going.gone.made;
    all = λ few. by unread (subst (λ (t : Option Bytes). Keeps t (left window unread)) going.left keeps);
    written = gone_made h w input number x before now going.later going.gone;
  }
    where
      by : (o : Option Bytes) → Keeps (Some going.later) (left window o) → IfSome o (IsAllMade input going.gone.made)
      by None kept = tt
      by (Some later) kept = record {
        rest = window.rest;
        no_line = no_line;
        text = going.gone.text ∙ ap (λ (t : Bytes). going.gone.made ++ lines t) (sym kept);
      }

  -- no more lines are looked for
  pub wrote_most : (unread : Option Bytes) → most_lines < number → MadeOfRead input unread before now TextOf
  wrote_most unread most = record {
    made = going.gone.made;
    all = λ few. absurd (omega (arith, few, most, going.gone.count));
    written = gone_made h w input number x before now going.later going.gone;
  }

  pub wrote_front : (n : ℕ) × Appends before now
      (take n (trace_text h (trace_from h w (items_before_fault h (lines input)))))
  wrote_front = gone_front h w input number x before now going.later going.gone

  -- the line that was cut, in the words of who made it
  same_item : (t : Hierarchy) (line own : Bytes) → t ≡ h → line ≡ own → item_in t line ≡ item_in h own
  same_item t line own tree read = ap (λ (a : Hierarchy). item_in a line) tree ∙ ap (item_in h) read

  -- it is faulty
  pub ends_told :
      (t : Hierarchy) (line own : Bytes) (after next : Option Bytes) (how : Streamed) (Done Still : Type 0) → t ≡ h
      → line ≡ own → Cuts cut.Line text own after
      → (Done → Still × IsFault number (item_in t line) how) → (Still → next ≡ now) → Done → Ends how next
  ends_told t line own after next how Done Still tree read cuts told still done =
      subst (λ (c : Option Bytes). Ends how c) (sym (still (told done).0)) (by after (cut_so cut.Line own after cuts))
    where
      told_here : IsFault number (item_in h own) how
      told_here = subst (λ (r : Result (Option Item) Fault). IsFault number r how) (same_item t line own tree read)
          (told done).1

      by : (rest : Option Bytes) → CutsText cut.Line going.later own rest → Ends how now
      by None none = absurd none
      by (Some rest) splits = gone_told h w input number x before now going.later going.gone own (lines rest) how
          splits told_here

  -- a prefix of what it leaves is written
  pub wrote_next :
      (t : Hierarchy) (line own : Bytes) (after next : Option Bytes) → t ≡ h → line ≡ own → Cuts cut.Line text own after
      → ((v : World) → IsAt x v → (k : ℕ) × Appends now next (take k (trace_text t (lines_after t v (item_in t line)))))
      → (n : ℕ) × Appends before next (take n (trace_text h (trace_from h w (items_before_fault h (lines input)))))
  wrote_next t line own after next tree read cuts wrote = by after (cut_so cut.Line own after cuts)
    where
      v : World
      v = going.gone.world

      here : (k : ℕ) × Appends now next (take k (trace_text h (lines_after h v (item_in h own))))
      here =
          subst (λ (l : Bytes). (k : ℕ) × Appends now next (take k (trace_text h (lines_after h v (item_in h l))))) read
          (subst (λ (a : Hierarchy). (k : ℕ) × Appends now next
          (take k (trace_text a (lines_after a v (item_in a line))))) tree (wrote v going.gone.is))

      by : (rest : Option Bytes) → CutsText cut.Line going.later own rest
          → (n : ℕ) × Appends before next (take n (trace_text h (trace_from h w (items_before_fault h (lines input)))))
      by None none = absurd none
      by (Some rest) splits = gone_next h w input number x before now going.later going.gone own rest next splits
          here.0 here.1

  -- it is made, and all that it leaves is written
  pub goes_on :
      (t : Hierarchy) (line own : Bytes) (after next : Option Bytes) (y : Held) → t ≡ h → line ≡ own
      → Cuts cut.Line text own after → is_ok (item_in t line) ≡ true
      → ((v : World) → IsAt x v → IsAt y (world_after t v (item_in t line)))
      → ((v : World) → IsAt x v → Appends now next (trace_text t (lines_after t v (item_in t line))))
      → Going h w input (number + 1) y before next after
  goes_on t line own after next y tree read cuts ok at wrote = by after (cut_so cut.Line own after cuts)
    where
      v : World
      v = going.gone.world

      ok_here : is_ok (item_in h own) ≡ true
      ok_here = subst (λ (r : Result (Option Item) Fault). is_ok r ≡ true) (same_item t line own tree read) ok

      at_here : IsAt y (world_after h v (item_in h own))
      at_here =
          subst (λ (l : Bytes). IsAt y (world_after h v (item_in h l))) read
          (subst (λ (a : Hierarchy). IsAt y (world_after a v (item_in a line))) tree (at v going.gone.is))

      wrote_here : Appends now next (trace_text h (lines_after h v (item_in h own)))
      wrote_here =
          subst (λ (l : Bytes). Appends now next (trace_text h (lines_after h v (item_in h l)))) read
          (subst (λ (a : Hierarchy). Appends now next (trace_text a (lines_after a v (item_in a line)))) tree
          (wrote v going.gone.is))

      by : (rest : Option Bytes) → CutsText cut.Line going.later own rest
          → Going h w input (number + 1) y before next rest
      by None none = absurd none
      by (Some rest) splits = record {
        later = rest;
        left = refl;
        gone = gone_on h w input number x before now going.later going.gone own rest y next splits ok_here at_here
            wrote_here;
      }
