-- What one line of a schedule makes of the items and the fault of the lines after it.
use Rattle.std.proofs.Common.{◌≡◌, ℕ, ◌+◌, List, [], ◌∷◌, ◌++◌, Option, Some, None, Result, Ok, Err, refl, sym, ap}
use Rattle.std.proofs.Common.{◌∙◌, append-nil}
use Rattle.std.specs.Option.{option_to_list}
use Rattle.smi_tree.specs.Hierarchy.{Hierarchy}
use Rattle.smi_tree.specs.declared.fault.Fault.{Fault}
use Rattle.smi_protocol.specs.declared.item.Item.{Item}
use Rattle.smi_schedule.specs.Line.{item_in}
use Rattle.smi_schedule.specs.declared.schedule.ScheduleFault.{ScheduleFault}
use Rattle.smi_schedule.specs.declared.schedule.ScheduleFault.TheVariants.{Line, Memory}
use Rattle.smi_schedule.specs.Schedule.{items_before_fault, first_fault, items_on, items_of, at_line, unless_faulty}
use Rattle.smi_schedule.specs.Schedule.{Reads, ReadsLine}

stands : (said : Result (Option Item) Fault) (item : Option Item) (more : List Item) → said ≡ Ok item
    → items_on said more ≡ option_to_list item ++ more
stands said None more e = rw e refl
stands said (Some x) more e = rw e refl

-- a lawful line puts its item before those of the lines after it
pub items-line : (h : Hierarchy) (line : List ℕ) (more ls : List (List ℕ)) (item : Option Item) → ls ≡ line ∷ more
    → item_in h line ≡ Ok item
    → items_before_fault h ls ≡ option_to_list item ++ items_before_fault h more
unfolding items_before_fault
items-line h line more ls item cut e = rw (cut, items_before_fault)
    (stands (item_in h line) item (items_before_fault h more) e)

-- and has no fault
pub fault-line : (number : ℕ) (h : Hierarchy) (line : List ℕ) (more ls : List (List ℕ)) (item : Option Item)
    → ls ≡ line ∷ more → item_in h line ≡ Ok item
    → first_fault number h ls ≡ first_fault (number + 1) h more
unfolding first_fault
fault-line number h line more ls item cut e = rw (cut, first_fault) (rw e refl)

-- a faulty line is the first
pub fault-here : (number : ℕ) (h : Hierarchy) (line : List ℕ) (more ls : List (List ℕ)) (fault : Fault)
    → ls ≡ line ∷ more → item_in h line ≡ Err fault
    → first_fault number h ls ≡ Some (at_line number fault)
unfolding first_fault
fault-here number h line more ls fault cut e = rw (cut, first_fault) (rw e refl)

pub items-none : (h : Hierarchy) (ls : List (List ℕ)) → ls ≡ [] → items_before_fault h ls ≡ []
unfolding items_before_fault
items-none h ls e = rw (e, items_before_fault) refl

pub fault-none : (number : ℕ) (h : Hierarchy) (ls : List (List ℕ)) → ls ≡ [] → first_fault number h ls ≡ None
unfolding first_fault
fault-none number h ls e = rw (e, first_fault) refl

-- the fault of a line is that of all, if none above it has one
pub refused : {X : Type 0} (Y : Type 0) (view : X → List Item) (number : ℕ) (h : Hierarchy) (line : List ℕ)
    (more ls all : List (List ℕ)) (old new : List Item) (e : ScheduleFault)
    → ls ≡ line ∷ more → first_fault number h ls ≡ first_fault 1 h all
    → ReadsLine {X = Y} old (item_in h line) number (Err e) new → Reads view (Err e) (items_of h all)
refused Y view number h line more ls all old new Memory cut same r = tt
refused Y view number h line more ls all old new (Line place code) cut same r =
    let here : first_fault 1 h all ≡ Some (at_line number r.0) = sym same
    ∙ fault-here number h line more ls r.0 cut r.1 in
    let told : at_line number r.0 ≡ Line place code = cc in
    ap (λ (f : Option ScheduleFault). unless_faulty f (items_before_fault h all)) here
    ∙ ap (λ (f : ScheduleFault). Err f) told

-- if no line is left, the items so far are all
pub ended : (number : ℕ) (h : Hierarchy) (ls all : List (List ℕ)) (items : List Item) → ls ≡ []
    → items ++ items_before_fault h ls ≡ items_before_fault h all
    → first_fault number h ls ≡ first_fault 1 h all → items_of h all ≡ Ok items
ended number h ls all items none same faults =
    let no : first_fault 1 h all ≡ None = sym faults ∙ fault-none number h ls none in
    let whole : items_before_fault h all ≡ items = sym same
    ∙ ap (λ (xs : List Item). items ++ xs) (items-none h ls none) ∙ append-nil items in
    ap (λ (f : Option ScheduleFault). unless_faulty f (items_before_fault h all)) no
    ∙ ap (λ (xs : List Item). Ok xs) whole
