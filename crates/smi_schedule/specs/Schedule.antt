-- What the lines of a schedule let happen, up to the first faulty one.
use Rattle.std.specs.Prelude.{ℕ, ◌≡◌, ◌+◌, nat_lt, List, [], ◌∷◌, ◌++◌, length, Option, Some, None, Result, Ok, Err}
use Rattle.std.specs.Prelude.{if◌then◌else◌}
use Rattle.std.specs.Option.{option_to_list}
use Rattle.std.specs.Str.Lines.{lines}
use Rattle.smi_base.specs.declared.trees.TheConstants.{MOST_BYTES_OF_A_FILE}
use Rattle.smi_tree.specs.Fault.{fault_code}
use Rattle.smi_tree.specs.Hierarchy.{Hierarchy}
use Rattle.smi_tree.specs.declared.fault.Fault.{Fault}
use Rattle.smi_tree.specs.declared.fault.Fault.TheVariants.{FileTooLong}
use Rattle.smi_protocol.specs.declared.item.Item.{Item}
use Rattle.smi_schedule.specs.declared.schedule.ScheduleFault.{ScheduleFault}
use Rattle.smi_schedule.specs.declared.schedule.ScheduleFault.TheVariants.{Line, Memory}
use Rattle.smi_schedule.specs.Line.{item_in}

-- the items of a lawful line, and then those of the lines after it; a faulty line ends it
abbrev pub items_on : Result (Option Item) Fault → List Item → List Item
items_on (Ok None) more = more
items_on (Ok (Some item)) more = item ∷ more
items_on (Err fault) more = []

-- the items of all lines before the end or the first faulty line
unfoldable pub items_before_fault : Hierarchy → List (List ℕ) → List Item
items_before_fault h [] = []
items_before_fault h (line ∷ more) = items_on (item_in h line) (items_before_fault h more)

-- the fault of the line of this number
abbrev pub at_line : ℕ → Fault → ScheduleFault
at_line number fault = Line number (fault_code fault)

-- the fault of a line, or else that of the lines after it
abbrev pub fault_or : ℕ → Result (Option Item) Fault → Option ScheduleFault → Option ScheduleFault
fault_or number (Ok item) later = later
fault_or number (Err fault) later = Some (at_line number fault)

-- the first faulty line, the first of the lines having this number
unfoldable pub first_fault : ℕ → Hierarchy → List (List ℕ) → Option ScheduleFault
first_fault number h [] = None
first_fault number h (line ∷ more) = fault_or number (item_in h line) (first_fault (number + 1) h more)

-- items, unless there is a fault
abbrev pub unless_faulty : Option ScheduleFault → List Item → Result (List Item) ScheduleFault
unless_faulty None items = Ok items
unless_faulty (Some fault) items = Err fault

-- the items of lines, or the first faulty one
abbrev pub items_of : Hierarchy → List (List ℕ) → Result (List Item) ScheduleFault
items_of h ls = unless_faulty (first_fault 1 h ls) (items_before_fault h ls)

-- the items of a schedule, or its first fault
unfoldable pub schedule_of : Hierarchy → List ℕ → Result (List Item) ScheduleFault
schedule_of h bytes =
    if nat_lt MOST_BYTES_OF_A_FILE (length bytes) then Err (at_line 0 FileTooLong)
    else items_of h (lines bytes)

-- A result, seen by view, is what reading gives, unless memory ran out.
abbrev pub Reads : {X : Type 0} → (X → List Item) → Result X ScheduleFault → Result (List Item) ScheduleFault → Type 0
Reads view (Ok items) reading = reading ≡ Ok (view items)
Reads view (Err Memory) reading = Unit {0}
Reads view (Err (Line number code)) reading = reading ≡ Err (Line number code)

-- a line was read after the items of the lines above it
abbrev pub ReadsLine : {X : Type 0} → List Item → Result (Option Item) Fault → ℕ → Result X ScheduleFault → List Item
    → Type 0
ReadsLine old said number (Ok done) new = (item : Option Item) × (said ≡ Ok item) × (new ≡ old ++ option_to_list item)
ReadsLine old said number (Err Memory) new = Unit {0}
ReadsLine old said number (Err (Line place code)) new =
    (fault : Fault) × (said ≡ Err fault) × (place ≡ number) × (code ≡ fault_code fault)
