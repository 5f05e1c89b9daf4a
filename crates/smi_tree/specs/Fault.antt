-- What may be wrong with a line, and steps of which each may find a fault.
use Rattle.std.specs.Prelude.{ℕ, ◌≡◌, Result, Ok, Err}
use Rattle.smi_tree.specs.declared.fault.Fault.{Fault}
use Rattle.smi_tree.specs.declared.fault.Fault.TheVariants.{UnknownWord, WordCount, Malformed, Twice, UnknownName}
use Rattle.smi_tree.specs.declared.fault.Fault.TheVariants.{OverLimit, TreeLine, BadAddress, OtherKind, LineTooLong}
use Rattle.smi_tree.specs.declared.fault.Fault.TheVariants.{FileTooLong, Incomplete}
use Rattle.smi_tree.specs.declared.fault.LineRefusal.{LineRefusal}
use Rattle.smi_tree.specs.declared.fault.LineRefusal.TheVariants.{Memory, Faulty}

-- the number that stands for a fault
abbrev pub fault_code : Fault → ℕ
fault_code UnknownWord = 1
fault_code WordCount = 2
fault_code Malformed = 3
fault_code Twice = 4
fault_code UnknownName = 5
fault_code OverLimit = 6
fault_code TreeLine = 7
fault_code BadAddress = 8
fault_code OtherKind = 9
fault_code LineTooLong = 10
fault_code FileTooLong = 11
fault_code Incomplete = 12

-- the next step, unless there was a fault
infixl 10 ◌>>=◌
abbrev pub ◌>>=◌ : {A B : Type 0} → Result A Fault → (A → Result B Fault) → Result B Fault
(Ok x) >>= next = next x
(Err fault) >>= next = Err fault

-- What a function returned, seen by view, is what reading gives.
abbrev pub Gives : {X Y : Type 0} → (X → Y) → Result X Fault → Result Y Fault → Type 0
Gives view (Ok x) reading = reading ≡ Ok (view x)
Gives view (Err fault) reading = reading ≡ Err fault

-- What a step left of a value is what it says of itself, unless memory ran out.
abbrev pub Becomes : {X Y : Type 0} → X → Result Y LineRefusal → Result X Fault → Type 0
Becomes new (Ok done) said = said ≡ Ok new
Becomes new (Err Memory) said = Unit {0}
Becomes new (Err (Faulty fault)) said = said ≡ Err fault
