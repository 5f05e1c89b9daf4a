-- Which files are tree files, and where the others are faulty, told line by line.
use Rattle.std.specs.Prelude.{ℕ, ◌≡◌, ◌+◌, ◌≤◌, true, false, List, [], ◌∷◌, ◌++◌, length, Ok, Err}
use Rattle.std.specs.Str.Lines.{lines}
use Rattle.smi_base.specs.declared.trees.TheConstants.{MOST_BYTES_OF_A_FILE}
use Rattle.smi_tree.specs.Fault.{fault_code}
use Rattle.smi_tree.specs.Hierarchy.{Hierarchy, undeclared}
use Rattle.smi_tree.specs.File.{with_line, is_complete}
use Rattle.smi_tree.specs.declared.fault.Fault.{Fault}

-- lines make one hierarchy of another: each line is lawful, and the next is read over what it makes
abbrev pub Makes : Hierarchy → List (List ℕ) → Hierarchy → Type 0
Makes h [] end = h ≡ end
Makes h (line ∷ more) end = (next : Hierarchy) × (with_line h line ≡ Ok next) × Makes next more end

-- a tree file of a hierarchy: short enough, each line is lawful, and one of each kind is there
pub record IsTreeFile (bytes : List ℕ) (h : Hierarchy) : Type 0 where
  pub short : length bytes ≤ MOST_BYTES_OF_A_FILE
  pub made : Makes undeclared (lines bytes) h
  pub complete : is_complete h ≡ true

-- the line of this number is the first that is not lawful, for this fault
pub record HasFault (h : Hierarchy) (ls : List (List ℕ)) (number : ℕ) (fault : Fault) : Type 0 where
  pub above : List (List ℕ)
  pub line : List ℕ
  pub below : List (List ℕ)
  pub made : Hierarchy
  pub cut : ls ≡ above ++ line ∷ below
  pub place : number ≡ length above + 1
  pub stand : Makes h above made
  pub faulty : with_line made line ≡ Err fault

-- the first faulty line of a file, with the number of its first fault
pub record HasFaultyLine (bytes : List ℕ) (number code : ℕ) : Type 0 where
  pub fault : Fault
  pub coded : code ≡ fault_code fault
  pub short : length bytes ≤ MOST_BYTES_OF_A_FILE
  pub first : HasFault undeclared (lines bytes) number fault

-- every line is lawful, and something that each tree has is missing
pub record IsIncomplete (bytes : List ℕ) : Type 0 where
  pub short : length bytes ≤ MOST_BYTES_OF_A_FILE
  pub made : Hierarchy
  pub stand : Makes undeclared (lines bytes) made
  pub missing : is_complete made ≡ false
