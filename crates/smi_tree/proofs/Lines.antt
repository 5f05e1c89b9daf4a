-- Line by line.
use Rattle.std.proofs.Common.{◌≡◌, ℕ, ◌+◌, List, [], ◌∷◌, Ok, Err, Result, refl, sym, ◌∙◌}
use Rattle.smi_tree.specs.Fault.{Becomes}
use Rattle.smi_tree.specs.Hierarchy.{Hierarchy}
use Rattle.smi_tree.specs.File.{with_line, with_lines, at_line, refused_at, Reads}
use Rattle.smi_tree.specs.declared.fault.Fault.{Fault}
use Rattle.smi_tree.specs.declared.fault.LineRefusal.{LineRefusal}
use Rattle.smi_tree.specs.declared.fault.LineRefusal.TheVariants as refusal
use Rattle.smi_tree.specs.declared.fault.TreeFault.{TreeFault}

-- no line is left
pub with_lines-none : (number : ℕ) (h : Hierarchy) (left : List (List ℕ)) → left ≡ [] → with_lines number h left ≡ Ok h
unfolding with_lines
with_lines-none number h left none = rw none refl

-- a lawful line
pub with_lines-line : (number : ℕ) (h next : Hierarchy) (line : List ℕ) (more left : List (List ℕ))
    → left ≡ line ∷ more →
    with_line h line ≡ Ok next → with_lines number h left ≡ with_lines (number + 1) next more
unfolding with_lines
with_lines-line number h next line more left cut stands = rw cut (rw stands refl)

-- a faulty line
pub with_lines-fault : (number : ℕ) (h : Hierarchy) (line : List ℕ) (more left : List (List ℕ)) (fault : Fault)
    → left ≡ line ∷ more →
    with_line h line ≡ Err fault → with_lines number h left ≡ Err (at_line number fault)
unfolding with_lines
with_lines-fault number h line more left fault cut faulty = rw cut (rw faulty refl)

-- what is refused is the fault of the lines, or memory
pub Reads-refused : (number : ℕ) (h : Hierarchy) (line : List ℕ) (more left : List (List ℕ))
    (said : Result Hierarchy TreeFault)
    (new : Hierarchy) (why : LineRefusal) → left ≡ line ∷ more → with_lines number h left ≡ said →
    Becomes {Y = Unit {0}} new (Err why) (with_line h line) → Reads (Err (refused_at number why)) said
Reads-refused number h line more left said new (refusal.Faulty fault) cut same faulty =
    sym same ∙ with_lines-fault number h line more left fault cut faulty
Reads-refused number h line more left said new refusal.Memory cut same memory = tt
