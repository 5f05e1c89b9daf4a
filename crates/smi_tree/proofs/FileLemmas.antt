-- What is read of a file, told line by line.
use Rattle.std.proofs.Common.{◌≡◌, ℕ, ◌+◌, ◌<◌, ◌≤◌, Bool, true, false, cond, List, [], ◌∷◌, ◌++◌, length, Result, Ok}
use Rattle.std.proofs.Common.{Err, refl, ap, ◌∙◌, sym, subst, ◌⊎◌, inl, inr, ◌↔◌, arith}
use Rattle.std.proofs.lemmas.Bool.Decides.{nat_tests}
use Rattle.std.specs.Prelude.{nat_lt}
use Rattle.std.specs.Str.Lines.{lines}
use Rattle.smi_base.specs.declared.trees.TheConstants.{MOST_BYTES_OF_A_FILE}
use Rattle.smi_tree.specs.Fault.{fault_code}
use Rattle.smi_tree.specs.Hierarchy.{Hierarchy, undeclared}
use Rattle.smi_tree.specs.File.{with_line, with_lines, go_on, at_line, is_complete, ended, tree_of}
use Rattle.smi_tree.specs.TreeFile.{Makes, IsTreeFile, HasFaultyLine, IsIncomplete}
use Rattle.smi_tree.specs.declared.fault.Fault.{Fault}
use Rattle.smi_tree.specs.declared.fault.Fault.TheVariants.{FileTooLong, Incomplete}
use Rattle.smi_tree.specs.declared.fault.TreeFault.{TreeFault}
use Rattle.smi_tree.specs.declared.fault.TreeFault.TheVariants.{Line}

made-of : (ls : List (List ℕ)) (number : ℕ) (h end : Hierarchy) → with_lines number h ls ≡ Ok end → Makes h ls end
unfolding with_lines
made-of [] number h end is = cc
made-of (line ∷ more) number h end is = go (with_line h line) refl is (λ next. made-of more (number + 1) next end)
  where
    go : (r : Result Hierarchy Fault) → with_line h line ≡ r
        → go_on number (λ next. with_lines (number + 1) next more) r ≡ Ok end →
        ((next : Hierarchy) → with_lines (number + 1) next more ≡ Ok end → Makes next more end) →
        (next : Hierarchy) × (with_line h line ≡ Ok next) × Makes next more end
    go (Ok next) stands is later = (next, stands, later next is)
    go (Err fault) stands is later = cc

of-made : (ls : List (List ℕ)) (number : ℕ) (h end : Hierarchy) → Makes h ls end → with_lines number h ls ≡ Ok end
unfolding with_lines
of-made [] number h end made = ap Ok made
of-made (line ∷ more) number h end made = rw made.1 (of-made more (number + 1) made.0 end made.2)

record FaultFrom (number : ℕ) (h : Hierarchy) (ls : List (List ℕ)) (n code : ℕ) : Type 0 where
  pub fault : Fault
  pub coded : code ≡ fault_code fault
  pub above : List (List ℕ)
  pub line : List ℕ
  pub below : List (List ℕ)
  pub made : Hierarchy
  pub cut : ls ≡ above ++ line ∷ below
  pub place : n ≡ number + length above
  pub stand : Makes h above made
  pub faulty : with_line made line ≡ Err fault

fault-of : (ls : List (List ℕ)) (number : ℕ) (h : Hierarchy) (n code : ℕ)
    → with_lines number h ls ≡ Err (Line n code) → FaultFrom number h ls n code
unfolding with_lines
fault-of [] number h n code is = cc
fault-of (line ∷ more) number h n code is =
    go (with_line h line) refl is (λ next. fault-of more (number + 1) next n code)
  where
    go : (r : Result Hierarchy Fault) → with_line h line ≡ r
        → go_on number (λ next. with_lines (number + 1) next more) r ≡ Err (Line n code) →
        ((next : Hierarchy) → with_lines (number + 1) next more ≡ Err (Line n code)
        → FaultFrom (number + 1) next more n code) →
        FaultFrom number h (line ∷ more) n code
    go (Ok next) stands is later =
        let f = later next is in
        record {
          fault = f.fault;
          coded = f.coded;
          above = line ∷ f.above;
          line = f.line;
          below = f.below;
          made = f.made;
          cut = ap (λ (rest : List (List ℕ)). line ∷ rest) f.cut;
          place = (let p = f.place in omega (arith, p));
          stand = (next, stands, f.stand);
          faulty = f.faulty;
        }
    go (Err fault) stands is later =
        let same : Line number (fault_code fault) ≡ Line n code = cc in
        record {
          fault = fault;
          coded = (let e : fault_code fault ≡ code = cc in sym e);
          above = [];
          line = line;
          below = more;
          made = h;
          cut = refl;
          place = (let e : number ≡ n = cc in omega (arith, e));
          stand = refl;
          faulty = stands;
        }

short-of : (bytes : List ℕ) → nat_lt MOST_BYTES_OF_A_FILE (length bytes) ≡ false → length bytes ≤ MOST_BYTES_OF_A_FILE
short-of bytes h = grind (arith, nat_tests)

long-of : (bytes : List ℕ) → nat_lt MOST_BYTES_OF_A_FILE (length bytes) ≡ true → MOST_BYTES_OF_A_FILE < length bytes
long-of bytes h = grind (arith, nat_tests)

not-long : (bytes : List ℕ) → length bytes ≤ MOST_BYTES_OF_A_FILE → nat_lt MOST_BYTES_OF_A_FILE (length bytes) ≡ false
not-long bytes h = grind (arith, nat_tests)

-- what was read where the whole file was
whole : (bytes : List ℕ) (h made : Hierarchy) (c : Bool) → nat_lt MOST_BYTES_OF_A_FILE (length bytes) ≡ false →
    with_lines 1 undeclared (lines bytes) ≡ Ok made → is_complete made ≡ c →
    cond c (Ok made) (Err (at_line 0 Incomplete)) ≡ Ok h → IsTreeFile bytes h
whole bytes h made true short read full is =
    let same : made ≡ h = cc in
    subst (IsTreeFile bytes) same
    (record { short = short-of bytes short; made = made-of (lines bytes) 1 undeclared made read; complete = full })
whole bytes h made false short read full is = cc

file : (bytes : List ℕ) (h : Hierarchy) (b : Bool) (r : Result Hierarchy TreeFault) → nat_lt MOST_BYTES_OF_A_FILE
    (length bytes) ≡ b →
    with_lines 1 undeclared (lines bytes) ≡ r → cond b (Err (at_line 0 FileTooLong)) (ended r) ≡ Ok h
    → IsTreeFile bytes h
file bytes h true r long read is = cc
file bytes h false (Err fault) short read is = cc
file bytes h false (Ok made) short read is = whole bytes h made (is_complete made) short read refl is

pub accepted : (bytes : List ℕ) (h : Hierarchy) → (tree_of bytes ≡ Ok h) ↔ IsTreeFile bytes h
unfolding tree_of
accepted bytes h = (
  file bytes h (nat_lt MOST_BYTES_OF_A_FILE (length bytes)) (with_lines 1 undeclared
      (lines bytes)) refl refl,
  back,
)
  where
    back : IsTreeFile bytes h → tree_of bytes ≡ Ok h
    back f = rw (not-long bytes f.short) (rw (of-made (lines bytes) 1 undeclared h f.made) (rw f.complete refl))

unended : (bytes : List ℕ) (number code : ℕ) (made : Hierarchy) (c : Bool) → 1 ≤ number →
    cond c (Ok made) (Err (at_line 0 Incomplete)) ≡ Err (Line number code) → HasFaultyLine bytes number code
unended bytes number code made true some is = cc
unended bytes number code made false some is = let none : 0 ≡ number = cc in absurd (omega (arith, none, some))

faulty : (bytes : List ℕ) (number code : ℕ) (b : Bool) (r : Result Hierarchy TreeFault) → 1 ≤ number
    → nat_lt MOST_BYTES_OF_A_FILE (length bytes) ≡ b →
    with_lines 1 undeclared (lines bytes) ≡ r → cond b (Err (at_line 0 FileTooLong)) (ended r)
    ≡ Err (Line number code) →
    HasFaultyLine bytes number code
faulty bytes number code true r some long read is = let none : 0 ≡ number = cc in absurd (omega (arith, none, some))
faulty bytes number code false (Ok made) some short read is = unended bytes number code made (is_complete made) some is
faulty bytes number code false (Err fault) some short read is =
    let f = fault-of (lines bytes) 1 undeclared number code (read ∙ is) in
    record {
      fault = f.fault;
      coded = f.coded;
      short = short-of bytes short;
      first = record {
        above = f.above;
        line = f.line;
        below = f.below;
        made = f.made;
        cut = f.cut;
        place = (let p = f.place in omega (arith, p));
        stand = f.stand;
        faulty = f.faulty;
      };
    }

pub faulty-line : (bytes : List ℕ) (number code : ℕ) → 1 ≤ number → tree_of bytes ≡ Err (Line number code)
    → HasFaultyLine bytes number code
unfolding tree_of
faulty-line bytes number code some is = faulty bytes number code (nat_lt MOST_BYTES_OF_A_FILE (length bytes))
    (with_lines 1 undeclared (lines bytes)) some refl refl is

-- a fault that has no line
abbrev Whole : List ℕ → ℕ → Type 0
Whole bytes code = ((code ≡ 11) × (MOST_BYTES_OF_A_FILE < length bytes)) ⊎ ((code ≡ 12) × IsIncomplete bytes)

missing : (bytes : List ℕ) (code : ℕ) (made : Hierarchy) (c : Bool) → nat_lt MOST_BYTES_OF_A_FILE (length bytes)
    ≡ false →
    with_lines 1 undeclared (lines bytes) ≡ Ok made → is_complete made ≡ c →
    cond c (Ok made) (Err (at_line 0 Incomplete)) ≡ Err (Line 0 code) → Whole bytes code
missing bytes code made true short read full is = cc
missing bytes code made false short read full is =
    let e : 12 ≡ code = cc in
    inr (
      sym e,
      record {
        short = short-of bytes short;
        made = made;
        stand = made-of (lines bytes) 1 undeclared made read;
        missing = full;
      },
    )

lineless : (bytes : List ℕ) (code : ℕ) (b : Bool) (r : Result Hierarchy TreeFault) → nat_lt MOST_BYTES_OF_A_FILE
    (length bytes) ≡ b →
    with_lines 1 undeclared (lines bytes) ≡ r → cond b (Err (at_line 0 FileTooLong)) (ended r) ≡ Err (Line 0 code)
    → Whole bytes code
lineless bytes code true r long read is = let e : 11 ≡ code = cc in inl (sym e, long-of bytes long)
lineless bytes code false (Ok made) short read is = missing bytes code made (is_complete made) short read refl is
lineless bytes code false (Err fault) short read is =
    let f = fault-of (lines bytes) 1 undeclared 0 code (read ∙ is) in
    absurd (let p = f.place in omega (arith, p))

pub whole-fault : (bytes : List ℕ) (code : ℕ) → tree_of bytes ≡ Err (Line 0 code) → Whole bytes code
unfolding tree_of
whole-fault bytes code is = lineless bytes code (nat_lt MOST_BYTES_OF_A_FILE (length bytes))
    (with_lines 1 undeclared (lines bytes)) refl refl is
