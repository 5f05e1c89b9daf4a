-- Traces that a safe world does not leave.
use Rattle.std.specs.Prelude.{ℕ, List, [], ◌∷◌}
use Rattle.smi_grant.specs.declared.Command.TheVariants.{Do}
use Rattle.smi_grant.specs.declared.Holder.{Holder}
use Rattle.smi_grant.specs.declared.Holder.TheVariants.{Operator, Domain}
use Rattle.smi_grant.specs.declared.Shown.{Shown}
use Rattle.smi_rows.specs.declared.Mode.TheVariants.{Manual}
use Rattle.smi_protocol.specs.declared.Entry.{Entry}
use Rattle.smi_protocol.specs.declared.Entry.TheVariants.{Booted, Granted, Freed, Ordered, Ran, Learned, LetGo}
use Rattle.smi_protocol.specs.declared.Entry.TheVariants.{InMode, Settled, Showed, Passed}
use Rattle.smi_protocol.specs.examples.WorkedTree.{worked_tree}
use Rattle.smi_law.specs.Safe.{Safe}
use Rattle.smi_law.specs.World.{noted}

-- these entries, the oldest first, are no safe trace of the worked tree
abbrev pub IsNotSafe : List Entry → Type 0
IsNotSafe entries = Safe worked_tree (noted entries []) → ⊥

-- the first operator, the first domain as the holder of the second, and a state of the second domain's unit
abbrev pub ann : Holder
ann = Operator 1

abbrev pub dcs : Holder
dcs = Domain 1

abbrev pub tpc : ℕ → Shown
tpc sequence = record { object = 2; version = record { boot = 1; sequence = sequence }; state = 1 }

-- Grants.

abbrev pub granted_twice : List Entry
granted_twice = Granted 1 1 ann ∷ Granted 1 1 ann ∷ []

abbrev pub granted_at_an_even_epoch : List Entry
granted_at_an_even_epoch = Granted 1 1 ann ∷ Granted 1 2 (Operator 2) ∷ []

abbrev pub freed_before_let_go : List Entry
freed_before_let_go = Granted 1 1 ann ∷ Learned ann 1 1 ∷ Freed 1 2 ∷ []

abbrev pub let_go_before_learned : List Entry
let_go_before_learned = Granted 1 1 ann ∷ LetGo ann 1 1 ∷ []

abbrev pub learned_twice : List Entry
learned_twice = Granted 1 1 ann ∷ Learned ann 1 1 ∷ Learned ann 1 1 ∷ []

abbrev pub granted_to_no_parent : List Entry
granted_to_no_parent = Granted 1 1 (Domain 2) ∷ []

abbrev pub granted_to_a_stranger : List Entry
granted_to_a_stranger = Granted 1 1 (Operator 9) ∷ []

abbrev pub two_commanders : List Entry
two_commanders = Granted 2 1 ann ∷ Learned ann 2 1 ∷ Learned (Operator 2) 2 1 ∷ []

-- Runs.

abbrev pub run_not_ordered : List Entry
run_not_ordered = Granted 1 1 ann ∷ Learned ann 1 1 ∷ Ran 1 1 1 (Do 1) ∷ []

abbrev pub ordered_twice : List Entry
ordered_twice = Granted 1 1 ann ∷ Learned ann 1 1 ∷ Ordered 1 1 1 1 (Do 1) ∷ Ordered 1 1 1 1 (Do 2)
    ∷ Ran 1 1 1 (Do 1) ∷ []

abbrev pub through_a_manual_child : List Entry
through_a_manual_child =
    Granted 1 1 ann ∷ Learned ann 1 1 ∷ Granted 2 1 dcs ∷ Learned dcs 2 1 ∷ InMode 2 Manual
    ∷ Ordered 1 1 1 1 (Do 1) ∷ Ran 1 1 1 (Do 1) ∷ Ran 2 1 1 (Do 1) ∷ []

-- ANN holds DCS and has ordered a command, and DCS holds TPC
abbrev pub ordered_through_dcs : List Entry → List Entry
ordered_through_dcs more =
    Granted 1 1 ann ∷ Learned ann 1 1 ∷ Granted 2 1 dcs ∷ Learned dcs 2 1 ∷ Ordered 1 1 1 1 (Do 1) ∷ more

-- the command of DCS runs, ANN lets go of DCS, and then it runs at TPC
abbrev pub run_under_a_released_parent : List Entry
run_under_a_released_parent = ordered_through_dcs (Ran 1 1 1 (Do 1) ∷ LetGo ann 1 1 ∷ Ran 2 1 1 (Do 1) ∷ [])

-- it has ended at DCS, and then runs at TPC
abbrev pub run_after_its_parents_end : List Entry
run_after_its_parents_end = ordered_through_dcs (Ran 1 1 1 (Do 1) ∷ Settled 1 1 1 0 ∷ Ran 2 1 1 (Do 1) ∷ [])

-- DCS does not accept the action, and TPC runs it
abbrev pub run_of_what_is_not_handed_on : List Entry
run_of_what_is_not_handed_on =
    Granted 1 1 ann ∷ Learned ann 1 1 ∷ Granted 2 1 dcs ∷ Learned dcs 2 1 ∷ Ordered 1 1 1 1 (Do 3)
    ∷ Ran 1 1 1 (Do 3) ∷ Ran 2 1 1 (Do 3) ∷ []

abbrev pub run_after_letting_go : List Entry
run_after_letting_go = Granted 1 1 ann ∷ Learned ann 1 1 ∷ Ordered 1 1 1 1 (Do 1) ∷ LetGo ann 1 1
    ∷ Ran 1 1 1 (Do 1) ∷ []

abbrev pub out_of_order : List Entry
out_of_order = Granted 1 1 ann ∷ Learned ann 1 1 ∷ Ordered 1 1 1 2 (Do 1) ∷ Ran 1 1 2 (Do 1) ∷ []

abbrev pub run_twice : List Entry
run_twice = Granted 1 1 ann ∷ Learned ann 1 1 ∷ Ordered 1 1 1 1 (Do 1) ∷ Ran 1 1 1 (Do 1) ∷ Ran 1 1 1 (Do 1) ∷ []

-- States.

abbrev pub shown_but_not_passed : List Entry
shown_but_not_passed = Showed 1 (tpc 0) ∷ []

abbrev pub older_than_shown_before : List Entry
older_than_shown_before = Passed (tpc 0) ∷ Passed (tpc 1) ∷ Showed 1 (tpc 1) ∷ Showed 1 (tpc 0) ∷ []

abbrev pub older_after_a_start : List Entry
older_after_a_start = Passed (tpc 0) ∷ Passed (tpc 1) ∷ Showed 1 (tpc 1) ∷ Booted 1 2 ∷ Showed 1 (tpc 0) ∷ []

abbrev pub shown_twice : List Entry
shown_twice = Passed (tpc 0) ∷ Showed 1 (tpc 0) ∷ Showed 1 (tpc 0) ∷ []

abbrev pub version_that_goes_back : List Entry
version_that_goes_back = Passed (tpc 1) ∷ Passed (tpc 0) ∷ []
