-- Worked examples of taking and giving back.
use Rattle.std.specs.Prelude.{List, [], ◌∷◌, ◌++◌, Some}
use Rattle.smi_grant.specs.declared.Command.TheVariants as command
use Rattle.smi_grant.specs.declared.Holder.TheVariants.{Operator, Domain}
use Rattle.smi_grant.specs.declared.record.Phase.TheVariants as phase
use Rattle.smi_grant.specs.Record.{Standing, standing}
use Rattle.smi_protocol.specs.Happening.{told}
use Rattle.smi_protocol.specs.Played.{deliver, stop_after, Line, line, sends, ASK, TAKE, DROP, RUN, TELL}
use Rattle.smi_protocol.specs.declared.order.Order.TheVariants.{Ask, Take, Drop, Do, Include, Exclude}
use Rattle.smi_protocol.specs.declared.entry.Entry.TheVariants.{Booted, Granted, Freed, Ordered, Ran, Learned, LetGo}
use Rattle.smi_protocol.specs.declared.entry.Entry.TheVariants.{Settled, Told}
use Rattle.smi_protocol.specs.examples.WorkedTree.{A, B, ANN, BOB, DCS, TPC, OFF, STOP}
use Rattle.smi_protocol.specs.examples.Words.{ann, bob, ann_told, bob_told, passed}

-- BOB asks for DCS
abbrev pub asked_for_DCS : List Line
asked_for_DCS = line (bob (Take DCS)) [] (sends TAKE B A DCS ∷ []) ∷ []

-- Saved but not told: the keeper stops after the save of a grant, and answers the take when it comes again.
abbrev pub saved_but_not_told : List Line
saved_but_not_told =
    asked_for_DCS
    ++ line (stop_after A 1) (Granted DCS 1 (Operator BOB) ∷ Booted A 2 ∷ passed DCS 2 0 OFF ∷ []) []
    ∷ line (deliver 1) [] (sends TELL A B DCS ∷ [])
    ∷ line (deliver 2) (Learned (Operator BOB) DCS 1 ∷ bob_told (Take DCS) 0 ∷ []) []
    ∷ []

-- BOB is granted TPC, and has not heard of it
abbrev pub granted : List Line
granted =
    line (bob (Take TPC)) [] (sends TAKE B B TPC ∷ [])
    ∷ line (deliver 1) (Granted TPC 1 (Operator BOB) ∷ []) (sends TELL B B TPC ∷ [])
    ∷ []

-- BOB takes TPC.
abbrev pub taken : List Line
taken =
    granted
    ++ line (deliver 2) (Learned (Operator BOB) TPC 1 ∷ bob_told (Take TPC) 0 ∷ []) []
    ∷ []

-- BOB holds TPC, and no command has run
abbrev pub held_by_BOB : Standing
held_by_BOB = standing 1 (Operator BOB) 0 phase.Settled 0

-- BOB takes TPC and asks about it, and nothing was delivered yet
abbrev pub taking_and_asking : List Line
taking_and_asking =
    line (bob (Take TPC)) [] (sends TAKE B B TPC ∷ [])
    ∷ line (bob (Ask TPC)) [] (sends ASK B B TPC ∷ [])
    ∷ line (deliver 1) (Granted TPC 1 (Operator BOB) ∷ []) (sends TELL B B TPC ∷ [])
    ∷ []

-- A take and a question: the record that is told answers the take first, and then the question.
abbrev pub take_and_question : List Line
take_and_question =
    taking_and_asking
    ++ line (deliver 3)
    (Learned (Operator BOB) TPC 1 ∷ bob_told (Take TPC) 0 ∷ Told BOB (told (Ask TPC) 0 (Some held_by_BOB)) ∷ []) []
    ∷ []

-- Take and drop; and the old take comes once more.
abbrev pub take_and_drop : List Line
take_and_drop =
    taken
    ++ line (bob (Drop TPC)) (LetGo (Operator BOB) TPC 1 ∷ []) (sends DROP B B TPC ∷ [])
    ∷ line (deliver 3) (Freed TPC 2 ∷ []) (sends TELL B B TPC ∷ [])
    ∷ line (deliver 4) (bob_told (Drop TPC) 0 ∷ []) []
    ∷ line (deliver 1) [] (sends TELL B B TPC ∷ [])
    ∷ []

-- Two operators, one domain: the take that comes first is granted, the other is told who has it.
abbrev pub two_operators : List Line
two_operators =
    line (ann (Take TPC)) [] (sends TAKE A B TPC ∷ [])
    ∷ line (bob (Take TPC)) [] (sends TAKE B B TPC ∷ [])
    ∷ line (deliver 2) (Granted TPC 1 (Operator BOB) ∷ []) (sends TELL B B TPC ∷ [])
    ∷ line (deliver 1) [] (sends TELL B A TPC ∷ [])
    ∷ line (deliver 3) (Learned (Operator BOB) TPC 1 ∷ bob_told (Take TPC) 0 ∷ []) []
    ∷ line (deliver 4) (ann_told (Take TPC) 5 ∷ []) []
    ∷ []

-- ANN holds DCS and has it take in TPC while BOB holds TPC.
abbrev pub held_by_another : List Line
held_by_another =
    line (ann (Take DCS)) [] (sends TAKE A A DCS ∷ [])
    ∷ line (deliver 1) (Granted DCS 1 (Operator ANN) ∷ []) (sends TELL A A DCS ∷ [])
    ∷ line (deliver 2) (Learned (Operator ANN) DCS 1 ∷ ann_told (Take DCS) 0 ∷ []) []
    ∷ line (bob (Take TPC)) [] (sends TAKE B B TPC ∷ [])
    ∷ line (deliver 3) (Granted TPC 1 (Operator BOB) ∷ []) (sends TELL B B TPC ∷ [])
    ∷ line (deliver 4) (Learned (Operator BOB) TPC 1 ∷ bob_told (Take TPC) 0 ∷ []) []
    ∷ line (ann (Include DCS TPC)) (Ordered ANN DCS 1 1 (command.Include TPC) ∷ []) (sends RUN A A DCS ∷ [])
    ∷ line (deliver 5) (Ran DCS 1 1 (command.Include TPC) ∷ []) (sends TELL A A DCS ∷ sends TAKE A B TPC ∷ [])
    ∷ line (deliver 7) [] (sends TELL B A TPC ∷ [])
    ∷ line (deliver 8) (Settled DCS 1 1 5 ∷ []) (sends TELL A A DCS ∷ [])
    ∷ line (deliver 9) (ann_told (Include DCS TPC) 5 ∷ []) []
    ∷ []

-- Included once it is free: BOB gives TPC back, and ANN orders it once more.
abbrev pub included_once_free : List Line
included_once_free =
    held_by_another
    ++ line (bob (Drop TPC)) (LetGo (Operator BOB) TPC 1 ∷ []) (sends DROP B B TPC ∷ [])
    ∷ line (deliver 10) (Freed TPC 2 ∷ []) (sends TELL B B TPC ∷ [])
    ∷ line (deliver 11) (bob_told (Drop TPC) 0 ∷ []) []
    ∷ line (ann (Include DCS TPC)) (Ordered ANN DCS 1 2 (command.Include TPC) ∷ []) (sends RUN A A DCS ∷ [])
    ∷ line (deliver 12) (Ran DCS 1 2 (command.Include TPC) ∷ []) (sends TELL A A DCS ∷ sends TAKE A B TPC ∷ [])
    ∷ line (deliver 14) [] (sends TELL B A TPC ∷ [])
    ∷ line (deliver 15) [] (sends TAKE A B TPC ∷ [])
    ∷ line (deliver 16) (Granted TPC 3 (Domain DCS) ∷ []) (sends TELL B A TPC ∷ [])
    ∷ line (deliver 17) (Learned (Domain DCS) TPC 3 ∷ Settled DCS 1 2 0 ∷ []) (sends TELL A A DCS ∷ [])
    ∷ []

-- Refused actions and targets: TPC does not accept STOP, and DCS is not below TPC.
abbrev pub refused_commands : List Line
refused_commands =
    taken
    ++ line (bob (Do TPC STOP)) (Ordered BOB TPC 1 1 (command.Do STOP) ∷ []) (sends RUN B B TPC ∷ [])
    ∷ line (deliver 3) (Ran TPC 1 1 (command.Do STOP) ∷ Settled TPC 1 1 1 ∷ []) (sends TELL B B TPC ∷ [])
    ∷ line (deliver 4) (bob_told (Do TPC STOP) 1 ∷ []) []
    ∷ line (bob (Exclude TPC DCS)) (Ordered BOB TPC 1 2 (command.Exclude DCS) ∷ []) (sends RUN B B TPC ∷ [])
    ∷ line (deliver 5) (Ran TPC 1 2 (command.Exclude DCS) ∷ Settled TPC 1 2 2 ∷ []) (sends TELL B B TPC ∷ [])
    ∷ []
