-- Worked examples of commands that go through the hierarchy.
use Rattle.std.specs.Prelude.{ℕ, ◌+◌, List, [], ◌∷◌, ◌++◌, map, replicate}
use Rattle.std.specs.List.{range_with_len}
use Rattle.smi_grant.specs.declared.Command.TheVariants as command
use Rattle.smi_grant.specs.declared.Holder.TheVariants.{Operator, Domain}
use Rattle.smi_rows.specs.declared.Mode.TheVariants as mode
use Rattle.smi_protocol.specs.Played.{deliver, stop_after, tick_at, Line, line, sends, TAKE, RUN, TELL, WATCH}
use Rattle.smi_protocol.specs.Played.{STATE}
use Rattle.smi_protocol.specs.declared.item.Item.TheVariants as item
use Rattle.smi_protocol.specs.declared.order.Order.TheVariants.{Take, Drop, Do, Include, Manual, Ignore}
use Rattle.smi_protocol.specs.declared.entry.Entry.{Entry}
use Rattle.smi_protocol.specs.declared.entry.Entry.TheVariants.{Booted, Granted, Ordered, Ran, Learned, InMode}
use Rattle.smi_protocol.specs.declared.entry.Entry.TheVariants.{Settled}
use Rattle.smi_protocol.specs.examples.WorkedTree.{A, B, ANN, BOB, DCS, TPC, HV, OFF, READY, RUNNING, CONFIGURE}
use Rattle.smi_protocol.specs.examples.WorkedTree.{START}
use Rattle.smi_protocol.specs.examples.Words.{ann, bob, ann_told, bob_told, passed, showed}
use Rattle.smi_protocol.specs.examples.Grants.{taken}

-- ANN takes DCS and has it take in TPC.
abbrev pub included : List Line
included =
    line (ann (Take DCS)) [] (sends TAKE A A DCS ∷ [])
    ∷ line (deliver 1) (Granted DCS 1 (Operator ANN) ∷ []) (sends TELL A A DCS ∷ [])
    ∷ line (deliver 2) (Learned (Operator ANN) DCS 1 ∷ ann_told (Take DCS) 0 ∷ []) []
    ∷ line (ann (Include DCS TPC)) (Ordered ANN DCS 1 1 (command.Include TPC) ∷ []) (sends RUN A A DCS ∷ [])
    ∷ line (deliver 3) (Ran DCS 1 1 (command.Include TPC) ∷ []) (sends TELL A A DCS ∷ sends TAKE A B TPC ∷ [])
    ∷ line (deliver 5) (Granted TPC 1 (Domain DCS) ∷ []) (sends TELL B A TPC ∷ [])
    ∷ line (deliver 6) (Learned (Domain DCS) TPC 1 ∷ Settled DCS 1 1 0 ∷ []) (sends TELL A A DCS ∷ [])
    ∷ line (deliver 7) (ann_told (Include DCS TPC) 0 ∷ []) []
    ∷ []

-- DCS runs CONFIGURE and hands it on.
abbrev pub handed_on : List Line
handed_on =
    included
    ++ line (ann (Do DCS CONFIGURE)) (Ordered ANN DCS 1 2 (command.Do CONFIGURE) ∷ []) (sends RUN A A DCS ∷ [])
    ∷ line (deliver 8) (Ran DCS 1 2 (command.Do CONFIGURE) ∷ []) (sends TELL A A DCS ∷ sends RUN A B TPC ∷ [])
    ∷ []

-- TPC runs CONFIGURE and its device moves
abbrev pub TPC_configured : List Entry
TPC_configured = Ran TPC 1 1 (command.Do CONFIGURE) ∷ Settled TPC 1 1 0 ∷ passed HV 1 1 READY ∷ passed TPC 1 1 READY
    ∷ []

-- Configured through the hierarchy.
abbrev pub configured : List Line
configured =
    handed_on
    ++ line (deliver 10) TPC_configured (sends TELL B A TPC ∷ [])
    ∷ line (deliver 11) (Settled DCS 1 2 0 ∷ []) (sends TELL A A DCS ∷ [])
    ∷ line (deliver 12) (ann_told (Do DCS CONFIGURE) 0 ∷ []) []
    ∷ []

-- No drop while a command is pending.
abbrev pub no_drop_while_pending : List Line
no_drop_while_pending = handed_on ++ line (ann (Drop DCS)) (ann_told (Drop DCS) 22 ∷ []) [] ∷ []

-- what the second start of B leaves in the trace
abbrev pub B_started_again : List Entry
B_started_again = Booted B 2 ∷ passed TPC 2 0 OFF ∷ passed HV 2 0 OFF ∷ []

-- A repeated run: it runs once, before and after a restart.
abbrev pub repeated_run : List Line
repeated_run =
    handed_on
    ++ line (deliver 10) TPC_configured (sends TELL B A TPC ∷ [])
    ∷ line (deliver 10) [] (sends TELL B A TPC ∷ [])
    ∷ line (item.Restart B) B_started_again []
    ∷ line (deliver 10) [] (sends TELL B A TPC ∷ [])
    ∷ []

-- Stopped after the run was saved: the device has not moved, and the run is over.
abbrev pub stopped_after_run : List Line
stopped_after_run =
    handed_on
    ++ line (stop_after B 10) (Ran TPC 1 1 (command.Do CONFIGURE) ∷ Settled TPC 1 1 0 ∷ B_started_again) []
    ∷ line (tick_at A) [] (sends RUN A B TPC ∷ sends RUN A A DCS ∷ sends WATCH A B TPC ∷ [])
    ∷ line (deliver 11) [] (sends TELL B A TPC ∷ [])
    ∷ []

-- A watches the unit of its child, and is shown it.
abbrev pub watched : List Line
watched =
    configured
    ++ line (tick_at A) [] (sends WATCH A B TPC ∷ [])
    ∷ line (deliver 13) [] (sends STATE B A TPC ∷ [])
    ∷ line (deliver 14) (showed A TPC 1 1 READY ∷ passed DCS 1 1 READY ∷ []) []
    ∷ []

-- The watcher restarts: a state that answers its earlier boot is not shown.
abbrev pub watcher_restarts : List Line
watcher_restarts =
    watched
    ++ line (item.Restart A) (Booted A 2 ∷ passed DCS 2 0 OFF ∷ []) []
    ∷ line (deliver 14) [] []
    ∷ line (tick_at A) [] (sends WATCH A B TPC ∷ [])
    ∷ line (deliver 15) [] (sends STATE B A TPC ∷ [])
    ∷ line (deliver 16) (showed A TPC 1 1 READY ∷ passed DCS 2 1 READY ∷ []) []
    ∷ []

-- The keeper restarts: its states begin again, in a later boot.
abbrev pub keeper_restarts : List Line
keeper_restarts =
    watched
    ++ line (item.Restart B) B_started_again []
    ∷ line (tick_at A) [] (sends WATCH A B TPC ∷ [])
    ∷ line (deliver 15) [] (sends STATE B A TPC ∷ [])
    ∷ line (deliver 16) (showed A TPC 2 0 OFF ∷ passed DCS 1 2 OFF ∷ []) []
    ∷ line (deliver 14) [] []
    ∷ []

-- Manual: the child is sent no commands.
abbrev pub manual : List Line
manual =
    included
    ++ line (ann (Manual DCS TPC)) (Ordered ANN DCS 1 2 (command.Manual TPC) ∷ []) (sends RUN A A DCS ∷ [])
    ∷ line (deliver 8) (Ran DCS 1 2 (command.Manual TPC) ∷ InMode TPC mode.Manual ∷ Settled DCS 1 2 0 ∷ [])
    (sends TELL A A DCS ∷ [])
    ∷ line (deliver 9) (ann_told (Manual DCS TPC) 0 ∷ []) []
    ∷ line (ann (Do DCS CONFIGURE)) (Ordered ANN DCS 1 3 (command.Do CONFIGURE) ∷ []) (sends RUN A A DCS ∷ [])
    ∷ line (deliver 10) (Ran DCS 1 3 (command.Do CONFIGURE) ∷ Settled DCS 1 3 0 ∷ []) (sends TELL A A DCS ∷ [])
    ∷ []

-- Ignored: the child is sent commands, and its state does not count.
abbrev pub ignored : List Line
ignored =
    included
    ++ line (ann (Ignore DCS TPC)) (Ordered ANN DCS 1 2 (command.Ignore TPC) ∷ []) (sends RUN A A DCS ∷ [])
    ∷ line (deliver 8) (Ran DCS 1 2 (command.Ignore TPC) ∷ InMode TPC mode.Ignored ∷ Settled DCS 1 2 0 ∷ [])
    (sends TELL A A DCS ∷ [])
    ∷ line (deliver 9) (ann_told (Ignore DCS TPC) 0 ∷ []) []
    ∷ line (ann (Do DCS CONFIGURE)) (Ordered ANN DCS 1 3 (command.Do CONFIGURE) ∷ []) (sends RUN A A DCS ∷ [])
    ∷ line (deliver 10) (Ran DCS 1 3 (command.Do CONFIGURE) ∷ []) (sends TELL A A DCS ∷ sends RUN A B TPC ∷ [])
    ∷ line (deliver 12) TPC_configured (sends TELL B A TPC ∷ [])
    ∷ line (deliver 13) (Settled DCS 1 3 0 ∷ []) (sends TELL A A DCS ∷ [])
    ∷ line (deliver 14) (ann_told (Do DCS CONFIGURE) 0 ∷ []) []
    ∷ line (tick_at A) [] (sends WATCH A B TPC ∷ [])
    ∷ line (deliver 15) [] (sends STATE B A TPC ∷ [])
    ∷ line (deliver 16) (showed A TPC 1 1 READY ∷ []) []
    ∷ []

-- BOB holds TPC and has ordered CONFIGURE
abbrev pub one_ordered : List Line
one_ordered = taken ++ line (bob (Do TPC CONFIGURE)) (Ordered BOB TPC 1 1 (command.Do CONFIGURE) ∷ [])
    (sends RUN B B TPC ∷ []) ∷ []

-- Both orders are given before the first is heard of.
abbrev pub two_ordered : List Line
two_ordered =
    one_ordered
    ++ line (bob (Do TPC START)) (Ordered BOB TPC 1 2 (command.Do START) ∷ []) (sends RUN B B TPC ∷ [])
    ∷ []

-- They run in their order.
abbrev pub both_run : List Line
both_run =
    two_ordered
    ++ line (deliver 4) [] (sends TELL B B TPC ∷ [])
    ∷ line (deliver 3) TPC_configured (sends TELL B B TPC ∷ [])
    ∷ line (deliver 4) (Ran TPC 1 2 (command.Do START) ∷ Settled TPC 1 2 0 ∷ passed HV 1 2 RUNNING
    ∷ passed TPC 1 2 RUNNING ∷ []) (sends TELL B B TPC ∷ [])
    ∷ []

-- Two commands pending: the outcome of the first was not seen.
abbrev pub two_pending : List Line
two_pending =
    both_run
    ++ line (deliver 7) (bob_told (Do TPC CONFIGURE) 8 ∷ bob_told (Do TPC START) 0 ∷ []) []
    ∷ line (deliver 6) [] []
    ∷ []

-- BOB orders CONFIGURE under this number.
abbrev pub ordered_once : ℕ → Line
ordered_once n = line (bob (Do TPC CONFIGURE)) (Ordered BOB TPC 1 n (command.Do CONFIGURE) ∷ [])
    (sends RUN B B TPC ∷ [])

-- CONFIGURE runs under this number, once more.
abbrev pub ran_again : ℕ → Line
ran_again n = line (deliver (n + 2)) (Ran TPC 1 n (command.Do CONFIGURE) ∷ Settled TPC 1 n 0 ∷ [])
    (sends TELL B B TPC ∷ [])

-- Eight commands pending: a ninth and a drop are refused; all run in their order, and of all but the last the outcome
-- was not seen.
abbrev pub eight_pending : List Line
eight_pending =
    taken
    ++ map ordered_once (range_with_len 1 8)
    ++ line (bob (Do TPC CONFIGURE)) (bob_told (Do TPC CONFIGURE) 22 ∷ []) []
    ∷ line (bob (Drop TPC)) (bob_told (Drop TPC) 22 ∷ []) []
    ∷ line (deliver 3) TPC_configured (sends TELL B B TPC ∷ [])
    ∷ map ran_again (range_with_len 2 7)
    ++ line (deliver 18) (replicate 7 (bob_told (Do TPC CONFIGURE) 8) ++ bob_told (Do TPC CONFIGURE) 0 ∷ []) []
    ∷ []
