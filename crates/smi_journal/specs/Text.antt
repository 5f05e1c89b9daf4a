-- What the steps of a station leave in its journal.
use Rattle.std.specs.Prelude.{ℕ, ◌++◌, ◌==◌, ◌&&◌, Bool, List, length, map, is_none}
use Rattle.std.specs.List.{flat_map}
use Rattle.smi_tree.specs.Hierarchy.{Hierarchy}
use Rattle.smi_protocol.specs.Happening.{told_entries}
use Rattle.smi_protocol.specs.Step.{Out, showed_entries}
use Rattle.smi_protocol.specs.declared.entry.Entry.{Entry}
use Rattle.smi_protocol.specs.declared.entry.Entry.TheVariants as entry
use Rattle.smi_schedule.specs.Text.{entry_text}

-- the entries of a step: of its save, what the station took as shown, what its objects passed, what it answered
abbrev pub step_entries : ℕ → Out → List Entry
step_entries station out = out.kept ++ showed_entries station out.shown ++ map entry.Passed out.passed
    ++ told_entries out.answers

-- a line for each entry: the prefix, which has the time, the station and the boot, and then the line of a trace
abbrev pub entries_text : Hierarchy → List ℕ → List Entry → List ℕ
entries_text h prefix entries = flat_map (λ x. prefix ++ entry_text h x) entries

-- a step leaves no entries
abbrev pub is_silent : Out → Bool
is_silent out =
    length out.kept == 0 && (is_none out.shown && (length out.passed == 0 && length out.answers == 0))
