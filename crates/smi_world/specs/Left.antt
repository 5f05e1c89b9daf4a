-- What an item leaves: in the trace, and sent.
use Rattle.std.specs.Prelude.{ℕ, ◌+◌, List, [], ◌∷◌, ◌++◌, map, Option, Some, None}
use Rattle.std.specs.List.{filter_map, range_with_len}
use Rattle.smi_grant.specs.declared.Shown.{Shown}
use Rattle.smi_tree.specs.Hierarchy.{Hierarchy}
use Rattle.smi_publish.specs.Published.{shown_at}
use Rattle.smi_publish.specs.Publishing.{first_condition}
use Rattle.smi_protocol.specs.Happening.{told_entries}
use Rattle.smi_protocol.specs.Opening.{object_count}
use Rattle.smi_protocol.specs.Step.{Out, nothing_out, showed_entries}
use Rattle.smi_protocol.specs.declared.entry.Entry.{Entry}
use Rattle.smi_protocol.specs.declared.entry.Entry.TheVariants as entry
use Rattle.smi_protocol.specs.declared.item.Line.{Line}
use Rattle.smi_protocol.specs.declared.item.Line.TheVariants as line
use Rattle.smi_protocol.specs.Schedule.{sent_lines}

-- At one station: whether it has started, and with which boot; what it handed out, with what its save left and which
-- of its objects changed their states; and how many datagrams were sent before.
pub record Left : Type 0 where
  pub station : ℕ
  pub started : Option ℕ
  pub out : Out
  pub before : ℕ

-- what a station shows at a start
abbrev pub first_shown : Hierarchy → ℕ → ℕ → List Shown
first_shown h number boot = filter_map (shown_at boot (first_condition h number)) (range_with_len 1 (object_count h))

-- what a start leaves
abbrev pub start_entries : Hierarchy → ℕ → Option ℕ → List Entry
start_entries h number None = []
start_entries h number (Some boot) = entry.Booted number boot ∷ map entry.Passed (first_shown h number boot)

-- what the step leaves after its save
abbrev pub step_entries : Left → List Entry
step_entries l = showed_entries l.station l.out.shown ++ map entry.Passed l.out.passed ++ told_entries l.out.answers

-- all that is left in the trace
abbrev pub entries_left : Hierarchy → Left → List Entry
entries_left h l = l.out.kept ++ start_entries h l.station l.started ++ step_entries l

-- and then what is sent, by its numbers
abbrev pub lines_left : Hierarchy → Left → List Line
lines_left h l = map line.Entry (entries_left h l) ++ sent_lines (l.before + 1) l.out.datagrams

-- nothing is left
abbrev pub nothing_left : ℕ → ℕ → Left
nothing_left number before = record {
  station = number;
  started = None;
  out = nothing_out;
  before = before;
}

-- the numbers of what one step sends are numbers of 64 bits
abbrev pub most_before : ℕ
most_before = 18446744073709551551
