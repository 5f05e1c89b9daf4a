-- The text of a trace's lines.
use Rattle.std.specs.Prelude.{ℕ, ◌++◌, List, [], ◌∷◌, codes}
use Rattle.std.specs.List.{flat_map}
use Rattle.std.specs.Fmt.{decimal}
use Rattle.smi_grant.specs.declared.Shown.{Shown}
use Rattle.smi_message.specs.Message.{Message}
use Rattle.smi_protocol.specs.declared.order.Told.{Told}
use Rattle.smi_protocol.specs.declared.entry.Entry.{Entry}
use Rattle.smi_protocol.specs.declared.entry.Entry.TheVariants as entry
use Rattle.smi_protocol.specs.declared.item.Line.{Line}
use Rattle.smi_protocol.specs.declared.item.Line.TheVariants as line
use Rattle.smi_tree.specs.Hierarchy.{Hierarchy}
use Rattle.smi_schedule.specs.TraceWords.{station_word, operator_word, domain_word, object_word, state_word}
use Rattle.smi_schedule.specs.TraceWords.{holder_word}
use Rattle.smi_schedule.specs.TraceWords.{version_word, mode_word, command_words, order_words, answer_words, kind_word}
use Rattle.smi_schedule.specs.TraceWords.{subject_word}

-- a text with further words, each after a blank
abbrev pub with_words : List ℕ → List (List ℕ) → List ℕ
with_words text [] = text
with_words text (word ∷ more) = with_words (text ++ 32 ∷ word) more

-- a line of words ends with a line feed
abbrev pub line_of : List ℕ → List (List ℕ) → List ℕ
line_of first words = with_words first words ++ 10 ∷ []

-- an object, its version and its state
abbrev pub shown_words : Hierarchy → Shown → List (List ℕ)
shown_words h shown = object_word h shown.object ∷ version_word shown.version ∷ state_word h shown.state ∷ []

-- an operator, the order, and how it ended
abbrev pub told_text : Hierarchy → ℕ → Told → List ℕ
told_text h o told = line_of (with_words (codes "told") (operator_word h o ∷ order_words h told.order))
    (answer_words h told.code told.asked)

-- what an entry reads
abbrev pub entry_text : Hierarchy → Entry → List ℕ
entry_text h (entry.Booted s b) = line_of (codes "booted") (station_word h s ∷ decimal b ∷ [])
entry_text h (entry.Granted d e who) = line_of (codes "granted") (domain_word h d ∷ decimal e ∷ holder_word h who ∷ [])
entry_text h (entry.Freed d e) = line_of (codes "freed") (domain_word h d ∷ decimal e ∷ [])
entry_text h (entry.Ordered o d e n c) =
    line_of (codes "ordered") (operator_word h o ∷ domain_word h d ∷ decimal e ∷ decimal n ∷ command_words h c)
entry_text h (entry.Ran d e n c) = line_of (codes "ran") (domain_word h d ∷ decimal e ∷ decimal n ∷ command_words h c)
entry_text h (entry.Learned who d e) = line_of (codes "learned") (holder_word h who ∷ domain_word h d ∷ decimal e ∷ [])
entry_text h (entry.LetGo who d e) = line_of (codes "letgo") (holder_word h who ∷ domain_word h d ∷ decimal e ∷ [])
entry_text h (entry.InMode d m) = line_of (codes "mode") (domain_word h d ∷ mode_word m ∷ [])
entry_text h (entry.Settled d e n x) =
    line_of (codes "settled") (domain_word h d ∷ decimal e ∷ decimal n ∷ decimal x ∷ [])
entry_text h (entry.Showed s shown) = line_of (codes "showed") (station_word h s ∷ shown_words h shown)
entry_text h (entry.Passed shown) = line_of (codes "passed") (shown_words h shown)
entry_text h (entry.Told o told) = told_text h o told

-- a datagram with its number, its kind, who sent it to whom, and what it is about
abbrev pub sent_text : Hierarchy → ℕ → Message → List ℕ
sent_text h number m =
    line_of (codes "sent") (decimal number ∷ kind_word m.body ∷ station_word h m.from ∷ station_word h m.to
    ∷ subject_word h m.body ∷ [])

-- what a line reads
abbrev pub line_text : Hierarchy → Line → List ℕ
line_text h (line.Entry x) = entry_text h x
line_text h (line.Sent number m) = sent_text h number m

-- what a trace reads
abbrev pub trace_text : Hierarchy → List Line → List ℕ
trace_text h lines = flat_map (line_text h) lines
