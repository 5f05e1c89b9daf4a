-- What a session is told of a line that is refused.
use Rattle.std.specs.Prelude.{ℕ, ◌++◌, Bool, true, false, List, [], ◌∷◌, codes, Option, Some, None, is_some}
use Rattle.std.specs.Prelude.{if◌then◌else◌}
use Rattle.std.specs.Fmt.{decimal}
use Rattle.smi_tree.specs.Fault.{fault_code}
use Rattle.smi_tree.specs.Hierarchy.{Hierarchy}
use Rattle.smi_tree.specs.Text.{words}
use Rattle.smi_tree.specs.declared.fault.Fault.{Fault}
use Rattle.smi_tree.specs.declared.fault.Fault.TheVariants as fault
use Rattle.smi_session.specs.Session.{SessionState, with_error, with_reply}
use Rattle.smi_session.specs.UnknownName.{is_verb, unknown_in}
use Rattle.smi_session.specs.declared.session.ReplyStyle.{ReplyStyle}
use Rattle.smi_session.specs.declared.session.ReplyStyle.TheVariants.{Script, Human}
use Rattle.smi_session.specs.declared.tag.Tag.{Tag}

-- the number of the fault, and that of the line if it has no tag
abbrev pub fault_line : Bool → ℕ → Fault → List ℕ
fault_line true number what = codes "fault " ++ decimal (fault_code what)
fault_line false number what = codes "line " ++ decimal number ++ 32 ∷ codes "fault " ++ decimal (fault_code what)

-- a fault in words
abbrev pub words_of : Fault → List ℕ
words_of fault.UnknownWord = codes "a word that no line has there"
words_of fault.WordCount = codes "too few words, or too many"
words_of fault.Malformed = codes "a name that is not well formed"
words_of fault.UnknownName = codes "a name that this station does not have as what the line wants"
words_of fault.LineTooLong = codes "more than 200 bytes"
words_of _ = codes "no line of a node"

-- an unknown name is told by name
abbrev pub named_reason : Option (List ℕ × List ℕ) → Fault → List ℕ
named_reason (Some unknown) what = unknown.0 ++ 32 ∷ unknown.1
named_reason None what = words_of what

-- the first word is unknown: an order lacks what it begins with, if that word is the verb of one
abbrev pub words_of_word : List (List ℕ) → List ℕ
words_of_word [] = words_of fault.UnknownWord
words_of_word (word ∷ more) =
    if is_verb word then codes "an order begins with order OPERATOR" else words_of fault.UnknownWord

abbrev pub reason_of : Hierarchy → List ℕ → List ℕ → Fault → List ℕ
reason_of h operators line fault.UnknownName = named_reason (unknown_in h operators (words line)) fault.UnknownName
reason_of h operators line fault.UnknownWord = words_of_word (words line)
reason_of h operators line what = words_of what

-- the whole line: a person is told the reason too
abbrev pub fault_text : ReplyStyle → List ℕ → List ℕ → List ℕ
fault_text Script reason text = text ++ 10 ∷ []
fault_text Human reason text = text ++ 58 ∷ 32 ∷ reason ++ 10 ∷ []

-- after the tag, or among the answers; on standard input, if there is no tag, apart
abbrev pub faulty : ReplyStyle → Option Tag → List ℕ → SessionState → SessionState
faulty Script None text s = with_error text s
faulty Script (Some tag) text s = with_reply (Some tag) text s
faulty Human tag text s = with_reply tag text s

-- a session is told of the fault of a line
abbrev pub with_fault : Hierarchy → List ℕ → Option Tag → ℕ → List ℕ → Fault → SessionState → SessionState
with_fault h operators tag number line what s =
    faulty s.style tag (fault_text s.style (reason_of h operators line what) (fault_line (is_some tag) number what)) s
