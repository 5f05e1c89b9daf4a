-- What a line asks.
use Rattle.std.specs.Prelude.{ℕ, ◌&&◌, nat_le, Bool, true, false, List, [], ◌∷◌, length, Option, Some, None, is_some}
use Rattle.std.specs.Prelude.{Result, Ok, Err, if◌then◌else◌}
use Rattle.std.specs.List.{list_all}
use Rattle.smi_base.specs.declared.trees.TheConstants.{MOST_BYTES_OF_A_LINE}
use Rattle.smi_tree.specs.Fault.{◌>>=◌}
use Rattle.smi_tree.specs.Text.{words}
use Rattle.smi_tree.specs.Hierarchy.{Hierarchy}
use Rattle.smi_tree.specs.Lookups.{object_named}
use Rattle.smi_tree.specs.Name.{number_of}
use Rattle.smi_tree.specs.declared.fault.Fault.{Fault}
use Rattle.smi_tree.specs.declared.fault.Fault.TheVariants.{UnknownName, WordCount}
use Rattle.smi_session.specs.Line.{request_in}
use Rattle.smi_session.specs.Query.{numbers_in, query_in}
use Rattle.smi_session.specs.declared.query.Query.{Query}
use Rattle.smi_session.specs.declared.query.Query.TheVariants.{Counts, UnderWay, States, Follow, Actions, Modes}
use Rattle.smi_session.specs.declared.query.Query.TheVariants.{Version, Help}
use Rattle.smi_session.specs.declared.request.SessionRequest.{SessionRequest}
use Rattle.smi_session.specs.declared.request.SessionRequest.TheVariants as request
use Rattle.smi_session.specs.declared.session.ReplyStyle.{ReplyStyle}
use Rattle.smi_session.specs.declared.session.ReplyStyle.TheVariants.{Script, Human}

-- over a connection any line may ask of the whole node, on standard input one with a tag alone
abbrev pub may_query : ReplyStyle → Bool → Bool
may_query Human has_tag = true
may_query Script has_tag = has_tag

abbrev pub query_of : ReplyStyle → Bool → List ℕ → Result (Option Query) Fault
query_of style has_tag text =
    if nat_le (length text) MOST_BYTES_OF_A_LINE && may_query style has_tag then query_in (words text)
    else Ok None

-- devices have actions, and all objects have states
abbrev pub may_name : Hierarchy → Query → List ℕ → Bool
may_name h Follow name = is_some (object_named h name)
may_name h Actions name = is_some (number_of h.device_names name)
may_name h Counts name = false
may_name h UnderWay name = false
may_name h States name = false
may_name h Modes name = false
may_name h Version name = false
may_name h Help name = false

abbrev pub may_name_all : Hierarchy → Query → List (List ℕ) → Bool
may_name_all h query names = list_all (may_name h query) names

abbrev pub behind_first : List (List ℕ) → List (List ℕ)
behind_first [] = []
behind_first (word ∷ more) = more

-- what a query names has to be there
abbrev pub named_request : Hierarchy → Query → List (List ℕ) → Result SessionRequest Fault
named_request h query names = if may_name_all h query names then Ok (request.Query query) else Err UnknownName

abbrev pub query_request : Hierarchy → Query → List (List ℕ) → Result SessionRequest Fault
query_request h Follow line = named_request h Follow (behind_first line)
query_request h Actions line = named_request h Actions (numbers_in (behind_first line)).1
query_request h Counts line = Ok (request.Query Counts)
query_request h UnderWay line = Ok (request.Query UnderWay)
query_request h States line = Ok (request.Query States)
query_request h Modes line = Ok (request.Query Modes)
query_request h Version line = Ok (request.Query Version)
query_request h Help line = Ok (request.Query Help)

-- nothing is asked by a line that is skipped, which one with a tag can't be
abbrev pub line_request : Bool → Option SessionRequest → Result (Option SessionRequest) Fault
line_request has_tag (Some what) = Ok (Some what)
line_request has_tag None = if has_tag then Err WordCount else Ok None

abbrev pub request_so : Hierarchy → List ℕ → Bool → List ℕ → Option Query → Result (Option SessionRequest) Fault
request_so h operators has_tag text (Some query) = do
  what ← query_request h query (words text)
  Ok (Some what)
request_so h operators has_tag text None = do
  what ← request_in h operators text
  line_request has_tag what

-- what a line asks of a station with these operators: a query, or an order, a report or a state
abbrev pub request_of_line : Hierarchy → List ℕ → ReplyStyle → Bool → List ℕ → Result (Option SessionRequest) Fault
request_of_line h operators style has_tag text = do
  query ← query_of style has_tag text
  request_so h operators has_tag text query
