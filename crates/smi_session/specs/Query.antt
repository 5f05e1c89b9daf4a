-- What the words of a line ask of the whole node.
use Rattle.std.specs.Prelude.{ℕ, ◌&&◌, Bool, true, false, List, [], ◌∷◌, codes, Option, Some, None, Result, Ok, Err}
use Rattle.std.specs.Prelude.{if◌then◌else◌}
use Rattle.std.specs.Str.{bytes_eq}
use Rattle.smi_tree.specs.declared.fault.Fault.{Fault}
use Rattle.smi_tree.specs.declared.fault.Fault.TheVariants.{WordCount}
use Rattle.smi_session.specs.declared.query.Query.{Query}
use Rattle.smi_session.specs.declared.query.Query.TheVariants.{Counts, UnderWay, States, Follow, Actions, Modes}
use Rattle.smi_session.specs.declared.query.Query.TheVariants.{Version, Help}

-- what a first word asks
abbrev pub query_named : List ℕ → Option Query
query_named word =
    if bytes_eq word (codes "counts") then Some Counts
    else (if bytes_eq word (codes "under") then Some UnderWay
    else (if bytes_eq word (codes "states") then Some States
    else (if bytes_eq word (codes "follow") then Some Follow
    else (if bytes_eq word (codes "actions") then Some Actions
    else (if bytes_eq word (codes "modes") then Some Modes
    else (if bytes_eq word (codes "version") then Some Version
    else (if bytes_eq word (codes "help") then Some Help
    else None)))))))

abbrev pub are_none : List (List ℕ) → Bool
are_none [] = true
are_none (word ∷ more) = false

abbrev pub are_way : List (List ℕ) → Bool
are_way [] = false
are_way (word ∷ more) = bytes_eq word (codes "way") && are_none more

-- `--with numbers` before the names of devices asks for the numbers of commands, too
abbrev pub numbers_in : List (List ℕ) → Bool × List (List ℕ)
numbers_in [] = (false, [])
numbers_in (first ∷ []) = (false, first ∷ [])
numbers_in (first ∷ second ∷ more) =
    if bytes_eq first (codes "--with") && bytes_eq second (codes "numbers") then (true, more)
    else (false, first ∷ second ∷ more)

-- the further words that it may have: names, the second word of its own, or none
abbrev pub may_have : Query → List (List ℕ) → Bool
may_have Counts more = are_none more
may_have UnderWay more = are_way more
may_have States more = are_none more
may_have Follow more = true
may_have Actions more = true
may_have Modes more = are_none more
may_have Version more = are_none more
may_have Help more = are_none more

abbrev pub query_so : Option Query → List (List ℕ) → Result (Option Query) Fault
query_so None more = Ok None
query_so (Some query) more = if may_have query more then Ok (Some query) else Err WordCount

-- what a line asks by its words; nothing if it is another line, or has none
abbrev pub query_in : List (List ℕ) → Result (Option Query) Fault
query_in [] = Ok None
query_in (word ∷ more) = query_so (query_named word) more
