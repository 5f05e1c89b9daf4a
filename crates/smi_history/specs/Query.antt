-- Which entries of a history a request asks for, and how they read.
use Rattle.std.specs.Prelude.{ℕ, zero, suc, ◌+◌, ◌-◌, ◌/◌, ◌^◌, min, max, ◌&&◌, ◌++◌, nat_le, Bool, true, List, []}
use Rattle.std.specs.Prelude.{Option, Some, None, option_map, option_and_then, codes, if◌then◌else◌}
use Rattle.std.specs.List.{flat_map}
use Rattle.std.specs.Option.{option_map_or}
use Rattle.std.specs.Fmt.{decimal}
use Rattle.smi_tree.specs.Number.{number_within}
use Rattle.smi_history.specs.History.{HistoryState, count_before, dropped, most_told, oldest, piece}
use Rattle.smi_history.specs.Parts.{has_word, value_of}
use Rattle.smi_history.specs.declared.history.HistoryEntry.{HistoryEntry}

-- the entries after a number, those that have a word, and those between two seconds since 1970
pub record QueryState : Type 0 where
  pub after : Option ℕ
  pub object : Option (List ℕ)
  pub from : ℕ
  pub to : ℕ

abbrev pub most_number : ℕ
most_number = 9_999_999_999

abbrev pub number_or : ℕ → Option (List ℕ) → Option ℕ
number_or number None = Some number
number_or number (Some word) = number_within 0 most_number word

abbrev pub number_if_any : Option (List ℕ) → Option (Option ℕ)
number_if_any None = Some None
number_if_any (Some word) = option_map (λ number. Some number) (number_within 0 most_number word)

-- a number each, or all; and no query if a number is not well formed
abbrev pub query_in : List ℕ → Option QueryState
query_in text =
    option_and_then (λ after. option_and_then (λ from. option_map (λ to.
    record { after = after; object = value_of (codes "object=") text; from = from; to = to })
    (number_or most_number (value_of (codes "to=") text)))
    (number_or 0 (value_of (codes "from=") text)))
    (number_if_any (value_of (codes "after=") text))

abbrev pub is_about : List ℕ → Option (List ℕ) → Bool
is_about text None = true
is_about text (Some word) = has_word text word

abbrev pub is_then : QueryState → ℕ → Bool
is_then q at = nat_le q.from (at / 1_000) && nat_le (at / 1_000) q.to

abbrev pub is_asked : QueryState → HistoryEntry → Bool
is_asked q e = is_then q e.note.at && is_about e.note.text q.object

-- an entry as a line of JSON
unfoldable pub entry_line : HistoryEntry → List ℕ
entry_line e =
    codes "{\"number\":" ++ decimal e.number ++ codes ",\"at\":" ++ decimal e.note.at
    ++ codes ",\"text\":\"" ++ e.note.text ++ codes "\"}\n"

unfoldable pub asked_line : QueryState → HistoryEntry → List ℕ
asked_line q e = if is_asked q e then entry_line e else []

-- before the first one of the second that is asked for, or before the newest
abbrev pub usual_start : HistoryState → ℕ → ℕ
usual_start h zero = max (h.count - most_told) (dropped h)
usual_start h (suc second) = min (dropped h + count_before (suc second) h.entries) (2 ^ 64 - 1)

-- after the number that is asked for, and after those that are kept no longer
abbrev pub start_of : HistoryState → QueryState → ℕ
start_of h q = option_map_or (λ after. max after (dropped h)) q.after (usual_start h q.from)

-- how many there were so far, up to which they are saved, after which number was looked and up to which, and when the
-- oldest is from that is kept
unfoldable pub head_line : HistoryState → ℕ → List ℕ
head_line h first =
    codes "{\"count\":" ++ decimal h.count
    ++ codes ",\"saved\":" ++ decimal h.saved
    ++ codes ",\"after\":" ++ decimal first
    ++ codes ",\"upto\":" ++ decimal (min (first + most_told) (2 ^ 64 - 1))
    ++ codes ",\"oldest\":" ++ decimal (oldest h.entries) ++ codes "}\n"

-- where was looked, and a line for each entry
abbrev pub history_text : HistoryState → QueryState → List ℕ
history_text h q = head_line h (start_of h q) ++ flat_map (asked_line q) (piece h (start_of h q))
