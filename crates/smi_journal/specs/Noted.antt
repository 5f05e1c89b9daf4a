-- What a journal was told, and what its current file has of that.
use Rattle.std.specs.Prelude.{ℕ, ◌≡◌, ◌⊎◌, ◌++◌, ◌∷◌, ◌||◌, [], Bool, true, false, List}
use Rattle.std.specs.Prelude.{Option, option_map, unwrap_or, IfSome}
use Rattle.std.specs.Io.KnownBytes.{Appends}
use Rattle.smi_tree.specs.Hierarchy.{Hierarchy}
use Rattle.smi_protocol.specs.Step.{Out}
use Rattle.smi_journal.specs.Text.{entries_text, is_silent, step_entries}
use Rattle.smi_journal.specs.Waiting.{has_entries, may_wait}
use Rattle.smi_journal.specs.declared.notes.Noting.{Noting}
use Rattle.smi_journal.specs.declared.notes.Noting.TheVariants as noting

-- Lists of what a journal did have the newest first.

-- what the steps handed out that it was told, in their order
abbrev pub handed_in : List Noting → List Out
handed_in [] = []
handed_in (noting.Begins opening ∷ earlier) = handed_in earlier
handed_in (noting.Writes typed prefix handed ∷ earlier) = handed_in earlier ++ handed.value ∷ []
handed_in (noting.Keeps typed prefix handed ∷ earlier) = handed_in earlier ++ handed.value ∷ []
handed_in (noting.Skips handed ∷ earlier) = handed_in earlier ++ handed.value ∷ []
handed_in (noting.Loses handed ∷ earlier) = handed_in earlier ++ handed.value ∷ []

-- what the file is to have that was begun last: its opening, and of each step what was typed before it and its entries
abbrev pub file_text : Hierarchy → ℕ → List Noting → List ℕ
file_text h station [] = []
file_text h station (noting.Begins opening ∷ earlier) = opening.value.items
file_text h station (noting.Writes typed prefix handed ∷ earlier) = file_text h station earlier
    ++ typed.value.items ++ entries_text h prefix.value.items (step_entries station handed.value)
file_text h station (noting.Keeps typed prefix handed ∷ earlier) = file_text h station earlier
    ++ typed.value.items ++ entries_text h prefix.value.items (step_entries station handed.value)
file_text h station (noting.Skips handed ∷ earlier) = file_text h station earlier
file_text h station (noting.Loses handed ∷ earlier) = file_text h station earlier

-- what it has of that: all but what the steps have left that were kept since the last one was written
abbrev pub written_text : Hierarchy → ℕ → List Noting → List ℕ
written_text h station [] = []
written_text h station (noting.Begins opening ∷ earlier) = opening.value.items
written_text h station (noting.Writes typed prefix handed ∷ earlier) = file_text h station earlier
    ++ typed.value.items ++ entries_text h prefix.value.items (step_entries station handed.value)
written_text h station (noting.Keeps typed prefix handed ∷ earlier) = written_text h station earlier
written_text h station (noting.Skips handed ∷ earlier) = written_text h station earlier
written_text h station (noting.Loses handed ∷ earlier) = written_text h station earlier

-- a step that was kept since then has left entries
abbrev pub do_entries_wait : List Noting → Bool
do_entries_wait [] = false
do_entries_wait (noting.Begins opening ∷ earlier) = false
do_entries_wait (noting.Writes typed prefix handed ∷ earlier) = false
do_entries_wait (noting.Keeps typed prefix handed ∷ earlier) = has_entries handed.value || do_entries_wait earlier
do_entries_wait (noting.Skips handed ∷ earlier) = do_entries_wait earlier
do_entries_wait (noting.Loses handed ∷ earlier) = do_entries_wait earlier

-- since a file was begun, each step was written, was kept as it may be, or has left nothing to write
abbrev pub IsWhole : ℕ → List Noting → Type 0
IsWhole station [] = ⊥
IsWhole station (noting.Begins opening ∷ earlier) = Unit {0}
IsWhole station (noting.Writes typed prefix handed ∷ earlier) = IsWhole station earlier
IsWhole station (noting.Keeps typed prefix handed ∷ earlier) =
    (may_wait station (do_entries_wait earlier) handed.value ≡ true) × IsWhole station earlier
IsWhole station (noting.Skips handed ∷ earlier) = (is_silent handed.value ≡ true) × IsWhole station earlier
IsWhole station (noting.Loses handed ∷ earlier) = ⊥

-- the bytes of a file when it was made, and now, if they are known; those that wait, and whether entries do
pub record FileBytes : Type 0 where
  pub made : Option (List ℕ)
  pub now : Option (List ℕ)
  pub waiting : List ℕ
  pub has_entries : Bool

-- a journal: its tree, the number of its station, what it did, and its file, while it has one
pub record Notes : Type 0 where
  pub tree : Hierarchy
  pub station : ℕ
  pub notings : List Noting
  pub file : Option FileBytes

-- its file has just what it has written since the file was begun, what it has not waits, and no step is left out
abbrev pub AreKept : Notes → Type 0
AreKept n = IfSome n.file (λ f. IsWhole n.station n.notings
    × Appends f.made f.now (written_text n.tree n.station n.notings)
    × (file_text n.tree n.station n.notings ≡ written_text n.tree n.station n.notings ++ f.waiting)
    × (f.has_entries ≡ do_entries_wait n.notings))

-- whether entries wait for its file
abbrev pub entries_of_file_wait : Notes → Bool
entries_of_file_wait n = unwrap_or (option_map (λ f. f.has_entries) n.file) false

-- what is noted is a step that handed this out
abbrev pub IsOf : Out → Noting → Type 0
IsOf out (noting.Begins opening) = ⊥
IsOf out (noting.Writes typed prefix handed) = handed.value ≡ out
IsOf out (noting.Keeps typed prefix handed) = handed.value ≡ out
IsOf out (noting.Skips handed) = handed.value ≡ out
IsOf out (noting.Loses handed) = handed.value ≡ out

-- what is noted is that a file is begun with this text
abbrev pub IsBeginning : List ℕ → Noting → Type 0
IsBeginning text (noting.Begins opening) = opening.value.items ≡ text
IsBeginning text (noting.Writes typed prefix handed) = ⊥
IsBeginning text (noting.Keeps typed prefix handed) = ⊥
IsBeginning text (noting.Skips handed) = ⊥
IsBeginning text (noting.Loses handed) = ⊥

-- one step is noted
abbrev pub NotesOne : Out → List Noting → List Noting → Type 0
NotesOne out before after = (n : Noting) × IsOf out n × (after ≡ n ∷ before)

-- one file is begun, with this text
abbrev pub BeginsOne : List ℕ → List Noting → List Noting → Type 0
BeginsOne text before after = (n : Noting) × IsBeginning text n × (after ≡ n ∷ before)

-- one file is begun, or none
abbrev pub MayBegin : List Noting → List Noting → Type 0
MayBegin before after = (after ≡ before) ⊎ ((text : List ℕ) × BeginsOne text before after)

-- one step is noted, and after it one file is begun, or none
abbrev pub NotesStep : Out → List Noting → List Noting → Type 0
NotesStep out before after = (between : List Noting) × NotesOne out before between × MayBegin between after
