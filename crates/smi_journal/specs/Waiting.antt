-- Which lines of a journal may wait for those of a later step.
use Rattle.std.specs.Prelude.{ℕ, ◌==◌, ◌&&◌, ◌||◌, ◌∷◌, [], not, Bool, true, false, List, length, is_none}
use Rattle.std.specs.List.{list_all}
use Rattle.smi_protocol.specs.Step.{Out}
use Rattle.smi_protocol.specs.declared.entry.Entry.{Entry}
use Rattle.smi_protocol.specs.declared.entry.Entry.TheVariants as entry

-- no other station and no operator can know of a step: it has answered nobody, has shown nothing, and sends to its own
-- station alone
abbrev pub stays : ℕ → Out → Bool
stays station out = is_none out.shown && (length out.passed == 0 && (length out.answers == 0 &&
    list_all (λ m. m.to == station) out.datagrams))

-- the save of a step has left entries
abbrev pub has_entries : Out → Bool
has_entries out = not (length out.kept == 0)

-- the next start finds by the stable record alone that this was saved, also beside what one step more has saved
abbrev pub is_found_at_start : Entry → Bool
is_found_at_start (entry.Granted domain epoch holder) = true
is_found_at_start (entry.Ordered operator domain epoch number command) = true
is_found_at_start (entry.LetGo holder domain epoch) = true
is_found_at_start (entry.Booted station boot) = false
is_found_at_start (entry.Freed domain epoch) = false
is_found_at_start (entry.Ran domain epoch number command) = false
is_found_at_start (entry.Learned holder domain epoch) = false
is_found_at_start (entry.InMode domain mode) = false
is_found_at_start (entry.Settled domain epoch number outcome) = false
is_found_at_start (entry.Showed station shown) = false
is_found_at_start (entry.Passed shown) = false
is_found_at_start (entry.Told operator told) = false

-- these entries are just one that a start finds
abbrev pub is_one_found : List Entry → Bool
is_one_found [] = false
is_one_found (one ∷ []) = is_found_at_start one
is_one_found (one ∷ (other ∷ rest)) = false

-- the lines of a step may wait: it stays, and has left no entries, or just one that a start finds, if no others wait
abbrev pub may_wait : ℕ → Bool → Out → Bool
may_wait station do_others_wait out =
    stays station out && (not (has_entries out) || (not do_others_wait && is_one_found out.kept))
