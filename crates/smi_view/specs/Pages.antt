-- The rule of the two copies.
use Rattle.std.specs.Prelude.{ℕ, ◌≡◌, List, Option, Some}
use Rattle.std.specs.Ordering.{nat_cmp}
use Rattle.std.specs.BTreeMap.{insert_entry}
use mathlib.Core.Option.{some}
use lib.ListN.{get_elem?}
use Rattle.logbook.specs.Pages.{Book}
use Rattle.smi_grant.specs.declared.state.Shown.{Shown}
use Rattle.smi_view.specs.declared.page.HistoryId.{HistoryId}
use Rattle.smi_view.specs.declared.page.CopyMeaning.{CopyMeaning}
use Rattle.smi_view.specs.declared.sheet.MarkedRow.{MarkedRow}
use Rattle.smi_view.specs.declared.sheet.BoardCopy.{BoardCopy}
use Rattle.smi_view.specs.Entries.{entries_of}

abbrev pub name_of : Book → HistoryId
name_of b = record { number = b.number; log = b.log_name; cells = b.cells_name }

abbrev pub page_of : BoardCopy → CopyMeaning
page_of x = record { entries = x.last.entries; rows = x.mark.seen.log; name = name_of x.mark.seen.book }

-- what an entry makes of a page
abbrev pub turned : CopyMeaning → MarkedRow → CopyMeaning
turned p e = record {
  entries = insert_entry nat_cmp p.entries e.row.object e.row;
  rows = e.mark.seen.log;
  name = name_of e.mark.seen.book;
}

-- the page of a board with these rows
abbrev pub page : HistoryId → List Shown → CopyMeaning
page n rows = record { entries = entries_of rows; rows = rows; name = n }

-- what is known of a history is known of this copy
abbrev pub Knows : BoardCopy → Option HistoryId → Type 0
Knows x v = (n : HistoryId) → v ≡ Some n → n ≡ name_of x.mark.seen.book

abbrev pub Keeps : BoardCopy → List (Option HistoryId) → Type 0
Keeps x views = (x.last.entries ≡ entries_of x.mark.seen.log)
    × ((seat : ℕ) (v : Option HistoryId) → get_elem? views seat ≡ some v → Knows x v)

abbrev pub Finds : Option HistoryId → BoardCopy → BoardCopy → Option HistoryId → Type 0
Finds v x y w = (w ≡ Some (name_of y.mark.seen.book)) × (y.last.entries ≡ entries_of y.mark.seen.log) × Knows y v
