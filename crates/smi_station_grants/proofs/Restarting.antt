-- A station that starts on the rows of one that was stopped goes on from what that one kept.
use Rattle.std.proofs.Common.{ℕ, ◌≡◌, ◌≢◌, ◌≤◌, ◌+◌, Bool, true, false, List, inl, inr, Option, Some, None, Result}
use Rattle.std.proofs.Common.{Ok, Err, refl, sym, ap, ◌∙◌, subst, arith}
use Rattle.std.specs.Prelude.{◌==◌, ◌&&◌, length, slice_index, if◌then◌else◌, option_and_then}
use Rattle.std.proofs.lemmas.Bool.{and_parts}
use Rattle.smi_message.specs.declared.Bad.{Bad}
use Rattle.smi_message.specs.declared.Bad.TheVariants as bad
use Rattle.smi_message.specs.declared.Body.{Body}
use Rattle.smi_message.specs.Kinds.{body_at, is_rest_zero}
use Rattle.smi_message.specs.Layout.{fields_at}
use Rattle.smi_message.specs.Message.{Message, is_body, is_message, last_boot}
use Rattle.smi_base.specs.Between.{is_between}
use Rattle.smi_message.specs.Spelling.{is_kind, message_at, message_of, message_where, reading}
use Rattle.smi_tree.specs.Hierarchy.{Hierarchy}
use Rattle.smi_tree.specs.Lawful.{IsBetween, IsTree}
use Rattle.smi_tree.specs.Lookups.{station_count}
use Rattle.smi_rows.specs.declared.Key.{Key}
use Rattle.smi_rows.specs.declared.Row.{Row}
use Rattle.smi_rows.specs.declared.Row.TheVariants as row
use Rattle.smi_rows.specs.declared.RowFault.{RowFault}
use Rattle.smi_rows.specs.declared.RowKind.TheVariants as kind
use Rattle.smi_rows.specs.Ranges.{is_boot}
use Rattle.smi_rows.specs.Reading.{row_of}
use Rattle.smi_rows.specs.Store.{Rows}
use Rattle.smi_rows.specs.Written.{IsRow}
use Rattle.smi_rows.proofs.Laws.{read_is_row, row_is_read}
use Rattle.smi_protocol.specs.Display.{Station}
use Rattle.smi_protocol.specs.Grants.{Grants, no_grants}
use Rattle.smi_protocol.specs.Happening.{Comes, Happening, Orders, Reports, Ticks}
use Rattle.smi_protocol.specs.Loading.{AllRead, Opens, boot_of, domain_in, domain_of, fault_in, grants_in, links_of}
use Rattle.smi_protocol.specs.Loading.{operator_in, read, said}
use Rattle.smi_protocol.specs.Opening.{opened}
use Rattle.smi_protocol.specs.Refusals.{refusal_of}
use Rattle.smi_protocol.specs.SavedRows.{key, saved_boot}
use Rattle.smi_protocol.specs.Sound.{IsSayable}
use Rattle.smi_protocol.specs.Step.{after, after_event, after_reading, answered_or, ordered_or_reported}
use Rattle.smi_protocol.specs.declared.event.Event.{Event}
use Rattle.smi_protocol.specs.declared.event.Event.TheVariants as event
use Rattle.smi_protocol.specs.declared.fault.OpenFault.{OpenFault}
use Rattle.smi_protocol.specs.declared.fault.OpenFault.TheVariants as open_fault
use Rattle.smi_protocol.specs.declared.order.Order.{Order}
use Rattle.smi_protocol.specs.declared.order.Order.TheVariants as order
use Rattle.smi_protocol.proofs.Ranges.{between, is_within}
use Rattle.smi_station_grants.specs.Change.{with_saved}
use Rattle.smi_station_grants.specs.Migrating.{IsPartly, SaysTheSame, in_newest_if}
use Rattle.smi_station_grants.specs.Starting.{after_start}
use Rattle.smi_station_grants.specs.Stored.{IsStored, Restarts, no_rows}
use Rattle.smi_station_grants.proofs.Opening.{boot_within}
use Rattle.smi_station_grants.proofs.SavedAgain.{stays_stored, stored_more}
use Rattle.smi_station_grants.proofs.Rewritten.{newest_reads}
use Rattle.smi_station_grants.proofs.Taking.{boot_in, in_rows, none_mean, same_meant}

clash : {X : Type 0} → true ≡ false → X
clash e = absurd cc

-- The beginning.

pub nothing_stored : (h : Hierarchy) (number : ℕ) → IsStored h number no_grants no_rows
nothing_stored h number = record { read = λ k. either (k.station == number); means = sym (none_mean h number) }
  where
    either : (s : Bool) → ◌≡◌ {A = Option ℕ} (if s then None else None) None
    either true = refl
    either false = refl

pub read_stored : (h : Hierarchy) (number : ℕ) (rows : Rows) → AllRead h number rows
    → IsStored h number (grants_in h number rows) rows
read_stored h number rows all = record { read = all; means = refl }

-- A start.

-- the row of a boot that a station can have is read
boot_row : (h : Hierarchy) (number boot : ℕ) → IsBetween 1 (station_count h) number → is_boot boot ≡ true
    → IsRow h (saved_boot number boot).key (saved_boot number boot).bytes (row.Boot boot)
boot_row h number boot here range = (
  (record { kind = kind.Boot; number = 2 }, record { kind = refl; schema = refl; range = range; bytes = refl }),
  between 1 (station_count h) number here.least here.most,
)

pub start_stored : (h : Hierarchy) (number : ℕ) (g : Grants) (rows : Rows) → IsBetween 1 (station_count h) number
    → g.boot ≢ last_boot → IsStored h number g rows
    → IsStored h number (opened h number g).grants (after_start h number rows)
start_stored h number g rows here left stored =
    let n = (grants_in h number rows).boot + 1 in
    let r = saved_boot number n in
    stored_more h number g (record g { boot = g.boot + 1 }) rows r (row.Boot n) refl
    (row_is_read h r.key r.bytes (row.Boot n) (boot_row h number n here
    (range (grants_in h number rows).boot (boot_within h number rows)
    (λ same. left (ap (λ (z : Grants). z.boot) (sym stored.means) ∙ same)))))
    (ap (λ (z : Grants). record g { boot = z.boot + 1 }) stored.means) stored
  where
    range : (n : ℕ) → n ≤ last_boot → n ≢ last_boot → is_boot (n + 1) ≡ true
    range n within other = between 1 last_boot (n + 1) (omega arith) (below n within other)
      where
        below : (n : ℕ) → n ≤ last_boot → n ≢ last_boot → n + 1 ≤ last_boot
        below n within other = grind arith

-- what an open leaves
pub opens_stored : (h : Hierarchy) (number : ℕ) (rows : Rows) (s : Station) → Opens h number rows (Ok s)
    → IsStored h number s.grants (after_start h number rows)
opens_stored h number rows s opens =
    subst (λ (z : Station). IsStored h number z.grants (after_start h number rows)) (sym opens.3)
    (start_stored h number (grants_in h number rows) rows (is_within 1 (station_count h) number opens.0) opens.2
    (read_stored h number rows opens.1))

-- Steps.

pub after_stored : (h : Hierarchy) (number : ℕ) (s : Station) (rows : Rows) (what : Happening) → IsTree h
    → IsSayable what → IsStored h number s.grants rows
    → IsStored h number (after h number s what).station.grants (with_saved (after h number s what).saved rows)
after_stored h number s rows what tree fits stored = by (refusal_of h number s.grants what) refl
  where
    by : (o : Option ℕ) → refusal_of h number s.grants what ≡ o
        → IsStored h number (answered_or h number s what o).station.grants
        (with_saved (answered_or h number s what o).saved rows)
    by (Some code) is = stored
    by None is = stays_stored h number s.grants rows what tree fits is stored

-- what is read of bytes is in the ranges of its kind
passed : (t : Bool) (x : Result Message Bad) (e : Bad) (m : Message) → (if t then x else Err e) ≡ Ok m → x ≡ Ok m
passed true x e m is = is
passed false x e m is = absurd cc

read_fields : (b : List ℕ) (m : Message) → message_at (fields_at b) ≡ Ok m → is_message m ≡ true
unfolding message_at
read_fields b m is = by (body_at (fields_at b)) is
  where
    same : (k : Message) → is_message k ≡ true → (let a : Result Message Bad = Ok k in a) ≡ Ok m → is_message m ≡ true
    same k t i = let j : k ≡ m = cc in ap is_message (sym j) ∙ t

    if_message : (c : Body) (t : Bool) → is_message (message_of (fields_at b) c) ≡ t
        → (if t then (if is_rest_zero (fields_at b) then Ok (message_of (fields_at b) c) else Err bad.Unused)
        else Err bad.Range) ≡ Ok m → is_message m ≡ true
    if_message c true t i = same (message_of (fields_at b) c) t
        (passed (is_rest_zero (fields_at b)) (Ok (message_of (fields_at b) c)) bad.Unused m i)
    if_message c false t i = absurd cc

    by : (o : Option Body) → message_where (fields_at b) o ≡ Ok m → is_message m ≡ true
    by None i = absurd cc
    by (Some c) i = if_message c (is_message (message_of (fields_at b) c)) refl i

read_lawful : (b : List ℕ) (m : Message) → reading b ≡ Ok m → is_message m ≡ true
read_lawful b m is =
    let size = passed (length b == 44) _ bad.Length m is in
    let magic = passed (slice_index b 0 == 0x53 && slice_index b 1 == 0x4D) _ bad.Magic m size in
    let layout = passed (is_between 1 2 (slice_index b 2)) _ bad.Layout m magic in
    let kind = passed (is_kind (slice_index b 2) (slice_index b 3)) _ bad.Kind m layout in
    read_fields b m kind

-- whatever reaches a station that runs
pub event_stored : (h : Hierarchy) (number : ℕ) (s : Station) (rows : Rows) (e : Event) → IsTree h
    → IsStored h number s.grants rows
    → IsStored h number (after_event h number s e).station.grants (with_saved (after_event h number s e).saved rows)
event_stored h number s rows (event.Datagram bytes) tree stored = by (reading bytes.now) refl
  where
    by : (r : Result Message Bad) → reading bytes.now ≡ r
        → IsStored h number (after_reading h number s r).station.grants
        (with_saved (after_reading h number s r).saved rows)
    by (Ok m) is = after_stored h number s rows (Comes m) tree
        (and_parts _ (is_body m.body) (read_lawful bytes.now m is)).1 stored
    by (Err b) is = stored
event_stored h number s rows (event.Order o what) tree stored = by what
  where
    by : (what : Order) → IsStored h number (after h number s (ordered_or_reported o what)).station.grants
        (with_saved (after h number s (ordered_or_reported o what)).saved rows)
    by (order.Take d) = after_stored h number s rows (Orders o (order.Take d)) tree tt stored
    by (order.Drop d) = after_stored h number s rows (Orders o (order.Drop d)) tree tt stored
    by (order.Do d a) = after_stored h number s rows (Orders o (order.Do d a)) tree tt stored
    by (order.Include d t) = after_stored h number s rows (Orders o (order.Include d t)) tree tt stored
    by (order.Exclude d t) = after_stored h number s rows (Orders o (order.Exclude d t)) tree tt stored
    by (order.Manual d t) = after_stored h number s rows (Orders o (order.Manual d t)) tree tt stored
    by (order.Ignore d t) = after_stored h number s rows (Orders o (order.Ignore d t)) tree tt stored
    by (order.Ask d) = after_stored h number s rows (Orders o (order.Ask d)) tree tt stored
    by (order.Watch x) = after_stored h number s rows (Orders o (order.Watch x)) tree tt stored
    by (order.Unwatch x) = after_stored h number s rows (Orders o (order.Unwatch x)) tree tt stored
    by (order.Report device state) = after_stored h number s rows (Reports device state) tree tt stored
event_stored h number s rows (event.Report device state) tree stored =
    after_stored h number s rows (Reports device state) tree tt stored
event_stored h number s rows event.Tick tree stored = after_stored h number s rows Ticks tree tt stored

-- Rows rewritten.

-- rows that say the same mean the same
same_meaning : (h : Hierarchy) (number : ℕ) (before after : Rows) → SaysTheSame h before after
    → grants_in h number after ≡ grants_in h number before
same_meaning h number before after same =
    in_rows h number after
    ∙ same_meant h _ (boot_in h number before) _ (domain_in h number before) _ (operator_in h number before)
    (ap boot_of (same (key number 0 0))) (λ x. ap domain_of (same (key number x 0)))
    (λ x. ap links_of (same (key number 0 x)))
    ∙ sym (in_rows h number before)

-- a row that is read is read when it is rewritten
newest_read : (h : Hierarchy) (k : Key) (o : Option (List ℕ)) → option_and_then (λ b. fault_in (row_of h k b)) o ≡ None
    → option_and_then (λ b. fault_in (row_of h k b)) (in_newest_if (option_and_then (λ b. read (row_of h k b)) o) o)
    ≡ None
newest_read h k None all = refl
newest_read h k (Some b) all = by (row_of h k b) refl
  where
    by : (x : Result Row RowFault) → row_of h k b ≡ x
        → option_and_then (λ c. fault_in (row_of h k c)) (in_newest_if (read x) (Some b)) ≡ None
    by (Ok r) is = ap fault_in (newest_reads h k b r (read_is_row h k b r is))
    by (Err fault) is = all

pub anew_stored : (h : Hierarchy) (number : ℕ) (g : Grants) (before after : Rows) → IsPartly h number before after
    → IsStored h number g before → IsStored h number g after
anew_stored h number g before after partly stored = record {
  read = λ k. elim (partly.each k) [
    | inl same ↦ ap (at k (k.station == number)) same ∙ stored.read k
    | inr new ↦ ap (at k (k.station == number)) new ∙ anew k (k.station == number) (stored.read k)
  ];
  means = same_meaning h number before after partly.same ∙ stored.means;
}
  where
    at : Key → Bool → Option (List ℕ) → Option ℕ
    at k s o = if s then option_and_then (λ b. fault_in (row_of h k b)) o else None

    anew : (k : Key) (s : Bool) → (if s then option_and_then (λ b. fault_in (row_of h k b)) (before k) else None) ≡ None
        → (if s then option_and_then (λ b. fault_in (row_of h k b))
        (if s then in_newest_if (said h before k) (before k) else before k) else None) ≡ None
    anew k true all = newest_read h k (before k) all
    anew k false all = refl

-- Restarts.

module _ (h : Hierarchy) (number : ℕ) (g : Grants) (rows : Rows) (here : IsBetween 1 (station_count h) number)
    (stored : IsStored h number g rows) where
  there : is_between 1 (station_count h) number ≡ true
  there = between 1 (station_count h) number here.least here.most

  pub restarts_stored : g.boot ≢ last_boot → Opens h number rows (Ok (opened h number g))
  restarts_stored left = (
    there,
    stored.read,
    subst (λ (z : Grants). z.boot ≢ last_boot) (sym stored.means) left,
    ap (opened h number) (sym stored.means),
  )

  pub spent_stored : g.boot ≡ last_boot → Opens h number rows (Err open_fault.BootsSpent)
  spent_stored spent = (there, stored.read, ap (λ (z : Grants). z.boot) stored.means ∙ spent)

  pub only_restarts : (r : Result Station OpenFault) → Opens h number rows r → Restarts h number g r
  only_restarts (Ok s) opens = (
    subst (λ (z : Grants). z.boot ≢ last_boot) stored.means opens.2,
    opens.3 ∙ ap (opened h number) stored.means,
  )
  only_restarts (Err open_fault.NoSuchStation) opens = clash (sym there ∙ opens)
  only_restarts (Err (open_fault.Row k code)) opens =
      let wrong : Some code ≡ None = sym opens.1.fault ∙ stored.read k in absurd cc
  only_restarts (Err open_fault.BootsSpent) opens = ap (λ (z : Grants). z.boot) (sym stored.means) ∙ opens.2
  only_restarts (Err (open_fault.Store fault)) opens = tt
  only_restarts (Err open_fault.Memory) opens = tt
