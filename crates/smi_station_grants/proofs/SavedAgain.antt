-- With the row that a step saves, the rows say what the station keeps after it.
use Rattle.std.proofs.Common.{ℕ, ◌≡◌, Bool, true, false, Option, Some, None, Ok, refl, sym, ap, ◌∙◌, subst, arith}
use Rattle.std.specs.Prelude.{◌==◌, ◌&&◌, if◌then◌else◌, option_and_then, option_map}
use Rattle.std.proofs.lemmas.Bool.{and_parts, eqb-true}
use mathlib.Core.Path.{fun_ext}
use Rattle.smi_grant.specs.declared.Holder.{Holder}
use Rattle.smi_grant.specs.declared.Holder.TheVariants.{Operator, Domain}
use Rattle.smi_grant.specs.Holder.{same_holder}
use Rattle.smi_grant.specs.Record.{Standing}
use Rattle.smi_base.specs.Between.{is_between}
use Rattle.smi_tree.specs.Hierarchy.{Hierarchy}
use Rattle.smi_tree.specs.Lawful.{IsTree}
use Rattle.smi_tree.specs.Lookups.{children_of, domain_count}
use Rattle.std.specs.List.{range_with_len}
use Rattle.smi_command.specs.declared.Link.{Link}
use Rattle.smi_command.specs.declared.Link.TheVariants.{Out, Taking, Held, Dropping}
use Rattle.smi_grant.proofs.Holders.{same_is}
use Rattle.smi_rows.specs.declared.Mode.{Mode}
use Rattle.smi_rows.specs.declared.Mode.TheVariants.{Included}
use Rattle.smi_rows.specs.declared.Row.{Row}
use Rattle.smi_tree.specs.Roles.{is_parent}
use Rattle.smi_command.specs.Link.{is_held}
use Rattle.smi_rows.specs.Reading.{row_of}
use Rattle.smi_rows.specs.Store.{Rows, Saved, same_key, with_row}
use Rattle.smi_rows.proofs.Keys.{same-is}
use Rattle.smi_rows.proofs.Laws.{row_is_read}
use Rattle.smi_protocol.specs.Grants.{Grants}
use Rattle.smi_protocol.specs.GrantsOf.{grant_step}
use Rattle.smi_protocol.specs.GrantStep.{OfDomain, OfOperator, Touched}
use Rattle.smi_protocol.specs.Happening.{Happening}
use Rattle.smi_protocol.specs.Loading.{AllRead, fault_in, stored_at}
use Rattle.smi_protocol.specs.Refusals.{refusal_of}
use Rattle.smi_protocol.specs.SavedRows.{child_links, domain_row, is_new, operator_links, operator_row, saved_row}
use Rattle.smi_protocol.specs.Sound.{IsSayable, IsSound}
use Rattle.smi_protocol.proofs.Lists.{in_range}
use Rattle.smi_protocol.proofs.Ranges.{is_within}
use Rattle.smi_protocol.proofs.RowsMean.{stored_link, stored_mode}
use Rattle.smi_protocol.proofs.RowsRead.{domain_reads, operator_reads}
use Rattle.smi_protocol.proofs.SoundSteps.{stays_sound}
use Rattle.smi_protocol.proofs.Tables.{child_in}
use Rattle.smi_station_grants.specs.Change.{with_saved}
use Rattle.smi_station_grants.specs.Restored.{with_domain, with_operator}
use Rattle.smi_station_grants.specs.Restoring.{as_said}
use Rattle.smi_station_grants.specs.Stored.{IsStored}
use Rattle.smi_station_grants.proofs.Changes.{Changes, OfOneDomain, OfOneOperator, step_changes}
use Rattle.smi_station_grants.proofs.SoundLoading.{grants_sound}
use Rattle.smi_station_grants.proofs.Taking.{own_taken}

-- grants that are the same in all that they hold
same_grants : (g k : Grants) → g.boot ≡ k.boot → ((x : ℕ) → g.records x ≡ k.records x)
    → ((x : ℕ) → g.gathered x ≡ k.gathered x) → ((who : Holder) (x : ℕ) → g.links who x ≡ k.links who x)
    → ((x : ℕ) → g.modes x ≡ k.modes x) → g ≡ k
same_grants g k boot records gathered links modes =
    let same_records : g.records ≡ k.records = fun_ext records in
    let same_gathered : g.gathered ≡ k.gathered = fun_ext gathered in
    let same_links : g.links ≡ k.links = fun_ext (λ who. fun_ext (λ x. links who x)) in
    let same_modes : g.modes ≡ k.modes = fun_ext modes in
    ap (λ (n : ℕ). record g { boot = n }) boot
    ∙ ap (λ (t : ℕ → Standing). record g { boot = k.boot; records = t }) same_records
    ∙ ap (λ (t : ℕ → ℕ). record g { boot = k.boot; records = k.records; gathered = t }) same_gathered
    ∙ ap (λ (t : Holder → ℕ → Link). record g {
      boot = k.boot;
      records = k.records;
      gathered = k.gathered;
      links = t;
    }) same_links
    ∙ ap (λ (t : ℕ → Mode). record k { modes = t }) same_modes

new_unheld : (l : Link) → is_new l ≡ true → is_held l ≡ false
new_unheld (Out k) new = refl
new_unheld (Taking s) new = absurd cc
new_unheld (Held e n p) new = absurd cc
new_unheld (Dropping e) new = absurd cc

module _ (h : Hierarchy) (number : ℕ) (g k : Grants) where
  -- what the row of a domain says is all that is new
  domain_said : (d : ℕ) → IsSound h k → OfOneDomain h number d g k
      → with_domain h g d (record { standing = k.records d; gathered = k.gathered d; links = child_links h k d }) ≡ k
  domain_said d sound same =
      same_grants (with_domain h g d
      (record { standing = k.records d; gathered = k.gathered d; links = child_links h k d })) k
      same.boot
      (λ x. at k.records g.records x (x == d) refl (same.records x))
      (λ x. at k.gathered g.gathered x (x == d) refl (same.gathered x))
      (λ who x. link who x (is_parent h x d && same_holder who (Domain d)) refl)
      (λ x. mode x (is_parent h x d) refl)
    where
      at : {X : Type 0} (new old : ℕ → X) (x : ℕ) (b : Bool) → (x == d) ≡ b → ((x == d) ≡ false → old x ≡ new x)
          → (if b then new d else old x) ≡ new x
      at new old x true is other = ap new (sym (eqb-true x d is))
      at new old x false is other = other is

      link : (who : Holder) (x : ℕ) (b : Bool) → (is_parent h x d && same_holder who (Domain d)) ≡ b
          → (if b then (stored_at (child_links h k d) x).link else g.links who x) ≡ k.links who x
      link who x true is =
          let a = and_parts (is_parent h x d) (same_holder who (Domain d)) is in
          stored_link (λ y. k.links (Domain d) y) k.modes x (children_of h d) (child_in h d x a.0)
          ∙ ap (λ w. k.links w x) (sym (same_is who (Domain d) a.1))
      link who x false is = same.links who x is

      mode : (x : ℕ) (b : Bool) → is_parent h x d ≡ b
          → (if b then (stored_at (child_links h k d) x).mode else g.modes x) ≡ k.modes x
      mode x true is = stored_mode (λ y. k.links (Domain d) y) k.modes x (children_of h d) (child_in h d x is)
          (λ new. sound.mode d x is (new_unheld (k.links (Domain d) x) new))
      mode x false is = same.modes x is

  -- what the row of an operator says is all that is new
  operator_said : (o : ℕ) → OfOneOperator h number o g k → with_operator h g o (operator_links h k o) ≡ k
  operator_said o same =
      same_grants (with_operator h g o (operator_links h k o)) k same.boot same.records same.gathered
      (λ who x. link who x (is_between 1 (domain_count h) x && same_holder who (Operator o)) refl)
      same.modes
    where
      link : (who : Holder) (x : ℕ) (b : Bool) → (is_between 1 (domain_count h) x && same_holder who (Operator o))
          ≡ b → (if b then (stored_at (operator_links h k o) x).link else g.links who x) ≡ k.links who x
      link who x true is =
          let a = and_parts (is_between 1 (domain_count h) x) (same_holder who (Operator o)) is in
          let within = is_within 1 (domain_count h) x a.0 in
          stored_link (λ y. k.links (Operator o) y) (λ y. Included) x (range_with_len 1 (domain_count h))
          (in_range x 1 (domain_count h) within.least (omega (arith, within.most)))
          ∙ ap (λ w. k.links w x) (sym (same_is who (Operator o) a.1))
      link who x false is = same.links who x is

-- with a row more that is read, all are read
pub read_more : (h : Hierarchy) (number : ℕ) (rows : Rows) (r : Saved) (x : Row) → row_of h r.key r.bytes ≡ Ok x
    → AllRead h number rows → AllRead h number (with_row r.key r.bytes rows)
read_more h number rows r x is all k = by (same_key r.key k) refl
  where
    reads : (s : Bool) → (if s then fault_in (row_of h k r.bytes) else None)
        ≡ (if s then fault_in (row_of h r.key r.bytes) else None)
        → (if s then fault_in (row_of h k r.bytes) else None) ≡ None
    reads true same = same ∙ ap fault_in is
    reads false same = refl

    by : (t : Bool) → same_key r.key k ≡ t
        → (if k.station == number then option_and_then (λ b. fault_in (row_of h k b))
        (if t then Some r.bytes else rows k) else None) ≡ None
    by true same = reads (k.station == number)
        (ap (λ z. if k.station == number then fault_in (row_of h z r.bytes) else None) (sym (same-is r.key k same)))
    by false other = all k

-- with a row more of the station, the rows say what it keeps and what the row says
pub stored_more : (h : Hierarchy) (number : ℕ) (g k : Grants) (rows : Rows) (r : Saved) (x : Row)
    → r.key.station ≡ number → row_of h r.key r.bytes ≡ Ok x → as_said h g r.key x ≡ k → IsStored h number g rows
    → IsStored h number k (with_row r.key r.bytes rows)
stored_more h number g k rows r x mine is same stored = record {
  read = read_more h number rows r x is stored.read;
  means = own_taken h number rows r.bytes r.key x mine is ∙ ap (λ z. as_said h z r.key x) stored.means ∙ same;
}

-- what rows say is sound
pub stored_sound : (h : Hierarchy) (number : ℕ) (g : Grants) (rows : Rows) → IsStored h number g rows → IsSound h g
stored_sound h number g rows stored = subst (IsSound h) stored.means (grants_sound h number rows)

changes_stored : (h : Hierarchy) (number : ℕ) (g k : Grants) (rows : Rows) (o : Option Touched) → IsTree h
    → IsSound h k → Changes h number g k o → IsStored h number g rows
    → IsStored h number k (with_saved (option_map (saved_row h number k) o) rows)
changes_stored h number g k rows None tree sound changes stored = subst (λ z. IsStored h number z rows) changes stored
changes_stored h number g k rows (Some (OfDomain d)) tree sound changes stored =
    let r = saved_row h number k (OfDomain d) in
    stored_more h number g k rows r (domain_row h k d) refl
    (row_is_read h r.key r.bytes (domain_row h k d) (domain_reads h tree k sound number d changes.kept))
    (domain_said h number g k d sound changes) stored
changes_stored h number g k rows (Some (OfOperator o)) tree sound changes stored =
    let r = saved_row h number k (OfOperator o) in
    stored_more h number g k rows r (operator_row h k o) refl
    (row_is_read h r.key r.bytes (operator_row h k o) (operator_reads h tree k sound number o changes.served))
    (operator_said h number g k o changes) stored

-- so it is after each step
pub stays_stored : (h : Hierarchy) (number : ℕ) (g : Grants) (rows : Rows) (what : Happening) → IsTree h
    → IsSayable what → refusal_of h number g what ≡ None → IsStored h number g rows
    → IsStored h number (grant_step h number g what).grants
    (with_saved (option_map (saved_row h number (grant_step h number g what).grants)
    (grant_step h number g what).row) rows)
stays_stored h number g rows what tree fits none stored =
    changes_stored h number g (grant_step h number g what).grants rows (grant_step h number g what).row tree
    (stays_sound h number g what tree (stored_sound h number g rows stored) fits none)
    (step_changes h number g tree what none) stored
