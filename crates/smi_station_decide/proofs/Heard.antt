-- What a told record makes of a station's grants, as changes.
use Rattle.std.proofs.Common.{◌≡◌, ℕ, ◌<◌, ◌≤◌, Bool, true, false, List, ◌++◌, length, drop, get_or, drop-cons}
use Rattle.std.proofs.Common.{drop_of_length-le, Some, refl, sym, ap, ◌∙◌}
use Rattle.std.specs.Prelude.{find, map}
use Rattle.smi_grant.specs.declared.Holder.{Holder}
use Rattle.smi_grant.specs.declared.Holder.TheVariants.{Operator, Domain}
use Rattle.smi_grant.specs.Keeper.{settled}
use Rattle.smi_grant.specs.Record.{Standing}
use Rattle.smi_command.specs.declared.Link.{Link}
use Rattle.smi_command.specs.Hearing.{told_link, told_heard}
use Rattle.smi_tree.specs.Hierarchy.{Hierarchy}
use Rattle.smi_tree.specs.Lawful.{IsBetween}
use Rattle.smi_tree.specs.Lookups.{domain_count}
use Rattle.smi_tree.specs.Roles.{is_parent}
use Rattle.smi_protocol.specs.Grants.{Grants, put, with_link}
use Rattle.smi_protocol.specs.Hearing.{ended, ends, gathered_with, parent_heard, parent_told, settlements_in}
use Rattle.smi_protocol.proofs.Tables.{put_here}
use Rattle.smi_station_grants.specs.declared.change.Change.TheVariants.{ChildReported}
use Rattle.smi_station_decide.specs.Plans.{Plans}
use Rattle.smi_station_grants.proofs.Writes.{put_same, put_twice}

-- the next one passes
pub found_next : (test : Holder → Bool) (ops : List ℕ) (rest : List Holder) (i x : ℕ) → i < length ops
    → test (Operator (get_or ops i x)) ≡ true
    → find test (map Operator (drop i ops) ++ rest) ≡ Some (Operator (get_or ops i x))
found_next test ops rest i x within passes = rw (drop-cons ops i x within, passes) refl

-- none of the first list passes
pub found_later : (test : Holder → Bool) (ops : List ℕ) (rest : List Holder) (i : ℕ) → length ops ≤ i
    → find test (map Operator (drop i ops) ++ rest) ≡ find test rest
found_later test ops rest i past = ap (λ xs. find test (map Operator xs ++ rest)) (drop_of_length-le ops past)

module _ (h : Hierarchy) (number : ℕ) (g : Grants) (p d : ℕ) (r : Standing) (inside : IsBetween 1 (domain_count h) p)
    (child : is_parent h d p ≡ true) where
  abbrev link : Link
  link = told_link (g.links (Domain p) d) (Domain p) r

  abbrev code : ℕ
  code = gathered_with (g.gathered p) (settlements_in (told_heard (g.links (Domain p) d) (Domain p) r))

  abbrev on : Grants
  on = parent_heard g p d r

  pub ending_planned : ends h on p ≡ true → Plans h number g (parent_told h number g p d r)
      (ChildReported p d link (settled (g.records p) code) 0)
  ending_planned is = record {
    grants =
        ap (λ b. ended b on p) is
        ∙ ap (λ x. record (with_link g (Domain p) d link) {
          records = put g.records p (settled (g.records p) x);
          gathered = put (put g.gathered p code) p 0;
        }) (put_here g.gathered p code)
        ∙ ap (λ (t : ℕ → ℕ). record (with_link g (Domain p) d link) {
          records = put g.records p
              (settled (g.records p) code);
          gathered = t;
        }) (put_twice g.gathered p code 0);
    row = refl;
    lawful = (inside, child);
  }

  pub going_on_planned : ends h on p ≡ false
      → Plans h number g (parent_told h number g p d r) (ChildReported p d link (g.records p) code)
  going_on_planned is = record {
    grants =
        ap (λ b. ended b on p) is
        ∙ ap (λ (t : ℕ → Standing). record (with_link g (Domain p) d link) {
          records = t;
          gathered = put g.gathered p code;
        }) (sym (put_same g.records p));
    row = refl;
    lawful = (inside, child);
  }
