-- What a step leaves is read off the record of its domain afterwards.
use Rattle.std.proofs.Common.{ℕ, ◌≡◌, Bool, true, false, List, [], ◌∷◌, refl, sym, ap, ◌∙◌}
use Rattle.std.specs.Prelude.{◌&&◌, ◌++◌, not, if◌then◌else◌, Option, Some, None, option_map}
use Rattle.std.proofs.lemmas.Bool.{and_parts}
use Rattle.std.proofs.lemmas.Option.{none-some, same_Some}
use Rattle.smi_grant.specs.declared.Command.{Command}
use Rattle.smi_grant.specs.declared.Holder.{Holder}
use Rattle.smi_grant.specs.declared.Holder.TheVariants.{Domain}
use Rattle.smi_grant.specs.Keeper.{admits, started}
use Rattle.smi_grant.specs.Record.{Standing, is_settled}
use Rattle.smi_command.proofs.Heard.{not_true}
use Rattle.smi_command.specs.declared.Link.{Link}
use Rattle.smi_command.specs.Hearing.{told_link}
use Rattle.smi_tree.specs.Hierarchy.{Hierarchy}
use Rattle.smi_station_grants.specs.Change.{changed}
use Rattle.smi_station_decide.specs.Plans.{Plans}
use Rattle.smi_station_grants.specs.declared.change.Change.{Change}
use Rattle.smi_tree.specs.Roles.{is_parent}
use Rattle.smi_station_grants.specs.Children.{meant}
use Rattle.smi_station_grants.specs.Commanded.{AreSo, change_for}
use Rattle.smi_station_grants.specs.declared.commanded.ChildChange.{ChildChange}
use Rattle.smi_station_grants.specs.declared.commanded.CommandedChild.{CommandedChild}
use Rattle.smi_station_grants.proofs.KnownChildren.{known_at}
use Rattle.smi_protocol.specs.Children.{change_of, own_code}
use Rattle.smi_protocol.specs.declared.entry.Entry.{Entry}
use Rattle.smi_protocol.specs.declared.entry.Entry.TheVariants as entry
use Rattle.smi_protocol.specs.Grants.{Grants}
use Rattle.smi_protocol.specs.GrantStep.{waits_for_children}
use Rattle.smi_protocol.specs.Hearing.{ended, ended_entries, ended_record, ends, learned, parent_heard, parent_told}
use Rattle.smi_protocol.specs.Keeping.{answered, child_entries, commanded, entries_at, let_go_of, mode_changed, ran}
use Rattle.smi_protocol.specs.Keeping.{run_comes, settled_at_once}
use Rattle.smi_protocol.proofs.Tables.{put_here, put_link_here}
use Rattle.smi_station_decide.specs.Leaving.{at_rest, came_to_rest}

-- what is left of a child, by what is known of it
abbrev pub left_by : ℕ → ℕ → Option ChildChange → List Entry
left_by d x None = []
left_by d x (Some z) = let_go_of d x (meant z) ++ mode_changed x (meant z)

pub left_at : (h : Hierarchy) (g : Grants) (d : ℕ) (c : Command) (xs : List CommandedChild) (x : ℕ)
    → AreSo h g d c xs → (o : Option ChildChange) → o ≡ change_for xs x → left_by d x o ≡ entries_at h g d c x
left_at h g d c xs x so o is = by (is_parent h x d) o (ap (option_map meant) is ∙ known_at h g d c xs x so)
  where
    by : (b : Bool) (o : Option ChildChange)
        → option_map meant o ≡ (if b then Some (change_of h g d c x) else None)
        → left_by d x o
        ≡ (if b then let_go_of d x (change_of h g d c x) ++ mode_changed x (change_of h g d c x) else [])
    by true None e = absurd (none-some (change_of h g d c x) e)
    by true (Some z) e = ap (λ y. let_go_of d x y ++ mode_changed x y)
        (same_Some (meant z) (change_of h g d c x) e)
    by false None e = refl
    by false (Some z) e = absurd (none-some (meant z) (sym e))

module _ (h : Hierarchy) (number : ℕ) (g : Grants) (from d : ℕ) (who : Holder) (e n : ℕ) (c : Command) where
  abbrev busy : Bool
  busy = waits_for_children h (commanded h g d c) d

  abbrev own : ℕ
  own = own_code h g d c

  at_once : (b : Bool) → at_rest d e n (started (g.records d) b own) ≡ settled_at_once d e n b own
  at_once true = refl
  at_once false = refl

  pub run_left : (change : Change) (r : Standing) → Plans h number g (run_comes h number g from d who e n c) change
      → r ≡ (changed h g change).records d → admits (g.records d) who e n ≡ true
      → entry.Ran d e n c ∷ child_entries h g d c ++ at_rest d e n r ≡ (run_comes h number g from d who e n c).entries
  run_left change r plans is runs =
      let here : (run_comes h number g from d who e n c).grants.records d ≡ started (g.records d) busy own =
      ap (λ b. (if b then ran h number g from d e n c busy own else answered h number g from d).grants.records d)
      runs ∙ put_here g.records d (started (g.records d) busy own) in
      ap (λ (z : Standing). entry.Ran d e n c ∷ child_entries h g d c ++ at_rest d e n z)
      (is ∙ ap (λ (a : Grants). a.records d) (sym plans.grants) ∙ here)
      ∙ ap (λ (es : List Entry). entry.Ran d e n c ∷ child_entries h g d c ++ es) (at_once busy)
      ∙ sym (ap (λ b. (if b then ran h number g from d e n c busy own else answered h number g from d).entries) runs)

module _ (h : Hierarchy) (number : ℕ) (g : Grants) (p d : ℕ) (r : Standing) where
  abbrev on : Grants
  on = parent_heard g p d r

  rested : (b : Bool) → ends h on p ≡ b → came_to_rest p (g.records p) ((ended b on p).records p) ≡ ended_entries b on p
  rested true is =
      let working : is_settled (g.records p).phase
      ≡ false = not_true (is_settled (g.records p).phase) (and_parts (not (is_settled (g.records p).phase)) _ is).0 in
      ap (came_to_rest p (g.records p)) (put_here g.records p (ended_record on p))
      ∙ ap (λ b. if not b && true then entry.Settled p (g.records p).epoch (g.records p).last (on.gathered p) ∷ []
      else []) working
  rested false is = by (is_settled (g.records p).phase)
    where
      by : (b : Bool)
          → (if not b && b then entry.Settled p (g.records p).epoch (g.records p).last (g.records p).outcome ∷ []
          else []) ≡ []
      by true = refl
      by false = refl

  pub parent_left : (change : Change) (z : Standing) → Plans h number g (parent_told h number g p d r) change
      → z ≡ (changed h g change).records p
      → learned (Domain p) d (g.links (Domain p) d) (told_link (g.links (Domain p) d) (Domain p) r)
      ++ came_to_rest p (g.records p) z ≡ (parent_told h number g p d r).entries
  parent_left change z plans is =
      ap (λ (s : Standing). learned (Domain p) d (g.links (Domain p) d)
      (told_link (g.links (Domain p) d) (Domain p) r) ++ came_to_rest p (g.records p) s)
      (is ∙ ap (λ (a : Grants). a.records p) (sym plans.grants))
      ∙ ap (λ (es : List Entry). learned (Domain p) d (g.links (Domain p) d)
      (told_link (g.links (Domain p) d) (Domain p) r) ++ es) (rested (ends h on p) refl)
      ∙ ap (λ (l : Link). learned (Domain p) d (g.links (Domain p) d) l ++ ended_entries (ends h on p) on p)
      (sym (put_link_here g.links (Domain p) d (told_link (g.links (Domain p) d) (Domain p) r)))
