-- What the keeper of a domain does when it is asked.
use Rattle.std.specs.Prelude.{ℕ, ◌+◌, Bool, true, false, if◌then◌else◌, List, [], ◌∷◌, ◌++◌}
use Rattle.std.specs.List.{flat_map}
use Rattle.smi_grant.specs.declared.Command.{Command}
use Rattle.smi_grant.specs.declared.Command.TheVariants.{Do, Include, Exclude, Manual, Ignore}
use Rattle.smi_grant.specs.declared.Holder.{Holder}
use Rattle.smi_grant.specs.declared.Holder.TheVariants.{Domain}
use Rattle.smi_grant.specs.declared.Verdict.{Verdict}
use Rattle.smi_grant.specs.declared.Verdict.TheVariants.{New, Same}
use Rattle.smi_grant.specs.Keeper.{take_after, drop_after, admits, started}
use Rattle.smi_message.specs.Message.{Message}
use Rattle.smi_tree.specs.Hierarchy.{Hierarchy}
use Rattle.smi_tree.specs.Lookups.{children_of}
use Rattle.smi_command.specs.declared.Link.TheVariants.{Dropping}
use Rattle.smi_tree.specs.Roles.{is_parent}
use Rattle.smi_protocol.specs.Grants.{Grants, put, with_record}
use Rattle.smi_protocol.specs.Messages.{tells, requests_due}
use Rattle.smi_protocol.specs.Children.{ChildChange, Relinked, ComesInto, change_of, links_after, modes_after}
use Rattle.smi_protocol.specs.Children.{own_code}
use Rattle.smi_protocol.specs.GrantStep.{GrantStep, unchanged, domain_changed, waits_for_children}
use Rattle.smi_protocol.specs.declared.entry.Entry.{Entry}
use Rattle.smi_protocol.specs.declared.entry.Entry.TheVariants as entry

-- the sender is told the domain's record
abbrev pub answered : Hierarchy → ℕ → Grants → ℕ → ℕ → GrantStep
answered h number g from d = unchanged g (tells h number from d (g.records d) ∷ [])

-- the record changes hands if the keeper's verdict is a new one
abbrev pub decided : Hierarchy → ℕ → Grants → ℕ → ℕ → Entry → Verdict → GrantStep
decided h number g from d note (New r) = domain_changed (with_record g d r) d (note ∷ []) (tells h number from d r ∷ [])
decided h number g from d note Same = answered h number g from d

-- a take comes
abbrev pub take_comes : Hierarchy → ℕ → Grants → ℕ → ℕ → Holder → ℕ → GrantStep
take_comes h number g from d who seen =
    decided h number g from d (entry.Granted d ((g.records d).epoch + 1) who) (take_after (g.records d) who seen)

-- a drop comes
abbrev pub drop_comes : Hierarchy → ℕ → Grants → ℕ → ℕ → Holder → ℕ → GrantStep
drop_comes h number g from d who e =
    decided h number g from d (entry.Freed d ((g.records d).epoch + 1)) (drop_after (g.records d) who e)

-- A command runs.

-- the links and modes of the children after the command
abbrev pub commanded : Hierarchy → Grants → ℕ → Command → Grants
commanded h g d c = record g { links = links_after h g d c; modes = modes_after h g d c }

-- the domain is busy while a child has to answer, and has then gathered its own code
abbrev pub begun : Grants → ℕ → Bool → ℕ → Grants
begun g d busy own = record g {
  records = put g.records d (started (g.records d) busy own);
  gathered = put g.gathered d (if busy then own else 0);
}

-- a child of which the domain lets go
abbrev pub let_go_of : ℕ → ℕ → ChildChange → List Entry
let_go_of d x (Relinked (Dropping e)) = entry.LetGo (Domain d) x e ∷ []
let_go_of d x _ = []

abbrev pub mode_changed : ℕ → ChildChange → List Entry
mode_changed x (ComesInto m) = entry.InMode x m ∷ []
mode_changed x _ = []

-- what a command leaves in the trace of the child that it is about: a grant given up, or a mode
abbrev pub entries_at : Hierarchy → Grants → ℕ → Command → ℕ → List Entry
entries_at h g d c t =
    if is_parent h t d then let_go_of d t (change_of h g d c t) ++ mode_changed t (change_of h g d c t) else []

abbrev pub child_entries : Hierarchy → Grants → ℕ → Command → List Entry
child_entries h g d (Do a) = []
child_entries h g d (Include t) = entries_at h g d (Include t) t
child_entries h g d (Exclude t) = entries_at h g d (Exclude t) t
child_entries h g d (Manual t) = entries_at h g d (Manual t) t
child_entries h g d (Ignore t) = entries_at h g d (Ignore t) t

-- what the links that changed are due
abbrev pub child_request : Hierarchy → ℕ → ℕ → ℕ → ChildChange → List Message
child_request h number d x (Relinked l) = requests_due h number (Domain d) x l
child_request h number d x _ = []

-- all that the changed links are due, by child
abbrev pub child_requests : Hierarchy → ℕ → Grants → ℕ → Command → List Message
child_requests h number g d c = flat_map (λ x. child_request h number d x (change_of h g d c x)) (children_of h d)

-- a command that is not busy has ended
abbrev pub settled_at_once : ℕ → ℕ → ℕ → Bool → ℕ → List Entry
settled_at_once d e n true own = []
settled_at_once d e n false own = entry.Settled d e n own ∷ []

-- a command has run: busy or ended, with this code
abbrev pub ran : Hierarchy → ℕ → Grants → ℕ → ℕ → ℕ → ℕ → Command → Bool → ℕ → GrantStep
ran h number g from d e n c busy own =
    domain_changed
    (begun (commanded h g d c) d busy own)
    d
    (entry.Ran d e n c ∷ child_entries h g d c ++ settled_at_once d e n busy own)
    (tells h number from d (started (g.records d) busy own) ∷ child_requests h number g d c)

-- a command comes, and runs if the record admits it
abbrev pub run_comes : Hierarchy → ℕ → Grants → ℕ → ℕ → Holder → ℕ → ℕ → Command → GrantStep
run_comes h number g from d who e n c =
    if admits (g.records d) who e n
    then ran h number g from d e n c (waits_for_children h (commanded h g d c) d) (own_code h g d c)
    else answered h number g from d
