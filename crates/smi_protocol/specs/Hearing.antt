-- What a station does with a record that it is told.
use Rattle.std.specs.Prelude.{ℕ, ◌==◌, ◌&&◌, nat_lt, max, not, Bool, true, false, if◌then◌else◌, List, [], ◌∷◌, ◌++◌}
use Rattle.std.specs.Prelude.{map, find, Option, Some, None}
use Rattle.smi_grant.specs.declared.Command.{Command}
use Rattle.smi_grant.specs.declared.Holder.{Holder}
use Rattle.smi_grant.specs.declared.Holder.TheVariants.{Operator, Domain}
use Rattle.smi_grant.specs.Keeper.{settled}
use Rattle.smi_grant.specs.Record.{Standing, is_settled}
use Rattle.smi_tree.specs.Hierarchy.{Hierarchy}
use Rattle.smi_tree.specs.Lookups.{operators_of, parent_of}
use Rattle.smi_command.specs.declared.Link.{Link}
use Rattle.smi_command.specs.declared.Link.TheVariants.{Out, Taking, Held, Dropping}
use Rattle.smi_command.specs.declared.LinkHeard.{LinkHeard}
use Rattle.smi_command.specs.declared.LinkHeard.TheVariants as heard
use Rattle.smi_command.specs.declared.Settlement.{Settlement}
use Rattle.smi_command.specs.Hearing.{told_link, told_heard}
use Rattle.smi_message.specs.Message.{Message}
use Rattle.smi_protocol.specs.Grants.{Grants, with_gathered, with_link, with_record}
use Rattle.smi_protocol.specs.Messages.{requests_due, tells_holder}
use Rattle.smi_protocol.specs.Happening.{answer, answer_command}
use Rattle.smi_tree.specs.Roles.{is_keeper}
use Rattle.smi_protocol.specs.GrantStep.{GrantStep, OfDomain, OfOperator, unchanged, waits_for_children}
use Rattle.smi_protocol.specs.declared.order.Answer.{Answer}
use Rattle.smi_protocol.specs.declared.order.Order.TheVariants as order
use Rattle.smi_protocol.specs.declared.entry.Entry.{Entry}
use Rattle.smi_protocol.specs.declared.entry.Entry.TheVariants as entry

-- the parent, if it is kept here
abbrev pub parent_here : Hierarchy → ℕ → Option ℕ → List Holder
parent_here h number None = []
parent_here h number (Some p) = if is_keeper h number p then Domain p ∷ [] else []

-- the holders that may have a link to the domain here: the operators by number, and then the domain's parent
abbrev pub listeners : Hierarchy → ℕ → ℕ → List Holder
listeners h number d = map Operator (operators_of h number) ++ parent_here h number (parent_of h d)

-- the record changes the link
abbrev pub is_heard : LinkHeard → Bool
is_heard heard.Unchanged = false
is_heard heard.Renewed = true
is_heard (heard.Settled xs) = true

-- the record shows more commands of the link's grant than the link has issued
abbrev pub is_ahead : Link → Standing → Bool
is_ahead (Held e n p) r = r.epoch == e && nat_lt n r.last
is_ahead _ r = false

-- A record that is ahead of a parent's link is lost on it: no keeper that is asked by this link alone has it,
-- and the parent could not tell how the commands before the last have ended. An operator is told that much.
abbrev pub hears : Link → Holder → Standing → Bool
hears l (Domain p) r = is_heard (told_heard l (Domain p) r) && not (is_ahead l r)
hears l who r = is_heard (told_heard l who r)

-- the first of them whose link the record changes
abbrev pub listener : Hierarchy → ℕ → Grants → ℕ → Standing → Option Holder
listener h number g d r = find (λ who. hears (g.links who d) who r) (listeners h number d)

-- a take is granted
abbrev pub learned : Holder → ℕ → Link → Link → List Entry
learned who d (Taking s) (Held e n p) = entry.Learned who d e ∷ []
learned who d _ _ = []

-- An operator's link.

-- each command that has settled is answered with its code
abbrev pub commands_answered : ℕ → ℕ → ℕ → List Command → List Settlement → List Answer
commands_answered o d e (c ∷ p) (s ∷ more) = answer_command o d e s.number c s.code ∷ commands_answered o d e p more
commands_answered o d e _ _ = []

-- the order is read off the link: a take, a drop, or the commands that were pending
abbrev pub answers_of : ℕ → ℕ → Link → List Settlement → List Answer
answers_of o d (Taking s) xs = map (λ x. answer o (order.Take d) x.code) xs
answers_of o d (Dropping e) xs = map (λ x. answer o (order.Drop d) x.code) xs
answers_of o d (Held e n p) xs = commands_answered o d e p xs
answers_of o d (Out k) xs = []

-- what has settled
abbrev pub settlements_in : LinkHeard → List Settlement
settlements_in heard.Unchanged = []
settlements_in heard.Renewed = []
settlements_in (heard.Settled xs) = xs

-- the link changes and its row is saved; what it is due now is sent, and what has settled is answered
abbrev pub operator_told : Hierarchy → ℕ → Grants → ℕ → ℕ → Standing → GrantStep
operator_told h number g o d r =
    let old = g.links (Operator o) d in
    let new = told_link old (Operator o) r in
    record {
      grants = with_link g (Operator o) d new;
      row = Some (OfOperator o);
      entries = learned (Operator o) d old new;
      sends = requests_due h number (Operator o) d new;
      answers = answers_of o d old (settlements_in (told_heard old (Operator o) r));
      issued = None;
    }

-- A parent's link.

-- the largest code so far
abbrev pub gathered_with : ℕ → List Settlement → ℕ
gathered_with code [] = code
gathered_with code (s ∷ more) = gathered_with (max code s.code) more

-- the parent has heard: its link changes, and it gathers the codes
abbrev pub parent_heard : Grants → ℕ → ℕ → Standing → Grants
parent_heard g p d r =
    with_gathered
    (with_link g (Domain p) d (told_link (g.links (Domain p) d) (Domain p) r))
    p
    (gathered_with (g.gathered p) (settlements_in (told_heard (g.links (Domain p) d) (Domain p) r)))

-- a busy domain ends when none of its children has to answer any more
abbrev pub ends : Hierarchy → Grants → ℕ → Bool
ends h g p = not (is_settled (g.records p).phase) && not (waits_for_children h g p)

-- the record of a domain whose command has ended with the gathered code
abbrev pub ended_record : Grants → ℕ → Standing
ended_record g p = settled (g.records p) (g.gathered p)

-- the command has ended, or goes on
abbrev pub ended : Bool → Grants → ℕ → Grants
ended true g p = with_gathered (with_record g p (ended_record g p)) p 0
ended false g p = g

-- what the end of a command leaves in the trace
abbrev pub ended_entries : Bool → Grants → ℕ → List Entry
ended_entries true g p = entry.Settled p (g.records p).epoch (g.records p).last (g.gathered p) ∷ []
ended_entries false g p = []

-- the end of a command is told to the holder
abbrev pub ended_sends : Hierarchy → ℕ → Bool → Grants → ℕ → List Message
ended_sends h number true g p = tells_holder h number p (ended_record g p) ∷ []
ended_sends h number false g p = []

-- the link changes; where nothing is waited for any more the command ends; what the link is due now is sent
abbrev pub parent_told : Hierarchy → ℕ → Grants → ℕ → ℕ → Standing → GrantStep
parent_told h number g p d r =
    let on = parent_heard g p d r in
    let new = on.links (Domain p) d in
    record {
      grants = ended (ends h on p) on p;
      row = Some (OfDomain p);
      entries = learned (Domain p) d (g.links (Domain p) d) new ++ ended_entries (ends h on p) on p;
      sends = ended_sends h number (ends h on p) on p ++ requests_due h number (Domain p) d new;
      answers = [];
      issued = None;
    }

-- The holder whose link it changes.

-- the record is told to the one whom it changes, if there is one
abbrev pub told_to : Hierarchy → ℕ → Grants → ℕ → Standing → Option Holder → GrantStep
told_to h number g d r (Some (Operator o)) = operator_told h number g o d r
told_to h number g d r (Some (Domain p)) = parent_told h number g p d r
told_to h number g d r _ = unchanged g []

-- a told record comes
abbrev pub tell_comes : Hierarchy → ℕ → Grants → ℕ → Standing → GrantStep
tell_comes h number g d r = told_to h number g d r (listener h number g d r)
