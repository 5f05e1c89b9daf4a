-- What a station keeps of grants so that all that it is due can be said in datagrams, and its rows read back.
use Rattle.std.specs.Prelude.{ℕ, ◌≡◌, ◌≤◌, ◌%◌, ◌&&◌, ◌⊎◌, nat_le, Bool, true, false, List, [], ◌∷◌, length}
use Rattle.std.specs.List.{AllByRecursion}
use Rattle.smi_grant.specs.declared.Command.{Command}
use Rattle.smi_grant.specs.declared.Holder.TheVariants.{Operator, Domain}
use Rattle.smi_grant.specs.Command.{is_in_range}
use Rattle.smi_grant.specs.Record.{is_outcome, is_settled, last_epoch, last_number}
use Rattle.smi_tree.specs.Hierarchy.{Hierarchy}
use Rattle.smi_command.specs.declared.Due.{Due}
use Rattle.smi_command.specs.declared.Due.TheVariants.{Take, Drop, Run}
use Rattle.smi_command.specs.declared.Link.{Link}
use Rattle.smi_command.specs.declared.Link.TheVariants.{Out, Taking, Held, Dropping}
use Rattle.smi_command.specs.Pending.{most_pending}
use Rattle.smi_tree.specs.Roles.{is_command_of, is_holder_of, is_parent}
use Rattle.smi_command.specs.Link.{is_held}
use Rattle.smi_rows.specs.Ranges.{is_standing}
use Rattle.smi_rows.specs.declared.Mode.TheVariants.{Included}
use Rattle.smi_protocol.specs.Grants.{Grants}
use Rattle.smi_protocol.specs.GrantStep.{waits_for_children}
use Rattle.smi_message.specs.Message.{Message, is_body, is_grant_epoch, is_message}
use Rattle.smi_base.specs.Between.{is_between}
use Rattle.smi_protocol.specs.Happening.{Happening, Comes, Orders, Reports, Ticks}
use Rattle.smi_protocol.specs.Refusals.{links_in_use, most_links}

-- a command that a datagram can name and the tree has
pub record IsCommand (h : Hierarchy) (c : Command) : Type 0 where
  pub range : is_in_range c ≡ true
  pub known : is_command_of h c ≡ true

-- an epoch at which a domain is held
abbrev pub IsGrantEpoch : ℕ → Type 0
IsGrantEpoch e = (e ≤ last_epoch) × (e % 2 ≡ 1)

-- no more commands are pending than may be, and they have numbers, from the newest down
pub record ArePending (h : Hierarchy) (most n : ℕ) (p : List Command) : Type 0 where
  pub few : length p ≤ most
  pub numbered : length p ≤ n
  pub newest : n ≤ last_number
  pub each : AllByRecursion (IsCommand h) p

-- a link with no more pending commands than may be
abbrev pub IsLink : Hierarchy → ℕ → Link → Type 0
IsLink h most (Out k) = k ≤ last_epoch
IsLink h most (Taking s) = s ≤ last_epoch
IsLink h most (Held e n p) = IsGrantEpoch e × ArePending h most n p
IsLink h most (Dropping e) = IsGrantEpoch e

-- what is due can be said in a datagram
abbrev pub is_due : Due → Bool
is_due (Take s) = nat_le s last_epoch
is_due (Drop e) = is_grant_epoch e
is_due (Run e n c) = is_grant_epoch e && (is_between 1 last_number n && is_in_range c)

-- a domain's link to a child has at most one command pending
abbrev pub most_handed_on : ℕ
most_handed_on = 1

-- nothing was gathered, and no child has to answer
pub record IsAtRest (h : Hierarchy) (g : Grants) (d : ℕ) : Type 0 where
  pub gathered : g.gathered d ≡ 0
  pub still : waits_for_children h g d ≡ false

-- Records are those that a datagram can tell, of holders that the tree has; links are as above; a domain waits
-- for children exactly while it is busy; a child has a mode of its own only while it is held; and an operator
-- has at most sixteen links that are not out.
pub record IsSound (h : Hierarchy) (g : Grants) : Type 0 where
  pub standing : (d : ℕ) → is_standing (g.records d) ≡ true
  pub holder : (d : ℕ) → is_holder_of h d (g.records d).holder ≡ true
  pub gathered : (d : ℕ) → is_outcome (g.gathered d) ≡ true
  pub at_rest : (d : ℕ) → is_settled (g.records d).phase ≡ true → IsAtRest h g d
  pub at_work : (d : ℕ) → is_settled (g.records d).phase ≡ false → waits_for_children h g d ≡ true
  pub own : (o d : ℕ) → IsLink h most_pending (g.links (Operator o) d)
  pub child : (p d : ℕ) → IsLink h most_handed_on (g.links (Domain p) d)
  pub mode : (p d : ℕ) → is_parent h d p ≡ true → is_held (g.links (Domain p) d) ≡ false → g.modes d ≡ Included
  pub few : (o : ℕ) → links_in_use h g o ≤ most_links

-- what comes can be said in a datagram, if it is one
abbrev pub IsSayable : Happening → Type 0
IsSayable (Comes m) = is_body m.body ≡ true
IsSayable (Orders o what) = Unit {0}
IsSayable (Reports device s) = Unit {0}
IsSayable Ticks = Unit {0}

-- it is in the list
abbrev pub In : {X : Type 0} → X → List X → Type 0
In y [] = ⊥
In y (x ∷ xs) = (y ≡ x) ⊎ In y xs

-- each of these datagrams can be encoded
abbrev pub AllInRange : List Message → Type 0
AllInRange ms = (m : Message) → In m ms → is_message m ≡ true
