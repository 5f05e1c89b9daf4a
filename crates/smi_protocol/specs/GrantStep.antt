-- What an event does to a station's grants.
use Rattle.std.specs.Prelude.{ℕ, Bool, List, [], Option, Some, None}
use Rattle.std.specs.List.{list_any}
use Rattle.smi_grant.specs.declared.Holder.TheVariants.{Domain}
use Rattle.smi_message.specs.Message.{Message}
use Rattle.smi_tree.specs.Hierarchy.{Hierarchy}
use Rattle.smi_tree.specs.Lookups.{children_of}
use Rattle.smi_command.specs.Link.{is_unsettled}
use Rattle.smi_protocol.specs.Grants.{Grants}
use Rattle.smi_protocol.specs.declared.order.Mark.{Mark}
use Rattle.smi_protocol.specs.declared.order.Answer.{Answer}
use Rattle.smi_protocol.specs.declared.entry.Entry.{Entry}

-- whose row has to be saved
pub data Touched : Type 0 where
  OfDomain : ℕ → Touched
  OfOperator : ℕ → Touched

-- the grants afterwards, the row that is saved, what the save leaves in the trace, and what is then sent and
-- told
pub record GrantStep : Type 0 where
  pub grants : Grants
  pub row : Option Touched
  pub entries : List Entry
  pub sends : List Message
  pub answers : List Answer
  pub issued : Option Mark

-- nothing changes
abbrev pub unchanged : Grants → List Message → GrantStep
unchanged g sends = record { grants = g; row = None; entries = []; sends = sends; answers = []; issued = None }

-- the row of a domain changes
abbrev pub domain_changed : Grants → ℕ → List Entry → List Message → GrantStep
domain_changed g d entries sends = record {
  grants = g;
  row = Some (OfDomain d);
  entries = entries;
  sends = sends;
  answers = [];
  issued = None;
}

-- a link of the domain to a child waits for something
abbrev pub waits_for_children : Hierarchy → Grants → ℕ → Bool
waits_for_children h g d = list_any (λ x. is_unsettled (g.links (Domain d) x)) (children_of h d)
