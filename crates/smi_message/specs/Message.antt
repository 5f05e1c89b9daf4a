-- What a datagram says, and the ranges of its values.
use Rattle.std.specs.Prelude.{ℕ, ◌≡◌, ◌≤◌, ◌%◌, ◌&&◌, ◌==◌, nat_le, Bool, true, false}
use Rattle.smi_base.specs.Between.{is_between}
use Rattle.smi_base.specs.declared.trees.TheConstants.{MOST_DOMAINS, MOST_OBJECTS, MOST_STATES, MOST_STATIONS}
use Rattle.smi_base.specs.declared.numbers.TheConstants.{LAST_BOOT, LAST_SEQUENCE}
use Rattle.smi_grant.specs.declared.Holder.{Holder}
use Rattle.smi_grant.specs.declared.Version.{Version}
use Rattle.smi_grant.specs.Holder as holder
use Rattle.smi_grant.specs.Command as command
use Rattle.smi_grant.specs.Record.{Standing, is_record, is_outcome, last_epoch, last_number}
use Rattle.smi_message.specs.declared.datagram.Body.{Body}
use Rattle.smi_message.specs.declared.datagram.Body.TheVariants as body

-- a datagram: who sends it to whom, of which tree, and what it says
pub record Message : Type 0 where
  pub from : ℕ
  pub to : ℕ
  pub tree : ℕ
  pub body : Body

abbrev pub is_domain : ℕ → Bool
is_domain d = is_between 1 MOST_DOMAINS d

abbrev pub is_object : ℕ → Bool
is_object x = is_between 1 MOST_OBJECTS x

abbrev pub last_boot : ℕ
last_boot = LAST_BOOT

abbrev pub is_boot : ℕ → Bool
is_boot b = is_between 1 last_boot b

abbrev pub is_version : Version → Bool
is_version v = is_boot v.boot && nat_le v.sequence LAST_SEQUENCE

-- an operator or a domain that a tree can have
abbrev pub is_party : Holder → Bool
is_party h = holder.odd_of h == 1 && holder.is_in_range h

-- a domain is held at odd epochs
abbrev pub is_grant_epoch : ℕ → Bool
is_grant_epoch e = nat_le e last_epoch && e % 2 == 1

-- what each kind may say
abbrev pub is_body : Body → Bool
is_body (body.Ask d) = is_domain d
is_body (body.Take d h seen) = is_domain d && (is_party h && nat_le seen last_epoch)
is_body (body.Drop d h e) = is_domain d && (is_party h && is_grant_epoch e)
is_body (body.Run d h e n c) =
    is_domain d && (is_party h && (is_grant_epoch e && (is_between 1 last_number n && command.is_in_range c)))
is_body (body.Tell d r) = is_domain d && (holder.is_in_range r.holder && (is_outcome r.outcome && is_record r))
is_body (body.Watch x echo) = is_object x && is_boot echo
is_body (body.State x echo v s) = is_object x && (is_boot echo && (is_version v && is_between 1 MOST_STATES s))
is_body (body.Unwatch x echo) = is_object x && is_boot echo

pub record IsMessage (m : Message) : Type 0 where
  pub from : (1 ≤ m.from) × (m.from ≤ MOST_STATIONS)
  pub to : (1 ≤ m.to) × (m.to ≤ MOST_STATIONS)
  pub tree : (1 ≤ m.tree) × (m.tree ≤ 65535)
  pub body : is_body m.body ≡ true

-- stations are 1 to 128, trees 1 to 65,535
abbrev pub is_addressed : ℕ → ℕ → ℕ → Bool
is_addressed from to tree =
    is_between 1 MOST_STATIONS from && (is_between 1 MOST_STATIONS to && is_between 1 65535 tree)

-- the same as a test
abbrev pub is_message : Message → Bool
is_message m = is_addressed m.from m.to m.tree && is_body m.body

-- the record of a domain, told by one station to another
abbrev pub tell : ℕ → ℕ → ℕ → ℕ → Standing → Message
tell from to tree d r = record { from = from; to = to; tree = tree; body = body.Tell d r }
