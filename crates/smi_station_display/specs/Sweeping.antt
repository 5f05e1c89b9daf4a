-- A sweep over what is due, one datagram after the other.
use Rattle.std.specs.Prelude.{ℕ, ◌≤◌, ◌-◌, ◌==◌, ◌&&◌, not, if◌then◌else◌, Bool, List, [], ◌∷◌, map}
use Rattle.smi_base.specs.declared.trees.TheConstants.{MOST_DOMAINS, MOST_OBJECTS, MOST_OPERATORS}
use Rattle.smi_grant.specs.declared.Holder.TheVariants.{Operator, Domain}
use Rattle.smi_grant.specs.Record.{last_number}
use Rattle.smi_tree.specs.Hierarchy.{Hierarchy}
use Rattle.smi_command.specs.declared.Link.{Link}
use Rattle.smi_station_output.specs.Out.{sent_after}
use Rattle.smi_protocol.specs.Messages.{all_due, requests}
use Rattle.smi_protocol.specs.Step.{Out}
use Rattle.smi_protocol.specs.Ticking.{Owed, first_place, is_before, next_place, number_of_due, owed}
use Rattle.smi_protocol.specs.declared.ResendCursor.{ResendCursor}
use Rattle.smi_protocol.specs.declared.ResendCursor.TheVariants as place

-- its beginning, what it sent last, and how many more it may send
pub record Resend : Type 0 where
  pub from : ResendCursor
  pub last : ResendCursor
  pub room : ℕ

-- a sweep, and what is handed out meanwhile
pub record Sweeping : Type 0 where
  pub sweep : Resend
  pub out : Out

abbrev pub sweeping : Resend → Out → Sweeping
sweeping w out = record { sweep = w; out = out }

-- the kinds of places, in their order
abbrev pub kind_of : ResendCursor → ℕ
kind_of (place.Child x) = 0
kind_of (place.Link o d n) = 1
kind_of (place.Ask o) = 2
kind_of (place.Watch x) = 3

-- it is not before the place where the sweep begins, and there is room
abbrev pub is_sent : Resend → ResendCursor → Bool
is_sent w p = not (w.room == 0) && not (is_before p w.from)

-- one datagram is due
abbrev pub offered_one : Sweeping → Owed → Sweeping
offered_one s x =
    if is_sent s.sweep x.place
    then record {
      sweep = record { from = s.sweep.from; last = x.place; room = s.sweep.room - 1 };
      out = record s.out { datagrams = sent_after s.out.datagrams (x.message ∷ []) };
    }
    else s

-- and one after the other
abbrev pub offered : Sweeping → List Owed → Sweeping
offered s [] = s
offered s (x ∷ more) = offered (offered_one s x) more

-- a place with numbers as a tree can have them
abbrev pub IsPlace : ResendCursor → Type 0
IsPlace (place.Child x) = x ≤ MOST_DOMAINS
IsPlace (place.Link o d n) = n ≤ last_number
IsPlace (place.Ask o) = o ≤ MOST_OPERATORS
IsPlace (place.Watch x) = x ≤ MOST_OBJECTS

-- where the next sweep begins
abbrev pub place_after : Hierarchy → Resend → ResendCursor
place_after h w = if w.room == 0 then next_place h w.last else first_place

-- what a parent's link to a child is due
abbrev pub child_owed : Hierarchy → ℕ → ℕ → ℕ → Link → List Owed
child_owed h number p x l = map (λ due. owed (place.Child x) (requests h number (Domain p) x due)) (all_due l)

-- what an operator's link to a domain is due
abbrev pub domain_owed : Hierarchy → ℕ → ℕ → ℕ → Link → List Owed
domain_owed h number o d l =
    map (λ due. owed (place.Link o d (number_of_due due)) (requests h number (Operator o) d due)) (all_due l)
