-- A link in memory: what it is to give, what it gave, and what was sent.
use Rattle.std.specs.Prelude.{ℕ, ◌≡◌, ◌+◌, ◌-◌, ◌==◌, ◌++◌, ◌∷◌, [], List, take, map, length, slice_get, Option, Some}
use Rattle.std.specs.Prelude.{None, option_and_then, if◌then◌else◌, Bool, false, Result, MatchResult}
use Rattle.std.specs.Option.{option_map_or}
use Rattle.smi_link.specs.declared.link.Reception.{Reception}
use Rattle.smi_link.specs.declared.link.Reception.TheVariants as is
use Rattle.std.specs.List.{filter_map}
use Rattle.smi_link.specs.declared.frame.Sent.{Sent}
use Rattle.smi_link.specs.declared.frame.ToReceive.{ToReceive}
use Rattle.smi_link.specs.declared.frame.ToReceive.TheVariants.{Datagram, Nothing, Fault}
use Rattle.smi_link.specs.Link.{most_bytes}

-- what a link in memory holds: before `place` is what it gave
pub record Memory : Type 0 where
  pub station : ℕ
  pub coming : List ToReceive
  pub place : ℕ
  pub sent : List Sent
  pub fails_after : Option ℕ
  pub failures : ℕ
  pub receives : ℕ
  pub refusals : ℕ

abbrev pub datagram_of : ToReceive → Option (List ℕ)
datagram_of (Datagram bytes) = Some bytes
datagram_of Nothing = None
datagram_of Fault = None

-- what it gave as received
abbrev pub received_of : Memory → List (List ℕ)
received_of m = filter_map datagram_of (take m.place m.coming)

-- what it took to be sent
abbrev pub handed_of : Memory → List (ℕ × List ℕ)
handed_of m = map (λ s. (s.station, s.bytes)) m.sent

-- nothing has come and nothing was sent
abbrev pub opened : ℕ → Memory
opened station = record {
  station = station;
  coming = [];
  place = 0;
  sent = [];
  fails_after = None;
  failures = 0;
  receives = 0;
  refusals = 0;
}

abbrev pub with_coming : Memory → ToReceive → Memory
with_coming m c = record m { coming = m.coming ++ c ∷ [] }

-- one more datagram, as it is received; one more time of nothing, one more fault is to come
abbrev pub with_datagram : Memory → List ℕ → Memory
with_datagram m datagram = with_coming m (Datagram (take most_bytes datagram))

abbrev pub with_nothing : Memory → Memory
with_nothing m = with_coming m Nothing

abbrev pub with_fault : Memory → Memory
with_fault m = with_coming m Fault

-- the send after this many fails
abbrev pub failing_after : Memory → ℕ → Memory
failing_after m sends = record m { fails_after = Some sends }

-- a datagram is sent: one to the own station comes
abbrev pub with_sent : Memory → ℕ → List ℕ → Memory
with_sent m station datagram =
    record (if station == m.station then with_datagram m datagram
    else m) { sent = m.sent ++ record { station = station; bytes = datagram } ∷ [] }

-- the link has failed once more
abbrev pub failed : Memory → Memory
failed m = record m { failures = m.failures + 1 }

-- memory was refused once more to one of its lists, and that is all
abbrev pub refused : Memory → Memory
refused m = record m { refusals = m.refusals + 1 }

abbrev pub moved_on : Memory → Memory
moved_on m = record m { place = m.place + 1 }

-- it was asked once more for what has come
abbrev pub asked : Memory → Memory
asked m = record m { receives = m.receives + 1 }

-- what comes next is given once, and at the end there is nothing
abbrev pub GivesNext : Option ToReceive → Memory → Memory → List ℕ → Reception → Type 0
GivesNext None old new buffer r = (r ≡ is.Nothing) × (new ≡ old)
GivesNext (Some (Datagram bytes)) old new buffer r =
    (r ≡ is.Received (length bytes)) × (take (length bytes) buffer ≡ bytes) × (new ≡ moved_on old)
GivesNext (Some Nothing) old new buffer r = (r ≡ is.Nothing) × (new ≡ moved_on old)
GivesNext (Some Fault) old new buffer r = (r ≡ is.Fault) × (new ≡ failed (moved_on old))

abbrev pub Gives : Memory → Memory → List ℕ → Reception → Type 0
Gives old new buffer r = GivesNext (slice_get old.coming old.place) (asked old) new buffer r

-- the next send is to fail
abbrev pub is_planned : Memory → Bool
is_planned m = option_map_or (λ more. more == 0) m.fails_after false

-- one send fewer until the planned one
abbrev pub one_send_on : Memory → Memory
one_send_on m =
    record m { fails_after = option_and_then (λ more. if more == 0 then None else Some (more - 1)) m.fails_after }

-- the planned send fails, and any other one if memory was refused
abbrev pub fails : Memory → Memory
fails m = failed (one_send_on (if is_planned m then m else refused m))

-- a send is kept, or the link has failed
abbrev pub Takes : {E : Type 0} → Memory → Memory → ℕ → List ℕ → Result (Unit {0}) E → Type 0
Takes old new station datagram r =
    MatchResult r (λ _. new ≡ with_sent (one_send_on old) station datagram) (λ _. new ≡ fails old)
