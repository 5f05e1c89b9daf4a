-- A link over a socket: where each station is reached, where its datagrams went, what waits for itself, and its counts.
use Rattle.std.specs.Prelude.{ℕ, ◌≡◌, ◌⊎◌, ◌≤◌, ◌+◌, ◌-◌, ◌==◌, if◌then◌else◌, List, ◌∷◌, take, length, slice_get}
use Rattle.std.specs.Prelude.{Option, Some, None, option_and_then}
use Rattle.std.specs.declared.net.socket_addr.SocketAddr.{SocketAddr}
use Rattle.smi_link.specs.Link.{one_more}
use Rattle.smi_link.specs.Own.{Own, with_own}
use Rattle.smi_link.specs.Sources.{sender_of}
use Rattle.smi_link.specs.declared.link.Reception.{Reception}
use Rattle.smi_link.specs.declared.link.Reception.TheVariants as is
use Rattle.smi_link.specs.declared.sources.Sources.{Sources}

-- how often a socket was asked to send, and to which address at last
pub record Went : Type 0 where
  pub sends : ℕ
  pub last : Option SocketAddr

abbrev pub unsent : Went
unsent = record { sends = 0; last = None }

-- it is asked once more, to this address; without an address it is not asked
abbrev pub went_to : Option SocketAddr → Went → Went
went_to None w = w
went_to (Some address) w = record { sends = w.sends + 1; last = Some address }

-- what contracts see of it; of the socket itself they see where datagrams went, and nothing else
pub record Peered : Type 0 where
  pub peers : List SocketAddr
  pub sources : Sources
  pub went : Went
  pub own : Own
  pub foreign : ℕ
  pub failures : ℕ
  pub receives : ℕ

-- a station that has an address, the first station's standing first
pub record HasAddress (peers : List SocketAddr) (station : ℕ) : Type 0 where
  pub least : 1 ≤ station
  pub most : station ≤ length peers

abbrev pub address_of : List SocketAddr → ℕ → Option SocketAddr
address_of peers station = if station == 0 then None else slice_get peers (station - 1)

-- the address of the station that a datagram names as its sender
abbrev pub sender_address : List SocketAddr → List ℕ → Option SocketAddr
sender_address peers datagram = option_and_then (address_of peers) (sender_of datagram)

-- how many datagrams were foreign after this one, which is: one without bytes is not counted
abbrev pub foreign_after : List ℕ → ℕ → ℕ
foreign_after datagram foreign = if length datagram == 0 then foreign else one_more foreign

-- a datagram to itself goes to no address
abbrev pub outward_address : Own → List SocketAddr → ℕ → Option SocketAddr
outward_address own peers station = if station == own.station then None else address_of peers station

-- what waits for itself once it has sent a datagram to this station
abbrev pub own_after_send : Own → ℕ → List ℕ → Own
own_after_send own station datagram = if station == own.station then with_own own datagram else own

-- the oldest of those that wait for itself is given whole
abbrev pub Gave : List (List ℕ) → List (List ℕ) → List ℕ → Reception → Type 0
Gave old new buffer r = (r ≡ is.Received 44) × (old ≡ take 44 buffer ∷ new)

-- a receive leaves all that waits for itself, or gives the oldest
abbrev pub GivesOwn : List (List ℕ) → List (List ℕ) → List ℕ → Reception → Type 0
GivesOwn old new buffer r = (new ≡ old) ⊎ Gave old new buffer r
