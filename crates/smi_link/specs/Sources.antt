-- The sources that a datagram must have to be received.
use Rattle.std.specs.Prelude.{ℕ, ◌≡◌, nat_lt, if◌then◌else◌, List, length, Option, Some, None}
use Rattle.std.specs.Net.Socket.{socket_ip}
use Rattle.std.specs.declared.net.socket_addr.SocketAddr.{SocketAddr}
use Rattle.smi_base.specs.Bytes.{u16_at}
use Rattle.smi_link.specs.declared.sources.Sources.{Sources}
use Rattle.smi_link.specs.declared.sources.Sources.TheVariants as sources

-- the station that it names as its sender, if it is long enough to name one
abbrev pub sender_of : List ℕ → Option ℕ
sender_of bytes = if nat_lt (length bytes) 6 then None else Some (u16_at bytes 4)

-- it may come from there, if its sender has this address: from anywhere, from the host of its sender, or from the very
-- address; one without a sender that has an address comes from no host
abbrev pub IsSource : Sources → Option SocketAddr → SocketAddr → Type 0
IsSource sources.Any address from = Unit {0}
IsSource sources.Host (Some address) from = socket_ip address ≡ socket_ip from
IsSource sources.Exact (Some address) from = address ≡ from
IsSource sources.Host None from = ⊥
IsSource sources.Exact None from = ⊥
