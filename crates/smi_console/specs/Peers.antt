-- Where stations are reached.
use Rattle.std.specs.Prelude.{Option, Some, None}
use Rattle.std.specs.declared.net.socket_addr.SocketAddr.{SocketAddr}
use Rattle.std.specs.declared.net.socket_addr.SocketAddr.TheVariants.{V4, V6}
use Rattle.std.specs.Net.Addr.{ipv4_octets}
use Rattle.std.specs.Net.Socket.{v4_ip, v4_port}
use Rattle.smi_tree.specs.declared.number.Address.{Address}

-- what a tree says of a station at a socket's address: its four parts in their order, and its port
abbrev pub address_in : SocketAddr → Option Address
address_in (V4 a) = Some (record { host = ipv4_octets (v4_ip a); port = v4_port a })
address_in (V6 a) = None
