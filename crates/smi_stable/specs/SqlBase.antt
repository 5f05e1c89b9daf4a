-- What a store over SQL saves through: a connection, or what is left of one.
use Rattle.std.specs.Prelude.{Bool, true, false}
use Rattle.sqlite.specs.Held.{Held, state}
use Rattle.sqlite_trees.specs.declared.store.Store.{Ghosts}
use Rattle.smi_stable.specs.declared.sqlite_stable.Base.{Base}
use Rattle.smi_stable.specs.declared.sqlite_stable.Base.TheVariants.{Open, Shut}
use Rattle.smi_stable.specs.SqlReady.{IsReady}

-- the connection as it is, or as it was over the database that is left
abbrev pub held_in : {S : Type 0} → Base S → Held S
held_in (Open conn) = conn
held_in (Shut left conn) = record conn.value { store = left }

abbrev pub is_shut_in : {S : Type 0} → Base S → Bool
is_shut_in (Open conn) = false
is_shut_in (Shut left conn) = true

-- a connection is ready
abbrev pub IsReadyBase : {S : Type 0} → Ghosts S → Base S → Type 0
IsReadyBase g (Open conn) = IsReady (state g conn)
IsReadyBase g (Shut left conn) = Unit {0}
