-- How a picture reads.
use Rattle.std.specs.Prelude.{ℕ, ◌+◌, ◌++◌, List, Option, Some, None, codes}
use Rattle.std.specs.Fmt.{decimal}
use Rattle.smi_grant.specs.declared.Holder.{Holder}
use Rattle.smi_grant.specs.declared.Holder.TheVariants as holder
use Rattle.smi_grant.specs.declared.Phase.{Phase}
use Rattle.smi_grant.specs.declared.Phase.TheVariants as phase
use Rattle.smi_grant.specs.Record as grants
use Rattle.smi_tree.specs.Hierarchy.{Hierarchy}
use Rattle.smi_tree.specs.Lookups.{domain_count, device_count}
use Rattle.smi_schedule.specs.TraceWords.{device_word, domain_word, operator_word, state_word}
use Rattle.smi_view.specs.Pictured.{Pictured, domain_of, object_of}
use Rattle.smi_view.specs.declared.Hearing.{Hearing}
use Rattle.smi_view.specs.declared.Sight.{Sight}
use Rattle.smi_web.specs.Json.{listed, quoted}

-- the state that was shown, its version, and when; null if none was
abbrev pub sight_text : Hierarchy → Option Sight → List ℕ
sight_text h None = codes "null"
sight_text h (Some seen) =
    codes "{\"state\":" ++ quoted (state_word h seen.shown.state)
    ++ codes ",\"boot\":" ++ decimal seen.shown.version.boot
    ++ codes ",\"sequence\":" ++ decimal seen.shown.version.sequence
    ++ codes ",\"at\":" ++ decimal seen.at ++ codes "}"

-- who holds a domain: an operator, the domain above, or nobody
abbrev pub holder_text : Hierarchy → Holder → List ℕ
holder_text h holder.Free = codes "null"
holder_text h (holder.Operator o) = codes "{\"operator\":" ++ quoted (operator_word h o) ++ codes "}"
holder_text h (holder.Domain d) = codes "{\"domain\":" ++ quoted (domain_word h d) ++ codes "}"

-- whether it is at work
abbrev pub busy_text : Phase → List ℕ
busy_text phase.Settled = codes "false"
busy_text phase.Busy = codes "true"

-- who holds it and since when
abbrev pub grant_text : Hierarchy → grants.Standing → List ℕ
grant_text h r =
    codes "{\"holder\":" ++ holder_text h r.holder
    ++ codes ",\"epoch\":" ++ decimal r.epoch

-- its last command and whether that has ended
abbrev pub last_text : grants.Standing → List ℕ
last_text r =
    codes ",\"last\":" ++ decimal r.last
    ++ codes ",\"busy\":" ++ busy_text r.phase
    ++ codes ",\"outcome\":" ++ decimal r.outcome

-- the record that was told, when it was told first, and when the domain was last heard of; null if none was
abbrev pub hearing_text : Hierarchy → Option Hearing → List ℕ
hearing_text h None = codes "null"
hearing_text h (Some had) =
    grant_text h had.«record» ++ last_text had.«record»
    ++ codes ",\"since\":" ++ decimal had.since
    ++ codes ",\"heard\":" ++ decimal had.heard ++ codes "}"

-- a domain: the state of its unit, and its record
abbrev pub domain_text : Hierarchy → Pictured → ℕ → List ℕ
domain_text h p d =
    codes "{\"name\":" ++ quoted (domain_word h d)
    ++ codes ",\"shown\":" ++ sight_text h (object_of p d)
    ++ codes ",\"told\":" ++ hearing_text h (domain_of p d) ++ codes "}"

-- a device and its state; as an object it is numbered after all domains
abbrev pub device_text : Hierarchy → Pictured → ℕ → List ℕ
device_text h p d =
    codes "{\"name\":" ++ quoted (device_word h d)
    ++ codes ",\"shown\":" ++ sight_text h (object_of p (domain_count h + d)) ++ codes "}"

-- a picture, its number, and the time at which it was looked at
abbrev pub picture_text : Hierarchy → Pictured → ℕ → ℕ → List ℕ
picture_text h p number now =
    codes "{\"frame\":" ++ decimal number
    ++ codes ",\"now\":" ++ decimal now
    ++ codes ",\"domains\":[" ++ listed (codes ",") (domain_text h p) (domain_count h)
    ++ codes "],\"devices\":[" ++ listed (codes ",") (device_text h p) (device_count h) ++ codes "]}\n"
