-- How what has changed in a picture reads.
use Rattle.std.specs.Prelude.{ℕ, ◌+◌, ◌-◌, ◌++◌, ◌||◌, nat_le, Bool, false, List, Option, Some, None, codes}
use Rattle.std.specs.Prelude.{if◌then◌else◌}
use Rattle.std.specs.Fmt.{decimal}
use Rattle.smi_tree.specs.Hierarchy.{Hierarchy}
use Rattle.smi_tree.specs.Lookups.{domain_count, device_count}
use Rattle.smi_view.specs.Pictured.{Pictured, domain_of, object_of}
use Rattle.smi_view.specs.declared.Hearing.{Hearing}
use Rattle.smi_view.specs.declared.Sight.{Sight}
use Rattle.smi_web.specs.Json.{listed}
use Rattle.smi_web.specs.PictureJson.{device_text, domain_text}

-- the changes of a picture are those of the two seconds before it
abbrev pub changes_since : ℕ → ℕ
changes_since now = now - 2_000

-- a state was shown at this time or after it
abbrev pub is_shown_since : ℕ → Option Sight → Bool
is_shown_since since None = false
is_shown_since since (Some seen) = nat_le since seen.at

-- a record was told first at this time or after it
abbrev pub is_told_since : ℕ → Option Hearing → Bool
is_told_since since None = false
is_told_since since (Some had) = nat_le since had.since

-- when a domain was last heard of, 0 if that was before
abbrev pub heard_text : ℕ → Option Hearing → List ℕ
heard_text since None = codes "0"
heard_text since (Some had) = if nat_le since had.heard then decimal had.heard else codes "0"

-- a domain has a new state or a new record
abbrev pub is_changed_domain : Pictured → ℕ → ℕ → Bool
is_changed_domain p since d = is_shown_since since (object_of p d) || is_told_since since (domain_of p d)

-- all of a domain that has changed, and of another one when it was last heard of
abbrev pub domain_change : Hierarchy → Pictured → ℕ → ℕ → List ℕ
domain_change h p since d =
    if is_changed_domain p since d then domain_text h p d else heard_text since (domain_of p d)

-- all of a device that has changed
abbrev pub device_change : Hierarchy → Pictured → ℕ → ℕ → List ℕ
device_change h p since d =
    if is_shown_since since (object_of p (domain_count h + d)) then device_text h p d else codes "0"

-- a picture's number, the time at which it was looked at, from when on it tells, and what has changed since
abbrev pub changes_text : Hierarchy → Pictured → ℕ → ℕ → List ℕ
changes_text h p number now =
    codes "{\"frame\":" ++ decimal number
    ++ codes ",\"now\":" ++ decimal now
    ++ codes ",\"since\":" ++ decimal (changes_since now)
    ++ codes ",\"domains\":[" ++ listed (codes ",") (domain_change h p (changes_since now)) (domain_count h)
    ++ codes "],\"devices\":[" ++ listed (codes ",") (device_change h p (changes_since now)) (device_count h)
    ++ codes "]}\n"
