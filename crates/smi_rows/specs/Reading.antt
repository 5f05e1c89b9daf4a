-- What the bytes of a row say, or the first test that they fail.
use Rattle.std.specs.Prelude.{ℕ, ◌≡◌, zero, suc, ◌+◌, ◌-◌, ◌*◌, ◌&&◌, ◌==◌, nat_le, nat_lt, Bool, if◌then◌else◌, List}
use Rattle.std.specs.Prelude.{[], ◌∷◌, ◌++◌, length, drop, slice_index, Option, Some, None, option_map}
use Rattle.std.specs.Prelude.{option_and_then, Result, Ok, Err}
use Rattle.std.specs.Str.{bytes_eq}
use Rattle.smi_grant.specs.declared.Command.{Command}
use Rattle.smi_grant.specs.Command.{command_of}
use Rattle.smi_grant.specs.Holder.{holder_of}
use Rattle.smi_grant.specs.Record.{Standing, standing, phase_of, checked}
use Rattle.smi_command.specs.declared.Link.{Link}
use Rattle.smi_command.specs.declared.Link.TheVariants.{Out, Taking, Held, Dropping}
use Rattle.smi_tree.specs.Hierarchy.{Hierarchy}
use Rattle.smi_rows.specs.declared.key.Key.{Key}
use Rattle.smi_rows.specs.declared.key.RowKind.{RowKind}
use Rattle.smi_rows.specs.declared.key.RowKind.TheVariants as kind
use Rattle.smi_rows.specs.declared.fault.RowFlaw.{RowFlaw}
use Rattle.smi_rows.specs.declared.fault.RowFlaw.TheVariants as fault
use Rattle.smi_rows.specs.declared.fault.RowFault.{RowFault}
use Rattle.smi_rows.specs.declared.fault.RowFault.TheVariants.{Code, Memory}
use Rattle.smi_rows.specs.declared.row.StoredLink.{StoredLink}
use Rattle.smi_rows.specs.declared.row.Row.{Row}
use Rattle.smi_rows.specs.declared.row.Row.TheVariants as row
use Rattle.smi_rows.specs.declared.schema.Schema.{Schema}
use Rattle.smi_rows.specs.Fault.{fault_code}
use Rattle.smi_rows.specs.Key.{kind_of}
use Rattle.smi_rows.specs.Known.{is_known}
use Rattle.smi_rows.specs.Layout.{row_bytes}
use Rattle.smi_base.specs.Bytes.{u16_at, u32_at, u64_at}
use Rattle.smi_rows.specs.Ranges.{is_row_in}
use Rattle.smi_rows.specs.Schema.{schema_of, most_pending_in}
use Rattle.smi_rows.specs.Stored.{KeptDomain, mode_of, stored}

-- ---- the length

abbrev pub has_lists : Schema → Bool
has_lists s = nat_lt 1 (most_pending_in s)

-- the number of pending commands after the oldest
abbrev pub others_at : List ℕ → ℕ
others_at b = u16_at b 20

-- how many bytes the link at the beginning takes: 20, or what its list of commands takes
abbrev pub size_at : Schema → List ℕ → ℕ
size_at s b = if slice_index b 2 == 5 && has_lists s then 22 + 4 * others_at b else 20

-- the bytes are this many links, and nothing else
abbrev pub are_cut : Schema → ℕ → List ℕ → Bool
are_cut s zero b = length b == 0
are_cut s (suc n) b = nat_le (size_at s b) (length b) && are_cut s n (drop (size_at s b) b)

-- the bytes of a domain's or an operator's row before its links
abbrev pub domain_fixed : ℕ
domain_fixed = 24

abbrev pub operator_fixed : ℕ
operator_fixed = 4

-- after the beginning, which ends with their number, there are this many links and nothing else
abbrev pub has_links_after : Schema → ℕ → List ℕ → Bool
has_links_after s fixed b = nat_le fixed (length b) && are_cut s (u16_at b (fixed - 2)) (drop fixed b)

abbrev pub has_length_of : RowKind → Schema → List ℕ → Bool
has_length_of kind.Boot s b = length b == 8
has_length_of kind.Domain s b = has_links_after s domain_fixed b
has_length_of kind.Operator s b = has_links_after s operator_fixed b

-- ---- what is at each place

abbrev pub command_at : List ℕ → Option Command
command_at b = command_of (u16_at b 0) (u16_at b 2)

-- this many commands
abbrev pub commands_at : ℕ → List ℕ → Option (List Command)
commands_at zero b = Some []
commands_at (suc n) b = option_and_then (λ c. option_map (λ more. c ∷ more) (commands_at n (drop 4 b))) (command_at b)

-- one pending command
abbrev pub only_at : List ℕ → Option (List Command)
only_at b = option_map (λ c. c ∷ []) (command_at (drop 16 b))

-- the oldest pending command, and up to seven others after their number
abbrev pub several_at : List ℕ → Option (List Command)
several_at b =
    if nat_le (others_at b) 7
    then option_and_then (λ first. option_map (λ more. first ++ more) (commands_at (others_at b) (drop 22 b)))
    (only_at b)
    else None

abbrev pub held_at : List ℕ → List Command → Link
held_at b p = Held (u64_at b 4) (u32_at b 12) p

abbrev pub grant_at : Schema → List ℕ → Option Link
grant_at s b =
    if slice_index b 2 == 0 then Some (Out (u64_at b 4))
    else (if slice_index b 2 == 1 then Some (Taking (u64_at b 4))
    else (if slice_index b 2 == 2 then Some (held_at b [])
    else (if slice_index b 2 == 3 then option_map (held_at b) (only_at b)
    else (if slice_index b 2 == 4 then Some (Dropping (u64_at b 4))
    else (if slice_index b 2 == 5 && has_lists s then option_map (held_at b) (several_at b)
    else None)))))

abbrev pub link_at : Schema → List ℕ → Option StoredLink
link_at s b = option_and_then (λ m. option_map (λ l. stored (u16_at b 0) l m) (grant_at s b))
    (mode_of (slice_index b 3))

-- this many links
abbrev pub links_at : Schema → ℕ → List ℕ → Option (List StoredLink)
links_at s zero b = Some []
links_at s (suc n) b =
    option_and_then (λ x. option_map (λ more. x ∷ more) (links_at s n (drop (size_at s b) b))) (link_at s b)

abbrev pub standing_at : List ℕ → Option Standing
standing_at b =
    option_and_then (λ h. option_and_then (λ p. checked (standing (u64_at b 4) h (u32_at b 12) p (u16_at b 18)))
    (phase_of (slice_index b 16))) (holder_of (slice_index b 1) (u16_at b 2))

abbrev pub kept_domain : Standing → ℕ → List StoredLink → KeptDomain
kept_domain r gathered links = record { standing = r; gathered = gathered; links = links }

abbrev pub domain_at : Schema → List ℕ → Option KeptDomain
domain_at s b =
    option_and_then (λ r. option_map (kept_domain r (u16_at b 20)) (links_at s (u16_at b 22) (drop domain_fixed b)))
    (standing_at b)

-- what a row seems to say, from the numbers that are at its places
abbrev pub row_at : RowKind → Schema → List ℕ → Option Row
row_at kind.Boot s b = Some (row.Boot (u32_at b 4))
row_at kind.Domain s b = option_map (λ d. row.Domain d) (domain_at s b)
row_at kind.Operator s b = option_map (λ links. row.Operator links) (links_at s (u16_at b 2) (drop operator_fixed b))

-- ---- the tests, in their order

-- what it seems to say is said if it is in range and is written so
abbrev pub is_said : Schema → List ℕ → Row → Bool
is_said s b r = is_row_in s r && bytes_eq (row_bytes s.number r) b

abbrev pub where_said : Schema → List ℕ → Row → Option Row
where_said s b r = if is_said s b r then Some r else None

abbrev pub said_at : Schema → List ℕ → Option Row
said_at s b = option_and_then (where_said s b) (row_at s.kind s b)

abbrev pub refused : {X : Type 0} → RowFlaw → Result X RowFault
refused f = Err (Code (fault_code f))

abbrev pub known_row : Hierarchy → Key → Option Row → Result Row RowFault
known_row h k None = refused fault.Range
known_row h k (Some r) = if is_known h k r then Ok r else refused fault.Unknown

abbrev pub schema_row : Hierarchy → Key → List ℕ → Option Schema → Result Row RowFault
schema_row h k b None = refused fault.Schema
schema_row h k b (Some s) = if has_length_of s.kind s b then known_row h k (said_at s b) else refused fault.Length

abbrev pub kind_row : Hierarchy → Key → List ℕ → Option RowKind → Result Row RowFault
kind_row h k b None = refused fault.Unknown
kind_row h k b (Some kind) =
    if length b == 0 then refused fault.Length else schema_row h k b (schema_of kind (slice_index b 0))

-- the row of a key, or the first test that its bytes fail
abbrev pub row_of : Hierarchy → Key → List ℕ → Result Row RowFault
row_of h k b = kind_row h k b (kind_of k)

-- a result is what reading gives, unless memory ran out
abbrev pub Reads : Result Row RowFault → Result Row RowFault → Type 0
Reads (Ok r) reading = reading ≡ Ok r
Reads (Err Memory) reading = Unit {0}
Reads (Err (Code n)) reading = reading ≡ Err (Code n)

-- a result, seen by view, is this value; if there is none the row is out of range
abbrev pub Gives : {X Y : Type 0} → (X → Y) → Option Y → Result X RowFault → Type 0
Gives view said (Ok x) = said ≡ Some (view x)
Gives view said (Err Memory) = Unit {0}
Gives view said (Err (Code n)) = (said ≡ None) × (n ≡ fault_code fault.Range)
