-- A holder's link to a domain, and what it has to send.
use Rattle.std.specs.Prelude.{ℕ, ◌+◌, ◌==◌, if◌then◌else◌, Bool, true, false, [], ◌∷◌, slice_get, Option, Some, None}
use Rattle.std.specs.Prelude.{option_map}
use Rattle.smi_command.specs.Pending.{base_of}
use Rattle.smi_command.specs.declared.link.Link.{Link}
use Rattle.smi_command.specs.declared.link.Link.TheVariants.{Out, Taking, Held, Dropping}
use Rattle.smi_command.specs.declared.link.Due.{Due}
use Rattle.smi_command.specs.declared.link.Due.TheVariants.{Take, Drop, Run}

-- the epoch that a link knows of
abbrev pub known : Link → ℕ
known (Out k) = k
known (Taking s) = s
known (Held e n p) = e
known (Dropping e) = e

-- the holder does not have the domain, and does not ask for it
abbrev pub is_out : Link → Bool
is_out (Out k) = true
is_out (Taking s) = false
is_out (Held e n p) = false
is_out (Dropping e) = false

-- the holder has the domain
abbrev pub is_held : Link → Bool
is_held (Out k) = false
is_held (Taking e) = false
is_held (Held e n p) = true
is_held (Dropping e) = false

-- a take, a drop or a command is under way
abbrev pub is_unsettled : Link → Bool
is_unsettled (Out k) = false
is_unsettled (Taking s) = true
is_unsettled (Held e n []) = false
is_unsettled (Held e n (c ∷ p)) = true
is_unsettled (Dropping e) = true

-- what a link has to send, by its place: of pending commands the oldest first
abbrev pub due_of : Link → ℕ → Option Due
due_of (Out k) i = None
due_of (Taking s) i = if i == 0 then Some (Take s) else None
due_of (Held e n p) i = option_map (λ c. Run e (base_of n p + 1 + i) c) (slice_get p i)
due_of (Dropping e) i = if i == 0 then Some (Drop e) else None
