-- What a tick sends again.
use Rattle.std.specs.Prelude.{ℕ, ◌+◌, ◌-◌, ◌==◌, ◌&&◌, ◌||◌, nat_lt, nat_le, not, Bool, false, if◌then◌else◌, List}
use Rattle.std.specs.Prelude.{[], ◌∷◌, ◌++◌, map, filter, take, Option, Some, None}
use Rattle.std.specs.List.{flat_map, range_with_len}
use Rattle.smi_base.specs.declared.numbers.TheConstants.{MOST_SENT}
use Rattle.smi_grant.specs.declared.Holder.TheVariants.{Operator, Domain}
use Rattle.smi_message.specs.Message.{Message}
use Rattle.smi_tree.specs.Hierarchy.{Hierarchy}
use Rattle.smi_tree.specs.Lookups.{domain_count, device_count, operators_of, parent_of}
use Rattle.smi_command.specs.declared.Due.{Due}
use Rattle.smi_command.specs.declared.Due.TheVariants.{Take, Drop, Run}
use Rattle.smi_protocol.specs.Grants.{Grants}
use Rattle.smi_protocol.specs.Display.{Display}
use Rattle.smi_protocol.specs.Messages.{all_due, requests, asks_about, watches}
use Rattle.smi_tree.specs.Roles.{is_keeper}
use Rattle.smi_protocol.specs.Watching.{Notice, noticed, is_watched}
use Rattle.smi_protocol.specs.declared.resend_cursor.ResendCursor.{ResendCursor}
use Rattle.smi_protocol.specs.declared.resend_cursor.ResendCursor.TheVariants as place

-- how many datagrams a step sends at most
abbrev pub most_sent : ℕ
most_sent = MOST_SENT

-- Places are in the order of their kinds, and then of their numbers.

-- the numbers by which places are ordered
abbrev pub place_key : ResendCursor → List ℕ
place_key (place.Child x) = 0 ∷ x ∷ []
place_key (place.Link o d n) = 1 ∷ o ∷ d ∷ n ∷ []
place_key (place.Ask o) = 2 ∷ o ∷ []
place_key (place.Watch x) = 3 ∷ x ∷ []

-- numbers are compared from the left
abbrev pub is_key_before : List ℕ → List ℕ → Bool
is_key_before [] _ = false
is_key_before (a ∷ more) [] = false
is_key_before (a ∷ more) (b ∷ rest) = nat_lt a b || (a == b && is_key_before more rest)

-- one place precedes another
abbrev pub is_before : ResendCursor → ResendCursor → Bool
is_before a b = is_key_before (place_key a) (place_key b)

-- where the first tick begins
abbrev pub first_place : ResendCursor
first_place = place.Child 1

-- the place after a place: after the last object it is the first
abbrev pub next_place : Hierarchy → ResendCursor → ResendCursor
next_place h (place.Child x) = place.Child (x + 1)
next_place h (place.Link o d n) = place.Link o d (n + 1)
next_place h (place.Ask o) = place.Ask (o + 1)
next_place h (place.Watch x) = if nat_le (domain_count h + device_count h) x then first_place else place.Watch (x + 1)

-- a datagram that is due, and its place
pub record Owed : Type 0 where
  pub place : ResendCursor
  pub message : Message

-- a datagram at a place
abbrev pub owed : ResendCursor → Message → Owed
owed p m = record { place = p; message = m }

-- a take and a drop have number 0
abbrev pub number_of_due : Due → ℕ
number_of_due (Take s) = 0
number_of_due (Drop e) = 0
number_of_due (Run e n c) = n

-- the domains by number
abbrev pub domains_of : Hierarchy → List ℕ
domains_of h = range_with_len 1 (domain_count h)

-- what the domain above asks of a child, if it is kept here
abbrev pub owed_to_child : Hierarchy → ℕ → Grants → ℕ → Option ℕ → List Owed
owed_to_child h number g x None = []
owed_to_child h number g x (Some p) =
    if is_keeper h number p
    then map (λ due. owed (place.Child x) (requests h number (Domain p) x due)) (all_due (g.links (Domain p) x))
    else []

-- what an operator asks of a domain
abbrev pub owed_to_domain : Hierarchy → ℕ → Grants → ℕ → ℕ → List Owed
owed_to_domain h number g o d =
    map
    (λ due. owed (place.Link o d (number_of_due due)) (requests h number (Operator o) d due))
    (all_due (g.links (Operator o) d))

-- an open question
abbrev pub owed_question : Hierarchy → ℕ → ℕ → Option ℕ → List Owed
owed_question h number o None = []
owed_question h number o (Some d) = owed (place.Ask o) (asks_about h number d) ∷ []

-- a watch
abbrev pub owed_watch : Hierarchy → ℕ → ℕ → Display → ℕ → List Owed
owed_watch h number boot s x = if is_watched h number s x then owed (place.Watch x) (watches h number boot x) ∷ []
    else []

-- all that is due, by place
abbrev pub all_owed : Hierarchy → ℕ → Grants → Display → List Owed
all_owed h number g s =
    flat_map (λ x. owed_to_child h number g x (parent_of h x)) (domains_of h)
    ++ flat_map (λ o. flat_map (owed_to_domain h number g o) (domains_of h)) (operators_of h number)
    ++ flat_map (λ o. owed_question h number o (s.asks o)) (operators_of h number)
    ++ flat_map (owed_watch h number g.boot s) (range_with_len 1 (domain_count h + device_count h))

-- what is due from a place on, as much as one step sends
abbrev pub owed_from : ResendCursor → List Owed → List Owed
owed_from p all = take most_sent (filter (λ x. not (is_before x.place p)) all)

-- where the next tick begins: after the last that was sent, or at the first where all was
abbrev pub place_behind : Hierarchy → ResendCursor → ℕ → List Owed → ResendCursor
place_behind h last room [] = if room == 0 then next_place h last else first_place
place_behind h last room (x ∷ more) = place_behind h x.place (room - 1) more

-- what a tick sends, and the place that it remembers
abbrev pub tick_noticed : Hierarchy → ℕ → Grants → Display → Notice
tick_noticed h number g s =
    let sent = owed_from s.place (all_owed h number g s) in
    noticed (record s { place = place_behind h first_place most_sent sent }) (map (λ x. x.message) sent) []
