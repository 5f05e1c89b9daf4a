-- Which values rows of a schema can have.
use Rattle.std.specs.Prelude.{ℕ, ◌%◌, ◌&&◌, ◌==◌, nat_le, nat_lt, not, Bool, true, false, if◌then◌else◌, List, []}
use Rattle.std.specs.Prelude.{◌∷◌, length, count_by}
use Rattle.std.specs.List.{list_all, list_any}
use Rattle.smi_base.specs.Between.{is_between}
use Rattle.smi_base.specs.declared.trees.TheConstants.{MOST_DOMAINS}
use Rattle.smi_base.specs.declared.numbers.TheConstants.{LAST_BOOT, MOST_LINKS}
use Rattle.smi_grant.specs.declared.Command.{Command}
use Rattle.smi_grant.specs.Command.{is_in_range, verb_of}
use Rattle.smi_grant.specs.Holder as holder
use Rattle.smi_grant.specs.declared.Phase.{Phase}
use Rattle.smi_grant.specs.declared.Phase.TheVariants.{Settled, Busy}
use Rattle.smi_grant.specs.Record.{Standing, is_record, is_outcome, last_epoch, last_number}
use Rattle.smi_command.specs.Link.{is_held, is_out, is_unsettled}
use Rattle.smi_command.specs.declared.Link.{Link}
use Rattle.smi_command.specs.declared.Link.TheVariants.{Out, Taking, Held, Dropping}
use Rattle.smi_rows.specs.declared.key.RowKind.TheVariants as kind
use Rattle.smi_rows.specs.declared.key.RowKind.{RowKind}
use Rattle.smi_rows.specs.declared.mode.Mode.{Mode}
use Rattle.smi_rows.specs.declared.mode.Mode.TheVariants.{Included, Manual, Ignored}
use Rattle.smi_rows.specs.declared.row.StoredLink.{StoredLink}
use Rattle.smi_rows.specs.declared.row.Row.{Row}
use Rattle.smi_rows.specs.declared.row.Row.TheVariants as row
use Rattle.smi_rows.specs.declared.schema.Schema.{Schema}
use Rattle.smi_rows.specs.Schema.{has_modes, last_verb, most_pending_in}
use Rattle.smi_rows.specs.Stored.{KeptDomain}

-- a domain is held at odd epochs
abbrev pub is_grant_epoch : ℕ → Bool
is_grant_epoch e = nat_le e last_epoch && e % 2 == 1

-- a command of which the schema has the verb
abbrev pub is_command_in : Schema → Command → Bool
is_command_in s c = is_in_range c && nat_le (verb_of c) (last_verb s)

abbrev pub each_command_in : Schema → List Command → Bool
each_command_in s p = list_all (is_command_in s) p

-- the pending commands have numbers, from the newest down
abbrev pub are_pending_in : Schema → ℕ → List Command → Bool
are_pending_in s n p =
    nat_le (length p) n && (nat_le (length p) (most_pending_in s) && each_command_in s p)

-- of a domain that nobody was heard of nothing is stored
abbrev pub is_grant_in : Schema → Link → Bool
is_grant_in s (Out k) = is_between 1 last_epoch k
is_grant_in s (Taking e) = nat_le e last_epoch
is_grant_in s (Held e n p) = is_grant_epoch e && (nat_le n last_number && are_pending_in s n p)
is_grant_in s (Dropping e) = is_grant_epoch e

abbrev pub is_included : Mode → Bool
is_included Included = true
is_included Manual = false
is_included Ignored = false

-- only a held child has a mode of its own
abbrev pub is_mode_in : Schema → Link → Mode → Bool
is_mode_in s l m = if is_included m then true else (has_modes s && is_held l)

abbrev pub is_link_in : Schema → StoredLink → Bool
is_link_in s x = is_between 1 MOST_DOMAINS x.domain && (is_grant_in s x.link && is_mode_in s x.link x.mode)

-- the links are in rising order of domain
abbrev pub rises_above : ℕ → List StoredLink → Bool
rises_above low [] = true
rises_above low (x ∷ more) = nat_lt low x.domain && rises_above x.domain more

abbrev pub each_link_in : Schema → List StoredLink → Bool
each_link_in s links = list_all (is_link_in s) links

abbrev pub are_links_in : Schema → List StoredLink → Bool
are_links_in s links = rises_above 0 links && each_link_in s links

abbrev pub is_boot : ℕ → Bool
is_boot boot = is_between 1 LAST_BOOT boot

abbrev pub count_not_out : List StoredLink → ℕ
count_not_out links = count_by (λ x. not (is_out x.link)) links

-- an operator has at most sixteen links that are not out
abbrev pub is_operator_in : Schema → List StoredLink → Bool
is_operator_in s links = are_links_in s links && nat_le (count_not_out links) MOST_LINKS

-- a record of holders and outcomes that a tree can have
abbrev pub is_standing : Standing → Bool
is_standing r = holder.is_in_range r.holder && (is_outcome r.outcome && is_record r)

abbrev pub some_unsettled : List StoredLink → Bool
some_unsettled links = list_any (λ x. is_unsettled x.link) links

-- a settled domain has gathered nothing and has no unsettled link to a child, a busy one has one
abbrev pub is_work_in : Phase → ℕ → List StoredLink → Bool
is_work_in Settled gathered links = gathered == 0 && not (some_unsettled links)
is_work_in Busy gathered links = is_outcome gathered && some_unsettled links

abbrev pub is_domain_in : Schema → KeptDomain → Bool
is_domain_in s d =
    is_standing d.standing && (is_work_in d.standing.phase d.gathered d.links && are_links_in s d.links)

-- what a row of the schema can say
abbrev pub is_row_of : RowKind → Schema → Row → Bool
is_row_of kind.Boot s (row.Boot boot) = is_boot boot
is_row_of kind.Domain s (row.Domain d) = is_domain_in s d
is_row_of kind.Operator s (row.Operator links) = is_operator_in s links
is_row_of _ s _ = false

abbrev pub is_row_in : Schema → Row → Bool
is_row_in s r = is_row_of s.kind s r
