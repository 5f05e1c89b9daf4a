-- The fields of each kind of datagram, and what they say.
use Rattle.std.specs.Prelude.{ℕ, ◌&&◌, ◌||◌, ◌==◌, Bool, true, false, if◌then◌else◌, Option, Some, None}
use Rattle.std.specs.Prelude.{option_and_then}
use Rattle.std.specs.Option.{option_map}
use Rattle.smi_grant.specs.declared.Holder.{Holder}
use Rattle.smi_grant.specs.declared.Command.{Command}
use Rattle.smi_grant.specs.declared.Command.TheVariants.{Do, Include, Exclude, Manual, Ignore}
use Rattle.smi_grant.specs.declared.Phase.{Phase}
use Rattle.smi_grant.specs.Holder.{kind_of, number_of, holder_of}
use Rattle.smi_grant.specs.Command.{verb_of, argument_of, command_of}
use Rattle.smi_grant.specs.Record.{Standing, standing, phase_number, phase_of, checked}
use Rattle.smi_message.specs.declared.fields.Fields.{Fields}
use Rattle.smi_message.specs.declared.datagram.Body.{Body}
use Rattle.smi_message.specs.declared.datagram.Body.TheVariants as body
use Rattle.smi_message.specs.Message.{Message}
use Rattle.smi_base.specs.Between.{is_between}

-- ---- the fields of what is said

-- a datagram that uses no field of its own
abbrev pub plain : ℕ → ℕ → ℕ → ℕ → ℕ → Fields
plain kind from to tree subject = record {
  layout = 1;
  kind = kind;
  from = from;
  to = to;
  subject = subject;
  holder_kind = 0;
  phase = 0;
  holder = 0;
  code = 0;
  epoch = 0;
  number = 0;
  argument = 0;
  tree = tree;
  echo = 0;
  boot = 0;
  sequence = 0;
}

-- a datagram about a grant
abbrev pub about_grant : ℕ → ℕ → ℕ → ℕ → ℕ → Holder → Fields
about_grant kind from to tree domain h =
    record (plain kind from to tree domain) { holder_kind = kind_of h; holder = number_of h }

-- the last two verbs came with the second layout
abbrev pub layout_of : Command → ℕ
layout_of (Do a) = 1
layout_of (Include t) = 1
layout_of (Exclude t) = 1
layout_of (Manual t) = 2
layout_of (Ignore t) = 2

-- the field at each place, kind by kind; what a kind does not use is zero
abbrev pub fields_of : ℕ → ℕ → ℕ → Body → Fields
fields_of from to tree (body.Ask d) = plain 1 from to tree d
fields_of from to tree (body.Take d h seen) =
    record (about_grant 2 from to tree d h) { epoch = seen }
fields_of from to tree (body.Drop d h e) =
    record (about_grant 3 from to tree d h) { epoch = e }
fields_of from to tree (body.Run d h e n c) =
    record (about_grant 4 from to tree d h) {
      layout = layout_of c;
      code = verb_of c;
      epoch = e;
      number = n;
      argument = argument_of c;
    }
fields_of from to tree (body.Tell d r) =
    record (about_grant 5 from to tree d r.holder) {
      phase = phase_number r.phase;
      code = r.outcome;
      epoch = r.epoch;
      number = r.last;
    }
fields_of from to tree (body.Watch x echo) = record (plain 6 from to tree x) { echo = echo }
fields_of from to tree (body.State x echo v s) =
    record (plain 7 from to tree x) { code = s; echo = echo; boot = v.boot; sequence = v.sequence }
fields_of from to tree (body.Unwatch x echo) = record (plain 8 from to tree x) { echo = echo }

-- ---- what the fields say, if they say anything

abbrev pub holder_at : Fields → Option Holder
holder_at f = holder_of f.holder_kind f.holder

-- a verb is in its own layout alone
abbrev pub command_in : ℕ → ℕ → ℕ → Option Command
command_in layout verb n = option_and_then (λ c. if layout_of c == layout then Some c else None) (command_of verb n)

abbrev pub command_at : Fields → Option Command
command_at f = command_in f.layout f.code f.argument

-- the record that is told
abbrev pub told_at : Fields → Option Standing
told_at f =
    option_and_then (λ h. option_and_then (λ p. checked (standing f.epoch h f.number p f.code)) (phase_of f.phase))
    (holder_at f)

abbrev pub take_at : Fields → Option Body
take_at f = option_map (λ h. body.Take f.subject h f.epoch) (holder_at f)

abbrev pub drop_at : Fields → Option Body
drop_at f = option_map (λ h. body.Drop f.subject h f.epoch) (holder_at f)

abbrev pub tell_at : Fields → Option Body
tell_at f = option_map (body.Tell f.subject) (told_at f)

abbrev pub run_at : Fields → Option Body
run_at f =
    option_and_then (λ h. option_map (λ c. body.Run f.subject h f.epoch f.number c) (command_at f)) (holder_at f)

abbrev pub state_at : Fields → Body
state_at f = body.State f.subject f.echo (record { boot = f.boot; sequence = f.sequence }) f.code

unfoldable pub body_at : Fields → Option Body
body_at f =
    if f.kind == 1 then Some (body.Ask f.subject)
    else (if f.kind == 2 then take_at f
    else (if f.kind == 3 then drop_at f
    else (if f.kind == 4 then run_at f
    else (if f.kind == 5 then tell_at f
    else (if f.kind == 6 then Some (body.Watch f.subject f.echo)
    else (if f.kind == 7 then Some (state_at f)
    else Some (body.Unwatch f.subject f.echo)))))))

-- ---- the fields that a kind does not use

-- zero, unless it is used
abbrev pub is_zero_unless : Bool → ℕ → Bool
is_zero_unless used n = used || n == 0

-- datagrams about a grant have the holder and the epoch
abbrev pub uses_grant : ℕ → Bool
uses_grant kind = is_between 2 5 kind

abbrev pub is_grant_zero : Fields → Bool
is_grant_zero f =
    is_zero_unless (uses_grant f.kind) f.holder_kind
    && (is_zero_unless (uses_grant f.kind) f.holder && is_zero_unless (uses_grant f.kind) f.epoch)

-- commands and records have numbers, records a phase; states have a code too
abbrev pub is_command_zero : Fields → Bool
is_command_zero f =
    is_zero_unless (f.kind == 5) f.phase && (is_zero_unless (is_between 4 5 f.kind || f.kind == 7) f.code
    && (is_zero_unless (is_between 4 5 f.kind) f.number && is_zero_unless (f.kind == 4) f.argument))

-- watching has echoes, a state its version
abbrev pub is_watch_zero : Fields → Bool
is_watch_zero f =
    is_zero_unless (is_between 6 8 f.kind) f.echo
    && (is_zero_unless (f.kind == 7) f.boot && is_zero_unless (f.kind == 7) f.sequence)

abbrev pub is_rest_zero : Fields → Bool
is_rest_zero f = is_grant_zero f && (is_command_zero f && is_watch_zero f)
