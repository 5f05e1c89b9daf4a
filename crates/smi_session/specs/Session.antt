-- What contracts see of a session, and what becomes of it.
use Rattle.std.specs.Prelude.{ℕ, ◌≡◌, ◌+◌, ◌-◌, ◌^◌, ◌&&◌, ◌||◌, nat_lt, nat_le, min, not, Bool, true, false}
use Rattle.std.specs.Prelude.{List, [], ◌∷◌, ◌++◌, length, Option, Some, None, is_some, is_none}
use Rattle.std.specs.Option.{option_map_or}
use Rattle.smi_session.specs.Subscription.{SubscriptionState}
use Rattle.smi_session.specs.Tag.{tag_text}
use Rattle.smi_session.specs.Will.{with_newest}
use Rattle.smi_session.specs.declared.will.DeviceWill.{DeviceWill}
use Rattle.smi_session.specs.declared.tag.Tag.{Tag}
use Rattle.smi_session.specs.declared.session.Deferred.{Deferred}
use Rattle.smi_session.specs.declared.session.ReplyStyle.{ReplyStyle}
use Rattle.smi_session.specs.declared.trust.Trust.{Trust}
use Rattle.smi_session.specs.declared.trust.Trust.TheVariants.{New, Accepted, Refused}

-- a line and its number
pub record LineAt : Type 0 where
  pub number : ℕ
  pub line : List ℕ

-- a session: what its lines have shown of it, its lines that wait, whether an order of a line without a tag is pending,
-- an order that waits for a seat, what it wants to be told of, what is reported when it ends, what it is to be told,
-- and apart from that the
-- faults of its lines
pub record SessionState : Type 0 where
  pub number : ℕ
  pub style : ReplyStyle
  pub trust : Trust
  pub lines : ℕ
  pub waiting : List LineAt
  pub is_busy : Bool
  pub deferred : Option Deferred
  pub states : Option SubscriptionState
  pub actions : Option SubscriptionState
  pub wills : List DeviceWill
  pub output : List ℕ
  pub errors : List ℕ

-- one that has typed nothing
abbrev pub new_session : ℕ → ReplyStyle → SessionState
new_session number style = record {
  number = number;
  style = style;
  trust = New;
  lines = 0;
  waiting = [];
  is_busy = false;
  deferred = None;
  states = None;
  actions = None;
  wills = [];
  output = [];
  errors = [];
}

-- no line of it is read any more
abbrev pub is_refused : Trust → Bool
is_refused New = false
is_refused Accepted = false
is_refused Refused = true

-- a further line is taken if it is not refused, no order is deferred, fewer than 64 lines wait and at most 16 KiB are
-- not yet told
abbrev pub has_room : SessionState → Bool
has_room s =
    not (is_refused s.trust) && is_none s.deferred && nat_lt (length s.waiting) 64 && nat_le (length s.output) 16384

abbrev pub are_no_lines : List LineAt → Bool
are_no_lines [] = true
are_no_lines (line ∷ lines) = false

-- none of its lines waits, and no order of a line without a tag is pending
abbrev pub is_idle : SessionState → Bool
is_idle s = not s.is_busy && is_none s.deferred && are_no_lines s.waiting

-- its first line that waits may be handled
abbrev pub may_go_on : SessionState → Bool
may_go_on s = not (is_refused s.trust) && not s.is_busy && is_none s.deferred && not (are_no_lines s.waiting)

-- the number of its next line, from 1
abbrev pub next_line : SessionState → ℕ
next_line s = min (s.lines + 1) (2 ^ 64 - 1)

abbrev pub counted : SessionState → SessionState
counted s = record s { lines = next_line s }

-- an order of a line is pending, which holds up the next line if it has no tag; and it has ended
abbrev pub beginning : Option Tag → SessionState → SessionState
beginning tag s = record s { is_busy = s.is_busy || is_none tag }

abbrev pub ending : Option Tag → SessionState → SessionState
ending tag s = record s { is_busy = s.is_busy && is_some tag }

-- a line waits for those before it
abbrev pub waits : ℕ → List ℕ → SessionState → SessionState
waits number line s = record s { waiting = s.waiting ++ (record { number = number; line = line }) ∷ [] }

-- the newest will of a device is what counts
abbrev pub with_will : DeviceWill → SessionState → SessionState
with_will w s = record s { wills = with_newest w s.wills }

-- it asks for the numbers of commands with their actions
abbrev pub wants_numbers : SessionState → Bool
wants_numbers s = option_map_or (λ subscription. subscription.has_numbers) s.actions false

-- a text after a tag
abbrev pub behind : Option Tag → List ℕ → List ℕ
behind None text = text
behind (Some tag) text = 64 ∷ tag_text tag ++ 32 ∷ text

-- a text is to be told, after all that was
abbrev pub with_reply : Option Tag → List ℕ → SessionState → SessionState
with_reply tag text s = record s { output = s.output ++ behind tag text }

-- a fault is to be told apart
abbrev pub with_error : List ℕ → SessionState → SessionState
with_error text s = record s { errors = s.errors ++ text }

-- nothing but what is to be told has changed
abbrev pub OnlyReplies : SessionState → SessionState → Type 0
OnlyReplies before after = after ≡ record before { output = after.output }
