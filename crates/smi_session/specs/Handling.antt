-- What a line does: to the seats, and to its session.
use Rattle.std.specs.Prelude.{ℕ, zero, suc, ◌≡◌, ◌⊎◌, nat_lt, Bool, true, false, List, ◌∷◌, length, Option, Some}
use Rattle.std.specs.Prelude.{None, is_some, Result, Ok, Err, if◌then◌else◌}
use Rattle.std.specs.declared.time.Instant.{Instant}
use mathlib.Core.List.{IsPrefix}
use Rattle.smi_grant.specs.declared.state.Shown.{Shown}
use Rattle.smi_base.specs.declared.trees.TheConstants.{MOST_BYTES_OF_A_LINE}
use Rattle.smi_tree.specs.Text.{words}
use Rattle.smi_tree.specs.Hierarchy.{Hierarchy}
use Rattle.smi_tree.specs.declared.fault.Fault.{Fault}
use Rattle.smi_schedule.specs.Node.{board_text}
use Rattle.smi_view.specs.Rows.{last_row}
use Rattle.smi_session.specs.FaultReply.{with_fault}
use Rattle.smi_session.specs.Reply.{Answers}
use Rattle.smi_session.specs.Request.{request_of_line}
use Rattle.smi_session.specs.SeatTable.{Gives, GivesDeferred}
use Rattle.smi_session.specs.Service.{ServiceState}
use Rattle.smi_session.specs.Session.{LineAt, SessionState, beginning, counted, is_refused, may_go_on, next_line, waits}
use Rattle.smi_session.specs.Session.{with_reply, with_will}
use Rattle.smi_session.specs.Tag.{tag_of, tag_text}
use Rattle.smi_session.specs.Trust.{admitted, judged}
use Rattle.smi_session.specs.Will.{will_text}
use Rattle.smi_session.specs.Withdrawal.{Withdraws, named_tag}
use Rattle.smi_session.specs.declared.request.SessionRequest.{SessionRequest}
use Rattle.smi_session.specs.declared.request.SessionRequest.TheVariants as request
use Rattle.smi_session.specs.declared.tag.Tag.{Tag}

-- a session is told what the board shows of an object, or that it gives no reading of it
abbrev pub Shows : Hierarchy → Option Tag → ℕ → ServiceState → SessionState → ServiceState → SessionState → Type 0
Shows h tag object a c b d = (shown : Option Shown) × ((shown ≡ None) ⊎ (shown ≡ last_row object b.board.seen))
    × (d ≡ with_reply tag (board_text h object shown) c) × IsPrefix a.board.seen b.board.seen
    × (b ≡ record a { board = b.board })

-- what is asked is done: an order is given once, at its operator's seat, as this session's and with this tag; any other
-- question gives no order, and is answered to this session
abbrev pub Does : Hierarchy → Option Instant → Option Tag → List ℕ → Option SessionRequest → ServiceState → SessionState
    → ServiceState → SessionState → Type 0
Does h now tag text (Some (request.Order operator order)) a c b d =
    Gives operator (record { session = c.number; tag = tag; order = order; since = now }) a.seats (beginning tag c)
    b.seats d × (b ≡ record a { seats = b.seats })
Does h now tag text (Some (request.Will will)) a c b d =
    (d ≡ with_reply tag (will_text h will) (with_will will c)) × (b ≡ a)
Does h now tag text (Some (request.Show object)) a c b d = Shows h tag object a c b d
Does h now tag text (Some (request.Query query)) a c b d = Answers h now tag (words text) query a c d × (b ≡ a)
Does h now tag text (Some request.Withdraw) a c b d =
    Withdraws tag (named_tag (words text)) a.seats c b.seats d × (b ≡ record a { seats = b.seats })
Does h now tag text None a c b d = (d ≡ c) × (b ≡ a)

-- a line is refused: its session is told its fault, and no order is given
abbrev pub Refuses : Hierarchy → Option Tag → ℕ → List ℕ → Fault → ServiceState → SessionState → ServiceState
    → SessionState → Type 0
Refuses h tag number text fault a c b d =
    (d ≡ with_fault h a.seats.operators tag number text fault c) × (b ≡ a)

abbrev pub HandlesSo : Hierarchy → Option Instant → Option Tag → ℕ → List ℕ → Result (Option SessionRequest) Fault
    → ServiceState → SessionState → ServiceState → SessionState → Type 0
HandlesSo h now tag number text (Ok asked) a c b d = Does h now tag text asked a (admitted asked c) b d
HandlesSo h now tag number text (Err fault) a c b d =
    Refuses h tag number text fault a (judged (is_some tag) (words text) c) b d

-- a line is handled: what it asks is done, or its fault told; and what it shows of its session is noted
abbrev pub Handles : Hierarchy → Option Instant → Option Tag → ℕ → List ℕ → ServiceState → SessionState → ServiceState
    → SessionState → Type 0
Handles h now tag number text a c b d =
    HandlesSo h now tag number text (request_of_line h a.seats.operators c.style (is_some tag) text) a c b d

-- the first line that waits is handled, if no order of a line without a tag is pending and none is deferred
abbrev pub HandlesNext : Hierarchy → Option Instant → ServiceState → SessionState → ServiceState → SessionState → Type 0
HandlesNext h now a c b d = (line : LineAt) × (e : SessionState) × (may_go_on c ≡ true)
    × (c ≡ record e { waiting = line ∷ e.waiting }) × Handles h now None line.number line.line a e b d

-- this many lines that waited are handled, one after the other
abbrev pub HandlesSoMany : Hierarchy → Option Instant → ℕ → ServiceState → SessionState → ServiceState
    → SessionState → Type 0
HandlesSoMany h now zero a c b d = (b ≡ a) × (d ≡ c)
HandlesSoMany h now (suc n) a c b d =
    (m : ServiceState) × (e : SessionState) × HandlesSoMany h now n a c m e × HandlesNext h now m e b d

-- lines that wait are handled, until one holds up the others, or 64 were
abbrev pub HandlesWaiting : Hierarchy → Option Instant → ServiceState → SessionState → ServiceState → SessionState
    → Type 0
HandlesWaiting h now a c b d = (n : ℕ) × HandlesSoMany h now n a c b d × ((n ≡ 64) ⊎ (may_go_on d ≡ false))

-- first, an order that was deferred is given
abbrev pub Resumes : Hierarchy → Option Instant → ServiceState → SessionState → ServiceState → SessionState → Type 0
Resumes h now a c b d = (m : ServiceState) × (e : SessionState) × GivesDeferred a.seats c m.seats e
    × (m ≡ record a { seats = m.seats }) × HandlesWaiting h now m e b d

-- no order was given but by lines that were handled; nothing is said of what the session is told
abbrev pub HandlesSome : Hierarchy → Option Instant → ServiceState → SessionState → ServiceState → Type 0
HandlesSome h now a c b =
    (n : ℕ) × (m : ServiceState) × (e : SessionState) × HandlesSoMany h now n a c m e × (b.seats ≡ m.seats)

abbrev pub ResumesPart : Hierarchy → Option Instant → ServiceState → SessionState → ServiceState → Type 0
ResumesPart h now a c b =
    (m : ServiceState) × (e : SessionState) × GivesDeferred a.seats c m.seats e × HandlesSome h now m e b

-- the tag of a line that is not too long
abbrev pub tag_in_line : List ℕ → Option (List ℕ)
tag_in_line line = if nat_lt MOST_BYTES_OF_A_LINE (length line) then None else tag_of (words line)

-- what follows the tag of a line is handled
abbrev pub HandlesTagged : Hierarchy → Option Instant → List ℕ → List ℕ → ServiceState → SessionState → ServiceState
    → SessionState → Type 0
HandlesTagged h now spelled line a c b d = (tag : Tag) × (text : List ℕ) × (tag_text tag ≡ spelled)
    × (words line ≡ (64 ∷ spelled) ∷ words text) × Handles h now (Some tag) (next_line c) text a (counted c) b d

abbrev pub HandlesLineSo : Hierarchy → Option Instant → Option (List ℕ) → List ℕ → ServiceState → SessionState
    → ServiceState → SessionState
    → Type 0
HandlesLineSo h now (Some spelled) line a c b d = HandlesTagged h now spelled line a c b d
HandlesLineSo h now None line a c b d = Resumes h now a (waits (next_line c) line (counted c)) b d

-- one with a tag is handled at once, any other waits for those before it
abbrev pub HandlesLine : Hierarchy → Option Instant → List ℕ → ServiceState → SessionState → ServiceState
    → SessionState → Type 0
HandlesLine h now line a c b d = HandlesLineSo h now (tag_in_line line) line a c b d

abbrev pub ReceivesUnless : Bool → Hierarchy → Option Instant → List ℕ → ServiceState → SessionState → ServiceState
    → SessionState → Type 0
ReceivesUnless false h now line a c b d = HandlesLine h now line a c b d
ReceivesUnless true h now line a c b d = (b ≡ a) × (d ≡ c)

-- a line is read; with one of a session that is refused nothing is done
abbrev pub Receives : Hierarchy → Option Instant → List ℕ → ServiceState → SessionState → ServiceState
    → SessionState → Type 0
Receives h now line a c b d = ReceivesUnless (is_refused c.trust) h now line a c b d

-- memory was refused: no order was given, or those of the lines before
abbrev pub ReceivesPart : Hierarchy → Option Instant → List ℕ → ServiceState → SessionState → ServiceState → Type 0
ReceivesPart h now line a c b =
    (b.seats ≡ a.seats) ⊎ ResumesPart h now a (waits (next_line c) line (counted c)) b
