-- An order that its session takes back.
use Rattle.std.specs.Prelude.{ℕ, ◌≡◌, ◌==◌, ◌&&◌, ◌||◌, Bool, true, false, List, [], ◌∷◌, ◌++◌, codes, remove}
use Rattle.std.specs.Prelude.{Option, Some, None, is_some, if◌then◌else◌}
use Rattle.std.specs.List.{list_any, position}
use Rattle.std.specs.Str.{bytes_eq}
use Rattle.smi_session.specs.SeatTable.{SeatTableState}
use Rattle.smi_session.specs.Session.{SessionState, with_reply}
use Rattle.smi_session.specs.Tag.{tag_text}
use Rattle.smi_session.specs.declared.seat_queue.PendingOrder.{PendingOrder}
use Rattle.smi_session.specs.declared.session.Deferred.{Deferred}
use Rattle.smi_session.specs.declared.tag.Tag.{Tag}
use Rattle.smi_session.specs.declared.withdrawal.Withdrawal.{Withdrawal}
use Rattle.smi_session.specs.declared.withdrawal.Withdrawal.TheVariants.{Withdrawn, Begun, Unknown}

-- the tag that a line names after its first word
abbrev pub named_tag : List (List ℕ) → List ℕ
named_tag [] = []
named_tag (verb ∷ []) = []
named_tag (verb ∷ tag ∷ more) = tag

-- a line of this session and tag gave the order
abbrev pub is_tagged : List ℕ → Option Tag → Bool
is_tagged tag None = false
is_tagged tag (Some own) = bytes_eq (tag_text own) tag

abbrev pub is_of : ℕ → List ℕ → PendingOrder → Bool
is_of session tag p = p.session == session && is_tagged tag p.tag

abbrev pub waits_of : ℕ → List ℕ → Deferred → Bool
waits_of session tag x = is_of session tag x.pending

-- a session keeps an order of this tag
abbrev pub keeps_of : ℕ → List ℕ → Option Deferred → Bool
keeps_of session tag None = false
keeps_of session tag (Some x) = waits_of session tag x

abbrev pub has_deferred : List ℕ → SessionState → Bool
has_deferred tag c = keeps_of c.number tag c.deferred

-- an order that waits can be taken back, and one that was submitted at a seat can't
abbrev pub withdrawal_of : List ℕ → SeatTableState → SessionState → Withdrawal
withdrawal_of tag t c =
    if is_some (position (waits_of c.number tag) t.held) || has_deferred tag c then Withdrawn
    else (if list_any (λ q. list_any (is_of c.number tag) q.pending) t.queues then Begun else Unknown)

-- the order at this place of those that wait is none any more, or else the one that the session keeps
abbrev pub TakesAt : Option ℕ → List ℕ → SeatTableState → SessionState → SeatTableState → SessionState → Type 0
TakesAt (Some place) tag a c b d = (b ≡ record a { held = remove a.held place }) × (d ≡ c)
TakesAt None tag a c b d =
    (b ≡ a) × (d ≡ record c { deferred = (if has_deferred tag c then None else c.deferred) })

-- the oldest order of this session and tag that waits does not wait any more
abbrev pub TakesBack : List ℕ → SeatTableState → SessionState → SeatTableState → SessionState → Type 0
TakesBack tag a c b d = TakesAt (position (waits_of c.number tag) a.held) tag a c b d

-- what the line of an order is told that was taken back
abbrev pub withdrawn_text : List ℕ → List ℕ
withdrawn_text tag = 64 ∷ tag ++ 32 ∷ codes "withdrawn" ++ 10 ∷ []

-- what is answered to the line that names its tag
abbrev pub word_of : Withdrawal → List ℕ
word_of Withdrawn = codes "withdrawn"
word_of Begun = codes "begun"
word_of Unknown = codes "unknown"

abbrev pub withdrawal_text : Withdrawal → List ℕ → List ℕ
withdrawal_text what tag = word_of what ++ 32 ∷ tag ++ 10 ∷ []

abbrev pub told_of : Withdrawal → List ℕ → SessionState → SessionState
told_of Withdrawn tag c = with_reply None (withdrawn_text tag) c
told_of Begun tag c = c
told_of Unknown tag c = c

-- The order of this tag is taken back if it waits: then its line is told so first. The line that asked for it is told
-- what came of that.
abbrev pub Withdraws : Option Tag → List ℕ → SeatTableState → SessionState → SeatTableState → SessionState → Type 0
Withdraws tag named a c b d =
    TakesBack named a (with_reply tag (withdrawal_text (withdrawal_of named a c) named)
    (told_of (withdrawal_of named a c) named c)) b d
