-- What an audit keeps of a trace, which entry it takes next, and what it keeps then.
use Rattle.std.specs.Prelude.{ℕ, ◌≡◌, zero, suc, ◌+◌, ◌-◌, ◌%◌, ◌==◌, ◌&&◌, nat_lt, Bool, true, false, if◌then◌else◌}
use Rattle.std.specs.Prelude.{List, [], ◌∷◌, ◌++◌, length, Option, Some, None, is_some}
use Rattle.std.specs.Option.{option_map_or}
use Rattle.std.specs.List.{list_any}
use Rattle.smi_base.specs.declared.trees.TheConstants.{MOST_LEVELS}
use Rattle.smi_grant.specs.Command.{verb_of, argument_of}
use Rattle.smi_grant.specs.Holder.{is_free, same_holder}
use Rattle.smi_grant.specs.declared.Command.{Command}
use Rattle.smi_grant.specs.declared.Command.TheVariants.{Do, Include, Exclude, Manual, Ignore}
use Rattle.smi_grant.specs.declared.Holder.{Holder}
use Rattle.smi_grant.specs.declared.Holder.TheVariants.{Free, Operator, Domain}
use Rattle.smi_grant.specs.declared.Shown.{Shown}
use Rattle.smi_grant.specs.declared.Version.{Version}
use Rattle.smi_tree.specs.Hierarchy.{Hierarchy}
use Rattle.smi_tree.specs.Lookups.{accepts, is_below, operator_station_of, parent_of}
use Rattle.smi_tree.specs.Roles.{has_domain, has_object}
use Rattle.smi_view.specs.Accepting.{is_newer}
use Rattle.smi_protocol.specs.Children.{is_commanded}
use Rattle.smi_protocol.specs.Grants.{put}
use Rattle.smi_protocol.specs.declared.Entry.{Entry}
use Rattle.smi_protocol.specs.declared.Entry.TheVariants as entry
use Rattle.smi_rows.specs.declared.Mode.{Mode}
use Rattle.smi_rows.specs.declared.Mode.TheVariants as mode
use Rattle.smi_audit.specs.Teller.{has_station}
use Rattle.smi_audit.specs.declared.last_shown.LastShown.{LastShown}
use Rattle.smi_audit.specs.declared.stage.GrantStage.{GrantStage}
use Rattle.smi_audit.specs.declared.stage.GrantStage.TheVariants.{Given, Held, Gone}

-- Of a domain.

-- its epoch and holder, how far the holder has come with its grant, what an operator ordered under the grant, how
-- many commands ran under it, which of them is in work, and the mode in which it is held
pub record Account : Type 0 where
  pub epoch : ℕ
  pub holder : Holder
  pub stage : GrantStage
  pub orders : List Command
  pub ran : ℕ
  pub work : Option Command
  pub mode : Mode

-- a domain has changed hands
abbrev pub begun : ℕ → Holder → Account
begun e who = record {
  epoch = e;
  holder = who;
  stage = Given;
  orders = [];
  ran = 0;
  work = None;
  mode = mode.Included;
}

abbrev pub is_given : GrantStage → Bool
is_given Given = true
is_given Held = false
is_given Gone = false

abbrev pub is_held : GrantStage → Bool
is_held Given = false
is_held Held = true
is_held Gone = false

abbrev pub is_gone : GrantStage → Bool
is_gone Given = false
is_gone Held = false
is_gone Gone = true

-- nobody has learned of a grant and not let go of it
abbrev pub is_loose : GrantStage → Bool
is_loose Given = true
is_loose Held = false
is_loose Gone = true

abbrev pub same_command : Command → Command → Bool
same_command a b = verb_of a == verb_of b && argument_of a == argument_of b

-- the command of a number, from 1
abbrev pub order_at : List Command → ℕ → List Command
order_at [] n = []
order_at (c ∷ more) n = if n == 1 then c ∷ [] else order_at more (n - 1)

-- it is this one command
abbrev pub is_only : List Command → Command → Bool
is_only [] c = false
is_only (k ∷ []) c = same_command k c
is_only (k ∷ l ∷ more) c = false

-- it is at work on this command
abbrev pub works_on : Option Command → Command → Bool
works_on None c = false
works_on (Some k) c = same_command k c

-- Of an object.

-- a station was shown nothing; a version just now; or before it started
abbrev pub unseen : LastShown
unseen = record { last = None; since = false }

abbrev pub seen_now : Version → LastShown
seen_now v = record { last = Some v; since = true }

abbrev pub seen_before : LastShown → LastShown
seen_before g = record { last = g.last; since = false }

abbrev pub is_not_older : Version → Version → Bool
is_not_older a b = if is_newer a b then true else (a.boot == b.boot && a.sequence == b.sequence)

-- a version may be shown next
abbrev pub comes_next : LastShown → Version → Bool
comes_next g v =
    option_map_or (λ last. if g.since then is_newer v last else is_not_older v last) g.last true

abbrev pub same_shown : Shown → Shown → Bool
same_shown a b =
    a.object == b.object && (a.version.boot == b.version.boot && (a.version.sequence == b.version.sequence
    && a.state == b.state))

abbrev pub has_passed : List Shown → Shown → Bool
has_passed passed s = list_any (λ x. same_shown x s) passed

-- a version is newer than all that an object has passed, the newest of which stands first
abbrev pub passes_next : List Shown → Version → Bool
passes_next [] v = true
passes_next (x ∷ more) v = is_newer v x.version

-- each version is newer than those behind it
abbrev pub IsFalling : List Shown → Type 0
IsFalling [] = Unit {0}
IsFalling (x ∷ more) = (passes_next more x.version ≡ true) × IsFalling more

-- Of all.

pub record Tables : Type 0 where
  pub domains : ℕ → Account
  pub passed : ℕ → List Shown
  pub shown : ℕ → ℕ → LastShown
  pub boots : ℕ → ℕ

abbrev pub no_trace : Tables
no_trace = record {
  domains = λ d. begun 0 Free;
  passed = λ x. [];
  shown = λ s x. unseen;
  boots = λ s. 0;
}

-- Which entry is taken.

-- the tree has the domain, the station and the object that an entry is about
abbrev pub is_known : Hierarchy → Entry → Bool
is_known h (entry.Booted s b) = has_station h s
is_known h (entry.Granted d e who) = has_domain h d
is_known h (entry.Freed d e) = has_domain h d
is_known h (entry.Ordered o d e n c) = has_domain h d
is_known h (entry.Ran d e n c) = has_domain h d
is_known h (entry.Learned who d e) = has_domain h d
is_known h (entry.LetGo who d e) = has_domain h d
is_known h (entry.InMode d m) = has_domain h d
is_known h (entry.Settled d e n x) = has_domain h d
is_known h (entry.Showed s shown) = has_station h s && has_object h shown.object
is_known h (entry.Passed shown) = has_object h shown.object
is_known h (entry.Told o told) = true

abbrev pub may_hold : Hierarchy → ℕ → Holder → Bool
may_hold h d Free = false
may_hold h d (Operator o) = is_some (operator_station_of h o)
may_hold h d (Domain p) = option_map_or (λ q. q == p) (parent_of h d) false

abbrev pub takes_grant : Hierarchy → ℕ → Account → ℕ → Holder → Bool
takes_grant h d s e who = e == s.epoch + 1 && (e % 2 == 1 && (may_hold h d who && is_loose s.stage))

abbrev pub takes_end : Account → ℕ → Bool
takes_end s e = e == s.epoch + 1 && (e % 2 == 0 && is_gone s.stage)

abbrev pub takes_order : Account → ℕ → ℕ → ℕ → Bool
takes_order s o e n =
    same_holder s.holder (Operator o) && (e == s.epoch && (n == length s.orders + 1 && is_held s.stage))

-- the command that is at work ends (a safe trace may say otherwise; no station does)
abbrev pub takes_settled : Account → ℕ → ℕ → Bool
takes_settled s e n = e == s.epoch && (n == s.ran && is_some s.work)

abbrev pub takes_learned : Account → Holder → ℕ → Bool
takes_learned s who e =
    e == s.epoch && (same_holder s.holder who && (is_given s.stage && (if is_free who then false else true)))

abbrev pub takes_let_go : Account → Holder → ℕ → Bool
takes_let_go s who e = e == s.epoch && (same_holder s.holder who && is_held s.stage)

-- a domain hands a command on to a child
abbrev pub forwards : Hierarchy → ℕ → Command → ℕ → Bool
forwards h p (Do a) d = accepts h p a
forwards h p (Include t) d = is_below h t d
forwards h p (Exclude t) d = is_below h t d
forwards h p (Manual t) d = is_below h t d
forwards h p (Ignore t) d = is_below h t d

-- the holder of a domain backs its command, by its order or by what it works on itself; `above` says whether
-- the holder's own command rests on current grants
abbrev pub is_behind : Hierarchy → (ℕ → Account) → ℕ → ℕ → Command → (ℕ → Bool) → Holder → Bool
is_behind h domains d n c above Free = false
is_behind h domains d n c above (Operator o) = is_only (order_at (domains d).orders n) c
is_behind h domains d n c above (Domain p) =
    may_hold h d (Domain p) && (is_commanded (domains d).mode && (works_on (domains p).work c && (forwards h p c d
    && above p)))

-- a command rests on current grants, at most this many levels up
unfoldable pub rests : ℕ → Hierarchy → (ℕ → Account) → ℕ → ℕ → Command → Bool
rests zero h domains d n c = false
rests (suc more) h domains d n c =
    is_held (domains d).stage
    && is_behind h domains d n c (λ p. rests more h domains p (domains p).ran c) (domains d).holder

abbrev pub takes_run : Hierarchy → (ℕ → Account) → ℕ → ℕ → ℕ → Command → Bool
takes_run h domains d e n c =
    e == (domains d).epoch && (n == (domains d).ran + 1 && rests MOST_LEVELS h domains d n c)

abbrev pub takes : Hierarchy → Tables → Entry → Bool
takes h t (entry.Booted s b) = nat_lt (t.boots s) b
takes h t (entry.Granted d e who) = takes_grant h d (t.domains d) e who
takes h t (entry.Freed d e) = takes_end (t.domains d) e
takes h t (entry.Ordered o d e n c) = takes_order (t.domains d) o e n
takes h t (entry.Ran d e n c) = takes_run h t.domains d e n c
takes h t (entry.Learned who d e) = takes_learned (t.domains d) who e
takes h t (entry.LetGo who d e) = takes_let_go (t.domains d) who e
takes h t (entry.InMode d m) = true
takes h t (entry.Settled d e n x) = takes_settled (t.domains d) e n
takes h t (entry.Showed s shown) =
    has_passed (t.passed shown.object) shown && comes_next (t.shown s shown.object) shown.version
takes h t (entry.Passed shown) = passes_next (t.passed shown.object) shown.version
takes h t (entry.Told o told) = true

-- What is kept then.

abbrev pub ordered : Account → Command → Account
ordered s c = record s { orders = s.orders ++ c ∷ [] }

abbrev pub ran : Account → ℕ → Command → Account
ran s n c = record s { ran = n; work = Some c }

abbrev pub learned : Account → Account
learned s = record s { stage = Held; mode = mode.Included }

abbrev pub let_go : Account → Account
let_go s = record s { stage = Gone }

abbrev pub in_mode : Account → Mode → Account
in_mode s m = record s { mode = m }

abbrev pub settled : Account → ℕ → ℕ → Account
settled s e n = record s { work = if e == s.epoch && n == s.ran then None else s.work }

abbrev pub with_domain : Tables → ℕ → Account → Tables
with_domain t d s = record t { domains = put t.domains d s }

-- nothing was shown to a station since it started
abbrev pub started : (ℕ → ℕ → LastShown) → ℕ → ℕ → ℕ → LastShown
started shown s station x =
    if station == s then seen_before (shown station x) else shown station x

abbrev pub showed_now : (ℕ → ℕ → LastShown) → ℕ → Shown → ℕ → ℕ → LastShown
showed_now shown s seen station x =
    if station == s && x == seen.object then seen_now seen.version else shown station x

abbrev pub kept : Tables → Entry → Tables
kept t (entry.Booted s b) = record t { shown = started t.shown s; boots = put t.boots s b }
kept t (entry.Granted d e who) = with_domain t d (begun e who)
kept t (entry.Freed d e) = with_domain t d (begun e Free)
kept t (entry.Ordered o d e n c) = with_domain t d (ordered (t.domains d) c)
kept t (entry.Ran d e n c) = with_domain t d (ran (t.domains d) n c)
kept t (entry.Learned who d e) = with_domain t d (learned (t.domains d))
kept t (entry.LetGo who d e) = with_domain t d (let_go (t.domains d))
kept t (entry.InMode d m) = with_domain t d (in_mode (t.domains d) m)
kept t (entry.Settled d e n x) = with_domain t d (settled (t.domains d) e n)
kept t (entry.Showed s seen) = record t { shown = showed_now t.shown s seen }
kept t (entry.Passed seen) = record t { passed = put t.passed seen.object (seen ∷ t.passed seen.object) }
kept t (entry.Told o told) = t
