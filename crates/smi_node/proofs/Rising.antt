-- Whatever a node does, its board goes back of no object.
use Rattle.std.proofs.Common.{ℕ, zero, suc, ◌≡◌, Bool, true, false, List, [], ◌∷◌, ◌++◌, ◌⊎◌, inl, inr, refl, sym, ap}
use Rattle.std.proofs.Common.{◌∙◌, subst, append-nil, append_assoc}
use Rattle.std.specs.Prelude.{◌==◌, Option, Some, None, Result, Ok, Err, if◌then◌else◌}
use Rattle.std.specs.Option.{option_or}
use Rattle.std.proofs.lemmas.Bool.{eqb-true}
use Rattle.smi_grant.specs.declared.state.Shown.{Shown}
use Rattle.smi_grant.specs.declared.state.Version.{Version}
use Rattle.smi_view.specs.Accepting.{is_newer_than_last}
use Rattle.smi_view.specs.Rising.{IsRising}
use Rattle.smi_view.specs.Rows.{last_row}
use Rattle.smi_view.specs.Shows.{BoardShows}
use Rattle.smi_protocol.specs.Step.{Out}
use Rattle.smi_protocol.specs.declared.event.Event.{Event}
use Rattle.smi_protocol.specs.declared.event.Event.TheVariants as event
use Rattle.smi_protocol.specs.declared.event.Heard.{Heard}
use Rattle.smi_protocol.specs.declared.event.StepFault.{StepFault}
use Rattle.smi_protocol.specs.declared.order.Order.{Order}
use Rattle.smi_operator.specs.Sides.{seat_count}
use Rattle.smi_station.specs.Core.{is_stopped_by}
use Rattle.smi_node.specs.Carried.{Edges, Follows, FollowsStep, Node, asker_of, code_of, is_report}
use Rattle.smi_node.specs.Rising.{IsBlank, IsRisen, rows_of}
use Rattle.smi_node.specs.Served.{Breaks, Coming, Came, Ends, Failed, Hears, Obeys, ObeysGiven, Quiet, ServesAll}
use Rattle.smi_node.specs.Served.{Serves, ServesSeat, ServesSeats, TakesTurns, Turns, carrying, event_of}
use Rattle.smi_node.specs.Served.{operator_of_seat, with_desk, with_link}
use Rattle.smi_node.specs.Shown.{Publishes, Refuses}
use Rattle.smi_node.specs.declared.node.CarryFault.{CarryFault}
use Rattle.smi_node.specs.declared.node.CarryFault.TheVariants.{Stopped, Memory}
use Rattle.smi_node.specs.declared.turns.ServeFault.{ServeFault}
use Rattle.smi_node.specs.declared.turns.ServeFault.TheVariants as serve
use Rattle.smi_node.proofs.Showing.{Shows}

-- Rows.

-- the last row of an object once one more has come
last_more : (rows : List Shown) (row : Shown) (o : ℕ)
    → last_row o (rows ++ row ∷ []) ≡ (if row.object == o then Some row else last_row o rows)
last_more [] row o = by (row.object == o)
  where
    by : (b : Bool) → option_or None (if b then Some row else None) ≡ (if b then Some row else None)
    by true = refl
    by false = refl
last_more (r ∷ rows) row o =
    ap (λ (x : Option Shown). option_or x (if r.object == o then Some r else None)) (last_more rows row o)
    ∙ by (row.object == o)
  where
    by : (b : Bool) → option_or (if b then Some row else last_row o rows) (if r.object == o then Some r else None)
        ≡ (if b then Some row else option_or (last_row o rows) (if r.object == o then Some r else None))
    by true = refl
    by false = refl

-- a row of a list with one more at the end is that one, or one of those before
split : (rows front rest : List Shown) (x row : Shown) → rows ++ x ∷ [] ≡ front ++ row ∷ rest
    → ((more : List Shown) × (rows ≡ front ++ row ∷ more)) ⊎ ((rows ≡ front) × (x ≡ row))
split [] [] rest x row is = inr (refl, cc)
split [] (y ∷ []) rest x row is = absurd (let none : [] ≡ row ∷ rest = cc in cc)
split [] (y ∷ z ∷ front) rest x row is = absurd (let none : [] ≡ z ∷ (front ++ row ∷ rest) = cc in cc)
split (r ∷ rows) [] rest x row is = inl (rows, let same : r ≡ row = cc in ap (λ (y : Shown). y ∷ rows) same)
split (r ∷ rows) (y ∷ front) rest x row is =
    let same : r ≡ y = cc in
    let tails : rows ++ x ∷ [] ≡ front ++ row ∷ rest = cc in
    elim (split rows front rest x row tails) [
      | inl more ↦ inl (more.0, ap (λ (z : Shown). z ∷ rows) same ∙ ap (λ (zs : List Shown). y ∷ zs) more.1)
      | inr last ↦ inr (ap (λ (z : Shown). z ∷ rows) same ∙ ap (λ (zs : List Shown). y ∷ zs) last.0, last.1)
    ]

rising_more : (rows : List Shown) (x : Shown) → IsRising rows
    → is_newer_than_last (last_row x.object rows) x.version ≡ true → IsRising (rows ++ x ∷ [])
rising_more rows x rising news front rest row is = elim (split rows front rest x row is) [
  | inl more ↦ rising front more.0 row more.1
  | inr last ↦ subst (λ (fs : List Shown). is_newer_than_last (last_row row.object fs) row.version ≡ true) last.0
      (subst (λ (z : Shown). is_newer_than_last (last_row z.object rows) z.version ≡ true) last.1 news)
]

-- a beginning of rows that rise rises
rising_before : (rows more : List Shown) → IsRising (rows ++ more) → IsRising rows
rising_before rows more rising front rest row is =
    rising front (rest ++ more) row (ap (λ (xs : List Shown). xs ++ more) is ∙ append_assoc front (row ∷ rest) more)

-- The board.

-- its rows stay, or what was shown is the last of them
abbrev Grows : Option Shown → List Shown → List Shown → Type 0
Grows showed before after = (after ≡ before) ⊎ ((s : Shown) × (showed ≡ Some s) × (after ≡ before ++ s ∷ []))

put_on : (o : Option Shown) (a b : BoardShows) → Publishes o a b → Grows o (rows_of a) (rows_of b)
put_on None a b same = inl (ap rows_of same)
put_on (Some s) a b shown =
    inr (s, refl, whole ∙ append-nil (rows_of a ++ s ∷ []))
  where
    whole : rows_of b ≡ (rows_of a ++ s ∷ []) ++ []
    whole = ap rows_of shown

refused_on : (o : Option Shown) (a b : BoardShows) → Refuses o a b → Grows o (rows_of a) (rows_of b)
refused_on None a b wrong = absurd wrong
refused_on (Some s) a b (same, inl still, counted) =
    inl (ap (λ (xs : List Shown). xs ++ b.pending) same ∙ ap (λ (xs : List Shown). a.publications ++ xs) still)
refused_on (Some s) a b (same, inr more, counted) =
    inr (
      s,
      refl,
      ap (λ (xs : List Shown). xs ++ b.pending) same
          ∙ ap (λ (xs : List Shown). a.publications ++ xs) more ∙ sym (append_assoc a.publications a.pending (s ∷ [])),
    )

-- what was shown was news to the station, and is the last row of its object from then on
stays_risen : (before after : ℕ → Option Shown) (showed : Option Shown) (a b : BoardShows) → Shows before after showed
    → Grows showed (rows_of a) (rows_of b) → IsRisen before a → IsRisen after b
stays_risen before after showed a b shows (inl same) risen = record {
  rising = subst IsRising (sym same) risen.rising;
  behind = λ x v is. subst (λ (rows : List Shown). is_newer_than_last (last_row x rows) v ≡ true) (sym same)
      (risen.behind x v (shows.table x v is));
}
stays_risen before after showed a b shows (inr more) risen = record {
  rising = subst IsRising (sym more.2) (rising_more (rows_of a) more.0 risen.rising
      (risen.behind more.0.object more.0.version (shows.first more.0 more.1)));
  behind = λ x v is. subst (λ (rows : List Shown). is_newer_than_last (last_row x rows) v ≡ true) (sym more.2)
      (subst (λ (o : Option Shown). is_newer_than_last o v ≡ true) (sym (last_more (rows_of a) more.0 x))
      (placed x v (more.0.object == x) refl is));
}
  where
    placed : (x : ℕ) (v : Version) (c : Bool) → (more.0.object == x) ≡ c → is_newer_than_last (after x) v ≡ true
        → is_newer_than_last (if c then Some more.0 else last_row x (rows_of a)) v ≡ true
    placed x v true at is = shows.newer v more.0
        (subst (λ (n : ℕ). is_newer_than_last (after n) v ≡ true) (sym (eqb-true more.0.object x at)) is) more.1
    placed x v false at is = risen.behind x v (shows.table x v is)

pub published : (shown : ℕ → Option Shown) (b : BoardShows) → IsRisen shown b → IsRising b.publications
published shown b risen = rising_before b.publications b.pending risen.rising

nothing_before : (front rest : List Shown) (row : Shown) → [] ≡ front ++ row ∷ rest → ⊥
nothing_before [] rest row is = cc
nothing_before (x ∷ front) rest row is = cc

pub blank : (shown : ℕ → Option Shown) (b : BoardShows) → IsBlank b → IsRisen shown b
blank shown b is =
    let none : rows_of b ≡ [] = ap (λ (xs : List Shown). xs ++ b.pending) is.0 ∙ is.1 in
    record {
      rising = subst IsRising (sym none) (λ front rest row at. absurd (nothing_before front rest row at));
      behind = λ x v news. subst (λ (rows : List Shown). is_newer_than_last (last_row x rows) v ≡ true) (sym none) refl;
    }

-- What a node does, over any way to step that shows only news.

module _ (T : Type 0) (S : T → Event → T → Out → Result Heard StepFault → Type 0) (at : T → ℕ → Option Shown)
    (shows : (a b : T) (e : Event) (handed : Out) (r : Result Heard StepFault) → S a e b handed r
    → Shows (at a) (at b) handed.shown) where
  abbrev Risen : Node T → Type 0
  Risen n = IsRisen (at n.station) n.edges.board

  follows : (operators : List ℕ) (seat code asker : Option ℕ) (handed : Out) (a b : Edges) (f : Option CarryFault)
      → Follows operators seat code asker handed a b f → Grows handed.shown (rows_of a.board) (rows_of b.board)
  follows operators seat code asker handed a b None all = put_on handed.shown a.board b.board all.shown
  follows operators seat code asker handed a b (Some Stopped) wrong = absurd wrong
  follows operators seat code asker handed a b (Some Memory) most = refused_on handed.shown a.board b.board most.refused

  follows_step : (stopped : Bool) (operators : List ℕ) (seat code asker : Option ℕ) (handed : Out) (a b : Edges)
      (f : Option CarryFault) → FollowsStep stopped operators seat code asker handed a b f
      → Grows handed.shown (rows_of a.board) (rows_of b.board)
  follows_step true operators seat code asker handed a b f none = inl (ap (λ (e : Edges). rows_of e.board) none.1)
  follows_step false operators seat code asker handed a b f all = follows operators seat code asker handed a b f all

  carried : (operators : List ℕ) (e : Event) (seat : Option ℕ) (a b : Node T) (f : Option CarryFault)
      → carrying S operators e seat a b f → Risen a → Risen b
  carried operators e seat a b f c = stays_risen (at a.station) (at b.station) c.0.shown a.edges.board b.edges.board
      (shows a.station b.station e c.0 c.1.made c.1.steps)
      (follows_step (is_stopped_by c.1.made) operators seat (code_of (is_report e) c.1.made) (asker_of e) c.0 a.edges
      b.edges f
      c.1.follows)

  obeys : (operators : List ℕ) (seat : ℕ) (e : Option Event) (a b : Node T) (f : Option CarryFault)
      → Obeys (carrying S operators) seat e a b f → Risen a → Risen b
  obeys operators seat (Some e) a b f c = carried operators e (Some seat) a b f c
  obeys operators seat None a b f told = λ risen. subst Risen (sym told.3) risen

  given : (operators : List ℕ) (who : Option ℕ) (seat : ℕ) (what : Option Order) (a b : Node T)
      (f : Option CarryFault) → ObeysGiven (carrying S operators) who seat what a b f → Risen a → Risen b
  given operators who seat (Some what) a b f c = obeys operators seat (event_of who what) a b f c
  given operators who seat None a b f none = λ risen. subst Risen (sym none.1) risen

  seat : (operators : List ℕ) (who : Option ℕ) (n : ℕ) (a b : Node T) (f : Option CarryFault)
      → ServesSeat (carrying S operators) who n a b f → Risen a → Risen b
  seat operators who n a b f served = given operators who n served.0 (with_desk a served.1) b f served.4

  seats : (operators : List ℕ) (all many : ℕ) (a b : Node T) → ServesSeats (carrying S operators) operators all many a b
      → Risen a → Risen b
  seats operators all zero a b same = λ risen. subst Risen (sym same) risen
  seats operators all (suc n) a b served = λ risen.
      seat operators (operator_of_seat operators all n) n served.0 b None served.2
      (seats operators all n a served.0 served.1 risen)

  seats_all : (operators : List ℕ) (all : ℕ) (a b : Node T) (f : Option CarryFault)
      → ServesAll (carrying S operators) operators all a b f → Risen a → Risen b
  seats_all operators all a b None served = seats operators all all a b served
  seats_all operators all a b (Some f) served = λ risen.
      seat operators (operator_of_seat operators all served.0) served.0 served.2 b (Some f) served.4
      (seats operators all served.0 a served.2 served.3 risen)

  hears : (operators : List ℕ) (coming : Coming) (a b : Node T) (f : Option CarryFault)
      → Hears (carrying S operators) coming a b f → Risen a → Risen b
  hears operators (Came bytes) a b f heard = carried operators heard.2 None (with_link a heard.0) b f heard.4
  hears operators Quiet a b f heard = carried operators event.Tick None (with_link a heard.0) b f heard.2
  hears operators Failed a b f heard = λ risen. subst Risen (sym heard.3) risen

  turn : (operators : List ℕ) (coming : Coming) (a b : Node T) (f : Option CarryFault)
      → Turns (carrying S operators) operators coming a b f → Risen a → Risen b
  turn operators coming a b None made = λ risen.
      seats_all operators (seat_count made.0.edges.desk) made.0 b None made.2
      (hears operators coming a made.0 None made.1 risen)
  turn operators coming a b (Some f) (inl heard) = hears operators coming a b (Some f) heard
  turn operators coming a b (Some f) (inr made) = λ risen.
      seats_all operators (seat_count made.0.edges.desk) made.0 b (Some f) made.2
      (hears operators coming a made.0 None made.1 risen)

  turns : (operators : List ℕ) (comings : List Coming) (a b : Node T)
      → TakesTurns (carrying S operators) operators comings a b → Risen a → Risen b
  turns operators [] a b same = λ risen. subst Risen (sym same) risen
  turns operators (coming ∷ more) a b taken = λ risen.
      turn operators coming taken.0 b None taken.2 (turns operators more a taken.0 taken.1 risen)

  breaks : (operators : List ℕ) (n : ℕ) (comings : List Coming) (f : CarryFault) (a b : Node T)
      → Breaks (carrying S operators) operators n comings f a b → Risen a → Risen b
  breaks operators n comings f a b broken = λ risen.
      turn operators broken.3 broken.1 b (Some f) broken.4 (turns operators comings a broken.1 broken.2 risen)

  ends : (operators : List ℕ) (n : ℕ) (comings : List Coming) (a b : Node T) (r : Result (Unit {0}) ServeFault)
      → Ends (carrying S operators) operators n comings a b r → Risen a → Risen b
  ends operators n comings a b (Ok u) e = turns operators comings a b e.1
  ends operators n comings a b (Err serve.Stopped) e = breaks operators n comings Stopped a b e
  ends operators n comings a b (Err serve.Memory) e = breaks operators n comings Memory a b e
  ends operators n comings a b (Err serve.Link) e = turns operators comings a b e.1

  pub serves : (operators : List ℕ) (n : ℕ) (a b : Node T) (r : Result (Unit {0}) ServeFault)
      → Serves (carrying S operators) operators n a b r → Risen a → Risen b
  serves operators n a b r s = ends operators n s.comings a b r s.ends
