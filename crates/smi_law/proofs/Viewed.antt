-- In every world that can be reached, each domain and each holder of it is a pair that events have reached.
use Rattle.std.proofs.Common.{ℕ, ◌≡◌, ◌≤◌, arith, true, false, List, [], ◌∷◌, ◌⊎◌, inl, inr, refl, sym, ap, ◌∙◌}
use Rattle.std.proofs.Common.{subst}
use Rattle.std.specs.Prelude.{◌++◌, Option, Some, None, unwrap_or}
use Rattle.std.proofs.lemmas.Bool.{eqb-true, le-leb}
use Rattle.smi_grant.specs.declared.Command.{Command}
use Rattle.smi_grant.specs.declared.Holder.{Holder}
use Rattle.smi_grant.specs.declared.Holder.TheVariants.{Free, Operator, Domain}
use Rattle.smi_grant.specs.Holder.{is_free}
use Rattle.smi_grant.specs.Record.{Standing, last_number}
use Rattle.smi_message.specs.declared.Body.{Body}
use Rattle.smi_message.specs.declared.Body.TheVariants as body
use Rattle.smi_message.specs.Message.{Message}
use Rattle.smi_tree.specs.Hierarchy.{Hierarchy}
use Rattle.smi_command.specs.declared.Due.{Due}
use Rattle.smi_command.specs.declared.Due.TheVariants.{Take, Drop, Run}
use Rattle.smi_command.specs.Link.{due_of}
use Rattle.smi_command.specs.OneLink.{Datagram, Asks, Tells, Pair, Event, after, reached, Among}
use Rattle.smi_command.specs.declared.Link.{Link}
use Rattle.smi_command.specs.KnownGrant.{Waits}
use Rattle.smi_command.proofs.Facts.{Fits, LinkOk}
use Rattle.smi_grant.proofs.Holders.{told_apart}
use Rattle.smi_command.proofs.OneLinkKept.{reached_well}
use Rattle.smi_command.proofs.Waiting.{due_waits, waiting_number}
use Rattle.smi_tree.specs.Roles.{is_number, holder_station}
use Rattle.smi_protocol.specs.Display.{Station}
use Rattle.smi_protocol.specs.Happening.{Happening}
use Rattle.smi_protocol.specs.Messages.{home}
use Rattle.smi_protocol.specs.Opening.{opened, saved_only}
use Rattle.smi_protocol.specs.Refusals.{refusal_of}
use Rattle.smi_protocol.specs.Sending.{IsDue, MaySay}
use Rattle.smi_protocol.specs.Step.{answered_or, after as after_happening}
use Rattle.smi_law.specs.Known.{holder_home, record_in, link_in}
use Rattle.smi_protocol.specs.Schedule.{World}
use Rattle.smi_law.specs.World.{Among as IsSent, MayCome, with_station, with_sent, Step, sends, steps, stops, tells}
use Rattle.smi_law.specs.World.{halts, starts, Reaches, opens, goes_on}
use Rattle.smi_protocol.specs.declared.Entry.{Entry}
use Rattle.smi_law.proofs.Moves as move
use Rattle.smi_law.proofs.Moves.{RecordMove, LinkMove, apart, at_put}
use Rattle.smi_law.proofs.RecordMoves.{records_move}
use Rattle.smi_law.proofs.LinkMoves.{links_move}
use Rattle.smi_law.proofs.Views.{Fair, Covers, covers_more, stepped, recorded, relinks, Said, tells_now, asks_now}

-- a domain and a holder are a pair that events have reached, and its datagrams are all that were sent
pub record View (h : Hierarchy) (w : World) (d : ℕ) (me : Holder) : Type 0 where
  pub events : List Event
  pub kept : (reached me events).kept ≡ record_in h w d
  pub link : (reached me events).link ≡ link_in h w me d
  pub covers : (m : Message) → IsSent m w.sent → Covers d me (reached me events).sent m.body

pub record Viewed (h : Hierarchy) (w : World) : Type 0 where
  pub range : (m : Message) → IsSent m w.sent → Fair m.body
  pub each : (d : ℕ) (me : Holder) → View h w d me

-- the facts on the pair, said of the world
pub view_fits : (h : Hierarchy) (w : World) (d : ℕ) (me : Holder) → is_free me ≡ false → (v : View h w d me)
    → Fits (record_in h w d) me (link_in h w me d) (reached me v.events).sent
view_fits h w d me party v =
    subst (λ l. Fits (record_in h w d) me l (reached me v.events).sent) v.link
    (subst (λ r. Fits r me (reached me v.events).link (reached me v.events).sent) v.kept
    (reached_well me v.events party).fits)

abbrev with_event : Option Event → List Event → List Event
with_event None events = events
with_event (Some e) events = e ∷ events

reached_with : (me : Holder) (events : List Event) (e : Option Event)
    → reached me (with_event e events) ≡ stepped me (reached me events) e
reached_with me events None = refl
reached_with me events (Some e) = refl

-- A station's grants move.

-- every record and every link of the station moves
record Moves (h : Hierarchy) (w : World) (number : ℕ) (s : Station) : Type 0 where
  records : (d : ℕ) → RecordMove w.sent d ((w.stations number).grants.records d) (s.grants.records d)
  links : (me : Holder) (d : ℕ) → LinkMove w.sent d me ((w.stations number).grants.links me d) (s.grants.links me d)

record_moves : (h : Hierarchy) (w : World) (number : ℕ) (s : Station) (d : ℕ) → Moves h w number s
    → RecordMove w.sent d (record_in h w d) (record_in h (with_station w number s) d)
record_moves h w number s d moves =
    at_put (λ z. RecordMove w.sent d (record_in h w d) (z.grants.records d)) w.stations number s (home h d)
    (λ e. subst (λ z. RecordMove w.sent d ((w.stations z).grants.records d) (s.grants.records d)) (sym e)
    (moves.records d))
    move.rests

link_moves : (h : Hierarchy) (w : World) (number : ℕ) (s : Station) (d : ℕ) (me : Holder) → Moves h w number s
    → LinkMove w.sent d me (link_in h w me d) (link_in h (with_station w number s) me d)
link_moves h w number s d me moves =
    at_put (λ z. LinkMove w.sent d me (link_in h w me d) (z.grants.links me d)) w.stations number s (holder_home h me)
    (λ e. subst (λ z. LinkMove w.sent d me ((w.stations z).grants.links me d) (s.grants.links me d)) (sym e)
    (moves.links me d))
    move.stays

moved_view : (h : Hierarchy) (w : World) (number : ℕ) (s : Station) (d : ℕ) (me : Holder)
    → ((m : Message) → IsSent m w.sent → Fair m.body) → Moves h w number s → View h w d me
    → View h (with_station w number s) d me
moved_view h w number s d me range moves v =
    let p = reached me v.events in
    let a = recorded d me p w.sent range v.covers (record_in h (with_station w number s) d)
    (subst (λ r. RecordMove w.sent d r (record_in h (with_station w number s) d)) (sym v.kept)
    (record_moves h w number s d moves)) in
    let p1 = stepped me p a.event in
    let c1 : (m : Message) → IsSent m w.sent → Covers d me p1.sent m.body = λ m i. covers_more d me p.sent p1.sent
    a.keeps m.body (v.covers m i) in
    let b = relinks d me p1 w.sent c1 (link_in h (with_station w number s) me d)
    (subst (λ l. LinkMove w.sent d me l (link_in h (with_station w number s) me d)) (sym (a.link ∙ v.link))
    (link_moves h w number s d me moves)) in
    let is1 : reached me (with_event a.event v.events) ≡ p1 = reached_with me v.events a.event in
    let is2 : reached me (with_event b.event (with_event a.event v.events)) ≡ stepped me p1 b.event
    = reached_with me (with_event a.event v.events) b.event ∙ ap (λ z. stepped me z b.event) is1 in
    record {
      events = with_event b.event (with_event a.event v.events);
      kept = ap (λ (z : Pair). z.kept) is2 ∙ b.kept ∙ a.kept;
      link = ap (λ (z : Pair). z.link) is2 ∙ b.link;
      covers = λ m i. subst (λ (z : Pair). Covers d me z.sent m.body) (sym is2)
          (covers_more d me p1.sent (stepped me p1 b.event).sent b.keeps m.body (c1 m i));
    }

moved : (h : Hierarchy) (w : World) (number : ℕ) (s : Station) → Moves h w number s → Viewed h w
    → Viewed h (with_station w number s)
moved h w number s moves v = record {
  range = v.range;
  each = λ d me. moved_view h w number s d me v.range moves (v.each d me);
}

-- What happens at a station moves its grants, or leaves them.

after_moves : (h : Hierarchy) (w : World) (number : ℕ) (what : Happening) → MayCome w what → (o : Option ℕ)
    → Moves h w number (answered_or h number (w.stations number) what o).station
after_moves h w number what may (Some code) = record { records = λ d. move.rests; links = λ me d. move.stays }
after_moves h w number what may None = record {
  records = records_move h number (w.stations number).grants w what may;
  links = links_move h number (w.stations number).grants w what may;
}

stop_moves : (h : Hierarchy) (w : World) (number : ℕ) (what : Happening) → MayCome w what
    → Moves h w number (saved_only h number (w.stations number) what)
stop_moves h w number what may =
    let m = after_moves h w number what may (refusal_of h number (w.stations number).grants what) in
    record { records = m.records; links = m.links }

-- A datagram is sent.

pub keeper_home : (o : Option ℕ) (n : ℕ) → is_number o n ≡ true → unwrap_or o 0 ≡ n
keeper_home None n i = absurd cc
keeper_home (Some m) n i = eqb-true m n i

-- the pair has what is said, if it is about the pair
record Spoken (d : ℕ) (me : Holder) (p : Pair) (b : Body) : Type 0 where
  event : Option Event
  kept : (stepped me p event).kept ≡ p.kept
  link : (stepped me p event).link ≡ p.link
  keeps : (k : Datagram) → Among k p.sent → Among k (stepped me p event).sent
  covers : Covers d me (stepped me p event).sent b

of_others : (d : ℕ) (me : Holder) (p : Pair) (b : Body) → Covers d me p.sent b → Spoken d me p b
of_others d me p b c = record { event = None; kept = refl; link = refl; keeps = λ k a. a; covers = c }

told_now : (d : ℕ) (me : Holder) (p : Pair) (x : ℕ) (r : Standing) → (x ≡ d → r ≡ p.kept)
    → Spoken d me p (body.Tell x r)
told_now d me p x r now = elim (apart x d) [
  | inl same ↦
      let s = tells_now me p in
      record {
        event = Some s.event;
        kept = s.kept;
        link = s.link;
        keeps = s.keeps;
        covers = λ i. subst (λ z. Among (Tells z) (after me p s.event).sent) (sym (now i)) s.adds;
      }
  | inr other ↦ of_others d me p (body.Tell x r) (λ i. absurd (other i))
]

-- a request is about the pair if it is this holder's, to this domain
record IsMine (d : ℕ) (me : Holder) (x : ℕ) (who : Holder) : Type 0 where
  domain : x ≡ d
  holder : who ≡ me

mine_or : (d : ℕ) (me : Holder) (x : ℕ) (who : Holder) → IsMine d me x who ⊎ (x ≡ d → who ≡ me → ⊥)
mine_or d me x who = elim (apart x d) [
  | inl i ↦ elim (told_apart who me) [ inl j ↦ inl (record { domain = i; holder = j.1 }) | inr o ↦ inr (λ a b. o.1 b) ]
  | inr o ↦ inr (λ a b. o a)
]

requested : (h : Hierarchy) (w : World) (number d : ℕ) (me : Holder) (p : Pair) (x : ℕ) (who : Holder) (due : Due)
    → p.link ≡ link_in h w me d → IsDue h number (w.stations number).grants who x due → IsMine d me x who
    → Said me p (Asks who due)
requested h w number d me p x who due is may mine =
    let at : holder_home h who ≡ number = ap (λ o. unwrap_or o 0) may.0 in
    let l : (w.stations number).grants.links who x ≡ p.link
    = ap (λ z. (w.stations z).grants.links who x) (sym at) ∙ ap (λ z. link_in h w z x) mine.holder
    ∙ ap (link_in h w me) mine.domain ∙ sym is in
    subst (λ z. Said me p (Asks z due)) (sym mine.holder)
    (asks_now me p may.1.0 due (ap (λ z. due_of z may.1.0) (sym l) ∙ may.1.1))

spoken : (h : Hierarchy) (w : World) (number to d : ℕ) (me : Holder) (p : Pair) → p.kept ≡ record_in h w d
    → p.link ≡ link_in h w me d → (b : Body) → MaySay h number (w.stations number) to b → Spoken d me p b
spoken h w number to d me p kept link (body.Tell x r) may =
    told_now d me p x r
    (λ i. may.1 ∙ ap (λ z. (w.stations z).grants.records x) (sym (keeper_home _ number may.0)) ∙ ap (record_in h w) i
    ∙ sym kept)
spoken h w number to d me p kept link (body.Take x who s) may = elim (mine_or d me x who) [
  | inl mine ↦ let s' = requested h w number d me p x who (Take s) link may.1 mine in
      record { event = Some s'.event; kept = s'.kept; link = s'.link; keeps = s'.keeps; covers = λ i j. s'.adds }
  | inr o ↦ of_others d me p (body.Take x who s) (λ i j. absurd (o i j))
]
spoken h w number to d me p kept link (body.Drop x who e) may = elim (mine_or d me x who) [
  | inl mine ↦ let s' = requested h w number d me p x who (Drop e) link may.1 mine in
      record { event = Some s'.event; kept = s'.kept; link = s'.link; keeps = s'.keeps; covers = λ i j. s'.adds }
  | inr o ↦ of_others d me p (body.Drop x who e) (λ i j. absurd (o i j))
]
spoken h w number to d me p kept link (body.Run x who e n c) may = elim (mine_or d me x who) [
  | inl mine ↦ let s' = requested h w number d me p x who (Run e n c) link may.1 mine in
      record { event = Some s'.event; kept = s'.kept; link = s'.link; keeps = s'.keeps; covers = λ i j. s'.adds }
  | inr o ↦ of_others d me p (body.Run x who e n c) (λ i j. absurd (o i j))
]
spoken h w number to d me p kept link (body.Ask x) may = of_others d me p (body.Ask x) tt
spoken h w number to d me p kept link (body.Watch x echo) may = of_others d me p (body.Watch x echo) tt
spoken h w number to d me p kept link (body.State x echo v s) may = of_others d me p (body.State x echo v s) tt
spoken h w number to d me p kept link (body.Unwatch x echo) may = of_others d me p (body.Unwatch x echo) tt

-- what is among more datagrams was among them, or is the new one
pub sent_or : (m k : Message) (sent : List Message) → IsSent m (sent ++ k ∷ []) → IsSent m sent ⊎ (m ≡ k)
sent_or m k [] (inl same) = inr same
sent_or m k [] (inr a) = absurd a
sent_or m k (x ∷ sent) (inl same) = inl (inl same)
sent_or m k (x ∷ sent) (inr a) = elim (sent_or m k sent a) [ inl b ↦ inl (inr b) | inr same ↦ inr same ]

sent_view : (h : Hierarchy) (w : World) (number : ℕ) (m : Message) (d : ℕ) (me : Holder)
    → MaySay h number (w.stations number) m.to m.body → View h w d me → View h (with_sent w m) d me
sent_view h w number m d me may v =
    let p = reached me v.events in
    let s = spoken h w number m.to d me p v.kept v.link m.body may in
    let is : reached me (with_event s.event v.events) ≡ stepped me p s.event = reached_with me v.events s.event in
    let old : (k : Message) → IsSent k w.sent → Covers d me (stepped me p s.event).sent k.body = λ k i. covers_more d
    me p.sent (stepped me p s.event).sent s.keeps k.body (v.covers k i) in
    record {
      events = with_event s.event v.events;
      kept = ap (λ (z : Pair). z.kept) is ∙ s.kept ∙ v.kept;
      link = ap (λ (z : Pair). z.link) is ∙ s.link ∙ v.link;
      covers = λ k i. subst (λ (z : Pair). Covers d me z.sent k.body) (sym is)
          (elim (sent_or k m w.sent i) [
            | inl a ↦ old k a
            | inr same ↦
                subst (λ (z : Message). Covers d me (stepped me p s.event).sent z.body) (sym same) s.covers
          ]);
    }

-- a holder that has a station holds something
party : (h : Hierarchy) (who : Holder) (number : ℕ) → holder_station h who ≡ Some number → is_free who ≡ false
party h Free number is = absurd cc
party h (Operator o) number is = refl
party h (Domain p) number is = refl

held_within : (r : Standing) (me : Holder) (l : Link) (e n : ℕ) (c : Command) → LinkOk r me l → Waits l e n c
    → n ≤ last_number
held_within r me l e n c ok wait =
    let o = subst (LinkOk r me) wait.is ok in
    let within = (waiting_number e wait.newest wait.pending e n c o.2.counted
    (subst (λ z. Waits z e n c) wait.is wait)).1 in
    let most = o.3 in
    omega (arith, within, most)

-- what a station may say is fair
said_fair : (h : Hierarchy) (w : World) (number to : ℕ) → Viewed h w → (b : Body)
    → MaySay h number (w.stations number) to b → Fair b
said_fair h w number to v (body.Take d who s) may = record { held = party h who number may.1.0; number = refl }
said_fair h w number to v (body.Drop d who e) may = record { held = party h who number may.1.0; number = refl }
said_fair h w number to v (body.Run d who e n c) may =
    let held = party h who number may.1.0 in
    let at : holder_home h who ≡ number = ap (λ o. unwrap_or o 0) may.1.0 in
    let f = view_fits h w d who held (v.each d who) in
    let link : LinkOk (record_in h w d) who ((w.stations number).grants.links who d) = subst
    (λ z. LinkOk (record_in h w d) who ((w.stations z).grants.links who d)) at f.link in
    record {
      held = held;
      number = le-leb n last_number
          (held_within (record_in h w d) who ((w.stations number).grants.links who d) e n c link
          (due_waits ((w.stations number).grants.links who d) may.1.1.0 e n c may.1.1.1));
    }
said_fair h w number to v (body.Tell d r) may = tt
said_fair h w number to v (body.Ask d) may = tt
said_fair h w number to v (body.Watch x echo) may = tt
said_fair h w number to v (body.State x echo q s) may = tt
said_fair h w number to v (body.Unwatch x echo) may = tt

-- Every step, and every run.

pub step_viewed : (h : Hierarchy) (w : World) (new : List Entry) (next : World) → Step h w new next → Viewed h w
    → Viewed h next
step_viewed h w new next (tells o what) v = v
step_viewed h w new next (sends number m may) v = record {
  range = λ k i. elim (sent_or k m w.sent i) [
    | inl a ↦ v.range k a
    | inr same ↦ subst (λ (z : Message). Fair z.body) (sym same)
        (said_fair h w number m.to v m.body may.2)
  ];
  each = λ d me. sent_view h w number m d me may.2 (v.each d me);
}
step_viewed h w new next (steps number what runs may) v =
    moved h w number (after_happening h number (w.stations number) what).station
    (after_moves h w number what may (refusal_of h number (w.stations number).grants what)) v
step_viewed h w new next (stops number what runs may) v =
    moved h w number (saved_only h number (w.stations number) what) (stop_moves h w number what may) v
step_viewed h w new next (halts number) v =
    moved h w number (record (w.stations number) { is_stopped = true })
    (record { records = λ d. move.rests; links = λ me d. move.stays }) v
step_viewed h w new next (starts number boots) v =
    moved h w number (opened h number (w.stations number).grants)
    (record { records = λ d. move.rests; links = λ me d. move.stays }) v

pub viewed : (h : Hierarchy) (past : List Entry) (w : World) → Reaches h past w → Viewed h w
viewed h past w opens = record {
  range = λ m a. absurd a;
  each = λ d me. record { events = []; kept = refl; link = refl; covers = λ m a. absurd a };
}
viewed h past w (goes_on {past = before} {new = new} {w = old} {next = next} run step) =
    step_viewed h old new next step (viewed h before old run)
