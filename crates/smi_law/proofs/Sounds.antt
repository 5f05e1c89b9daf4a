-- In every world that can be reached what each station keeps of grants is sound, and what was sent of grants is in its
-- ranges.
use Rattle.std.proofs.Common.{ℕ, ◌≡◌, true, false, List, inl, inr, refl, sym, ap, ◌∙◌, subst}
use Rattle.std.specs.Prelude.{Option, Some, None}
use Rattle.std.proofs.lemmas.Bool.{and_from, and_parts}
use Rattle.smi_grant.specs.declared.Holder.{Holder}
use Rattle.smi_grant.specs.declared.Holder.TheVariants.{Free, Operator, Domain}
use Rattle.smi_message.specs.declared.Body.{Body}
use Rattle.smi_message.specs.declared.Body.TheVariants as body
use Rattle.smi_message.specs.Message.{Message, is_body}
use Rattle.smi_tree.specs.Hierarchy.{Hierarchy}
use Rattle.smi_tree.specs.Lawful.{IsTree}
use Rattle.smi_tree.specs.Lookups.{domain_count}
use Rattle.smi_command.specs.declared.Due.{Due}
use Rattle.smi_command.specs.declared.Due.TheVariants.{Take, Drop, Run}
use Rattle.smi_command.specs.declared.Link.TheVariants.{Out}
use Rattle.smi_command.specs.Link.{due_of}
use Rattle.smi_command.specs.Pending.{most_pending}
use Rattle.smi_grant.proofs.Holders.{either}
use Rattle.smi_tree.specs.Roles.{has_domain, is_holder_of}
use Rattle.smi_protocol.specs.Display.{Station}
use Rattle.smi_protocol.specs.Grants.{Grants}
use Rattle.smi_protocol.specs.GrantsOf.{grant_step}
use Rattle.smi_protocol.specs.Happening.{Happening, Comes, Orders, Reports, Ticks}
use Rattle.smi_protocol.specs.Messages.{request}
use Rattle.smi_protocol.specs.Opening.{opened, saved_only}
use Rattle.smi_protocol.specs.Refusals.{refusal_of}
use Rattle.smi_protocol.specs.Sending.{IsDue, MaySay}
use Rattle.smi_protocol.specs.Sound.{IsSound, most_handed_on}
use Rattle.smi_protocol.specs.Step.{answered_or, after as after_happening}
use Rattle.smi_protocol.specs.declared.Entry.{Entry}
use Rattle.smi_protocol.proofs.Ranges.{child_there, domain_in, domain_party, due_in, due_said, is_within, kept_there}
use Rattle.smi_protocol.proofs.Ranges.{operator_there}
use Rattle.smi_protocol.proofs.SoundOpening.{opens_sound}
use Rattle.smi_protocol.proofs.SoundSteps.{stays_sound}
use Rattle.smi_protocol.proofs.Tables.{at_put}
use Rattle.smi_protocol.specs.Schedule.{World}
use Rattle.smi_law.specs.World.{Among as IsSent, with_station, MayCome, Step, sends, steps, stops, tells, halts}
use Rattle.smi_law.specs.World.{starts}
use Rattle.smi_law.specs.World.{Reaches, opens, goes_on}
use Rattle.smi_law.proofs.Viewed.{sent_or}
use Rattle.smi_law.proofs.Placed.{has_place, Placed, placed}

-- what a datagram says of grants is in the ranges of its kind
abbrev pub SaysInRange : Body → Type 0
SaysInRange (body.Ask d) = Unit {0}
SaysInRange (body.Take d who seen) = is_body (body.Take d who seen) ≡ true
SaysInRange (body.Drop d who e) = is_body (body.Drop d who e) ≡ true
SaysInRange (body.Run d who e n c) = is_body (body.Run d who e n c) ≡ true
SaysInRange (body.Tell d r) = is_body (body.Tell d r) ≡ true
SaysInRange (body.Watch x echo) = Unit {0}
SaysInRange (body.State x echo v s) = Unit {0}
SaysInRange (body.Unwatch x echo) = Unit {0}

pub record AllSound (h : Hierarchy) (w : World) : Type 0 where
  pub sound : (number : ℕ) → IsSound h (w.stations number).grants
  pub said : (m : Message) → IsSent m w.sent → SaysInRange m.body

-- What comes.

comes_sound : (h : Hierarchy) → IsTree h → (number : ℕ) (g : Grants) (m : Message) → IsSound h g
    → (b : Body) → m.body ≡ b → SaysInRange b → refusal_of h number g (Comes m) ≡ None
    → IsSound h (grant_step h number g (Comes m)).grants
comes_sound h tree number g m s (body.Ask d) is fits none = rw is s
comes_sound h tree number g m s (body.Take d who seen) is fits none =
    stays_sound h number g (Comes m) tree s (ap is_body is ∙ fits) none
comes_sound h tree number g m s (body.Drop d who e) is fits none =
    stays_sound h number g (Comes m) tree s (ap is_body is ∙ fits) none
comes_sound h tree number g m s (body.Run d who e n c) is fits none =
    stays_sound h number g (Comes m) tree s (ap is_body is ∙ fits) none
comes_sound h tree number g m s (body.Tell d r) is fits none =
    stays_sound h number g (Comes m) tree s (ap is_body is ∙ fits) none
comes_sound h tree number g m s (body.Watch x echo) is fits none = rw is s
comes_sound h tree number g m s (body.State x echo v state) is fits none = rw is s
comes_sound h tree number g m s (body.Unwatch x echo) is fits none = rw is s

step_sound : (h : Hierarchy) → IsTree h → (w : World) → AllSound h w → (number : ℕ) (what : Happening)
    → MayCome w what → refusal_of h number (w.stations number).grants what ≡ None
    → IsSound h (grant_step h number (w.stations number).grants what).grants
step_sound h tree w a number (Comes m) may none =
    comes_sound h tree number (w.stations number).grants m (a.sound number) m.body refl (a.said m may) none
step_sound h tree w a number (Orders o what) may none =
    stays_sound h number (w.stations number).grants (Orders o what) tree (a.sound number) tt none
step_sound h tree w a number (Reports device s) may none = a.sound number
step_sound h tree w a number Ticks may none = a.sound number

answered_sound : (h : Hierarchy) → IsTree h → (w : World) → AllSound h w → (number : ℕ) (what : Happening)
    → MayCome w what → (o : Option ℕ) → refusal_of h number (w.stations number).grants what ≡ o
    → IsSound h (answered_or h number (w.stations number) what o).station.grants
answered_sound h tree w a number what may (Some code) is = a.sound number
answered_sound h tree w a number what may None is = step_sound h tree w a number what may is

-- a boot changes nothing else
booted_sound : (h : Hierarchy) (g : Grants) (boot : ℕ) → IsSound h g → IsSound h (record g { boot = boot })
booted_sound h g boot s = record {
  standing = s.standing;
  holder = s.holder;
  gathered = s.gathered;
  at_rest = λ d quiet. let r = s.at_rest d quiet in record { gathered = r.gathered; still = r.still };
  at_work = s.at_work;
  own = s.own;
  child = s.child;
  mode = s.mode;
  few = s.few;
}

-- What is sent.

module _ (h : Hierarchy) (tree : IsTree h) (number : ℕ) (g : Grants) (sound : IsSound h g)
    (place : (me : Holder) (d : ℕ) → has_place h number d me ≡ false → g.links me d ≡ Out 0) where
  at_link : (who : Holder) (d i : ℕ) (due : Due) → due_of (g.links who d) i ≡ Some due
      → has_place h number d who ≡ true
      → is_body (request d who due) ≡ true
  at_link Free d i due is here =
      absurd (let wrong : false ≡ true = (and_parts (is_holder_of h d Free) _ (and_parts
      (has_domain h d) _ here).1).1 in cc)
  at_link (Operator o) d i due is here =
      let a = and_parts (has_domain h d) _ here in
      let b = and_parts (is_holder_of h d (Operator o)) _ a.1 in
      due_said d (Operator o) due (domain_in h tree d (is_within 1 (domain_count h) d a.0))
      (operator_there h tree number o b.1)
      (due_in h most_pending (g.links (Operator o) d) i due (sound.own o d) is)
  at_link (Domain p) d i due is here =
      let a = and_parts (has_domain h d) _ here in
      let b = and_parts (is_holder_of h d (Domain p)) _ a.1 in
      due_said d (Domain p) due (domain_in h tree d (is_within 1 (domain_count h) d a.0))
      (domain_party h tree p (child_there h tree d p b.0).1)
      (due_in h most_handed_on (g.links (Domain p) d) i due (sound.child p d) is)

  due_in_range : (who : Holder) (d : ℕ) (due : Due) → IsDue h number g who d due → is_body (request d who due) ≡ true
  due_in_range who d due is = elim (either (has_place h number d who)) [
    | inl t ↦ at_link who d is.1.0 due is.1.1 t
    | inr f ↦ absurd (let wrong : None ≡ Some due = ap (λ l. due_of l is.1.0) (sym (place who d f)) ∙ is.1.1 in cc)
  ]

said_in_range : (h : Hierarchy) → IsTree h → (number : ℕ) (s : Station) (to : ℕ) → IsSound h s.grants
    → ((me : Holder) (d : ℕ) → has_place h number d me ≡ false → s.grants.links me d ≡ Out 0)
    → (b : Body) → MaySay h number s to b → SaysInRange b
said_in_range h tree number s to sound place (body.Ask d) may = tt
said_in_range h tree number s to sound place (body.Take d who seen) may =
    due_in_range h tree number s.grants sound place who d (Take seen) may.1
said_in_range h tree number s to sound place (body.Drop d who e) may =
    due_in_range h tree number s.grants sound place who d (Drop e) may.1
said_in_range h tree number s to sound place (body.Run d who e n c) may =
    due_in_range h tree number s.grants sound place who d (Run e n c) may.1
said_in_range h tree number s to sound place (body.Tell d r) may =
    subst (λ q. is_body (body.Tell d q) ≡ true) (sym may.1)
    (and_from _ _ (domain_in h tree d (kept_there h tree number d may.0).0) (sound.standing d))
said_in_range h tree number s to sound place (body.Watch x echo) may = tt
said_in_range h tree number s to sound place (body.State x echo v state) may = tt
said_in_range h tree number s to sound place (body.Unwatch x echo) may = tt

-- Every step, and every run.

station_sound : (h : Hierarchy) (w : World) (number : ℕ) (s : Station) → AllSound h w → IsSound h s.grants
    → AllSound h (with_station w number s)
station_sound h w number s a new = record {
  sound = λ n. at_put (λ (z : Station). IsSound h z.grants) w.stations number s n (λ is. new) (a.sound n);
  said = a.said;
}

all_sound_on : (h : Hierarchy) → IsTree h → (w : World) (new : List Entry) (next : World) → Step h w new next
    → Placed h w → AllSound h w → AllSound h next
all_sound_on h tree w new next (sends number m may) u a = record {
  sound = a.sound;
  said = λ k i. elim (sent_or k m w.sent i) [
    | inl b ↦ a.said k b
    | inr same ↦ subst (λ (z : Message). SaysInRange z.body) (sym same)
        (said_in_range h tree number (w.stations number) m.to (a.sound number) (u number) m.body may.2)
  ];
}
all_sound_on h tree w new next (steps number what runs may) u a =
    station_sound h w number (after_happening h number (w.stations number) what).station a
    (answered_sound h tree w a number what may (refusal_of h number (w.stations number).grants what) refl)
all_sound_on h tree w new next (stops number what runs may) u a =
    station_sound h w number (saved_only h number (w.stations number) what) a
    (answered_sound h tree w a number what may (refusal_of h number (w.stations number).grants what) refl)
all_sound_on h tree w new next (tells o what) u a = a
all_sound_on h tree w new next (halts number) u a =
    station_sound h w number (record (w.stations number) { is_stopped = true }) a (a.sound number)
all_sound_on h tree w new next (starts number boots) u a =
    station_sound h w number (opened h number (w.stations number).grants) a
    (booted_sound h (w.stations number).grants _ (a.sound number))

pub all_sound : (h : Hierarchy) → IsTree h → (past : List Entry) (w : World) → Reaches h past w → AllSound h w
all_sound h tree past w opens = record {
  sound = λ number. booted_sound h _ _ (opens_sound h);
  said = λ m a. absurd a;
}
all_sound h tree past w (goes_on {past = before} {new = new} {w = old} {next = next} run step) =
    all_sound_on h tree old new next step (placed h tree before old run) (all_sound h tree before old run)
