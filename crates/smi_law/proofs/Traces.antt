-- What a trace says of grants is what the records and the links are.
use Rattle.std.proofs.Common.{ℕ, ◌≡◌, ◌≤◌, Bool, true, false, List, [], ◌∷◌, inr, refl, sym, ap, ◌∙◌, subst}
use Rattle.std.specs.Prelude.{◌==◌}
use Rattle.std.proofs.lemmas.Bool.{eqb-true}
use Rattle.smi_grant.specs.declared.Command.{Command}
use Rattle.smi_grant.specs.declared.Holder.{Holder}
use Rattle.smi_grant.specs.declared.Holder.TheVariants.{Operator, Domain}
use Rattle.smi_grant.specs.Holder.{is_free}
use Rattle.smi_message.specs.declared.Body.TheVariants as body
use Rattle.smi_message.specs.Message.{Message}
use Rattle.smi_tree.specs.Hierarchy.{Hierarchy}
use Rattle.smi_command.specs.declared.Link.{Link}
use Rattle.smi_command.specs.declared.Link.TheVariants.{Out, Taking, Held, Dropping}
use Rattle.smi_command.specs.Link.{known}
use Rattle.smi_protocol.specs.declared.Entry.{Entry}
use Rattle.smi_protocol.specs.declared.Entry.TheVariants.{Learned, LetGo}
use Rattle.smi_law.specs.Known.{record_in, link_in}
use Rattle.smi_law.specs.Safe.{Commands, directly, through, OneCommander, SafeGrants}
use Rattle.smi_protocol.specs.Schedule.{World}
use Rattle.smi_law.specs.Trace.{Stands, epoch_at, holder_at, has_learned, Holds}
use Rattle.smi_law.specs.World.{Among as IsSent, noted}
use Rattle.smi_law.proofs.KnownFacts.{known_grant}
use Rattle.smi_law.proofs.Quiet.{IsQuiet, AllQuiet, epoch_quiet, holder_quiet, learned_quiet, fits_quiet}
use Rattle.smi_law.proofs.Quiet.{stood_before}
use Rattle.smi_law.proofs.Viewed.{Viewed}

-- the link holds the grant of this epoch
abbrev pub holds_at : Link → ℕ → Bool
holds_at (Out k) e = false
holds_at (Taking s) e = false
holds_at (Held f n p) e = f == e
holds_at (Dropping f) e = false

pub record Traces (h : Hierarchy) (past : List Entry) (w : World) : Type 0 where
  pub epoch : (d : ℕ) → epoch_at d past ≡ (record_in h w d).epoch
  pub holder : (d : ℕ) → holder_at d past ≡ (record_in h w d).holder
  pub learned : (me : Holder) (d e : ℕ) → has_learned me d e past ≡ holds_at (link_in h w me d) e
  pub once : (me : Holder) (d e : ℕ) → Stands (Learned me d e) past → e ≤ known (link_in h w me d)
  pub let_go : (me : Holder) (d e : ℕ) → link_in h w me d ≡ Dropping e → Stands (LetGo me d e) past
  pub dropped : (m : Message) (me : Holder) (d e : ℕ) → IsSent m w.sent → m.body ≡ body.Drop d me e
      → Stands (LetGo me d e) past

pub traces_quiet : (h : Hierarchy) (past : List Entry) (w : World) (x : Entry) → IsQuiet x → Traces h past w
    → Traces h (x ∷ past) w
traces_quiet h past w x q t = record {
  epoch = λ d. epoch_quiet d x past q ∙ t.epoch d;
  holder = λ d. holder_quiet d x past q ∙ t.holder d;
  learned = λ me d e. learned_quiet me d e x past q ∙ t.learned me d e;
  once = λ me d e a. t.once me d e (stood_before (Learned me d e) x past (λ z. z) q a);
  let_go = λ me d e i. inr (t.let_go me d e i);
  dropped = λ m me d e a b. inr (t.dropped m me d e a b);
}

-- One commander.

pub record IsHeldLink (l : Link) (e : ℕ) : Type 0 where
  number : ℕ
  pending : List Command
  is : l ≡ Held e number pending

held_link : (l : Link) (e : ℕ) → holds_at l e ≡ true → IsHeldLink l e
held_link (Out k) e i = absurd cc
held_link (Taking s) e i = absurd cc
held_link (Held f n p) e i = record { number = n; pending = p; is = ap (λ z. Held z n p) (eqb-true f e i) }
held_link (Dropping f) e i = absurd cc

-- the holder of a domain by the trace is its holder by its record
pub held_by : (h : Hierarchy) (past : List Entry) (w : World) (me : Holder) (d : ℕ) → is_free me ≡ false → Viewed h w
    → Traces h past w → Holds me d past → (record_in h w d).holder ≡ me
held_by h past w me d party v t holds =
    let l = held_link (link_in h w me d) (epoch_at d past) (sym (t.learned me d (epoch_at d past)) ∙ holds) in
    ((known_grant h w d me party v).is_held (epoch_at d past) l.number l.pending l.is).1

module _ (h : Hierarchy) (past : List Entry) (w : World) (v : Viewed h w) (t : Traces h past w) where
  same : (d : ℕ) (g k : Holder) → is_free g ≡ false → is_free k ≡ false → Holds g d past → Holds k d past → g ≡ k
  same d g k a b x y = sym (held_by h past w g d a v t x) ∙ held_by h past w k d b v t y

  commander : (a b d : ℕ) → Commands h past a d → Commands h past b d → a ≡ b
  commander a b d (directly x) (directly y) =
      let i : Operator a ≡ Operator b = same d (Operator a) (Operator b) refl refl x y in cc
  commander a b d (directly x) (through q j y c) =
      let i : Operator a ≡ Domain q = same d (Operator a) (Domain q) refl refl x y in absurd cc
  commander a b d (through p i x c) (directly y) =
      let i' : Domain p ≡ Operator b = same d (Domain p) (Operator b) refl refl x y in absurd cc
  commander a b d (through p i x c) (through q j y k) =
      let is : Domain p ≡ Domain q = same d (Domain p) (Domain q) refl refl x y in
      let e : p ≡ q = cc in
      commander a b p c (subst (λ z. Commands h past b z) (sym e) k)

  pub one_commander : OneCommander h past
  one_commander d a b x y = commander a b d x y

-- Quiet entries leave a safe trace safe.

pub record Safely (h : Hierarchy) (past : List Entry) (w : World) : Type 0 where
  pub traces : Traces h past w
  pub safe : SafeGrants h past

pub safely_quiet : (h : Hierarchy) (w : World) → Viewed h w → (new past : List Entry) → AllQuiet new
    → Safely h past w → Safely h (noted new past) w
safely_quiet h w v [] past q s = s
safely_quiet h w v (x ∷ new) past q s =
    let t = traces_quiet h past w x q.0 s.traces in
    safely_quiet h w v new (x ∷ past) q.1 (record {
      traces = t;
      safe = (fits_quiet h x past q.0, one_commander h (x ∷ past) w v t, s.safe);
    })
