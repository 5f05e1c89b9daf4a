-- The kinds of change that a station's grants can go through in one step, and that each keeps the trace safe.
use Rattle.std.proofs.Common.{ℕ, ◌≡◌, ◌+◌, false, List, [], ◌∷◌, refl, sym, ap, ◌∙◌, subst}
use Rattle.std.specs.Prelude.{◌++◌}
use Rattle.smi_grant.specs.declared.Command.{Command}
use Rattle.smi_grant.specs.declared.Holder.{Holder}
use Rattle.smi_grant.specs.declared.Holder.TheVariants.{Free}
use Rattle.smi_grant.specs.Holder.{is_free}
use Rattle.smi_grant.specs.Keeper.{handed}
use Rattle.smi_grant.specs.Record.{Standing}
use Rattle.smi_message.specs.declared.Body.TheVariants as body
use Rattle.smi_message.specs.Message.{Message}
use Rattle.smi_tree.specs.Hierarchy.{Hierarchy}
use Rattle.smi_command.specs.declared.Link.{Link}
use Rattle.smi_command.specs.declared.Link.TheVariants.{Taking, Held, Dropping}
use Rattle.smi_protocol.specs.Display.{Station}
use Rattle.smi_protocol.specs.Grants.{Grants, put}
use Rattle.smi_protocol.specs.Messages.{home}
use Rattle.smi_protocol.specs.declared.Entry.{Entry}
use Rattle.smi_protocol.specs.declared.Entry.TheVariants.{Learned, LetGo}
use Rattle.smi_law.specs.Known.{holder_home, record_in, link_in}
pub use Rattle.smi_protocol.proofs.Tables.{put_here}
use Rattle.smi_law.specs.Safe.{MayHold}
use Rattle.smi_protocol.specs.Schedule.{World}
use Rattle.smi_law.specs.World.{Among as IsSent, with_station, noted}
use Rattle.smi_law.proofs.Changes.{SameGrant, same_grant, SameLink, same_link, Silent, silent, Handed, handed_entry}
use Rattle.smi_law.proofs.Changes.{granted_fits, freed_fits, handed_safely}
use Rattle.smi_law.proofs.LinkChanges.{LinkChange, learned_safely, left_safely}
use Rattle.smi_law.proofs.Moves.{at_put}
use Rattle.smi_law.proofs.Quiet.{AllQuiet, noted_both}
use Rattle.smi_law.proofs.Traces.{Safely, safely_quiet}
use Rattle.smi_law.proofs.Viewed.{Viewed}

abbrev pub SameRecords : Grants → Grants → Type 0
SameRecords g k = (d : ℕ) → SameGrant (g.records d) (k.records d)

abbrev pub SameLinks : Grants → Grants → Type 0
SameLinks g k = (me : Holder) (d : ℕ) → SameLink (g.links me d) (k.links me d)

-- all links but one
abbrev pub OtherLinks : Grants → Grants → Holder → ℕ → Type 0
OtherLinks g k who x = (me : Holder) (d : ℕ) → (me ≡ who → d ≡ x → ⊥) → SameLink (g.links me d) (k.links me d)

abbrev pub OtherRecords : Grants → Grants → ℕ → Type 0
OtherRecords g k x = (d : ℕ) → (d ≡ x → ⊥) → SameGrant (g.records d) (k.records d)

pub data GrantKind (h : Hierarchy) (number : ℕ) (sent : List Message) (g k : Grants) : List Entry → Type 0 where
  silently : (new : List Entry) → AllQuiet new → SameRecords g k → SameLinks g k → GrantKind h number sent g k new
  granting : (x : ℕ) (who : Holder) → is_free who ≡ false → MayHold h x who → home h x ≡ number
      → k.records x ≡ handed (g.records x) who → OtherRecords g k x → SameLinks g k
      → GrantKind h number sent g k (handed_entry x ((g.records x).epoch + 1) who ∷ [])
  freeing : (x : ℕ) (m : Message) → IsSent m sent → m.body ≡ body.Drop x (g.records x).holder (g.records x).epoch
      → home h x ≡ number → k.records x ≡ handed (g.records x) Free → OtherRecords g k x → SameLinks g k
      → GrantKind h number sent g k (handed_entry x ((g.records x).epoch + 1) Free ∷ [])
  learning : (who : Holder) (x s : ℕ) (more : List Entry) → is_free who ≡ false → holder_home h who ≡ number
      → g.links who x ≡ Taking s → k.links who x ≡ Held (s + 1) 0 [] → OtherLinks g k who x → SameRecords g k
      → AllQuiet more
      → GrantKind h number sent g k (Learned who x (s + 1) ∷ more)
  leaving : (who : Holder) (x e n : ℕ) (p : List Command) (before more : List Entry) → is_free who ≡ false
      → holder_home h who ≡ number → g.links who x ≡ Held e n p → k.links who x ≡ Dropping e → OtherLinks g k who x
      → SameRecords g k → AllQuiet before → AllQuiet more
      → GrantKind h number sent g k (before ++ LetGo who x e ∷ more)

-- the same of the whole world

module _ (h : Hierarchy) (w : World) (number : ℕ) (s : Station) where
  world_records : SameRecords (w.stations number).grants s.grants → (d : ℕ)
      → SameGrant (record_in h w d) (record_in h (with_station w number s) d)
  world_records same d =
      at_put (λ z. SameGrant (record_in h w d) (z.grants.records d)) w.stations number s (home h d)
      (λ e. subst (λ z. SameGrant ((w.stations z).grants.records d) (s.grants.records d)) (sym e) (same d))
      (same_grant (record_in h w d))

  world_links : SameLinks (w.stations number).grants s.grants → (me : Holder) (d : ℕ)
      → SameLink (link_in h w me d) (link_in h (with_station w number s) me d)
  world_links same me d =
      at_put (λ z. SameLink (link_in h w me d) (z.grants.links me d)) w.stations number s (holder_home h me)
      (λ e. subst (λ z. SameLink ((w.stations z).grants.links me d) (s.grants.links me d)) (sym e) (same me d))
      (same_link (link_in h w me d))

  world_silent : SameRecords (w.stations number).grants s.grants → SameLinks (w.stations number).grants s.grants
      → Silent h w (with_station w number s)
  world_silent records links = record { records = world_records records; links = world_links links; sent = refl }

  record_here : (x : ℕ) → home h x ≡ number → record_in h (with_station w number s) x ≡ s.grants.records x
  record_here x e = ap (λ z. (put w.stations number s z).grants.records x) e
      ∙ ap (λ z. z.grants.records x) (put_here w.stations number s)

  link_here : (who : Holder) (x : ℕ) → holder_home h who ≡ number
      → link_in h (with_station w number s) who x ≡ s.grants.links who x
  link_here who x e = ap (λ z. (put w.stations number s z).grants.links who x) e
      ∙ ap (λ z. z.grants.links who x) (put_here w.stations number s)

  world_handed : (x : ℕ) (who : Holder) → home h x ≡ number
      → s.grants.records x ≡ handed ((w.stations number).grants.records x) who
      → OtherRecords (w.stations number).grants s.grants x → SameLinks (w.stations number).grants s.grants
      → Handed h w (with_station w number s) x who
  world_handed x who e is others links = record {
    record_ = record_here x e ∙ is ∙ ap (λ z. handed ((w.stations z).grants.records x) who) (sym e);
    others = λ d o. at_put (λ z. SameGrant (record_in h w d) (z.grants.records d)) w.stations number s (home h d)
        (λ i. subst (λ z. SameGrant ((w.stations z).grants.records d) (s.grants.records d)) (sym i) (others d o))
        (same_grant (record_in h w d));
    links = world_links links;
    sent = refl;
  }

  world_change : (who : Holder) (x : ℕ) (old new : Link) → holder_home h who ≡ number
      → (w.stations number).grants.links who x ≡ old → s.grants.links who x ≡ new
      → OtherLinks (w.stations number).grants s.grants who x → SameRecords (w.stations number).grants s.grants
      → LinkChange h w (with_station w number s) who x old new
  world_change who x old new e was is others records = record {
    was = ap (λ z. (w.stations z).grants.links who x) e ∙ was;
    is = link_here who x e ∙ is;
    others = λ me d o. at_put (λ z. SameLink (link_in h w me d) (z.grants.links me d)) w.stations number s
        (holder_home h me)
        (λ i. subst (λ z. SameLink ((w.stations z).grants.links me d) (s.grants.links me d)) (sym i) (others me d o))
        (same_link (link_in h w me d));
    records = world_records records;
    sent = refl;
  }

-- Each kind keeps the trace safe.

pub kind_safely : (h : Hierarchy) (past : List Entry) (w : World) (number : ℕ) (s : Station) (new : List Entry)
    → GrantKind h number w.sent (w.stations number).grants s.grants new → Viewed h w
    → Viewed h (with_station w number s) → Safely h past w
    → Safely h (noted new past) (with_station w number s)
kind_safely h past w number s new (silently all quiet records links) v next safely =
    safely_quiet h (with_station w number s) next all past quiet
    (silent h past w (with_station w number s) (world_silent h w number s records links) safely)
kind_safely h past w number s new (granting x who party may e is others links) v next safely =
    let c = world_handed h w number s x who e is others links in
    let same : (w.stations number).grants.records x
    ≡ record_in h w x = ap (λ z. (w.stations z).grants.records x) (sym e) in
    subst (λ (r : Standing). Safely h (handed_entry x (r.epoch + 1) who ∷ past) (with_station w number s)) (sym same)
    (handed_safely h past w (with_station w number s) x who c next
    (granted_fits h past w (with_station w number s) x who party may c next safely.traces) safely)
kind_safely h past w number s new (freeing x m a b e is others links) v next safely =
    let c = world_handed h w number s x Free e is others links in
    let same : (w.stations number).grants.records x
    ≡ record_in h w x = ap (λ z. (w.stations z).grants.records x) (sym e) in
    let gone = safely.traces.dropped m (record_in h w x).holder x (record_in h w x).epoch a
    (b ∙ ap (λ (r : Standing). body.Drop x r.holder r.epoch) same) in
    subst (λ (r : Standing). Safely h (handed_entry x (r.epoch + 1) Free ∷ past) (with_station w number s)) (sym same)
    (handed_safely h past w (with_station w number s) x Free c next
    (freed_fits h past w (with_station w number s) x gone c next safely.traces) safely)
kind_safely h past w number s new (learning who x n more party e was is others records quiet) v next safely =
    safely_quiet h (with_station w number s) next more (Learned who x (n + 1) ∷ past) quiet
    (learned_safely h past w (with_station w number s) who x n party
    (world_change h w number s who x (Taking n) (Held (n + 1) 0 []) e was is others records) next safely)
kind_safely h past w number s new (leaving who x f n p before more party e was is others records quiet rest) v next
    safely =
    subst (λ z. Safely h z (with_station w number s)) (sym (noted_both before (LetGo who x f ∷ more) past))
    (safely_quiet h (with_station w number s) next more (LetGo who x f ∷ noted before past) rest
    (left_safely h (noted before past) w (with_station w number s) who x f n p party
    (world_change h w number s who x (Held f n p) (Dropping f) e was is others records) v next
    (safely_quiet h w v before past quiet safely)))
