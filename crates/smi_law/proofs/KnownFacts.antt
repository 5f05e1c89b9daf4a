-- What is known of each record and each link in every world that can be reached.
use Rattle.std.proofs.Common.{ℕ, ◌≡◌, false, List, ◌⊎◌, refl, subst}
use Rattle.smi_grant.specs.declared.Command.{Command}
use Rattle.smi_grant.specs.declared.Holder.{Holder}
use Rattle.smi_grant.specs.declared.Holder.TheVariants.{Operator}
use Rattle.smi_grant.specs.Holder.{is_free}
use Rattle.smi_grant.specs.Record.{IsRecord}
use Rattle.smi_message.specs.declared.Body.TheVariants.{Run}
use Rattle.smi_message.specs.Message.{Message}
use Rattle.smi_tree.specs.Hierarchy.{Hierarchy}
use Rattle.smi_command.specs.declared.Link.TheVariants.{Held}
use Rattle.smi_command.specs.KnownGrant.{KnownGrant, InStep, IsSpent, Waits}
use Rattle.smi_command.specs.OneLink.{reached}
use Rattle.smi_command.proofs.OneLinkKept.{grant_known, grant_in_step, run_sent}
use Rattle.smi_law.specs.Known.{record_in, link_in}
use Rattle.smi_protocol.specs.Schedule.{World}
use Rattle.smi_law.specs.World.{Among as IsSent}
use Rattle.smi_law.proofs.Views.{Covers}
use Rattle.smi_law.proofs.Viewed.{Viewed, view_fits}

pub known_lawful : (h : Hierarchy) (w : World) (d : ℕ) → Viewed h w → IsRecord (record_in h w d)
known_lawful h w d v = (view_fits h w d (Operator 1) refl (v.each d (Operator 1))).lawful

pub known_grant : (h : Hierarchy) (w : World) (d : ℕ) (me : Holder) → is_free me ≡ false → Viewed h w
    → KnownGrant (record_in h w d) me (link_in h w me d)
known_grant h w d me party v = grant_known (record_in h w d) me (link_in h w me d)
    (view_fits h w d me party (v.each d me)).link

pub known_in_step : (h : Hierarchy) (w : World) (d : ℕ) (me : Holder) (e n : ℕ) (p : List Command)
    → is_free me ≡ false → Viewed h w → link_in h w me d ≡ Held e n p → InStep (record_in h w d) n p
known_in_step h w d me e n p party v is =
    grant_in_step (record_in h w d) me (link_in h w me d) e n p (view_fits h w d me party (v.each d me)).link is

pub known_sent : (h : Hierarchy) (w : World) (d : ℕ) (me : Holder) (m : Message) (e n : ℕ) (c : Command)
    → is_free me ≡ false → Viewed h w → IsSent m w.sent → m.body ≡ Run d me e n c
    → IsSpent (record_in h w d) e n ⊎ Waits (link_in h w me d) e n c
known_sent h w d me m e n c party v a b =
    let f = view_fits h w d me party (v.each d me) in
    run_sent (record_in h w d) me (link_in h w me d) (reached me (v.each d me).events).sent e n c f
    (subst (Covers d me (reached me (v.each d me).events).sent) b ((v.each d me).covers m a) refl refl)
