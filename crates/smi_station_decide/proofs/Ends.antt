-- The state of a domain after it was told of a child, and who is told so.
use Rattle.std.proofs.Common.{ℕ, ◌≡◌, Bool, true, false, List, [], ◌∷◌, refl, sym, ap, ◌∙◌}
use Rattle.std.specs.Prelude.{◌&&◌, not, if◌then◌else◌, unwrap_or}
use Rattle.std.proofs.lemmas.Bool.{and_parts}
use Rattle.smi_grant.specs.declared.Holder.TheVariants.{Domain}
use Rattle.smi_grant.specs.Holder.{is_free}
use Rattle.smi_grant.specs.Record.{Standing, is_outcome, is_record, is_settled}
use Rattle.smi_grant.proofs.Records.{is_record-facts}
use Rattle.smi_message.specs.Message.{Message}
use Rattle.smi_command.specs.declared.Link.{Link}
use Rattle.smi_command.specs.Hearing.{told_heard, told_link}
use Rattle.smi_command.proofs.Heard.{not_true}
use Rattle.smi_tree.specs.Roles.{is_parent, holder_station}
use Rattle.smi_tree.specs.Hierarchy.{Hierarchy}
use Rattle.smi_tree.specs.Lawful.{IsBetween, IsTree}
use Rattle.smi_tree.specs.Lookups.{station_count}
use Rattle.smi_station_output.specs.Out.{kept_after, sent_after}
use Rattle.smi_station_output.proofs.Sending.{sent_twice}
use Rattle.smi_protocol.specs.Grants.{Grants}
use Rattle.smi_protocol.specs.Hearing.{ended, ended_record, ended_sends, ends, hears, is_ahead, is_heard}
use Rattle.smi_protocol.specs.Hearing.{parent_heard, parent_told}
use Rattle.smi_protocol.specs.Messages.{requests_due, tells_holder}
use Rattle.smi_protocol.specs.Sound.{IsLink, IsSound, most_handed_on}
use Rattle.smi_protocol.specs.Step.{Out}
use Rattle.smi_protocol.specs.declared.entry.Entry.{Entry}
use Rattle.smi_protocol.proofs.Ranges.{holder_there}
use Rattle.smi_protocol.proofs.SendsInRange.{working_held}
use Rattle.smi_protocol.proofs.SoundLinks.{sound_told}
use Rattle.smi_protocol.proofs.SoundTables.{standing_facts}
use Rattle.smi_protocol.proofs.SoundTells.{parent_sound}
use Rattle.smi_protocol.proofs.Tables.{put_here, put_link_here}
use Rattle.smi_station_decide.specs.Handing.{told_end, with_step}

module _ (h : Hierarchy) (number : ℕ) (g : Grants) (p d : ℕ) (r : Standing) where
  abbrev pub on : Grants
  on = parent_heard g p d r

  abbrev pub after : Standing
  after = (ended (ends h on p) on p).records p

  -- its holder stays
  holder_stays : (b : Bool) → ((ended b on p).records p).holder ≡ (g.records p).holder
  holder_stays true = ap (λ (z : Standing). z.holder) (put_here g.records p (ended_record on p))
  holder_stays false = refl

  -- its command ends if it was at work and is not
  end_told : (b : Bool) → ends h on p ≡ b → told_end h number p (g.records p) ((ended b on p).records p)
      ≡ ended_sends h number b on p
  end_told true is =
      let working : is_settled (g.records p).phase
      ≡ false = not_true (is_settled (g.records p).phase) (and_parts (not (is_settled (g.records p).phase)) _ is).0 in
      ap (told_end h number p (g.records p)) (put_here g.records p (ended_record on p))
      ∙ ap (λ b. if not b && true then tells_holder h number p (ended_record on p) ∷ [] else []) working
  end_told false is = by (is_settled (g.records p).phase)
    where
      by : (b : Bool) → (if not b && b then tells_holder h number p (g.records p) ∷ [] else []) ≡ []
      by true = refl
      by false = refl

  -- what is sent
  pub parent_sends : (out : Out) (es : List Entry) → es ≡ (parent_told h number g p d r).entries
      → record out {
        datagrams = sent_after (sent_after out.datagrams (told_end h number p (g.records p) after))
            (requests_due h number (Domain p) d (told_link (g.links (Domain p) d) (Domain p) r));
        kept = kept_after es out.kept;
      }
      ≡ with_step out (parent_told h number g p d r)
  parent_sends out es left =
      ap (λ (xs : List Entry). record out {
        datagrams = sent_after (sent_after out.datagrams (told_end h number p (g.records p) after))
            (requests_due h number (Domain p) d (told_link (g.links (Domain p) d) (Domain p) r));
        kept = kept_after xs out.kept;
      }) left
      ∙ ap (λ (ms : List Message). record out {
        datagrams = sent_after (sent_after out.datagrams ms)
            (requests_due h number (Domain p) d (told_link (g.links (Domain p) d) (Domain p) r));
        kept = kept_after (parent_told h number g p d r).entries out.kept;
      })
      (end_told (ends h on p) refl)
      ∙ ap (λ (l : Link). record out {
        datagrams = sent_after
            (sent_after out.datagrams (ended_sends h number (ends h on p) on p)) (requests_due h number (Domain p) d l);
        kept = kept_after (parent_told h number g p d r).entries out.kept;
      }) (sym (put_link_here g.links (Domain p) d (told_link (g.links (Domain p) d) (Domain p) r)))
      ∙ ap (λ (ms : List Message). record out {
        datagrams = ms;
        kept = kept_after (parent_told h number g p d r).entries out.kept;
      })
      (sent_twice out.datagrams (ended_sends h number (ends h on p) on p)
      (requests_due h number (Domain p) d (on.links (Domain p) d)))

  module _ (tree : IsTree h) (sound : IsSound h g) (child : is_parent h d p ≡ true) (news : is_record r ≡ true)
      (outcome : is_outcome r.outcome ≡ true) (listens : hears (g.links (Domain p) d) (Domain p) r ≡ true) where
    pub parent_stays : IsSound h (parent_told h number g p d r).grants
    parent_stays =
        let b = and_parts (is_heard (told_heard (g.links (Domain p) d) (Domain p) r))
        (not (is_ahead (g.links (Domain p) d) r)) listens in
        parent_sound h g sound p d r (is_record-facts r news) outcome child b.0 (not_true _ b.1)

    -- a domain at work has a holder whose station is known
    pub holder_known : is_settled (g.records p).phase ≡ false
        → IsBetween 1 (station_count h) (unwrap_or (holder_station h after.holder) 0)
    holder_known working =
        let old = standing_facts (g.records p) (sound.standing p) in
        let new = standing_facts after (parent_stays.standing p) in
        let held : is_free after.holder ≡ false = ap is_free (holder_stays (ends h on p))
        ∙ working_held (g.records p) old.lawful working in
        holder_there h tree p after.holder held new.holder (parent_stays.holder p)

    pub parent_link : IsLink h most_handed_on (told_link (g.links (Domain p) d) (Domain p) r)
    parent_link = sound_told h most_handed_on (g.links (Domain p) d) (Domain p) r refl (is_record-facts r news)
        (sound.child p d)
