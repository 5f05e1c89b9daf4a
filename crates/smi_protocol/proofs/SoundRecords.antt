-- What a station keeps stays sound where a domain changes hands.
use Rattle.std.proofs.Common.{ℕ, ◌≡◌, ◌<◌, true, false, inl, inr, refl, sym, ap, ◌∙◌, subst, arith}
use Rattle.std.specs.Prelude.{◌==◌, ◌&&◌, nat_lt}
use Rattle.std.proofs.lemmas.Bool.{and_parts, eqb-true, ltb-true}
use Rattle.smi_grant.specs.declared.Holder.{Holder}
use Rattle.smi_grant.specs.declared.Holder.TheVariants.{Free}
use Rattle.smi_grant.specs.declared.Verdict.TheVariants.{New, Same}
use Rattle.smi_grant.specs.Holder as holder
use Rattle.smi_grant.specs.Holder.{is_free, same_holder}
use Rattle.smi_grant.specs.Keeper.{handed, take_after, drop_after}
use Rattle.smi_grant.specs.Record.{Standing, is_settled, last_epoch}
use Rattle.smi_tree.specs.Hierarchy.{Hierarchy}
use Rattle.smi_command.proofs.Heard.{choose}
use Rattle.smi_grant.proofs.Holders.{same_is}
use Rattle.smi_grant.proofs.Lawful.{free_last, none_settled, granted_lawful, freed_lawful}
use Rattle.smi_tree.specs.Roles.{is_holder_of}
use Rattle.smi_rows.specs.Ranges.{is_standing}
use Rattle.smi_protocol.specs.Grants.{Grants, with_record}
use Rattle.smi_protocol.specs.Keeping.{decided}
use Rattle.smi_protocol.specs.Sound.{IsAtRest, IsSound}
use Rattle.smi_protocol.specs.declared.entry.Entry.{Entry}
use Rattle.smi_protocol.proofs.Tables.{apart, at_put, put_here, put_there}
use Rattle.smi_protocol.proofs.SoundTables.{standing_facts, standing_true}

module _ (h : Hierarchy) (g : Grants) (d : ℕ) (sound : IsSound h g) where
  -- another record of a domain that rests, and goes on resting
  resting_sound : (r : Standing) → is_settled (g.records d).phase ≡ true → is_settled r.phase ≡ true
      → is_standing r ≡ true → is_holder_of h d r.holder ≡ true → IsSound h (with_record g d r)
  resting_sound r rested rests standing known = record {
    standing = λ y. at_put (λ z. is_standing z ≡ true) g.records d r y (λ is. standing) (sound.standing y);
    holder = λ y. at_put (λ z. is_holder_of h y z.holder ≡ true) g.records d r y
        (λ is. subst (λ z. is_holder_of h z r.holder ≡ true) (sym is) known) (sound.holder y);
    gathered = sound.gathered;
    at_rest = λ y settled. at_put (λ (z : Standing). is_settled z.phase ≡ true → IsAtRest h (with_record g d r) y)
        g.records d r y
        (λ is s. let old = sound.at_rest d rested in
        subst (λ z. IsAtRest h (with_record g d r) z) (sym is)
        (record { gathered = old.gathered; still = old.still }))
        (λ s. let old = sound.at_rest y s in record { gathered = old.gathered; still = old.still })
        settled;
    at_work = λ y working. elim (apart y d) [
      | inl is ↦
          let at : is_settled r.phase ≡ false = ap (λ (z : Standing). is_settled z.phase)
          (sym (put_here g.records d r)) ∙ ap (λ z. is_settled ((with_record g d r).records z).phase) (sym is)
          ∙ working in
          absurd (let wrong : true ≡ false = sym rests ∙ at in cc)
      | inr o ↦ sound.at_work y (ap (λ (z : Standing). is_settled z.phase) (sym (put_there g.records d r y o))
          ∙ working)
    ];
    own = sound.own;
    child = sound.child;
    mode = sound.mode;
    few = sound.few;
  }

  free_rests : is_free (g.records d).holder ≡ true → is_settled (g.records d).phase ≡ true
  free_rests free =
      let lawful = (standing_facts (g.records d) (sound.standing d)).lawful in
      ap is_settled (none_settled (g.records d) lawful (free_last (g.records d) lawful free))

  pub take_sound : (number : ℕ) (from : ℕ) (note : Entry) (who : Holder) (seen : ℕ) → is_free who ≡ false
      → holder.is_in_range who ≡ true → is_holder_of h d who ≡ true
      → IsSound h (decided h number g from d note (take_after (g.records d) who seen)).grants
  take_sound number from note who seen party range known =
      choose (λ v. IsSound h (decided h number g from d note v).grants)
      (is_free (g.records d).holder && ((g.records d).epoch == seen && nat_lt seen last_epoch))
      (New (handed (g.records d) who)) Same
      (λ t.
      let a = and_parts (is_free (g.records d).holder) _ t in
      let b = and_parts ((g.records d).epoch == seen) _ a.1 in
      let at : (g.records d).epoch ≡ seen = eqb-true _ _ b.0 in
      let below : seen < last_epoch = ltb-true _ _ b.1 in
      let lawful = (standing_facts (g.records d) (sound.standing d)).lawful in
      resting_sound (handed (g.records d) who) (free_rests a.0) refl
      (standing_true (handed (g.records d) who) range refl
      (granted_lawful (g.records d) who lawful a.0 party (omega (arith, at, below))))
      known)
      (λ f. sound)

  pub drop_sound : (number : ℕ) (from : ℕ) (note : Entry) (who : Holder) (e : ℕ) → is_free who ≡ false
      → IsSound h (decided h number g from d note (drop_after (g.records d) who e)).grants
  drop_sound number from note who e party =
      choose (λ v. IsSound h (decided h number g from d note v).grants)
      (same_holder (g.records d).holder who && ((g.records d).epoch == e && is_settled (g.records d).phase))
      (New (handed (g.records d) Free)) Same
      (λ t.
      let a = and_parts (same_holder (g.records d).holder who) _ t in
      let b = and_parts ((g.records d).epoch == e) _ a.1 in
      let lawful = (standing_facts (g.records d) (sound.standing d)).lawful in
      let taken : is_free (g.records d).holder ≡ false = ap is_free (same_is _ who a.0) ∙ party in
      resting_sound (handed (g.records d) Free) b.1 refl
      (standing_true (handed (g.records d) Free) refl refl (freed_lawful (g.records d) lawful taken))
      refl)
      (λ f. sound)
