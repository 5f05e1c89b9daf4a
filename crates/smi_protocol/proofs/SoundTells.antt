-- What a station keeps stays sound where a record is told to a parent.
use Rattle.std.proofs.Common.{ℕ, ◌≡◌, ◌≤◌, ◌<◌, ◌+◌, Bool, true, false, List, [], ◌∷◌, inl, inr, refl, sym, ap, ◌∙◌}
use Rattle.std.proofs.Common.{subst, arith}
use Rattle.std.specs.Prelude.{◌==◌, ◌&&◌, nat_le, nat_lt, max, not, map}
use Rattle.std.specs.List.{AllByRecursion, range_with_len}
use Rattle.std.proofs.lemmas.Bool.{and_parts, ltb-false}
use Rattle.smi_grant.specs.declared.Command.{Command}
use Rattle.smi_grant.specs.declared.Holder.{Holder}
use Rattle.smi_grant.specs.declared.Holder.TheVariants.{Operator, Domain}
use Rattle.smi_grant.specs.Holder.{is_free, same_holder}
use Rattle.smi_grant.specs.Record.{Standing, IsRecord, is_outcome, is_settled, last_epoch}
use Rattle.smi_tree.specs.Hierarchy.{Hierarchy}
use Rattle.smi_tree.specs.Lookups.{children_of}
use Rattle.smi_command.specs.declared.Link.{Link}
use Rattle.smi_command.specs.declared.Link.TheVariants.{Out, Taking, Held, Dropping}
use Rattle.smi_command.specs.declared.LinkHeard.{LinkHeard}
use Rattle.smi_command.specs.declared.Settlement.{Settlement}
use Rattle.smi_command.specs.Hearing.{told_link, told_heard, settled_count, code_in, settlement_in, settlements}
use Rattle.smi_command.specs.Hearing.{commands_settled}
use Rattle.smi_command.specs.Pending.{most_pending, base_of}
use Rattle.smi_command.proofs.Heard.{choose, not_true, by_row_held}
use Rattle.smi_command.proofs.HeardCommands.{newest_at_most}
use Rattle.smi_grant.proofs.Lawful.{busy_is, settled_lawful}
use Rattle.smi_rows.specs.declared.Mode.TheVariants.{Included}
use Rattle.smi_tree.specs.Roles.{is_holder_of, is_parent}
use Rattle.smi_command.specs.Link.{is_held, is_unsettled}
use Rattle.smi_rows.specs.Ranges.{is_standing}
use Rattle.smi_protocol.specs.Grants.{Grants, put, put_link}
use Rattle.smi_protocol.specs.GrantStep.{waits_for_children}
use Rattle.smi_protocol.specs.Hearing.{is_heard, is_ahead, settlements_in, gathered_with, parent_heard, ends, ended}
use Rattle.smi_protocol.specs.Hearing.{ended_record}
use Rattle.smi_protocol.specs.Refusals.{most_links}
use Rattle.smi_protocol.specs.Sound.{ArePending, IsAtRest, IsLink, IsSound, most_handed_on}
use Rattle.smi_protocol.proofs.Lists.{In, from_range}
use Rattle.smi_protocol.proofs.SoundLinks.{sound_told}
use Rattle.smi_protocol.proofs.SoundTables.{standing_facts, standing_true, larger_outcome, use_alike, waits_alike}
use Rattle.smi_protocol.proofs.Tables.{apart, at_put_link, child_in, none_passes, number_self, put_here, put_there}

-- What is heard.

nothing_heard : (f : ℕ → Settlement) (low k : ℕ) → k ≡ 0
    → is_heard (commands_settled (map f (range_with_len low k))) ≡ false
nothing_heard f low k none = rw none refl

none_settle : (n : ℕ) (r : Standing) → settled_count n [] r ≡ 0
none_settle n r = omega arith

-- a link hears something only while something is under way
pub heard_unsettled : (l : Link) (me : Holder) (r : Standing) → is_heard (told_heard l me r) ≡ true
    → is_unsettled l ≡ true
heard_unsettled (Out k) me r heard = absurd cc
heard_unsettled (Taking s) me r heard = refl
heard_unsettled (Held e n (c ∷ p)) me r heard = refl
heard_unsettled (Held e n []) me r heard =
    let nothing = choose {A = Link × LinkHeard} (λ z. is_heard z.1 ≡ false) (r.epoch == e) _ _
    (λ t. nothing_heard (settlement_in r) (base_of n [] + 1) (settled_count n [] r) (none_settle n r))
    (λ f. refl) in
    absurd (let wrong : true ≡ false = sym heard ∙ nothing in cc)
heard_unsettled (Dropping e) me r heard = refl

pub held_stays : (l : Link) (me : Holder) (r : Standing) → is_held (told_link l me r) ≡ false → is_held l ≡ false
held_stays (Out k) me r out = out
held_stays (Taking s) me r out = refl
held_stays (Held e n p) me r out =
    let held = by_row_held (λ old new. is_held new ≡ true) me r e n p (λ same. refl) refl in
    absurd (let wrong : true ≡ false = sym held ∙ out in cc)
held_stays (Dropping e) me r out = refl

-- The codes that are gathered.

abbrev Sayable : Settlement → Type 0
Sayable s = is_outcome s.code ≡ true

gathered_outcome : (code : ℕ) (xs : List Settlement) → is_outcome code ≡ true → AllByRecursion Sayable xs
    → is_outcome (gathered_with code xs) ≡ true
gathered_outcome code [] so each = so
gathered_outcome code (s ∷ xs) so each = gathered_outcome (max code s.code) xs (larger_outcome code s.code so each.0)
    each.1

all_mapped : (f : ℕ → Settlement) (xs : List ℕ) → ((x : ℕ) → In x xs → Sayable (f x))
    → AllByRecursion Sayable (map f xs)
all_mapped f [] each = tt
all_mapped f (x ∷ xs) each = (each x (inl refl), all_mapped f xs (λ y a. each y (inr a)))

settled_in : (xs : List Settlement) → AllByRecursion Sayable xs
    → AllByRecursion Sayable (settlements_in (commands_settled xs))
settled_in [] each = tt
settled_in (s ∷ xs) each = each

-- what settles on a link with one command at most, told a record that is not ahead of it
held_codes : (h : Hierarchy) (e n : ℕ) (p : List Command) (r : Standing) → ArePending h most_handed_on n p
    → is_outcome r.outcome ≡ true → r.last ≤ n → AllByRecursion Sayable (settlements n p r)
held_codes h e n p r pending outcome within =
    all_mapped (settlement_in r) (range_with_len (base_of n p + 1) (settled_count n p r))
    (λ m a. let b = from_range m (base_of n p + 1) (settled_count n p r) a in
    let least : base_of n p + 1 ≤ m = b.0 in
    let most : m < base_of n p + 1 + settled_count n p r = b.1 in
    let last : m ≡ r.last = same m least most in
    newest m last)
  where
    same : (m : ℕ) → base_of n p + 1 ≤ m → m < base_of n p + 1 + settled_count n p r → m ≡ r.last
    same m least most = omega (arith, pending.few, pending.numbered, newest_at_most r, within, least, most)

    newest : (m : ℕ) → m ≡ r.last → is_outcome (code_in r m) ≡ true
    newest m is = subst (λ z. is_outcome (code_in r z) ≡ true) (sym is) (rw (number_self r.last) outcome)

pub settled_codes : (h : Hierarchy) (l : Link) (me : Holder) (r : Standing) → IsLink h most_handed_on l
    → is_outcome r.outcome ≡ true → is_ahead l r ≡ false → AllByRecursion Sayable (settlements_in (told_heard l me r))
settled_codes h (Out k) me r sound outcome behind = tt
settled_codes h (Taking s) me r sound outcome behind =
    choose {A = Link × LinkHeard} F (r.epoch == s + 1 && same_holder r.holder me) _ _ (λ t. (refl, tt))
    (λ f. choose {A = Link × LinkHeard} F (is_free r.holder && r.epoch == last_epoch) _ _ (λ t. (refl, tt))
    (λ f'. choose {A = Link × LinkHeard} F (is_free r.holder && nat_lt s r.epoch) _ _ (λ t. tt)
    (λ f''. choose {A = Link × LinkHeard} F (not (is_free r.holder)
    && (not (same_holder r.holder me) && nat_le s r.epoch)) _ _ (λ t. (refl, tt)) (λ f'''. tt))))
  where
    F : Link × LinkHeard → Type 0
    F z = AllByRecursion Sayable (settlements_in z.1)
settled_codes h (Held e n p) me r sound outcome behind =
    choose {A = Link × LinkHeard} (λ z. AllByRecursion Sayable (settlements_in z.1)) (r.epoch == e) _ _
    (λ t. settled_in (settlements n p r) (held_codes h e n p r sound.1 outcome (ltb-false n r.last (rw t at behind))))
    (λ f. tt)
settled_codes h (Dropping e) me r sound outcome behind =
    choose {A = Link × LinkHeard} (λ z. AllByRecursion Sayable (settlements_in z.1)) (nat_lt e r.epoch) _ _
    (λ t. (refl, tt)) (λ f. tt)

module _ (h : Hierarchy) (g : Grants) (sound : IsSound h g) (p d : ℕ) (r : Standing) (lawful : IsRecord r)
    (outcome : is_outcome r.outcome ≡ true)
    (child : is_parent h d p ≡ true) (heard : is_heard (told_heard (g.links (Domain p) d) (Domain p) r) ≡ true)
    (behind : is_ahead (g.links (Domain p) d) r ≡ false) where
  abbrev old : Link
  old = g.links (Domain p) d

  abbrev new : Link
  new = told_link old (Domain p) r

  abbrev on : Grants
  on = parent_heard g p d r

  abbrev code : ℕ
  code = gathered_with (g.gathered p) (settlements_in (told_heard old (Domain p) r))

  -- only a busy domain waits for a child
  working : is_settled (g.records p).phase ≡ false
  working = by (is_settled (g.records p).phase) refl
    where
      by : (b : Bool) → is_settled (g.records p).phase ≡ b → is_settled (g.records p).phase ≡ false
      by false is = is
      by true is =
          let still = none_passes (λ x. is_unsettled (g.links (Domain p) x)) (children_of h p) d
          (sound.at_rest p is).still (child_in h p d child) in
          absurd (let wrong : true ≡ false = sym (heard_unsettled old (Domain p) r heard) ∙ still in cc)

  gathered_more : is_outcome code ≡ true
  gathered_more = gathered_outcome (g.gathered p) (settlements_in (told_heard old (Domain p) r)) (sound.gathered p)
      (settled_codes h old (Domain p) r (sound.child p d) outcome behind)

  others : (y : ℕ) → (y ≡ p → ⊥) → (x : ℕ) → put_link g.links (Domain p) d new (Domain y) x ≡ g.links (Domain y) x
  others y o x = at_put_link (λ z. z ≡ g.links (Domain y) x) g.links (Domain p) d new (Domain y) x
      (λ i j. absurd (let same : y ≡ p = cc in o same)) refl

  operators : (o x : ℕ) → put_link g.links (Domain p) d new (Operator o) x ≡ g.links (Operator o) x
  operators o x = at_put_link (λ z. z ≡ g.links (Operator o) x) g.links (Domain p) d new (Operator o) x
      (λ i j. absurd cc) refl

  -- other records and codes of the one domain, that fit its links
  module _ (records : ℕ → Standing) (gathered : ℕ → ℕ) where
    abbrev k : Grants
    k = record g { records = records; gathered = gathered; links = put_link g.links (Domain p) d new }

    told_sound : ((y : ℕ) → (y ≡ p → ⊥) → (records y ≡ g.records y) × (gathered y ≡ g.gathered y))
        → is_standing (records p) ≡ true → is_holder_of h p (records p).holder ≡ true → is_outcome (gathered p) ≡ true
        → (is_settled (records p).phase ≡ true → IsAtRest h k p)
        → (is_settled (records p).phase ≡ false → waits_for_children h k p ≡ true)
        → IsSound h k
    told_sound same standing known said rests works = record {
      standing = λ y. by_number (λ y. is_standing (records y) ≡ true) y standing
          (λ o. subst (λ z. is_standing z ≡ true) (sym (same y o).0) (sound.standing y));
      holder = λ y. by_number (λ y. is_holder_of h y (records y).holder ≡ true) y known
          (λ o. subst (λ (z : Standing). is_holder_of h y z.holder ≡ true) (sym (same y o).0) (sound.holder y));
      gathered = λ y. by_number (λ y. is_outcome (gathered y) ≡ true) y said
          (λ o. subst (λ z. is_outcome z ≡ true) (sym (same y o).1) (sound.gathered y));
      at_rest = λ y. by_number (λ y. is_settled (records y).phase ≡ true → IsAtRest h k y) y rests
          (λ o s. let a = sound.at_rest y (ap (λ (z : Standing). is_settled z.phase) (sym (same y o).0) ∙ s) in
          record { gathered = (same y o).1 ∙ a.gathered; still = waits_alike h g k y (others y o) ∙ a.still });
      at_work = λ y. by_number (λ y. is_settled (records y).phase ≡ false → waits_for_children h k y ≡ true) y works
          (λ o w. waits_alike h g k y (others y o) ∙ sound.at_work y
          (ap (λ (z : Standing). is_settled z.phase) (sym (same y o).0) ∙ w));
      own = λ o x. subst (IsLink h most_pending) (sym (operators o x)) (sound.own o x);
      child = λ q x. at_put_link (IsLink h most_handed_on) g.links (Domain p) d new (Domain q) x
          (λ i j. sound_told h most_handed_on old (Domain p) r refl lawful (sound.child p d)) (sound.child q x);
      mode = λ q x parent. at_put_link (λ z. is_held z ≡ false → g.modes x ≡ Included) g.links (Domain p) d new
          (Domain q) x
          (λ i j out. subst (λ z. g.modes z ≡ Included) (sym i)
          (sound.mode p d child (held_stays old (Domain p) r out)))
          (sound.mode q x parent);
      few = λ o. subst (λ n. n ≤ most_links) (sym (use_alike h g k o (operators o))) (sound.few o);
    }
      where
        by_number : (P : ℕ → Type 0) (y : ℕ) → P p → ((y ≡ p → ⊥) → P y) → P y
        by_number P y here there = elim (apart y p) [ inl is ↦ subst P (sym is) here | inr o ↦ there o ]

  goes_on_sound : ends h on p ≡ false → IsSound h on
  goes_on_sound goes =
      told_sound g.records (put g.gathered p code)
      (λ y o. (refl, put_there g.gathered p code y o))
      (sound.standing p) (sound.holder p) (subst (λ z. is_outcome z ≡ true) (sym (put_here g.gathered p code))
      gathered_more)
      (λ s. absurd (let wrong : true ≡ false = sym s ∙ working in cc))
      (λ w. waits (waits_for_children h on p) (rw working at goes))
    where
      waits : (b : Bool) → not b ≡ false → b ≡ true
      waits true i = refl
      waits false i = absurd cc

  record_ends : is_standing (ended_record on p) ≡ true
  record_ends =
      let facts = standing_facts (g.records p) (sound.standing p) in
      let out : is_outcome (on.gathered p) ≡ true = subst (λ z. is_outcome z ≡ true)
      (sym (put_here g.gathered p code)) gathered_more in
      standing_true (ended_record on p) facts.holder out
      (settled_lawful (g.records p) (on.gathered p) facts.lawful (busy_is (g.records p).phase working))

  ended_sound : ends h on p ≡ true → IsSound h (ended true on p)
  ended_sound stops =
      told_sound (put g.records p (ended_record on p)) (put (put g.gathered p code) p 0)
      (λ y o. (
        put_there g.records p (ended_record on p) y o,
        put_there (put g.gathered p code) p 0 y o ∙ put_there g.gathered p code y o,
      ))
      (subst (λ z. is_standing z ≡ true) (sym (put_here g.records p (ended_record on p))) record_ends)
      (subst (λ (z : Standing). is_holder_of h p z.holder ≡ true) (sym (put_here g.records p (ended_record on p)))
      (sound.holder p))
      (subst (λ z. is_outcome z ≡ true) (sym (put_here (put g.gathered p code) p 0)) refl)
      (λ s. record {
        gathered = put_here (put g.gathered p code) p 0;
        still = not_true (waits_for_children h on p) (and_parts (not (is_settled (g.records p).phase)) _ stops).1;
      })
      (λ w. absurd (let wrong : true ≡ false = ap (λ (z : Standing). is_settled z.phase)
      (sym (put_here g.records p (ended_record on p))) ∙ w in cc))

  pub parent_sound : IsSound h (ended (ends h on p) on p)
  parent_sound = by (ends h on p) refl
    where
      by : (b : Bool) → ends h on p ≡ b → IsSound h (ended b on p)
      by true is = ended_sound is
      by false is = goes_on_sound is
