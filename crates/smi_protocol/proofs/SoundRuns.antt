-- What a station keeps stays sound where a command runs.
use Rattle.std.proofs.Common.{ℕ, ◌≡◌, ◌≤◌, ◌<◌, Bool, true, false, List, [], ◌∷◌, inl, inr, refl, sym, ap, ◌∙◌, subst}
use Rattle.std.proofs.Common.{arith}
use Rattle.std.specs.Prelude.{◌==◌, ◌&&◌, map, not, if◌then◌else◌}
use Rattle.std.proofs.lemmas.Bool.{and_parts, eqb-true}
use Rattle.smi_grant.specs.declared.Command.{Command}
use Rattle.smi_grant.specs.declared.Command.TheVariants.{Do, Include, Exclude, Manual, Ignore}
use Rattle.smi_grant.specs.declared.Holder.{Holder}
use Rattle.smi_grant.specs.declared.Holder.TheVariants.{Operator, Domain}
use Rattle.smi_grant.specs.Holder.{is_free, same_holder}
use Rattle.smi_grant.specs.Keeper.{started}
use Rattle.smi_grant.specs.Record.{Standing, IsRecord, is_outcome, is_settled, last_number}
use Rattle.smi_tree.specs.Hierarchy.{Hierarchy}
use Rattle.smi_tree.specs.Lookups.{accepts, children_of, is_below}
use Rattle.smi_command.specs.Pending.{most_pending}
use Rattle.smi_command.proofs.Heard.{choose}
use Rattle.smi_grant.proofs.Holders.{same_is}
use Rattle.smi_grant.proofs.Lawful.{started_lawful}
use Rattle.smi_rows.specs.declared.Mode.TheVariants as mode
use Rattle.smi_tree.specs.Roles.{is_holder_of, is_parent}
use Rattle.smi_command.specs.Link.{is_held, is_unsettled}
use Rattle.smi_rows.specs.Ranges.{is_standing}
use Rattle.smi_protocol.specs.Children.{change_of, link_after, mode_after, links_after, modes_after, code_of}
use Rattle.smi_protocol.specs.Children.{code_at_domain, largest, own_code}
use Rattle.smi_protocol.specs.Grants.{Grants}
use Rattle.smi_protocol.specs.GrantStep.{waits_for_children}
use Rattle.smi_protocol.specs.Keeping.{begun, commanded}
use Rattle.smi_protocol.specs.Refusals.{most_links}
use Rattle.smi_protocol.specs.Sound.{IsCommand, IsLink, IsAtRest, IsSound, most_handed_on}
use Rattle.smi_protocol.proofs.Lists.{In}
use Rattle.smi_protocol.proofs.Tables.{apart, at_put, child_in, none_passes, number_self, one_parent, parent_is}
use Rattle.smi_protocol.proofs.Tables.{put_here, put_there}
use Rattle.smi_protocol.proofs.SoundChildren.{IsChanged, child_changed}
use Rattle.smi_protocol.proofs.SoundTables.{standing_facts, standing_true, small_outcome, waits_alike, use_alike}

largest_within : (f : ℕ → ℕ) (xs : List ℕ) → ((x : ℕ) → In x xs → f x ≤ 7) → largest (map f xs) ≤ 7
largest_within f [] each = omega arith
largest_within f (x ∷ xs) each =
    let here : f x ≤ 7 = each x (inl refl) in
    let rest : largest (map f xs) ≤ 7 = largest_within f xs (λ y a. each y (inr a)) in
    omega (arith, here, rest)

target_code : (h : Hierarchy) (d t : ℕ) → (if is_below h t d then 0 else 2) ≤ 7
target_code h d t = choose (λ z. z ≤ 7) (is_below h t d) 0 2 (λ i. omega arith) (λ i. omega arith)

domain_code : (h : Hierarchy) (d : ℕ) (c : Command) → code_at_domain h d c ≤ 7
domain_code h d (Do a) = choose (λ z. z ≤ 7) (accepts h d a) 0 1 (λ i. omega arith) (λ i. omega arith)
domain_code h d (Include t) = target_code h d t
domain_code h d (Exclude t) = target_code h d t
domain_code h d (Manual t) = target_code h d t
domain_code h d (Ignore t) = target_code h d t

module _ (h : Hierarchy) (g : Grants) (d : ℕ) (c : Command) (sound : IsSound h g)
    (rests : is_settled (g.records d).phase ≡ true) (command : IsCommand h c) where
  pub changed : (x : ℕ) → is_parent h x d ≡ true → IsChanged h (g.links (Domain d) x) (g.modes x) (change_of h g d c x)
  changed x parent =
      child_changed h (g.links (Domain d) x) (g.modes x) (sound.child d x)
      (none_passes (λ y. is_unsettled (g.links (Domain d) y)) (children_of h d) x (sound.at_rest d rests).still
      (child_in h d x parent))
      (sound.mode d x parent) d x c command

  pub own_within : own_code h g d c ≤ 7
  own_within =
      let children : largest (map (λ x. code_of (change_of h g d c x)) (children_of h d)) ≤ 7 =
      largest_within (λ x. code_of (change_of h g d c x)) (children_of h d)
      (λ x a. (changed x (parent_is h d x a)).code) in
      omega (arith, domain_code h d c, children)

  -- the links of others stay
  other_links : (y x : ℕ) → (y ≡ d → ⊥) → links_after h g d c (Domain y) x ≡ g.links (Domain y) x
  other_links y x other =
      choose (λ z. z ≡ g.links (Domain y) x) (is_parent h x d && y == d) _ _
      (λ t. absurd (other (eqb-true y d (and_parts (is_parent h x d) _ t).1)))
      (λ f. refl)

  operator_links : (o x : ℕ) → links_after h g d c (Operator o) x ≡ g.links (Operator o) x
  operator_links o x =
      choose (λ z. z ≡ g.links (Operator o) x) (is_parent h x d && false) _ _
      (λ t. let wrong : false ≡ true = (and_parts (is_parent h x d) false t).1 in absurd cc)
      (λ f. refl)

  child_links : (y x : ℕ) → IsLink h most_handed_on (links_after h g d c (Domain y) x)
  child_links y x =
      choose (IsLink h most_handed_on) (is_parent h x d && y == d) _ _
      (λ t. (changed x (and_parts (is_parent h x d) _ t).0).link)
      (λ f. sound.child y x)

  child_modes : (y x : ℕ) → is_parent h x y ≡ true → is_held (links_after h g d c (Domain y) x) ≡ false
      → modes_after h g d c x ≡ mode.Included
  child_modes y x parent out = elim (apart y d) [
    | inl is ↦
        let mine : is_parent h x d ≡ true = subst (λ z. is_parent h x z ≡ true) is parent in
        let at : is_held (links_after h g d c (Domain d) x)
        ≡ false = subst (λ z. is_held (links_after h g d c (Domain z) x) ≡ false) is out in
        let link : is_held (link_after (change_of h g d c x) (g.links (Domain d) x))
        ≡ false = rw (mine, number_self d) at at in
        rw mine ((changed x mine).mode link)
    | inr o ↦
        let at : is_held (g.links (Domain y) x) ≡ false = subst (λ z. is_held z ≡ false) (other_links y x o) out in
        choose (λ z. z ≡ mode.Included) (is_parent h x d) (mode_after (change_of h g d c x) (g.modes x)) (g.modes x)
        (λ t. absurd (o (one_parent h x y d parent t)))
        (λ f. sound.mode y x parent at)
  ]

  module _ (who : Holder) (party : is_free who ≡ false) (held : same_holder (g.records d).holder who ≡ true)
      (room : (g.records d).last < last_number) where
    lawful : (busy : Bool) → IsRecord (started (g.records d) busy (own_code h g d c))
    lawful busy =
        started_lawful (g.records d) busy (own_code h g d c) (standing_facts (g.records d) (sound.standing d)).lawful
        (ap is_free (same_is (g.records d).holder who held) ∙ party) room

    run_record : (busy : Bool) → is_standing (started (g.records d) busy (own_code h g d c)) ≡ true
    run_record true = standing_true (started (g.records d) true (own_code h g d c))
        (standing_facts (g.records d) (sound.standing d)).holder refl (lawful true)
    run_record false = standing_true (started (g.records d) false (own_code h g d c))
        (standing_facts (g.records d) (sound.standing d)).holder (small_outcome _ own_within) (lawful false)

    run_holder : (busy : Bool) → is_holder_of h d (started (g.records d) busy (own_code h g d c)).holder ≡ true
    run_holder true = sound.holder d
    run_holder false = sound.holder d

    run_gathered : (busy : Bool) → is_outcome (if busy then own_code h g d c else 0) ≡ true
    run_gathered true = small_outcome _ own_within
    run_gathered false = refl

    run_phase : (busy : Bool) → is_settled (started (g.records d) busy (own_code h g d c)).phase ≡ not busy
    run_phase true = refl
    run_phase false = refl

    not_twice : (a b : Bool) → a ≡ not b → a ≡ true → b ≡ false
    not_twice a true is t = absurd (let wrong : false ≡ true = sym is ∙ t in cc)
    not_twice a false is t = refl

    not_once : (a b : Bool) → a ≡ not b → a ≡ false → b ≡ true
    not_once a true is t = refl
    not_once a false is t = absurd (let wrong : true ≡ false = sym is ∙ t in cc)

    nothing_gathered : (b : Bool) → b ≡ false → (if b then own_code h g d c else 0) ≡ 0
    nothing_gathered b is = rw is refl

    pub run_sound : (busy : Bool) → waits_for_children h (commanded h g d c) d ≡ busy
        → IsSound h (begun (commanded h g d c) d busy (own_code h g d c))
    run_sound busy waits = record {
      standing = λ y. at_put (λ r. is_standing r ≡ true) g.records d (started (g.records d) busy (own_code h g d c))
          y (λ is. run_record busy) (sound.standing y);
      holder = λ y. at_put (λ r. is_holder_of h y r.holder ≡ true) g.records d
          (started (g.records d) busy (own_code h g d c)) y
          (λ is. subst (λ z. is_holder_of h z (started (g.records d) busy (own_code h g d c)).holder ≡ true) (sym is)
          (run_holder busy)) (sound.holder y);
      gathered = λ y. at_put (λ x. is_outcome x ≡ true) g.gathered d (if busy then own_code h g d c else 0) y
          (λ is. run_gathered busy) (sound.gathered y);
      at_rest = λ y settled. elim (apart y d) [ inl is ↦ rest_here y is settled | inr o ↦ rest_there y o settled ];
      at_work = λ y working. elim (apart y d) [ inl is ↦ work_here y is working | inr o ↦ work_there y o working ];
      own = λ o x. subst (IsLink h most_pending) (sym (operator_links o x)) (sound.own o x);
      child = child_links;
      mode = λ y x. child_modes y x;
      few = λ o. subst (λ n. n ≤ most_links) (sym
          (use_alike h g (begun (commanded h g d c) d busy (own_code h g d c)) o (operator_links o))) (sound.few o);
    }
      where
        new : Grants
        new = begun (commanded h g d c) d busy (own_code h g d c)

        record_here : (new.records d) ≡ started (g.records d) busy (own_code h g d c)
        record_here = put_here g.records d (started (g.records d) busy (own_code h g d c))

        phase_here : is_settled (new.records d).phase ≡ not busy
        phase_here = ap (λ (r : Standing). is_settled r.phase) record_here ∙ run_phase busy

        rest_here : (y : ℕ) → y ≡ d → is_settled (new.records y).phase ≡ true → IsAtRest h new y
        rest_here y is settled =
            let quiet : busy ≡ false = not_twice _ busy phase_here
            (subst (λ z. is_settled (new.records z).phase ≡ true) is settled) in
            subst (λ z. IsAtRest h new z) (sym is)
            (record {
              gathered = put_here g.gathered d (if busy then own_code h g d c else 0) ∙ nothing_gathered busy quiet;
              still = waits ∙ quiet;
            })

        rest_there : (y : ℕ) → (y ≡ d → ⊥) → is_settled (new.records y).phase ≡ true → IsAtRest h new y
        rest_there y o settled =
            let old = sound.at_rest y (subst (λ (r : Standing). is_settled r.phase ≡ true)
            (put_there g.records d (started (g.records d) busy (own_code h g d c)) y o) settled) in
            record {
              gathered = put_there g.gathered d (if busy then own_code h g d c else 0) y o ∙ old.gathered;
              still = waits_alike h g new y (λ x. other_links y x o) ∙ old.still;
            }

        work_here : (y : ℕ) → y ≡ d → is_settled (new.records y).phase ≡ false → waits_for_children h new y ≡ true
        work_here y is working =
            let at : busy ≡ true = not_once _ busy phase_here
            (subst (λ z. is_settled (new.records z).phase ≡ false) is working) in
            subst (λ z. waits_for_children h new z ≡ true) (sym is) (waits ∙ at)

        work_there : (y : ℕ) → (y ≡ d → ⊥) → is_settled (new.records y).phase ≡ false
            → waits_for_children h new y ≡ true
        work_there y o working =
            waits_alike h g new y (λ x. other_links y x o)
            ∙ sound.at_work y (subst (λ (r : Standing). is_settled r.phase ≡ false)
            (put_there g.records d (started (g.records d) busy (own_code h g d c)) y o) working)
