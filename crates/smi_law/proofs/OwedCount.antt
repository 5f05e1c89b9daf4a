-- A station never owes more than so much.
use Rattle.std.proofs.Common.{ℕ, zero, suc, ◌≡◌, ◌<◌, ◌≤◌, ◌+◌, ◌-◌, Bool, true, false, List, [], ◌∷◌, refl, sym}
use Rattle.std.proofs.Common.{subst, arith}
use Rattle.std.specs.Prelude.{not, count_by, ◌*◌, ◌==◌, ◌++◌, map, length, Option, Some, None, if◌then◌else◌}
use Rattle.std.specs.List.{cons_option, filter_map, flat_map, range_with_len}
use Rattle.std.proofs.Math.Nat.{mul-le-mul_right}
use Rattle.smi_grant.specs.declared.Holder.TheVariants.{Operator, Domain}
use Rattle.smi_tree.specs.Hierarchy.{Hierarchy}
use Rattle.smi_tree.specs.Lawful.{IsTree}
use Rattle.smi_tree.specs.Lookups.{device_count, domain_count, operators_of, parent_of}
use Rattle.smi_command.specs.declared.Link.{Link}
use Rattle.smi_command.specs.declared.Link.TheVariants.{Out, Taking, Held, Dropping}
use Rattle.smi_command.specs.Link.{due_of, is_out}
use Rattle.smi_command.specs.Pending.{most_pending}
use Rattle.smi_tree.specs.Roles.{is_keeper}
use Rattle.smi_protocol.specs.Display.{Display}
use Rattle.smi_protocol.specs.Grants.{Grants}
use Rattle.smi_protocol.specs.Messages.{all_due, requests, watches}
use Rattle.smi_protocol.specs.Refusals.{most_links}
use Rattle.smi_protocol.specs.Sound.{IsSound}
use Rattle.smi_protocol.specs.Ticking.{all_owed, domains_of, number_of_due, owed, owed_question, owed_to_child}
use Rattle.smi_protocol.specs.Ticking.{owed_to_domain, owed_watch}
use Rattle.smi_protocol.specs.Watching.{is_watched}
use Rattle.smi_protocol.specs.declared.ResendCursor.TheVariants as place
use Rattle.smi_law.specs.Bound.{most_operators, most_owed}
use Rattle.smi_law.specs.Waiting.{waiting}
use Rattle.smi_law.proofs.RestLists.{both_lengths, chosen_most, flat_most, mapped_most, numbers_counted, one_more}
use Rattle.smi_law.proofs.RestLists.{range_length}
use Rattle.smi_law.proofs.Owing.{due_within, one_waits}

-- no more is due than the link waits for
chosen_below : {Y : Type 0} (f : ℕ → Option Y) (k : ℕ) → ((i : ℕ) (y : Y) → f i ≡ Some y → i < k)
    → (low n : ℕ) → length (filter_map f (range_with_len low n)) ≤ k - low
chosen_below f k below low zero = omega arith
chosen_below {Y = Y} f k below low (suc n) = by (f low) refl (chosen_below f k below (low + 1) n)
  where
    by : (o : Option Y) → f low ≡ o → length (filter_map f (range_with_len (low + 1) n)) ≤ k - (low + 1)
        → length (cons_option o (filter_map f (range_with_len (low + 1) n))) ≤ k - low
    by None is l = omega (arith, l)
    by (Some y) is l = let less = below low y is in omega (arith, l, less)

dues_few : (l : Link) → length (all_due l) ≤ waiting l
dues_few l = let a = chosen_below (due_of l) (waiting l) (due_within l) 0 most_pending in omega (arith, a)

dues_most : (l : Link) → length (all_due l) ≤ most_pending
dues_most l =
    let a = chosen_most (due_of l) (range_with_len 0 most_pending) in
    let b = range_length 0 most_pending in
    omega (arith, a, b)

-- a list made of others, of which those that do not pass are empty
flat_counted : {X Y : Type 0} (f : X → List Y) (test : X → Bool) (most : ℕ) → ((x : X) → length (f x) ≤ most)
    → ((x : X) → test x ≡ false → length (f x) ≡ 0) → (xs : List X)
    → length (flat_map f xs) ≤ count_by test xs * most
flat_counted f test most each none [] = omega arith
flat_counted {X = X} f test most each none (x ∷ xs) =
    subst (λ n. length (flat_map f (x ∷ xs)) ≤ n * most) (sym (one_more test x xs))
    (by (test x) refl (flat_counted f test most each none xs) (both_lengths (f x) (flat_map f xs)))
  where
    by : (b : Bool) → test x ≡ b → length (flat_map f xs) ≤ count_by test xs * most
        → length (f x ++ flat_map f xs) ≡ length (f x) + length (flat_map f xs)
        → length (f x ++ flat_map f xs) ≤ ((if b then 1 else 0) + count_by test xs) * most
    by true is l both = let here = each x in grind (arith, l, both, here)
    by false is l both = let here = none x is in grind (arith, l, both, here)

module _ (h : Hierarchy) (number : ℕ) (g : Grants) (s : Display) (sound : IsSound h g) where
  child_most : (x : ℕ) → length (owed_to_child h number g x (parent_of h x)) ≤ 1
  child_most x = by (parent_of h x)
    where
      asked : (p : ℕ) (b : Bool) → length (if b then map (λ due. owed (place.Child x) (requests h number
          (Domain p) x due))
          (all_due (g.links (Domain p) x)) else []) ≤ 1
      asked p true =
          let a = mapped_most (λ due. owed (place.Child x) (requests h number (Domain p) x due))
          (all_due (g.links (Domain p) x)) in
          let b = dues_few (g.links (Domain p) x) in
          let c = one_waits h (g.links (Domain p) x) (sound.child p x) in
          omega (arith, a, b, c)
      asked p false = omega arith

      by : (o : Option ℕ) → length (owed_to_child h number g x o) ≤ 1
      by None = omega arith
      by (Some p) = asked p (is_keeper h number p)

  owed_length : (o d : ℕ) → length (owed_to_domain h number g o d) ≡ length (all_due (g.links (Operator o) d))
  owed_length o d =
      mapped_most (λ due. owed (place.Link o d (number_of_due due)) (requests h number (Operator o) d due))
      (all_due (g.links (Operator o) d))

  domain_most : (o d : ℕ) → length (owed_to_domain h number g o d) ≤ most_pending
  domain_most o d =
      let a = owed_length o d in
      let b = dues_most (g.links (Operator o) d) in
      omega (arith, a, b)

  out_none : (l : Link) → not (is_out l) ≡ false → waiting l ≡ 0
  out_none (Out k) f = refl
  out_none (Taking k) f = absurd cc
  out_none (Held e n p) f = absurd cc
  out_none (Dropping e) f = absurd cc

  question_most : (o : ℕ) → length (owed_question h number o (s.asks o)) ≤ 1
  question_most o = by (s.asks o)
    where
      by : (a : Option ℕ) → length (owed_question h number o a) ≤ 1
      by None = omega arith
      by (Some d) = omega arith

  watch_most : (x : ℕ) → length (owed_watch h number g.boot s x) ≤ 1
  watch_most x = by (is_watched h number s x)
    where
      by : (b : Bool) → length (if b then owed (place.Watch x) (watches h number g.boot x) ∷ [] else []) ≤ 1
      by true = omega arith
      by false = omega arith

  module _ (tree : IsTree h) where
    domains_length : length (domains_of h) ≡ domain_count h
    domains_length = range_length 1 (domain_count h)

    operators_length : length (operators_of h number) ≤ most_operators
    operators_length =
        let a = numbers_counted (λ home. home == number) h.homes 1 in
        let b = tree.lawful.operators.of_station number in
        omega (arith, a, b)

    -- an operator has few links in use
    operator_most : (o : ℕ) → length (flat_map (owed_to_domain h number g o) (domains_of h))
        ≤ most_links * most_pending
    operator_most o =
        let a = flat_counted (owed_to_domain h number g o) (λ d. not (is_out (g.links (Operator o) d))) most_pending
        (domain_most o)
        (λ d f.
        let b = owed_length o d in
        let c = dues_few (g.links (Operator o) d) in
        let e = out_none (g.links (Operator o) d) f in
        omega (arith, b, c, e))
        (domains_of h) in
        let few = sound.few o in
        let m = mul-le-mul_right most_pending few in
        omega (arith, a, m)

    pub owed_most : length (all_owed h number g s) ≤ most_owed h
    owed_most =
        let children = flat_map (λ x. owed_to_child h number g x (parent_of h x)) (domains_of h) in
        let operators = flat_map (λ o. flat_map (owed_to_domain h number g o) (domains_of h))
        (operators_of h number) in
        let questions = flat_map (λ o. owed_question h number o (s.asks o)) (operators_of h number) in
        let watched = flat_map (owed_watch h number g.boot s) (range_with_len 1 (domain_count h + device_count h)) in
        let a = flat_most (λ x. owed_to_child h number g x (parent_of h x)) 1 child_most (domains_of h) in
        let b = flat_most (λ o. flat_map (owed_to_domain h number g o) (domains_of h)) (most_links * most_pending)
        operator_most (operators_of h number) in
        let c = flat_most (λ o. owed_question h number o (s.asks o)) 1 question_most (operators_of h number) in
        let d = flat_most (owed_watch h number g.boot s) 1 watch_most (range_with_len 1
        (domain_count h + device_count h)) in
        let k = mul-le-mul_right (most_links * most_pending) operators_length in
        let l1 = both_lengths children operators in
        let l2 = both_lengths (children ++ operators) questions in
        let l3 = both_lengths (children ++ operators ++ questions) watched in
        let e = domains_length in
        let f = operators_length in
        let r = range_length 1 (domain_count h + device_count h) in
        omega (arith, a, b, c, d, k, l1, l2, l3, e, f, r)
