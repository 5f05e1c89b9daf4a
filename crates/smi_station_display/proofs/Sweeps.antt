-- A sweep goes through lists one by one.
use Rattle.std.proofs.Common.{ℕ, zero, suc, ◌≡◌, ◌<◌, ◌+◌, ◌-◌, Bool, true, false, List, [], ◌∷◌, ◌++◌, length, drop}
use Rattle.std.proofs.Common.{take, get_or, map, Option, Some, None, refl, sym, ap, ◌∙◌, subst, arith}
use Rattle.std.specs.Prelude.{◌==◌, ◌&&◌, filter, if◌then◌else◌, not}
use Rattle.std.proofs.lemmas.Bool.Decides.{nat_tests}
use Rattle.std.specs.List.{cons_option, filter_map, flat_map, range_with_len}
use Rattle.smi_command.specs.declared.Due.{Due}
use Rattle.smi_tree.specs.Hierarchy.{Hierarchy}
use Rattle.smi_tree.specs.Lawful.{IsBetween, IsTree}
use Rattle.smi_tree.specs.Lookups.{domain_count, operator_count, operators_of}
use Rattle.smi_station_output.specs.Out.{sent_after}
use Rattle.smi_protocol.specs.Messages.{if_any}
use Rattle.smi_protocol.specs.Step.{Out}
use Rattle.smi_protocol.specs.declared.ResendCursor.{ResendCursor}
use Rattle.smi_tree.specs.Roles.{is_keeper}
use Rattle.smi_protocol.specs.Ticking.{Owed, is_before, place_behind}
use Rattle.smi_protocol.proofs.Ranges.{kept_there, number_within}
use Rattle.smi_protocol.proofs.Tables.{operator_ours}
use Rattle.smi_station_display.specs.Sweeping.{Sweeping, offered, offered_one, place_after, sweeping}
use Rattle.smi_station_display.proofs.Listing.{drop_next, in_at}

-- one list and then another
pub offered_twice : (s : Sweeping) (xs ys : List Owed) → offered (offered s xs) ys ≡ offered s (xs ++ ys)
offered_twice s [] ys = refl
offered_twice s (x ∷ xs) ys = offered_twice (offered_one s x) xs ys

range_next : (low n i : ℕ) → i < n → range_with_len low (n - i) ≡ low ∷ range_with_len (low + 1) (n - (i + 1))
range_next low n i within = ap (range_with_len low) (one_less n i within)
  where
    one_less : (n i : ℕ) → i < n → n - i ≡ suc (n - (i + 1))
    one_less n i within = omega (arith, within)

-- numbers one by one
pub range_offered : (s : Sweeping) (f : ℕ → List Owed) (n i : ℕ) → i < n
    → offered s (flat_map f (range_with_len (i + 1) (n - i)))
    ≡ offered (offered s (f (i + 1))) (flat_map f (range_with_len (i + 1 + 1) (n - (i + 1))))
range_offered s f n i within =
    ap (λ xs. offered s (flat_map f xs)) (range_next (i + 1) n i within)
    ∙ sym (offered_twice s (f (i + 1)) (flat_map f (range_with_len (i + 1 + 1) (n - (i + 1)))))

-- a list one by one
pub list_offered : (s : Sweeping) (f : ℕ → List Owed) (xs : List ℕ) (i d : ℕ) → i < length xs
    → offered s (flat_map f (drop i xs)) ≡ offered (offered s (f (get_or xs i d))) (flat_map f (drop (i + 1) xs))
list_offered s f xs i d within =
    ap (λ ys. offered s (flat_map f ys)) (drop_next xs i d within)
    ∙ sym (offered_twice s (f (get_or xs i d)) (flat_map f (drop (i + 1) xs)))

-- what a link is due, one by one
pub due_offered : (s : Sweeping) (f : Due → Owed) (due : ℕ → Option Due) (n i : ℕ) → i < n
    → offered s (map f (filter_map due (range_with_len i (n - i))))
    ≡ offered (offered s (map f (if_any (due i)))) (map f (filter_map due (range_with_len (i + 1) (n - (i + 1)))))
due_offered s f due n i within =
    ap (λ xs. offered s (map f (filter_map due xs))) (range_next i n i within)
    ∙ by (due i) (filter_map due (range_with_len (i + 1) (n - (i + 1))))
  where
    by : (o : Option Due) (rest : List Due) → offered s (map f (cons_option o rest))
        ≡ offered (offered s (map f (if_any o))) (map f rest)
    by None rest = refl
    by (Some x) rest = refl

-- an operator in the list of a station's is one of the tree
pub operator_at : (h : Hierarchy) → IsTree h → (number : ℕ) (xs : List ℕ) (i d : ℕ) → xs ≡ operators_of h number
    → i < length xs → IsBetween 1 (operator_count h) (get_or xs i d)
operator_at h tree number xs i d is within =
    let ours = operator_ours h number (get_or (operators_of h number) i d)
    (in_at (operators_of h number) i d (subst (λ ys. i < length ys) is within)) in
    let there = number_within h.homes (get_or (operators_of h number) i d) number ours in
    subst (λ ys. IsBetween 1 (operator_count h) (get_or ys i d)) (sym is)
    (record { least = there.least; most = omega (arith, there.most, tree.lawful.operators.rows) })

-- a domain that is kept is one of the tree
pub keeper_within : (h : Hierarchy) → IsTree h → (number d : ℕ) → is_keeper h number d ≡ true
    → IsBetween 1 (domain_count h) d
keeper_within h tree number d is = (kept_there h tree number d is).0

-- What a sweep sends, and where the next begins.

-- what is due from a place on
abbrev pub due_from : ResendCursor → List Owed → List Owed
due_from p xs = filter (λ (x : Owed). not (is_before x.place p)) xs

abbrev sends : Out → List Owed → Out
sends out xs = record out { datagrams = sent_after out.datagrams (map (λ (x : Owed). x.message) xs) }

pub record Swept (h : Hierarchy) (last : ResendCursor) (before : Out) (sent : List Owed) (room : ℕ) (after : Sweeping)
    : Type 0 where
  pub out : after.out ≡ sends before sent
  pub place : place_after h after.sweep ≡ place_behind h last room sent

no_room : (h : Hierarchy) (p last : ResendCursor) (out : Out) (xs : List Owed)
    → offered (sweeping (record { from = p; last = last; room = 0 }) out) xs
    ≡ sweeping (record { from = p; last = last; room = 0 }) out
no_room h p last out [] = refl
no_room h p last out (x ∷ xs) = no_room h p last out xs

pub sweeps : (h : Hierarchy) (p last : ResendCursor) (room : ℕ) (out : Out) (xs : List Owed)
    → Swept h last out (take room (due_from p xs)) room
    (offered (sweeping (record { from = p; last = last; room = room }) out) xs)
sweeps h p last zero out xs = record {
  out = ap (λ (s : Sweeping). s.out) (no_room h p last out xs);
  place = ap (λ (s : Sweeping). place_after h s.sweep) (no_room h p last out xs);
}
sweeps h p last (suc k) out [] = record { out = refl; place = refl }
sweeps h p last (suc k) out (x ∷ xs) = by (is_before x.place p) refl (λ l r o. sweeps h p l r o xs)
  where
    positive : (k : ℕ) → (suc k == 0) ≡ false
    positive k = grind (arith, nat_tests)

    one_less : (k : ℕ) → suc k - 1 ≡ k
    one_less k = omega arith

    by : (b : Bool) → is_before x.place p ≡ b → ((l : ResendCursor) (r : ℕ) (o : Out)
        → Swept h l o (take r (due_from p xs)) r (offered (sweeping (record { from = p; last = l; room = r }) o) xs))
        → Swept h last out (take (suc k) (if not b then x ∷ due_from p xs else due_from p xs)) (suc k)
        (offered (if not (suc k == 0) && not b then sweeping (record { from = p; last = x.place; room = suc k - 1 })
        (record out { datagrams = sent_after out.datagrams (x.message ∷ []) })
        else sweeping (record { from = p; last = last; room = suc k }) out) xs)
    by true is rest = rw (positive k) (rest last (suc k) out)
    by false is rest =
        let r = rest x.place k (record out { datagrams = sent_after out.datagrams (x.message ∷ []) }) in
        rw (positive k, one_less k)
        (record {
          out = r.out;
          place = r.place ∙ ap (λ n. place_behind h x.place n (take k (due_from p xs)))
              (sym (one_less k));
        })
