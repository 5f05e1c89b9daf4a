-- States that pass and are shown, and starts.
use Rattle.std.proofs.Common.{ℕ, ◌≡◌, Bool, true, false, List, ◌∷◌, inl, inr, refl, sym, ap, ◌∙◌, subst, arith}
use Rattle.std.specs.Prelude.{◌==◌, ◌&&◌, ◌||◌, if◌then◌else◌, Option, Some, None}
use Rattle.std.proofs.lemmas.Bool.{and_parts, eqb-true}
use Rattle.std.proofs.lemmas.Bool.Decides.{nat_tests}
use Rattle.smi_grant.specs.declared.Shown.{Shown}
use Rattle.smi_grant.specs.declared.Version.{Version}
use Rattle.smi_view.specs.Accepting.{is_newer}
use Rattle.smi_law.specs.Safe.{IsNewer, IsNotOlder, NotOlderThanShown, StateFits}
use Rattle.smi_law.specs.Trace.{Stands}
use Rattle.smi_audit.specs.declared.last_shown.LastShown.{LastShown}
use Rattle.smi_audit.specs.Tables.{is_not_older, comes_next, same_shown, has_passed, passes_next}
use Rattle.smi_audit.specs.Described.{HasPassed, AtLeast, Above, IsLastShown}
use Rattle.smi_protocol.specs.declared.Entry.{Entry}
use Rattle.smi_protocol.specs.declared.Entry.TheVariants.{Booted, Showed, Passed}

-- Versions.

pub newer_again : (a b c : Version) → IsNewer a b → IsNewer b c → IsNewer a c
newer_again a b c i j = grind (arith, nat_tests)

newer_than_least : (a b c : Version) → IsNewer a b → IsNotOlder b c → IsNewer a c
newer_than_least a b c i (inl j) = newer_again a b c i j
newer_than_least a b c i (inr j) = subst (λ z. IsNewer a z) j i

least_again : (a b c : Version) → IsNotOlder a b → IsNotOlder b c → IsNotOlder a c
least_again a b c (inl i) j = inl (newer_than_least a b c i j)
least_again a b c (inr i) j = subst (λ z. IsNotOlder z c) (sym i) j

same_version : (a b : Version) → a.boot ≡ b.boot → a.sequence ≡ b.sequence → a ≡ b
same_version a b i j =
    let m : Version → Version = λ z. z in
    ap (λ n. record a { boot = n }) i ∙ ap (λ n. record b { sequence = n }) j

not_older : (a b : Version) → is_not_older a b ≡ true → IsNotOlder a b
not_older a b t = by (is_newer a b) refl t
  where
    by : (n : Bool) → is_newer a b ≡ n → (if n then true else (a.boot == b.boot && a.sequence == b.sequence)) ≡ true
        → IsNotOlder a b
    by true is u = inl is
    by false is u = let p = and_parts (a.boot == b.boot) _ u in
        inr (same_version a b (eqb-true a.boot b.boot p.0) (eqb-true a.sequence b.sequence p.1))

pub same_seen : (a b : Shown) → same_shown a b ≡ true → a ≡ b
same_seen a b t =
    let p = and_parts (a.object == b.object) _ t in
    let q = and_parts (a.version.boot == b.version.boot) _ p.1 in
    let r = and_parts (a.version.sequence == b.version.sequence) _ q.1 in
    ap (λ n. record a { object = n }) (eqb-true a.object b.object p.0)
    ∙ ap (λ n. record { object = b.object; version = n; state = a.state })
    (same_version a.version b.version (eqb-true _ _ q.0) (eqb-true _ _ r.0))
    ∙ ap (λ n. record b { state = n }) (eqb-true a.state b.state r.1)

-- An object passes a state.

module _ (past : List Entry) (z : Shown) (passed : List Shown) (h : HasPassed past z.object passed)
    (next : passes_next passed z.version ≡ true) where
  pub passing_fits : StateFits (Passed z) past
  passing_fits u q a = h.newest z.version u q next a

  pub passed_now : HasPassed (Passed z ∷ past) z.object (z ∷ passed)
  passed_now = record { stood = stood_now; newest = newest_now }
    where
      stood_now : (y : Shown) → has_passed (z ∷ passed) y ≡ true → Stands (Passed y) (Passed z ∷ past)
      stood_now y t = by (same_shown z y) refl t
        where
          by : (b : Bool) → same_shown z y ≡ b → (b || has_passed passed y) ≡ true
              → Stands (Passed y) (Passed z ∷ past)
          by true is u = inl (ap Passed (sym (same_seen z y is)))
          by false is u = inr (h.stood y u)

      newest_now : (v u : Version) (q : ℕ) → is_newer v z.version ≡ true
          → Stands (Passed (record { object = z.object; version = u; state = q })) (Passed z ∷ past) → IsNewer v u
      newest_now v u q t (inl same) =
          let i : record { object = z.object; version = u; state = q } ≡ z = cc in
          subst (λ w. IsNewer v w) (ap (λ (w : Shown). w.version) (sym i)) t
      newest_now v u q t (inr a) = newer_again v z.version u t (h.newest z.version u q next a)

-- A station is shown a state.

module _ (past : List Entry) (s : ℕ) (z : Shown) (g : LastShown) (h : IsLastShown past s z.object g)
    (next : comes_next g z.version ≡ true) where
  least : AtLeast g.last z.version
  least = by g.last next
    where
      chosen : (l v : Version) (b : Bool) → (if b then is_newer v l else is_not_older v l) ≡ true → IsNotOlder v l
      chosen l v true t = inl t
      chosen l v false t = not_older v l t

      by : (o : Option Version) → comes_next (record { last = o; since = g.since }) z.version ≡ true
          → AtLeast o z.version
      by None t = tt
      by (Some l) t = chosen l z.version g.since t

  above : g.since ≡ true → Above g.last z.version
  above is = by g.last (subst (λ b. comes_next (record { last = g.last; since = b }) z.version ≡ true) is next)
    where
      by : (o : Option Version) → comes_next (record { last = o; since = true }) z.version ≡ true → Above o z.version
      by None t = tt
      by (Some l) t = t

  pub showing_fits : Stands (Passed z) past → StateFits (Showed s z) past
  showing_fits stood = (stood, h.older z.version least, h.newer z.version above)

  above_least : (v : Version) (o : Option Version) → IsNewer v z.version → AtLeast o z.version → Above o v
  above_least v None i a = tt
  above_least v (Some l) i a = newer_than_least v z.version l i a

  pub shown_now : IsLastShown (Showed s z ∷ past) s z.object (record { last = Some z.version; since = true })
  shown_now = record {
    older = older_now;
    newer = λ v up. (λ i j. up refl, h.newer v (λ since. above_least v g.last (up refl) least));
  }
    where
      older_now : (v : Version) → IsNotOlder v z.version → NotOlderThanShown s z.object v (Showed s z ∷ past)
      older_now v i u q (inl same) =
          let j : record { object = z.object; version = u; state = q } ≡ z = cc in
          subst (λ w. IsNotOlder v w) (ap (λ (w : Shown). w.version) (sym j)) i
      older_now v i u q (inr a) = least_again v z.version u i (h.older z.version least u q a)

-- A station starts.

pub started_now : (past : List Entry) (s x b : ℕ) (g : LastShown) → IsLastShown past s x g
    → IsLastShown (Booted s b ∷ past) s x (record { last = g.last; since = false })
started_now past s x b g h = record { older = older_now; newer = λ v up. inl refl }
  where
    older_now : (v : Version) → AtLeast g.last v → NotOlderThanShown s x v (Booted s b ∷ past)
    older_now v i u q (inl same) = absurd cc
    older_now v i u q (inr a) = h.older v i u q a
