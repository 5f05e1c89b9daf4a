-- Which commands a link waits for.
use Rattle.std.proofs.Common.{ℕ, zero, suc, ◌≡◌, ◌≤◌, ◌<◌, ◌+◌, ◌-◌, List, [], ◌∷◌, ◌++◌, length, drop, Some, None}
use Rattle.std.proofs.Common.{◌⊎◌, inl, inr, refl, sym, ap, ◌∙◌, arith, length-append, length-drop}
use Rattle.std.specs.Prelude.{slice_get, option_map, Option, ◌==◌}
use Rattle.std.proofs.lemmas.Option.{cond_some, slice_get_within}
use Rattle.smi_grant.specs.declared.command.Command.{Command}
use Rattle.smi_command.specs.KnownGrant.{Waits}
use Rattle.smi_command.specs.declared.link.Link.{Link}
use Rattle.smi_command.specs.declared.link.Link.TheVariants.{Out, Taking, Held, Dropping}
use Rattle.smi_command.specs.declared.link.Due.TheVariants.{Take, Drop, Run}
use Rattle.smi_command.specs.Link.{due_of}
use Rattle.smi_command.specs.Pending.{base_of}

pub at_append : (xs : List Command) (i : ℕ) (c d : Command) → slice_get xs i ≡ Some c
    → slice_get (xs ++ d ∷ []) i ≡ Some c
at_append [] i c d e = absurd cc
at_append (x ∷ xs) zero c d e = e
at_append (x ∷ xs) (suc i) c d e = at_append xs i c d e

-- what is in a list with one more is the one more, or was there
pub from_append : (xs : List Command) (i : ℕ) (c d : Command) → slice_get (xs ++ d ∷ []) i ≡ Some c
    → (slice_get xs i ≡ Some c) ⊎ ((i ≡ length xs) × (d ≡ c))
from_append [] zero c d e = inr (refl, cc)
from_append [] (suc i) c d e = absurd cc
from_append (x ∷ xs) zero c d e = inl e
from_append (x ∷ xs) (suc i) c d e = elim (from_append xs i c d e) [ inl a ↦ inl a | inr b ↦ inr (ap suc b.0, b.1) ]

pub at_drop : (k : ℕ) (xs : List Command) (i : ℕ) → slice_get (drop k xs) i ≡ slice_get xs (k + i)
at_drop zero xs i = ap (slice_get xs) (omega arith)
at_drop (suc k) [] i = refl
at_drop (suc k) (x ∷ xs) i =
    let next : suc k + i ≡ suc (k + i) = omega arith in
    at_drop k xs i ∙ ap (slice_get (x ∷ xs)) (sym next)

-- what is due at a place of pending commands
run_due : (o : Option Command) (f g e n : ℕ) (c : Command) → option_map (λ k. Run f g k) o ≡ Some (Run e n c)
    → (o ≡ Some c) × (f ≡ e) × (n ≡ g)
run_due None f g e n c d = absurd cc
run_due (Some k) f g e n c d = (let same : k ≡ c = cc in ap Some same, cc, cc)

-- the link waits for each command that it is due
pub due_waits : (l : Link) (i e n : ℕ) (c : Command) → due_of l i ≡ Some (Run e n c) → Waits l e n c
due_waits (Out k) i e n c d = absurd cc
due_waits (Taking s) i e n c d = let other : Take s ≡ Run e n c = (cond_some (i == 0) (Take s) (Run e n c) d).1 in
    absurd cc
due_waits (Held f m p) i e n c d =
    let parts = run_due (slice_get p i) f (base_of m p + 1 + i) e n c d in
    record { newest = m; pending = p; at = i; is = ap (λ z. Held z m p) parts.1; command = parts.0; counts = parts.2 }
due_waits (Dropping f) i e n c d = let other : Drop f ≡ Run e n c = (cond_some (i == 0) (Drop f) (Run e n c) d).1 in
    absurd cc

-- a take or a drop is due of a link that takes or drops
pub due_take : (l : Link) (i s : ℕ) → due_of l i ≡ Some (Take s) → l ≡ Taking s
due_take (Out k) i s d = absurd cc
due_take (Taking u) i s d = let same : Take u ≡ Take s = (cond_some (i == 0) (Take u) (Take s) d).1 in
    let is : u ≡ s = cc in ap Taking is
due_take (Held f m p) i s d = absurd (not_run (slice_get p i) d)
  where
    not_run : (o : Option Command) → option_map (λ k. Run f (base_of m p + 1 + i) k) o ≡ Some (Take s) → ⊥
    not_run None e = cc
    not_run (Some k) e = cc
due_take (Dropping f) i s d = let other : Drop f ≡ Take s = (cond_some (i == 0) (Drop f) (Take s) d).1 in absurd cc

pub due_drop : (l : Link) (i e : ℕ) → due_of l i ≡ Some (Drop e) → l ≡ Dropping e
due_drop (Out k) i e d = absurd cc
due_drop (Taking u) i e d = let other : Take u ≡ Drop e = (cond_some (i == 0) (Take u) (Drop e) d).1 in absurd cc
due_drop (Held f m p) i e d = absurd (not_run (slice_get p i) d)
  where
    not_run : (o : Option Command) → option_map (λ k. Run f (base_of m p + 1 + i) k) o ≡ Some (Drop e) → ⊥
    not_run None e' = cc
    not_run (Some k) e' = cc
due_drop (Dropping f) i e d = let same : Drop f ≡ Drop e = (cond_some (i == 0) (Drop f) (Drop e) d).1 in
    let is : f ≡ e = cc in ap Dropping is

-- the number of a command that waits
pub waiting_number : (e m : ℕ) (p : List Command) (f n : ℕ) (c : Command) → length p ≤ m → Waits (Held e m p) f n c
    → (base_of m p < n) × (n ≤ m)
waiting_number e m p f n c counted w =
    let newest : m ≡ w.newest = cc in
    let pending : p ≡ w.pending = cc in
    let within : w.at < length w.pending = slice_get_within w.pending w.at c w.command in
    let same : length p ≡ length w.pending = ap length pending in
    (omega (arith, w.counts), omega (arith, w.counts))

-- one more command is pending
pub waits_more : (e m : ℕ) (p : List Command) (d : Command) (f n : ℕ) (c : Command) → Waits (Held e m p) f n c
    → Waits (Held e (m + 1) (p ++ d ∷ [])) f n c
waits_more e m p d f n c w =
    let epoch : e ≡ f = cc in
    let newest : m ≡ w.newest = cc in
    let pending : p ≡ w.pending = cc in
    let more : length (p ++ d ∷ []) ≡ length p + 1 = length-append p (d ∷ []) in
    let same : length p ≡ length w.pending = ap length pending in
    record {
      newest = m + 1;
      pending = p ++ d ∷ [];
      at = w.at;
      is = ap (λ z. Held z (m + 1) (p ++ d ∷ [])) epoch;
      command = at_append p w.at c d (ap (λ xs. slice_get xs w.at) pending ∙ w.command);
      counts = omega (arith, w.counts);
    }

-- what waits then waited before, or is that one
pub waited_or_new : (e m : ℕ) (p : List Command) (d : Command) (f n : ℕ) (c : Command) → length p ≤ m
    → Waits (Held e (m + 1) (p ++ d ∷ [])) f n c → Waits (Held e m p) f n c ⊎ ((e ≡ f) × (n ≡ m + 1) × (d ≡ c))
waited_or_new e m p d f n c counted w =
    let epoch : e ≡ f = cc in
    let newest : m + 1 ≡ w.newest = cc in
    let pending : p ++ d ∷ [] ≡ w.pending = cc in
    let more : length (p ++ d ∷ []) ≡ length p + 1 = length-append p (d ∷ []) in
    let same : length (p ++ d ∷ []) ≡ length w.pending = ap length pending in
    elim (from_append p w.at c d (ap (λ xs. slice_get xs w.at) pending ∙ w.command)) [
      | inl old ↦ inl
          (record {
            newest = m;
            pending = p;
            at = w.at;
            is = ap (λ z. Held z m p) epoch;
            command = old;
            counts = omega (arith, w.counts);
          })
      | inr new ↦ inr (epoch, omega (arith, w.counts, new.0), new.1)
    ]

-- the oldest are no longer pending: what waited is one of these, or waits still
pub waits_less : (e m k : ℕ) (p : List Command) (f n : ℕ) (c : Command) → length p ≤ m → k ≤ length p
    → Waits (Held e m p) f n c → (n ≤ base_of m p + k) ⊎ Waits (Held e m (drop k p)) f n c
waits_less e m k p f n c counted few w =
    let epoch : e ≡ f = cc in
    let newest : m ≡ w.newest = cc in
    let pending : p ≡ w.pending = cc in
    let same : length p ≡ length w.pending = ap length pending in
    let less : length (drop k p) ≡ length p - k = length-drop k p in
    elim (before w.at k) [
      | inl low ↦ inl (omega (arith, w.counts))
      | inr high ↦ inr (record {
        newest = m;
        pending = drop k p;
        at = w.at - k;
        is = ap (λ z. Held z m (drop k p)) epoch;
        command = at_drop k p (w.at - k) ∙ ap (slice_get p) (back w.at k high) ∙ ap (λ xs. slice_get xs w.at) pending
            ∙ w.command;
        counts = omega (arith, w.counts);
      })
    ]
  where
    before : (i j : ℕ) → (i < j) ⊎ (j ≤ i)
    before i j = grind arith

    back : (i j : ℕ) → j ≤ i → j + (i - j) ≡ i
    back i j h = omega arith

-- what still waits has waited
pub waited : (e m k : ℕ) (p : List Command) (f n : ℕ) (c : Command) → length p ≤ m → k ≤ length p
    → Waits (Held e m (drop k p)) f n c → Waits (Held e m p) f n c
waited e m k p f n c counted few w =
    let epoch : e ≡ f = cc in
    let newest : m ≡ w.newest = cc in
    let pending : drop k p ≡ w.pending = cc in
    let same : length (drop k p) ≡ length w.pending = ap length pending in
    let less : length (drop k p) ≡ length p - k = length-drop k p in
    record {
      newest = m;
      pending = p;
      at = k + w.at;
      is = ap (λ z. Held z m p) epoch;
      command = sym (at_drop k p w.at) ∙ ap (λ xs. slice_get xs w.at) pending ∙ w.command;
      counts = omega (arith, w.counts);
    }

-- if nothing is pending nothing waits
pub none_waits : (e m f n : ℕ) (c : Command) → Waits (Held e m []) f n c → ⊥
none_waits e m f n c w =
    let is = w.is in
    let none : [] ≡ w.pending = cc in
    nothing w.at (ap (λ xs. slice_get xs w.at) none ∙ w.command)
  where
    nothing : (i : ℕ) → slice_get [] i ≡ Some c → ⊥
    nothing i e' = cc
