-- Turns of a screen, put together.
use Rattle.std.proofs.Common.{◌≡◌, ◌+◌, ◌<◌, ℕ, List, [], ◌∷◌, ◌++◌, length, Some, None, Err, false, sym, subst, arith}
use Rattle.smi_screen.specs.Looking.{Deed, Looks, Stepping, View}
use Rattle.smi_screen.specs.Turning.{LooksFor, MakesAll, MakesTurns}
use Rattle.smi_screen.specs.declared.screen.Ended.{Ended}

-- one more, in which the link is asked
pub one_more : {T : Type 0} (S : Stepping T) (operator count : ℕ) (a b c : View T) (done : List (List (Deed × ℕ)))
    → length done ≡ count → MakesTurns S operator done a b → Looks S operator b c false
    → b.link.receives < c.link.receives
    → (turns : List (List (Deed × ℕ))) × (length turns ≡ count + 1) × MakesTurns S operator turns a c
one_more S operator count a b c done is made looks asks =
    let more : length (looks.0 ∷ done) ≡ count + 1 = grind (arith, is) in
    (looks.0 ∷ done, more, (b, made, looks.1, asks))

turns_both : {T : Type 0} (S : Stepping T) (operator : ℕ) (later sooner : List (List (Deed × ℕ))) (a b c : View T)
    → MakesTurns S operator sooner a b → MakesTurns S operator later b c → MakesTurns S operator (later ++ sooner) a c
turns_both S operator [] sooner a b c first last = subst (λ x. MakesTurns S operator sooner a x) (sym last) first
turns_both S operator (turn ∷ later) sooner a b c first last =
    (last.0, turns_both S operator later sooner a b last.0 first last.1, last.2, last.3)

-- some turns, and then all of a number, in the same name
pub all_after : {T : Type 0} (S : Stepping T) (operator operator' count : ℕ) (a b c : View T) → operator' ≡ operator
    → ((done : List (List (Deed × ℕ))) × MakesTurns S operator done a b) → MakesAll S operator' (Some count) b c
    → (turns : List (List (Deed × ℕ))) × MakesTurns S operator turns a c
all_after S operator operator' count a b c same first all = (
  all.0 ++ first.0,
  turns_both S operator all.0 first.0 a b c first.1
      (subst (λ o. MakesTurns S o all.0 b c) same all.2),
)

-- some turns, and then some of a number, the last of which ends with a fault
pub fault_after : {T : Type 0} (S : Stepping T) (operator operator' count : ℕ) (a b c : View T) (e : Ended)
    → operator' ≡ operator → ((done : List (List (Deed × ℕ))) × MakesTurns S operator done a b)
    → LooksFor S operator' (Some count) b c (Err e) → LooksFor S operator None a c (Err e)
fault_after S operator operator' count a b c e same first ends =
    let more : LooksFor S operator (Some count) b c (Err e)
    = subst (λ o. LooksFor S o (Some count) b c (Err e)) same ends in
    (more.0 ++ first.0, tt, more.2, turns_both S operator more.0 first.0 a b more.2 first.1 more.3, more.4)
