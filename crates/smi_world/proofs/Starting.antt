-- The lines of a start, one after the other.
use Rattle.std.proofs.Common.{ℕ, suc, ◌≡◌, ◌<◌, ◌+◌, ◌-◌, List, ◌++◌, Option, Some, None, map, refl, sym, ap, ◌∙◌}
use Rattle.std.proofs.Common.{append_assoc, arith}
use Rattle.std.specs.List.{cons_option, filter_map, range_with_len}
use Rattle.smi_grant.specs.declared.Shown.{Shown}
use Rattle.smi_protocol.specs.declared.item.Line.{Line}
use Rattle.smi_protocol.specs.declared.item.Line.TheVariants as line
use Rattle.smi_protocol.specs.declared.entry.Entry.TheVariants as entry
use Rattle.smi_protocol.specs.Messages.{if_any}

abbrev pub lines_of : List Shown → List Line
lines_of xs = map line.Entry (map entry.Passed xs)

next : (f : ℕ → Option Shown) (a n m : ℕ) → n ≡ suc m
    → filter_map f (range_with_len a n) ≡ cons_option (f a) (filter_map f (range_with_len (a + 1) m))
next f a n m e = rw e refl

more : (o : Option Shown) (xs : List Shown) → lines_of (cons_option o xs) ≡ lines_of (if_any o) ++ lines_of xs
more None xs = refl
more (Some x) xs = refl

-- one more object
pub started_on : (f : ℕ → Option Shown) (n k : ℕ) (lines new all : List Line) (o : Option Shown) → k < n
    → o ≡ f (k + 1) → new ≡ lines ++ lines_of (if_any o)
    → lines ++ lines_of (filter_map f (range_with_len (k + 1) (n - k))) ≡ all
    → new ++ lines_of (filter_map f (range_with_len (k + 1 + 1) (n - (k + 1)))) ≡ all
started_on f n k lines new all o below is grown same =
    let e : n - k ≡ suc (n - (k + 1)) = omega arith in
    let rest = filter_map f (range_with_len (k + 1 + 1) (n - (k + 1))) in
    ap (λ (xs : List Line). xs ++ lines_of rest) grown
    ∙ append_assoc lines (lines_of (if_any o)) (lines_of rest)
    ∙ ap (λ (xs : List Line). lines ++ xs) (sym (more o rest)
    ∙ ap (λ (z : Option Shown). lines_of (cons_option z rest)) is
    ∙ ap lines_of (sym (next f (k + 1) (n - k) (n - (k + 1)) e)))
    ∙ same
