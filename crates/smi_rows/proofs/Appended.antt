-- What is written after what is written.
use Rattle.std.proofs.Common.{◌≡◌, ℕ, ◌-◌, ◌≤◌, List, [], ◌∷◌, ◌++◌, length, take, drop, get_or, Result, Ok, Err}
use Rattle.std.proofs.Common.{OnOk, refl, sym, ap, ◌∙◌, append_assoc, arith}
use Rattle.std.proofs.lemmas.List.{take_all}
use Rattle.std.specs.Int.{w16, to_be_bytes}
use Rattle.smi_grant.specs.declared.Command.{Command}
use Rattle.smi_grant.specs.declared.Command.TheVariants.{Do}
use Rattle.smi_command.specs.declared.Link.TheVariants.{Held}
use Rattle.smi_rows.specs.declared.mode.Mode.{Mode}
use Rattle.smi_rows.specs.declared.row.StoredLink.{StoredLink}
use Rattle.smi_rows.specs.Layout.{front_bytes, grant_bytes, command_bytes, commands_bytes, link_bytes, links_bytes}

pub commands-append : (a b : List Command) → commands_bytes (a ++ b) ≡ commands_bytes a ++ commands_bytes b
commands-append [] b = refl
commands-append (c ∷ a) b = ap (λ more. command_bytes c ++ more) (commands-append a b)
    ∙ sym (append_assoc (command_bytes c) (commands_bytes a) (commands_bytes b))

pub links-append : (a b : List StoredLink) → links_bytes (a ++ b) ≡ links_bytes a ++ links_bytes b
links-append [] b = refl
links-append (x ∷ a) b = ap (λ more. link_bytes x ++ more) (links-append a b)
    ∙ sym (append_assoc (link_bytes x) (links_bytes a) (links_bytes b))

pub on_ok : {A E X Y : Type 0} (r : Result A E) → OnOk r X → (X → Y) → OnOk r Y
on_ok (Ok a) h next = next h
on_ok (Err e) h next = tt

-- a link with several commands, piece by piece
pub several-bytes : (old front oldest counted all : List ℕ) (d : ℕ) (m : Mode) (e n : ℕ) (p q : List Command) → q ≡ p
    → 2 ≤ length q →
    front ≡ old ++ front_bytes d 5 m e n → oldest ≡ front ++ command_bytes (get_or q 0 (Do 0)) →
    counted ≡ oldest ++ to_be_bytes w16 (length p - 1)
    → all ≡ counted ++ commands_bytes (take (length q - 1) (drop 1 q)) → all ≡ old ++ grant_bytes d m (Held e n p)
several-bytes old front oldest counted all d m e n p q same two f o c a =
    by_cases p (omega (arith, ap length same)) (rw same at o) c (rw same at a)
  where
    by_cases : (p : List Command) → 2 ≤ length p → oldest ≡ front ++ command_bytes (get_or p 0 (Do 0)) →
        counted ≡ oldest ++ to_be_bytes w16 (length p - 1)
        → all ≡ counted ++ commands_bytes (take (length p - 1) (drop 1 p)) → all ≡ old ++ grant_bytes d m (Held e n p)
    by_cases [] l o c a = absurd (omega arith)
    by_cases (x ∷ []) l o c a = absurd (omega arith)
    by_cases (x ∷ next ∷ more) l o c a =
        let k : length (x ∷ next ∷ more) - 1 ≡ length (next ∷ more) = omega arith in
        let c' : counted ≡ oldest ++ to_be_bytes w16 (length (next ∷ more)) = c
        ∙ ap (λ i. oldest ++ to_be_bytes w16 i) k in
        let a' : all ≡ counted ++ commands_bytes (next ∷ more) = a
        ∙ ap (λ ys. counted ++ commands_bytes ys) (take_all (length (x ∷ next ∷ more) - 1) (next ∷ more)
        (omega arith)) in
        rw (a', c', o, f) (simp append_assoc)

-- four pieces, one after the other
pub four-appended : (old first second third all a b c d : List ℕ) → first ≡ old ++ a → second ≡ first ++ b
    → third ≡ second ++ c → all ≡ third ++ d → all ≡ old ++ (a ++ b ++ c ++ d)
four-appended old first second third all a b c d f s t e = rw (e, t, s, f) (simp append_assoc)
