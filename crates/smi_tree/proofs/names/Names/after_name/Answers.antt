use Rattle.std.proofs.Common.{◌≡◌, ℕ, List, Option, Some, None, IfSome, ◌∷◌, ◌++◌, ◌∙◌, ap, sym}
use Rattle.smi_tree.specs.Hierarchy.{entry}
use Rattle.smi_tree.specs.Name.{is_name}
use Rattle.smi_tree.specs.Text.{words}
use Rattle.smi_tree.proofs.FrontWords.{words-after_name}
use Rattle.smi_tree.proofs.NamedLemmas.{entry-all}
use Rattle.smi_tree.proofs.names.Names.after_name.Goals as goal

if-some : {X : Type 0} (r : Option X) (P Q : X → Type 0) → IfSome r P → ((x : X) → P x → Q x) → IfSome r Q
if-some (Some x) P Q h f = f x h
if-some None P Q h f = tt

pub returns : goal.returns
returns c =
    let name = c.in_ok-name.name.now in
    let number = c.args.number in
    let at : entry c.self.inside.names.keys number ≡ Some name =
    ap (λ (names : List (List ℕ)). entry names number) (sym c.as_slice.ensures.keys) ∙ sym c.in_ok-name.ensures.row
    in
    let good = entry-all is_name c.self.inside.names.keys number name c.self.invariant.2 at in
    if-some c.after_word.result _ _ c.after_word.ensures (λ rest is. (
      name,
      good,
      rw (← c.self.view_is) (c.self.invariant.1 number name at),
      ap words (is ∙ ap (λ (n : List ℕ). n ++ 32 ∷ rest.now) c.text.ensures) ∙ words-after_name name rest.now good,
    ))
