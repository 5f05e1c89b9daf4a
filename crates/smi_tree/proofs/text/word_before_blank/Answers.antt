use Rattle.std.proofs.Common.{arith, sym}
use Rattle.std.proofs.lemmas.List.Sums.{position_or_len_is}
use Rattle.smi_tree.specs.Text.{cuts}
use Rattle.smi_tree.specs.declared.text.Separator.TheVariants.{Blank}
use Rattle.smi_tree.proofs.text.word_before_blank.Goals as goal

pub returns-then-is_at-clause-place : goal.returns-then-is_at-clause-place
returns-then-is_at-clause-place c =
    sym (position_or_len_is (cuts Blank) c.args.text.now c.loop-place.place 0 (omega arith)
    c.loop-place.invariant.free (λ _. cc))

pub returns-clause-place : goal.returns-clause-place
returns-clause-place c =
    sym (position_or_len_is (cuts Blank) c.args.text.now _ 0 (omega arith)
    (λ k h. c.loop-place.invariant.free k (omega arith)) (λ h. absurd (omega arith)))
