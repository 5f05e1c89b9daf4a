use Rattle.std.proofs.Common.{◌≡◌, Bool, true, false, refl, arith, sym, length}
use Rattle.std.proofs.lemmas.List.Sums.{position_or_len_is}
use Rattle.std.specs.List.{slice_index}
use Rattle.smi_tree.specs.Text.{is_line_feed}
use Rattle.smi_tree.proofs.text.length_of_line.Goals as goal

fails : (b : Bool) → ¬ (b ≡ true) → b ≡ false
fails true never = absurd (never refl)
fails false never = refl

pub returns-in-Some-clause-place : goal.returns-in-Some-clause-place
returns-in-Some-clause-place c =
    let text = c.args.text.now in
    let place = c.in-Some.place in
    sym (position_or_len_is is_line_feed text place 0 (omega (arith, c.in-Some.ensures.0.high))
    (λ k before. fails (is_line_feed (slice_index text k)) (c.in-Some.ensures.0.before k (omega arith) before))
    (λ _. c.in-Some.ensures.1))

pub returns-in-None-clause-place : goal.returns-in-None-clause-place
returns-in-None-clause-place c =
    let text = c.args.text.now in
    sym (position_or_len_is is_line_feed text (length text) 0 (omega arith)
    (λ k before. fails (is_line_feed (slice_index text k)) (c.in-None.ensures k (omega arith) before))
    (λ within. absurd (omega arith)))
