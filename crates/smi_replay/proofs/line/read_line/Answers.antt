use Rattle.std.proofs.Common.{◌≡◌, ◌++◌, ℕ, List, Some, subst, ◌∙◌}
use Rattle.std.proofs.lemmas.Slice.Eq.{strip_prefix_is}
use Rattle.std.proofs.lemmas.Bool.Decides.{Decides-eqb}
use Rattle.smi_replay.specs.JournalText.{IsLine, IsSaid}
use Rattle.smi_replay.proofs.line.read_line.Goals as goal

pub returns : goal.returns
returns c =
    let line = c.args.line.now in
    let text = c.as_slice.result.now in
    let words = c.in-Some-strip_prefix.words.now in
    let cut : line ≡ text ++ words =
    strip_prefix_is Decides-eqb line text (Some c.in-Some-strip_prefix.words)
    c.in-Some-strip_prefix.ensures.cases in
    record {
      time = c.in-Some.time.now;
      words = words;
      whole = subst (λ (t : List ℕ). line ≡ t ++ words) (c.as_slice.ensures.value ∙ c.in_ok-write_head.ensures) cut;
      said = c.in_ok-says.ensures;
    }
