use Rattle.std.proofs.Common.{◌∷◌, [], length, ap, ◌∙◌, arith, length-append}
use Rattle.std.proofs.lemmas.List.{length-drop}
use Rattle.smi_rows.proofs.Cutting.{one-more, none-more, rest-is}
use Rattle.smi_rows.proofs.places.with_commands.Goals as goal

pub returns-in_err-command_at : goal.returns-in_err-command_at
returns-in_err-command_at c =
    c.from_residual.ensures ∙ none-more c.loop-i.pending c.args.others c.loop-i.i c.loop-i.rest.now (omega arith)
    c.in_err-command_at.ensures ∙ c.loop-i.invariant.same

pub loop-i-preserved : goal.loop-i-preserved
loop-i-preserved c = record {
  same = one-more c.loop-i.pending c.push.new.self c.args.others c.loop-i.i c.loop-i.rest.now
      c.in_ok-command_at.field-0 (omega arith) c.push.ensures c.in_ok-command_at.ensures ∙ c.loop-i.invariant.same;
  long = let r = ap length (rest-is 4 c.loop-i.rest.now) in
      omega (arith, r, length-drop 4 c.loop-i.rest.now, c.loop-i.invariant.long);
  few = let l = ap length c.push.ensures ∙ length-append c.loop-i.pending (c.in_ok-command_at.field-0 ∷ []) in
      omega (arith, c.loop-i.invariant.few);
}
